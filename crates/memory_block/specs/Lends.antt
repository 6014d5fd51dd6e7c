-- What the bytes end as, once a `&mut` into them has ended.
use Rattle.std.specs.Prelude.{ℕ, List, take, drop}
use Rattle.std.specs.Borrow.{Fml, MutBor, Array, Lends, u8}
use Rattle.std.specs.List.{refill}
use Rattle.memory_block.specs.Splice.{spliced}
use Rattle.memory_block.specs.declared.block.Bytes.{Bytes}
use Rattle.memory_block.specs.contracts.block.Bytes.{the_row}

-- the owner with other bytes
abbrev pub with_items : Bytes → List ℕ → Bytes
with_items c xs = record { at = c.at; items = xs; spare = c.spare }

-- the owner's bytes from `from` on end as what was last written through the loan
abbrev pub lends_run : MutBor Bytes → ℕ → ℕ → MutBor (List ℕ) → Fml
lends_run c from len r = Lends the_row (Array u8 0) c r (λ ws. with_items c.now (spliced c.now.items from len (refill len (take len (drop from c.now.items)) ws)))
