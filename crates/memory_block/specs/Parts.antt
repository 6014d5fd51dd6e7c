-- What a block ends as, once a `&mut` into it has ended.
use Rattle.std.specs.Prelude.{ℕ, List, take, drop}
use Rattle.std.specs.Borrow.{Fml, MutBor, Array, Lends, u8}
use Rattle.std.specs.List.{refill}
use Rattle.memory_block.specs.Splice.{spliced}
use Rattle.memory_block.specs.contracts.store.Store.{the_row}

-- the bytes from the place `from` on end as what was last written through the loan
abbrev pub lends_part : MutBor (List ℕ) → ℕ → ℕ → MutBor (List ℕ) → Fml
lends_part s from len r = Lends the_row (Array u8 0) s r (λ ws. spliced s.now from len (refill len (take len (drop from s.now)) ws))
