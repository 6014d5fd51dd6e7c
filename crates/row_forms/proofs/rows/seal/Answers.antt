use Rattle.std.proofs.Common.{◌≡◌, ◌+◌, ◌++◌, ℕ, List, take, drop, length, refl, ap, ◌∙◌, arith}
use Rattle.packet_forms.specs.Crc.{crc_of}
use Rattle.packet_forms.specs.Numbers.{be16_bytes}
use Rattle.row_forms.proofs.RowLemmas.{sealed}
use Rattle.row_forms.proofs.rows.seal.Goals as goal

two_bytes : (n : ℕ) (bytes : List ℕ) → bytes ≡ be16_bytes n → length bytes ≡ 2
unfolding be16_bytes
two_bytes n bytes e = rw e refl

pub returns : goal.returns
unfolding be16_bytes
returns c =
    let items = c.args.out.now.items in
    let at = c.args.at in
    let placed = rw c.deref_mut.ensures.value at c.place.ensures in
    let behind = c.behind.ensures ∙ ap (λ (xs : List ℕ). drop (at + 2) xs) c.deref.ensures.value in
    let check = c.crc16.ensures ∙ ap (λ (xs : List ℕ). crc_of 0 xs) behind in
    sealed items c.place.new.bytes c.to_be_bytes-check.result at c.args.out.now.len (omega arith) (two_bytes c.crc16.result c.to_be_bytes-check.result c.to_be_bytes-check.ensures) (omega arith) placed
    ∙ ap (λ (xs : List ℕ). take at items ++ (xs ++ drop (at + 2) items)) (c.to_be_bytes-check.ensures ∙ ap (λ (n : ℕ). be16_bytes n) check)
