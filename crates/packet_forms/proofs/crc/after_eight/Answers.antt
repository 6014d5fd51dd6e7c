use Rattle.std.proofs.Common.{◌∙◌, ap, sym, get_or, ℕ}
use Rattle.packet_forms.specs.Crc.{crc_of}
use Rattle.packet_forms.proofs.Checks.{eight_bytes, eight}
use Rattle.packet_forms.proofs.crc.after_eight.Goals as goal

pub returns : goal.returns
returns c =
    let at : ℕ → ℕ = λ i. get_or c.args.bytes.now i 0 in
    let fits = λ (i : ℕ). (c.type_inv.bytes i).fits in
    rw (c.entry.ensures, c.entry-2.ensures, c.entry-3.ensures, c.entry-4.ensures, c.entry-5.ensures, c.entry-6.ensures, c.entry-7.ensures, c.entry-8.ensures)
    (eight_bytes c.args.crc (at 0) (at 1) (at 2) (at 3) (at 4) (at 5) (at 6) (at 7) (fits 0) (fits 1) (fits 2) (fits 3) (fits 4) (fits 5) (fits 6) (fits 7)
    ∙ ap (crc_of c.args.crc) (sym (eight c.args.bytes.now c.requires)))
