use Rattle.std.proofs.Common.{◌≡◌, ℕ, ◌+◌, ◌*◌, ◌<◌, List, [], map, get_or, refl, ap, ◌∙◌, arith, Fits, w8}
use Rattle.std.specs.List.{range_with_len}
use Rattle.std.proofs.lemmas.List.FromFn.{get_or-map-range_with_len}
use Rattle.packet_forms.specs.Crc.{crc_bit, after_zeros}
use Rattle.packet_forms.specs.declared.crc_rows.TheConstants.{ROWS}
use Rattle.packet_forms.proofs.crc.entry.Goals as goal

row : ℕ → List ℕ
row k = map (after_zeros (8 * (k + 1))) (range_with_len 0 256)

rows_are : ROWS ≡ map row (range_with_len 0 8)
unfolding after_zeros crc_bit row
rows_are = refl

byte_fits : (b : ℕ) → Fits w8 b → b < 256
byte_fits b h = h.fits

pub returns : goal.returns
unfolding row
returns c =
    ap (λ (rows : List (List ℕ)). get_or (get_or rows c.args.k []) c.args.byte 0) rows_are
    ∙ ap (λ (entries : List ℕ). get_or entries c.args.byte 0) (get_or-map-range_with_len row 0 8 c.args.k c.args.k [] c.requires (omega arith))
    ∙ get_or-map-range_with_len (after_zeros (8 * (c.args.k + 1))) 0 256 c.args.byte c.args.byte 0 (byte_fits c.args.byte c.ranges.byte) (omega arith)
