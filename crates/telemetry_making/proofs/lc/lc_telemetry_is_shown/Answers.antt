use Rattle.std.proofs.Common.{ℕ, ◌<◌, ◌/◌, ◌%◌, ◌^◌, ◌∷◌, [], ◌++◌, refl, arith}
use Rattle.std.specs.Prelude.{codes}
use Rattle.packet_forms.specs.Numbers.{be16_at, be32_at, be16_bytes, be32_bytes}
use Rattle.row_forms.specs.Numbers.{are_choices}
use Rattle.row_forms.specs.Rows.{is_row}
use Rattle.row_forms.specs.RowNumbers.{numbers_in}
use Rattle.row_forms.specs.Values.{can_show, is_kind}
use Rattle.row_forms.proofs.TextLemmas.{all_append}
use Rattle.telemetry.specs.Telemetry.{named}
use Rattle.telemetry.specs.Dictionary.{dictionary, hs_rows, mm_rows, md_rows, cs_rows, sc_rows, lc_rows, event_rows, row, lc_state_fields}
use Rattle.telemetry_making.proofs.MakingLemmas.{shown_with, whole16, whole32, bytes16, bytes32}
use Rattle.packet_forms.specs.MessageIds.{lc_housekeeping}
use Rattle.lc_watch.specs.Housekeeping.{housekeeping_of}
use Rattle.telemetry_making.proofs.lc.lc_telemetry_is_shown.Goals as goal

high : (n : ℕ) → n < 2 ^ 64 → n / 4294967296 < 4294967296
high n h = omega (arith, h)

pub returns : goal.returns
unfolding named dictionary hs_rows mm_rows md_rows cs_rows sc_rows lc_rows event_rows is_row can_show numbers_in be16_at be32_at be16_bytes be32_bytes is_kind are_choices housekeeping_of
returns c counts active fired results small a f r time count within few =
    shown_with (codes "lc.housekeeping") (row (codes "lc.housekeeping") lc_housekeeping lc_state_fields) time count (((((counts.accepted ∷ counts.errors ∷ []) ++ be16_bytes 0) ++ be16_bytes active) ++ be16_bytes fired) ++ (be32_bytes (results / 4294967296) ++ be32_bytes (results % 4294967296))) _ within few record {
      found = refl;
      first = refl;
      called = refl;
      low = omega arith;
      fields = refl;
      few = omega arith;
      bytes = (small.accepted, (small.errors, (omega arith, (omega arith, all_append (λ b. b < 256) (be16_bytes active ++ be16_bytes fired) (be32_bytes (results / 4294967296) ++ be32_bytes (results % 4294967296)) (all_append (λ b. b < 256) (be16_bytes active) (be16_bytes fired) (bytes16 active) (bytes16 fired)) (all_append (λ b. b < 256) (be32_bytes (results / 4294967296)) (be32_bytes (results % 4294967296)) (bytes32 (results / 4294967296)) (bytes32 (results % 4294967296)))))));
      row = refl;
      values = rw (whole32 time within, whole16 count (omega (arith, few)), whole16 active (omega (arith, a)), whole16 fired (omega (arith, f)), whole32 (results / 4294967296) (high results r), whole32 (results % 4294967296) (omega arith)) refl;
    }
