use Rattle.std.proofs.Common.{Bool, ◌<◌, ◌∷◌, [], ◌++◌, refl, arith}
use Rattle.std.specs.Prelude.{codes}
use Rattle.packet_forms.specs.Numbers.{be16_at, be32_at, be16_bytes, be32_bytes}
use Rattle.row_forms.specs.Numbers.{are_choices}
use Rattle.row_forms.specs.Rows.{is_row}
use Rattle.row_forms.specs.RowNumbers.{numbers_in}
use Rattle.row_forms.specs.Values.{can_show, is_kind}
use Rattle.row_forms.proofs.TextLemmas.{all_append}
use Rattle.telemetry.specs.Telemetry.{named}
use Rattle.telemetry.specs.Dictionary.{dictionary, hs_rows, mm_rows, md_rows, cs_rows, sc_rows, lc_rows, event_rows, row, cs_state_fields, baseline_fields}
use Rattle.telemetry_making.proofs.MakingLemmas.{shown_with, whole16, whole32, bytes16, bytes32}
use Rattle.packet_forms.specs.MessageIds.{cs_housekeeping, cs_baseline}
use Rattle.histories.proofs.Masks.{bits_small}
use Rattle.cs_slices.specs.Answers.{baseline_packet}
use Rattle.cs_slices.specs.Housekeeping.{flags_of, housekeeping_of}
use Rattle.telemetry_making.proofs.cs.cs_telemetry_is_shown.Goals as goal

flags_small : (cs eeprom memory : Bool) → flags_of cs eeprom memory < 256
unfolding flags_of
flags_small cs eeprom memory = let small = bits_small (cs ∷ eeprom ∷ memory ∷ []) in omega (arith, small)

pub returns-clause-housekeeping : goal.returns-clause-housekeeping
unfolding named dictionary hs_rows mm_rows md_rows cs_rows sc_rows lc_rows event_rows is_row can_show numbers_in be16_at be32_at be16_bytes be32_bytes is_kind are_choices housekeeping_of
returns-clause-housekeeping c counts cs eeprom memory wrong other passes small w o p time count within few =
    shown_with (codes "cs.housekeeping") (row (codes "cs.housekeeping") cs_housekeeping cs_state_fields) time count ((((counts.accepted ∷ counts.errors ∷ flags_of cs eeprom memory ∷ 0 ∷ []) ++ be16_bytes wrong) ++ be16_bytes other) ++ be32_bytes passes) _ within few record {
      found = refl;
      first = refl;
      called = refl;
      low = omega arith;
      fields = refl;
      few = omega arith;
      bytes = (small.accepted, (small.errors, (flags_small cs eeprom memory, (omega arith, all_append (λ b. b < 256) (be16_bytes wrong ++ be16_bytes other) (be32_bytes passes) (all_append (λ b. b < 256) (be16_bytes wrong) (be16_bytes other) (bytes16 wrong) (bytes16 other)) (bytes32 passes)))));
      row = refl;
      values = rw (whole32 time within, whole16 count (omega (arith, few)), whole16 wrong (omega (arith, w)), whole16 other (omega (arith, o)), whole32 passes (omega (arith, p))) refl;
    }

pub returns-clause-known : goal.returns-clause-known
unfolding named dictionary hs_rows mm_rows md_rows cs_rows sc_rows lc_rows event_rows is_row can_show numbers_in be16_at be32_at be16_bytes be32_bytes is_kind are_choices baseline_packet
returns-clause-known c table entry check t e k time count within few =
    shown_with (codes "cs.baseline") (row (codes "cs.baseline") cs_baseline baseline_fields) time count ((be16_bytes table ++ be16_bytes entry) ++ (be16_bytes 1 ++ be16_bytes check)) _ within few record {
      found = refl;
      first = refl;
      called = refl;
      low = omega arith;
      fields = refl;
      few = omega arith;
      bytes = all_append (λ b. b < 256) (be16_bytes table ++ be16_bytes entry) (be16_bytes 1 ++ be16_bytes check) (all_append (λ b. b < 256) (be16_bytes table) (be16_bytes entry) (bytes16 table) (bytes16 entry)) (all_append (λ b. b < 256) (be16_bytes 1) (be16_bytes check) (bytes16 1) (bytes16 check));
      row = refl;
      values = rw (whole32 time within, whole16 count (omega (arith, few)), whole16 table (omega (arith, t)), whole16 entry (omega (arith, e)), whole16 check (omega (arith, k))) refl;
    }

pub returns-clause-unknown : goal.returns-clause-unknown
unfolding named dictionary hs_rows mm_rows md_rows cs_rows sc_rows lc_rows event_rows is_row can_show numbers_in be16_at be32_at be16_bytes be32_bytes is_kind are_choices baseline_packet
returns-clause-unknown c table entry t e time count within few =
    shown_with (codes "cs.baseline") (row (codes "cs.baseline") cs_baseline baseline_fields) time count ((be16_bytes table ++ be16_bytes entry) ++ (be16_bytes 0 ++ be16_bytes 0)) _ within few record {
      found = refl;
      first = refl;
      called = refl;
      low = omega arith;
      fields = refl;
      few = omega arith;
      bytes = all_append (λ b. b < 256) (be16_bytes table ++ be16_bytes entry) (be16_bytes 0 ++ be16_bytes 0) (all_append (λ b. b < 256) (be16_bytes table) (be16_bytes entry) (bytes16 table) (bytes16 entry)) (all_append (λ b. b < 256) (be16_bytes 0) (be16_bytes 0) (bytes16 0) (bytes16 0));
      row = refl;
      values = rw (whole32 time within, whole16 count (omega (arith, few)), whole16 table (omega (arith, t)), whole16 entry (omega (arith, e))) refl;
    }
