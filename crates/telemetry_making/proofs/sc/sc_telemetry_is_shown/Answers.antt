use Rattle.std.proofs.Common.{◌≡◌, Bool, ℕ, ◌<◌, ◌+◌, ◌*◌, ◌/◌, ◌%◌, ◌^◌, ◌∷◌, [], ◌++◌, List, length, map, drop, refl, subst, arith, length-drop}
use Rattle.std.specs.Prelude.{codes}
use Rattle.std.specs.List.{AllByRecursion}
use Rattle.packet_forms.specs.Numbers.{be16_at, be32_at, be16_bytes, be32_bytes}
use Rattle.row_forms.specs.Numbers.{are_choices}
use Rattle.row_forms.specs.Rows.{is_row}
use Rattle.row_forms.specs.RowNumbers.{numbers_in}
use Rattle.row_forms.specs.Values.{can_show, is_kind}
use Rattle.row_forms.proofs.TextLemmas.{all_append}
use Rattle.telemetry.specs.Telemetry.{named}
use Rattle.telemetry.specs.Dictionary.{dictionary, hs_rows, mm_rows, md_rows, cs_rows, sc_rows, lc_rows, event_rows, row, sc_state_fields}
use Rattle.telemetry_making.proofs.MakingLemmas.{shown_with, whole16, whole32, bytes16, bytes32}
use Rattle.std.proofs.lemmas.List.{length-map}
use Rattle.packet_forms.specs.MessageIds.{sc_housekeeping}
use Rattle.histories.specs.Masks.{bits_of}
use Rattle.histories.proofs.Masks.{bits_small}
use Rattle.sc_sequences.specs.Housekeeping.{be64_bytes, enabled_mask, housekeeping_of, left_in, report_of, running_mask, shown_ats}
use Rattle.sc_sequences.specs.Sequences.{Sequence, is_running, running_ats}
use Rattle.telemetry_making.proofs.sc.sc_telemetry_is_shown.Goals as goal

high : (n : ℕ) → n < 2 ^ 64 → n / 4294967296 < 4294967296
high n h = omega (arith, h)

-- the lower half of a number of eight bytes
low32 : (n : ℕ) → n / 16777216 % 256 * 16777216 + n / 65536 % 256 * 65536 + n / 256 % 256 * 256 + n % 256 ≡ n % 4294967296
low32 n = omega arith

bytes64 : (n : ℕ) → AllByRecursion (λ b. b < 256) (be64_bytes n)
unfolding be64_bytes
bytes64 n = all_append (λ b. b < 256) (be32_bytes (n / 4294967296)) (be32_bytes n) (bytes32 (n / 4294967296)) (bytes32 n)

told_small : (left sent wrong : ℕ) → AllByRecursion (λ b. b < 256) (((be16_bytes left ++ be16_bytes sent) ++ be16_bytes wrong) ++ be16_bytes 0)
told_small left sent wrong =
    all_append (λ b. b < 256) ((be16_bytes left ++ be16_bytes sent) ++ be16_bytes wrong) (be16_bytes 0)
    (all_append (λ b. b < 256) (be16_bytes left ++ be16_bytes sent) (be16_bytes wrong) (all_append (λ b. b < 256) (be16_bytes left) (be16_bytes sent) (bytes16 left) (bytes16 sent)) (bytes16 wrong)) (bytes16 0)

-- 64 relative sequences have a mask of 64 bits
mask_small : (is : Sequence → Bool) (all : List Sequence) → length all ≡ 66 → bits_of (map is (drop 2 all)) < 2 ^ 64
mask_small is all long =
    let many : length (map is (drop 2 all)) ≡ 64 = simp (length-map, length-drop) (omega (arith, long)) in
    subst (λ (n : ℕ). bits_of (map is (drop 2 all)) < 2 ^ n) many (bits_small (map is (drop 2 all)))

running_small : (all : List Sequence) → length all ≡ 66 → running_mask all < 2 ^ 64
unfolding running_mask
running_small all long = mask_small is_running all long

enabled_small : (all : List Sequence) → length all ≡ 66 → enabled_mask all < 2 ^ 64
unfolding enabled_mask
enabled_small all long = mask_small (λ s. s.enabled) all long

pub returns : goal.returns
unfolding named dictionary hs_rows mm_rows md_rows cs_rows sc_rows lc_rows event_rows is_row can_show numbers_in be16_at be32_at be16_bytes be32_bytes is_kind are_choices housekeeping_of report_of be64_bytes
returns c counts s small long ats left time count within few =
    shown_with (codes "sc.housekeeping") (row (codes "sc.housekeeping") sc_housekeeping sc_state_fields) time count ((((counts.accepted ∷ counts.errors ∷ shown_ats (running_ats s.all) ∷ 0 ∷ []) ++ (((be16_bytes (left_in s.all (running_ats s.all)) ++ be16_bytes (s.sent % 65536)) ++ be16_bytes (s.wrong % 65536)) ++ be16_bytes 0)) ++ be64_bytes (running_mask s.all)) ++ be64_bytes (enabled_mask s.all)) _ within few record {
      found = refl;
      first = refl;
      called = refl;
      low = omega arith;
      fields = refl;
      few = omega arith;
      bytes = (small.accepted, (small.errors, (ats, (omega arith, all_append (λ b. b < 256) ((((be16_bytes (left_in s.all (running_ats s.all)) ++ be16_bytes (s.sent % 65536)) ++ be16_bytes (s.wrong % 65536)) ++ be16_bytes 0) ++ be64_bytes (running_mask s.all)) (be64_bytes (enabled_mask s.all)) (all_append (λ b. b < 256) (((be16_bytes (left_in s.all (running_ats s.all)) ++ be16_bytes (s.sent % 65536)) ++ be16_bytes (s.wrong % 65536)) ++ be16_bytes 0) (be64_bytes (running_mask s.all)) (told_small (left_in s.all (running_ats s.all)) (s.sent % 65536) (s.wrong % 65536)) (bytes64 (running_mask s.all))) (bytes64 (enabled_mask s.all))))));
      row = refl;
      values = rw (whole32 time within, whole16 count (omega (arith, few)), whole16 (left_in s.all (running_ats s.all)) (omega (arith, left)), whole16 (s.sent % 65536) (omega arith), whole16 (s.wrong % 65536) (omega arith), whole32 (running_mask s.all / 4294967296) (high (running_mask s.all) (running_small s.all long)), low32 (running_mask s.all), whole32 (enabled_mask s.all / 4294967296) (high (enabled_mask s.all) (enabled_small s.all long)), low32 (enabled_mask s.all)) refl;
    }
