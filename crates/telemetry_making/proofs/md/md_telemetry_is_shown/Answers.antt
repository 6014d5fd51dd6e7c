use Rattle.std.proofs.Common.{◌≡◌, true, ℕ, ◌<◌, ◌∷◌, [], ◌++◌, List, length, refl, ◌∙◌, arith}
use Rattle.std.specs.Prelude.{codes}
use Rattle.packet_forms.specs.Numbers.{be16_at, be32_at, be16_bytes, be32_bytes}
use Rattle.row_forms.specs.Numbers.{are_choices}
use Rattle.row_forms.specs.Rows.{is_row, row_words}
use Rattle.row_forms.specs.RowNumbers.{numbers_in}
use Rattle.row_forms.specs.Values.{can_show, is_kind}
use Rattle.row_forms.proofs.TextLemmas.{all_append}
use Rattle.telemetry.specs.Telemetry.{named}
use Rattle.telemetry.specs.Dictionary.{dictionary, hs_rows, mm_rows, md_rows, cs_rows, sc_rows, lc_rows, event_rows, row, count as counted, md_state_fields, round_fields}
use Rattle.telemetry_making.proofs.MakingLemmas.{shown_with, whole16, whole32, bytes16, block_row, row16, header_row, last_word}
use Rattle.packet_forms.specs.MessageIds.{md_housekeeping, md_dwell}
use Rattle.row_forms.specs.declared.field.Field.{Field}
use Rattle.row_forms.specs.declared.field.Kind.TheVariants.{Block}
use Rattle.row_forms.specs.declared.field.Spelling.TheVariants.{Decimal}
use Rattle.row_forms.specs.Worked.{field, text_at}
use Rattle.md_dwell.specs.Housekeeping.{housekeeping_of}
use Rattle.md_dwell.specs.Answers.{dwell_packet}
use Rattle.telemetry_making.proofs.md.md_telemetry_is_shown.Goals as goal

pub returns-clause-housekeeping : goal.returns-clause-housekeeping
unfolding named dictionary hs_rows mm_rows md_rows cs_rows sc_rows lc_rows event_rows is_row can_show numbers_in be16_at be32_at be16_bytes be32_bytes is_kind are_choices housekeeping_of
returns-clause-housekeeping c counts enabled small fits time count within few =
    shown_with (codes "md.housekeeping") (row (codes "md.housekeeping") md_housekeeping md_state_fields) time count (counts.accepted ∷ counts.errors ∷ enabled ∷ 0 ∷ []) _ within few record {
      found = refl;
      first = refl;
      called = refl;
      low = omega arith;
      fields = refl;
      few = omega arith;
      bytes = (small.accepted, (small.errors, (fits, (omega arith, tt))));
      row = refl;
      values = rw (whole32 time within, whole16 count (omega (arith, few))) refl;
    }

abbrev length_and_bytes : List Field
length_and_bytes = field (codes "length") counted ∷ field (codes "bytes") Block ∷ []

round_row : (n : ℕ) (bytes : List ℕ) → is_row (field (codes "table") counted ∷ length_and_bytes) ((be16_bytes n ++ be16_bytes (length bytes)) ++ bytes) ≡ true
unfolding be16_bytes
round_row n bytes =
    row16 (text_at (codes "table")) Decimal length_and_bytes n (be16_bytes (length bytes) ++ bytes)
    ∙ row16 (text_at (codes "length")) Decimal (field (codes "bytes") Block ∷ []) (length bytes) bytes
    ∙ block_row bytes

pub returns-clause-round1 : goal.returns-clause-round1
unfolding named dictionary hs_rows mm_rows md_rows cs_rows sc_rows lc_rows event_rows is_row can_show numbers_in be16_at be32_at be16_bytes be32_bytes is_kind are_choices dwell_packet
returns-clause-round1 c bytes short small time count within few =
    shown_with (codes "md.round1") (row (codes "md.round1") (md_dwell 1) round_fields) time count ((be16_bytes 1 ++ be16_bytes (length bytes)) ++ bytes) _ within few record {
      found = refl;
      first = refl;
      called = refl;
      low = omega arith;
      fields = refl;
      few = omega (arith, short);
      bytes = all_append (λ b. b < 256) (be16_bytes 1 ++ be16_bytes (length bytes)) bytes (all_append (λ b. b < 256) (be16_bytes 1) (be16_bytes (length bytes)) (bytes16 1) (bytes16 (length bytes))) small;
      row = header_row (field (codes "table") counted ∷ length_and_bytes) time count ((be16_bytes 1 ++ be16_bytes (length bytes)) ++ bytes) ∙ round_row 1 bytes;
      values = rw (whole32 time within, whole16 count (omega (arith, few)), whole16 (length bytes) (omega (arith, short))) refl;
    }

pub returns-clause-dwelled1 : goal.returns-clause-dwelled1
unfolding named dictionary hs_rows mm_rows md_rows cs_rows sc_rows lc_rows event_rows row_words be16_bytes be32_bytes dwell_packet
returns-clause-dwelled1 c bytes short time count within few =
    last_word 4 (codes "md.round1") (row (codes "md.round1") (md_dwell 1) round_fields) (md_dwell 1) time count ((be16_bytes 1 ++ be16_bytes (length bytes)) ++ bytes) bytes refl few refl

pub returns-clause-round2 : goal.returns-clause-round2
unfolding named dictionary hs_rows mm_rows md_rows cs_rows sc_rows lc_rows event_rows is_row can_show numbers_in be16_at be32_at be16_bytes be32_bytes is_kind are_choices dwell_packet
returns-clause-round2 c bytes short small time count within few =
    shown_with (codes "md.round2") (row (codes "md.round2") (md_dwell 2) round_fields) time count ((be16_bytes 2 ++ be16_bytes (length bytes)) ++ bytes) _ within few record {
      found = refl;
      first = refl;
      called = refl;
      low = omega arith;
      fields = refl;
      few = omega (arith, short);
      bytes = all_append (λ b. b < 256) (be16_bytes 2 ++ be16_bytes (length bytes)) bytes (all_append (λ b. b < 256) (be16_bytes 2) (be16_bytes (length bytes)) (bytes16 2) (bytes16 (length bytes))) small;
      row = header_row (field (codes "table") counted ∷ length_and_bytes) time count ((be16_bytes 2 ++ be16_bytes (length bytes)) ++ bytes) ∙ round_row 2 bytes;
      values = rw (whole32 time within, whole16 count (omega (arith, few)), whole16 (length bytes) (omega (arith, short))) refl;
    }

pub returns-clause-dwelled2 : goal.returns-clause-dwelled2
unfolding named dictionary hs_rows mm_rows md_rows cs_rows sc_rows lc_rows event_rows row_words be16_bytes be32_bytes dwell_packet
returns-clause-dwelled2 c bytes short time count within few =
    last_word 4 (codes "md.round2") (row (codes "md.round2") (md_dwell 2) round_fields) (md_dwell 2) time count ((be16_bytes 2 ++ be16_bytes (length bytes)) ++ bytes) bytes refl few refl

pub returns-clause-round3 : goal.returns-clause-round3
unfolding named dictionary hs_rows mm_rows md_rows cs_rows sc_rows lc_rows event_rows is_row can_show numbers_in be16_at be32_at be16_bytes be32_bytes is_kind are_choices dwell_packet
returns-clause-round3 c bytes short small time count within few =
    shown_with (codes "md.round3") (row (codes "md.round3") (md_dwell 3) round_fields) time count ((be16_bytes 3 ++ be16_bytes (length bytes)) ++ bytes) _ within few record {
      found = refl;
      first = refl;
      called = refl;
      low = omega arith;
      fields = refl;
      few = omega (arith, short);
      bytes = all_append (λ b. b < 256) (be16_bytes 3 ++ be16_bytes (length bytes)) bytes (all_append (λ b. b < 256) (be16_bytes 3) (be16_bytes (length bytes)) (bytes16 3) (bytes16 (length bytes))) small;
      row = header_row (field (codes "table") counted ∷ length_and_bytes) time count ((be16_bytes 3 ++ be16_bytes (length bytes)) ++ bytes) ∙ round_row 3 bytes;
      values = rw (whole32 time within, whole16 count (omega (arith, few)), whole16 (length bytes) (omega (arith, short))) refl;
    }

pub returns-clause-dwelled3 : goal.returns-clause-dwelled3
unfolding named dictionary hs_rows mm_rows md_rows cs_rows sc_rows lc_rows event_rows row_words be16_bytes be32_bytes dwell_packet
returns-clause-dwelled3 c bytes short time count within few =
    last_word 4 (codes "md.round3") (row (codes "md.round3") (md_dwell 3) round_fields) (md_dwell 3) time count ((be16_bytes 3 ++ be16_bytes (length bytes)) ++ bytes) bytes refl few refl

pub returns-clause-round4 : goal.returns-clause-round4
unfolding named dictionary hs_rows mm_rows md_rows cs_rows sc_rows lc_rows event_rows is_row can_show numbers_in be16_at be32_at be16_bytes be32_bytes is_kind are_choices dwell_packet
returns-clause-round4 c bytes short small time count within few =
    shown_with (codes "md.round4") (row (codes "md.round4") (md_dwell 4) round_fields) time count ((be16_bytes 4 ++ be16_bytes (length bytes)) ++ bytes) _ within few record {
      found = refl;
      first = refl;
      called = refl;
      low = omega arith;
      fields = refl;
      few = omega (arith, short);
      bytes = all_append (λ b. b < 256) (be16_bytes 4 ++ be16_bytes (length bytes)) bytes (all_append (λ b. b < 256) (be16_bytes 4) (be16_bytes (length bytes)) (bytes16 4) (bytes16 (length bytes))) small;
      row = header_row (field (codes "table") counted ∷ length_and_bytes) time count ((be16_bytes 4 ++ be16_bytes (length bytes)) ++ bytes) ∙ round_row 4 bytes;
      values = rw (whole32 time within, whole16 count (omega (arith, few)), whole16 (length bytes) (omega (arith, short))) refl;
    }

pub returns-clause-dwelled4 : goal.returns-clause-dwelled4
unfolding named dictionary hs_rows mm_rows md_rows cs_rows sc_rows lc_rows event_rows row_words be16_bytes be32_bytes dwell_packet
returns-clause-dwelled4 c bytes short time count within few =
    last_word 4 (codes "md.round4") (row (codes "md.round4") (md_dwell 4) round_fields) (md_dwell 4) time count ((be16_bytes 4 ++ be16_bytes (length bytes)) ++ bytes) bytes refl few refl
