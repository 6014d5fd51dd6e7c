use Rattle.std.proofs.Common.{◌≡◌, true, ℕ, ◌<◌, ◌∷◌, [], ◌++◌, refl, ◌∙◌, arith, length, List}
use Rattle.std.specs.Prelude.{codes}
use Rattle.packet_forms.specs.MessageIds.{mm_housekeeping, mm_peek, mm_dump}
use Rattle.packet_forms.specs.Numbers.{be16_at, be32_at, be16_bytes, be32_bytes}
use Rattle.histories.proofs.Masks.{bits_small}
use Rattle.row_forms.specs.declared.field.Field.{Field}
use Rattle.row_forms.specs.declared.field.Kind.TheVariants.{Block}
use Rattle.row_forms.specs.declared.field.Spelling.TheVariants.{Decimal, Hex}
use Rattle.row_forms.specs.Worked.{field, text_at}
use Rattle.row_forms.specs.Rows.{is_row, row_words}
use Rattle.row_forms.specs.RowNumbers.{numbers_in}
use Rattle.row_forms.specs.Values.{can_show, is_kind}
use Rattle.row_forms.proofs.TextLemmas.{all_append}
use Rattle.telemetry.specs.Telemetry.{named}
use Rattle.telemetry.specs.Dictionary.{dictionary, hs_rows, mm_rows, md_rows, cs_rows, sc_rows, lc_rows, event_rows, row, address, count as counted, mm_state_fields, peek_fields, dump_fields}
use Rattle.mm_core.specs.Answers.{dump_packet, peek_packet}
use Rattle.mm_core.specs.Housekeeping.{housekeeping_of, open_regions}
use Rattle.telemetry_making.proofs.MakingLemmas.{shown_with, whole16, whole32, bytes16, bytes32, block_row, row16, row32, header_row, last_word}
use Rattle.telemetry_making.proofs.mm.mm_telemetry_is_shown.Goals as goal

pub returns-clause-housekeeping : goal.returns-clause-housekeeping
unfolding named dictionary hs_rows mm_rows md_rows cs_rows sc_rows lc_rows event_rows is_row can_show numbers_in be16_at be32_at be16_bytes be32_bytes is_kind housekeeping_of open_regions
returns-clause-housekeeping c counts image small time count within few =
    shown_with (codes "mm.housekeeping") (row (codes "mm.housekeeping") mm_housekeeping mm_state_fields) time count (counts.accepted ∷ counts.errors ∷ open_regions image ∷ 0 ∷ []) _ within few record {
      found = refl;
      first = refl;
      called = refl;
      low = omega arith;
      fields = refl;
      few = omega arith;
      bytes = (small.accepted, (small.errors, (bits_small _, (omega arith, tt))));
      row = refl;
      values = rw (whole32 time within, whole16 count (omega (arith, few))) refl;
    }

pub returns-clause-peek : goal.returns-clause-peek
unfolding named dictionary hs_rows mm_rows md_rows cs_rows sc_rows lc_rows event_rows is_row can_show numbers_in be16_at be32_at be16_bytes be32_bytes is_kind peek_packet
returns-clause-peek c width at value small reach fits time count within few =
    shown_with (codes "mm.peek") (row (codes "mm.peek") mm_peek peek_fields) time count ((width ∷ be32_bytes at) ++ be32_bytes value) _ within few record {
      found = refl;
      first = refl;
      called = refl;
      low = omega arith;
      fields = refl;
      few = omega arith;
      bytes = (small, all_append (λ b. b < 256) (be32_bytes at) (be32_bytes value) (bytes32 at) (bytes32 value));
      row = refl;
      values = rw (whole32 time within, whole16 count (omega (arith, few)), whole32 at reach, whole32 value fits) refl;
    }

abbrev length_and_bytes : List Field
length_and_bytes = field (codes "length") counted ∷ field (codes "bytes") Block ∷ []

part_row : (at : ℕ) (part : List ℕ) → is_row (field (codes "address") address ∷ length_and_bytes) ((be32_bytes at ++ be16_bytes (length part)) ++ part) ≡ true
unfolding be16_bytes be32_bytes
part_row at part =
    row32 (text_at (codes "address")) Hex length_and_bytes at (be16_bytes (length part) ++ part)
    ∙ row16 (text_at (codes "length")) Decimal (field (codes "bytes") Block ∷ []) (length part) part
    ∙ block_row part

pub returns-clause-dump : goal.returns-clause-dump
unfolding named dictionary hs_rows mm_rows md_rows cs_rows sc_rows lc_rows event_rows is_row can_show numbers_in be16_at be32_at be16_bytes be32_bytes is_kind dump_packet
returns-clause-dump c at part reach short small time count within few =
    shown_with (codes "mm.dump") (row (codes "mm.dump") mm_dump dump_fields) time count ((be32_bytes at ++ be16_bytes (length part)) ++ part) _ within few record {
      found = refl;
      first = refl;
      called = refl;
      low = omega arith;
      fields = refl;
      few = omega (arith, short);
      bytes = all_append (λ b. b < 256) (be32_bytes at ++ be16_bytes (length part)) part (all_append (λ b. b < 256) (be32_bytes at) (be16_bytes (length part)) (bytes32 at) (bytes16 (length part))) small;
      row = header_row (field (codes "address") address ∷ length_and_bytes) time count ((be32_bytes at ++ be16_bytes (length part)) ++ part) ∙ part_row at part;
      values = rw (whole32 time within, whole16 count (omega (arith, few)), whole32 at reach, whole16 (length part) (omega (arith, short))) refl;
    }

pub returns-clause-dumped : goal.returns-clause-dumped
unfolding named dictionary hs_rows mm_rows md_rows cs_rows sc_rows lc_rows event_rows row_words be16_bytes be32_bytes dump_packet
returns-clause-dumped c at part reach short time count within few =
    last_word 4 (codes "mm.dump") (row (codes "mm.dump") mm_dump dump_fields) mm_dump time count ((be32_bytes at ++ be16_bytes (length part)) ++ part) part refl few refl
