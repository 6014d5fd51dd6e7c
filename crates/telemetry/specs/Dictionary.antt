-- The telemetry of the six applications and the events, as docs/COMMANDS.md lists them.
use Rattle.std.specs.Prelude.{ℕ, List, [], ◌∷◌, ◌++◌, map, codes}
use Rattle.packet_forms.specs.MessageIds.{hs_housekeeping, cs_housekeeping, cs_baseline, sc_housekeeping, mm_housekeeping, mm_peek, mm_dump, md_housekeeping, md_dwell, lc_housekeeping, event_id}
use Rattle.row_forms.specs.declared.field.Choice.{Choice}
use Rattle.row_forms.specs.declared.field.Field.{Field}
use Rattle.row_forms.specs.declared.field.Field.TheVariants.{Value, Zeros, Check}
use Rattle.row_forms.specs.declared.field.Kind.{Kind}
use Rattle.row_forms.specs.declared.field.Kind.TheVariants.{Number, Name, Block, Expression}
use Rattle.row_forms.specs.declared.field.Spelling.{Spelling}
use Rattle.row_forms.specs.declared.field.Spelling.TheVariants as spellings
use Rattle.row_forms.specs.declared.field.Width.{Width}
use Rattle.row_forms.specs.declared.field.Width.TheVariants.{U8, U16, U32}
use Rattle.row_forms.specs.Worked.{text_at, choice_of, choices_at, field}
use Rattle.telemetry.specs.declared.row.TelemetryRow.{TelemetryRow}

-- a choice, a spelling, a kind, a field or a row whose texts lie anywhere, as one whose texts lie at one place; no telemetry has an
-- expression
abbrev pub placed_choice : Choice → Choice
placed_choice c = choice_of c.text.now c.number

abbrev pub placed_spelling : Spelling → Spelling
placed_spelling spellings.Decimal = spellings.Decimal
placed_spelling spellings.Hex = spellings.Hex
placed_spelling (spellings.Choice choices) = spellings.Choice (choices_at (map placed_choice choices.now))
placed_spelling spellings.Mask = spellings.Mask
placed_spelling spellings.Time = spellings.Time

abbrev pub placed_kind : Kind → Kind
placed_kind (Number w spelling) = Number w (placed_spelling spelling)
placed_kind Name = Name
placed_kind Block = Block
placed_kind (Expression words) = Expression words

abbrev pub placed_field : Field → Field
placed_field (Value key kind) = Value (text_at key.now) (placed_kind kind)
placed_field (Zeros count) = Zeros count
placed_field Check = Check

abbrev pub placed : TelemetryRow → TelemetryRow
placed r = record { name = text_at r.name.now; id = r.id; fields = record { ref_ptr = (0, 0); now = map placed_field r.fields.now } }

abbrev pub row : List ℕ → ℕ → List Field → TelemetryRow
row name id fields = record { name = text_at name; id = id; fields = record { ref_ptr = (0, 0); now = fields } }

abbrev pub choice : Width → List Choice → Kind
choice w choices = Number w (spellings.Choice (choices_at choices))

abbrev pub seconds : Kind
seconds = Number U32 spellings.Time

abbrev pub byte : Kind
byte = Number U8 spellings.Decimal

abbrev pub count : Kind
count = Number U16 spellings.Decimal

abbrev pub long_count : Kind
long_count = Number U32 spellings.Decimal

abbrev pub checksum : Kind
checksum = Number U16 spellings.Hex

abbrev pub address : Kind
address = Number U32 spellings.Hex

abbrev pub bits : Kind
bits = Number U8 spellings.Mask

abbrev pub points : Kind
points = Number U16 spellings.Mask

abbrev pub long_bits : Kind
long_bits = Number U32 spellings.Mask

abbrev pub switch : Kind
switch = choice U8 (choice_of (codes "off") 0 ∷ choice_of (codes "on") 1 ∷ [])

abbrev pub counter : Kind
counter = choice U32 (choice_of (codes "none") 0xFFFFFFFF ∷ [])

abbrev pub slices : Kind
slices = choice U8 (choice_of (codes "nothing") 0 ∷ choice_of (codes "cs") 1 ∷ choice_of (codes "eeprom") 2 ∷ choice_of (codes "cs+eeprom") 3 ∷ choice_of (codes "memory") 4 ∷ choice_of (codes "cs+memory") 5 ∷ choice_of (codes "eeprom+memory") 6 ∷ choice_of (codes "cs+eeprom+memory") 7 ∷ [])

abbrev pub known : Kind
known = choice U16 (choice_of (codes "no") 0 ∷ choice_of (codes "yes") 1 ∷ [])

abbrev pub sequence : Kind
sequence = choice U8 (choice_of (codes "none") 0 ∷ [])

abbrev pub type_of : Kind
type_of = choice U16 (choice_of (codes "information") 2 ∷ choice_of (codes "error") 3 ∷ [])

-- the seconds and the sequence count of the header, and the fields of the payload behind them
abbrev pub behind_header : List Field → List Field
behind_header fields = field (codes "time") seconds ∷ field (codes "count") count ∷ fields

-- both counts of an application's commands, with which its housekeeping begins
abbrev pub behind_counts : List Field → List Field
behind_counts fields = behind_header (field (codes "accepted") byte ∷ field (codes "errors") byte ∷ fields)

abbrev pub hs_state_fields : List Field
hs_state_fields = behind_counts (
    field (codes "apps") switch ∷ field (codes "events") switch ∷ field (codes "resets") count ∷ field (codes "max_resets") count ∷
    field (codes "actions") count ∷ Zeros 2 ∷ field (codes "watching") long_bits ∷ field (codes "counter1") counter ∷
    field (codes "counter2") counter ∷ field (codes "counter3") counter ∷ field (codes "counter4") counter ∷
    field (codes "counter5") counter ∷ field (codes "counter6") counter ∷ field (codes "counter7") counter ∷
    field (codes "counter8") counter ∷ field (codes "counter9") counter ∷ field (codes "counter10") counter ∷
    field (codes "counter11") counter ∷ field (codes "counter12") counter ∷ field (codes "counter13") counter ∷
    field (codes "counter14") counter ∷ field (codes "counter15") counter ∷ field (codes "counter16") counter ∷
    field (codes "counter17") counter ∷ field (codes "counter18") counter ∷ field (codes "counter19") counter ∷
    field (codes "counter20") counter ∷ field (codes "counter21") counter ∷ field (codes "counter22") counter ∷
    field (codes "counter23") counter ∷ field (codes "counter24") counter ∷ field (codes "counter25") counter ∷
    field (codes "counter26") counter ∷ field (codes "counter27") counter ∷ field (codes "counter28") counter ∷
    field (codes "counter29") counter ∷ field (codes "counter30") counter ∷ field (codes "counter31") counter ∷
    field (codes "counter32") counter ∷ [])

abbrev pub mm_state_fields : List Field
mm_state_fields = behind_counts (
    field (codes "open") bits ∷ Zeros 1 ∷ [])

abbrev pub peek_fields : List Field
peek_fields = behind_header (
    field (codes "width") byte ∷ field (codes "address") address ∷ field (codes "value") address ∷ [])

abbrev pub dump_fields : List Field
dump_fields = behind_header (
    field (codes "address") address ∷ field (codes "length") count ∷ field (codes "bytes") Block ∷ [])

abbrev pub md_state_fields : List Field
md_state_fields = behind_counts (
    field (codes "enabled") bits ∷ Zeros 1 ∷ [])

abbrev pub round_fields : List Field
round_fields = behind_header (
    field (codes "table") count ∷ field (codes "length") count ∷ field (codes "bytes") Block ∷ [])

abbrev pub cs_state_fields : List Field
cs_state_fields = behind_counts (
    field (codes "on") slices ∷ Zeros 1 ∷ field (codes "eeprom_miscompares") count ∷ field (codes "memory_miscompares") count ∷
    field (codes "passes") long_count ∷ [])

abbrev pub baseline_fields : List Field
baseline_fields = behind_header (
    field (codes "table") count ∷ field (codes "entry") count ∷ field (codes "known") known ∷ field (codes "baseline") checksum ∷ [])

abbrev pub sc_state_fields : List Field
sc_state_fields = behind_counts (
    field (codes "ats") sequence ∷ Zeros 1 ∷ field (codes "left") count ∷ field (codes "sent") count ∷ field (codes "wrong") count ∷
    Zeros 2 ∷ field (codes "running_32_plus") long_bits ∷ field (codes "running") long_bits ∷ field (codes "enabled_32_plus") long_bits ∷
    field (codes "enabled") long_bits ∷ [])

abbrev pub lc_state_fields : List Field
lc_state_fields = behind_counts (
    Zeros 2 ∷ field (codes "active") points ∷ field (codes "fired") count ∷ field (codes "results_17_to_32") address ∷
    field (codes "results_1_to_16") address ∷ [])

abbrev pub event_message_fields : List Field
event_message_fields = behind_header (
    field (codes "app") Name ∷ field (codes "event") count ∷ field (codes "type") type_of ∷ field (codes "spacecraft") long_count ∷
    field (codes "processor") long_count ∷ [])

-- the telemetry of Health and Safety
unfoldable pub hs_rows : List TelemetryRow
hs_rows =
    row (codes "hs.housekeeping") hs_housekeeping hs_state_fields
    ∷ []

-- the telemetry of Memory Manager
unfoldable pub mm_rows : List TelemetryRow
mm_rows =
    row (codes "mm.housekeeping") mm_housekeeping mm_state_fields
    ∷ row (codes "mm.peek") mm_peek peek_fields
    ∷ row (codes "mm.dump") mm_dump dump_fields
    ∷ []

-- the telemetry of Memory Dwell
unfoldable pub md_rows : List TelemetryRow
md_rows =
    row (codes "md.housekeeping") md_housekeeping md_state_fields
    ∷ row (codes "md.round1") (md_dwell 1) round_fields
    ∷ row (codes "md.round2") (md_dwell 2) round_fields
    ∷ row (codes "md.round3") (md_dwell 3) round_fields
    ∷ row (codes "md.round4") (md_dwell 4) round_fields
    ∷ []

-- the telemetry of Checksum
unfoldable pub cs_rows : List TelemetryRow
cs_rows =
    row (codes "cs.housekeeping") cs_housekeeping cs_state_fields
    ∷ row (codes "cs.baseline") cs_baseline baseline_fields
    ∷ []

-- the telemetry of Stored Command
unfoldable pub sc_rows : List TelemetryRow
sc_rows =
    row (codes "sc.housekeeping") sc_housekeeping sc_state_fields
    ∷ []

-- the telemetry of Limit Checker
unfoldable pub lc_rows : List TelemetryRow
lc_rows =
    row (codes "lc.housekeeping") lc_housekeeping lc_state_fields
    ∷ []

-- the events of all applications
unfoldable pub event_rows : List TelemetryRow
event_rows =
    row (codes "event") event_id event_message_fields
    ∷ []

-- all of them
unfoldable pub dictionary : List TelemetryRow
dictionary = hs_rows ++ mm_rows ++ md_rows ++ cs_rows ++ sc_rows ++ lc_rows ++ event_rows
