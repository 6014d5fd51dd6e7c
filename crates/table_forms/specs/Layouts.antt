-- The layouts of all kinds of tables, as docs/FILES.md tells them.
use Rattle.std.specs.Prelude.{ℕ, ◌*◌, ◌-◌, ◌==◌, Bool, false, ◌&&◌, nat_le, nat_lt, List, [], ◌∷◌, length, map, codes}
use Rattle.std.proofs.Common.{Bor}
use Rattle.row_forms.specs.declared.field.Choice.{Choice}
use Rattle.row_forms.specs.declared.field.Field.{Field}
use Rattle.row_forms.specs.declared.field.Field.TheVariants.{Value, Zeros, Check}
use Rattle.row_forms.specs.declared.field.Kind.{Kind}
use Rattle.row_forms.specs.declared.field.Kind.TheVariants.{Number, Name, Block, Expression}
use Rattle.row_forms.specs.declared.field.Spelling.{Spelling}
use Rattle.row_forms.specs.declared.field.Spelling.TheVariants as spellings
use Rattle.row_forms.specs.declared.field.Width.TheVariants.{U16, U32}
use Rattle.row_forms.specs.Numbers.{bytes_of}
use Rattle.row_forms.specs.Rows.{are_fields}
use Rattle.row_forms.specs.Worked.{text_at, choice_of, choices_at, field}
use Rattle.table_files.specs.declared.kinds.TableKind.{TableKind}
use Rattle.table_files.specs.declared.kinds.TableKind.TheVariants.{AppMon, EventMon, ExeCount, MsgActs, Ats, Rts, Dwell, Eeprom, Memory, Wdt, Adt}
use Rattle.table_texts.specs.declared.layout.Layout.{Layout}
use Rattle.table_texts.specs.Entries.{is_layout}
use Rattle.table_texts.specs.Fronts.{is_front}
use Rattle.table_forms.specs.declared.layouts.Layouts.{Layouts}
use Rattle.table_forms.specs.declared.layouts.PayloadForm.{PayloadForm}
use Rattle.table_forms.specs.declared.layouts.PayloadForm.TheVariants.{Entries, Headed, Sequence}

-- how the payload of a kind is written
abbrev pub form_of : Layouts → TableKind → PayloadForm
form_of ls AppMon = Entries ls.apps
form_of ls EventMon = Entries ls.events
form_of ls ExeCount = Entries ls.counters
form_of ls MsgActs = Entries ls.actions
form_of ls (Ats n) = Sequence ls.absolute 6
form_of ls (Rts n) = Sequence ls.relative 2
form_of ls (Dwell n) = Headed ls.dwells
form_of ls Eeprom = Entries ls.checksums
form_of ls Memory = Entries ls.checksums
form_of ls Wdt = Entries ls.watchpoints
form_of ls Adt = Entries ls.actionpoints

-- whether all bytes, so many, are a row of these fields
unfoldable pub shows_all : List Field → ℕ → Bool
shows_all [] size = size == 0
shows_all (Value key (Number w s) ∷ fs) size = nat_le (bytes_of w) size && shows_all fs (size - bytes_of w)
shows_all (Value key Name ∷ fs) size = false
shows_all (Value key Block ∷ fs) size = shows_all fs 0
shows_all (Value key (Expression words) ∷ fs) size = false
shows_all (Zeros count ∷ fs) size = false
shows_all (Check ∷ fs) size = false

-- fields of which any bytes, so many, are a row
unfoldable pub is_open : List Field → ℕ → Bool
is_open fs size = nat_lt (length fs) 65536 && are_fields fs && shows_all fs size

-- a layout whose entries have so many bytes together
unfoldable pub has_bytes : Layout → ℕ → Bool
has_bytes l size = is_layout l && (l.count * l.size == size)

-- layouts by which all tables that are accepted can be written
unfoldable pub are_layouts : Layouts → Bool
are_layouts ls =
    has_bytes ls.apps 768 && has_bytes ls.events 384 && has_bytes ls.counters 704 && has_bytes ls.actions 544 && has_bytes ls.dwells 200
    && has_bytes ls.checksums 192 && has_bytes ls.watchpoints 512 && has_bytes ls.actionpoints 640
    && is_front ls.absolute.now 6 && is_front ls.relative.now 2 && is_open ls.head.now 4 && is_open ls.header.now 60

-- ---- layouts whose texts lie at one place

abbrev pub placed_choice : Choice → Choice
placed_choice c = choice_of c.text.now c.number

abbrev pub placed_choices : Bor (List Choice) → Bor (List Choice)
placed_choices choices = choices_at (map placed_choice choices.now)

abbrev pub placed_spelling : Spelling → Spelling
placed_spelling spellings.Decimal = spellings.Decimal
placed_spelling spellings.Hex = spellings.Hex
placed_spelling (spellings.Choice choices) = spellings.Choice (placed_choices choices)
placed_spelling spellings.Mask = spellings.Mask
placed_spelling spellings.Time = spellings.Time

abbrev pub placed_kind : Kind → Kind
placed_kind (Number w s) = Number w (placed_spelling s)
placed_kind Name = Name
placed_kind Block = Block
placed_kind (Expression words) = Expression (placed_choices words)

abbrev pub placed_field : Field → Field
placed_field (Value key kind) = Value (text_at key.now) (placed_kind kind)
placed_field (Zeros count) = Zeros count
placed_field Check = Check

abbrev pub fields_at : List Field → Bor (List Field)
fields_at fs = record { ref_ptr = (0, 0); now = fs }

abbrev pub placed_fields : Bor (List Field) → Bor (List Field)
placed_fields fs = fields_at (map placed_field fs.now)

abbrev pub placed_layout : Layout → Layout
placed_layout l = record { count = l.count; size = l.size; fields = placed_fields l.fields; area = l.area }

abbrev pub placed : Layouts → Layouts
placed ls = record {
  apps = placed_layout ls.apps;
  events = placed_layout ls.events;
  counters = placed_layout ls.counters;
  actions = placed_layout ls.actions;
  dwells = placed_layout ls.dwells;
  checksums = placed_layout ls.checksums;
  watchpoints = placed_layout ls.watchpoints;
  actionpoints = placed_layout ls.actionpoints;
  absolute = placed_fields ls.absolute;
  relative = placed_fields ls.relative;
  head = placed_fields ls.head;
  header = placed_fields ls.header;
}

-- ---- the layouts of docs/FILES.md

abbrev pub counted : Kind
counted = Number U16 spellings.Decimal

abbrev pub id : Kind
id = Number U16 spellings.Hex

abbrev pub long : Kind
long = Number U32 spellings.Decimal

abbrev pub address : Kind
address = Number U32 spellings.Hex

abbrev pub chosen : List Choice → Kind
chosen choices = Number U16 (spellings.Choice (choices_at choices))

-- the actions of monitors, of which the third is another for each kind
abbrev pub actions_with : List ℕ → List Choice
actions_with third =
    choice_of (codes "none") 0 ∷ choice_of (codes "reset") 1 ∷ choice_of (codes "restart") 2 ∷ choice_of third 3
    ∷ choice_of (codes "message1") 4 ∷ choice_of (codes "message2") 5 ∷ choice_of (codes "message3") 6 ∷ choice_of (codes "message4") 7
    ∷ choice_of (codes "message5") 8 ∷ choice_of (codes "message6") 9 ∷ choice_of (codes "message7") 10 ∷ choice_of (codes "message8") 11 ∷ []

unfoldable pub actions : List Choice
actions = actions_with (codes "event")

-- an event monitor asks to delete an application
unfoldable pub event_actions : List Choice
event_actions = actions_with (codes "delete")

unfoldable pub message_states : List Choice
message_states = choice_of (codes "disabled") 0 ∷ choice_of (codes "enabled") 1 ∷ choice_of (codes "silent") 2 ∷ []

unfoldable pub entry_states : List Choice
entry_states = choice_of (codes "empty") 0 ∷ choice_of (codes "enabled") 1 ∷ choice_of (codes "disabled") 2 ∷ []

unfoldable pub point_states : List Choice
point_states = choice_of (codes "unused") 0 ∷ choice_of (codes "active") 1 ∷ choice_of (codes "passive") 2 ∷ []

unfoldable pub value_types : List Choice
value_types = choice_of (codes "unused") 0 ∷ choice_of (codes "u8") 1 ∷ choice_of (codes "u16") 2 ∷ choice_of (codes "u32") 3 ∷ []

unfoldable pub operators : List Choice
operators =
    choice_of (codes "<") 1 ∷ choice_of (codes "<=") 2 ∷ choice_of (codes "!=") 3 ∷ choice_of (codes "==") 4 ∷ choice_of (codes ">=") 5
    ∷ choice_of (codes ">") 6 ∷ []

unfoldable pub steps : List Choice
steps =
    choice_of (codes "w1") 0 ∷ choice_of (codes "w2") 1 ∷ choice_of (codes "w3") 2 ∷ choice_of (codes "w4") 3 ∷ choice_of (codes "w5") 4
    ∷ choice_of (codes "w6") 5 ∷ choice_of (codes "w7") 6 ∷ choice_of (codes "w8") 7 ∷ choice_of (codes "w9") 8 ∷ choice_of (codes "w10") 9
    ∷ choice_of (codes "w11") 10 ∷ choice_of (codes "w12") 11 ∷ choice_of (codes "w13") 12 ∷ choice_of (codes "w14") 13 ∷ choice_of (codes "w15") 14
    ∷ choice_of (codes "w16") 15 ∷ choice_of (codes "w17") 16 ∷ choice_of (codes "w18") 17 ∷ choice_of (codes "w19") 18 ∷ choice_of (codes "w20") 19
    ∷ choice_of (codes "w21") 20 ∷ choice_of (codes "w22") 21 ∷ choice_of (codes "w23") 22 ∷ choice_of (codes "w24") 23 ∷ choice_of (codes "w25") 24
    ∷ choice_of (codes "w26") 25 ∷ choice_of (codes "w27") 26 ∷ choice_of (codes "w28") 27 ∷ choice_of (codes "w29") 28 ∷ choice_of (codes "w30") 29
    ∷ choice_of (codes "w31") 30 ∷ choice_of (codes "w32") 31 ∷ choice_of (codes "and") 0x8001 ∷ choice_of (codes "or") 0x8002
    ∷ choice_of (codes "xor") 0x8003 ∷ choice_of (codes "not") 0x8004 ∷ []

abbrev pub entries : ℕ → ℕ → List Field → Layout
entries count size fs = record { count = count; size = size; fields = fields_at fs; area = 0 }

unfoldable pub all_layouts : Layouts
all_layouts = record {
  apps = entries 32 24 (field (codes "app") Name ∷ field (codes "cycles") counted ∷ field (codes "action") (chosen actions) ∷ []);
  events = entries 16 24 (field (codes "app") Name ∷ field (codes "event") counted ∷ field (codes "action") (chosen event_actions) ∷ []);
  counters = entries 32 22 (field (codes "app") Name ∷ field (codes "type") counted ∷ []);
  actions = record {
    count = 8;
    size = 68;
    fields = fields_at (field (codes "state") (chosen message_states) ∷ field (codes "cooldown") counted ∷ []);
    area = 64;
  };
  dwells = entries 25 8 (field (codes "length") counted ∷ field (codes "delay") counted ∷ field (codes "address") address ∷ []);
  checksums = entries 16 12 (field (codes "state") (chosen entry_states) ∷ Zeros 2 ∷ field (codes "start") address ∷ field (codes "length") long ∷ []);
  watchpoints = entries 32 16 (field (codes "type") (chosen value_types) ∷ field (codes "id") id ∷ field (codes "offset") counted ∷ field (codes "operator") (chosen operators) ∷ field (codes "mask") address ∷ field (codes "limit") long ∷ []);
  actionpoints = entries 16 40 (field (codes "state") (chosen point_states) ∷ field (codes "sequence") counted ∷ field (codes "failures") counted ∷ field (codes "when") (Expression (choices_at steps)) ∷ []);
  absolute = fields_at (field (codes "number") counted ∷ field (codes "time") (Number U32 spellings.Time) ∷ []);
  relative = fields_at (field (codes "after") counted ∷ []);
  head = fields_at (field (codes "enabled") counted ∷ field (codes "spare") counted ∷ []);
  header = fields_at (field (codes "length") long ∷ field (codes "spacecraft") long ∷ field (codes "processor") long ∷ field (codes "application") long ∷ field (codes "seconds") long ∷ field (codes "subseconds") long ∷ field (codes "reserved") address ∷ field (codes "description") Block ∷ []);
}
