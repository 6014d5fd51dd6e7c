-- The commands of the six applications, as docs/COMMANDS.md lists them.
use Rattle.std.specs.Prelude.{ℕ, List, [], ◌∷◌, ◌++◌, map, codes}
use Rattle.packet_forms.specs.MessageIds.{hs_command, hs_request, cs_command, cs_request, sc_command, sc_request, mm_command, mm_request, md_command, md_request, lc_command, lc_request}
use Rattle.row_forms.specs.declared.field.Field.{Field}
use Rattle.row_forms.specs.declared.field.Field.TheVariants.{Value, Zeros, Check}
use Rattle.row_forms.specs.declared.field.Kind.{Kind}
use Rattle.row_forms.specs.declared.field.Kind.TheVariants.{Number, Block}
use Rattle.row_forms.specs.declared.field.Spelling.TheVariants.{Decimal, Hex, Mask, Time}
use Rattle.row_forms.specs.declared.field.Width.TheVariants.{U8, U16, U32}
use Rattle.row_forms.specs.Worked.{text_at, field}
use Rattle.telecommands.specs.declared.command.Command.{Command}

-- a field or a command whose texts lie anywhere, as one whose texts lie at one place
abbrev pub placed_field : Field → Field
placed_field (Value key kind) = Value (text_at key.now) kind
placed_field (Zeros count) = Zeros count
placed_field Check = Check

abbrev pub placed : Command → Command
placed c = record { name = text_at c.name.now; id = c.id; code = c.code; fields = record { ref_ptr = (0, 0); now = map placed_field c.fields.now } }

abbrev pub byte : Kind
byte = Number U8 Decimal

abbrev pub count : Kind
count = Number U16 Decimal

abbrev pub length_of : Kind
length_of = Number U32 Decimal

abbrev pub filled : Kind
filled = Number U8 Hex

abbrev pub address : Kind
address = Number U32 Hex

abbrev pub bits : Kind
bits = Number U16 Mask

abbrev pub seconds : Kind
seconds = Number U32 Time

abbrev pub row : List ℕ → ℕ → ℕ → List Field → Command
row name id code fields = record { name = text_at name; id = id; code = code; fields = record { ref_ptr = (0, 0); now = fields } }

-- the commands of Health and Safety, and the request for its housekeeping
unfoldable pub hs_rows : List Command
hs_rows =
    row (codes "hs.no_op") hs_command 0 []
    ∷ row (codes "hs.reset_counts") hs_command 1 []
    ∷ row (codes "hs.apps_on") hs_command 2 []
    ∷ row (codes "hs.apps_off") hs_command 3 []
    ∷ row (codes "hs.events_on") hs_command 4 []
    ∷ row (codes "hs.events_off") hs_command 5 []
    ∷ row (codes "hs.clear_resets") hs_command 8 []
    ∷ row (codes "hs.max_resets") hs_command 9 (field (codes "maximum") count ∷ [])
    ∷ row (codes "hs.housekeeping") hs_request 0 []
    ∷ []

-- the commands of Memory Manager, and the request for its housekeeping
unfoldable pub mm_rows : List Command
mm_rows =
    row (codes "mm.no_op") mm_command 0 []
    ∷ row (codes "mm.reset_counts") mm_command 1 []
    ∷ row (codes "mm.peek") mm_command 2 (field (codes "width") byte ∷ field (codes "address") address ∷ [])
    ∷ row (codes "mm.poke") mm_command 3 (field (codes "width") byte ∷ field (codes "address") address ∷ field (codes "value") address ∷ [])
    ∷ row (codes "mm.load") mm_command 4 (field (codes "address") address ∷ Check ∷ field (codes "bytes") Block ∷ [])
    ∷ row (codes "mm.load_file") mm_command 5 (field (codes "load") count ∷ [])
    ∷ row (codes "mm.fill") mm_command 8 (field (codes "address") address ∷ field (codes "length") length_of ∷ field (codes "byte") filled ∷ [])
    ∷ row (codes "mm.eeprom_enable") mm_command 11 (field (codes "region") byte ∷ [])
    ∷ row (codes "mm.eeprom_disable") mm_command 12 (field (codes "region") byte ∷ [])
    ∷ row (codes "mm.dump") mm_command 13 (field (codes "address") address ∷ field (codes "length") length_of ∷ [])
    ∷ row (codes "mm.housekeeping") mm_request 0 []
    ∷ []

-- the commands of Memory Dwell, and the request for its housekeeping
unfoldable pub md_rows : List Command
md_rows =
    row (codes "md.no_op") md_command 0 []
    ∷ row (codes "md.reset_counts") md_command 1 []
    ∷ row (codes "md.start") md_command 2 (field (codes "tables") bits ∷ [])
    ∷ row (codes "md.stop") md_command 3 (field (codes "tables") bits ∷ [])
    ∷ row (codes "md.jam") md_command 4 (field (codes "table") count ∷ field (codes "entry") count ∷ field (codes "length") count ∷ field (codes "delay") count ∷ field (codes "address") address ∷ [])
    ∷ row (codes "md.housekeeping") md_request 0 []
    ∷ []

-- the commands of Checksum, and the request for its housekeeping
unfoldable pub cs_rows : List Command
cs_rows =
    row (codes "cs.no_op") cs_command 0 []
    ∷ row (codes "cs.reset_counts") cs_command 1 []
    ∷ row (codes "cs.on") cs_command 2 []
    ∷ row (codes "cs.off") cs_command 3 []
    ∷ row (codes "cs.table_on") cs_command 4 (field (codes "table") count ∷ [])
    ∷ row (codes "cs.table_off") cs_command 5 (field (codes "table") count ∷ [])
    ∷ row (codes "cs.entry_on") cs_command 6 (field (codes "table") count ∷ field (codes "entry") count ∷ [])
    ∷ row (codes "cs.entry_off") cs_command 7 (field (codes "table") count ∷ field (codes "entry") count ∷ [])
    ∷ row (codes "cs.report") cs_command 8 (field (codes "table") count ∷ field (codes "entry") count ∷ [])
    ∷ row (codes "cs.housekeeping") cs_request 0 []
    ∷ []

-- the commands of Stored Command, and the request for its housekeeping
unfoldable pub sc_rows : List Command
sc_rows =
    row (codes "sc.no_op") sc_command 0 []
    ∷ row (codes "sc.reset_counts") sc_command 1 []
    ∷ row (codes "sc.start_ats") sc_command 2 (field (codes "number") count ∷ [])
    ∷ row (codes "sc.stop_ats") sc_command 3 []
    ∷ row (codes "sc.start_rts") sc_command 4 (field (codes "number") count ∷ [])
    ∷ row (codes "sc.stop_rts") sc_command 5 (field (codes "number") count ∷ [])
    ∷ row (codes "sc.disable_rts") sc_command 6 (field (codes "number") count ∷ [])
    ∷ row (codes "sc.enable_rts") sc_command 7 (field (codes "number") count ∷ [])
    ∷ row (codes "sc.switch_ats") sc_command 8 []
    ∷ row (codes "sc.jump_ats") sc_command 9 (field (codes "time") seconds ∷ [])
    ∷ row (codes "sc.housekeeping") sc_request 0 []
    ∷ []

-- the commands of Limit Checker, and the request for its housekeeping
unfoldable pub lc_rows : List Command
lc_rows =
    row (codes "lc.no_op") lc_command 0 []
    ∷ row (codes "lc.reset_counts") lc_command 1 []
    ∷ row (codes "lc.set_active") lc_command 2 (field (codes "point") count ∷ [])
    ∷ row (codes "lc.set_passive") lc_command 3 (field (codes "point") count ∷ [])
    ∷ row (codes "lc.housekeeping") lc_request 0 []
    ∷ []

-- all of them
unfoldable pub dictionary : List Command
dictionary = hs_rows ++ mm_rows ++ md_rows ++ cs_rows ++ sc_rows ++ lc_rows
