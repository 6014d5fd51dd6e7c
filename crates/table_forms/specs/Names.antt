-- The names of tables in text, as table_files knows them.
use Rattle.std.specs.Prelude.{ℕ, ◌+◌, ◌-◌, ◌/◌, ◌%◌, if◌then◌else◌, List, [], ◌∷◌, ◌++◌, length, map, replicate, codes, Option, Some, None}
use Rattle.std.specs.List.{range_with_len}
use Rattle.std.specs.Str.{bytes_eq}
use Rattle.table_files.specs.declared.kinds.TableKind.{TableKind}
use Rattle.table_files.specs.declared.kinds.TableKind.TheVariants.{AppMon, EventMon, ExeCount, MsgActs, Ats, Rts, Dwell, Eeprom, Memory, Wdt, Adt}
use Rattle.table_forms.specs.declared.names.TableName.{TableName}

-- the name of a table
unfoldable pub name_of : TableKind → List ℕ
name_of AppMon = codes "HS.AppMon_Tbl"
name_of EventMon = codes "HS.EventMon_Tbl"
name_of ExeCount = codes "HS.ExeCount_Tbl"
name_of MsgActs = codes "HS.MsgActs_Tbl"
name_of (Ats n) = codes "SC.ATS_TBL" ++ (48 + n) ∷ []
name_of (Rts n) = codes "SC.RTS_TBL0" ++ (48 + n / 10) ∷ (48 + n % 10) ∷ []
name_of (Dwell n) = codes "MD.DWELL_TABLE" ++ (48 + n) ∷ []
name_of Eeprom = codes "CS.DefEepromTbl"
name_of Memory = codes "CS.DefMemoryTbl"
name_of Wdt = codes "LC.WDT_Tbl"
name_of Adt = codes "LC.ADT_Tbl"

-- the kinds of all tables
unfoldable pub kinds : List TableKind
kinds =
    (AppMon ∷ EventMon ∷ ExeCount ∷ MsgActs ∷ Ats 1 ∷ Ats 2 ∷ Dwell 1 ∷ Dwell 2 ∷ Dwell 3 ∷ Dwell 4 ∷ Eeprom ∷ Memory ∷ Wdt ∷ Adt ∷ [])
    ++ map Rts (range_with_len 1 64)

-- the first of these kinds that has a name
unfoldable pub kind_among : List TableKind → List ℕ → Option TableKind
kind_among [] name = None
kind_among (kind ∷ more) name = if bytes_eq (name_of kind) name then Some kind else kind_among more name

-- the kind of the table of a name
unfoldable pub kind_said : List ℕ → Option TableKind
kind_said name = kind_among kinds name

-- a table's name in a file's header
abbrev pub name_field : TableKind → List ℕ
name_field kind = name_of kind ++ replicate (40 - length (name_of kind)) 0

-- a table by the code's list
pub record Called : Type 0 where
  pub name : List ℕ
  pub kind : TableKind

abbrev pub called_by : TableName → Called
called_by row = record { name = row.name.now; kind = row.kind }

abbrev pub called : TableKind → Called
called kind = record { name = name_of kind; kind = kind }
