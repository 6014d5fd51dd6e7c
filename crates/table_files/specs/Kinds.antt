-- Kinds of tables: their names, and how many bytes their payloads have.
use Rattle.std.specs.Prelude.{◌≡◌, ℕ, ◌≤◌, ◌+◌, ◌/◌, ◌%◌, ◌==◌, Bool, ◌&&◌, nat_le, nat_eq, List, [], ◌∷◌, ◌++◌, length, drop, map, Option, None, Some, if◌then◌else◌, codes}
use Rattle.std.specs.List.{list_all, starts_with, range_with_len}
use Rattle.table_files.specs.declared.kinds.TableKind.{TableKind}
use Rattle.table_files.specs.declared.kinds.TableRow.{TableRow}
use Rattle.table_files.specs.declared.kinds.TableKind.TheVariants.{AppMon, EventMon, ExeCount, MsgActs, Ats, Rts, Dwell, Eeprom, Memory, Wdt, Adt}

-- whether the payload of a table may have so many bytes
abbrev pub fits_kind : TableKind → ℕ → Bool
fits_kind AppMon size = size == 768
fits_kind EventMon size = size == 384
fits_kind ExeCount size = size == 704
fits_kind MsgActs size = size == 544
fits_kind (Ats n) size = nat_le size 65536
fits_kind (Rts n) size = nat_le size 2048
fits_kind (Dwell n) size = size == 204
fits_kind Eeprom size = size == 192
fits_kind Memory size = size == 192
fits_kind Wdt size = size == 512
fits_kind Adt size = size == 640

-- the kinds whose tables are known by a name
abbrev pub IsKnown : TableKind → Type 0
IsKnown AppMon = Unit {0}
IsKnown EventMon = Unit {0}
IsKnown ExeCount = Unit {0}
IsKnown MsgActs = Unit {0}
IsKnown (Ats n) = (1 ≤ n) × (n ≤ 2)
IsKnown (Rts n) = (1 ≤ n) × (n ≤ 64)
IsKnown (Dwell n) = (1 ≤ n) × (n ≤ 4)
IsKnown Eeprom = Unit {0}
IsKnown Memory = Unit {0}
IsKnown Wdt = Unit {0}
IsKnown Adt = Unit {0}

-- what holds of the kind of a table that is known, and of how many bytes its payload has
abbrev pub IsTable : TableKind → ℕ → Type 0
IsTable AppMon size = size ≡ 768
IsTable EventMon size = size ≡ 384
IsTable ExeCount size = size ≡ 704
IsTable MsgActs size = size ≡ 544
IsTable (Ats n) size = (1 ≤ n) × (n ≤ 2) × (size ≤ 65536)
IsTable (Rts n) size = (1 ≤ n) × (n ≤ 64) × (size ≤ 2048)
IsTable (Dwell n) size = (1 ≤ n) × (n ≤ 4) × (size ≡ 204)
IsTable Eeprom size = size ≡ 192
IsTable Memory size = size ≡ 192
IsTable Wdt size = size ≡ 512
IsTable Adt size = size ≡ 640

-- a table that is known by its name
pub record KnownTable : Type 0 where
  pub name : List ℕ
  pub kind : TableKind

-- the tables whose names are known, without the relative sequences
abbrev pub named_tables : List KnownTable
named_tables =
    (record { name = codes "HS.AppMon_Tbl"; kind = AppMon })
    ∷ (record { name = codes "HS.EventMon_Tbl"; kind = EventMon })
    ∷ (record { name = codes "HS.ExeCount_Tbl"; kind = ExeCount })
    ∷ (record { name = codes "HS.MsgActs_Tbl"; kind = MsgActs })
    ∷ (record { name = codes "SC.ATS_TBL1"; kind = Ats 1 })
    ∷ (record { name = codes "SC.ATS_TBL2"; kind = Ats 2 })
    ∷ (record { name = codes "MD.DWELL_TABLE1"; kind = Dwell 1 })
    ∷ (record { name = codes "MD.DWELL_TABLE2"; kind = Dwell 2 })
    ∷ (record { name = codes "MD.DWELL_TABLE3"; kind = Dwell 3 })
    ∷ (record { name = codes "MD.DWELL_TABLE4"; kind = Dwell 4 })
    ∷ (record { name = codes "CS.DefEepromTbl"; kind = Eeprom })
    ∷ (record { name = codes "CS.DefMemoryTbl"; kind = Memory })
    ∷ (record { name = codes "LC.WDT_Tbl"; kind = Wdt })
    ∷ (record { name = codes "LC.ADT_Tbl"; kind = Adt })
    ∷ []

-- the name of relative sequence n, whose number has three digits, and the tables of all 64
abbrev pub rts_name : ℕ → List ℕ
rts_name n = codes "SC.RTS_TBL0" ++ (48 + n / 10) ∷ (48 + n % 10) ∷ []

abbrev pub rts_table : ℕ → KnownTable
rts_table n = record { name = rts_name n; kind = Rts n }

unfoldable pub rts_tables : List KnownTable
rts_tables = map rts_table (range_with_len 1 64)

-- whether a field begins with a name and has only zero bytes behind it
unfoldable pub is_padded : List ℕ → List ℕ → Bool
is_padded name field = starts_with nat_eq field name && list_all (λ b. b == 0) (drop (length name) field)

-- the kind of the first of these tables whose name a field has
abbrev pub kind_among : List KnownTable → List ℕ → Option TableKind
kind_among [] field = None
kind_among (table ∷ rest) field = if is_padded table.name field then Some table.kind else kind_among rest field

-- the kind that the bytes of a name field say: a known name, and zero bytes up to the field's end
unfoldable pub named_kind : List ℕ → Option TableKind
named_kind field = kind_among (named_tables ++ rts_tables) field

-- a row of the code's list of tables
abbrev pub known_by : TableRow → KnownTable
known_by row = record { name = row.name.now; kind = row.kind }
