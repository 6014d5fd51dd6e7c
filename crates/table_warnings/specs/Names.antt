-- Names in tables of Health and Safety, and those that somebody has.
use Rattle.std.specs.Prelude.{ℕ, ◌+◌, ◌*◌, Bool, not, ◌&&◌, ◌||◌, if◌then◌else◌, List, [], ◌∷◌, filter_map, codes, Option, Some, None}
use Rattle.std.specs.List.{list_any, range_with_len}
use Rattle.std.specs.Str.{bytes_eq}
use Rattle.packet_forms.specs.Names.{name_text}
use Rattle.hs_tables.specs.Names.{name_in}
use Rattle.table_files.specs.declared.kinds.TableKind.{TableKind}
use Rattle.table_files.specs.declared.kinds.TableKind.TheVariants.{AppMon, EventMon, ExeCount, MsgActs, Ats, Rts, Dwell, Eeprom, Memory, Wdt, Adt}
use Rattle.table_warnings.specs.declared.warning.Warning.{Warning}
use Rattle.table_warnings.specs.declared.warning.Warning.TheVariants.{Unknown}
use Rattle.table_warnings.specs.Used.{count_of, used_at}

-- the applications of the bench
abbrev pub applications : List (List ℕ)
applications = codes "HS" ∷ codes "CS" ∷ codes "SC" ∷ codes "MM" ∷ codes "MD" ∷ codes "LC" ∷ []

-- the names that entries of a kind may have in every scenario: events alone are of `TBL`, too
abbrev pub own_names : TableKind → List (List ℕ)
own_names EventMon = codes "TBL" ∷ applications
own_names AppMon = applications
own_names ExeCount = applications
own_names MsgActs = applications
own_names (Ats n) = applications
own_names (Rts n) = applications
own_names (Dwell n) = applications
own_names Eeprom = applications
own_names Memory = applications
own_names Wdt = applications
own_names Adt = applications

-- whether a name is one of the bench's own, or one of these
unfoldable pub is_known : TableKind → List (List ℕ) → List ℕ → Bool
is_known kind known name = list_any (λ own. bytes_eq (name_text name) own) (own_names kind) || list_any (λ other. bytes_eq other name) known

-- the name in the entry in a place of a payload, from 0, where it has one
abbrev pub name_at : TableKind → List ℕ → ℕ → Option (List ℕ)
name_at AppMon payload i = name_in payload (24 * i)
name_at EventMon payload i = name_in payload (24 * i)
name_at ExeCount payload i = name_in payload (22 * i)
name_at MsgActs payload i = None
name_at (Ats n) payload i = None
name_at (Rts n) payload i = None
name_at (Dwell n) payload i = None
name_at Eeprom payload i = None
name_at Memory payload i = None
name_at Wdt payload i = None
name_at Adt payload i = None

-- the warning of a used entry that has this name
abbrev pub name_warning : Bool → ℕ → Option (List ℕ) → (List ℕ → Bool) → Option Warning
name_warning used entry None knows = None
name_warning used entry (Some name) knows = if used && not (knows name) then Some (Unknown entry name) else None

-- the warning of the entry in a place: it is used, and has a name that nobody has
unfoldable pub unknown_at : TableKind → List (List ℕ) → List ℕ → ℕ → Option Warning
unknown_at kind known payload i = name_warning (used_at kind payload i) (i + 1) (name_at kind payload i) (is_known kind known)

-- the warnings of a table's entries, in their order
unfoldable pub unknown_names : TableKind → List (List ℕ) → List ℕ → List Warning
unknown_names kind known payload = filter_map (unknown_at kind known payload) (range_with_len 0 (count_of kind))
