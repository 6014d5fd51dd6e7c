-- Faults of entries in words: the table, the entry, why it is refused, and the number of the reason.
use Rattle.std.specs.Prelude.{ℕ, ◌+◌, ◌-◌, ◌*◌, if◌then◌else◌, nat_le, List, [], ◌++◌, length, take, drop, codes, decimal, Option, Some, None}
use Rattle.packet_forms.specs.Hex.{hex}
use Rattle.packet_forms.specs.Numbers.{be16_at}
use Rattle.table_files.specs.declared.fault.EntryFault.{EntryFault}
use Rattle.table_files.specs.declared.kinds.TableKind.{TableKind}
use Rattle.table_files.specs.declared.kinds.TableKind.TheVariants.{AppMon, EventMon, ExeCount, MsgActs, Ats, Rts, Dwell, Eeprom, Memory, Wdt, Adt}
use Rattle.table_reasons.specs.declared.reasons.Place.{Place}
use Rattle.table_reasons.specs.declared.reasons.Place.TheVariants.{Nowhere, Short, Address, Head}
use Rattle.table_reasons.specs.Reasons.{Sentence, reason_of}

-- what people call a table
abbrev pub title_of : TableKind → List ℕ
title_of AppMon = codes "application monitors"
title_of EventMon = codes "event monitors"
title_of ExeCount = codes "execution counters"
title_of MsgActs = codes "message actions"
title_of (Ats n) = codes "absolute sequence " ++ decimal n
title_of (Rts n) = codes "relative sequence " ++ decimal n
title_of (Dwell n) = codes "dwell table " ++ decimal n
title_of Eeprom = codes "EEPROM checksums"
title_of Memory = codes "memory checksums"
title_of Wdt = codes "watchpoints"
title_of Adt = codes "actionpoints"

-- where the entry of a number begins in a payload; those of sequences have sizes of their own
abbrev pub start_of : TableKind → ℕ → ℕ
start_of AppMon n = 24 * (n - 1)
start_of EventMon n = 24 * (n - 1)
start_of ExeCount n = 22 * (n - 1)
start_of MsgActs n = 68 * (n - 1)
start_of (Ats k) n = 0
start_of (Rts k) n = 0
start_of (Dwell k) n = 4 + 8 * (n - 1)
start_of Eeprom n = 12 * (n - 1)
start_of Memory n = 12 * (n - 1)
start_of Wdt n = 16 * (n - 1)
start_of Adt n = 40 * (n - 1)

abbrev pub short_in : List ℕ → ℕ → List ℕ
short_in payload at = if nat_le (at + 2) (length payload) then decimal (be16_at payload at) else []

abbrev pub address_in : List ℕ → ℕ → List ℕ
address_in payload at = if nat_le (at + 4) (length payload) then codes "0x" ++ hex (take 4 (drop at payload)) else []

-- the digits of the number that a sentence tells of an entry
abbrev pub number_in : List ℕ → ℕ → Place → List ℕ
number_in payload start Nowhere = []
number_in payload start (Short at) = short_in payload (start + at)
number_in payload start (Address at) = address_in payload (start + at)
number_in payload start (Head at) = short_in payload at

abbrev pub sentence_told : List ℕ → ℕ → Option Sentence → List ℕ
sentence_told payload start None = codes "it is refused"
sentence_told payload start (Some s) = s.before ++ (number_in payload start s.place ++ s.behind)

-- what stands in front of a sentence: the table and the entry
abbrev pub front_told : TableKind → ℕ → List ℕ
front_told kind entry = title_of kind ++ (codes ", entry " ++ (decimal entry ++ codes ": "))

-- what stands behind a sentence: the number of the reason, which docs/FILES.md has 10 higher than the loader
abbrev pub behind_told : ℕ → List ℕ
behind_told reason = codes " (reason " ++ (decimal (reason + 10) ++ codes ")")

-- a fault as a line of words, as `application monitors, entry 4: action 15 is over 11 (reason 12)`
unfoldable pub fault_told : TableKind → List ℕ → EntryFault → List ℕ
fault_told kind payload fault =
    front_told kind fault.entry ++ (sentence_told payload (start_of kind fault.entry) (reason_of kind fault.reason) ++ behind_told fault.reason)
