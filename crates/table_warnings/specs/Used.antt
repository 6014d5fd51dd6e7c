-- Entries that are used, and unused ones between them.
use Rattle.std.specs.Prelude.{ℕ, ◌+◌, ◌-◌, ◌*◌, ◌==◌, Bool, true, not, ◌&&◌, List}
use Rattle.std.specs.List.{list_any, range_with_len}
use Rattle.packet_forms.specs.Numbers.{be16_at}
use Rattle.table_files.specs.declared.kinds.TableKind.{TableKind}
use Rattle.table_files.specs.declared.kinds.TableKind.TheVariants.{AppMon, EventMon, ExeCount, MsgActs, Ats, Rts, Dwell, Eeprom, Memory, Wdt, Adt}

-- how many entries a table always has; a sequence has as many as its payload
abbrev pub count_of : TableKind → ℕ
count_of AppMon = 32
count_of EventMon = 16
count_of ExeCount = 32
count_of MsgActs = 8
count_of (Ats n) = 0
count_of (Rts n) = 0
count_of (Dwell n) = 25
count_of Eeprom = 16
count_of Memory = 16
count_of Wdt = 32
count_of Adt = 16

-- whether the number of two bytes in a place isn't 0
abbrev pub is_some_at : List ℕ → ℕ → Bool
is_some_at payload at = not (be16_at payload at == 0)

-- whether the entry in a place of a payload, from 0, is used
abbrev pub used_at : TableKind → List ℕ → ℕ → Bool
used_at AppMon payload i = is_some_at payload (24 * i + 20) && is_some_at payload (24 * i + 22)
used_at EventMon payload i = is_some_at payload (24 * i + 22)
used_at ExeCount payload i = is_some_at payload (22 * i + 20)
used_at MsgActs payload i = is_some_at payload (68 * i)
used_at (Ats n) payload i = true
used_at (Rts n) payload i = true
used_at (Dwell n) payload i = is_some_at payload (4 + 8 * i)
used_at Eeprom payload i = is_some_at payload (12 * i)
used_at Memory payload i = is_some_at payload (12 * i)
used_at Wdt payload i = is_some_at payload (16 * i)
used_at Adt payload i = is_some_at payload (40 * i)

-- whether one of so many entries from a place on is used
unfoldable pub any_used : TableKind → List ℕ → ℕ → ℕ → Bool
any_used kind payload from count = list_any (used_at kind payload) (range_with_len from count)

-- whether an entry is unused, and used ones stand before and behind it
unfoldable pub is_gap : TableKind → List ℕ → ℕ → Bool
is_gap kind payload place =
    not (used_at kind payload place) && any_used kind payload 0 place && any_used kind payload (place + 1) (count_of kind - (place + 1))
