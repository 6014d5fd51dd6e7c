-- The warnings of a table that no scenario is needed for, in the order of its entries.
use Rattle.std.specs.Prelude.{ℕ, ◌+◌, ◌-◌, ◌*◌, Bool, false, not, ◌&&◌, nat_lt, if◌then◌else◌, List, [], ◌∷◌, ◌++◌, length, map, take, find, min, sum_by, filter_map, flat_map, slice_index_or, Option, Some, None, option_map}
use Rattle.std.specs.List.{range_with_len}
use Rattle.packet_forms.specs.Numbers.{be16_at}
use Rattle.packet_forms.specs.Packets.{is_checksum_right}
use Rattle.table_files.specs.declared.kinds.TableKind.{TableKind}
use Rattle.table_files.specs.declared.kinds.TableKind.TheVariants.{AppMon, EventMon, ExeCount, MsgActs, Ats, Rts, Dwell, Eeprom, Memory, Wdt, Adt}
use Rattle.sc_tables.specs.declared.absolute.Timed.{Timed}
use Rattle.sc_tables.specs.declared.relative.Relative.{Relative}
use Rattle.sc_tables.specs.Absolute.{ats_of, no_timed}
use Rattle.sc_tables.specs.Relative.{rts_of, no_relative}
use Rattle.table_warnings.specs.declared.warning.Place.{Place}
use Rattle.table_warnings.specs.declared.warning.Place.TheVariants.{Entry, Number}
use Rattle.table_warnings.specs.declared.warning.Warning.{Warning}
use Rattle.table_warnings.specs.declared.warning.Warning.TheVariants.{Gap, Unread, NoDelay, StartsItself, WrongChecksum, BehindEnd, Crowded, Unwatched}
use Rattle.table_warnings.specs.Used.{count_of, used_at, is_some_at, is_gap}
use Rattle.table_warnings.specs.Dwelling.{has_no_delay}
use Rattle.table_warnings.specs.Commands.{starts_relative, ends_absolute, is_ninth}
use Rattle.table_warnings.specs.Watched.{is_watched}

-- the warning of an entry, where it has one
abbrev pub warned : Option Warning → List Warning
warned None = []
warned (Some warning) = warning ∷ []

abbrev pub warned_if : Bool → Warning → List Warning
warned_if is warning = if is then warning ∷ [] else []

-- ---- unused entries between used ones

-- the warning of such an entry: those behind the first of length 0 are never read in a dwell table
abbrev pub gap_of : TableKind → ℕ → Warning
gap_of (Dwell n) entry = Unread entry
gap_of AppMon entry = Gap entry
gap_of EventMon entry = Gap entry
gap_of ExeCount entry = Gap entry
gap_of MsgActs entry = Gap entry
gap_of (Ats n) entry = Gap entry
gap_of (Rts n) entry = Gap entry
gap_of Eeprom entry = Gap entry
gap_of Memory entry = Gap entry
gap_of Wdt entry = Gap entry
gap_of Adt entry = Gap entry

unfoldable pub gap_at : TableKind → List ℕ → ℕ → Option Warning
gap_at kind payload i = if is_gap kind payload i then Some (gap_of kind (i + 1)) else None

unfoldable pub gaps_in : TableKind → List ℕ → List Warning
gaps_in kind payload = filter_map (gap_at kind payload) (range_with_len 0 (count_of kind))

-- those that are told: of a dwell table the first alone
abbrev pub told_gaps : TableKind → List Warning → List Warning
told_gaps (Dwell n) gaps = take 1 gaps
told_gaps AppMon gaps = gaps
told_gaps EventMon gaps = gaps
told_gaps ExeCount gaps = gaps
told_gaps MsgActs gaps = gaps
told_gaps (Ats n) gaps = gaps
told_gaps (Rts n) gaps = gaps
told_gaps Eeprom gaps = gaps
told_gaps Memory gaps = gaps
told_gaps Wdt gaps = gaps
told_gaps Adt gaps = gaps

-- ---- watchpoints

unfoldable pub unwatched_at : List ℕ → ℕ → Option Warning
unwatched_at payload i =
    if is_some_at payload (16 * i) && not (is_watched (be16_at payload (16 * i + 2))) then Some (Unwatched (i + 1) (be16_at payload (16 * i + 2))) else None

unfoldable pub unwatched_in : List ℕ → List Warning
unwatched_in payload = filter_map (unwatched_at payload) (range_with_len 0 32)

-- ---- sequences

-- a command's checksum is wrong
abbrev pub wrong_checksum : Place → List ℕ → List Warning
wrong_checksum place packet = warned_if (not (is_checksum_right packet)) (WrongChecksum place)

-- the last of these times is the ninth of its second
unfoldable pub crowded_last : Place → List ℕ → List Warning
crowded_last place times = warned_if (is_ninth times (length times - 1)) (Crowded place)

-- the time of the first of these commands that ends its sequence
abbrev pub end_in : List Timed → Option ℕ
end_in commands = option_map (λ (c : Timed). c.tag) (find (λ (c : Timed). ends_absolute c.packet) commands)

abbrev pub is_later : Option ℕ → ℕ → Bool
is_later None time = false
is_later (Some end) time = nat_lt end time

-- that time with one more command
abbrev pub end_behind : Option ℕ → Timed → Option ℕ
end_behind (Some end) c = Some end
end_behind None c = if ends_absolute c.packet then Some c.tag else None

abbrev pub tags_in : List Timed → List ℕ
tags_in commands = map (λ (c : Timed). c.tag) commands

-- the warnings of a command behind an end and behind times, its own time being the last one
abbrev pub timed_warnings : Timed → Option ℕ → List ℕ → List Warning
timed_warnings c end times = wrong_checksum (Number c.number) c.packet ++ warned_if (is_later end c.tag) (BehindEnd (Number c.number)) ++ crowded_last (Number c.number) times

unfoldable pub absolute_at : List Timed → ℕ → List Warning
absolute_at commands k = timed_warnings (slice_index_or commands k no_timed) (end_in (take k commands)) (tags_in (take (k + 1) commands))

unfoldable pub absolute_in : List Timed → List Warning
absolute_in commands = flat_map (absolute_at commands) (range_with_len 0 (length commands))

-- when a command of a relative sequence leaves, in seconds behind the start
unfoldable pub time_at : List Relative → ℕ → ℕ
time_at commands k = min 4294967295 (sum_by (λ (c : Relative). c.tag) (take (k + 1) commands))

abbrev pub relative_warnings : ℕ → Relative → ℕ → List ℕ → List Warning
relative_warnings n c entry times = wrong_checksum (Entry entry) c.packet ++ warned_if (starts_relative n c.packet) (StartsItself entry) ++ crowded_last (Entry entry) times

unfoldable pub relative_at : ℕ → List Relative → ℕ → List Warning
relative_at n commands k = relative_warnings n (slice_index_or commands k no_relative) (k + 1) (map (time_at commands) (range_with_len 0 (k + 1)))

unfoldable pub relative_in : ℕ → List Relative → List Warning
relative_in n commands = flat_map (relative_at n commands) (range_with_len 0 (length commands))

-- ---- a table

-- what is told behind the unused entries; of a sequence that its loader refuses nothing, since it has no commands
abbrev pub others_in : TableKind → List ℕ → List Warning
others_in (Dwell n) payload = warned_if (used_at (Dwell n) payload 0 && has_no_delay payload) NoDelay
others_in Wdt payload = unwatched_in payload
others_in (Ats n) payload = absolute_in (ats_of payload)
others_in (Rts n) payload = relative_in n (rts_of payload)
others_in AppMon payload = []
others_in EventMon payload = []
others_in ExeCount payload = []
others_in MsgActs payload = []
others_in Eeprom payload = []
others_in Memory payload = []
others_in Adt payload = []

unfoldable pub warnings_in : TableKind → List ℕ → List Warning
warnings_in kind payload = told_gaps kind (gaps_in kind payload) ++ others_in kind payload
