-- Entries of checksum tables whose bytes lie over two regions of memory.
use Rattle.std.specs.Prelude.{ℕ, ◌+◌, ◌*◌, Bool, not, ◌&&◌, nat_lt, nat_le, if◌then◌else◌, List, [], filter_map, Option, Some, None}
use Rattle.std.specs.List.{list_any, range_with_len}
use Rattle.packet_forms.specs.Numbers.{be32_at}
use Rattle.memory_window.specs.declared.regions.Region.{Region}
use Rattle.memory_window.specs.Regions.{holds, spans}
use Rattle.table_files.specs.declared.kinds.TableKind.{TableKind}
use Rattle.table_files.specs.declared.kinds.TableKind.TheVariants.{AppMon, EventMon, ExeCount, MsgActs, Ats, Rts, Dwell, Eeprom, Memory, Wdt, Adt}
use Rattle.table_warnings.specs.declared.warning.Warning.{Warning}
use Rattle.table_warnings.specs.declared.warning.Warning.TheVariants.{Split}

-- whether a region has the last byte of a range
abbrev pub has_last : ℕ → ℕ → Region → Bool
has_last at len r = nat_lt r.start (at + len) && nat_le (at + len) (r.start + r.len)

-- whether a range begins in a region and ends in a region, and none has all of it
unfoldable pub is_split : List Region → ℕ → ℕ → Bool
is_split regions at len = list_any (holds at) regions && list_any (has_last at len) regions && not (list_any (spans at len) regions)

-- the warning of the entry in a place of a checksum table, from 0, whether it is used or not
unfoldable pub split_at : List Region → List ℕ → ℕ → Option Warning
split_at regions payload i = if is_split regions (be32_at payload (12 * i + 4)) (be32_at payload (12 * i + 8)) then Some (Split (i + 1)) else None

-- the warnings of a table's entries, in their order
unfoldable pub split_ranges : TableKind → List Region → List ℕ → List Warning
split_ranges Eeprom regions payload = filter_map (split_at regions payload) (range_with_len 0 16)
split_ranges Memory regions payload = filter_map (split_at regions payload) (range_with_len 0 16)
split_ranges AppMon regions payload = []
split_ranges EventMon regions payload = []
split_ranges ExeCount regions payload = []
split_ranges MsgActs regions payload = []
split_ranges (Ats n) regions payload = []
split_ranges (Rts n) regions payload = []
split_ranges (Dwell n) regions payload = []
split_ranges Wdt regions payload = []
split_ranges Adt regions payload = []
