-- Lemmas on the reasons that loaders give: each of them has words.
use Rattle.std.proofs.Common.{◌≡◌, ℕ, zero, suc, ◌+◌, ◌≤◌, Bool, true, false, List, [], ◌∷◌, Option, Some, None, refl, ap}
use Rattle.std.proofs.Common.{arith}
use Rattle.std.specs.Prelude.{if◌then◌else◌, ◌&&◌, ◌==◌, not, nat_lt, is_none}
use Rattle.packet_forms.specs.Numbers.{be16_at}
use Rattle.table_files.specs.declared.fault.EntryFault.{EntryFault}
use Rattle.table_files.specs.declared.kinds.TableKind.{TableKind}
use Rattle.table_files.specs.declared.kinds.TableKind.TheVariants.{AppMon, EventMon, ExeCount, MsgActs, Ats, Rts, Dwell, Eeprom, Memory, Wdt, Adt}
use Rattle.table_files.specs.Entries.{fault_or, first_fault}
use Rattle.hs_tables.specs.declared.apps.AppRow as app_row
use Rattle.hs_tables.specs.declared.events.EventRow as event_row
use Rattle.hs_tables.specs.declared.counters.CountRow as count_row
use Rattle.hs_tables.specs.declared.actions.ActRow as action_row
use Rattle.hs_tables.specs.Apps as apps
use Rattle.hs_tables.specs.Events as events
use Rattle.hs_tables.specs.Counters as counters
use Rattle.hs_tables.specs.Actions as actions
use Rattle.md_dwell.specs.declared.tables.DwellEntry.{DwellEntry}
use Rattle.md_dwell.specs.Tables.{is_length, is_aligned, entry_reason, entries_in, dwell_fault_of}
use Rattle.cs_slices.specs.declared.segments.Segment.{Segment}
use Rattle.cs_slices.specs.Tables.{segment_reason, segments_of, segments_fault_of}
use Rattle.lc_watch.specs.declared.watchpoints.WatchRow.{WatchRow}
use Rattle.lc_watch.specs.declared.actionpoints.ActRow.{ActRow}
use Rattle.lc_watch.specs.Watchpoints as watchpoints
use Rattle.lc_watch.specs.Actionpoints as actionpoints
use Rattle.table_forms.specs.Judging.{entry_fault_of}
use Rattle.table_reasons.specs.Reasons.{monitor_reason, counter_reason, action_reason, sequence_reason, dwell_reason, checksum_reason, watch_reason, point_reason, reason_of, is_sequence, is_there}

-- ---- faults of entries

abbrev reason_or : Option EntryFault → ℕ
reason_or None = 0
reason_or (Some fault) = fault.reason

step : {E : Type 0} (reason : E → Option ℕ) (t : ℕ → Bool) (x : E) (n : ℕ) (rest : Option EntryFault) (fault : EntryFault) (o : Option ℕ) → ((r : ℕ) → reason x ≡ Some r → t r ≡ true) → (rest ≡ Some fault → t fault.reason ≡ true) → reason x ≡ o → fault_or n o rest ≡ Some fault → t fault.reason ≡ true
step reason t x n rest fault None each later is e = later e
step reason t x n rest fault (Some r) each later is e = let same : r ≡ fault.reason = ap reason_or e in rw (← same) (each r is)

told_by : {E : Type 0} (reason : E → Option ℕ) (t : ℕ → Bool) (entries : List E) (n : ℕ) (fault : EntryFault) → ((x : E) (r : ℕ) → reason x ≡ Some r → t r ≡ true) → first_fault reason n entries ≡ Some fault → t fault.reason ≡ true
unfolding first_fault
told_by reason t [] n fault each e = absurd (cc)
told_by reason t (x ∷ xs) n fault each e = step reason t x n (first_fault reason (n + 1) xs) fault (reason x) (each x) (told_by reason t xs (n + 1) fault each) refl e

some_same : (m r : ℕ) → ◌≡◌ {A = Option ℕ} (Some m) (Some r) → m ≡ r
some_same m r e = cc

-- the first of two reasons whose test holds
of_two : (a b : Bool) (m n r : ℕ) (t : ℕ → Bool) → t m ≡ true → t n ≡ true → (if a then Some m else if b then Some n else None) ≡ Some r → t r ≡ true
of_two true b m n r t p q e = rw (← some_same m r e) p
of_two false true m n r t p q e = rw (← some_same n r e) q
of_two false false m n r t p q e = absurd (cc)

-- a reason, or else one where a test doesn't hold
or_unless : (a b : Bool) (m n r : ℕ) (t : ℕ → Bool) → t m ≡ true → t n ≡ true → (if a then Some m else if b then None else Some n) ≡ Some r → t r ≡ true
or_unless true b m n r t p q e = rw (← some_same m r e) p
or_unless false true m n r t p q e = absurd (cc)
or_unless false false m n r t p q e = rw (← some_same n r e) q

abbrev monitor : ℕ → Bool
monitor r = is_there (monitor_reason r)

abbrev counter : ℕ → Bool
counter r = is_there (counter_reason r)

abbrev action : ℕ → Bool
action r = is_there (action_reason r)

abbrev dwell : ℕ → Bool
dwell r = is_there (dwell_reason r)

abbrev checksum : ℕ → Bool
checksum r = is_there (checksum_reason r)

abbrev watch : ℕ → Bool
watch r = is_there (watch_reason r)

abbrev point : ℕ → Bool
point r = is_there (point_reason r)

-- ---- each loader

app_row_told : (row : app_row.AppRow) (r : ℕ) → apps.row_reason row ≡ Some r → monitor r ≡ true
unfolding apps.row_reason
app_row_told row r e = of_two (apps.is_used row && is_none row.name) (nat_lt 11 row.action) 1 2 r monitor refl refl e

apps_told : (payload : List ℕ) (fault : EntryFault) → apps.rows_fault_of payload ≡ Some fault → monitor fault.reason ≡ true
unfolding apps.rows_fault_of
apps_told payload fault e = told_by apps.row_reason monitor (apps.rows_of payload) 1 fault app_row_told e

event_row_told : (row : event_row.EventRow) (r : ℕ) → events.row_reason row ≡ Some r → monitor r ≡ true
unfolding events.row_reason
event_row_told row r e = of_two (events.is_used row && is_none row.name) (nat_lt 11 row.action) 1 2 r monitor refl refl e

events_told : (payload : List ℕ) (fault : EntryFault) → events.rows_fault_of payload ≡ Some fault → monitor fault.reason ≡ true
unfolding events.rows_fault_of
events_told payload fault e = told_by events.row_reason monitor (events.rows_of payload) 1 fault event_row_told e

count_row_told : (row : count_row.CountRow) (r : ℕ) → counters.row_reason row ≡ Some r → counter r ≡ true
unfolding counters.row_reason
count_row_told row r e = of_two (counters.is_used row && is_none row.name) (nat_lt 4 row.sort) 1 3 r counter refl refl e

counters_told : (payload : List ℕ) (fault : EntryFault) → counters.rows_fault_of payload ≡ Some fault → counter fault.reason ≡ true
unfolding counters.rows_fault_of
counters_told payload fault e = told_by counters.row_reason counter (counters.rows_of payload) 1 fault count_row_told e

action_row_told : (row : action_row.ActRow) (r : ℕ) → actions.row_reason row ≡ Some r → action r ≡ true
unfolding actions.row_reason
action_row_told row r e = of_two (actions.is_used row && is_none row.packet) (nat_lt 2 row.state) 4 5 r action refl refl e

actions_told : (payload : List ℕ) (fault : EntryFault) → actions.rows_fault_of payload ≡ Some fault → action fault.reason ≡ true
unfolding actions.rows_fault_of
actions_told payload fault e = told_by actions.row_reason action (actions.rows_of payload) 1 fault action_row_told e

dwell_entry_told : (entry : DwellEntry) (r : ℕ) → entry_reason entry ≡ Some r → dwell r ≡ true
unfolding entry_reason
dwell_entry_told entry r e = or_unless (not (is_length entry.len)) (is_aligned entry) 1 3 r dwell refl refl e

flag_or : (b : Bool) (rest : Option EntryFault) (fault : EntryFault) → (rest ≡ Some fault → dwell fault.reason ≡ true) → (if b then Some (record { entry = 0; reason = 2 }) else rest) ≡ Some fault → dwell fault.reason ≡ true
flag_or true rest fault later e = let same : 2 ≡ fault.reason = ap reason_or e in rw (← same) refl
flag_or false rest fault later e = later e

dwells_told : (payload : List ℕ) (fault : EntryFault) → dwell_fault_of payload ≡ Some fault → dwell fault.reason ≡ true
unfolding dwell_fault_of
dwells_told payload fault e =
    flag_or (nat_lt 1 (be16_at payload 0)) (first_fault entry_reason 1 (entries_in payload)) fault (told_by entry_reason dwell (entries_in payload) 1 fault dwell_entry_told) e

segment_told : (s : Segment) (r : ℕ) → segment_reason s ≡ Some r → checksum r ≡ true
unfolding segment_reason
segment_told s r e = of_two (nat_lt 2 s.state) (not (s.state == 0) && (s.len == 0)) 1 2 r checksum refl refl e

segments_told : (payload : List ℕ) (fault : EntryFault) → segments_fault_of payload ≡ Some fault → checksum fault.reason ≡ true
unfolding segments_fault_of
segments_told payload fault e = told_by segment_reason checksum (segments_of payload) 1 fault segment_told e

watch_row_told : (row : WatchRow) (r : ℕ) → watchpoints.row_reason row ≡ Some r → watch r ≡ true
unfolding watchpoints.row_reason
watch_row_told row r e = of_two (nat_lt 3 row.kind) (watchpoints.is_used row && is_none row.operator) 1 2 r watch refl refl e

watches_told : (payload : List ℕ) (fault : EntryFault) → watchpoints.rows_fault_of payload ≡ Some fault → watch fault.reason ≡ true
unfolding watchpoints.rows_fault_of
watches_told payload fault e = told_by watchpoints.row_reason watch (watchpoints.rows_of payload) 1 fault watch_row_told e

of_three : (a b c d : Bool) (r : ℕ) → (if a then Some 1 else if b then None else if c then Some 2 else if d then None else Some 3) ≡ Some r → point r ≡ true
of_three true b c d r e = rw (← some_same 1 r e) refl
of_three false true c d r e = absurd (cc)
of_three false false true d r e = rw (← some_same 2 r e) refl
of_three false false false true r e = absurd (cc)
of_three false false false false r e = rw (← some_same 3 r e) refl

point_row_told : (row : ActRow) (r : ℕ) → actionpoints.row_reason row ≡ Some r → point r ≡ true
unfolding actionpoints.row_reason
point_row_told row r e = of_three (nat_lt 2 row.state) (not (actionpoints.is_used row)) (not (actionpoints.is_startable row)) (actionpoints.is_whole row) r e

points_told : (payload : List ℕ) (fault : EntryFault) → actionpoints.rows_fault_of payload ≡ Some fault → point fault.reason ≡ true
unfolding actionpoints.rows_fault_of
points_told payload fault e = told_by actionpoints.row_reason point (actionpoints.rows_of payload) 1 fault point_row_told e

-- ---- sequences, whose reasons are 1 to 4

pub sequences_told : (r : ℕ) → 1 ≤ r → r ≤ 4 → is_there (sequence_reason r) ≡ true
sequences_told zero p q = absurd (omega arith)
sequences_told (suc zero) p q = refl
sequences_told (suc (suc zero)) p q = refl
sequences_told (suc (suc (suc zero))) p q = refl
sequences_told (suc (suc (suc (suc zero)))) p q = refl
sequences_told (suc (suc (suc (suc (suc r))))) p q = absurd (omega arith)

-- each reason that a loader of entries gives has words
pub refusals_told : (kind : TableKind) (payload : List ℕ) (fault : EntryFault) → is_sequence kind ≡ false → entry_fault_of kind payload ≡ Some fault → is_there (reason_of kind fault.reason) ≡ true
refusals_told AppMon payload fault s e = apps_told payload fault e
refusals_told EventMon payload fault s e = events_told payload fault e
refusals_told ExeCount payload fault s e = counters_told payload fault e
refusals_told MsgActs payload fault s e = actions_told payload fault e
refusals_told (Ats n) payload fault s e = absurd (cc)
refusals_told (Rts n) payload fault s e = absurd (cc)
refusals_told (Dwell n) payload fault s e = dwells_told payload fault e
refusals_told Eeprom payload fault s e = segments_told payload fault e
refusals_told Memory payload fault s e = segments_told payload fault e
refusals_told Wdt payload fault s e = watches_told payload fault e
refusals_told Adt payload fault s e = points_told payload fault e
