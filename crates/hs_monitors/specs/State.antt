-- When a state of Health and Safety stands for what it was set up with and a history, and when it has nothing to do.
use Rattle.std.specs.Prelude.{◌≡◌, ◌==◌, ◌+◌, ◌<◌, ℕ, nat_lt, Bool, true, false, not, ◌&&◌, List, [], ◌++◌, length, Option, Some, None}
use Rattle.commands.specs.Counting.{counts_of}
use Rattle.table_files.specs.declared.kinds.TableKind.{TableKind}
use Rattle.table_files.specs.declared.kinds.TableKind.TheVariants.{AppMon, EventMon, ExeCount, MsgActs, Ats, Rts, Dwell, Eeprom, Memory, Wdt, Adt}
use Rattle.hs_tables.specs.declared.actions.ActRow.{ActRow}
use Rattle.hs_tables.specs.declared.tables.HsTables.{HsTables}
use Rattle.hs_actions.specs.Outcomes.{Past}
use Rattle.hs_actions.specs.State.{ActionsStand, is_cooling}
use Rattle.hs_monitors.specs.Histories.{HsEntry, Setup, Activation, apps_after, events_after}
use Rattle.hs_monitors.specs.Histories.Activation.{Apps, Events, Counts}
use Rattle.hs_monitors.specs.Orders.{orders_of, is_on, is_listening}
use Rattle.hs_monitors.specs.Watches.{watch_at}
use Rattle.hs_monitors.specs.Monitors.{places_of}
use Rattle.hs_monitors.specs.Events.{SendersStand}
use Rattle.hs_monitors.specs.Attempts.{past_of}
use Rattle.hs_monitors.specs.Step.{hs_heard}
use Rattle.hs_monitors.specs.Entries.{KeptStands}
use Rattle.hs_monitors.specs.declared.instructions.Instruction.{Instruction}
use Rattle.hs_monitors.specs.declared.duty.Duty.{Duty}
use Rattle.hs_monitors.specs.declared.state.Hs.{Hs}

-- The duty stands for a history, what was ordered in the next wakeup so far, and what happened to the actions.
pub record DutyStands (setup : Setup) (history : List HsEntry) (orders : List Instruction) (past : Past) (duty : Duty) : Type 0 where
  pub monitoring : duty.monitoring ≡ is_on (orders_of history ++ orders)
  pub listening : duty.listening ≡ is_listening (orders_of history ++ orders)
  pub places : duty.places ≡ places_of (apps_after setup history)
  pub kept : KeptStands (apps_after setup history) (watch_at history orders) duty.kept
  pub senders : SendersStand (events_after setup history) duty.senders
  pub actions : ActionsStand setup.tables.acts past duty.actions

-- The state stands for what it was set up with and a history.
pub record StandsFor (setup : Setup) (history : List HsEntry) (hs : Hs) : Type 0 where
  pub counts : hs.counts ≡ counts_of (hs_heard history)
  pub duty : DutyStands setup history [] (past_of setup history) hs.duty

unfoldable pub Stands : Setup → List HsEntry → Hs → Type 0
Stands setup history hs = StandsFor setup history hs

-- The monitors have nothing to do without packets where no cooldown runs, and application monitoring is off or no entry is used.
unfoldable pub are_idle : Setup → List HsEntry → Bool
are_idle setup history =
    not (is_on (orders_of history) && nat_lt 0 (places_of (apps_after setup history))) && not (is_cooling setup.tables.acts (past_of setup history))

-- Health and Safety has nothing to do where there are no packets and its monitors have nothing to do.
unfoldable pub is_idle_on : Setup → List HsEntry → List (List ℕ) → List (List ℕ) → Bool
is_idle_on setup history commands events = ((length commands == 0) && (length events == 0)) && are_idle setup history

-- A wakeup without packets and counters does nothing but count a check: application monitoring is on, no cooldown runs, and no countdown can end.
pub record OnlyCounts (duty : Duty) : Type 0 where
  pub on : duty.monitoring ≡ true
  pub cool : (acts : List ActRow) (past : Past) → ActionsStand acts past duty.actions → is_cooling acts past ≡ false
  pub soon : duty.kept.passed + 1 < duty.kept.least

-- The activation of a kind that Health and Safety has, with the table of the kind; none of another.
abbrev pub activation_of : TableKind → HsTables → Option Activation
activation_of AppMon tables = Some (Apps tables.apps)
activation_of EventMon tables = Some (Events tables.events)
activation_of ExeCount tables = Some (Counts tables.counts)
activation_of MsgActs tables = None
activation_of (Ats n) tables = None
activation_of (Rts n) tables = None
activation_of (Dwell n) tables = None
activation_of Eeprom tables = None
activation_of Memory tables = None
activation_of Wdt tables = None
activation_of Adt tables = None
