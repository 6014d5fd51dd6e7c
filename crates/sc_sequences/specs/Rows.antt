-- Packets, tables and wakeups of the worked rows.
use Rattle.std.specs.Prelude.{ℕ, ◌+◌, true, List, [], ◌∷◌, ◌++◌, replicate, slice_set}
use Rattle.histories.specs.Entries.Entry.{Woken}
use Rattle.bus_pipes.specs.declared.names.Out.{Out}
use Rattle.bus_pipes.specs.declared.names.Out.TheVariants.{Made}
use Rattle.sc_tables.specs.Commands.{TimedCommand}
use Rattle.sc_sequences.specs.Sequences.{Sequence, waiting}
use Rattle.sc_sequences.specs.Verdicts.{Basis}
use Rattle.sc_sequences.specs.Histories.{Input, ScEntry, Beginning, input_of, begun_at}
use Rattle.sc_sequences.specs.Step.{sc_items}

-- the no-ops of Memory Manager, Memory Dwell and Checksum, and that of Memory Manager with a wrong checksum
abbrev pub mm_noop : List ℕ
mm_noop = 0x18 ∷ 0x88 ∷ 0xC0 ∷ 0 ∷ 0 ∷ 1 ∷ 0 ∷ 0xAE ∷ []

abbrev pub md_noop : List ℕ
md_noop = 0x18 ∷ 0x90 ∷ 0xC0 ∷ 0 ∷ 0 ∷ 1 ∷ 0 ∷ 0xB6 ∷ []

abbrev pub cs_noop : List ℕ
cs_noop = 0x18 ∷ 0x9F ∷ 0xC0 ∷ 0 ∷ 0 ∷ 1 ∷ 0 ∷ 0xB9 ∷ []

abbrev pub bad_noop : List ℕ
bad_noop = 0x18 ∷ 0x88 ∷ 0xC0 ∷ 0 ∷ 0 ∷ 1 ∷ 0 ∷ 0xAF ∷ []

-- commands of Stored Command: without a payload, with the number of a sequence, and a jump to second n below 256 behind 768
abbrev pub bare : ℕ → ℕ → List ℕ
bare code check = 0x18 ∷ 0xA9 ∷ 0xC0 ∷ 0 ∷ 0 ∷ 1 ∷ code ∷ check ∷ []

abbrev pub numbered : ℕ → ℕ → ℕ → List ℕ
numbered code check number = 0x18 ∷ 0xA9 ∷ 0xC0 ∷ 0 ∷ 0 ∷ 3 ∷ code ∷ check ∷ 0 ∷ number ∷ []

abbrev pub jump_to : ℕ → ℕ → List ℕ
jump_to check low = 0x18 ∷ 0xA9 ∷ 0xC0 ∷ 0 ∷ 0 ∷ 5 ∷ 9 ∷ check ∷ 0 ∷ 0 ∷ 3 ∷ low ∷ []

abbrev pub request : List ℕ
request = 0x18 ∷ 0xAA ∷ 0xC0 ∷ 0 ∷ 0 ∷ 1 ∷ 0 ∷ 0x8C ∷ []

-- an event of Stored Command: its id, its type, and the second behind 1,000
abbrev pub told : ℕ → ℕ → ℕ → Out
told id kind second = Made (
    8 ∷ 8 ∷ 0xC0 ∷ 0 ∷ 0 ∷ 0x25 ∷ 0 ∷ 0 ∷ 3 ∷ (0xE8 + second) ∷ 0 ∷ 0
    ∷ 0x53 ∷ 0x43 ∷ 0 ∷ 0 ∷ 0 ∷ 0 ∷ 0 ∷ 0 ∷ 0 ∷ 0 ∷ 0 ∷ 0 ∷ 0 ∷ 0 ∷ 0 ∷ 0 ∷ 0 ∷ 0 ∷ 0 ∷ 0
    ∷ 0 ∷ id ∷ 0 ∷ kind ∷ 0 ∷ 0 ∷ 0 ∷ 0x42 ∷ 0 ∷ 0 ∷ 0 ∷ 1 ∷ [])

-- a command with its tag
abbrev pub timed : ℕ → List ℕ → TimedCommand
timed tag packet = record { tag = tag; packet = packet }

-- tables in which nothing is loaded, and with the commands of one sequence more
abbrev pub no_tables : List (List TimedCommand)
no_tables = replicate 66 []

abbrev pub with_ats : ℕ → List TimedCommand → List (List TimedCommand) → List (List TimedCommand)
with_ats place commands tables = slice_set tables place commands

abbrev pub with_rts : ℕ → List TimedCommand → List (List TimedCommand) → List (List TimedCommand)
with_rts n commands tables = slice_set tables (n + 1) commands

-- what begins at second 1,000
abbrev pub begun : List (List TimedCommand) → Beginning
begun tables = begun_at 1000 tables

-- a wakeup at a second behind 1,000
abbrev pub at_second : ℕ → List (List ℕ) → Input
at_second second packets = input_of (1000 + second) packets

-- tables whose first absolute sequence has a command two seconds behind the beginning, and the wakeup in which it is started
abbrev pub one_in_first : List (List TimedCommand)
one_in_first = with_ats 0 (timed 1002 mm_noop ∷ []) no_tables

abbrev pub start_heard : ScEntry
start_heard = Woken (at_second 0 (numbered 2 0x8E 1 ∷ []))

-- what is sent in these wakeups, behind a history
abbrev pub sent_behind : Beginning → List ScEntry → List Input → List (List Out)
sent_behind begin history [] = []
sent_behind begin history (input ∷ inputs) = sc_items begin history input ∷ sent_behind begin (history ++ Woken input ∷ []) inputs

-- what is sent in wakeups on these packets, one each second from 1,000 on
abbrev pub inputs_from : ℕ → List (List (List ℕ)) → List Input
inputs_from second [] = []
inputs_from second (packets ∷ wakeups) = at_second second packets ∷ inputs_from (second + 1) wakeups

abbrev pub sent_each_second : List (List TimedCommand) → List (List (List ℕ)) → List (List Out)
sent_each_second tables wakeups = sent_behind (begun tables) [] (inputs_from 0 wakeups)

-- a peek of a byte at 0x1000 and n below 256
abbrev pub peek : ℕ → ℕ → List ℕ
peek check low = 0x18 ∷ 0x88 ∷ 0xC0 ∷ 0 ∷ 0 ∷ 6 ∷ 2 ∷ check ∷ 8 ∷ 0 ∷ 0 ∷ 0x10 ∷ low ∷ []

-- sequences that run and are enabled, and one that waits
abbrev pub all_running : ℕ → List Sequence
all_running n = replicate n (record { loaded = timed 0 mm_noop ∷ []; left = timed 0 mm_noop ∷ []; base = 1000; enabled = true })

abbrev pub waiting_one : Sequence
waiting_one = waiting []

-- sequences that all wait, with a command at the latest time, and relative ones that are enabled
abbrev pub at_any : Basis
at_any = record { time = 1000; all = replicate 66 (record { loaded = timed 0xFFFFFFFF mm_noop ∷ []; left = []; base = 0; enabled = true }) }

-- commands with the number of a sequence over 255
abbrev pub numbered_wide : ℕ → ℕ → ℕ → ℕ → List ℕ
numbered_wide code check high low = 0x18 ∷ 0xA9 ∷ 0xC0 ∷ 0 ∷ 0 ∷ 3 ∷ code ∷ check ∷ high ∷ low ∷ []

-- an event of Stored Command of type 2, at the time 0x01020300 and so many seconds
abbrev pub told_late : ℕ → ℕ → Out
told_late id second = Made (
    8 ∷ 8 ∷ 0xC0 ∷ 0 ∷ 0 ∷ 0x25 ∷ 1 ∷ 2 ∷ 3 ∷ second ∷ 0 ∷ 0
    ∷ 0x53 ∷ 0x43 ∷ 0 ∷ 0 ∷ 0 ∷ 0 ∷ 0 ∷ 0 ∷ 0 ∷ 0 ∷ 0 ∷ 0 ∷ 0 ∷ 0 ∷ 0 ∷ 0 ∷ 0 ∷ 0 ∷ 0 ∷ 0
    ∷ 0 ∷ id ∷ 0 ∷ 2 ∷ 0 ∷ 0 ∷ 0 ∷ 0x42 ∷ 0 ∷ 0 ∷ 0 ∷ 1 ∷ [])

-- housekeeping at second n below 24 behind 1,000: both counts, the absolute sequence that runs, its commands left, the commands sent and
-- those with a wrong checksum, all below 256, and no relative sequence
abbrev pub shown : ℕ → ℕ → ℕ → ℕ → ℕ → ℕ → ℕ → Out
shown n accepted errors ats left sent wrong = Made (
    (8 ∷ 0xAA ∷ 0xC0 ∷ 0 ∷ 0 ∷ 0x21 ∷ 0 ∷ 0 ∷ 3 ∷ (0xE8 + n) ∷ 0 ∷ 0
    ∷ accepted ∷ errors ∷ ats ∷ 0 ∷ 0 ∷ left ∷ 0 ∷ sent ∷ 0 ∷ wrong ∷ 0 ∷ 0 ∷ []) ++ replicate 16 0)
