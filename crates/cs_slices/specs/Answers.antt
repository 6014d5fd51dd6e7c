-- The packets with which CS answers its commands before their events, and what it tells of a slice.
use Rattle.std.specs.Prelude.{ℕ, if◌then◌else◌, List, [], ◌∷◌, ◌++◌, Option, Some, None}
use Rattle.packet_forms.specs.MessageIds.{cs_baseline}
use Rattle.packet_forms.specs.Numbers.{be16_bytes}
use Rattle.packet_forms.specs.Built.{telemetry_of, event_of}
use Rattle.bus_pipes.specs.declared.names.Out.{Out}
use Rattle.bus_pipes.specs.declared.names.Out.TheVariants.{Made}
use Rattle.cs_slices.specs.Messages.{cs_name, event_number, event_kind}
use Rattle.cs_slices.specs.Instructions.{entry_place}
use Rattle.cs_slices.specs.Happenings.{Slice, Happening}
use Rattle.cs_slices.specs.Passes.{baseline_at, differs_behind}
use Rattle.cs_slices.specs.declared.messages.Event.{Event}
use Rattle.cs_slices.specs.declared.messages.Event.TheVariants.{Miscompare}
use Rattle.cs_slices.specs.declared.instructions.Instruction.{Instruction}
use Rattle.cs_slices.specs.declared.instructions.Instruction.TheVariants.{Plain, Whole, Table, Entry, Report}

-- A baseline: 1 and the check, or 0 and 0 where there is none.
abbrev pub baseline_bytes : Option ℕ → List ℕ
baseline_bytes None = be16_bytes 0 ++ be16_bytes 0
baseline_bytes (Some check) = be16_bytes 1 ++ be16_bytes check

-- The baseline packet of an entry.
unfoldable pub baseline_packet : ℕ → ℕ → ℕ → Option ℕ → List ℕ
baseline_packet time table number base = telemetry_of cs_baseline time (be16_bytes table ++ be16_bytes number ++ baseline_bytes base)

-- What an order is answered with before its event, by what happened before.
abbrev pub replies_to : ℕ → List Happening → Instruction → List Out
replies_to time happened Plain = []
replies_to time happened (Whole on) = []
replies_to time happened (Table table on) = []
replies_to time happened (Entry table number on) = []
replies_to time happened (Report table number) = Made (baseline_packet time table number (baseline_at (entry_place table number) happened)) ∷ []

-- An event at the time `now`.
abbrev pub cs_event : Event → ℕ → Out
cs_event event now = Made (event_of cs_name (event_number event) (event_kind event) now)

-- The event of a miscompare, where the wakeup's slice shows one.
abbrev pub slice_items : ℕ → List Happening → Option Slice → List Out
slice_items time happened None = []
slice_items time happened (Some s) = if differs_behind happened s then cs_event Miscompare time ∷ [] else []
