-- What a sink over memory tells.
use Rattle.std.specs.Prelude.{ℕ, List, Option, Some, None, option_map, if◌then◌else◌}
use Rattle.fsw_outside.specs.Memory.{can_rise}
use Rattle.fsw_outside.specs.Tally.{Tally, tally_of}
use Rattle.fsw_outside.specs.declared.mem_sink.MemSink.{MemSink}

-- The bytes that it holds.
abbrev pub held_bytes : MemSink → List ℕ
held_bytes sink = sink.bytes.items

-- What the sink tells: nothing once its count of faults has come to its end.
abbrev pub told_bytes : MemSink → Option (List ℕ)
told_bytes sink = if can_rise sink.faults then Some (held_bytes sink) else None

-- The tally of what it tells.
abbrev pub told_tally : MemSink → Option Tally
told_tally sink = option_map tally_of (told_bytes sink)

-- How many bytes it can hold.
abbrev pub byte_room : MemSink → ℕ
byte_room sink = sink.room

-- The numbers of the calls that fail.
abbrev pub failing_calls : MemSink → List ℕ
failing_calls sink = sink.fails.items

-- How many calls there were, which is the number of the next one.
abbrev pub call_count : MemSink → ℕ
call_count sink = sink.calls

-- How often the sink has failed.
abbrev pub fault_count : MemSink → ℕ
fault_count sink = sink.faults

-- How many bytes a call takes at most.
abbrev pub most_bytes : MemSink → ℕ
most_bytes sink = sink.most
