-- What a kept cursor says of the time of its next command: the span of 2^32 seconds in which it lies, and the seconds in it.
use Rattle.std.specs.Prelude.{◌≡◌, ◌<◌, ℕ, ◌+◌, ◌-◌, if◌then◌else◌, nat_lt, Option, Some, None}
use Rattle.sc_sequences.specs.declared.kept.Span.{Span}
use Rattle.sc_sequences.specs.declared.kept.Span.TheVariants.{Never, First, Second}

abbrev pub time_of : Span → ℕ → Option ℕ
time_of Never low = None
time_of First low = Some low
time_of Second low = Some (low + 4294967296)

-- The seconds are below 2^32, and 0 where there is no time.
abbrev pub IsKept : Span → ℕ → Type 0
IsKept Never low = low ≡ 0
IsKept First low = low < 4294967296
IsKept Second low = low < 4294967296

abbrev pub span_of : Option ℕ → Span
span_of None = Never
span_of (Some time) = if nat_lt time 4294967296 then First else Second

abbrev pub low_of : Option ℕ → ℕ
low_of None = 0
low_of (Some time) = if nat_lt time 4294967296 then time else time - 4294967296
