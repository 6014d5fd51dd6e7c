-- The two pipes of the limit checker, which may be there or not.
use Rattle.std.specs.Prelude.{ℕ, List, [], Option, Some, None, IfSome}
use Rattle.bus_pipes.specs.Pipes.{depth_of, IsSized}
use Rattle.bus_pipes.specs.declared.watch.WatchPipes.{WatchPipes}
use Rattle.bus_pipes.specs.declared.names.PipeName.TheVariants.{Lc, LcTlm}

-- the commands that they hold
abbrev pub commands_of : Option WatchPipes → List (List ℕ)
commands_of None = []
commands_of (Some watch) = watch.commands.packets

-- and the telemetry
abbrev pub telemetry_of : Option WatchPipes → List (List ℕ)
telemetry_of None = []
telemetry_of (Some watch) = watch.telemetry.packets

-- each has its depth
abbrev pub IsWatchSized : Option WatchPipes → Type 0
IsWatchSized watch = IfSome watch (λ w. IsSized (depth_of Lc) w.commands × IsSized (depth_of LcTlm) w.telemetry)
