-- The telemetry that the limit checker takes.
use Rattle.std.specs.Prelude.{ℕ, ◌==◌, Bool}
use Rattle.std.specs.List.{list_any}
use Rattle.bus_pipes.specs.Pipes.{watched_ids}

unfoldable pub is_watched : ℕ → Bool
is_watched id = list_any (λ watched. watched == id) watched_ids
