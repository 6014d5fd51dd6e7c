-- What a sink over a draft tells.
use Rattle.std.specs.Prelude.{ℕ, Bool, ◌&&◌, ◌==◌, List, Option, None, if◌then◌else◌}

-- what a draft tells, where drafts tell their bytes, and no write failed
abbrev pub told_while_well : Bool → ℕ → Option (List ℕ) → Option (List ℕ)
told_while_well are_told faults contents = if are_told && (faults == 0) then contents else None
