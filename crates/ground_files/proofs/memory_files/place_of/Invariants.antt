use Rattle.std.proofs.Common.{◌≡◌, ◌+◌, drop}
use Rattle.std.specs.Prelude.{option_map}
use Rattle.ground_files.specs.Memory.{first_place}
use Rattle.ground_files.proofs.memory_files.place_of.Given as goal

-- no file before this one has the name
abbrev pub invariant-loop-place : goal.invariant-loop-place
invariant-loop-place l = first_place l.files l.name ≡ option_map (λ place. l.place + place) (first_place (drop l.place l.files) l.name)
