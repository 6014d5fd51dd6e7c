-- Crowds of simulated flight applications.
use Rattle.std.specs.Prelude.{ℕ, Bool, not, if◌then◌else◌, List, map, filter, bytes_eq}
use Rattle.packet_forms.specs.declared.name.Counter.{Counter}
use Rattle.subjects.specs.Plans.{Simulated, reading_of, cycled, restarted}

-- A crowd: its subjects in order, and the counters of the last cycle, none before the first.
pub record Seen (S : Type 0) : Type 0 where
  pub subjects : List S
  pub readings : List Counter

-- The counter that comes next, with the name of its subject.
abbrev pub counter_of : Simulated → Counter
counter_of s = record { name = s.name; value = reading_of s }

-- Whether a subject has this name.
unfoldable pub is_named : List ℕ → Simulated → Bool
is_named name s = bytes_eq s.name name

-- A subject after a request to restart this name.
unfoldable pub restarted_if : List ℕ → Simulated → Simulated
restarted_if name s = if is_named name s then restarted s else s

-- The subjects after a cycle, after a restart or a deletion of a name, and after a restart of all.
abbrev pub all_cycled : List Simulated → List Simulated
all_cycled subjects = map cycled subjects

abbrev pub with_restarted : List ℕ → List Simulated → List Simulated
with_restarted name subjects = map (restarted_if name) subjects

abbrev pub without : List ℕ → List Simulated → List Simulated
without name subjects = filter (λ s. not (is_named name s)) subjects

abbrev pub all_restarted : List Simulated → List Simulated
all_restarted subjects = map restarted subjects
