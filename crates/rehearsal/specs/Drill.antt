-- The text of a generated scenario, as it is read.
use Rattle.std.specs.Prelude.{ℕ, List}
use Rattle.rehearsal.specs.declared.drill.DrillText.{DrillText}

-- what is still to come of it
abbrev pub unread_in : DrillText → List ℕ
unread_in t = t.drill
