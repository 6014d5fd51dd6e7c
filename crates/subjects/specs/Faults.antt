-- Why a list of counters and a place are no plan.
use Rattle.std.specs.Prelude.{ℕ, ◌==◌, nat_lt, if◌then◌else◌, List, length, Option, Some, None}
use Rattle.subjects.specs.declared.listed.PlanFault.{PlanFault}
use Rattle.subjects.specs.declared.listed.PlanFault.TheVariants.{Empty, Back}

-- the first fault, in the order in which they are asked, or none where it is a plan
unfoldable pub plan_fault_of : List ℕ → ℕ → Option PlanFault
plan_fault_of values back =
    if length values == 0 then Some Empty
    else if nat_lt back (length values) then None
    else Some Back

-- the number of a fault, by the order in which they are asked
abbrev pub plan_fault_number : PlanFault → ℕ
plan_fault_number Empty = 1
plan_fault_number Back = 2
