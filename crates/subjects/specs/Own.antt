-- The simulated applications that a rehearsal is given by `--subjects`.
use Rattle.std.specs.Prelude.{List, [], ◌∷◌, codes}
use Rattle.packet_forms.specs.Names.{name_of}
use Rattle.subjects.specs.Plans.{Simulated, starting, steady_plan, hanging_plan}
use Rattle.subjects.specs.declared.own.Own.{Own}
use Rattle.subjects.specs.declared.own.Own.TheVariants.{Steady, Hanging, Listed}

-- one that runs on, one that hangs after four cycles, and one whose counter stays now and then
abbrev pub own_subjects : List Simulated
own_subjects =
    starting (name_of (codes "NAV")) steady_plan
    ∷ starting (name_of (codes "PWR")) (hanging_plan 4)
    ∷ starting (name_of (codes "THM")) (record { values = 5 ∷ 5 ∷ 6 ∷ []; back = 0 })
    ∷ []

-- what each is seen as
abbrev pub seen_own : Own → Simulated
seen_own (Steady subject) = subject
seen_own (Hanging subject) = subject
seen_own (Listed subject) = subject
