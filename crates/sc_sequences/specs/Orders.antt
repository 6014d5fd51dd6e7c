-- What accepted commands make of the sequences.
use Rattle.std.specs.Prelude.{ℕ, true, false, Bool, List, Option, Some, None}
use Rattle.std.specs.List.{fold}
use Rattle.sc_sequences.specs.Sequences.{Sequence, with_at, ats_place, rts_place, going_on, stopped, from_time, started_at, running_ats, other_ats}
use Rattle.sc_sequences.specs.declared.instructions.Instruction.{Instruction}
use Rattle.sc_sequences.specs.declared.instructions.Instruction.TheVariants.{Plain, StartAts, StopAts, StartRts, StopRts, DisableRts, EnableRts, SwitchAts, JumpAts}

-- A change of the sequence in a place, where there is one.
abbrev pub where_placed : Option ℕ → (ℕ → List Sequence → List Sequence) → List Sequence → List Sequence
where_placed None change all = all
where_placed (Some place) change all = change place all

-- A sequence that may or may not be started from now on. One that runs goes on.
abbrev pub allowed : Bool → Sequence → Sequence
allowed on s = record s { enabled = on }

-- A switch stops the absolute sequence that runs and starts the other. A jump skips the commands before a time.
abbrev pub switched : ℕ → ℕ → List Sequence → List Sequence
switched now place all = started_at (other_ats place) now (with_at place stopped all)

abbrev pub jumped : ℕ → ℕ → ℕ → List Sequence → List Sequence
jumped now time place all = with_at place (λ s. going_on place now (from_time time s.left) s) all

-- The sequences after an accepted command at the time `now`.
abbrev pub obeyed : ℕ → List Sequence → Instruction → List Sequence
obeyed now all Plain = all
obeyed now all (StartAts number) = where_placed (ats_place number) (λ place. started_at place now) all
obeyed now all StopAts = with_at 1 stopped (with_at 0 stopped all)
obeyed now all (StartRts number) = where_placed (rts_place number) (λ place. started_at place now) all
obeyed now all (StopRts number) = where_placed (rts_place number) (λ place. with_at place stopped) all
obeyed now all (DisableRts number) = where_placed (rts_place number) (λ place. with_at place (allowed false)) all
obeyed now all (EnableRts number) = where_placed (rts_place number) (λ place. with_at place (allowed true)) all
obeyed now all SwitchAts = where_placed (running_ats all) (λ place. switched now place) all
obeyed now all (JumpAts time) = where_placed (running_ats all) (λ place. jumped now time place) all

-- The sequences after several accepted commands.
unfoldable pub after_orders : ℕ → List Sequence → List Instruction → List Sequence
after_orders now all orders = fold (obeyed now) all orders
