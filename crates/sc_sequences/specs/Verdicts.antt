-- Which of Stored Command's commands are refused, by the sequences at their place.
use Rattle.std.specs.Prelude.{ℕ, not, if◌then◌else◌, List, Option, Some, None, is_some}
use Rattle.commands.specs.Verdicts.{Protocol, protocol_of}
use Rattle.sc_sequences.specs.Instructions.{sc_language}
use Rattle.sc_sequences.specs.Sequences.{Sequence, has_some, is_running, is_loaded, at_place, ats_place, rts_place, from_time, running_ats, other_ats}
use Rattle.sc_sequences.specs.Orders.{after_orders}
use Rattle.sc_sequences.specs.declared.verdicts.Refusal.{Refusal}
use Rattle.sc_sequences.specs.declared.verdicts.Refusal.TheVariants.{Number, NotLoaded, Running, NoneRemains, NoneRuns, Disabled}
use Rattle.sc_sequences.specs.declared.instructions.Instruction.{Instruction}
use Rattle.sc_sequences.specs.declared.instructions.Instruction.TheVariants.{Plain, StartAts, StopAts, StartRts, StopRts, DisableRts, EnableRts, SwitchAts, JumpAts}

-- The number of a refusal: 4 there is no such sequence, 5 it isn't loaded, 6 it runs (of absolute sequences, one runs), 7 no command
-- would remain, 8 no absolute sequence runs, 9 it is disabled.
abbrev pub number_of : Refusal → ℕ
number_of Number = 4
number_of NotLoaded = 5
number_of Running = 6
number_of NoneRemains = 7
number_of NoneRuns = 8
number_of Disabled = 9

-- The refusals to start an absolute sequence, by its place, and a relative one.
abbrev pub start_ats_refusal : ℕ → List Sequence → Option ℕ → Option Refusal
start_ats_refusal now all None = Some Number
start_ats_refusal now all (Some place) =
    if not (is_loaded (at_place all place)) then Some NotLoaded
    else if is_some (running_ats all) then Some Running
    else if not (has_some (from_time now (at_place all place).loaded)) then Some NoneRemains
    else None

abbrev pub start_rts_refusal : List Sequence → Option ℕ → Option Refusal
start_rts_refusal all None = Some Number
start_rts_refusal all (Some place) =
    if not (is_loaded (at_place all place)) then Some NotLoaded
    else if not (at_place all place).enabled then Some Disabled
    else if is_running (at_place all place) then Some Running
    else None

-- The refusals to stop or disable a relative sequence, and to enable one.
abbrev pub number_refusal : Option ℕ → Option Refusal
number_refusal None = Some Number
number_refusal (Some place) = None

abbrev pub enable_refusal : List Sequence → Option ℕ → Option Refusal
enable_refusal all None = Some Number
enable_refusal all (Some place) = if is_loaded (at_place all place) then None else Some NotLoaded

-- The refusals to switch from the absolute sequence that runs to the other, and to jump in it.
abbrev pub switch_refusal : ℕ → List Sequence → Option ℕ → Option Refusal
switch_refusal now all None = Some NoneRuns
switch_refusal now all (Some place) =
    if not (is_loaded (at_place all (other_ats place))) then Some NotLoaded
    else if not (has_some (from_time now (at_place all (other_ats place)).loaded)) then Some NoneRemains
    else None

abbrev pub jump_refusal : ℕ → List Sequence → Option ℕ → Option Refusal
jump_refusal time all None = Some NoneRuns
jump_refusal time all (Some place) = if has_some (from_time time (at_place all place).left) then None else Some NoneRemains

-- A command's own refusal at the time `now`.
abbrev pub own_refusal : ℕ → List Sequence → Instruction → Option Refusal
own_refusal now all Plain = None
own_refusal now all (StartAts number) = start_ats_refusal now all (ats_place number)
own_refusal now all StopAts = None
own_refusal now all (StartRts number) = start_rts_refusal all (rts_place number)
own_refusal now all (StopRts number) = number_refusal (rts_place number)
own_refusal now all (DisableRts number) = number_refusal (rts_place number)
own_refusal now all (EnableRts number) = enable_refusal all (rts_place number)
own_refusal now all SwitchAts = switch_refusal now all (running_ats all)
own_refusal now all (JumpAts time) = jump_refusal time all (running_ats all)

-- What refusals are decided by as a wakeup begins: its time, and the sequences.
pub record Basis : Type 0 where
  pub time : ℕ
  pub all : List Sequence

-- What Stored Command makes of its packets: each by the sequences behind what was ordered before it.
abbrev pub sc_protocol : Protocol Basis Instruction Refusal
sc_protocol = protocol_of sc_language number_of (λ basis orders instruction. own_refusal basis.time (after_orders basis.time basis.all orders) instruction)
