-- Which of LC's commands are refused, by the actionpoints of its table.
use Rattle.std.specs.Prelude.{ℕ, ◌-◌, ◌==◌, ◌||◌, nat_lt, if◌then◌else◌, List, Option, Some, None}
use Rattle.commands.specs.Verdicts.{Protocol, protocol_of}
use Rattle.lc_watch.specs.Actionpoints.{is_used, act_at}
use Rattle.lc_watch.specs.Instructions.{lc_language}
use Rattle.lc_watch.specs.declared.actionpoints.ActRow.{ActRow}
use Rattle.lc_watch.specs.declared.verdicts.Refusal.{Refusal}
use Rattle.lc_watch.specs.declared.verdicts.Refusal.TheVariants.{Number, Unused}
use Rattle.lc_watch.specs.declared.instructions.Instruction.{Instruction}
use Rattle.lc_watch.specs.declared.instructions.Instruction.TheVariants.{Plain, Switch}

-- The number of a refusal: 4 there is no such actionpoint, 5 it isn't used.
abbrev pub number_of : Refusal → ℕ
number_of Number = 4
number_of Unused = 5

-- The refusal of an actionpoint that a command names.
abbrev pub point_refusal : List ActRow → ℕ → Option Refusal
point_refusal actions number =
    if (number == 0) || nat_lt 16 number then Some Number
    else if is_used (act_at actions (number - 1)) then None
    else Some Unused

-- A command's own refusal.
abbrev pub own_refusal : List ActRow → Instruction → Option Refusal
own_refusal actions Plain = None
own_refusal actions (Switch number on) = point_refusal actions number

-- What LC makes of its packets.
abbrev pub lc_protocol : Protocol (List ActRow) Instruction Refusal
lc_protocol = protocol_of lc_language number_of (λ actions orders instruction. own_refusal actions instruction)
