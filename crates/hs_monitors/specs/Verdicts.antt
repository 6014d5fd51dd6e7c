-- What Health and Safety makes of its packets: it refuses no command for a reason of its own.
use Rattle.std.specs.Prelude.{ℕ, List, Option, None}
use Rattle.commands.specs.Verdicts.{Protocol, protocol_of}
use Rattle.hs_monitors.specs.Instructions.{hs_language}
use Rattle.hs_monitors.specs.declared.verdicts.Refusal.{Refusal}
use Rattle.hs_monitors.specs.declared.instructions.Instruction.{Instruction}

-- No refusal has this number.
abbrev pub number_of : Refusal → ℕ
number_of reason = 4

-- A command's own refusal: there is none.
abbrev pub own_refusal : Unit {0} → List Instruction → Instruction → Option Refusal
own_refusal basis orders instruction = None

abbrev pub hs_protocol : Protocol (Unit {0}) Instruction Refusal
hs_protocol = protocol_of hs_language number_of own_refusal
