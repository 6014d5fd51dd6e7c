-- Which events of what the applications give stand in the table of events.
use Rattle.std.specs.Prelude.{◌≡◌, ℕ, ◌+◌, ◌==◌, true, ◌&&◌, List, map, filter, Option, Some, None, is_some}
use Rattle.std.specs.List.{AllByRecursion}
use Rattle.std.specs.Str.{bytes_eq}
use Rattle.packet_forms.specs.Built.{event_of}
use Rattle.packet_forms.specs.Names.{name_of}
use Rattle.packet_forms.specs.Packets.{function_code}
use Rattle.bus_pipes.specs.declared.names.Out.{Out}
use Rattle.bus_pipes.specs.declared.names.Out.TheVariants as outs
use Rattle.commands.specs.Verdicts.{Protocol, verdict_at}
use Rattle.commands.specs.declared.verdicts.Verdict.{Verdict}
use Rattle.commands.specs.declared.verdicts.Verdict.TheVariants.{Other, Request, Refused, Accepted}
use Rattle.events.specs.Events.{kind_number, event_row}
use Rattle.events.specs.Refusals.{reason_of}
use Rattle.events.specs.Tables.{event_table, refusal_table}

-- The table has an application's event of this number and this type.
abbrev pub HasEvent : List ℕ → ℕ → ℕ → Type 0
HasEvent application number kind = is_some (event_row event_table application number kind) ≡ true

-- The tables have the event of a refusal, and why it refuses a command of this code.
abbrev pub HasRefusal : List ℕ → ℕ → ℕ → Type 0
HasRefusal application code number =
    (is_some (event_row event_table application number 3) && is_some (reason_of refusal_table application code number)) ≡ true

-- They have what answers a packet of this code with this verdict: the refusal of the code, or the event of its acceptance.
abbrev pub HasAnswer : {I : Type 0} → List ℕ → ℕ → Verdict I → Type 0
HasAnswer application code Other = Unit {0}
HasAnswer application code Request = Unit {0}
HasAnswer application code (Refused reason) = HasRefusal application code reason
HasAnswer application code (Accepted accepted instruction) = HasEvent application (16 + accepted) 2

-- They have what answers a command of a code, by the command's own refusal.
abbrev pub HasOwn : {E : Type 0} → List ℕ → (E → ℕ) → ℕ → Option E → Type 0
HasOwn application number code None = HasEvent application (16 + code) 2
HasOwn application number code (Some reason) = HasRefusal application code (number reason)

-- Whatever an application has come to, and whatever packet it reads: the tables have what answers it.
abbrev pub AreAnswersTold : {B I E : Type 0} → List ℕ → Protocol B I E → Type 0
AreAnswersTold {B} {I} {E} application protocol =
    (basis : B) (orders : List I) (p : List ℕ) → HasAnswer application (function_code p) (verdict_at protocol basis orders p)

-- An item that is made at a time is an application's event that the table has.
abbrev pub IsToldItem : List ℕ → ℕ → Out → Type 0
IsToldItem application time (outs.Made packet) = (number : ℕ) × (kind : ℕ) × (packet ≡ event_of (name_of application) number kind time) × HasEvent application number kind
IsToldItem application time (outs.Stored packet) = Unit {0}
IsToldItem application time outs.Reset = Unit {0}
IsToldItem application time (outs.Restart name) = Unit {0}
IsToldItem application time (outs.Delete name) = Unit {0}

abbrev pub AreToldItems : List ℕ → ℕ → List Out → Type 0
AreToldItems application time items = AllByRecursion (IsToldItem application time) items

-- The numbers of the table's events of an application and a type, in their order.
abbrev pub numbers_of : List ℕ → ℕ → List ℕ
numbers_of application kind = map (λ e. e.number) (filter (λ e. bytes_eq e.application.now application && (kind_number e.kind == kind)) event_table)
