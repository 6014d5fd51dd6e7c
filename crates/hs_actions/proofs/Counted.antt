-- What an attempt gives is counted, or needs no count.
use Rattle.std.proofs.Common.{◌≡◌, ℕ, Bool, true, false, cond, List, [], ◌∷◌, Option, Some, None, refl, sym, ap, subst, ◌∙◌, lit<}
use Rattle.std.specs.Prelude.{◌==◌, ◌+◌}
use Rattle.std.specs.List.{All, AllPass}
use Rattle.std.proofs.lemmas.List.Elements.{All-nil, All-cons, All-append}
use Rattle.packet_forms.specs.Built.{event_of, event_payload}
use Rattle.packet_forms.proofs.Forms.{telemetry_message_id}
use Rattle.bus_pipes.specs.Held.{Held, adding}
use Rattle.bus_pipes.specs.Counted.{is_counted, is_item_counted}
use Rattle.bus_pipes.specs.declared.names.Out.{Out}
use Rattle.bus_pipes.specs.declared.names.Out.TheVariants as outs
use Rattle.bus_pipes.proofs.Deliveries.{items-adding}
use Rattle.hs_tables.specs.Actions.{entry_of}
use Rattle.hs_tables.specs.declared.actions.ActRow.{ActRow}
use Rattle.hs_tables.specs.declared.actions.ActEntry.{ActEntry}
use Rattle.hs_actions.specs.Outcomes.{act_at}
use Rattle.hs_actions.specs.Messages.{hs_name, event_base, event_place}
use Rattle.hs_actions.specs.Answers.{event_out, report_items, message_items, performed}
use Rattle.hs_actions.specs.declared.action.Action.{Action}
use Rattle.hs_actions.specs.declared.action.Action.TheVariants.{Reset, Restart, Report, Message}
use Rattle.hs_actions.specs.declared.action.Source.{Source}
use Rattle.hs_actions.specs.declared.action.Source.TheVariants.{AppMonitor, EventMonitor}
use Rattle.hs_actions.specs.declared.messages.Event.TheVariants.{ResetAsked, RestartAsked, Reported, MessageSent, NoResetLeft}

-- an item that needs no count or has one
abbrev Passes : Out → Type 0
Passes item = is_item_counted item ≡ true

event_passes : (time : ℕ) (source : Source) (n : ℕ) → Passes (event_out time source n)
unfolding event_out event_of is_counted
event_passes time source n = ap is_counted (telemetry_message_id 0x0808 time (event_payload hs_name (event_base source + n) 3) (lit< tt))

none : All Passes []
none = All-nil Passes

one : (item : Out) → Passes item → All Passes (item ∷ [])
one item passes = All-cons Passes item [] passes none

two : (first second : Out) → Passes first → Passes second → All Passes (first ∷ second ∷ [])
two first second p q = All-cons Passes first (second ∷ []) p (one second q)

message_passes : (time : ℕ) (source : Source) (found : Option ActEntry) → All Passes (message_items time source found)
message_passes time source None = none
message_passes time source (Some entry) = by_state (entry.state == 2)
  where
    by_state : (quiet : Bool) → All Passes (outs.Stored entry.packet ∷ cond quiet [] (event_out time source (event_place MessageSent) ∷ []))
    by_state true = one (outs.Stored entry.packet) refl
    by_state false = two (outs.Stored entry.packet) (event_out time source (event_place MessageSent)) refl (event_passes time source (event_place MessageSent))

report_passes : (time : ℕ) (source : Source) (name : List ℕ) → All Passes (report_items time source name)
report_passes time AppMonitor name = one (event_out time AppMonitor (event_place Reported)) (event_passes time AppMonitor (event_place Reported))
report_passes time EventMonitor name = two (event_out time EventMonitor (event_place Reported)) (outs.Delete name) (event_passes time EventMonitor (event_place Reported)) refl

performed_passes : (time : ℕ) (acts : List ActRow) (source : Source) (name : List ℕ) (action : Action) (went : Bool) → All Passes (performed time acts source name action went)
performed_passes time acts source name Reset true = two (event_out time source (event_place ResetAsked)) outs.Reset (event_passes time source (event_place ResetAsked)) refl
performed_passes time acts source name Reset false = one (event_out time source (event_place NoResetLeft)) (event_passes time source (event_place NoResetLeft))
performed_passes time acts source name Restart went = two (event_out time source (event_place RestartAsked)) (outs.Restart name) (event_passes time source (event_place RestartAsked)) refl
performed_passes time acts source name Report went = report_passes time source name
performed_passes time acts source name (Message place) true = message_passes time source (entry_of (act_at acts place))
performed_passes time acts source name (Message place) false = none

pub performed_counted : (time : ℕ) (acts : List ActRow) (source : Source) (name : List ℕ) (action : Action) (went : Bool) (before after : Held Out) → after ≡ adding before (performed time acts source name action went)
    → AllPass is_item_counted before.items → AllPass is_item_counted after.items
performed_counted time acts source name action went before after is earlier =
    let more = performed time acts source name action went in
    subst (λ (items : List Out). AllPass is_item_counted items) (sym (ap (λ (held : Held Out). held.items) is ∙ items-adding before more))
    (All-append Passes before.items more earlier (performed_passes time acts source name action went))
