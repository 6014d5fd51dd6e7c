-- The answering event as a counted item.
use Rattle.std.proofs.Common.{◌≡◌, ℕ, true, List, [], ◌∷◌, refl, ap, ◌∙◌, lit<, arith, ◌<◌, zero, suc}
use Rattle.std.specs.List.{All}
use Rattle.packet_forms.specs.Built.{telemetry_of, event_of, event_payload}
use Rattle.packet_forms.proofs.Forms.{telemetry_message_id}
use Rattle.bus_pipes.specs.Counted.{is_counted, is_item_counted}
use Rattle.bus_pipes.specs.declared.names.Out.TheVariants.{Made}

-- of no element
pub none_fail : {A : Type 0} (P : A → Type 0) → All P []
none_fail P k d within = absurd (omega arith)

-- of one element
pub one_passes : {A : Type 0} (P : A → Type 0) (x : A) → P x → All P (x ∷ [])
one_passes P x holds zero d within = holds
one_passes P x holds (suc k) d within = absurd (omega arith)

-- telemetry of an id that gets sequence counts
pub telemetry_counted : (id time : ℕ) (payload : List ℕ) → id < 8192 → is_counted id ≡ true → is_item_counted (Made (telemetry_of id time payload)) ≡ true
telemetry_counted id time payload small counted = ap is_counted (telemetry_message_id id time payload small) ∙ counted

-- an event
pub event_counted : (name : List ℕ) (id kind time : ℕ) → is_item_counted (Made (event_of name id kind time)) ≡ true
unfolding event_of is_counted
event_counted name id kind time = telemetry_counted 0x0808 time (event_payload name id kind) (lit< tt) refl
