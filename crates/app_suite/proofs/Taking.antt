-- What the jobs of a frame left, taken over by the bench.
use Rattle.std.proofs.Common.{◌≡◌, ◌≤◌, ℕ, Bool, true, false, ◌&&◌, List, [], ◌∷◌, ◌∙◌, ap, refl, subst, sym, arith}
use Rattle.std.proofs.lemmas.Bool.{and_parts}
use Rattle.std.proofs.lemmas.List.Elements.{All-nil}
use Rattle.bus_pipes.specs.Counted.{is_item_counted}
use Rattle.bus_pipes.specs.declared.names.Out.{Out}
use Rattle.memory_window.specs.Access.{Admitted}
use Rattle.memory_window.specs.Memory.{Memory}
use Rattle.memory_window.specs.Operations.{IsBacked}
use Rattle.memory_window.specs.declared.operations.MemOp.{MemOp}
use Rattle.mm_core.specs.Step.{mm_operations}
use Rattle.app_suite.specs.Applications.{mm_reads}
use Rattle.app_suite.specs.Jobs.{Gives, Operates, jobs_of}
use Rattle.app_suite.specs.Landable.{CanLand}
use Rattle.app_suite.specs.Wakes.{AreSendable, IsWoken, history_after, unless, joined, next_of}

-- an application that was woken by a job: its state behind it, and what it gave
module _ {Setup Input State : Type 0} (belongs : Setup → Type 0) (stands : Setup → List Input → State → Type 0) (gives : Setup → List Input → Input → List Out) (most : ℕ) (held : Bool) (input : Input) (old middle new : State) (stays : Bool) (next : State) (left given : List Out)
    (gave : Gives belongs stands gives most held input old stays next left) (same : middle ≡ old) (state : new ≡ next_of stays next middle) (items : given ≡ left) where
  pub state_is : new ≡ next_of stays next old
  state_is = state ∙ ap (next_of stays next) same

  pub taken_woken : (setup : Setup) → belongs setup → IsWoken (stands setup) (gives setup) held input old new given
  taken_woken setup own =
      subst (λ (s : State). IsWoken (stands setup) (gives setup) held input old s given) (sym state_is)
      (subst (λ (os : List Out). IsWoken (stands setup) (gives setup) held input old (next_of stays next old) os) (sym items) (gave.woken setup own))

  pub taken_sendable : AreSendable most given
  taken_sendable = subst (AreSendable most) (sym items) gave.sendable

-- what MM left, by whether it was held
pub operates : (loads : List (ℕ × List ℕ)) (held : Bool) (time : ℕ) (commands : List (List ℕ)) (image : Memory) (ops : List MemOp) → (held ≡ true → ops ≡ []) → (held ≡ false → (ops ≡ mm_operations (mm_reads loads time commands image)) × CanLand loads image ops)
    → Operates loads held time commands image ops
operates loads true time commands image ops none these =
    record { are = none refl; can_land = subst (λ (os : List MemOp). CanLand loads image os) (sym (none refl)) (record { admitted = All-nil (Admitted image); backed = All-nil (IsBacked loads) }) }
operates loads false time commands image ops none these = record { are = (these refl).0; can_land = (these refl).1 }

-- where none of the six gave an item, nothing was given
pub none_given : (a b c d e : Bool) (hs cs sc mm md lc : List Out) → (a ≡ true → hs ≡ []) → (b ≡ true → cs ≡ []) → (c ≡ true → sc ≡ []) → (d ≡ true → mm ≡ []) → (e ≡ true → md ≡ []) → lc ≡ []
    → ((((a && b) && c) && d) && e) ≡ true → joined (hs ∷ cs ∷ sc ∷ mm ∷ md ∷ lc ∷ []) ≡ []
none_given a b c d e hs cs sc mm md lc p q r s t u all =
    let four = and_parts (((a && b) && c) && d) e all in
    let three = and_parts ((a && b) && c) d four.0 in
    let two = and_parts (a && b) c three.0 in
    let both = and_parts a b two.0 in
    rw (p both.0, q both.1, r two.1, s three.1, t four.1, u) refl

-- an application that is held, whose state stays, and which gives nothing
module _ {Input State : Type 0} (stands : List Input → State → Type 0) (gives : List Input → Input → List Out) (held : Bool) (input : Input) (old new : State) (items : List Out) where
  pub away_woken : held ≡ true → new ≡ old → items ≡ [] → IsWoken stands gives held input old new items
  away_woken away same none = record {
    state = λ history stood. subst (λ (h : Bool). stands (history_after h history input) new) (sym away) (subst (stands history) (sym same) stood);
    given = λ history stood. none ∙ sym (ap (λ (h : Bool). unless h (gives history input)) away);
  }

-- no items can be sent
pub none_sendable : (most : ℕ) (items : List Out) → items ≡ [] → AreSendable most items
none_sendable most items none = subst (AreSendable most) (sym none) (record { few = omega arith; counted = All-nil (λ (item : Out). is_item_counted item ≡ true) })

-- there are five jobs at least
pub five_or_six : (watched : Bool) → 5 ≤ jobs_of watched
five_or_six true = omega arith
five_or_six false = omega arith
