-- What a wakeup makes of an application, whichever it is.
use Rattle.std.specs.Prelude.{◌≡◌, ℕ, ◌≤◌, Bool, true, false, if◌then◌else◌, List, [], ◌∷◌, ◌++◌, length}
use Rattle.std.specs.List.{AllPass, flat_map}
use Rattle.bus_pipes.specs.Counted.{is_item_counted}
use Rattle.bus_pipes.specs.declared.names.Out.{Out}

module _ {A : Type 0} where
  -- an application's history behind a frame: it has the frame's input, unless the application was held
  abbrev pub history_after : Bool → List A → A → List A
  history_after held history input = if held then history else (history ++ input ∷ [])

  -- what comes of a frame of an application: nothing where it was held
  abbrev pub unless : Bool → List A → List A
  unless held given = if held then [] else given

  -- lists, one after another
  abbrev pub joined : List (List A) → List A
  joined lists = flat_map (λ (list : List A). list) lists

-- the state of an application behind a wakeup: the next one, unless it stays as it was
abbrev pub next_of : {State : Type 0} → Bool → State → State → State
next_of true next old = old
next_of false next old = next

-- items can be sent: they are few, and their packets have ids that are counted
pub record AreSendable (most : ℕ) (items : List Out) : Type 0 where
  pub few : length items ≤ most
  pub counted : AllPass is_item_counted items

-- an application took these packets from its pipe, unless it was held, and gave nothing yet
pub record HasTaken (held : Bool) (packets : List (List ℕ)) (is_held : Bool) (commands : List (List ℕ)) (items : List Out) : Type 0 where
  pub same : is_held ≡ held
  pub taken : held ≡ false → commands ≡ packets
  pub none : items ≡ []

-- An application was woken on an input, unless it was held: for every history for which its state stood.
pub record IsWoken {Input State : Type 0} (stands : List Input → State → Type 0) (gives : List Input → Input → List Out) (held : Bool) (input : Input) (old new : State) (items : List Out) : Type 0 where
  pub state : (history : List Input) → stands history old → stands (history_after held history input) new
  pub given : (history : List Input) → stands history old → items ≡ unless held (gives history input)
