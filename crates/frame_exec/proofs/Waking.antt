-- The applications of a frame, by what they took and how they were woken.
use Rattle.std.proofs.Common.{◌≡◌, ℕ, Bool, true, false, List, [], ◌∷◌, ◌++◌, ◌∙◌, ap, refl, subst, sym, fold}
use Rattle.std.specs.List.{list_any}
use Rattle.bus_pipes.specs.Pipes.{Pipes}
use Rattle.bus_pipes.specs.declared.names.Out.{Out}
use Rattle.bus_pipes.specs.declared.names.PipeName.TheVariants as names
use Rattle.scenario.specs.declared.frame.App.{App}
use Rattle.scenario.specs.declared.frame.App.TheVariants as apps
use Rattle.scenario.specs.declared.frame.Upset.{Upset}
use Rattle.scenario.specs.FrameLists.{Frame}
use Rattle.memory_window.specs.Memory.{Memory}
use Rattle.active_tables.specs.Tables.{TableSet}
use Rattle.frame_wires.specs.Sending.{is_same, taken, without_limits, upset_by}
use Rattle.app_suite.specs.Wakes.{history_after, unless, HasTaken, IsWoken}
use Rattle.frame_runs.specs.Runs.{State, image_at, left_by}

-- the frame's image, by the upsets that were written
pub image_is : (s : State) (frame : Frame) (before after : Memory) (upsets : List Upset) → before ≡ s.memory → upsets ≡ frame.upsets → after ≡ fold upset_by before upsets → after ≡ image_at s frame
unfolding image_at
image_is s frame before after upsets a b c = rw (c, a, b) refl

-- an application that was woken on the packets that it took: the history that its state stands for, and what it gave
module _ {Input State : Type 0} (stands : List Input → State → Type 0) (gives : List Input → Input → List Out) (reads : List (List ℕ) → Input) where
  pub woken_state : (held is_held : Bool) (packets commands : List (List ℕ)) (given items : List Out) (old new : State) (history : List Input)
      → HasTaken held packets is_held commands given → IsWoken stands gives is_held (reads commands) old new items → stands history old → stands (history_after held history (reads packets)) new
  woken_state held is_held packets commands given items old new history took woken stood =
      by_case held (subst (λ (h : Bool). stands (history_after h history (reads commands)) new) took.same (woken.state history stood)) took.taken
    where
      by_case : (held : Bool) → stands (history_after held history (reads commands)) new → (held ≡ false → commands ≡ packets) → stands (history_after held history (reads packets)) new
      by_case true now same = now
      by_case false now same = subst (λ (c : List (List ℕ)). stands (history ++ reads c ∷ []) new) (same refl) now

  pub woken_items : (held is_held : Bool) (packets commands : List (List ℕ)) (given items : List Out) (old new : State) (history : List Input)
      → HasTaken held packets is_held commands given → IsWoken stands gives is_held (reads commands) old new items → stands history old → items ≡ unless held (gives history (reads packets))
  woken_items held is_held packets commands given items old new history took woken stood =
      woken.given history stood ∙ ap (λ (h : Bool). unless h (gives history (reads commands))) took.same ∙ by_case held took.taken
    where
      by_case : (held : Bool) → (held ≡ false → commands ≡ packets) → unless held (gives history (reads commands)) ≡ unless held (gives history (reads packets))
      by_case true same = refl
      by_case false same = ap (λ (c : List (List ℕ)). gives history (reads c)) (same refl)

-- an application that was woken, by another name of what it saw beside the packets
pub seen_by : {Input State A : Type 0} (stands : List Input → State → Type 0) (gives : List Input → Input → List Out) (sees : A → Input) (held is_held : Bool) (seen others : A) (old new : State) (items : List Out)
    → is_held ≡ held → (held ≡ false → seen ≡ others) → IsWoken stands gives is_held (sees seen) old new items → IsWoken stands gives is_held (sees others) old new items
seen_by stands gives sees held true seen others old new items same there woken = record { state = woken.state; given = woken.given }
seen_by {A} stands gives sees held false seen others old new items same there woken = subst (λ (a : A). IsWoken stands gives false (sees a) old new items) (there (sym same)) woken

-- what it left beside its items
pub woken_beside : {A : Type 0} (of : List (List ℕ) → List A) (held is_held : Bool) (packets commands : List (List ℕ)) (given : List Out) (left : List A)
    → HasTaken held packets is_held commands given → left ≡ unless is_held (of commands) → left ≡ unless held (of packets)
woken_beside of held is_held packets commands given left took is = is ∙ ap (λ (h : Bool). unless h (of commands)) took.same ∙ by_case held took.taken
  where
    by_case : (held : Bool) → (held ≡ false → commands ≡ packets) → unless held (of commands) ≡ unless held (of packets)
    by_case true same = refl
    by_case false same = ap of (same refl)

-- what the pipes hold once all applications took theirs
pub left_is : (held : List App) (old b1 b2 b3 b4 b5 b6 b7 : Pipes) (hs cs sc mm md : Bool) → hs ≡ list_any (is_same apps.Hs) held → cs ≡ list_any (is_same apps.Cs) held → sc ≡ list_any (is_same apps.Sc) held
    → mm ≡ list_any (is_same apps.Mm) held → md ≡ list_any (is_same apps.Md) held → b1 ≡ taken names.Hs hs old → b2 ≡ taken names.HsEv hs b1 → b3 ≡ taken names.Cs cs b2 → b4 ≡ taken names.Sc sc b3
    → b5 ≡ taken names.Mm mm b4 → b6 ≡ taken names.Md md b5 → b7 ≡ without_limits b6 → b7 ≡ left_by held old
unfolding left_by
left_is held old b1 b2 b3 b4 b5 b6 b7 hs cs sc mm md a b c d e f g h i j k l = rw (l, k, j, i, h, g, f, a, b, c, d, e) refl

-- what an application took, by other names of what holds it and of what its pipe held
pub taken_by : (held other : Bool) (packets others : List (List ℕ)) (is_held : Bool) (commands : List (List ℕ)) (items : List Out) → held ≡ other → packets ≡ others
    → HasTaken held packets is_held commands items → HasTaken other others is_held commands items
taken_by held other packets others is_held commands items a b took =
    subst (λ (h : Bool). HasTaken h others is_held commands items) a (subst (λ (ps : List (List ℕ)). HasTaken held ps is_held commands items) b took)

-- what MM leaves, by whether it was held
pub left_unless : {A : Type 0} (held : Bool) (left given : List A) → (held ≡ true → left ≡ []) → (held ≡ false → left ≡ given) → left ≡ unless held given
left_unless true left given none some = none refl
left_unless false left given none some = some refl

-- what holds of two values holds of others that are the same
pub of_both : {A B : Type 0} (P : A → B → Type 0) (a x : A) (b y : B) → a ≡ x → b ≡ y → P a b → P x y
of_both {A} {B} P a x b y first second holds = subst (λ (v : B). P x v) second (subst (λ (v : A). P v b) first holds)

-- what holds of tables, a time and memory holds of others that are the same
pub moved : (P : TableSet → ℕ → Memory → Type 0) (tables others : TableSet) (time now : ℕ) (memory image : Memory) → tables ≡ others → time ≡ now → memory ≡ image → P tables time memory → P others now image
moved P tables others time now memory image a b c holds = subst (λ (m : Memory). P others now m) c (subst (λ (n : ℕ). P others n memory) b (subst (λ (t : TableSet). P t time memory) a holds))
