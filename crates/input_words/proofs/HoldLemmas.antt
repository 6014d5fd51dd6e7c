-- Lemmas on the applications that a scenario holds.
use Rattle.std.proofs.Common.{◌≡◌, ℕ, List, ◌++◌, ap, ◌∙◌, append_assoc}
use Rattle.scenario.specs.declared.frame.App.{App}
use Rattle.scenario.specs.declared.frame.App.TheVariants as apps
use Rattle.input_words.specs.declared.inputs.FrameTime.{FrameTime}
use Rattle.input_words.specs.Holds.{app_told, holds_told}

-- the lines of each application, one behind the other
pub holds_joined : (t : FrameTime) (before now : List App) (out one two three four five : List ℕ)
    → one ≡ out ++ app_told t before now apps.Hs → two ≡ one ++ app_told t before now apps.Cs → three ≡ two ++ app_told t before now apps.Sc
    → four ≡ three ++ app_told t before now apps.Mm → five ≡ four ++ app_told t before now apps.Md
    → five ≡ out ++ holds_told t before now
unfolding holds_told
holds_joined t before now out one two three four five first second third fourth fifth =
    let cs : List ℕ = app_told t before now apps.Cs in
    let sc : List ℕ = app_told t before now apps.Sc in
    let mm : List ℕ = app_told t before now apps.Mm in
    let md : List ℕ = app_told t before now apps.Md in
    fifth ∙ ap (λ (xs : List ℕ). xs ++ md) (fourth ∙ ap (λ (xs : List ℕ). xs ++ mm) (third ∙ ap (λ (xs : List ℕ). xs ++ sc) (second ∙ ap (λ (xs : List ℕ). xs ++ cs) first)))
    ∙ five_parts out (app_told t before now apps.Hs) cs sc mm md
  where
    five_parts : (xs a b c d e : List ℕ) → ((((xs ++ a) ++ b) ++ c) ++ d) ++ e ≡ xs ++ ((((a ++ b) ++ c) ++ d) ++ e)
    five_parts xs a b c d e = simp append_assoc
