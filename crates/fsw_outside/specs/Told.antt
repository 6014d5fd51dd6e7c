-- Meanings that an object may or may not tell.
use Rattle.std.specs.Prelude.{◌≡◌, Option, Some}

-- What is told after a call was told before it too, and then P holds of the two.
abbrev pub WhereTold : {A : Type 0} → Option A → Option A → (A → A → Type 0) → Type 0
WhereTold {A} old new P = (after : A) → new ≡ Some after → (before : A) × (old ≡ Some before) × P before after
