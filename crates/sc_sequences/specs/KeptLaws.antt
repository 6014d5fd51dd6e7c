-- A cursor that is kept gives its parts back.
use Rattle.std.proofs.Common.{◌≡◌, ℕ, ◌+◌, Bool, refl, sym, ap}
use Rattle.std.proofs.lemmas.Bool.{lt-ltb, le-ltb}
use Rattle.std.proofs.Math.Nat.{le-add_left, add-sub_cancel}
use Rattle.sc_sequences.specs.Kept.{time_of, span_of, low_of, IsKept}
use Rattle.sc_sequences.specs.declared.kept.Span.{Span}
use Rattle.sc_sequences.specs.declared.kept.Span.TheVariants.{Never, First, Second}
use Rattle.sc_sequences.specs.declared.kept.KeptCursor.TheInside.{Inside}

abbrev parts : Span → ℕ → ℕ → Bool → Inside
parts span low at enabled = record { low = low; at = at; span = span; enabled = enabled }

pub kept_back : (span : Span) (low at : ℕ) (enabled : Bool) → IsKept span low → parts (span_of (time_of span low)) (low_of (time_of span low)) at enabled ≡ parts span low at enabled
kept_back Never low at enabled kept = ap (λ (n : ℕ). parts Never n at enabled) (sym kept)
kept_back First low at enabled kept = rw (lt-ltb low 4294967296 kept) refl
kept_back Second low at enabled kept = rw (le-ltb (low + 4294967296) 4294967296 (le-add_left 4294967296 low)) (ap (λ (n : ℕ). parts Second n at enabled) (add-sub_cancel low 4294967296))
