use Rattle.std.proofs.Common.{◌≡◌, ℕ, ◌<◌, ◌≤◌, List, map, get_or, refl, ap, sym, subst, ◌∙◌, arith, Fits, w8}
use Rattle.std.proofs.lemmas.Bool.Decides.{nat_tests}
use Rattle.std.specs.List.{range_with_len}
use Rattle.std.proofs.lemmas.List.FromFn.{get_or-map-range_with_len}
use Rattle.log_lines.specs.Lines.{digit_number}
use Rattle.log_lines.specs.declared.numbers.TheConstants.{DIGITS}
use Rattle.log_lines.proofs.numbers.digit.Goals as goal

digits_are : DIGITS ≡ map digit_number (range_with_len 0 256)
digits_are = refl

byte_fits : (b : ℕ) → Fits w8 b → b < 256
byte_fits b h = h.fits

value_is : (b : ℕ) → b < 256 → get_or DIGITS b 0 ≡ digit_number b
value_is b small = ap (λ (xs : List ℕ). get_or xs b 0) digits_are ∙ get_or-map-range_with_len digit_number 0 256 b b 0 small (omega arith)

digit_bound : (b : ℕ) → digit_number b ≤ 16
digit_bound b = grind (arith, nat_tests)

pub returns-clause-value : goal.returns-clause-value
returns-clause-value c = value_is c.args.byte (byte_fits c.args.byte c.ranges.byte)

pub returns-clause-bound : goal.returns-clause-bound
returns-clause-bound c = subst (λ (n : ℕ). n ≤ 16) (sym (value_is c.args.byte (byte_fits c.args.byte c.ranges.byte))) (digit_bound c.args.byte)
