use Rattle.std.proofs.Common.{◌≡◌, ◌<◌, ◌≤◌, ◌^◌, true, length, get_or, arith, lit<}
use Rattle.std.specs.Char.{is_digit}
use Rattle.std.proofs.lemmas.Bool.Decides.{nat_tests}
use Rattle.std.proofs.lemmas.List.Folds.{list_all_more}
use Rattle.std.proofs.lemmas.Int.Digits.{digits_value_more}
use Rattle.std.proofs.Math.Nat.{pow-le-pow_right}
use Rattle.row_forms.proofs.WordsLemmas.{digit_small, digits_fit}
use Rattle.row_forms.proofs.words.digits.Goals as goal

pub overflow_mul-value : goal.overflow_mul-value
overflow_mul-value c = rw c.from.ensures (omega (arith, digits_fit c.loop-byte.value c.args.base c.loop-byte.byte-index c.loop-byte.invariant.small c.requires.base (omega arith)))

pub overflow_add-value : goal.overflow_add-value
overflow_add-value c = rw c.from.ensures (omega (arith, digits_fit c.loop-byte.value c.args.base c.loop-byte.byte-index c.loop-byte.invariant.small c.requires.base (omega arith)))

pub loop-byte-preserved : goal.loop-byte-preserved
loop-byte-preserved c =
    let i = c.loop-byte.byte-index in
    let xs = c.args.word.now in
    let inside : i < length xs = omega arith in
    let below : c.digit-digit.result < c.args.base = omega arith in
    let is_one : is_digit (get_or xs i 0) c.args.base ≡ true = grind (arith, nat_tests) in
    record {
      value = rw (digits_value_more c.args.base xs i inside) (cc (c.loop-byte.invariant.value, c.from.ensures, c.from-in-loop-byte.ensures, c.digit-digit.ensures.value));
      digits = rw (list_all_more (λ b. is_digit b c.args.base) xs i 0 inside, c.loop-byte.invariant.digits) is_one;
      small = rw (c.from.ensures, c.from-in-loop-byte.ensures) (digit_small _ _ _ _ c.loop-byte.invariant.small c.requires.base below);
    }

pub returns-clause-bound : goal.returns-clause-bound
returns-clause-bound c =
    let small = c.loop-byte.invariant.small in
    let p : 16 ^ c.loop-byte.byte-index ≤ 16 ^ 10 = pow-le-pow_right {n = 16} (lit< tt) {i = c.loop-byte.byte-index} {j = 10} (omega arith) in
    omega (arith, small, p)
