use Rattle.std.proofs.Common.{◌≡◌, ◌<◌, true, length, get_or, arith}
use Rattle.std.specs.Char.{is_digit}
use Rattle.std.proofs.lemmas.Bool.Decides.{nat_tests}
use Rattle.std.proofs.lemmas.List.Folds.{list_all_more}
use Rattle.std.proofs.lemmas.Int.Digits.{digits_value_more}
use Rattle.log_lines.proofs.WordsLemmas.{digit_small}
use Rattle.log_lines.proofs.numbers.digits.Goals as goal

pub loop-byte-preserved : goal.loop-byte-preserved
loop-byte-preserved c =
    let i = c.loop-byte.byte-index in
    let xs = c.args.word.now in
    let inside : i < length xs = omega arith in
    let below = c.in-Some.ensures.bound in
    let value = c.in-Some.ensures.value in
    let is_one : is_digit (get_or xs i 0) 10 ≡ true = grind (arith, nat_tests) in
    record {
      value = rw (digits_value_more 10 xs i inside) (cc (c.loop-byte.invariant.value, c.from.ensures, value));
      digits = rw (list_all_more (λ b. is_digit b 10) xs i 0 inside, c.loop-byte.invariant.digits) is_one;
      small = rw c.from.ensures (digit_small _ _ _ c.loop-byte.invariant.small below);
    }
