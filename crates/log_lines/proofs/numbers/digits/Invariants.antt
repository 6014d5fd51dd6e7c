use Rattle.std.proofs.Common.{◌≡◌, ◌<◌, ◌^◌, take, true}
use Rattle.std.specs.List.{list_all}
use Rattle.std.specs.Char.{is_digit}
use Rattle.std.specs.Str.Parse.{digits_value}
use Rattle.log_lines.proofs.numbers.digits.Given as goal

abbrev pub invariant-loop-byte : goal.invariant-loop-byte
invariant-loop-byte l = record {
  value : l.value ≡ digits_value 10 (take l.byte-index l.word);
  digits : list_all (λ c. is_digit c 10) (take l.byte-index l.word) ≡ true;
  small : l.value < 10 ^ l.byte-index;
}
