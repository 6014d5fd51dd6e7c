use Rattle.std.proofs.Common.{◌≡◌, ◌+◌, ◌-◌, ◌++◌, false, map}
use Rattle.std.specs.Prelude.{decimal}
use Rattle.row_forms.specs.Lists.{listed}
use Rattle.row_forms.specs.Numbers.{bits_of}
use Rattle.row_forms.proofs.numbers.push_bits.Given as goal

abbrev pub invariant-loop-bit : goal.invariant-loop-bit
invariant-loop-bit l =
    l.fn.out.items ++ listed false (map decimal (bits_of l.bits 1 l.fn.number))
    ≡ l.out.items ++ listed l.led (map decimal (bits_of (l.bits - l.bit) (l.bit + 1) l.rest))
