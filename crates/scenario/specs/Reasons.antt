-- The numbers of the reasons.
use Rattle.std.specs.Prelude.{ℕ}
use Rattle.scenario.specs.declared.reason.Reason.{Reason}
use Rattle.scenario.specs.declared.reason.Reason.TheVariants.{Word, Number, Packet, Map, TooMany, TooLong, Unended}

-- the number of a reason
abbrev pub number_of : Reason → ℕ
number_of Word = 1
number_of Number = 2
number_of Packet = 3
number_of Map = 4
number_of TooMany = 5
number_of TooLong = 6
number_of Unended = 7
