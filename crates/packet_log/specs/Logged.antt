-- What a summary stands for.
use Rattle.std.specs.Prelude.{ℕ, List}
use Rattle.fsw_outside.specs.Tally.{Tally}
use Rattle.packet_log.specs.Summaries.{tally_in}
use Rattle.packet_log.specs.declared.summary.Summary.{Summary}

-- all bytes that were written to it
abbrev pub logged : Summary → List ℕ
logged s = s.written.bytes

-- their tally
abbrev pub counted : Summary → Tally
counted s = tally_in s.sums
