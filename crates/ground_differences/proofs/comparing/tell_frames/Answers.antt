use Rattle.std.proofs.Common.{sym}
use Rattle.ground_differences.proofs.WrittenLemmas.{written_none, written_more}
use Rattle.ground_differences.proofs.ComparedLemmas.{compares_none, compares_more, compares_all}
use Rattle.ground_differences.proofs.comparing.tell_frames.Goals as goal

pub frames-init : goal.frames-init
frames-init g c = record { written = written_none _; found = compares_none g.L.Read.remaining _ _ _ }

pub frames-preserved : goal.frames-preserved
frames-preserved g c = record {
  written = written_more _ _ _ c.frames.invariant.written c.in_ok-tell_frame.ensures.written;
  found = compares_more g.L.Read.remaining _ _ _ _ _ _ _ _ _ c.frames.invariant.found c.in_ok-tell_frame.ensures.found;
}

pub returns-in_default-clause-found : goal.returns-in_default-clause-found
returns-in_default-clause-found g c =
    compares_all g.L.Read.remaining _ _ _ _ _ _ _ _ c.next.ensures c.next-in-frames.ensures (sym c.in_default.ensures) c.frames.invariant.found
