use Rattle.packet_log.proofs.Cuts.{cut_in_texts, ends_none, ends_more}
use Rattle.packet_log.proofs.laws.frames_are_cut.Goals as goal

pub returns : goal.returns
returns c = record { cut = cut_in_texts; ends_none = ends_none; ends_more = ends_more }
