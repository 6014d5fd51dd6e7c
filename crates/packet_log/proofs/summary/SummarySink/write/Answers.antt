use Rattle.std.proofs.Common.{◌≡◌, ap, sym, ◌∙◌}
use Rattle.fsw_outside.specs.Tally.{Tally, tally_of, added}
use Rattle.fsw_outside.specs.TallyLaws.{tally_append}
use Rattle.packet_log.specs.Summaries.{tally_in}
use Rattle.packet_log.proofs.summary.SummarySink.write.Goals as goal

pub invariant_of-self : goal.invariant_of-self
invariant_of-self c =
    let kept : tally_in c.sums_with-self.result ≡ tally_of c.add.new.self.bytes =
    c.sums_with-self.ensures
    ∙ ap (λ (t : Tally). added t c.args.piece.now) c.args.self.now.kept
    ∙ sym (tally_append c.args.self.now.written.bytes c.args.piece.now)
    ∙ ap tally_of (sym c.add.ensures) in
    record { kept = kept }
