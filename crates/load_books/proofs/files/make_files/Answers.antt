use Rattle.std.proofs.Common.{◌∙◌, refl}
use Rattle.load_books.proofs.FilesLemmas.{file_follows, file_refused, files_end, accepted_more}
use Rattle.load_books.proofs.files.make_files.Goals as goal

pub returns-in-Err-clause-said : goal.returns-in-Err-clause-said
returns-in-Err-clause-said c = file_refused _ c.args.forms.now c.args.epoch c.args.parts.now c.loop-part.part-index _ _ c.in-Err.error c.loop-part.invariant.said c.loop-part-test.true c.in-Err.ensures.said

pub loop-part-preserved : goal.loop-part-preserved
loop-part-preserved c = record {
  said = c.loop-part.invariant.said ∙ file_follows c.args.forms.now c.args.epoch c.args.parts.now c.loop-part.part-index _ c.loop-part.files.items c.push.new.self.items _ c.loop-part-test.true c.in-Ok.ensures.said refl c.in-Ok-push.ensures.items;
  accepted = accepted_more c.loop-part.files.items c.push.new.self.items _ c.loop-part.invariant.accepted c.in-Ok.ensures.accepted c.in-Ok-push.ensures.items;
}

pub returns-clause-said : goal.returns-clause-said
returns-clause-said c = c.loop-part.invariant.said ∙ files_end c.args.forms.now c.args.epoch c.args.parts.now c.loop-part.part-index _ c.loop-part-test.false
