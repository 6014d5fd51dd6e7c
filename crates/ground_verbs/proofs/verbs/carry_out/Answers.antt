use Rattle.ground_verbs.proofs.verbs.carry_out.Goals as goal

pub returns-in-Make : goal.returns-in-Make
returns-in-Make g c = λ before is. rw c.in-Make.is (c.make_one.ensures before is)

pub returns-in-Build : goal.returns-in-Build
returns-in-Build g c = λ before is. rw c.in-Build.is (c.build_book.ensures before is)

pub returns-in-Check : goal.returns-in-Check
returns-in-Check g c = λ before is. rw c.in-Check.is (c.check_files.ensures before is)

pub returns-in-Export : goal.returns-in-Export
returns-in-Export g c = λ before is. rw c.in-Export.is (c.export_log.ensures before is)

pub returns-in-Describe : goal.returns-in-Describe
returns-in-Describe g c = λ before is. rw c.in-Describe.is (c.describe.ensures before is)

pub returns-in-Compare : goal.returns-in-Compare
returns-in-Compare g c = λ before is. rw c.in-Compare.is (c.compare_logs.ensures before is)
