use Rattle.plan_text.proofs.SendLemmas.{send_is_read}
use Rattle.plan_text.proofs.laws.sent_lines_say.Goals as goal

pub returns : goal.returns
returns c = send_is_read
