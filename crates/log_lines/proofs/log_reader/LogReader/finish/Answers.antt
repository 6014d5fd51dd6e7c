use Rattle.log_lines.proofs.LogLemmas.{finish_none, finish_cut}
use Rattle.log_lines.proofs.log_reader.LogReader.finish.Goals as goal

pub returns-then-len-eq0 : goal.returns-then-len-eq0
returns-then-len-eq0 c = λ text gave s. finish_none c.args.self.now text gave c.len.result c.len.ensures.value c.if-len-eq0.true s

pub returns : goal.returns
returns c = λ text gave s. finish_cut c.args.self.now text gave c.len.result c.fault.result c.len.ensures.value c.if-len-eq0.false c.fault.ensures.line c.fault.ensures.fault s
