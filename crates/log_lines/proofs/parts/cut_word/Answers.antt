use Rattle.std.proofs.Common.{sym}
use Rattle.log_lines.proofs.PartsLemmas.{words_cut, words_whole}
use Rattle.log_lines.proofs.parts.cut_word.Goals as goal

pub returns-in-Some-clause-words : goal.returns-in-Some-clause-words
returns-in-Some-clause-words c = rw (c.front.ensures, c.behind.ensures) (words_cut c.args.text.now c.in-Some.at (sym c.in-Some.ensures))

pub returns-in-None-clause-words : goal.returns-in-None-clause-words
returns-in-None-clause-words c = words_whole c.args.text.now (sym c.in-None.ensures)
