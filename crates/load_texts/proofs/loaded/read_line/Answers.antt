use Rattle.std.proofs.Common.{ap}
use Rattle.row_forms.specs.Rows.{with_front}
use Rattle.load_texts.proofs.LoadedLemmas.{line_other, line_missing, line_extra, block_gives, fault_gives}
use Rattle.load_texts.proofs.loaded.read_line.Goals as goal

pub returns-in_default : goal.returns-in_default
returns-in_default c = ap (with_front c.args.out.now.items) (line_other c.args.number _ c.in_default.ensures)

pub returns-in_default-split_word : goal.returns-in_default-split_word
returns-in_default-split_word c =
    fault_gives c.args.number _ c.args.out.now.items c.args.out.now.items _ c.word_error.result (line_missing c.args.number _ _ c.in-Some.ensures.0 c.in-Some.ensures.1 c.in_default-split_word.ensures.words) c.word_error.ensures

pub returns-in-Some-split_word-2 : goal.returns-in-Some-split_word-2
returns-in-Some-split_word-2 c =
    fault_gives c.args.number _ c.args.out.now.items c.args.out.now.items _ c.word_error-in-Some-split_word-2.result
    (line_extra c.args.number _ _ _ _ _ _ c.in-Some.ensures.0 c.in-Some.ensures.1 c.in-Some-split_word.ensures.words c.in-Some-split_word-2.ensures.words) c.word_error-in-Some-split_word-2.ensures

pub returns-in-None : goal.returns-in-None
returns-in-None c =
    block_gives c.args.number _ _ _ _ c.args.out.now.items c.read_digits.new.out.items c.read_digits.result c.in-Some.ensures.0 c.in-Some.ensures.1 c.in-Some-split_word.ensures.words c.in-None.ensures.words c.read_digits.ensures
