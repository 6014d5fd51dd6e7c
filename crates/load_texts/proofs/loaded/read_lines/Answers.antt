use Rattle.std.proofs.Common.{arith, ◌∙◌}
use Rattle.load_texts.proofs.LoadedLemmas.{end_gives, error_gives, line_read, none_gives}
use Rattle.load_texts.proofs.loaded.read_lines.Goals as goal

pub returns-in-Some-behind_word : goal.returns-in-Some-behind_word
returns-in-Some-behind_word c =
    end_gives c.lines.number _ _ _ _ _ c.lines.out.items _ c.end_lines.result c.lines.invariant.said c.in-Some.ensures.line c.in-Some-behind_word.ensures.0 c.in-Some-behind_word.ensures.1 (c.end_lines.ensures c.lines.out.items)

pub returns-in-Err : goal.returns-in-Err
returns-in-Err c =
    error_gives c.lines.number _ _ _ _ c.lines.out.items c.read_line.new.out.items c.read_line.new.out.items _ c.in-Err.error c.lines.invariant.said c.in-Some.ensures.line c.in_default-behind_word.ensures c.in-Err.ensures

pub lines-preserved : goal.lines-preserved
lines-preserved c = record {
  said = c.lines.invariant.said ∙ line_read c.lines.number _ _ _ _ c.lines.out.items c.read_line.new.out.items c.in-Some.ensures.line c.in_default-behind_word.ensures c.in-Ok.ensures;
  room = omega (arith, c.in-Some.ensures.room, c.lines.invariant.room);
}

pub returns : goal.returns
returns c = none_gives c.lines.number _ c.lines.out.items c.lines.out.items _ _ c.lines.invariant.said c.in_default.ensures.line c.line_error.ensures
