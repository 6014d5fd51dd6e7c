use Rattle.std.proofs.Common.{sym, ap, ◌∙◌, arith, length}
use Rattle.std.proofs.lemmas.List.{length-drop}
use Rattle.load_books.proofs.CutLemmas.{line_passed, front_found, parts_found, all_front, no_parts, behind_both}
use Rattle.load_books.proofs.cuts.cut_front.Goals as goal

pub returns-in-Some-clause-front : goal.returns-in-Some-clause-front
returns-in-Some-clause-front c =
    front_found c.args.number c.lines.next c.lines.size _ c.args.text.now c.lines.rest.now _ _ _ c.lines.invariant.cut c.split_line-line.ensures.line c.split_line-line.ensures.bytes c.in-Some.ensures ∙ sym c.front.ensures

pub returns-in-Some-clause-parts : goal.returns-in-Some-clause-parts
returns-in-Some-clause-parts c =
    parts_found c.args.number c.lines.next c.lines.size _ c.args.text.now c.lines.rest.now _ _ _ c.lines.invariant.cut c.split_line-line.ensures.line c.split_line-line.ensures.bytes c.in-Some.ensures

pub lines-preserved : goal.lines-preserved
lines-preserved c =
    let shorter = ap length c.split_line-line.ensures.rest ∙ length-drop c.split_line-line.result.size c.lines.rest.now in
    record {
      cut = line_passed c.args.number c.lines.next c.lines.size _ c.args.text.now c.lines.rest.now _ _ c.lines.invariant.cut c.lines.invariant.rest c.split_line-line.ensures.line c.split_line-line.ensures.bytes c.in_default.ensures;
      rest = c.split_line-line.ensures.rest ∙ behind_both c.lines.size c.split_line-line.result.size c.args.text.now c.lines.rest.now c.lines.invariant.rest;
      size = omega (arith, shorter, c.split_line-line.ensures.few, c.lines.invariant.size);
      room = omega (arith, shorter, c.split_line-line.ensures.few, c.split_line-line.ensures.some, c.lines.invariant.room);
    }

pub returns-clause-front : goal.returns-clause-front
returns-clause-front c = all_front c.args.number c.lines.next c.lines.size c.args.text.now c.lines.rest.now c.lines.invariant.cut (sym c.is_empty.ensures ∙ c.lines-test.false) c.lines.invariant.size

pub returns-clause-parts : goal.returns-clause-parts
returns-clause-parts c = no_parts c.args.number c.lines.next c.lines.size c.args.text.now c.lines.rest.now c.lines.invariant.cut (sym c.is_empty.ensures ∙ c.lines-test.false) c.lines.invariant.size
