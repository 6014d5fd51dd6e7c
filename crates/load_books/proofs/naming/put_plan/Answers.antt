use Rattle.std.proofs.Common.{sym, ap, ◌∙◌, arith, length}
use Rattle.std.proofs.lemmas.List.{length-drop}
use Rattle.load_books.specs.Contents.{error_on}
use Rattle.load_books.proofs.CutLemmas.{empty}
use Rattle.load_books.proofs.NamingLemmas.{line_put, line_fails, fails_by, plan_ends}
use Rattle.load_books.proofs.naming.put_plan.Goals as goal

pub lines-preserved : goal.lines-preserved
lines-preserved c =
    let shorter = ap length c.split_line-line.ensures.rest ∙ length-drop c.split_line-line.result.size c.lines.rest.now in
    record {
      said = c.lines.invariant.said ∙ line_put c.args.part _ c.lines.number c.lines.rest.now _ _ _ c.lines.out.items c.put_replaced.new.out.items c.split_line-line.ensures.line c.split_line-line.ensures.bytes c.in-Ok.ensures;
      room = omega (arith, shorter, c.split_line-line.ensures.few, c.split_line-line.ensures.some, c.lines.invariant.room);
    }

pub returns-in-Err : goal.returns-in-Err
returns-in-Err c =
    fails_by _ c.put_replaced.new.out.items _ _ (c.error_on.ensures ∙ ap (λ n. error_on n c.in-Err.error) c.book_line.ensures)
    (line_fails _ c.args.part _ c.lines.number c.lines.rest.now _ _ _ c.lines.out.items c.put_replaced.new.out.items c.put_replaced.new.out.items c.in-Err.error c.lines.invariant.said c.split_line-line.ensures.line c.split_line-line.ensures.bytes c.in-Err.ensures)

pub returns : goal.returns
returns c = c.lines.invariant.said ∙ plan_ends c.args.part _ c.lines.number c.lines.rest.now c.lines.out.items (empty c.lines.rest.now (sym c.is_empty.ensures ∙ c.lines-test.false))
