use Rattle.std.proofs.Common.{◌∙◌, ap}
use Rattle.load_books.specs.Cuts.{parts_from}
use Rattle.load_books.specs.Contents.{held_by, all_added}
use Rattle.load_books.proofs.ContentsLemmas.{part_follows, part_fails, none_added, short_behind}
use Rattle.load_books.proofs.contents.read_parts.Goals as goal

pub parts-preserved : goal.parts-preserved
parts-preserved c = record {
  said =
      c.parts.invariant.said ∙ ap (λ n. all_added (held_by c.parts.parts) (parts_from n)) c.in-Some.is
      ∙ part_follows c.in-Some.line _ _ (held_by c.parts.parts) _ c.cut_front-front.ensures.front c.cut_front-front.ensures.parts c.in-Ok.ensures;
  room = short_behind _ _ c.in-Some.line c.in-Some.is c.parts.invariant.room c.cut_front-front.ensures.room;
}

pub returns-in-Err : goal.returns-in-Err
returns-in-Err c =
    rw c.error_on.ensures
    (part_fails _ c.in-Some.line _ (held_by c.parts.parts) c.add_part.new.parts c.in-Err.error (c.parts.invariant.said ∙ ap (λ n. all_added (held_by c.parts.parts) (parts_from n)) c.in-Some.is) c.cut_front-front.ensures.front c.in-Err.ensures)

pub returns : goal.returns
returns c = c.parts.invariant.said ∙ ap (λ n. all_added (held_by c.parts.parts) (parts_from n)) c.in_default.is ∙ none_added (held_by c.parts.parts)
