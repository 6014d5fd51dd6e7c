use Rattle.std.proofs.Common.{[], ◌∷◌, ◌++◌, ◌≡◌, length, map, sym, ap, ◌∙◌, append_assoc, append-nil, arith}
use Rattle.std.specs.Vec.Iter.{into_iter_items}
use Rattle.load_books.specs.Files.{file_made}
use Rattle.ground_books.specs.Built.{built_seen, file_built}
use Rattle.ground_books.proofs.BuiltLemmas.{built_more, nothing_left}
use Rattle.ground_books.proofs.book_files.add_parts.Goals as goal

pub loop-file-preserved : goal.loop-file-preserved
loop-file-preserved c =
    let at = c.loop-file in
    let file = c.in-Some.file in
    let steps : into_iter_items at.file-iterator ≡ file ∷ into_iter_items c.next.new.self = c.in-Some.ensures.steps.0 in
    record {
      order = append_assoc at.yielded (file ∷ []) _ ∙ rw (← steps) at.invariant.order;
      left = (let was = at.invariant.left in let gone = c.in-Some.ensures.steps.1 in let short = ap length steps in omega arith);
      built = built_more (map built_seen c.args.out.now.items) (map built_seen at.out.items) (map built_seen c.add_part.new.out.items) at.yielded file at.invariant.built c.in_ok-add_part.ensures;
    }

pub returns : goal.returns
returns c =
    let at = c.loop-file in
    let none = c.in-None.ensures.steps in
    let empty : into_iter_items at.file-iterator ≡ [] = nothing_left _ (sym at.invariant.left ∙ none.0) in
    let all = sym (append-nil at.yielded) ∙ rw empty at at.invariant.order ∙ c.into_iter-file-iterator.ensures.into_iter_gives.0 in
    at.invariant.built ∙ ap (λ fs. map built_seen c.args.out.now.items ++ map file_built (map file_made fs)) all
