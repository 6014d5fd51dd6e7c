use Rattle.std.proofs.Common.{◌≡◌, ◌++◌, ◌<◌, ◌-◌, ℕ, List, length, take, drop, ap, sym, ◌∙◌, arith, length-drop}
use Rattle.load_texts.specs.Loaded.{loaded_line, loaded_text}
use Rattle.table_texts.proofs.PayloadLemmas.{step_put, some_left}
use Rattle.load_texts.proofs.LoadedLemmas.{shown_none, shown_step}
use Rattle.load_texts.proofs.showing.show_bytes.Goals as goal

pub lines-smaller : goal.lines-smaller
lines-smaller c =
    let rest = c.lines.rest.now in
    let some : 0 < length rest = some_left rest (sym c.is_empty.ensures ∙ c.lines-test.true) in
    let less : length c.behind-rest.result.now ≡ length rest - 32 = ap (λ (xs : List ℕ). length xs) c.behind-rest.ensures ∙ length-drop 32 rest in
    omega (arith, some, less)

pub lines-preserved : goal.lines-preserved
lines-preserved c =
    let rest = c.lines.rest.now in
    c.lines.invariant
    ∙ ap (λ (xs : List ℕ). c.lines.out.items ++ xs) (shown_step rest (sym c.is_empty.ensures ∙ c.lines-test.true))
    ∙ step_put c.lines.out.items (loaded_line (take 32 rest)) c.show_line.new.out.items (loaded_text (drop 32 rest)) (c.in_ok-show_line.ensures ∙ ap (λ (xs : List ℕ). c.lines.out.items ++ loaded_line xs) c.front.ensures)
    ∙ ap (λ (xs : List ℕ). c.show_line.new.out.items ++ loaded_text xs) (sym c.behind-rest.ensures)

pub returns : goal.returns
returns c =
    let none = shown_none c.lines.rest.now (sym c.is_empty.ensures ∙ c.lines-test.false) in
    c.in_ok-extend_from_slice.ensures.items ∙ ap (λ (xs : List ℕ). c.lines.out.items ++ xs) (sym none) ∙ sym c.lines.invariant
