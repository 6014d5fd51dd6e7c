use Rattle.std.proofs.Common.{◌≡◌, ◌+◌, ℕ, true, false, ap, sym, ◌∙◌, arith}
use Rattle.std.specs.Prelude.{◌==◌}
use Rattle.std.proofs.lemmas.Bool.Decides.{nat_tests}
use Rattle.table_texts.specs.Lines.{kept_of}
use Rattle.entry_lines.specs.Found.{line_of_command}
use Rattle.entry_lines.proofs.FoundLemmas.{command_none, command_other, command_here, command_later}
use Rattle.entry_lines.proofs.commands.command_line.Goals as goal

pub returns-then-not-is_first : goal.returns-then-not-is_first
returns-then-not-is_first c =
    let other : c.is_first.result ≡ false = cc in
    sym (c.lines.invariant.said ∙ command_other c.lines.left _ _ _ c.in-Some.ensures.line (sym c.is_first.ensures ∙ other))

pub returns-then-left-eq1 : goal.returns-then-left-eq1
returns-then-left-eq1 c =
    let first : c.is_first.result ≡ true = cc in
    let here : (c.lines.left == 1) ≡ true = grind (arith, nat_tests, c.if-left-eq1.true) in
    sym (c.lines.invariant.said ∙ command_here c.lines.left _ _ _ c.in-Some.ensures.line (sym c.is_first.ensures ∙ first) here)

pub lines-preserved : goal.lines-preserved
lines-preserved c =
    let first : c.is_first.result ≡ true = cc in
    let other : (c.lines.left == 1) ≡ false = grind (arith, nat_tests, c.if-left-eq1.false) in
    record {
      said =
          c.lines.invariant.said ∙ command_later c.lines.left _ _ _ c.in-Some.ensures.line (sym c.is_first.ensures ∙ first) other
          ∙ ap (λ (k : ℕ). line_of_command k (kept_of (c.in-Some.line.number + 1) c.in-Some.line.rest.now)) (sym c.saturating_sub-left.ensures);
      room = omega (arith, c.in-Some.ensures.room, c.lines.invariant.room);
    }

pub returns : goal.returns
returns c = sym (c.lines.invariant.said ∙ command_none c.lines.left _ c.in_default.ensures.line)
