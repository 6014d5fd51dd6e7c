use Rattle.row_forms.proofs.StepLemmas.{too_many, expression_bad, expression_good}
use Rattle.row_forms.proofs.values.read_expression.Goals as goal

pub returns-then-commas-gt15 : goal.returns-then-commas-gt15
returns-then-commas-gt15 c = too_many c.args.words.now c.args.text.now _ _ _ c.count_commas-commas.ensures.value c.if-commas-gt15.true

pub returns-then-not-branch : goal.returns-then-not-branch
returns-then-not-branch c =
    let given = rw c.if-not-branch.true at c.in_ok-read_steps.ensures in
    expression_bad c.args.words.now c.args.text.now c.args.out.now.items c.push_number.new.out.items c.read_steps.new.out.items given

pub returns : goal.returns
returns c =
    let given = rw c.if-not-branch.false at c.in_ok-read_steps.ensures in
    expression_good c.args.words.now c.args.text.now c.count_commas-commas.result c.args.out.now.items c.push_number.new.out.items c.read_steps.new.out.items c.push_zeros.new.out.items
    c.count_commas-commas.ensures.value c.if-commas-gt15.false c.in_ok-push_number.ensures given c.in_ok-push_zeros.ensures
