use Rattle.row_forms.proofs.RowLemmas.{unkeyed_gives, value_gives, no_value_gives}
use Rattle.row_forms.proofs.rows.read_field.Goals as goal

pub returns-in_default : goal.returns-in_default
returns-in_default c = unkeyed_gives _ _ _ _ _ c.args.out.now.items c.in_default.ensures

pub returns-in-Ok-true : goal.returns-in-Ok-true
returns-in-Ok-true c =
    let given = rw c.in-Ok-true.field-0-test at c.in-Ok-true.ensures in
    value_gives _ _ _ _ _ _ _ c.in-Some.ensures given

pub returns-in-Ok-false : goal.returns-in-Ok-false
returns-in-Ok-false c =
    let given = rw c.in-Ok-false.field-0-test at c.in-Ok-false.ensures in
    no_value_gives _ _ _ _ _ _ c.read_value.new.out.items _ c.in-Some.ensures given c.reason.ensures
