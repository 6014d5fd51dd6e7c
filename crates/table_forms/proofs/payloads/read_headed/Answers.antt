use Rattle.std.proofs.Common.{ap, arith}
use Rattle.row_forms.specs.Rows.{with_front}
use Rattle.table_forms.proofs.PayloadLemmas.{open_is, headed_none, headed_other, headed_gives, headed_refused}
use Rattle.table_forms.proofs.payloads.read_headed.Goals as goal

pub returns-in_default : goal.returns-in_default
returns-in_default c = ap (with_front c.args.out.now.items) (headed_none c.args.forms.now c.args.layout c.args.line _ c.in_default.ensures.line)

pub returns-in_default-behind_word : goal.returns-in_default-behind_word
returns-in_default-behind_word c = ap (with_front c.args.out.now.items) (headed_other c.args.forms.now c.args.layout c.args.line _ _ _ _ c.in-Some.ensures.line c.in_default-behind_word.ensures)

pub read_row-requires : goal.read_row-requires
read_row-requires c = let short = (open_is _ _ c.requires.head).short in omega (arith, short)

pub returns-in-Ok : goal.returns-in-Ok
returns-in-Ok c =
    headed_gives c.args.forms.now c.args.layout c.args.line _ _ _ _ _ c.args.out.now.items c.read_row.new.out.items _ c.read_rows.result c.in-Some.ensures.line c.in-Some-behind_word.ensures.0 c.in-Some-behind_word.ensures.1 c.in-Ok.ensures c.read_rows.ensures

pub returns-in-Err-Row : goal.returns-in-Err-Row
returns-in-Err-Row c =
    headed_refused c.args.forms.now c.args.layout c.args.line _ _ _ _ _ c.args.out.now.items c.read_row.new.out.items c.read_row.new.out.items _ _ c.row_error.result c.in-Some.ensures.line c.in-Some-behind_word.ensures.0 c.in-Some-behind_word.ensures.1 c.in-Err-Row.field-0-is c.in-Err-Row.ensures c.row_error.ensures
