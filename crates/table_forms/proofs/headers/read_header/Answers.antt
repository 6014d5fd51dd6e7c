use Rattle.std.proofs.Common.{arith}
use Rattle.std.proofs.lemmas.Bool.Decides.{nat_tests}
use Rattle.table_forms.proofs.PayloadLemmas.{open_is}
use Rattle.table_forms.proofs.HeaderLemmas.{header_zeros, header_ok, header_other, header_refused}
use Rattle.table_forms.proofs.headers.read_header.Goals as goal

pub read_row-requires : goal.read_row-requires
read_row-requires c = let short = (open_is _ _ c.requires.fields).short in omega (arith, short)

pub returns-in-Ok-read_row : goal.returns-in-Ok-read_row
returns-in-Ok-read_row c =
    header_ok _ _ _ _ _ c.args.row.now.items c.read_row.new.out.items c.in-Some.ensures.words c.requires.none c.in-Ok-read_row.ensures (grind (arith, nat_tests, c.len.ensures, c.if-len-eq-HEADER.true))

pub returns-in-Ok-2 : goal.returns-in-Ok-2
returns-in-Ok-2 c =
    header_other _ _ _ _ _ c.args.row.now.items c.read_row.new.out.items c.in-Some.ensures.words c.requires.none c.in-Ok-2.ensures (grind (arith, nat_tests, c.len.ensures, c.if-len-eq-HEADER.false))

pub returns-in-Err-Row : goal.returns-in-Err-Row
returns-in-Err-Row c =
    header_refused _ _ _ _ _ c.args.row.now.items c.read_row.new.out.items c.read_row.new.out.items _ _ c.row_error.result c.in-Some.ensures.words c.requires.none c.in-Err-Row.field-0-is c.in-Err-Row.ensures c.row_error.ensures

pub returns-in-Ok : goal.returns-in-Ok
returns-in-Ok c = header_zeros _ _ _ c.args.row.now.items _ c.in_default.ensures.words c.requires.none c.in-Ok.ensures
