use Rattle.std.proofs.Common.{refl, arith}
use Rattle.row_forms.proofs.RowLemmas.{end_gives, missing_gives, then_gives, refused_gives, zeros_gives, check_gives, check_room, unchecked_gives}
use Rattle.row_forms.proofs.rows.+read_row.Goals as goal

pub returns-in_default : goal.returns-in_default
returns-in_default t c = end_gives _ _ _ _ _ _ c.in_default.ensures.cases c.end_of_row.ensures

pub returns-in_default-split_word : goal.returns-in_default-split_word
returns-in_default-split_word t c = missing_gives _ _ _ _ _ _ _ _ _ _ c.args.out.now.items c.in-Some.ensures.cases c.in-Value.is c.in_default-split_word.ensures.words c.fault_at.ensures

pub returns-in-Ok : goal.returns-in-Ok
returns-in-Ok t c = then_gives _ _ _ _ _ _ _ _ _ _ _ _ _ c.read_field.new.out.items _ c.in-Some.ensures.cases c.in-Value.is c.in-Some-split_word.ensures.words refl c.in-Ok.ensures c.read_row.ensures

pub returns-in-Err : goal.returns-in-Err
returns-in-Err t c = refused_gives _ _ _ _ _ _ _ _ _ _ _ _ _ c.read_field.new.out.items c.in-Some.ensures.cases c.in-Value.is c.in-Some-split_word.ensures.words c.in-Err.ensures c.error_at.ensures

pub returns-in-Ok-push_zeros : goal.returns-in-Ok-push_zeros
returns-in-Ok-push_zeros t c = zeros_gives _ _ _ _ _ _ _ _ _ c.push_zeros.new.out.items _ c.in-Some.ensures.cases c.in-Zeros.is c.in-Ok-push_zeros.ensures c.read_row-in-Ok-push_zeros.ensures

pub returns-in-Ok-read_row : goal.returns-in-Ok-read_row
returns-in-Ok-read_row t c =
    check_gives _ _ _ _ _ _ c.len-at.result c.args.out.now.items c.push_zeros-in-Check.new.out.items c.read_row-in-Check.new.out.items c.seal.new.out.items
    c.in-Some.ensures.cases c.in-Check.is (omega arith) c.in_default-push_zeros.ensures c.in-Ok-read_row.ensures c.seal.ensures

pub seal-requires : goal.seal-requires
seal-requires t c =
    let room = check_room _ _ _ _ c.len-at.result c.args.out.now.items c.push_zeros-in-Check.new.out.items c.read_row-in-Check.new.out.items (omega arith) c.in_default-push_zeros.ensures c.in-Ok-read_row.ensures in
    omega (arith, room)

pub returns-in-Err-read_row : goal.returns-in-Err-read_row
returns-in-Err-read_row t c = unchecked_gives _ _ _ _ _ _ _ _ c.push_zeros-in-Check.new.out.items c.read_row-in-Check.new.out.items c.in-Some.ensures.cases c.in-Check.is c.in-Err-read_row.ensures
