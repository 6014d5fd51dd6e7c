-- A used entry without a reason to be refused has what a used entry needs.
use Rattle.std.proofs.Common.{◌≡◌, ◌≢◌, ℕ, ◌+◌, ◌<◌, Bool, true, false, cond, not, ◌&&◌, List, [], ◌∷◌, Option, Some, None, refl, arith}
use Rattle.std.specs.Prelude.{◌==◌, nat_le, nat_lt}
use Rattle.std.proofs.lemmas.Bool.{leb-true, eqb-false}
use Rattle.std.proofs.lemmas.List.Elements.{All-nil, All-cons}
use Rattle.table_files.specs.Entries.{fault_or, first_fault}
use Rattle.table_files.specs.declared.fault.EntryFault.{EntryFault}
use Rattle.lc_watch.specs.Expressions.{values_left, is_one}
use Rattle.lc_watch.specs.Actionpoints.{is_used, is_whole, is_startable, expression, row_reason, AbleWhereUsed, AreAble}
use Rattle.lc_watch.specs.declared.actionpoints.ActRow.{ActRow}
use Rattle.lc_watch.proofs.Both.{both_true}
use Rattle.lc_watch.proofs.Leaving.{leaves_one}

-- what the reasons leave
parts : (over used startable whole : Bool) → cond {A = Option ℕ} over (Some 1) (cond {A = Option ℕ} (not used) None (cond {A = Option ℕ} (not startable) (Some 2) (cond {A = Option ℕ} whole None (Some 3)))) ≡ None → used ≡ true → (startable ≡ true) × (whole ≡ true)
parts true used startable whole none is = cc
parts false false startable whole none is = cc
parts false true false whole none is = cc
parts false true true true none is = (refl, refl)
parts false true true false none is = cc

some_number : (n : ℕ) → not (n == 0) ≡ true → 0 < n
some_number n is = by_test (n == 0) refl is
  where
    by_test : (t : Bool) → (n == 0) ≡ t → not t ≡ true → 0 < n
    by_test true zero some = cc
    by_test false other some = let apart : n ≢ 0 = eqb-false n 0 other in omega arith

pub able_by : (row : ActRow) → row_reason row ≡ None → AbleWhereUsed row
unfolding row_reason
able_by row none used =
    let all = parts (nat_lt 2 row.state) (is_used row) (is_startable row) (is_whole row) none used in
    let sequence = both_true (nat_le 1 row.rts && nat_le row.rts 64) (not (row.failures == 0)) all.0 in
    let named = both_true (nat_le 1 row.rts) (nat_le row.rts 64) sequence.0 in
    let words = both_true (nat_le 1 row.size && nat_le row.size 16) (is_one (values_left (λ place. false) (expression row))) all.1 in
    let size = both_true (nat_le 1 row.size) (nat_le row.size 16) words.0 in
    record {
      least = leb-true 1 row.rts named.0;
      most = leb-true row.rts 64 named.1;
      failures = some_number row.failures sequence.1;
      some_words = leb-true 1 row.size size.0;
      few_words = leb-true row.size 16 size.1;
      whole = leaves_one (λ place. false) (expression row) words.1;
    }

-- where there is no fault, every entry is able
pub all_able : (n : ℕ) (rows : List ActRow) → first_fault row_reason n rows ≡ None → AreAble rows
unfolding first_fault
all_able n [] none = All-nil AbleWhereUsed
all_able n (row ∷ rows) none =
    let apart = neither (row_reason row) (first_fault row_reason (n + 1) rows) none in
    All-cons AbleWhereUsed row rows (able_by row apart.0) (all_able (n + 1) rows apart.1)
  where
    neither : (o : Option ℕ) (behind : Option EntryFault) → fault_or n o behind ≡ None → (o ≡ None) × (behind ≡ None)
    neither None behind is = (refl, is)
    neither (Some reason) behind is = cc
