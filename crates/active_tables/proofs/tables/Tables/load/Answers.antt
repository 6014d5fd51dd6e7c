use Rattle.std.proofs.Common.{◌≡◌, ℕ, ◌+◌, drop, Option, option_map, sym, ◌∙◌, ap, arith}
use Rattle.table_files.specs.Files.{file_at}
use Rattle.table_files.specs.declared.fault.EntryFault.{EntryFault}
use Rattle.active_tables.specs.Tables.{Loaded, said_or, first_said, entry_fault_in, fault_at, tables_of}
use Rattle.active_tables.proofs.Files.{tables_none, tables_before, said_none, said_before, fault_of_all}
use Rattle.active_tables.proofs.tables.Tables.load.Goals as goal

pub files-init : goal.files-init
files-init c =
    let count = c.len-left.result in
    record {
      named = ap (λ (t : Loaded). t.files) c.blank-tables.ensures;
      tables = ap (λ (t : Loaded). t.set) c.blank-tables.ensures ∙ sym (tables_none c.args.files.now count (omega (arith, c.len-left.ensures.len)));
      found = sym (ap (option_map fault_at) (said_none entry_fault_in c.args.files.now (count + 1) count (omega (arith, c.len-left.ensures.len))));
      small = tt;
      within = omega (arith, c.len-left.ensures.len);
    }

pub files-preserved : goal.files-preserved
files-preserved c =
    let files = c.args.files.now in
    let left = c.files.left in
    let behind = first_said entry_fault_in (left + 1) (drop left files) in
    record {
      named = ap (λ (t : Loaded). t.files) (c.put_file-fault.ensures.table (file_at files left) c.get.ensures) ∙ c.files.invariant.named;
      tables = ap (λ (t : Loaded). t.set) (c.put_file-fault.ensures.table (file_at files left) c.get.ensures) ∙ tables_before files left c.files.tables.set c.files-test.true c.files.invariant.within c.files.invariant.tables;
      found = c.earlier_fault-found.ensures.fault behind c.files.invariant.found
          ∙ ap (λ (fault : Option EntryFault). option_map fault_at (said_or left fault behind)) (c.put_file-fault.ensures.fault (file_at files left) c.get.ensures)
          ∙ ap (option_map fault_at) (said_before entry_fault_in files left c.files-test.true c.files.invariant.within);
      small = c.earlier_fault-found.ensures.small c.put_file-fault.ensures.small c.files.invariant.small;
      within = omega (arith, c.files.invariant.within);
    }

pub returns-in-Some-clause-fault : goal.returns-in-Some-clause-fault
returns-in-Some-clause-fault c = sym (fault_of_all c.args.files.now c.files.left c.files.found (omega (arith, c.files-test.false)) c.files.invariant.found) ∙ c.in-Some.is

pub returns-in-None-clause-loaded : goal.returns-in-None-clause-loaded
returns-in-None-clause-loaded c =
    let files = c.args.files.now in
    let none : c.files.left ≡ 0 = omega (arith, c.files-test.false) in
    record {
      kept = c.files.invariant.named;
      well = sym (fault_of_all files c.files.left c.files.found (omega (arith, c.files-test.false)) c.files.invariant.found) ∙ c.in-None.is;
      named = c.files.invariant.tables ∙ ap (λ (n : ℕ). tables_of (drop n files)) none;
    }
