use Rattle.std.proofs.Common.{rules, arith, ◌≡◌, ◌≤◌, ℕ, sym, ◌∙◌, refl, false, List}
use Rattle.std.specs.Prelude.{nat_lt}
use Rattle.std.proofs.lemmas.Bool.Decides.{nat_tests}
use Rattle.packet_forms.specs.Numbers.{be16_at}
use Rattle.table_files.specs.Entries.{first_fault}
use Rattle.table_files.specs.Entries as table_entries
use Rattle.md_dwell.specs.Tables.{entry_at, entries_in, entry_reason, dwell_fault_of}
use Rattle.md_dwell.proofs.tables.Dwell.read.Goals as goal

-- a payload whose flag is 0 or 1
by_entries : (payload : List ℕ) (enabled : ℕ) → enabled ≡ be16_at payload 0 → enabled ≤ 1 → dwell_fault_of payload ≡ first_fault entry_reason 1 (table_entries.entries_in entry_at 25 payload)
unfolding dwell_fault_of entries_in table_entries.entries_in
by_entries payload enabled is small =
    let within : nat_lt 1 (be16_at payload 0) ≡ false = grind (arith, nat_tests) in
    rw within refl

pub returns-then-enabled-gt1-clause-fault : goal.returns-then-enabled-gt1-clause-fault
unfolding dwell_fault_of
returns-then-enabled-gt1-clause-fault c = search rules

pub returns-in-Some-clause-fault : goal.returns-in-Some-clause-fault
returns-in-Some-clause-fault c = c.in-Some.ensures.fault ∙ sym (by_entries c.args.payload.now c.be16-enabled.result c.be16-enabled.ensures c.if-enabled-gt1.false)

pub returns-in-None-clause-fault : goal.returns-in-None-clause-fault
returns-in-None-clause-fault c = c.in-None.ensures.fault ∙ sym (by_entries c.args.payload.now c.be16-enabled.result c.be16-enabled.ensures c.if-enabled-gt1.false)
