use Rattle.std.proofs.Common.{refl, sym, ◌∙◌, ap, subst}
use Rattle.memory_window.specs.Memory.{regions_of}
use Rattle.table_files.specs.Files.{file_at}
use Rattle.table_files.specs.Headers.{payload_of_file}
use Rattle.table_files.proofs.Accepted.{kind_known}
use Rattle.table_files.proofs.Lists.{numbers_of_tables}
use Rattle.sc_sequences.specs.State.{Stands as ScStands}
use Rattle.active_tables.specs.Tables.{Loaded}
use Rattle.app_suite.specs.Activations.{can_activate}
use Rattle.app_suite.proofs.Activating.{with_kind}
use Rattle.frame_exec.proofs.Naming.{accepted_parts, naming_is, named_active, ready_active, given_next}
use Rattle.frame_exec.proofs.bench.Bench.make_active.Goals as goal

pub activate_checked-requires-clause-well : goal.activate_checked-requires-clause-well
activate_checked-requires-clause-well c = c.requires.ready.given.well

pub hand_over-requires : goal.hand_over-requires
hand_over-requires c =
    let files = c.args.self.now.tables.files in
    kind_known (file_at files c.args.file) c.in-Some.kind (((numbers_of_tables files c.args.file c.in-Some.kind).0 (sym c.kind.ensures ∙ c.in-Some.is)).2)

pub returns-clause-names : goal.returns-clause-names
returns-clause-names c =
    let files = c.args.self.now.tables.files in
    let is = sym c.kind.ensures ∙ c.in-Some.is in
    let known = kind_known (file_at files c.args.file) c.in-Some.kind (((numbers_of_tables files c.args.file c.in-Some.kind).0 is).2) in
    let parts = accepted_parts (can_activate c.in-Some.kind) c.runs.result (sym c.naming_of-naming.ensures ∙ c.in-Accepted.is) in
    named_active c.args.self.now _ c.args.file c.in-Some.kind is known parts.0 (λ begin history stood. sym (c.runs.ensures begin history (subst (ScStands begin history) (sym c.deref.ensures) stood)) ∙ parts.1) c.activate_checked.ensures c.hand_over.ensures.takes
    (record { sc = refl; mm = refl; lc = refl; wires = refl; memory = refl }) (record { lines = refl; epoch = refl; number = refl; failed = refl; files = ap (λ (t : Loaded). t.files) c.activate_checked.ensures }) refl

pub returns-clause-ready : goal.returns-clause-ready
returns-clause-ready c =
    let old = c.args.self.now in
    let files = old.tables.files in
    let kind = c.in-Some.kind in
    let is = sym c.kind.ensures ∙ c.in-Some.is in
    let known = kind_known (file_at files c.args.file) kind (((numbers_of_tables files c.args.file kind).0 is).2) in
    let parts = accepted_parts (can_activate kind) c.runs.result (sym c.naming_of-naming.ensures ∙ c.in-Accepted.is) in
    let tables = ap (λ (t : Loaded). t.set) c.activate_checked.ensures ∙ with_kind old.tables.set files c.args.file kind is in
    ready_active old _ kind (payload_of_file (file_at files c.args.file)) known parts.0 (λ begin history stood. sym (c.runs.ensures begin history (subst (ScStands begin history) (sym c.deref.ensures) stood)) ∙ parts.1) tables c.hand_over.ensures.takes
    (record { sc = refl; mm = refl; lc = refl; wires = refl; memory = refl }) c.hand_over.ensures.given
    (given_next (regions_of old.memory.ram.areas) old.tables c.activate_checked.new.self c.args.file c.activate_checked.ensures c.requires.ready.given) c.requires.ready

pub returns-clause-naming : goal.returns-clause-naming
returns-clause-naming c = λ setup s files has.
    naming_is setup s c.args.self.now c.args.file c.in-Some.kind _ files (sym c.kind.ensures ∙ c.in-Some.is)
    (sym c.in-Accepted.is ∙ c.naming_of-naming.ensures) (c.runs.ensures _ _ (subst (ScStands _ _) (sym c.deref.ensures) has.apps.sc.1))
