use Rattle.std.proofs.Common.{◌≡◌, None, sym, ap, ◌∙◌}
use Rattle.table_files.specs.Headers.{file_fault_of}
use Rattle.table_files.proofs.Lists.{one_more}
use Rattle.table_files.proofs.files.Files.add.Goals as goal

pub new-requires : goal.new-requires
new-requires c = ap file_fault_of (sym c.deref.ensures.value) ∙ sym c.find_fault.ensures ∙ c.in_default.is

pub invariant_of-self-2 : goal.invariant_of-self-2
invariant_of-self-2 c =
    let ok : file_fault_of c.args.bytes.items ≡ None = ap file_fault_of (sym c.deref.ensures.value) ∙ sym c.find_fault.ensures ∙ c.in_default.is in
    rw (c.in-Ok.ensures.items, c.new.ensures) (one_more c.self.inside.files.items c.args.bytes.items c.self.invariant (rw c.self.view_is c.requires.room) ok)
