use Rattle.std.proofs.Common.{◌≡◌, ◌++◌, length}
use Rattle.table_texts.specs.Sequences.{payload_shown}
use Rattle.table_texts.proofs.sequences_shown.show_sequence.Given as goal

abbrev pub invariant-items : goal.invariant-items
invariant-items l = l.fn.out.items ++ payload_shown l.form.commands.now l.form.fields.now l.form.size l.payload ≡ l.out.items ++ payload_shown l.form.commands.now l.form.fields.now l.form.size l.rest

abbrev pub decreases-items : goal.decreases-items
decreases-items l = length l.rest
