use Rattle.std.proofs.Common.{[], refl, sym, append-nil}
use Rattle.ground_exports.proofs.RowLemmas.{value_pushed}
use Rattle.ground_exports.proofs.csv_rows.push_values.Goals as goal

pub loop-key-init : goal.loop-key-init
loop-key-init c = record { fields = ([], refl, sym (append-nil _)); partial = c.requires }

pub loop-key-preserved : goal.loop-key-preserved
loop-key-preserved c = record {
  fields = value_pushed _ _ _ c.loop-key.invariant.fields.0 _ _ _ c.loop-key.invariant.partial c.loop-key.invariant.fields.1 c.loop-key.invariant.fields.2
      c.in_ok-push_field.ensures.fields;
  partial = c.in_ok-push_field.ensures.partial;
}
