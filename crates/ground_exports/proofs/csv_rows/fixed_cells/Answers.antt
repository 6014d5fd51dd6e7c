use Rattle.std.proofs.Common.{refl}
use Rattle.ground_exports.proofs.RowLemmas.{same_cells}
use Rattle.ground_exports.proofs.csv_rows.fixed_cells.Goals as goal

pub returns-clause-cells : goal.returns-clause-cells
returns-clause-cells c = (
  c.application_text.result.now,
  same_cells _ c.args.frame.now c.as_bytes.result.now c.application_text.result.now c.as_slice.result.now c.as_bytes-2.result.now
      c.as_bytes-3.result.now c.as_slice-2.result.now c.as_slice-3.result.now c.args.cells.now.kind.now c.args.cells.now.name.items c.args.cells.now.pipe.now
      c.args.cells.now.cause.now c.args.cells.now.words.items c.args.cells.now.packet.items
      (rw (
        c.in_ok-push_field-8.ensures.fields,
        c.in_ok-push_field-7.ensures.partial,
        c.in_ok-push_field-7.ensures.fields,
        c.in_ok-push_field-6.ensures.partial,
        c.in_ok-push_field-6.ensures.fields,
        c.in_ok-push_field-5.ensures.partial,
        c.in_ok-push_field-5.ensures.fields,
        c.in_ok-push_field-4.ensures.partial,
        c.in_ok-push_field-4.ensures.fields,
        c.in_ok-push_field-3.ensures.partial,
        c.in_ok-push_field-3.ensures.fields,
        c.in_ok-push_field-2.ensures.partial,
        c.in_ok-push_field-2.ensures.fields,
        c.in_ok-push_field.ensures.partial,
        c.in_ok-push_field.ensures.fields,
        c.new-row.ensures.partial,
        c.new-row.ensures.fields,
      ) refl)
      c.as_bytes.ensures.value c.as_slice.ensures.value c.as_bytes-2.ensures.value c.as_bytes-3.ensures.value c.as_slice-2.ensures.value c.as_slice-3.ensures.value,
)
