use Rattle.std.proofs.Common.{◌∙◌, ap, length}
use Rattle.ground_exports.proofs.RowLemmas.{is_row}
use Rattle.ground_exports.proofs.csv_rows.RowsLineMaker.make.Goals as goal

pub returns : goal.returns
returns c = (
  c.as_slice-2.result.now,
  c.in_ok-extend_from_slice.ensures.items,
  is_row c.args.line.now _ _ _ _ (ap length c.as_slice.ensures.value) c.in_ok-row.ensures (c.as_slice-2.ensures.value ∙ c.in_ok-text.ensures),
)
