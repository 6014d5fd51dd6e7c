use Rattle.std.proofs.Common.{◌++◌, ◌∙◌, ap}
use Rattle.std.specs.Prelude.{decimal}
use Rattle.ground_exports.proofs.RowLemmas.{are_cells}
use Rattle.ground_exports.proofs.csv_rows.line_row.Goals as goal

pub returns : goal.returns
returns c =
    are_cells c.args.line.now _ _ _ _ _ _ _ _ _ _ _ _
    (c.as_slice.ensures.value ∙ c.in_ok-push_decimal.ensures ∙ ap (λ xs. xs ++ decimal c.args.line.now.frame) c.new-frame.ensures.items)
    c.in_ok-cells.ensures.kind c.in_ok-cells.ensures.pipe c.in_ok-cells.ensures.cause c.in_ok-cells.ensures.packet
    c.in_ok-row.ensures.cells.1 c.in_ok-push_values.ensures.2 c.in_ok-push_values.ensures.1
