use Rattle.std.proofs.Common.{◌∙◌, ap, sym, map, length}
use Rattle.std.proofs.lemmas.List.{length-map}
use Rattle.csv.specs.Writing.{row_text, default_writer}
use Rattle.ground_exports.proofs.RowLemmas.{rows_written}
use Rattle.ground_exports.proofs.csv_rows.write_rows.Goals as goal

pub returns : goal.returns
returns g c =
    rows_written c.make.result (map (λ key. key.now) c.as_slice.result.now) _ _ _ _ _ c.as_slice-2.result.now
    (ap (λ xs. length xs) (sym c.as_slice.ensures.value) ∙ sym (length-map c.as_slice.result.now _))
    (c.as_slice-2.ensures.value ∙ c.in_ok-head.ensures ∙ ap (row_text default_writer) c.in_ok-row.ensures) c.in_ok-write_made.ensures c.make.ensures
