use Rattle.std.proofs.Common.{◌≡◌, ℕ, List, ◌++◌, [], length}
use Rattle.csv.specs.Records.{fields_of, partial_of}
use Rattle.ground_exports.proofs.csv_rows.push_values.Given as goal

abbrev pub invariant-loop-key : goal.invariant-loop-key
invariant-loop-key l = record {
  fields : (values : List (List ℕ)) × (length values ≡ l.key-index) × (fields_of l.row ≡ fields_of l.fn.row ++ values);
  partial : partial_of l.row ≡ [];
}
