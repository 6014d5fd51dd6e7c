use Rattle.std.proofs.Common.{◌≡◌, ◌++◌, [], map, take}
use Rattle.csv.specs.Records.{fields_of, partial_of}
use Rattle.ground_exports.specs.Rows.{fixed_columns}
use Rattle.ground_exports.proofs.csv_rows.head_row.Given as goal

abbrev pub invariant-loop-key : goal.invariant-loop-key
invariant-loop-key l = record {
  fields : fields_of l.row ≡ fixed_columns ++ map (λ key. key.now) (take l.key-index l.keys);
  partial : partial_of l.row ≡ [];
}
