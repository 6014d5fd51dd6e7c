use Rattle.std.proofs.Common.{refl}
use Rattle.table_files.specs.Kinds.{is_padded, named_kind, rts_tables}
use Rattle.table_files.proofs.laws.name_rows.Goals as goal

pub returns : goal.returns
unfolding is_padded named_kind rts_tables
returns c = record { dwell = refl; eeprom = refl; memory = refl; limits = refl; health = refl; absolute = refl; relative = refl; padded = refl; whole = refl }
