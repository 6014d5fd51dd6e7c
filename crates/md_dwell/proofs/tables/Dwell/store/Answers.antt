use Rattle.std.proofs.Common.{◌≡◌, ℕ, List, refl}
use Rattle.std.specs.Prelude.{◌==◌}
use Rattle.md_dwell.specs.Tables.{dwell_of, DwellTable}
use Rattle.md_dwell.specs.declared.tables.DwellEntry.{DwellEntry}
use Rattle.md_dwell.proofs.tables.Dwell.store.Goals as goal

table_same : (enabled flag : ℕ) (entries those : List DwellEntry) → enabled ≡ flag → entries ≡ those → ◌≡◌ {A = DwellTable} (record { enabled = enabled == 1; entries = entries }) (record { enabled = flag == 1; entries = those })
table_same enabled flag entries those same_flag same = rw (same_flag, same) refl

pub returns : goal.returns
unfolding dwell_of
returns c = table_same _ _ _ _ c.be16.ensures c.read.ensures
