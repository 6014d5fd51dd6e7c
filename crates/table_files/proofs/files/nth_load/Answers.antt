use Rattle.std.proofs.Common.{subst, sym, arith}
use Rattle.table_files.specs.Headers.{IsFile}
use Rattle.table_files.proofs.Accepted.{long}
use Rattle.table_files.proofs.files.nth_load.Goals as goal

pub is_load-requires : goal.is_load-requires
is_load-requires c =
    let ok : IsFile c.bytes.result.now = subst IsFile (sym c.bytes.ensures.bytes) c.bytes.ensures.file in
    omega (arith, long c.bytes.result.now ok)
