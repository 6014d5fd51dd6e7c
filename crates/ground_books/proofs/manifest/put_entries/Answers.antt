use Rattle.ground_books.proofs.ManifestLemmas.{entry_put, entries_end}
use Rattle.ground_books.proofs.manifest.put_entries.Goals as goal

pub loop-file-preserved : goal.loop-file-preserved
loop-file-preserved c = entry_put c.args.files.now c.loop-file.file-index _ c.file-item.result c.args.out.now.items c.loop-file.out.items c.put_file.new.out.items c.loop-file-test.true c.file-item.is c.in_ok-put_file.ensures c.loop-file.invariant

pub returns : goal.returns
returns c = entries_end c.args.files.now c.loop-file.file-index c.args.out.now.items c.loop-file.out.items c.loop-file-test.false c.loop-file.invariant
