use Rattle.load_books.proofs.ManifestLemmas.{four_put}
use Rattle.load_books.proofs.manifest.put_entry.Goals as goal

pub returns : goal.returns
returns c = four_put c.args.out.now.items _ _ _ _ _ _ _ _ c.in_ok-extend_from_slice.ensures.items c.in_ok-put_field.ensures c.in_ok-put_number.ensures c.in_ok-put_check.ensures
