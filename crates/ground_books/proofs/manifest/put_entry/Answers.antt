use Rattle.ground_books.proofs.ManifestLemmas.{five_put}
use Rattle.ground_books.proofs.manifest.put_entry.Goals as goal

pub returns : goal.returns
returns c = five_put c.args.out.now.items _ _ _ _ _ _ _ _ _ _ c.in_ok-extend_from_slice.ensures.items c.in_ok-put_field.ensures c.in_ok-put_number.ensures c.in_ok-put_check.ensures c.in_ok-put_name.ensures
