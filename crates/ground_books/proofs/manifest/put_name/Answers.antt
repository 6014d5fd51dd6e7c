use Rattle.ground_books.proofs.ManifestLemmas.{name_put}
use Rattle.ground_books.proofs.manifest.put_name.Goals as goal

pub returns : goal.returns
returns c = name_put c.args.out.now.items _ _ _ _ _ _ c.in_ok-put_field.ensures c.in_ok-extend_from_slice.ensures.items c.in_ok-push.ensures.items
