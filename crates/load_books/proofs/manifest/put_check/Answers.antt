use Rattle.load_books.proofs.ManifestLemmas.{three_put}
use Rattle.load_books.proofs.manifest.put_check.Goals as goal

pub returns : goal.returns
returns c = three_put c.args.out.now.items _ _ _ _ _ _ c.in_ok-push.ensures.items c.in_ok-push_crc.ensures c.in_ok-push-2.ensures.items
