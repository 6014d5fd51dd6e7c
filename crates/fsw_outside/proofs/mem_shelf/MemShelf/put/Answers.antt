use Rattle.fsw_outside.proofs.Shelves.{put_content}
use Rattle.fsw_outside.proofs.mem_shelf.MemShelf.put.Goals as goal

pub returns-clause-added : goal.returns-clause-added
returns-clause-added c = put_content c.args.self.now.files.items c.push.new.self.items _ c.args.name.now c.args.bytes.now _ _ _ c.in_ok-push.ensures.items c.in_ok-name.ensures.ok c.in_ok-bytes.ensures.items c.requires.closed c.args.self.now.last_within
