use Rattle.std.proofs.Common.{arith}
use Rattle.book_rehearsals.proofs.BeginningLemmas.{takes_more}
use Rattle.book_rehearsals.proofs.book_names.read_more.Goals as goal

pub returns-in-Ok : goal.returns-in-Ok
returns-in-Ok g c = λ rest is.
    let read = c.in_ok-count.ensures.bytes in
    takes_more (g.F.Read.remaining c.args.text.now) (g.F.Read.remaining c.read.new.self) rest c.args.front.now.items c.extend_from_slice.new.self.items c.read.new.buf c.in_ok-count.count
    is read.0 read.1 (omega arith) c.in-Ok.ensures.items
