use Rattle.std.proofs.Common.{refl, arith, length}
use Rattle.fsw_outside.specs.MemShelf.{content_of}
use Rattle.fsw_outside.proofs.Shelves.{by_two_counts, rest_of_some, next_reads}
use Rattle.fsw_outside.proofs.mem_shelf.MemShelfShelf.next.Goals as goal

pub returns-then-fails-clause-content : goal.returns-then-fails-clause-content
returns-then-fails-clause-content c =
    let self = c.args.self.now in
    by_two_counts self.faults self.openings c.saturating_add-self-then-fails.result self.openings (content_of self) _ _ (λ _. omega arith) (λ _. omega arith)
    (λ _ _. record { files = refl; openings = refl; name = refl; rest = refl; end = tt })

pub returns-clause-content : goal.returns-clause-content
returns-clause-content c =
    let self = c.args.self.now in
    let place = c.in-Some.place in
    let handed = c.hand_out-count in
    by_two_counts self.faults self.openings self.faults self.openings (content_of self) _ _ (λ _. omega arith) (λ _. omega arith)
    (λ _ _. next_reads self.files.items self.reading place c.index.result.now c.deref-2.result.now handed.new.buf self.most (length c.args.buf.now) handed.result self.openings self.last
    c.in-Some.is (self.reading_within place c.in-Some.is) c.index.ensures c.deref-2.ensures.value handed.ensures.count handed.ensures.front self.some_most c.requires.room)

pub returns-clause-many : goal.returns-clause-many
returns-clause-many c =
    let self = c.args.self.now in
    let place = c.in-Some.place in
    let rest = rest_of_some self.files.items self.reading place c.index.result.now c.deref-2.result.now c.in-Some.is (self.reading_within place c.in-Some.is) c.index.ensures c.deref-2.ensures.value in
    rw rest c.hand_out-count.ensures.count
