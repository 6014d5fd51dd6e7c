use Rattle.std.proofs.Common.{◌≡◌, ℕ, List, [], ◌∙◌, ap, subst, arith}
use Rattle.fsw_outside.specs.TellingLaws.{told_then, told_map}
use Rattle.rehearsal.specs.Fed.{Fed}
use Rattle.rehearsal.specs.Text.{IsRead}
use Rattle.rehearsal.proofs.Running.{read_still}
use Rattle.rehearsal.proofs.Pieces.{failed_on}
use Rattle.rehearsal.proofs.text.read_on.Goals as goal

pub next_item-requires : goal.next_item-requires
next_item-requires g c =
    let s = c.requires.holds in
    let i = c.pieces.invariant.reads s.0 s.1 s.2 in
    record { holds = (i.0, s.1, i.1) }

pub pieces-smaller : goal.pieces-smaller
pieces-smaller g c = omega (arith, c.next_item.ensures.less, c.in-Ok.ensures.less)

pub pieces-preserved : goal.pieces-preserved
pieces-preserved g c = record {
  opened = c.fetch.ensures.is_open;
  reads = λ text gave h.
      let i = c.pieces.invariant.reads text gave h in
      let n = c.in-Dry.ensures.gives i.0 gave i.1 in
      let a = c.in-Ok.ensures.reads n.0 gave n.1.0 in (
        a.0,
        a.1,
        told_then i.2 a.3 (λ before middle after first second start r.
            second start (subst (λ (pending : List ℕ). IsRead n.0 pending start middle) n.1.4 (read_still i.0 n.0 c.pieces.feed.pending c.next_item.new.feed.pending start middle n.2 (first start r)))),
      );
  well = c.in-Ok.ensures.cause.kept ∙ c.pieces.invariant.well;
  mark = c.fetch.ensures.mark ∙ c.pieces.invariant.mark;
}

pub returns-in_default-clause-reads : goal.returns-in_default-clause-reads
returns-in_default-clause-reads g c = λ text gave h.
    let i = c.pieces.invariant.reads text gave h in
    let n = c.in-Dry.ensures.gives i.0 gave i.1 in
    let a = c.in_default.ensures.reads n.0 gave n.1.0 in
    let none_now : c.fetch.new.feed.pending ≡ [] = ap (λ (f : Fed). f.pending) c.in_default.ensures.same_feed ∙ n.1.4 in (
      a.0,
      failed_on c.fetch.new.reader c.fetch.new.feed n.0 a.0 gave a.1 a.2 none_now n.1.3 n.1.1 n.1.2,
      told_then i.2 a.3 (λ before middle after first second start r.
          second start (subst (λ (pending : List ℕ). IsRead n.0 pending start middle) n.1.4 (read_still i.0 n.0 c.pieces.feed.pending c.next_item.new.feed.pending start middle n.2 (first start r)))),
    )

pub returns-in-Header-clause-reads : goal.returns-in-Header-clause-reads
returns-in-Header-clause-reads g c = λ text gave h.
    let i = c.pieces.invariant.reads text gave h in
    let n = c.in-Header.ensures.gives i.0 gave i.1 in
    (n.0, n.1, told_map i.2 (λ before after first start r. read_still i.0 n.0 c.pieces.feed.pending c.next_item.new.feed.pending start after n.2 (first start r)))

pub returns-in-Frame-clause-reads : goal.returns-in-Frame-clause-reads
returns-in-Frame-clause-reads g c = λ text gave h.
    let i = c.pieces.invariant.reads text gave h in
    let n = c.in-Frame.ensures.gives i.0 gave i.1 in
    (n.0, n.1, told_map i.2 (λ before after first start r. read_still i.0 n.0 c.pieces.feed.pending c.next_item.new.feed.pending start after n.2 (first start r)))

pub returns-in-End-clause-reads : goal.returns-in-End-clause-reads
returns-in-End-clause-reads g c = λ text gave h.
    let i = c.pieces.invariant.reads text gave h in
    let n = c.in-End.ensures.gives i.0 gave i.1 in
    (n.0, n.1, told_map i.2 (λ before after first start r. read_still i.0 n.0 c.pieces.feed.pending c.next_item.new.feed.pending start after n.2 (first start r)))

pub returns-in-Bad-clause-reads : goal.returns-in-Bad-clause-reads
returns-in-Bad-clause-reads g c = λ text gave h.
    let i = c.pieces.invariant.reads text gave h in
    let n = c.in-Bad.ensures.gives i.0 gave i.1 in
    (n.0, n.1, told_map i.2 (λ before after first start r. read_still i.0 n.0 c.pieces.feed.pending c.next_item.new.feed.pending start after n.2 (first start r)))
