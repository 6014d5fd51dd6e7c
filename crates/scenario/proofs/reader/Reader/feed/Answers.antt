use Rattle.std.proofs.Common.{◌≡◌, ◌+◌, ◌-◌, length, take, min, true, false, ap, sym, ◌∙◌, refl, arith}
use Rattle.scenario.proofs.StandingLemmas.{stands_fed, waits_is, plain_all, plain_before, takes_lf, takes_front}
use Rattle.scenario.proofs.reader.Reader.feed.Goals as goal

pub returns-in-Some-clause-stands : goal.returns-in-Some-clause-stands
returns-in-Some-clause-stands c =
    let waits = waits_is c.args.self.now (sym c.if-has_line.ensures) in
    let piece = c.args.piece.now in
    let near = c.front-front.result.now in
    let len : c.len.result ≡ length c.args.self.now.line.value = cc in
    let most = min (641 - length c.args.self.now.line.value) (length piece) in
    let takes = takes_lf piece near most c.in-Some.at (rw (← len) c.front-front.ensures) (omega arith) c.in-Some.ensures in
    stands_fed c.args.self.now _ (take c.in-Some.at near) (take (c.in-Some.at + 1) piece) true waits.0 c.requires refl
    (ap (λ r. r.finished) c.append_front.ensures.others) (ap (λ r. r.progress) c.append_front.ensures.others) c.append_front.ensures.line
    (plain_before near c.in-Some.at c.in-Some.ensures) (omega (arith, takes.1, waits.1)) takes.0

pub returns-in-None-clause-stands : goal.returns-in-None-clause-stands
returns-in-None-clause-stands c =
    let waits = waits_is c.args.self.now (sym c.if-has_line.ensures) in
    let piece = c.args.piece.now in
    let near = c.front-front.result.now in
    let len : c.len.result ≡ length c.args.self.now.line.value = cc in
    let most = min (641 - length c.args.self.now.line.value) (length piece) in
    let takes = takes_front piece near most (rw (← len) c.front-front.ensures) (omega arith) in
    stands_fed c.args.self.now _ near (take (length near) piece) false waits.0 c.requires
    (ap (λ r. r.whole) c.append.ensures.others ∙ waits.0) (ap (λ r. r.finished) c.append.ensures.others) (ap (λ r. r.progress) c.append.ensures.others) c.append.ensures.line
    (plain_all near c.in-None.ensures) (omega (arith, takes.1, waits.1)) takes.0
