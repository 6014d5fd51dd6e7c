use Rattle.std.proofs.Common.{◌≡◌, ◌<◌, ◌≤◌, ◌+◌, ◌*◌, ℕ, length, List, [], ◌∷◌, ◌++◌, Option, None, ap, ◌∙◌, sym, refl, subst, arith}
use Rattle.bus_pipes.specs.Held.{adding}
use Rattle.bus_pipes.proofs.Deliveries.{adding_none}
use Rattle.md_dwell.specs.Lists.{list_of, delays}
use Rattle.memory_window.specs.Window.{seen}
use Rattle.bus_pipes.specs.declared.names.Out.TheVariants.{Made}
use Rattle.md_dwell.specs.Answers.{dwell_items, dwell_packet}
use Rattle.md_dwell.specs.Rounds.{round_at}
use Rattle.md_dwell.specs.Readings.{IsReadTo}
use Rattle.md_dwell.proofs.Counts.{dwell_counted}
use Rattle.commands.proofs.Heard.{counted_more}
use Rattle.md_dwell.proofs.Courses.{paused, again, round_over}
use Rattle.md_dwell.proofs.streams.Stream.read_on.Goals as goal

pub returns-then-self-list-clause-items : goal.returns-then-self-list-clause-items
returns-then-self-list-clause-items c = λ since r past some_delay held.
    let list = list_of c.args.self.now.plan in
    let image = seen c.args.window.now in
    let new = c.gather.new.self in
    let same : c.list.result.now ≡ list = c.list.ensures.list ∙ ap list_of c.gather.ensures.plan in
    let within : new.next < length list = rw (← same) c.if-self-list.true in
    let read = c.gather.ensures.read list (since + r * delays list) past refl held.read in
    let none : round_at list since (past ++ image ∷ []) ≡ None = (paused list since past image r new.next new.wait new.bytes some_delay held.over within (c.gather.ensures.waits within) read).1 in
    sym (ap (λ (o : Option (List ℕ)). adding c.args.out.now (dwell_items c.args.now c.args.table o)) none ∙ adding_none c.args.out.now)

pub returns-then-self-eq0-clause-stands : goal.returns-then-self-eq0-clause-stands
returns-then-self-eq0-clause-stands c = λ since r past some_delay held.
    let list = list_of c.args.self.now.plan in
    let image = seen c.args.window.now in
    let read = c.gather.ensures.read list (since + r * delays list) past refl held.read in
    let last = c.gather.ensures.last list (since + r * delays list) past refl held.within held.read in
    let round = round_over since r past image c.args.self.now c.gather.new.self c.list.result.now some_delay held c.list.ensures.list c.gather.ensures.plan c.if-self-list.false read last in
    let from = since + (r + 1) * delays list in
    let new = c.gather-then-self-eq0.new.self in
    let plan : list ≡ list_of c.gather.new.self.plan = sym (ap list_of c.gather.ensures.plan) in
    let still : IsReadTo list (since + (r + 1) * delays list) (past ++ image ∷ []) 0 0 [] = subst (λ (wait : ℕ). IsReadTo list (since + (r + 1) * delays list) (past ++ image ∷ []) 0 wait []) c.if-self-eq0.true round.begun in
    let began : IsReadTo list (since + (r + 1) * delays list) (past ++ image ∷ []) 0 0 c.new-self.result = rw c.new-self.ensures still in
    let more = c.gather-then-self-eq0.ensures.read list (since + (r + 1) * delays list) past plan began in
    let same : list_of new.plan ≡ list = ap list_of (c.gather-then-self-eq0.ensures.plan ∙ c.gather.ensures.plan) in
    let few : new.next ≤ length list = rw (← same) new.within in
    let some_place : 0 < length list = (let within = held.within in omega arith) in
    let waits : new.next < length list → 0 < new.wait = rw plan c.gather-then-self-eq0.ensures.waits in
    let next = again list since past image r new.next new.wait new.bytes some_delay round.over round.last few waits
    (c.gather-then-self-eq0.ensures.last list (since + (r + 1) * delays list) past plan some_place began) more in
    record { round = r + 1; in_round = next.0; waits = next.1 }

pub returns-then-self-eq0-clause-items : goal.returns-then-self-eq0-clause-items
returns-then-self-eq0-clause-items c = λ since r past some_delay held.
    let list = list_of c.args.self.now.plan in
    let image = seen c.args.window.now in
    let read = c.gather.ensures.read list (since + r * delays list) past refl held.read in
    let last = c.gather.ensures.last list (since + r * delays list) past refl held.within held.read in
    let round = round_over since r past image c.args.self.now c.gather.new.self c.list.result.now some_delay held c.list.ensures.list c.gather.ensures.plan c.if-self-list.false read last in
    c.push.ensures.after
    ∙ ap (λ (p : List ℕ). adding c.args.out.now (Made p ∷ [])) (c.dwell_packet.ensures ∙ ap (λ (b : List ℕ). dwell_packet c.args.now c.args.table b) c.bytes.ensures.value)
    ∙ sym (ap (λ (o : Option (List ℕ)). adding c.args.out.now (dwell_items c.args.now c.args.table o)) round.due)

pub returns-else-self-eq0-clause-stands : goal.returns-else-self-eq0-clause-stands
returns-else-self-eq0-clause-stands c = λ since r past some_delay held.
    let list = list_of c.args.self.now.plan in
    let image = seen c.args.window.now in
    let read = c.gather.ensures.read list (since + r * delays list) past refl held.read in
    let last = c.gather.ensures.last list (since + r * delays list) past refl held.within held.read in
    let round = round_over since r past image c.args.self.now c.gather.new.self c.list.result.now some_delay held c.list.ensures.list c.gather.ensures.plan c.if-self-list.false read last in
    let began : IsReadTo list (since + (r + 1) * delays list) (past ++ image ∷ []) 0 c.gather.new.self.wait c.new-self.result = rw c.new-self.ensures round.begun in
    let some_place : 0 < length list = (let within = held.within in omega arith) in
    record { round = r + 1; in_round = record { within = some_place; read = began; over = round.over }; waits = omega arith }

pub returns-else-self-eq0-clause-items : goal.returns-else-self-eq0-clause-items
returns-else-self-eq0-clause-items c = λ since r past some_delay held.
    let list = list_of c.args.self.now.plan in
    let image = seen c.args.window.now in
    let read = c.gather.ensures.read list (since + r * delays list) past refl held.read in
    let last = c.gather.ensures.last list (since + r * delays list) past refl held.within held.read in
    let round = round_over since r past image c.args.self.now c.gather.new.self c.list.result.now some_delay held c.list.ensures.list c.gather.ensures.plan c.if-self-list.false read last in
    c.push.ensures.after
    ∙ ap (λ (p : List ℕ). adding c.args.out.now (Made p ∷ [])) (c.dwell_packet.ensures ∙ ap (λ (b : List ℕ). dwell_packet c.args.now c.args.table b) c.bytes.ensures.value)
    ∙ sym (ap (λ (o : Option (List ℕ)). adding c.args.out.now (dwell_items c.args.now c.args.table o)) round.due)

pub returns-then-self-eq0-clause-counted : goal.returns-then-self-eq0-clause-counted
returns-then-self-eq0-clause-counted c = λ before.
    counted_more c.args.out.now c.push.new.self (Made c.dwell_packet.result ∷ []) c.push.ensures.after (rw c.dwell_packet.ensures (dwell_counted c.args.now c.args.table c.bytes.result.now c.requires.table.0 c.requires.table.1)) before

pub returns-else-self-eq0-clause-counted : goal.returns-else-self-eq0-clause-counted
returns-else-self-eq0-clause-counted c = λ before.
    counted_more c.args.out.now c.push.new.self (Made c.dwell_packet.result ∷ []) c.push.ensures.after (rw c.dwell_packet.ensures (dwell_counted c.args.now c.args.table c.bytes.result.now c.requires.table.0 c.requires.table.1)) before
