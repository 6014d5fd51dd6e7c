use Rattle.std.proofs.Common.{◌≡◌, not, map, ap, ◌∙◌}
use Rattle.std.specs.Prelude.{filter}
use Rattle.subjects.specs.declared.seat.Seat.{Seat}
use Rattle.subjects.specs.Plans.{Simulated}
use Rattle.subjects.specs.Seats.{held}
use Rattle.subjects.specs.Crowds.{Seen, is_named}
use Rattle.subjects.proofs.Filters.{map_filter}
use Rattle.subjects.proofs.crowd.Crowd.delete.Goals as goal
use Rattle.subjects.proofs.crowd.Crowd.delete.Goals.{After-keep_others}

left : (g : _) (c : After-keep_others g) → held c.keep_others.new.seats.items ≡ filter (λ x. not (is_named c.args.name (g.S.Subject.seen x))) c.args.self.now.subjects
left g c =
    let is_other = λ (x : g.row.S.Denot). not (is_named c.args.name (g.S.Subject.seen x)) in
    ap held c.keep_others.ensures.left
    ∙ map_filter (λ (s : Seat g.row.S.Denot). s.subject) is_other c.self.inside.seats.items
    ∙ ap (λ (v : Seen g.row.S.Denot). filter is_other v.subjects) c.self.view_is

pub returns-clause-subjects : goal.returns-clause-subjects
returns-clause-subjects g c =
    ap (map g.S.Subject.seen) (left g c) ∙ map_filter g.S.Subject.seen (λ (s : Simulated). not (is_named c.args.name s)) c.args.self.now.subjects

pub returns-clause-others : goal.returns-clause-others
returns-clause-others g c = left g c
