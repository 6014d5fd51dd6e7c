use Rattle.std.proofs.Common.{◌<◌, length, sym, ap, ◌∙◌, arith}
use Rattle.sc_tables.specs.Commands.{TimedCommand, commands_in}
use Rattle.sc_tables.specs.Sequences.{commands_of}
use Rattle.sc_tables.proofs.Joined.{relative_command}
use Rattle.sc_tables.proofs.tables.ScTables.tag.Goals as goal

pub returns-in-Some-get : goal.returns-in-Some-get
returns-in-Some-get c =
    let above = c.if-place-lt-ABSOLUTE.false in
    let within : c.args.k < length (commands_in (commands_of c.self.inside.ats c.self.inside.rts.all) c.args.place) = rw c.self.view_is c.requires.within in
    let here = rw c.self.view_is at (relative_command c.self.inside.ats c.self.inside.rts.all c.self.invariant.0 c.args.place c.args.k c.in-Some-get.rts.now (omega arith) (omega arith) c.in-Some-get.ensures within) in
    c.from.ensures ∙ (c.tag-in-Some-get.ensures ∙ sym (ap (λ (t : TimedCommand). t.tag) here))
