use Rattle.std.proofs.Common.{◌∙◌, sym}
use Rattle.cs_slices.proofs.Switching.{part_of_on, no_part_cs, no_part_table}
use Rattle.cs_slices.proofs.switches.Switches.takes_part.Goals as goal

pub returns : goal.returns
returns c = λ tables happened stood.
    part_of_on tables happened c.args.place c.args.self.now stood c.requires c.if-not-self.false (sym (c.is_table_on.ensures tables happened stood) ∙ c.if-not-is_table_on.false)

pub returns-then-not-self : goal.returns-then-not-self
returns-then-not-self c = λ tables happened stood. no_part_cs tables happened c.args.place c.args.self.now stood c.if-not-self.true

pub returns-then-not-is_table_on : goal.returns-then-not-is_table_on
returns-then-not-is_table_on c = λ tables happened stood. no_part_table tables happened c.args.place (sym (c.is_table_on.ensures tables happened stood) ∙ c.if-not-is_table_on.true)
