use Rattle.std.proofs.Common.{◌≡◌, true, false, arith, ap, ◌∙◌}
use Rattle.std.specs.Prelude.{◌==◌}
use Rattle.std.proofs.lemmas.Bool.Decides.{nat_tests}
use Rattle.row_forms.specs.Rows.{is_row}
use Rattle.table_texts.proofs.LayoutLemmas.{layout_is, area_of}
use Rattle.table_texts.proofs.PayloadLemmas.{command_is}
use Rattle.table_texts.proofs.ShownLemmas.{shows_row, shows_command}
use Rattle.table_texts.proofs.showing.show_values.Goals as goal

pub show_row-requires : goal.show_row-requires
show_row-requires c =
    let none : (c.args.form.now.layout.area == 0) ≡ true = grind (arith, nat_tests) in
    shows_row c.args.form.now.layout c.args.entry.now none c.requires.shows

pub overflow_sub-size : goal.overflow_sub-size
overflow_sub-size c =
    let some : (c.args.form.now.layout.area == 0) ≡ false = grind (arith, nat_tests) in
    (area_of c.args.form.now.layout (layout_is _ c.requires.layout) some).room

pub packet_at-requires : goal.packet_at-requires
packet_at-requires c = let is = layout_is _ c.requires.layout in omega (arith, is.small)

pub returns-in_default : goal.returns-in_default
returns-in_default c =
    let some : (c.args.form.now.layout.area == 0) ≡ false = grind (arith, nat_tests) in
    let shows = shows_command c.args.form.now.layout c.args.entry.now some c.requires.shows in
    let is = shows.command in
    let not = c.in_default.ensures.packet in
    absurd (cc)

pub show_row-requires-2 : goal.show_row-requires-2
show_row-requires-2 c =
    let some : (c.args.form.now.layout.area == 0) ≡ false = grind (arith, nat_tests) in
    let shows = shows_command c.args.form.now.layout c.args.entry.now some c.requires.shows in
    let is = command_is _ _ _ shows.command in
    ap (is_row c.args.form.now.layout.fields.now) c.front.ensures ∙ is.row
