use Rattle.std.proofs.Common.{◌≤◌, ◌∙◌, refl, arith}
use Rattle.packet_forms.proofs.Copies.{short_copied}
use Rattle.packet_forms.proofs.byte_list.ByteList.copy_from.Goals as goal

pub invariant_of-self-2 : goal.invariant_of-self-2
invariant_of-self-2 g c =
    let fits : 64 ≤ g.row.N = omega (arith, c.if-this-lt-FEW.false) in
    let same = c.place_few.ensures ∙ short_copied g.row.N 64 c.self.inside.places c.other.inside.places _ c.self.inside.len c.other.inside.len fits c.if-self-gt-FEW.false c.self.invariant.1 c.self.invariant.2 c.if-other-gt-FEW.false c.other.invariant.1 c.other.invariant.2 refl in
    rw same c.other.invariant

pub returns : goal.returns
returns g c =
    let fits : 64 ≤ g.row.N = omega (arith, c.if-this-lt-FEW.false) in
    let same = c.place_few.ensures ∙ short_copied g.row.N 64 c.self.inside.places c.other.inside.places _ c.self.inside.len c.other.inside.len fits c.if-self-gt-FEW.false c.self.invariant.1 c.self.invariant.2 c.if-other-gt-FEW.false c.other.invariant.1 c.other.invariant.2 refl in
    rw same c.other.view_is
