use Rattle.std.proofs.Common.{◌*◌, ◌∙◌, refl, w8}
use Rattle.std.specs.Simd.Lanes.{chunk}
use Rattle.std.proofs.lemmas.Simd.{get_or_wider, chunk-fits, below_from_Fits}
use Rattle.packet_forms.proofs.Folding.{lane_is}
use Rattle.packet_forms.proofs.fold.words_at.Goals as goal

pub returns-clause-each : goal.returns-clause-each
returns-clause-each c k low =
    let lanes = chunk (2 * c.args.from) 16 c.args.bytes.now in
    get_or_wider 256 2 65536 8 lanes k refl (below_from_Fits w8 lanes (chunk-fits w8 (2 * c.args.from) 16 c.args.bytes.now c.type_inv.bytes)) low
    ∙ lane_is c.args.bytes.now c.args.from k c.requires low

pub returns-clause-lanes : goal.returns-clause-lanes
returns-clause-lanes c = refl
