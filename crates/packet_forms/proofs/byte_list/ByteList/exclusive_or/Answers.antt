use Rattle.std.proofs.Common.{◌∙◌, ◌-◌, ap, take}
use Rattle.packet_forms.specs.Packets.{checksum_of}
use Rattle.packet_forms.proofs.Forms.{checksum_padded}
use Rattle.packet_forms.proofs.byte_list.ByteList.exclusive_or.Goals as goal

pub returns : goal.returns
returns c d =
    d.exclusive_or.ensures ∙ ap checksum_of d.self.invariant.2
    ∙ checksum_padded (take d.self.inside.len d.self.inside.places) (c.row.N - d.self.inside.len)
    ∙ ap checksum_of d.self.view_is
