use Rattle.std.proofs.Common.{◌≡◌, ◌+◌, subst, sym, append_assoc, take, drop}
use Rattle.packet_forms.specs.Built.{with_sequence}
use Rattle.packet_forms.specs.Numbers.{be16_bytes}
use Rattle.packet_forms.specs.Packets.{IsPacket}
use Rattle.packet_forms.proofs.Forms.{recounted}
use Rattle.packet_forms.proofs.packet.Packet.set_sequence.Goals as goal

pub invariant_of-self : goal.invariant_of-self
unfolding with_sequence be16_bytes
invariant_of-self c =
    let e : c.overwrite.new.self ≡ with_sequence c.args.n c.self.inside.list =
    rw (c.overwrite.ensures, c.to_be_bytes.ensures) (sym (append_assoc (take 2 c.self.inside.list) (be16_bytes (49152 + c.args.n)) (drop 4 c.self.inside.list))) in
    subst IsPacket (sym e) (recounted c.args.n c.self.inside.list c.requires c.self.invariant).form

pub returns-clause-bytes : goal.returns-clause-bytes
unfolding with_sequence be16_bytes
returns-clause-bytes c =
    rw (c.overwrite.ensures, c.to_be_bytes.ensures, ← c.self.view_is) (sym (append_assoc (take 2 c.self.inside.list) (be16_bytes (49152 + c.args.n)) (drop 4 c.self.inside.list)))

pub returns-clause-recounted : goal.returns-clause-recounted
unfolding with_sequence be16_bytes
returns-clause-recounted c =
    let e : c.overwrite.new.self ≡ with_sequence c.args.n c.self.inside.list =
    rw (c.overwrite.ensures, c.to_be_bytes.ensures) (sym (append_assoc (take 2 c.self.inside.list) (be16_bytes (49152 + c.args.n)) (drop 4 c.self.inside.list))) in
    rw (e, ← c.self.view_is) (recounted c.args.n c.self.inside.list c.requires c.self.invariant)
