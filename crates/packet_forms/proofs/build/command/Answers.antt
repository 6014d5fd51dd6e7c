use Rattle.std.proofs.Common.{◌≡◌, ◌∙◌, ap, subst, sym, refl}
use Rattle.packet_forms.specs.Built.{command_of, IsCommandOf}
use Rattle.packet_forms.specs.Packets.{IsPacket, checksum_of}
use Rattle.packet_forms.proofs.Forms.{command_reads_back, command_is}
use Rattle.packet_forms.proofs.build.command.Goals as goal

pub of_list-requires : goal.of_list-requires
of_list-requires c =
    let e : c.append-3.new.self ≡ command_of c.args.mid c.args.code c.args.payload.now =
    rw (c.append-3.ensures, c.append-2.ensures)
    (command_is c.args.mid c.args.code c.args.payload.now c.append.new.self c.exclusive_or-sum.result c.exclusive_or.result
    (rw (c.append.ensures, c.begin.ensures.header) refl) (c.exclusive_or-sum.ensures ∙ ap checksum_of c.bytes.ensures.value) c.exclusive_or.ensures) in
    subst IsPacket (sym e) (command_reads_back c.args.mid c.args.code c.args.payload.now c.requires.version c.requires.kind c.requires.code c.requires.size).form

pub returns-clause-bytes : goal.returns-clause-bytes
returns-clause-bytes c =
    rw (c.of_list.ensures, c.append-3.ensures, c.append-2.ensures)
    (command_is c.args.mid c.args.code c.args.payload.now c.append.new.self c.exclusive_or-sum.result c.exclusive_or.result
    (rw (c.append.ensures, c.begin.ensures.header) refl) (c.exclusive_or-sum.ensures ∙ ap checksum_of c.bytes.ensures.value) c.exclusive_or.ensures)

pub returns-clause-reads_back : goal.returns-clause-reads_back
returns-clause-reads_back c =
    let e : c.of_list.result ≡ command_of c.args.mid c.args.code c.args.payload.now =
    rw (c.of_list.ensures, c.append-3.ensures, c.append-2.ensures)
    (command_is c.args.mid c.args.code c.args.payload.now c.append.new.self c.exclusive_or-sum.result c.exclusive_or.result
    (rw (c.append.ensures, c.begin.ensures.header) refl) (c.exclusive_or-sum.ensures ∙ ap checksum_of c.bytes.ensures.value) c.exclusive_or.ensures) in
    subst (IsCommandOf c.args.mid c.args.code c.args.payload.now) (sym e) (command_reads_back c.args.mid c.args.code c.args.payload.now c.requires.version c.requires.kind c.requires.code c.requires.size)
