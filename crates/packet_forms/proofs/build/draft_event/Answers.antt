use Rattle.std.proofs.Common.{◌≡◌, ◌∙◌, ◌++◌, [], length, refl, subst, sym, ap, arith}
use Rattle.std.proofs.lemmas.List.{take_all}
use Rattle.packet_forms.specs.Built.{event_of, event_payload, IsTelemetryOf}
use Rattle.packet_forms.proofs.Forms.{event_reads_back, event_is}
use Rattle.packet_forms.proofs.Copies.{piece_put}
use Rattle.packet_forms.proofs.build.draft_event.Goals as goal
use Rattle.packet_forms.proofs.build.draft_event.Goals.{After-put-4}

size : (c : After-put-4) → length c.args.name ≡ 20
size c = sym (ap length c.bytes.ensures.value) ∙ c.bytes.ensures.size

drafted : (c : After-put-4) → c.put-4.new.self ≡ event_of c.args.name c.args.id c.args.kind c.args.secs
drafted c =
    let header = c.primary_header.result in
    let seconds = c.secondary_header.result in
    let name = c.bytes.result.now in
    let end = c.event_end.result in
    let all : length c.put-4.new.self ≡ 44 = omega (arith, c.resize.ensures, c.put.ensures.size, c.put-2.ensures.size, c.put-3.ensures.size, c.put-4.ensures.size) in
    let first = piece_put c.resize.new.self c.put.new.self [] header 0 6 refl (omega (arith, c.primary_header.ensures.six)) c.put.ensures.front in
    let second = piece_put c.put.new.self c.put-2.new.self header seconds 6 12 first (omega (arith, c.secondary_header.ensures.six)) c.put-2.ensures.front in
    let third = piece_put c.put-2.new.self c.put-3.new.self (header ++ seconds) name 12 32 second (omega (arith, c.bytes.ensures.size)) c.put-3.ensures.front in
    let fourth = piece_put c.put-3.new.self c.put-4.new.self ((header ++ seconds) ++ name) end 32 44 third (omega (arith, c.event_end.ensures.twelve)) c.put-4.ensures.front in
    sym (take_all 44 c.put-4.new.self (omega (arith, all)))
    ∙ fourth
    ∙ rw (c.primary_header.ensures.header, c.secondary_header.ensures.value, c.event_end.ensures.value, c.bytes.ensures.value) (event_is c.args.name c.args.id c.args.kind c.args.secs (size c))

pub returns-clause-bytes : goal.returns-clause-bytes
returns-clause-bytes c = drafted c

pub returns-clause-reads_back : goal.returns-clause-reads_back
returns-clause-reads_back c =
    subst (IsTelemetryOf 0x0808 (event_payload c.args.name c.args.id c.args.kind)) (sym (drafted c)) (event_reads_back c.args.name c.args.id c.args.kind c.args.secs (size c))
