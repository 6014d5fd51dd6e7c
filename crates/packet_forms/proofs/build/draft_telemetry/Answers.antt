use Rattle.std.proofs.Common.{◌≡◌, ◌+◌, ◌∙◌, ◌++◌, List, ℕ, [], length, refl, subst, sym, ap, ap₂, arith}
use Rattle.std.proofs.lemmas.List.{take_all}
use Rattle.packet_forms.specs.Built.{telemetry_of, IsTelemetryOf}
use Rattle.packet_forms.proofs.Forms.{telemetry_is, telemetry_reads_back}
use Rattle.packet_forms.proofs.Copies.{piece_put}
use Rattle.packet_forms.proofs.build.draft_telemetry.Goals as goal
use Rattle.packet_forms.proofs.build.draft_telemetry.Goals.{After-put-3}

drafted : (c : After-put-3) → c.put-3.new.self ≡ telemetry_of c.args.mid c.args.secs c.args.payload.now
drafted c =
    let header = c.primary_header.result in
    let seconds = c.secondary_header.result in
    let payload = c.args.payload.now in
    let size : length c.put-3.new.self ≡ 12 + length payload = omega (arith, c.resize.ensures, c.put.ensures.size, c.put-2.ensures.size, c.put-3.ensures.size) in
    let first = piece_put c.resize.new.self c.put.new.self [] header 0 6 refl (omega (arith, c.primary_header.ensures.six)) c.put.ensures.front in
    let second = piece_put c.put.new.self c.put-2.new.self header seconds 6 12 first (omega (arith, c.secondary_header.ensures.six)) c.put-2.ensures.front in
    let third = piece_put c.put-2.new.self c.put-3.new.self (header ++ seconds) payload 12 (12 + length payload) second refl c.put-3.ensures.front in
    sym (take_all (12 + length payload) c.put-3.new.self (omega (arith, size)))
    ∙ third
    ∙ ap (λ (xs : List ℕ). xs ++ payload) (ap₂ (λ (xs ys : List ℕ). xs ++ ys) c.primary_header.ensures.header c.secondary_header.ensures.value)
    ∙ telemetry_is c.args.mid c.args.secs payload

pub returns-clause-bytes : goal.returns-clause-bytes
returns-clause-bytes c = drafted c

pub returns-clause-reads_back : goal.returns-clause-reads_back
returns-clause-reads_back c = subst (IsTelemetryOf c.args.mid c.args.payload.now) (sym (drafted c)) (telemetry_reads_back c.args.mid c.args.secs c.args.payload.now c.requires.version c.requires.size)
