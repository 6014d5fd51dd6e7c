-- Lemmas on the lines that send packets.
use Rattle.std.proofs.Common.{◌≡◌, ℕ, ◌<◌, true, List, ◌∷◌, ◌++◌, Some, None, Ok, refl, ap, ◌∙◌, arith, append-nil}
use Rattle.std.specs.Prelude.{Result, codes}
use Rattle.std.specs.List.{AllByRecursion}
use Rattle.packet_forms.specs.Hex.{hex}
use Rattle.packet_forms.specs.Faults.{fault_of}
use Rattle.packet_forms.proofs.Forms.{packet_of_none}
use Rattle.row_forms.specs.Rows.{spaced}
use Rattle.telecommands.specs.declared.command.Command.{Command}
use Rattle.telecommands.specs.declared.fault.CommandFault.{CommandFault}
use Rattle.telecommands.specs.Commands.{are_good}
use Rattle.scenario.specs.declared.sentence.Place.{Place}
use Rattle.scenario.specs.declared.sentence.Sentence.TheVariants as says
use Rattle.scenario.specs.Sentences.{is_in_frames, line_says, said, verb_at, verb_of, sentence_of, packet_of, packet_said, send_line}
use Rattle.scenario.specs.DrillWordLaws.{two_words, hex_is_plain, hex_length, hex_is_bytes}
use Rattle.plan_text.specs.Lines.{line_bytes, sent_line}
use Rattle.plan_text.specs.Plans.{packet_sent}
use Rattle.plan_text.proofs.MadeLemmas.{IsFaultless, sent_is_packet}
use Rattle.plan_text.proofs.ByteLemmas.{SaysBytes, sent_is_bytes}

packet_good : (p : List ℕ) → fault_of p ≡ None → packet_said p ≡ Ok (says.Send p)
packet_good p good = rw (good, packet_said, packet_of) refl

sent_text : (p : List ℕ) → line_bytes (sent_line p) ≡ codes "send" ++ 32 ∷ hex p
unfolding spaced
sent_text p = ap (λ (t : List ℕ). codes "send" ++ 32 ∷ t) (append-nil (hex p))

plain_says : (place : Place) (p : List ℕ) → is_in_frames place ≡ true → fault_of p ≡ None → AllByRecursion (λ b. b < 256) p → line_says place (codes "send" ++ 32 ∷ hex p) ≡ Ok (Some (says.Send p))
unfolding line_says said verb_at verb_of sentence_of send_line
plain_says place p inside good bytes =
    let size = hex_length p in
    let long = (packet_of_none p good).long in
    let parts = two_words (codes "send") (hex p) (omega arith, (omega arith, (omega arith, (omega arith, tt)))) (hex_is_plain p) (omega arith) (omega (arith, size, long)) in
    rw (parts, inside, hex_is_bytes p bytes, packet_good p good) refl

-- a line that sends a packet is read as one
packet_says : (place : Place) (p : List ℕ) → is_in_frames place ≡ true → fault_of p ≡ None → AllByRecursion (λ b. b < 256) p → line_says place (line_bytes (sent_line p)) ≡ Ok (Some (says.Send p))
packet_says place p inside good bytes = ap (line_says place) (sent_text p) ∙ plain_says place p inside good bytes

when_said : (place : Place) (p : List ℕ) (said : Result (List ℕ) CommandFault) → is_in_frames place ≡ true → said ≡ Ok p → IsFaultless said → SaysBytes said → line_says place (line_bytes (sent_line p)) ≡ Ok (Some (says.Send p))
when_said place p said inside e good bytes = packet_says place p inside (rw e at good) (rw e at bytes)

-- a `send` of a plan is read as the packet that its words say
pub send_is_read : (cs : List Command) (epoch : ℕ) (ws : List (List ℕ)) (place : Place) (p : List ℕ) → are_good cs ≡ true → is_in_frames place ≡ true → packet_sent cs epoch ws ≡ Ok p → line_says place (line_bytes (sent_line p)) ≡ Ok (Some (says.Send p))
send_is_read cs epoch ws place p good inside e = when_said place p (packet_sent cs epoch ws) inside e (sent_is_packet cs epoch ws good) (sent_is_bytes cs epoch ws good)
