-- Lemmas on what the lines of items say.
use Rattle.std.proofs.Common.{◌≡◌, ℕ, ◌<◌, true, List, None, Ok, refl, arith}
use Rattle.std.specs.Prelude.{Result}
use Rattle.std.specs.List.{AllByRecursion}
use Rattle.packet_forms.specs.Faults.{fault_of}
use Rattle.packet_forms.specs.Names.{is_name_text, name_of}
use Rattle.telecommands.specs.declared.command.Command.{Command}
use Rattle.telecommands.specs.declared.fault.CommandFault.{CommandFault}
use Rattle.telecommands.specs.Commands.{are_good}
use Rattle.scenario.specs.declared.sentence.Sentence.TheVariants as says
use Rattle.scenario.specs.Words.{name_said}
use Rattle.scenario.specs.Sentences.{verb_of, sentence_of, packet_of, packet_said, send_line, app_line as count_line, number_or_bad}
use Rattle.scenario.specs.DrillWordLaws.{hex_is_bytes, decimal_is_number}
use Rattle.plan_text.specs.Lines.{sent_line}
use Rattle.plan_text.specs.Plans.{packet_sent}
use Rattle.plan_text.specs.Frames.{sentence_said}
use Rattle.plan_text.proofs.MadeLemmas.{IsFaultless, sent_is_packet}
use Rattle.plan_text.proofs.ByteLemmas.{SaysBytes, sent_is_bytes}
use Rattle.timed_plans.specs.Schedules.{app_line}

packet_good : (p : List ℕ) → fault_of p ≡ None → packet_said p ≡ Ok (says.Send p)
packet_good p good = rw (good, packet_said, packet_of) refl

packet_says : (p : List ℕ) → fault_of p ≡ None → AllByRecursion (λ b. b < 256) p → sentence_said (sent_line p) ≡ Ok (says.Send p)
unfolding verb_of sentence_of send_line
packet_says p good bytes = rw (hex_is_bytes p bytes, packet_good p good) refl

when_sent : (p : List ℕ) (said : Result (List ℕ) CommandFault) → said ≡ Ok p → IsFaultless said → SaysBytes said → sentence_said (sent_line p) ≡ Ok (says.Send p)
when_sent p said e good bytes = packet_says p (rw e at good) (rw e at bytes)

-- the line of a `send` says the packet that its words say
pub send_says : (cs : List Command) (epoch : ℕ) (ws : List (List ℕ)) (p : List ℕ) → are_good cs ≡ true → packet_sent cs epoch ws ≡ Ok p → sentence_said (sent_line p) ≡ Ok (says.Send p)
send_says cs epoch ws p good e = when_sent p (packet_sent cs epoch ws) e (sent_is_packet cs epoch ws good) (sent_is_bytes cs epoch ws good)

-- the line of a counter says its name and its value
pub counter_says : (name : List ℕ) (value : ℕ) → is_name_text name ≡ true → value < 4294967296 → sentence_said (app_line name value) ≡ Ok (says.Count (record { name = name_of name; value = value }))
unfolding verb_of sentence_of count_line number_or_bad name_said
counter_says name value named small = rw (named, decimal_is_number 4294967295 value (omega (arith, small)) small) refl
