-- A good line that sends a packet.
use Rattle.std.proofs.Common.{◌≡◌, ℕ, ◌<◌, true, false, nat_lt, List, Option, Some, None, Result, Ok, Err, refl, sym, ap, ◌∙◌, arith}
use Rattle.std.proofs.lemmas.Bool.Decides.{nat_tests}
use Rattle.scenario.specs.declared.reason.Reason.{Reason}
use Rattle.scenario.specs.declared.sentence.Sentence.{Sentence}
use Rattle.scenario.specs.declared.sentence.Sentence.TheVariants as says
use Rattle.scenario.specs.declared.sentence.Verb.TheVariants as verbs
use Rattle.scenario.specs.declared.sentence.Place.{Place}
use Rattle.scenario.specs.declared.progress.Progress.{Progress}
use Rattle.scenario.specs.FrameLists.{items_in}
use Rattle.scenario.specs.Frames.{place_after, frame_of, room_for_item, refusal}
use Rattle.scenario.specs.Words.{words}
use Rattle.scenario.specs.Sentences.{Begins, stands_at, as_said, sentence_of, send_line, line_says}
use Rattle.scenario.specs.Texts.{Before, reads, then_unless}
use Rattle.scenario.specs.Following.{Follows, CanSend}
use Rattle.scenario.proofs.BeginLemmas.{begun_well}

says_packet : (place : Place) (line rest packet : List ℕ) → Begins line verbs.Send (words rest) → stands_at place verbs.Send ≡ true → as_said (send_line (words rest)) ≡ Ok (Some (says.Send packet))
    → line_says place line ≡ Ok (Some (says.Send packet))
unfolding sentence_of
says_packet place line rest packet b stands said = begun_well place line verbs.Send (words rest) b stands ∙ said

unrefused : (old : Before) (packet : List ℕ) → items_in (frame_of old.sentences) < 64 → then_unless old.sentences (Ok (Some (says.Send packet))) ≡ Ok (Some (says.Send packet))
unfolding refusal
unrefused old packet room =
    let few : nat_lt (items_in (frame_of old.sentences)) 64 ≡ true = grind (arith, nat_tests) in
    let none : refusal old.sentences (says.Send packet) ≡ None = rw (few, refusal, room_for_item) refl in
    ap (λ (r : Option Reason). (let x : Result (Option Sentence) Reason = elim r [ None ↦ Ok (Some (says.Send packet)) | Some reason ↦ Err reason ] in x)) none

-- what such a line is read as
pub reads_packet : (p : Progress) (line rest packet : List ℕ) (takes : ℕ) → p.shown ≡ false → CanSend p line takes → Begins line verbs.Send (words rest) → as_said (send_line (words rest)) ≡ Ok (Some (says.Send packet))
    → (old : Before) → Follows p old → Ok (Some (says.Send packet)) ≡ reads old (record { bytes = line; takes = takes })
unfolding reads
reads_packet p line rest packet takes hidden can b said old f =
    let frame : p.frame.value ≡ frame_of old.sentences = rw hidden at f.frame in
    let room : items_in (frame_of old.sentences) < 64 = rw (← frame) can.room in
    let says : line_says (place_after old.sentences) line ≡ Ok (Some (says.Send packet)) = says_packet (place_after old.sentences) line rest packet b (rw (← f.place) can.stands) said in
    sym (rw (can.short old f, says) (unrefused old packet room))
