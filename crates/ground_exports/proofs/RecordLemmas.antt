-- Lemmas on captures of logs.
use Rattle.std.proofs.Common.{◌≡◌, ℕ, Bool, List, [], ◌∷◌, ◌++◌, Option, Some, Result, Ok, Err, refl, ap, ◌∙◌, subst}
use Rattle.std.specs.Prelude.{IfOk}
use Rattle.std.specs.List.{AllZip, concat, flat_map}
use Rattle.std.specs.Io.KnownBytes.{Appends}
use Rattle.std.proofs.KnownBytes.{Appends-trans}
use Rattle.log_lines.specs.declared.line.LogLine.{LogLine}
use Rattle.pcap_form.specs.Captures.{capture_header}
use Rattle.ground_logs.specs.Making.{lines_of, IsMadeOf}
use Rattle.ground_exports.specs.Records.{line_record, capture_of, IsCaptureOf}

-- parts of which each is what its line says are what all lines say
joined : (f : LogLine → List ℕ) (lines : List LogLine) (parts : List (List ℕ)) → AllZip (λ line part. part ≡ f line) lines parts
    → concat parts ≡ flat_map f lines
joined f [] [] h = refl
joined f [] (part ∷ parts) h = absurd h
joined f (line ∷ lines) [] h = absurd h
joined f (line ∷ lines) (part ∷ parts) h = rw h.0 (ap (λ xs. f line ++ xs) (joined f lines parts h.1))

-- the header and what was made of the lines are the capture
pub is_capture : (epoch : ℕ) (text : List ℕ) (said : Bool) (before headed after : Option (List ℕ)) → Appends before headed capture_header
    → IsMadeOf (λ line made. made ≡ line_record epoch line) text said headed after → IsCaptureOf epoch text said before after
unfolding capture_of
is_capture epoch text said before headed after header made = record {
  written = Appends-trans before headed after capture_header (flat_map (line_record epoch) (lines_of text)) header
      (subst (λ bytes. Appends headed after bytes) (made.made.whole ∙ joined (line_record epoch) (lines_of text) made.made.parts made.made.each) made.written);
  whole = made.whole;
}

-- where the header was written and then what was made of the lines, the capture was
pub capture_written : {E : Type 0} (result : Result Bool E) (epoch : ℕ) (remaining before headed after : Option (List ℕ)) (bytes : List ℕ)
    → bytes ≡ capture_header → Appends before headed bytes
    → IfOk result (λ whole. (text : List ℕ) → remaining ≡ Some text → IsMadeOf (λ line made. made ≡ line_record epoch line) text whole headed after)
    → IfOk result (λ whole. (text : List ℕ) → remaining ≡ Some text → IsCaptureOf epoch text whole before after)
capture_written (Ok whole) epoch remaining before headed after bytes is header made =
    λ text tells. is_capture epoch text whole before headed after (subst (λ xs. Appends before headed xs) is header) (made text tells)
capture_written (Err fault) epoch remaining before headed after bytes is header made = tt
