-- Lemmas on sequences that are shown and read back.
use Rattle.std.proofs.Common.{◌≡◌, ℕ, zero, suc, ◌+◌, ◌<◌, ◌≤◌, Bool, true, false, List, [], ◌∷◌, ◌++◌, length, take, drop, get_or, Option, refl, ap, sym, ◌∙◌, arith, append_assoc, append-nil, ◌-◌, length-drop}
use Rattle.std.specs.Prelude.{codes, Result, Ok, ◌==◌}
use Rattle.std.specs.List.{AllByRecursion}
use Rattle.std.proofs.lemmas.List.{drop_all}
use Rattle.packet_forms.specs.Hex.{hex}
use Rattle.row_forms.specs.declared.field.Field.{Field}
use Rattle.row_forms.specs.Rows.{with_front, row_shown, spaced}
use Rattle.row_forms.proofs.TextLemmas.{IsWord, spaced_nil, spaced_cons}
use Rattle.row_forms.proofs.HexLemmas.{hex_is_bytes}
use Rattle.row_forms.proofs.BackLemmas.{all_drop}
use Rattle.telecommands.specs.declared.command.Command.{Command}
use Rattle.telecommands.specs.Commands.{are_good, are_distinct, command_shown}
use Rattle.table_texts.specs.declared.fault.LineFault.{LineFault}
use Rattle.table_texts.specs.declared.fault.TextFault.{TextFault}
use Rattle.table_texts.specs.Lines.{Numbered, kept_of}
use Rattle.table_texts.specs.Endings.{is_end}
use Rattle.table_texts.specs.Fronts.{is_front, packet_behind, is_command_at}
use Rattle.table_texts.specs.Sequences.{some_bytes, item_said, then_item, sequence_said, command_line, item_size, item_shown, payload_shown, sequence_shown}
use Rattle.table_texts.proofs.FrontBackLemmas.{stored_says, command_bytes}
use Rattle.table_texts.proofs.LineLemmas.{nothing_kept}
use Rattle.table_texts.proofs.BackLemmas.{kept_line, hex_is_word, raw_is_word, end_is_word, end_text}
use Rattle.table_texts.proofs.SequenceLemmas.{IsFront, front_is, item_command, item_raw, sequence_end, sequence_line}
use Rattle.table_texts.proofs.PayloadLemmas.{IsCommandAt, command_is, item_of_command, item_of_rest, bounds, shown_step, shown_none}

abbrev AreBytes : List ℕ → Type 0
AreBytes bytes = AllByRecursion (λ b. b < 256) bytes

-- ---- a line

command_is_word : IsWord (codes "command")
command_is_word = (omega arith, (omega arith, (omega arith, (omega arith, (omega arith, (omega arith, (omega arith, (omega arith, tt))))))))

-- a line of words that says these bytes
record SaysItem (epoch : Option ℕ) (cs : List Command) (fs : List Field) (bytes line : List ℕ) : Type 0 where
  word : List ℕ
  more : List (List ℕ)
  text : line ≡ (word ++ spaced more) ++ 10 ∷ []
  first : IsWord word
  all : AllByRecursion IsWord more
  said : (get_or word 0 0 == 35) ≡ false
  goes_on : is_end (word ∷ more) ≡ false
  item : item_said epoch cs fs (word ∷ more) ≡ Ok bytes

command_says : (epoch : Option ℕ) (cs : List Command) (fs : List Field) (size : ℕ) (bytes : List ℕ) → are_good cs ≡ true → are_distinct cs ≡ true → IsFront fs size → AllByRecursion (λ b. b < 256) bytes → IsCommandAt fs size bytes → SaysItem epoch cs fs (take size bytes ++ packet_behind size bytes) (command_line cs fs size bytes)
command_says epoch cs fs size bytes good distinct is all at =
    let says = stored_says epoch cs fs size bytes good distinct is all at in
    record {
      word = codes "command";
      more = says.more;
      text = ap (λ (xs : List ℕ). xs ++ 10 ∷ []) (append_assoc (codes "command") (row_shown fs (take size bytes)) (32 ∷ command_shown cs (packet_behind size bytes)) ∙ ap (λ (xs : List ℕ). codes "command" ++ xs) says.text);
      first = command_is_word;
      all = says.all;
      said = refl;
      goes_on = refl;
      item = item_command epoch cs fs (codes "command" ∷ says.more) (codes "command") says.more refl refl ∙ says.stored;
    }

raw_says : (epoch : Option ℕ) (cs : List Command) (fs : List Field) (bytes : List ℕ) → 0 < length bytes → AllByRecursion (λ b. b < 256) bytes → SaysItem epoch cs fs bytes ((codes "raw " ++ hex bytes) ++ 10 ∷ [])
raw_says epoch cs fs bytes some all =
    let last : spaced (hex bytes ∷ []) ≡ 32 ∷ hex bytes = spaced_cons (hex bytes) [] ∙ ap (λ (xs : List ℕ). 32 ∷ (hex bytes ++ xs)) spaced_nil ∙ ap (λ (xs : List ℕ). 32 ∷ xs) (append-nil (hex bytes)) in
    record {
      word = codes "raw";
      more = hex bytes ∷ [];
      text = ap (λ (xs : List ℕ). (codes "raw" ++ xs) ++ 10 ∷ []) (sym last);
      first = raw_is_word;
      all = (hex_is_word bytes some, tt);
      said = refl;
      goes_on = refl;
      item = item_raw epoch cs fs (codes "raw" ∷ hex bytes ∷ []) (codes "raw") (hex bytes ∷ []) refl refl refl ∙ ap some_bytes (hex_is_bytes bytes all);
    }

-- ---- all lines

front_bytes_ok : (front bytes : List ℕ) (r : Result (List ℕ) TextFault) → r ≡ Ok bytes → with_front front r ≡ Ok (front ++ bytes)
front_bytes_ok front bytes r e = rw e refl

line_then : (epoch : Option ℕ) (cs : List Command) (fs : List Field) (n : ℕ) (bytes line rest more : List ℕ) → SaysItem epoch cs fs bytes line → sequence_said epoch cs fs (n + 1) (kept_of (n + 1) rest) ≡ Ok more → sequence_said epoch cs fs n (kept_of n (line ++ rest)) ≡ Ok (bytes ++ more)
line_then epoch cs fs n bytes line rest more is behind =
    let text : line ++ rest ≡ (is.word ++ spaced is.more) ++ 10 ∷ rest = ap (λ (xs : List ℕ). xs ++ rest) is.text ∙ append_assoc (is.word ++ spaced is.more) (10 ∷ []) rest in
    ap (λ (xs : List ℕ). sequence_said epoch cs fs n (kept_of n xs)) text
    ∙ sequence_line epoch cs fs n n (is.word ∷ is.more) (kept_of n ((is.word ++ spaced is.more) ++ 10 ∷ rest)) (kept_of (n + 1) rest) (kept_line n is.word is.more rest is.first is.all is.said) is.goes_on
    ∙ ap (λ (r : Result (List ℕ) LineFault). then_item n r (sequence_said epoch cs fs (n + 1) (kept_of (n + 1) rest))) is.item
    ∙ front_bytes_ok bytes more (sequence_said epoch cs fs (n + 1) (kept_of (n + 1) rest)) behind

end_back : (epoch : Option ℕ) (cs : List Command) (fs : List Field) (n : ℕ) → sequence_said epoch cs fs n (kept_of n (codes "end" ++ 10 ∷ [])) ≡ Ok []
end_back epoch cs fs n =
    let lines = ap (kept_of n) end_text ∙ kept_line n (codes "end") [] [] end_is_word tt refl ∙ ap (λ (more : List Numbered). record { number = n; words = codes "end" ∷ [] } ∷ more) (nothing_kept (n + 1)) in
    sequence_end epoch cs fs n n (codes "end" ∷ []) (kept_of n (codes "end" ++ 10 ∷ [])) [] lines refl

none_back : (epoch : Option ℕ) (cs : List Command) (fs : List Field) (size fuel n : ℕ) → sequence_said epoch cs fs n (kept_of n (sequence_shown cs fs size fuel [])) ≡ Ok []
none_back epoch cs fs size fuel n = ap (λ (xs : List ℕ). sequence_said epoch cs fs n (kept_of n xs)) (shown_none cs fs size fuel) ∙ end_back epoch cs fs n

-- what the lines behind the first say
abbrev Behind : Option ℕ → List Command → List Field → ℕ → ℕ → List ℕ → Type 0
Behind epoch cs fs size fuel rest = (n : ℕ) → sequence_said epoch cs fs n (kept_of n (sequence_shown cs fs size fuel rest)) ≡ Ok rest

shown_item : (cs : List Command) (fs : List Field) (size : ℕ) (bytes : List ℕ) → is_command_at fs size bytes ≡ true → item_shown cs fs size bytes ≡ command_line cs fs size bytes
shown_item cs fs size bytes e = rw e refl

shown_rest : (cs : List Command) (fs : List Field) (size : ℕ) (bytes : List ℕ) → is_command_at fs size bytes ≡ false → item_shown cs fs size bytes ≡ (codes "raw " ++ hex bytes) ++ 10 ∷ []
shown_rest cs fs size bytes e = rw e refl

step_back : (epoch : Option ℕ) (cs : List Command) (fs : List Field) (size fuel n : ℕ) (bytes : List ℕ) → are_good cs ≡ true → are_distinct cs ≡ true → IsFront fs size → AllByRecursion (λ b. b < 256) bytes → 0 < length bytes → Behind epoch cs fs size fuel (drop (item_size fs size bytes) bytes) → (b : Bool) → is_command_at fs size bytes ≡ b → sequence_said epoch cs fs n (kept_of n (item_shown cs fs size bytes ++ sequence_shown cs fs size fuel (drop (item_size fs size bytes) bytes))) ≡ Ok bytes
step_back epoch cs fs size fuel n bytes good distinct is all some behind true e =
    let says = command_says epoch cs fs size bytes good distinct is all (command_is fs size bytes e) in
    let size_is = item_of_command fs size bytes e in
    ap (λ (xs : List ℕ). sequence_said epoch cs fs n (kept_of n (xs ++ sequence_shown cs fs size fuel (drop (item_size fs size bytes) bytes)))) (shown_item cs fs size bytes e)
    ∙ line_then epoch cs fs n (take size bytes ++ packet_behind size bytes) (command_line cs fs size bytes) (sequence_shown cs fs size fuel (drop (item_size fs size bytes) bytes)) (drop (item_size fs size bytes) bytes) says (behind (n + 1))
    ∙ ap (λ (k : ℕ). Ok ((take size bytes ++ packet_behind size bytes) ++ drop k bytes)) size_is
    ∙ ap Ok (command_bytes size bytes)
step_back epoch cs fs size fuel n bytes good distinct is all some behind false e =
    let says = raw_says epoch cs fs bytes some all in
    let none : drop (item_size fs size bytes) bytes ≡ [] = ap (λ (k : ℕ). drop k bytes) (item_of_rest fs size bytes e) ∙ drop_all (length bytes) bytes (omega arith) in
    ap (λ (xs : List ℕ). sequence_said epoch cs fs n (kept_of n (xs ++ sequence_shown cs fs size fuel (drop (item_size fs size bytes) bytes)))) (shown_rest cs fs size bytes e)
    ∙ line_then epoch cs fs n bytes ((codes "raw " ++ hex bytes) ++ 10 ∷ []) (sequence_shown cs fs size fuel (drop (item_size fs size bytes) bytes)) (drop (item_size fs size bytes) bytes) says (behind (n + 1))
    ∙ ap (λ (xs : List ℕ). Ok (bytes ++ xs)) none ∙ ap Ok (append-nil bytes)

back : (epoch : Option ℕ) (cs : List Command) (fs : List Field) (size : ℕ) → are_good cs ≡ true → are_distinct cs ≡ true → IsFront fs size → (fuel : ℕ) (bytes : List ℕ) → length bytes ≤ fuel → AllByRecursion (λ b. b < 256) bytes → Behind epoch cs fs size fuel bytes
back epoch cs fs size good distinct is fuel [] few all = λ n. none_back epoch cs fs size fuel n
back epoch cs fs size good distinct is zero (b ∷ bytes) few all = absurd (omega (arith, few))
back epoch cs fs size good distinct is (suc fuel) (b ∷ bytes) few all =
    let some : 0 < length (b ∷ bytes) = omega arith in
    let k = item_size fs size (b ∷ bytes) in
    let step = bounds fs size (b ∷ bytes) some in
    let less : length (drop k (b ∷ bytes)) ≡ length (b ∷ bytes) - k = length-drop k (b ∷ bytes) in
    let behind = back epoch cs fs size good distinct is fuel (drop k (b ∷ bytes)) (omega (arith, less, step, few)) (all_drop (λ x. x < 256) k (b ∷ bytes) all) in
    λ n. ap (λ (xs : List ℕ). sequence_said epoch cs fs n (kept_of n xs)) (shown_step cs fs size fuel b bytes)
    ∙ step_back epoch cs fs size fuel n (b ∷ bytes) good distinct is all some behind (is_command_at fs size (b ∷ bytes)) refl

-- the text of a payload says it, whatever its bytes are
pub payload_back : (epoch : Option ℕ) (cs : List Command) (fs : List Field) (size n : ℕ) (bytes : List ℕ) → are_good cs ≡ true → are_distinct cs ≡ true → is_front fs size ≡ true → AllByRecursion (λ b. b < 256) bytes → sequence_said epoch cs fs n (kept_of n (payload_shown cs fs size bytes)) ≡ Ok bytes
payload_back epoch cs fs size n bytes good distinct front all = back epoch cs fs size good distinct (front_is fs size front) (length bytes) bytes (omega arith) all n
