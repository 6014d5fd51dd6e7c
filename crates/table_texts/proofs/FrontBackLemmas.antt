-- Lemmas on fields and telecommands that are shown and read back.
use Rattle.std.proofs.Common.{◌≡◌, ℕ, ◌+◌, ◌<◌, true, ◌&&◌, List, [], ◌∷◌, ◌++◌, length, take, drop, Option, refl, ap, sym, ◌∙◌, append_assoc, append-nil, drop-drop}
use Rattle.std.specs.Prelude.{Result, Ok, nat_lt}
use Rattle.std.specs.List.{AllByRecursion, list_all}
use Rattle.std.proofs.lemmas.List.{take-append-drop}
use Rattle.row_forms.specs.declared.field.Field.{Field}
use Rattle.row_forms.specs.declared.field.Field.TheVariants.{Value, Zeros, Check}
use Rattle.row_forms.specs.declared.fault.RowFault.{RowFault}
use Rattle.row_forms.specs.Values.{width, value_shown, is_kind}
use Rattle.row_forms.specs.Words.{words}
use Rattle.row_forms.specs.Rows.{row_said, row_words, row_shown, word_shown, spaced, is_row, are_fields}
use Rattle.row_forms.proofs.TextLemmas.{IsWord, and_both, spaced_nil, spaced_cons, words_led}
use Rattle.row_forms.proofs.RowLemmas.{row_shows}
use Rattle.row_forms.proofs.BackLemmas.{all_take, all_drop, field_back, row_value, row_nil, words_value, words_nil, empty_row, row_words_are}
use Rattle.telecommands.specs.declared.command.Command.{Command}
use Rattle.telecommands.specs.declared.fault.CommandFault.{CommandFault}
use Rattle.telecommands.specs.Commands.{are_good, are_distinct, command_said, command_shown}
use Rattle.telecommands.proofs.ReadBackLemmas.{command_spaced, command_back}
use Rattle.table_texts.specs.Fronts.{is_value, Front, then_front, front_said, stored, behind_front, packet_behind, packet_size}
use Rattle.table_texts.proofs.SequenceLemmas.{IsFront, said_nil, said_cons}
use Rattle.table_texts.proofs.PayloadLemmas.{IsCommandAt}

abbrev AreBytes : List ℕ → Type 0
AreBytes bytes = AllByRecursion (λ b. b < 256) bytes

-- ---- the fields in front

front_ok : (a b : List ℕ) (ws : List (List ℕ)) (r : Result (List ℕ) RowFault) (more : Result Front RowFault) → r ≡ Ok a → more ≡ Ok (record { bytes = b; rest = ws }) → then_front r more ≡ Ok (record { bytes = a ++ b; rest = ws })
front_ok a b ws r more e f = rw (e, f) refl

-- the words of fields say them, and the words behind them are left
pub front_back : (epoch : Option ℕ) (n : ℕ) (fs : List Field) (bytes : List ℕ) (ws : List (List ℕ)) → are_fields fs ≡ true → list_all is_value fs ≡ true → AllByRecursion (λ b. b < 256) bytes → is_row fs bytes ≡ true → front_said epoch n fs (row_words fs bytes ++ ws) ≡ Ok (record { bytes = bytes; rest = ws })
front_back epoch n [] bytes ws good values all e =
    ap (λ (xs : List (List ℕ)). front_said epoch n [] (xs ++ ws)) (words_nil bytes) ∙ said_nil epoch n ws ∙ ap (as_front ws) (empty_row bytes e) where
      as_front : List (List ℕ) → List ℕ → Result Front RowFault
      as_front ws xs = Ok (record { bytes = xs; rest = ws })
front_back epoch n (Value key kind ∷ fs) bytes ws good values all e =
    let both = and_both (list_all (nat_lt 32) key.now && is_kind kind) (are_fields fs) good in
    let kind_good = (and_both (list_all (nat_lt 32) key.now) (is_kind kind) both.0).1 in
    let is = row_shows key kind fs bytes e in
    let w = width kind bytes in
    let word = word_shown key.now (value_shown kind (take w bytes)) in
    let value = field_back epoch key.now kind (take w bytes) kind_good (all_take (λ b. b < 256) w bytes all) is.shows in
    let first = row_value epoch n key kind [] word [] (take w bytes) [] value (row_nil epoch (n + 1)) ∙ ap Ok (append-nil (take w bytes)) in
    let rest = front_back epoch (n + 1) fs (drop w bytes) ws both.1 values (all_drop (λ b. b < 256) w bytes all) is.behind in
    ap (λ (xs : List (List ℕ)). front_said epoch n (Value key kind ∷ fs) (xs ++ ws)) (words_value key kind fs bytes)
    ∙ said_cons epoch n (Value key kind) fs word (row_words fs (drop w bytes) ++ ws)
    ∙ front_ok (take w bytes) (drop w bytes) ws (row_said epoch n (Value key kind ∷ []) (word ∷ [])) (front_said epoch (n + 1) fs (row_words fs (drop w bytes) ++ ws)) first rest
    ∙ ap (as_front ws) (take-append-drop w bytes) where
      as_front : List (List ℕ) → List ℕ → Result Front RowFault
      as_front ws xs = Ok (record { bytes = xs; rest = ws })
front_back epoch n (Zeros count ∷ fs) bytes ws good values all e = absurd (cc)
front_back epoch n (Check ∷ fs) bytes ws good values all e = absurd (cc)

-- ---- a telecommand behind them

all_append : (xs ys : List (List ℕ)) → AllByRecursion IsWord xs → AllByRecursion IsWord ys → AllByRecursion IsWord (xs ++ ys)
all_append [] ys first second = second
all_append (x ∷ xs) ys first second = (first.0, all_append xs ys first.1 second)

spaced_append : (xs : List (List ℕ)) (w : List ℕ) (more : List (List ℕ)) → spaced (xs ++ w ∷ more) ≡ spaced xs ++ 32 ∷ (w ++ spaced more)
spaced_append [] w more = spaced_cons w more ∙ ap (λ (ys : List ℕ). ys ++ 32 ∷ (w ++ spaced more)) (sym spaced_nil)
spaced_append (x ∷ xs) w more =
    spaced_cons x (xs ++ w ∷ more)
    ∙ ap (λ (ys : List ℕ). 32 ∷ (x ++ ys)) (spaced_append xs w more)
    ∙ ap (λ (ys : List ℕ). 32 ∷ ys) (sym (append_assoc x (spaced xs) (32 ∷ (w ++ spaced more))))
    ∙ ap (λ (ys : List ℕ). ys ++ 32 ∷ (w ++ spaced more)) (sym (spaced_cons x xs))

stored_ok : (front packet : List ℕ) (r : Result (List ℕ) CommandFault) → r ≡ Ok packet → stored front r ≡ Ok (front ++ packet)
stored_ok front packet r e = rw e refl

-- the words of fields and of a telecommand behind them
pub record StoredSays (epoch : Option ℕ) (cs : List Command) (fs : List Field) (size : ℕ) (bytes : List ℕ) : Type 0 where
  pub more : List (List ℕ)
  pub text : row_shown fs (take size bytes) ++ 32 ∷ command_shown cs (packet_behind size bytes) ≡ spaced more
  pub all : AllByRecursion IsWord more
  pub stored : behind_front epoch cs (length fs + 2) (front_said epoch 2 fs more) ≡ Ok (take size bytes ++ packet_behind size bytes)

pub stored_says : (epoch : Option ℕ) (cs : List Command) (fs : List Field) (size : ℕ) (bytes : List ℕ) → are_good cs ≡ true → are_distinct cs ≡ true → IsFront fs size → AllByRecursion (λ b. b < 256) bytes → IsCommandAt fs size bytes → StoredSays epoch cs fs size bytes
stored_says epoch cs fs size bytes good distinct is all at =
    let front = take size bytes in
    let packet = packet_behind size bytes in
    let front_bytes = all_take (λ b. b < 256) size bytes all in
    let packet_bytes = all_take (λ b. b < 256) (packet_size (drop size bytes)) (drop size bytes) (all_drop (λ b. b < 256) size bytes all) in
    let shown = command_spaced cs packet good distinct packet_bytes in
    let rest = shown.word ∷ shown.more in
    let said = ap (command_said epoch (length fs + 2) cs) (sym (ap words shown.text ∙ words_led shown.word shown.more shown.first shown.all)) ∙ command_back epoch (length fs + 2) cs packet good distinct packet_bytes at.packet in
    record {
      more = row_words fs front ++ rest;
      text = ap (λ (xs : List ℕ). row_shown fs front ++ 32 ∷ xs) shown.text ∙ sym (spaced_append (row_words fs front) shown.word shown.more);
      all = all_append (row_words fs front) rest (row_words_are fs front is.fields front_bytes at.row) (shown.first, shown.all);
      stored = ap (behind_front epoch cs (length fs + 2)) (front_back epoch 2 fs front rest is.fields is.values front_bytes at.row) ∙ stored_ok front packet (command_said epoch (length fs + 2) cs rest) said;
    }

pub command_bytes : (size : ℕ) (bytes : List ℕ) → (take size bytes ++ packet_behind size bytes) ++ drop (size + packet_size (drop size bytes)) bytes ≡ bytes
command_bytes size bytes =
    let p = packet_size (drop size bytes) in
    append_assoc (take size bytes) (take p (drop size bytes)) (drop (size + p) bytes)
    ∙ ap (λ (xs : List ℕ). take size bytes ++ (take p (drop size bytes) ++ xs)) (sym (drop-drop p size bytes))
    ∙ ap (λ (xs : List ℕ). take size bytes ++ xs) (take-append-drop p (drop size bytes))
    ∙ take-append-drop size bytes
