-- Lemmas on entries that are shown and read back.
use Rattle.std.proofs.Common.{◌≡◌, ℕ, zero, suc, ◌+◌, ◌-◌, ◌*◌, ◌<◌, ◌≤◌, Bool, true, false, List, [], ◌∷◌, ◌++◌, length, take, drop, get_or, Option, refl, ap, sym, ◌∙◌, arith, append_assoc, append-nil, length-take, length-drop, length-append}
use Rattle.std.specs.Prelude.{◌==◌, nat_lt, nat_le, if◌then◌else◌, decimal, replicate, codes, Result, Ok}
use Rattle.std.specs.List.{AllByRecursion, list_all}
use Rattle.std.specs.Str.{bytes_eq}
use Rattle.std.specs.Str.Parse.{AllDigits}
use Rattle.std.specs.Char.{is_digit}
use Rattle.std.proofs.lemmas.Bool.Decides.{nat_tests}
use Rattle.std.proofs.lemmas.List.{take-append-drop, replicate-append-replicate}
use Rattle.packet_forms.specs.Hex.{hex}
use Rattle.row_forms.specs.Words.{number}
use Rattle.row_forms.specs.Rows.{with_front, row_words, spaced, is_row, row_said, row_shown}
use Rattle.row_forms.proofs.TextLemmas.{IsPlain, IsWord, split_first, digit_first, own, some_digits, spaced_nil, spaced_cons, all_append, all_map, words_led, marks_are_plain, decimal_marks, decimal_is_number, decimal_led}
use Rattle.row_forms.proofs.HexLemmas.{hex_length, hex_is_bytes, hex_is_plain}
use Rattle.row_forms.proofs.BackLemmas.{zeros_are, all_drop, row_back, row_words_are}
use Rattle.telecommands.specs.declared.command.Command.{Command}
use Rattle.telecommands.specs.Commands.{are_good, are_distinct, command_shown}
use Rattle.table_texts.proofs.FrontBackLemmas.{stored_says, command_bytes}
use Rattle.table_texts.proofs.PayloadLemmas.{IsCommandAt, command_is, packet_long}
use Rattle.table_texts.specs.Fronts.{packet_size, packet_behind, front_said, behind_front}
use Rattle.table_texts.specs.declared.fault.LineFault.{LineFault}
use Rattle.table_texts.specs.declared.fault.TextFault.{TextFault}
use Rattle.table_texts.specs.declared.layout.Layout.{Layout}
use Rattle.table_texts.specs.Lines.{Numbered, lines_of, kept, kept_of, unless_skipped}
use Rattle.table_texts.specs.Entries.{Placed, is_layout, behind_gap, sized, row_placed, number_said, at_row, at_block, entry_said, then_entries, entries_said, as_row, padded, values_said}
use Rattle.table_texts.specs.Endings.{is_end}
use Rattle.table_texts.specs.Shown.{entry_line, entry_shown, entries_shown, can_show, values_shown}
use Rattle.table_texts.proofs.LineLemmas.{kept_cons, nothing_kept}
use Rattle.table_texts.proofs.LayoutLemmas.{IsLayout, layout_is, area_of}
use Rattle.table_texts.proofs.EntryLemmas.{entry_raw, entry_row, entries_end, entries_line}
use Rattle.table_texts.proofs.ShownLemmas.{shown_end, shown_suc, ShowsCommand, shows_row, shows_command}

-- ---- a line of words

-- a byte that ends no line
abbrev IsInLine : ℕ → Type 0
IsInLine b = (b == 10) ≡ false

plain_in_line : (b : ℕ) → IsPlain b → IsInLine b
plain_in_line b plain = grind (arith, nat_tests)

spaced_in_line : (ws : List (List ℕ)) → AllByRecursion IsWord ws → AllByRecursion IsInLine (spaced ws)
spaced_in_line [] all = rw spaced_nil tt
spaced_in_line (w ∷ ws) all =
    rw (spaced_cons w ws) (refl, all_append IsInLine w (spaced ws) (all_map IsPlain IsInLine plain_in_line w all.0.1) (spaced_in_line ws all.1))

lines_cons : (line rest : List ℕ) → AllByRecursion IsInLine line → lines_of (line ++ 10 ∷ rest) ≡ line ∷ lines_of rest
unfolding lines_of
lines_cons line rest all = split_first (λ b. b == 10) line 10 rest all refl

kept_word : (n : ℕ) (w : List ℕ) (ws : List (List ℕ)) (more : List Numbered) → (get_or w 0 0 == 35) ≡ false → unless_skipped n (w ∷ ws) more ≡ record { number = n; words = w ∷ ws } ∷ more
kept_word n w ws more e = rw e refl

-- a line of words says them
pub kept_line : (n : ℕ) (w : List ℕ) (ws : List (List ℕ)) (rest : List ℕ) → IsWord w → AllByRecursion IsWord ws → (get_or w 0 0 == 35) ≡ false → kept_of n ((w ++ spaced ws) ++ 10 ∷ rest) ≡ record { number = n; words = w ∷ ws } ∷ kept_of (n + 1) rest
kept_line n w ws rest first all said =
    let plain = all_append IsInLine w (spaced ws) (all_map IsPlain IsInLine plain_in_line w first.1) (spaced_in_line ws all) in
    ap (kept n) (lines_cons (w ++ spaced ws) rest plain)
    ∙ kept_cons n (w ++ spaced ws) (lines_of rest)
    ∙ ap (λ (vs : List (List ℕ)). unless_skipped n vs (kept_of (n + 1) rest)) (words_led w ws first all)
    ∙ kept_word n w ws (kept_of (n + 1) rest) said

-- ---- an entry's number

hash_no_digit : (d : ℕ) → is_digit d 10 ≡ true → (d == 35) ≡ false
hash_no_digit d is = grind (arith, nat_tests)

no_hash : (ds : List ℕ) → AllDigits 10 ds → 0 < length ds → (get_or ds 0 0 == 35) ≡ false
no_hash [] all some = absurd (omega (arith, some))
no_hash (d ∷ ds) all some = hash_no_digit d (digit_first d ds all)

decimal_word : (k : ℕ) → k < 4294967296 → IsWord (decimal k)
decimal_word k small = (some_digits k small, marks_are_plain (decimal k) (decimal_marks k small))

decimal_other : (k : ℕ) (text : List ℕ) → k < 4294967296 → bytes_eq (decimal k ++ []) text ≡ false → bytes_eq (decimal k) text ≡ false
decimal_other k text small e = rw append-nil at e

number_is_said : (l : Layout) (place k : ℕ) → place < k → k ≤ l.count → l.count < 65536 → number_said l place (number 65535 (decimal k)) ≡ Ok k
number_is_said l place k behind room few =
    let value = decimal_is_number 65535 k (omega arith) (omega arith) in
    let a : nat_lt 0 k ≡ true = grind (arith, nat_tests) in
    let b : nat_le k l.count ≡ true = grind (arith, nat_tests) in
    let c : nat_lt place k ≡ true = grind (arith, nat_tests) in
    ap (number_said l place) value ∙ rw (a, b, c) refl

-- ---- an entry's line

-- words that say an entry's bytes
record SaysValues (epoch : Option ℕ) (cs : List Command) (l : Layout) (e : List ℕ) : Type 0 where
  more : List (List ℕ)
  text : values_shown cs l e ≡ spaced more
  all : AllByRecursion IsWord more
  values : values_said epoch cs l more ≡ Ok e

pub row_values : (epoch : Option ℕ) (cs : List Command) (l : Layout) (ws : List (List ℕ)) → (l.area == 0) ≡ true → values_said epoch cs l ws ≡ as_row (row_said epoch 2 l.fields.now ws)
unfolding values_said
row_values epoch cs l ws none = rw none refl

pub area_values : (epoch : Option ℕ) (cs : List Command) (l : Layout) (ws : List (List ℕ)) → (l.area == 0) ≡ false → values_said epoch cs l ws ≡ padded l (behind_front epoch cs (length l.fields.now + 2) (front_said epoch 2 l.fields.now ws))
unfolding values_said
area_values epoch cs l ws some = rw some refl

row_shown_is : (cs : List Command) (l : Layout) (e : List ℕ) → (l.area == 0) ≡ true → values_shown cs l e ≡ row_shown l.fields.now e
unfolding values_shown
row_shown_is cs l e none = rw none refl

area_shown_is : (cs : List Command) (l : Layout) (e : List ℕ) → (l.area == 0) ≡ false → values_shown cs l e ≡ row_shown l.fields.now (take (l.size - l.area) e) ++ 32 ∷ command_shown cs (packet_behind (l.size - l.area) e)
unfolding values_shown
area_shown_is cs l e some = rw some refl

padded_is : (l : Layout) (bytes : List ℕ) → length bytes ≤ l.size → padded l (Ok bytes) ≡ Ok (bytes ++ replicate (l.size - length bytes) 0)
padded_is l bytes few = let fits : nat_le (length bytes) l.size ≡ true = grind (arith, nat_tests) in rw fits refl

-- fields, a telecommand and zero bytes are an entry
area_bytes : (l : Layout) (size : ℕ) (e : List ℕ) → length e ≡ l.size → IsCommandAt l.fields.now size e → list_all (λ b. b == 0) (drop (size + packet_size (drop size e)) e) ≡ true → padded l (Ok (take size e ++ packet_behind size e)) ≡ Ok e
area_bytes l size e long at zeros =
    let p = packet_size (drop size e) in
    let rest = drop (size + p) e in
    let inside = at.inside in
    let room = at.room in
    let front_long : length (take size e) ≡ size = simp length-take (omega (arith, room)) in
    let packet = packet_long size e inside in
    let back : length (drop size e) ≡ length e - size = length-drop size e in
    let left : length rest ≡ length e - (size + p) = length-drop (size + p) e in
    let both : length (take size e ++ packet_behind size e) ≡ size + p = rw (length-append, front_long, packet) refl in
    let gap : l.size - length (take size e ++ packet_behind size e) ≡ length rest = rw (both, left, long) refl in
    padded_is l (take size e ++ packet_behind size e) (omega (arith, both, inside, back, long, room))
    ∙ ap (λ (k : ℕ). Ok ((take size e ++ packet_behind size e) ++ replicate k 0)) gap
    ∙ ap (λ (xs : List ℕ). Ok ((take size e ++ packet_behind size e) ++ xs)) (sym (zeros_are rest zeros))
    ∙ ap Ok (command_bytes size e)

row_says : (epoch : Option ℕ) (cs : List Command) (l : Layout) (e : List ℕ) → IsLayout l → AllByRecursion (λ b. b < 256) e → (l.area == 0) ≡ true → is_row l.fields.now e ≡ true → SaysValues epoch cs l e
row_says epoch cs l e is all none shows = record {
  more = row_words l.fields.now e;
  text = row_shown_is cs l e none;
  all = row_words_are l.fields.now e is.fields all shows;
  values = row_values epoch cs l (row_words l.fields.now e) none ∙ ap as_row (row_back epoch 2 l.fields.now e is.fields all shows);
}

area_says : (epoch : Option ℕ) (cs : List Command) (l : Layout) (e : List ℕ) → are_good cs ≡ true → are_distinct cs ≡ true → IsLayout l → AllByRecursion (λ b. b < 256) e → length e ≡ l.size → (l.area == 0) ≡ false → ShowsCommand l e → SaysValues epoch cs l e
area_says epoch cs l e good distinct is all long some shows =
    let size = l.size - l.area in
    let front = (area_of l is some).front in
    let at = command_is l.fields.now size e shows.command in
    let says = stored_says epoch cs l.fields.now size e good distinct front all at in
    record {
      more = says.more;
      text = area_shown_is cs l e some ∙ says.text;
      all = says.all;
      values = area_values epoch cs l says.more some ∙ ap (padded l) says.stored ∙ area_bytes l size e long at shows.zeros;
    }

values_by : (epoch : Option ℕ) (cs : List Command) (l : Layout) (e : List ℕ) → are_good cs ≡ true → are_distinct cs ≡ true → IsLayout l → AllByRecursion (λ b. b < 256) e → length e ≡ l.size → can_show l e ≡ true → (b : Bool) → (l.area == 0) ≡ b → SaysValues epoch cs l e
values_by epoch cs l e good distinct is all long shows true none = row_says epoch cs l e is all none (shows_row l e none shows)
values_by epoch cs l e good distinct is all long shows false some = area_says epoch cs l e good distinct is all long some (shows_command l e some shows)

row_back_at : (epoch : Option ℕ) (cs : List Command) (l : Layout) (place k : ℕ) (e : List ℕ) (ws : List (List ℕ)) → IsLayout l → place < k → k ≤ l.count → values_said epoch cs l ws ≡ Ok e → entry_said epoch cs l place (decimal k ∷ ws) ≡ Ok (record { number = k; bytes = behind_gap l place k e })
row_back_at epoch cs l place k e ws is behind room values =
    let few = is.few in
    let other = decimal_other k (codes "raw") (omega arith) (decimal_led k [] (codes "raw") refl (omega arith)) in
    entry_row epoch cs l place (decimal k ∷ ws) (decimal k) ws refl other
    ∙ ap (λ (r : Result ℕ LineFault). at_row epoch cs l place r ws) (number_is_said l place k behind room few)
    ∙ ap (row_placed l place k) values

raw_back_at : (epoch : Option ℕ) (cs : List Command) (l : Layout) (place k : ℕ) (e : List ℕ) → IsLayout l → place < k → k ≤ l.count → AllByRecursion (λ b. b < 256) e → length e ≡ l.size → entry_said epoch cs l place (codes "raw" ∷ decimal k ∷ hex e ∷ []) ≡ Ok (record { number = k; bytes = behind_gap l place k e })
raw_back_at epoch cs l place k e is behind room all long =
    let few = is.few in
    let fits : (length e == l.size) ≡ true = grind (arith, nat_tests) in
    entry_raw epoch cs l place (codes "raw" ∷ decimal k ∷ hex e ∷ []) (codes "raw") (decimal k ∷ hex e ∷ []) refl refl
    ∙ ap (λ (r : Result ℕ LineFault). at_block l place r (hex e ∷ [])) (number_is_said l place k behind room few)
    ∙ ap (sized l place k) (hex_is_bytes e all)
    ∙ rw fits refl

raw_words : (k : ℕ) (e : List ℕ) → codes "raw " ++ decimal k ++ 32 ∷ hex e ≡ codes "raw" ++ spaced (decimal k ∷ hex e ∷ [])
raw_words k e =
    let last : spaced (hex e ∷ []) ≡ 32 ∷ hex e = spaced_cons (hex e) [] ∙ ap (λ (xs : List ℕ). 32 ∷ (hex e ++ xs)) spaced_nil ∙ ap (λ (xs : List ℕ). 32 ∷ xs) (append-nil (hex e)) in
    sym (ap (λ (xs : List ℕ). codes "raw" ++ xs) (spaced_cons (decimal k) (hex e ∷ []) ∙ ap (λ (xs : List ℕ). 32 ∷ (decimal k ++ xs)) last))

pub raw_is_word : IsWord (codes "raw")
raw_is_word = (omega arith, (omega arith, (omega arith, (omega arith, tt))))

-- the words of an entry's line, of which the first is no end and no comment
record IsLine (epoch : Option ℕ) (cs : List Command) (l : Layout) (place k : ℕ) (e line : List ℕ) : Type 0 where
  word : List ℕ
  more : List (List ℕ)
  text : line ≡ (word ++ spaced more) ++ 10 ∷ []
  first : IsWord word
  all : AllByRecursion IsWord more
  said : (get_or word 0 0 == 35) ≡ false
  goes_on : is_end (word ∷ more) ≡ false
  entry : entry_said epoch cs l place (word ∷ more) ≡ Ok (record { number = k; bytes = behind_gap l place k e })

pub hex_is_word : (e : List ℕ) → 0 < length e → IsWord (hex e)
hex_is_word e some = (omega (arith, hex_length e), hex_is_plain e)

line_is : (epoch : Option ℕ) (cs : List Command) (l : Layout) (place k : ℕ) (e : List ℕ) → are_good cs ≡ true → are_distinct cs ≡ true → IsLayout l → place < k → k ≤ l.count → AllByRecursion (λ b. b < 256) e → length e ≡ l.size → (b : Bool) → can_show l e ≡ b → IsLine epoch cs l place k e (entry_line cs l k e)
line_is epoch cs l place k e good distinct is behind room all long true shows =
    let few = is.few in
    let says = values_by epoch cs l e good distinct is all long shows (l.area == 0) refl in
    record {
      word = decimal k;
      more = says.more;
      text = rw shows (ap (λ (xs : List ℕ). (decimal k ++ xs) ++ 10 ∷ []) says.text);
      first = decimal_word k (omega arith);
      all = says.all;
      said = no_hash (decimal k) (own k (omega arith)) (some_digits k (omega arith));
      goes_on = decimal_other k (codes "end") (omega arith) (decimal_led k [] (codes "end") refl (omega arith));
      entry = row_back_at epoch cs l place k e says.more is behind room says.values;
    }
line_is epoch cs l place k e good distinct is behind room all long false shows =
    let few = is.few in
    let sized = is.sized in
    record {
      word = codes "raw";
      more = decimal k ∷ hex e ∷ [];
      text = rw shows (ap (λ (xs : List ℕ). xs ++ 10 ∷ []) (raw_words k e));
      first = raw_is_word;
      all = (decimal_word k (omega arith), (hex_is_word e (omega arith), tt));
      said = refl;
      goes_on = refl;
      entry = raw_back_at epoch cs l place k e is behind room all long;
    }

-- ---- all entries

-- an entry's line, and what is said behind it
line_then : (epoch : Option ℕ) (cs : List Command) (l : Layout) (place k n : ℕ) (e line rest : List ℕ) → IsLine epoch cs l place k e line → entries_said epoch cs l place n (kept_of n (line ++ rest)) ≡ with_front (behind_gap l place k e) (entries_said epoch cs l k (n + 1) (kept_of (n + 1) rest))
line_then epoch cs l place k n e line rest is =
    let text : line ++ rest ≡ (is.word ++ spaced is.more) ++ 10 ∷ rest = ap (λ (xs : List ℕ). xs ++ rest) is.text ∙ append_assoc (is.word ++ spaced is.more) (10 ∷ []) rest in
    ap (λ (xs : List ℕ). entries_said epoch cs l place n (kept_of n xs)) text
    ∙ entries_line epoch cs l place n n (is.word ∷ is.more) (kept_of n ((is.word ++ spaced is.more) ++ 10 ∷ rest)) (kept_of (n + 1) rest) (kept_line n is.word is.more rest is.first is.all is.said) is.goes_on
    ∙ ap (λ (r : Result Placed LineFault). then_entries n r (λ j. entries_said epoch cs l j (n + 1) (kept_of (n + 1) rest))) is.entry

pub end_is_word : IsWord (codes "end")
end_is_word = (omega arith, (omega arith, (omega arith, (omega arith, tt))))

pub end_text : codes "end" ++ 10 ∷ [] ≡ (codes "end" ++ spaced []) ++ 10 ∷ []
end_text = rw spaced_nil refl

end_back : (epoch : Option ℕ) (cs : List Command) (l : Layout) (place n : ℕ) → entries_said epoch cs l place n (kept_of n (codes "end" ++ 10 ∷ [])) ≡ Ok (replicate ((l.count - place) * l.size) 0)
end_back epoch cs l place n =
    let lines = ap (kept_of n) end_text ∙ kept_line n (codes "end") [] [] end_is_word tt refl ∙ ap (λ (more : List Numbered). record { number = n; words = codes "end" ∷ [] } ∷ more) (nothing_kept (n + 1)) in
    entries_end epoch cs l place n n (codes "end" ∷ []) (kept_of n (codes "end" ++ 10 ∷ [])) [] lines refl

no_bytes_left : (bytes : List ℕ) (s : ℕ) → length bytes ≡ zero * s → bytes ≡ []
no_bytes_left [] s e = refl
no_bytes_left (b ∷ bytes) s e = let none : zero * s ≡ 0 = omega arith in absurd (omega (arith, e, none))

end_gap : (l : Layout) (place k : ℕ) (bytes : List ℕ) → k + zero ≡ l.count + 1 → length bytes ≡ zero * l.size → replicate ((l.count - place) * l.size) 0 ≡ behind_gap l place k bytes
end_gap l place k bytes places long =
    let same : l.count - place ≡ k - 1 - place = omega arith in
    ap (λ (d : ℕ). replicate (d * l.size) 0) same ∙ sym (append-nil (replicate ((k - 1 - place) * l.size) 0)) ∙ ap (λ (xs : List ℕ). replicate ((k - 1 - place) * l.size) 0 ++ xs) (sym (no_bytes_left bytes l.size long))

-- one zero entry more
gap_more : (l : Layout) (place k : ℕ) (e r : List ℕ) → place < k → length e ≡ l.size → list_all (λ b. b == 0) e ≡ true → behind_gap l place (k + 1) r ≡ behind_gap l place k (e ++ r)
gap_more l place k e r behind long zeros =
    let d = k - 1 - place in
    let one : k + 1 - 1 - place ≡ d + 1 = omega arith in
    let parts : (k + 1 - 1 - place) * l.size ≡ d * l.size + l.size = rw one (omega arith) in
    let entry : replicate l.size 0 ≡ e = rw (← long) (sym (zeros_are e zeros)) in
    ap (λ (m : ℕ). replicate m 0 ++ r) parts
    ∙ ap (λ (xs : List ℕ). xs ++ r) (sym (replicate-append-replicate (d * l.size) l.size 0))
    ∙ ap (λ (xs : List ℕ). (replicate (d * l.size) 0 ++ xs) ++ r) entry
    ∙ append_assoc (replicate (d * l.size) 0) e r

-- no gap
gap_none : (l : Layout) (k : ℕ) (r : List ℕ) → behind_gap l k (k + 1) r ≡ r
gap_none l k r =
    let none : (k + 1 - 1 - k) * l.size ≡ 0 = (let z : k + 1 - 1 - k ≡ 0 = omega arith in rw z (omega arith)) in
    ap (λ (m : ℕ). replicate m 0 ++ r) none

front_ok : (front bytes : List ℕ) (r : Result (List ℕ) TextFault) → r ≡ Ok bytes → with_front front r ≡ Ok (front ++ bytes)
front_ok front bytes r e = rw e refl

shown_kept : (cs : List Command) (l : Layout) (k : ℕ) (e : List ℕ) (b : Bool) → list_all (λ x. x == 0) e ≡ b → entry_shown cs l k e ≡ (if b then [] else entry_line cs l k e)
shown_kept cs l k e true zeros = rw zeros refl
shown_kept cs l k e false zeros = rw zeros refl

abbrev AreBytes : List ℕ → Type 0
AreBytes bytes = AllByRecursion (λ b. b < 256) bytes

all_take : (P : ℕ → Type 0) (n : ℕ) (xs : List ℕ) → AllByRecursion P xs → AllByRecursion P (take n xs)
all_take P zero xs all = tt
all_take P (suc n) [] all = tt
all_take P (suc n) (x ∷ xs) all = (all.0, all_take P n xs all.1)

-- what the entries behind one say
abbrev Behind : Option ℕ → List Command → Layout → ℕ → ℕ → List ℕ → Type 0
Behind epoch cs l m k r = (place n : ℕ) → place < k + 1 → entries_said epoch cs l place n (kept_of n (entries_shown cs l m (k + 1) r)) ≡ Ok (behind_gap l place (k + 1) r)

back_one : (epoch : Option ℕ) (cs : List Command) (l : Layout) → are_good cs ≡ true → are_distinct cs ≡ true → IsLayout l → (m k place n : ℕ) (e r : List ℕ) → place < k → k ≤ l.count → length e ≡ l.size → AreBytes e → Behind epoch cs l m k r → (b : Bool) → list_all (λ x. x == 0) e ≡ b → entries_said epoch cs l place n (kept_of n (entry_shown cs l k e ++ entries_shown cs l m (k + 1) r)) ≡ Ok (behind_gap l place k (e ++ r))
back_one epoch cs l good distinct is m k place n e r behind room long all more true zeros =
    ap (λ (xs : List ℕ). entries_said epoch cs l place n (kept_of n (xs ++ entries_shown cs l m (k + 1) r))) (shown_kept cs l k e true zeros)
    ∙ more place n (omega arith) ∙ ap Ok (gap_more l place k e r behind long zeros)
back_one epoch cs l good distinct is m k place n e r behind room long all more false zeros =
    let line = line_is epoch cs l place k e good distinct is behind room all long (can_show l e) refl in
    let rest = more k (n + 1) (omega arith) ∙ ap Ok (gap_none l k r) in
    ap (λ (xs : List ℕ). entries_said epoch cs l place n (kept_of n (xs ++ entries_shown cs l m (k + 1) r))) (shown_kept cs l k e false zeros)
    ∙ line_then epoch cs l place k n e (entry_line cs l k e) (entries_shown cs l m (k + 1) r) line
    ∙ front_ok (behind_gap l place k e) r (entries_said epoch cs l k (n + 1) (kept_of (n + 1) (entries_shown cs l m (k + 1) r))) rest
    ∙ ap Ok (append_assoc (replicate ((k - 1 - place) * l.size) 0) e r)

size_first : (m s : ℕ) (bytes : List ℕ) → length bytes ≡ suc m * s → (length (take s bytes) ≡ s) × (length (drop s bytes) ≡ m * s)
size_first m s bytes long =
    let more : suc m * s ≡ m * s + s = omega arith in
    (simp length-take (omega (arith, long, more)), simp length-drop (omega (arith, long, more)))

back : (epoch : Option ℕ) (cs : List Command) (l : Layout) → are_good cs ≡ true → are_distinct cs ≡ true → IsLayout l → (m k place n : ℕ) (bytes : List ℕ) → place < k → k + m ≡ l.count + 1 → length bytes ≡ m * l.size → AreBytes bytes → entries_said epoch cs l place n (kept_of n (entries_shown cs l m k bytes)) ≡ Ok (behind_gap l place k bytes)
back epoch cs l good distinct is zero k place n bytes behind places long all =
    ap (λ (xs : List ℕ). entries_said epoch cs l place n (kept_of n xs)) (shown_end cs l zero k bytes refl)
    ∙ end_back epoch cs l place n ∙ ap Ok (end_gap l place k bytes places long)
back epoch cs l good distinct is (suc m) k place n bytes behind places long all =
    let sizes = size_first m l.size bytes long in
    let first = all_take (λ b. b < 256) l.size bytes all in
    let rest = all_drop (λ b. b < 256) l.size bytes all in
    let more = λ (p q : ℕ) (h : p < k + 1). back epoch cs l good distinct is m (k + 1) p q (drop l.size bytes) h (omega arith) sizes.1 rest in
    ap (λ (xs : List ℕ). entries_said epoch cs l place n (kept_of n xs)) (shown_suc cs l m k bytes)
    ∙ back_one epoch cs l good distinct is m k place n (take l.size bytes) (drop l.size bytes) behind (omega arith) sizes.0 first more (list_all (λ x. x == 0) (take l.size bytes)) refl
    ∙ ap (λ (xs : List ℕ). Ok (behind_gap l place k xs)) (take-append-drop l.size bytes)

-- the text of a table's entries says them
pub entries_back : (epoch : Option ℕ) (cs : List Command) (l : Layout) (n : ℕ) (bytes : List ℕ) → are_good cs ≡ true → are_distinct cs ≡ true → is_layout l ≡ true → AllByRecursion (λ b. b < 256) bytes → length bytes ≡ l.count * l.size → entries_said epoch cs l 0 n (kept_of n (entries_shown cs l l.count 1 bytes)) ≡ Ok bytes
entries_back epoch cs l n bytes good distinct layout all long =
    let none : behind_gap l 0 1 bytes ≡ bytes = gap_none l 0 bytes in
    back epoch cs l good distinct (layout_is l layout) l.count 1 0 n bytes (omega arith) (omega arith) long all ∙ ap Ok none
