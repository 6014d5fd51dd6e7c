-- Lemmas on files to be loaded that are shown and read back.
use Rattle.std.proofs.Common.{◌≡◌, ℕ, zero, suc, ◌+◌, ◌-◌, ◌<◌, ◌≤◌, true, false, List, [], ◌∷◌, ◌++◌, length, take, drop, None, refl, ap, sym, ◌∙◌, arith, append_assoc, append-nil, length-take, length-drop}
use Rattle.std.specs.Prelude.{codes, ◌==◌, nat_lt, nat_le, Result, Ok}
use Rattle.std.specs.List.{AllByRecursion, list_all}
use Rattle.std.proofs.lemmas.Bool.Decides.{nat_tests}
use Rattle.std.proofs.lemmas.List.{take-append-drop}
use Rattle.packet_forms.specs.Hex.{hex}
use Rattle.row_forms.specs.Values.{value_shown, can_show, is_kind}
use Rattle.row_forms.specs.Rows.{behind_key, word_shown, spaced}
use Rattle.row_forms.proofs.TextLemmas.{IsWord, spaced_nil, spaced_cons, all_append}
use Rattle.row_forms.proofs.HexLemmas.{hex_is_bytes, hex_is_plain}
use Rattle.row_forms.proofs.BackLemmas.{all_take, all_drop, field_back}
use Rattle.table_files.specs.Headers.{IsLoadOf}
use Rattle.table_texts.specs.declared.fault.LineFault.{LineFault}
use Rattle.table_texts.specs.Lines.{Numbered, kept_of}
use Rattle.table_texts.specs.Sequences.{some_bytes}
use Rattle.table_texts.proofs.LineLemmas.{nothing_kept}
use Rattle.table_texts.proofs.BackLemmas.{kept_line, hex_is_word, end_is_word, end_text}
use Rattle.row_forms.specs.declared.field.Field.{Field}
use Rattle.load_texts.specs.Headers.{is_header, header_said, header_shown}
use Rattle.load_texts.proofs.HeaderLemmas.{header_is, header_by}
use Rattle.load_texts.specs.declared.fault.LoadFault.{LoadFault}
use Rattle.load_texts.specs.Addresses.{Addressed, address_kind, address_said}
use Rattle.load_texts.specs.Loaded.{on_line, line_said, then_loaded, loaded_said, path_said, body_said, loaded_line, loaded_text}
use Rattle.load_texts.specs.Loads.{load_of, load_row, if_sized, addressed_filed, load_said, load_text}
use Rattle.load_texts.proofs.AddressLemmas.{first_address}
use Rattle.load_texts.proofs.LoadedLemmas.{line_bytes, loaded_end, loaded_more, body_lines, shown_none, shown_step}
use Rattle.load_texts.proofs.FileLemmas.{sixty, load_back}
use Rattle.load_texts.proofs.TakenLemmas.{load_is}

abbrev AreBytes : List ℕ → Type 0
AreBytes bytes = AllByRecursion (λ b. b < 256) bytes

-- ---- lines of bytes

bytes_word : IsWord (codes "bytes")
bytes_word = (omega arith, (omega arith, (omega arith, (omega arith, (omega arith, (omega arith, tt))))))

line_words : (bytes : List ℕ) → loaded_line bytes ≡ (codes "bytes" ++ spaced (hex bytes ∷ [])) ++ 10 ∷ []
line_words bytes =
    let last : spaced (hex bytes ∷ []) ≡ 32 ∷ hex bytes = spaced_cons (hex bytes) [] ∙ ap (λ (xs : List ℕ). 32 ∷ (hex bytes ++ xs)) spaced_nil ∙ ap (λ (xs : List ℕ). 32 ∷ xs) (append-nil (hex bytes)) in
    ap (λ (xs : List ℕ). (codes "bytes" ++ xs) ++ 10 ∷ []) (sym last)

line_kept : (n : ℕ) (bytes rest : List ℕ) → 0 < length bytes → kept_of n (loaded_line bytes ++ rest) ≡ record { number = n; words = codes "bytes" ∷ hex bytes ∷ [] } ∷ kept_of (n + 1) rest
line_kept n bytes rest some =
    ap (λ (xs : List ℕ). kept_of n (xs ++ rest)) (line_words bytes)
    ∙ ap (kept_of n) (append_assoc (codes "bytes" ++ spaced (hex bytes ∷ [])) (10 ∷ []) rest)
    ∙ kept_line n (codes "bytes") (hex bytes ∷ []) rest bytes_word (hex_is_word bytes some, tt) refl

line_back : (n : ℕ) (bytes : List ℕ) → AreBytes bytes → line_said n (codes "bytes" ∷ hex bytes ∷ []) ≡ Ok bytes
line_back n bytes all = line_bytes n (codes "bytes" ∷ hex bytes ∷ []) (hex bytes ∷ []) refl refl ∙ ap (λ (r : Result (List ℕ) LineFault). on_line n r) (ap some_bytes (hex_is_bytes bytes all))

then_ok : (bytes more : List ℕ) (said next : Result (List ℕ) LoadFault) → said ≡ Ok bytes → next ≡ Ok more → then_loaded said next ≡ Ok (bytes ++ more)
then_ok bytes more said next a b = rw (a, b) refl

end_kept : (n : ℕ) → kept_of n (codes "end" ++ 10 ∷ []) ≡ record { number = n; words = codes "end" ∷ [] } ∷ []
end_kept n = ap (kept_of n) end_text ∙ kept_line n (codes "end") [] [] end_is_word tt refl ∙ ap (λ (more : List Numbered). record { number = n; words = codes "end" ∷ [] } ∷ more) (nothing_kept (n + 1))

end_back : (n : ℕ) → loaded_said n (kept_of n (codes "end" ++ 10 ∷ [])) ≡ Ok []
end_back n = loaded_end n n (codes "end" ∷ []) (kept_of n (codes "end" ++ 10 ∷ [])) [] (end_kept n) refl

some_left : (b : ℕ) (bytes : List ℕ) → (length (b ∷ bytes) == 0) ≡ false
some_left b bytes = grind (arith, nat_tests)

-- bytes that begin a line
first_some : (b : ℕ) (bytes : List ℕ) → 0 < length (take 32 (b ∷ bytes))
first_some b bytes = omega arith

loaded_back_in : (fuel n : ℕ) (bytes : List ℕ) → length bytes ≤ fuel → AreBytes bytes → loaded_said n (kept_of n (loaded_text bytes)) ≡ Ok bytes
loaded_back_in fuel n [] few all = ap (λ (xs : List ℕ). loaded_said n (kept_of n xs)) (shown_none [] refl) ∙ end_back n
loaded_back_in zero n (b ∷ bytes) few all = absurd (omega (arith, few))
loaded_back_in (suc fuel) n (b ∷ bytes) few all =
    let now = take 32 (b ∷ bytes) in
    let left = drop 32 (b ∷ bytes) in
    let less : length left ≡ length (b ∷ bytes) - 32 = length-drop 32 (b ∷ bytes) in
    let rest = loaded_back_in fuel (n + 1) left (omega (arith, less, few)) (all_drop (λ x. x < 256) 32 (b ∷ bytes) all) in
    let text = ap (kept_of n) (shown_step (b ∷ bytes) (some_left b bytes)) in
    let lines = text ∙ line_kept n now (loaded_text left) (first_some b bytes) in
    loaded_more n n (codes "bytes" ∷ hex now ∷ []) (kept_of n (loaded_text (b ∷ bytes))) (kept_of (n + 1) (loaded_text left)) lines refl
    ∙ then_ok now left (line_said n (codes "bytes" ∷ hex now ∷ [])) (loaded_said (n + 1) (kept_of (n + 1) (loaded_text left))) (line_back n now (all_take (λ x. x < 256) 32 (b ∷ bytes) all)) rest
    ∙ ap Ok (take-append-drop 32 (b ∷ bytes))

loaded_back : (n : ℕ) (bytes : List ℕ) → AreBytes bytes → loaded_said n (kept_of n (loaded_text bytes)) ≡ Ok bytes
loaded_back n bytes all = loaded_back_in (length bytes) n bytes (omega arith) all

-- a line that asks for no file
abbrev AsksNone : ℕ → List ℕ → Type 0
AsksNone n text = (m : ℕ) × (ws : List (List ℕ)) × (more : List Numbered) × (kept_of n text ≡ record { number = m; words = ws } ∷ more) × (path_said ws ≡ None)

bytes_ask : path_said (codes "bytes" ∷ []) ≡ None
unfolding behind_key
bytes_ask = refl

end_asks : path_said (codes "end" ∷ []) ≡ None
unfolding behind_key
end_asks = refl

text_asks : (n : ℕ) (bytes : List ℕ) → AsksNone n (loaded_text bytes)
text_asks n [] = (n, codes "end" ∷ [], [], ap (kept_of n) (shown_none [] refl) ∙ end_kept n, end_asks)
text_asks n (b ∷ bytes) =
    let now = take 32 (b ∷ bytes) in
    let left = drop 32 (b ∷ bytes) in
    (n, codes "bytes" ∷ hex now ∷ [], kept_of (n + 1) (loaded_text left), ap (kept_of n) (shown_step (b ∷ bytes) (some_left b bytes)) ∙ line_kept n now (loaded_text left) (first_some b bytes), bytes_ask)

body_back : (named : List ℕ) (n : ℕ) (bytes : List ℕ) → AreBytes bytes → body_said named n (kept_of n (loaded_text bytes)) ≡ Ok bytes
body_back named n bytes all =
    let asks = text_asks n bytes in
    body_lines named n asks.0 asks.1 (kept_of n (loaded_text bytes)) asks.2 asks.3 asks.4 ∙ loaded_back n bytes all

-- ---- the first line

load_word : IsWord (codes "load")
load_word = (omega arith, (omega arith, (omega arith, (omega arith, (omega arith, tt)))))

-- the word of an address
abbrev address_word : List ℕ → List ℕ
address_word address = word_shown (codes "address") (codes "0x" ++ hex address)

address_is_word : (address : List ℕ) → IsWord (address_word address)
address_is_word address =
    (omega arith, (omega arith, (omega arith, (omega arith, (omega arith, (omega arith, (omega arith, (omega arith, (omega arith, (omega arith, (omega arith, hex_is_plain address)))))))))))

address_back : (address : List ℕ) → length address ≡ 4 → AreBytes address → address_said (address_word address) ≡ Ok address
unfolding value_shown can_show is_kind
address_back address four all = field_back None (codes "address") address_kind address refl all (let is : (length address == 4) ≡ true = grind (arith, nat_tests) in is)

first_text : (address shown : List ℕ) (words : List (List ℕ)) (rest : List ℕ) → shown ≡ spaced words → ((codes "load address=0x" ++ (hex address ++ shown)) ++ 10 ∷ []) ++ rest ≡ (codes "load" ++ spaced (address_word address ∷ words)) ++ 10 ∷ rest
first_text address shown words rest e =
    append_assoc (codes "load address=0x" ++ (hex address ++ shown)) (10 ∷ []) rest
    ∙ ap (λ (xs : List ℕ). (codes "load" ++ xs) ++ 10 ∷ rest) (ap (λ (xs : List ℕ). 32 ∷ (address_word address ++ xs)) e ∙ sym (spaced_cons (address_word address) words))

-- ---- whole files

header_bytes : (file : List ℕ) → AreBytes file → AreBytes (load_row file)
header_bytes file all =
    let a = all_take (λ x. x < 256) 24 (drop 8 file) (all_drop (λ x. x < 256) 8 file all) in
    let r = all_take (λ x. x < 256) 4 (drop 76 file) (all_drop (λ x. x < 256) 76 file all) in
    let d = all_take (λ x. x < 256) 32 (drop 32 file) (all_drop (λ x. x < 256) 32 file all) in
    all_append (λ x. x < 256) (take 24 (drop 8 file)) (take 4 (drop 76 file) ++ take 32 (drop 32 file)) a (all_append (λ x. x < 256) (take 4 (drop 76 file)) (take 32 (drop 32 file)) r d)

sized_ok : (address row bytes : List ℕ) → 0 < length bytes → length bytes ≤ 65536 → if_sized address row bytes ≡ Ok (load_of address row bytes)
sized_ok address row bytes some few =
    let a : nat_lt 0 (length bytes) ≡ true = grind (arith, nat_tests) in
    let b : nat_le (length bytes) 65536 ≡ true = grind (arith, nat_tests) in
    rw (a, b) refl

filed_ok : (fs : List Field) (named : List ℕ) (first : Addressed) (row bytes : List ℕ) → header_said fs first.number first.words ≡ Ok row → body_said named (first.number + 1) first.more ≡ Ok bytes → addressed_filed fs named (Ok first) ≡ if_sized first.address row bytes
filed_ok fs named first row bytes a b = rw (a, b) refl

-- the text of a file to be loaded says it
pub loads_back : (fs : List Field) (named file : List ℕ) → is_header fs ≡ true → AreBytes file → IsLoadOf file → load_said fs named (load_text fs file) ≡ Ok file
unfolding load_text
loads_back fs named file fields all is =
    let room = is.long in
    let some = is.some_bytes in
    let few = is.few in
    let bytes = drop 80 file in
    let left : length bytes ≡ length file - 80 = length-drop 80 file in
    let address = take 4 (drop 64 file) in
    let l64 : length (drop 64 file) ≡ length file - 64 = length-drop 64 file in
    let four : length address ≡ 4 = simp length-take (omega (arith, room, l64)) in
    let small = all_take (λ b. b < 256) 4 (drop 64 file) (all_drop (λ b. b < 256) 64 file all) in
    let row = load_row file in
    let says = header_by fs 1 row (header_is fs fields) (sixty file room) (header_bytes file all) (list_all (λ x. x == 0) row) refl in
    let text = load_text fs file in
    let behind = loaded_text bytes in
    let lines = ap (kept_of 1) (first_text address (header_shown fs row) says.words behind says.text)
    ∙ kept_line 1 (codes "load") (address_word address ∷ says.words) behind load_word (address_is_word address, says.all) refl in
    let first = first_address 1 (codes "load" ∷ address_word address ∷ says.words) (address_word address ∷ says.words) says.words (address_word address) (kept_of 1 text) (kept_of 2 behind) (Ok address) lines refl refl refl (sym (address_back address four small)) in
    load_is fs named text
    ∙ ap (addressed_filed fs named) first
    ∙ filed_ok fs named (record { address = address; number = 1; words = says.words; more = kept_of 2 behind }) row bytes says.said (body_back named 2 bytes (all_drop (λ b. b < 256) 80 file all))
    ∙ sized_ok address row bytes (omega (arith, some, left)) (omega (arith, few, left))
    ∙ ap Ok (load_back file all is)
