-- Lemmas on the bytes that the lines of a table's text say of each entry.
use Rattle.std.proofs.Common.{◌≡◌, ℕ, ◌+◌, ◌-◌, ◌*◌, ◌<◌, ◌≤◌, Bool, true, false, List, [], ◌∷◌, ◌++◌, length, take, drop, map, Option, Some, None, refl, ap, sym, ◌∙◌, arith, append-nil, append_assoc, length-append}
use Rattle.std.specs.Prelude.{◌==◌, nat_lt, nat_le, codes, Result, Ok, Err, replicate, option_map, if◌then◌else◌}
use Rattle.std.specs.List.{range_with_len}
use Rattle.std.specs.Str.{bytes_eq}
use Rattle.std.proofs.lemmas.Bool.Decides.{nat_tests}
use Rattle.std.proofs.lemmas.List.{length-replicate}
use Rattle.std.proofs.lemmas.Slice.Eq.{bytes_eq-Decides}
use Rattle.row_forms.specs.Words.{hex_said, number, digits}
use Rattle.row_forms.specs.Rows.{with_front, row_said}
use Rattle.row_forms.specs.declared.fault.RowFault.{RowFault}
use Rattle.row_forms.proofs.SizeLemmas.{row_sizes}
use Rattle.telecommands.specs.declared.command.Command.{Command}
use Rattle.table_texts.proofs.BackLemmas.{row_values, area_values}
use Rattle.table_texts.specs.Fronts.{front_said, behind_front}
use Rattle.table_texts.specs.declared.fault.LineFault.{LineFault}
use Rattle.table_texts.specs.declared.fault.LineFault.TheVariants as faults
use Rattle.table_texts.specs.declared.fault.TextFault.{TextFault}
use Rattle.table_texts.specs.declared.layout.Layout.{Layout}
use Rattle.table_texts.specs.Lines.{Numbered}
use Rattle.table_texts.specs.Entries.{Placed, behind_gap, sized, block_placed, row_placed, number_said, at_row, at_block, raw_said, entry_said, left_out, then_entries, entries_said, as_row, padded, values_said}
use Rattle.table_texts.specs.Endings.{ended, is_end, behind_first, fault_on}
use Rattle.table_texts.proofs.EntryLemmas.{entry_none, entry_raw, entry_row, entries_nil, entries_end, entries_line}
use Rattle.table_texts.proofs.LayoutLemmas.{IsLayout, row_of}
use Rattle.table_meanings.specs.Entries.{first_number, entry_number, line_about, raw_bytes, EntryMeaning, line_meant, entries_meant}
use Rattle.table_meanings.proofs.ChunkLemmas.{chunk_gap, chunk_here, chunk_behind, range_same}

-- ---- the bytes that one line says

abbrev pub ok_bytes : Result (List ℕ) LineFault → Option (List ℕ)
ok_bytes (Ok bytes) = Some bytes
ok_bytes (Err fault) = None

-- the bytes of an entry by the line about it
abbrev pub line_bytes : Option ℕ → List Command → Layout → Option (List (List ℕ)) → Option (List ℕ)
line_bytes epoch cs l None = Some (replicate l.size 0)
line_bytes epoch cs l (Some []) = None
line_bytes epoch cs l (Some (w ∷ ws)) = if bytes_eq w (codes "raw") then raw_bytes ws else ok_bytes (values_said epoch cs l ws)

record IsLine (epoch : Option ℕ) (cs : List Command) (l : Layout) (place : ℕ) (ws : List (List ℕ)) (p : Placed) : Type 0 where
  value : List ℕ
  long : length value ≡ l.size
  behind : place < p.number
  room : p.number ≤ l.count
  bytes : replicate ((p.number - 1 - place) * l.size) 0 ++ value ≡ p.bytes
  about : entry_number ws ≡ Some p.number
  said : line_bytes epoch cs l (Some ws) ≡ Some value

ok_same : (j k : ℕ) → ◌≡◌ {A = Result ℕ LineFault} (Ok j) (Ok k) → j ≡ k
ok_same j k e = cc

-- a number that is taken comes behind the place, and is among the entries
record IsTakenNumber (l : Layout) (place k : ℕ) (o : Option ℕ) : Type 0 where
  behind : place < k
  room : k ≤ l.count
  is : o ≡ Some k

number_one : (l : Layout) (place j k : ℕ) (a b c : Bool) → nat_lt 0 j ≡ a → nat_le j l.count ≡ b → nat_lt place j ≡ c → number_said l place (Some j) ≡ Ok k → IsTakenNumber l place k (Some j)
number_one l place j k true true true f g h e =
    let said : number_said l place (Some j) ≡ Ok j = rw (f, g, h) refl in
    let same : j ≡ k = ok_same j k (sym said ∙ e) in
    record { behind = rw (← same) (grind (arith, nat_tests)); room = rw (← same) (grind (arith, nat_tests)); is = ap Some same }
number_one l place j k true true false f g h e = absurd (let other : Err faults.Order ≡ Ok k = sym (rw (f, g, h) refl) ∙ e in cc)
number_one l place j k true false c f g h e = absurd (let other : Err faults.Entry ≡ Ok k = sym (rw (f, g) refl) ∙ e in cc)
number_one l place j k false b c f g h e = absurd (let other : Err faults.Entry ≡ Ok k = sym (rw f refl) ∙ e in cc)

number_is : (l : Layout) (place k : ℕ) (o : Option ℕ) → number_said l place o ≡ Ok k → IsTakenNumber l place k o
number_is l place k None e = absurd (cc)
number_is l place k (Some j) e = number_one l place j k (nat_lt 0 j) (nat_le j l.count) (nat_lt place j) refl refl refl e

-- the bytes of an entry behind zeros
record IsPut (l : Layout) (place k : ℕ) (p : Placed) (o : Option (List ℕ)) : Type 0 where
  value : List ℕ
  long : length value ≡ l.size
  bytes : replicate ((k - 1 - place) * l.size) 0 ++ value ≡ p.bytes
  number : k ≡ p.number
  said : o ≡ Some value

abbrev number_or : Result Placed LineFault → ℕ
number_or (Ok p) = p.number
number_or (Err fault) = 0

abbrev bytes_or : Result Placed LineFault → List ℕ
bytes_or (Ok p) = p.bytes
bytes_or (Err fault) = []

put_is : (l : Layout) (place k : ℕ) (value : List ℕ) (p : Placed) → length value ≡ l.size → ◌≡◌ {A = Result Placed LineFault} (Ok (record { number = k; bytes = behind_gap l place k value })) (Ok p) → IsPut l place k p (Some value)
put_is l place k value p long e = record { value = value; long = long; bytes = ap bytes_or e; number = ap number_or e; said = refl }

row_put : (l : Layout) (place k : ℕ) (p : Placed) (r : Result (List ℕ) LineFault) → ((bytes : List ℕ) → r ≡ Ok bytes → length bytes ≡ l.size) → row_placed l place k r ≡ Ok p → IsPut l place k p (ok_bytes r)
row_put l place k p (Ok bytes) size e = put_is l place k bytes p (size bytes refl) e
row_put l place k p (Err fault) size e = absurd (cc)

sized_one : (l : Layout) (place k : ℕ) (p : Placed) (bytes : List ℕ) (b : Bool) → (length bytes == l.size) ≡ b → sized l place k (Some bytes) ≡ Ok p → IsPut l place k p (Some bytes)
sized_one l place k p bytes true f e = put_is l place k bytes p (grind (arith, nat_tests)) (sym (rw f refl) ∙ e)
sized_one l place k p bytes false f e = absurd (let other : Err faults.Size ≡ Ok p = sym (rw f refl) ∙ e in cc)

sized_is : (l : Layout) (place k : ℕ) (p : Placed) (o : Option (List ℕ)) → sized l place k o ≡ Ok p → IsPut l place k p o
sized_is l place k p None e = absurd (cc)
sized_is l place k p (Some bytes) e = sized_one l place k p bytes (length bytes == l.size) refl e

block_put : (l : Layout) (place k : ℕ) (p : Placed) (n : List ℕ) (ws : List (List ℕ)) → block_placed l place k ws ≡ Ok p → IsPut l place k p (raw_bytes (n ∷ ws))
block_put l place k p n [] e = absurd (cc)
block_put l place k p n (w ∷ []) e = sized_is l place k p (hex_said w) e
block_put l place k p n (w ∷ v ∷ ws) e = absurd (cc)

-- ---- how many bytes the values of an entry have

as_row_ok : (bytes : List ℕ) (r : Result (List ℕ) RowFault) → as_row r ≡ Ok bytes → r ≡ Ok bytes
as_row_ok bytes (Ok x) e = let same : x ≡ bytes = cc in ap Ok same
as_row_ok bytes (Err fault) e = absurd (cc)

-- the values of an entry without a telecommand are a row
pub row_is : (epoch : Option ℕ) (cs : List Command) (l : Layout) (ws : List (List ℕ)) (bytes : List ℕ) → (l.area == 0) ≡ true → values_said epoch cs l ws ≡ Ok bytes → row_said epoch 2 l.fields.now ws ≡ Ok bytes
row_is epoch cs l ws bytes none e = as_row_ok bytes (row_said epoch 2 l.fields.now ws) (sym (row_values epoch cs l ws none) ∙ e)

-- bytes, with zeros up to the size of an entry
pub record IsPadded (l : Layout) (r : Result (List ℕ) LineFault) (bytes : List ℕ) : Type 0 where
  pub stored : List ℕ
  pub is : r ≡ Ok stored
  pub few : length stored ≤ l.size
  pub bytes_are : stored ++ replicate (l.size - length stored) 0 ≡ bytes

padded_one : (l : Layout) (x bytes : List ℕ) (b : Bool) → nat_le (length x) l.size ≡ b → padded l (Ok x) ≡ Ok bytes → IsPadded l (Ok x) bytes
padded_one l x bytes true f e =
    let whole : ◌≡◌ {A = Result (List ℕ) LineFault} (Ok (x ++ replicate (l.size - length x) 0)) (Ok bytes) = sym (rw f refl) ∙ e in
    let same : x ++ replicate (l.size - length x) 0 ≡ bytes = cc in
    record { stored = x; is = refl; few = grind (arith, nat_tests); bytes_are = same }
padded_one l x bytes false f e = absurd (let wrong : ◌≡◌ {A = Result (List ℕ) LineFault} (Err faults.Long) (Ok bytes) = sym (rw f refl) ∙ e in cc)

padded_is : (l : Layout) (r : Result (List ℕ) LineFault) (bytes : List ℕ) → padded l r ≡ Ok bytes → IsPadded l r bytes
padded_is l (Ok x) bytes e = padded_one l x bytes (nat_le (length x) l.size) refl e
padded_is l (Err fault) bytes e = absurd (cc)

-- the values of an entry with a telecommand are its fields, the telecommand and zeros
pub area_is : (epoch : Option ℕ) (cs : List Command) (l : Layout) (ws : List (List ℕ)) (bytes : List ℕ) → (l.area == 0) ≡ false → values_said epoch cs l ws ≡ Ok bytes → IsPadded l (behind_front epoch cs (length l.fields.now + 2) (front_said epoch 2 l.fields.now ws)) bytes
area_is epoch cs l ws bytes some e =
    padded_is l (behind_front epoch cs (length l.fields.now + 2) (front_said epoch 2 l.fields.now ws)) bytes (sym (area_values epoch cs l ws some) ∙ e)

padded_long : (l : Layout) (r : Result (List ℕ) LineFault) (bytes : List ℕ) → IsPadded l r bytes → length bytes ≡ l.size
padded_long l r bytes is =
    let few = is.few in
    rw (← is.bytes_are, length-append, length-replicate) (omega (arith, few))

values_size : (epoch : Option ℕ) (cs : List Command) (l : Layout) (ws : List (List ℕ)) (bytes : List ℕ) → IsLayout l → (b : Bool) → (l.area == 0) ≡ b → values_said epoch cs l ws ≡ Ok bytes → length bytes ≡ l.size
values_size epoch cs l ws bytes is true none e = row_sizes epoch 2 l.size l.fields.now ws bytes (row_of l is none) (row_is epoch cs l ws bytes none e)
values_size epoch cs l ws bytes is false some e = padded_long l _ bytes (area_is epoch cs l ws bytes some e)

-- ---- one line

number_raw : (w : List ℕ) (ws : List (List ℕ)) → bytes_eq w (codes "raw") ≡ true → entry_number (w ∷ ws) ≡ first_number ws
unfolding entry_number
number_raw w ws raw = rw raw refl

number_row : (w : List ℕ) (ws : List (List ℕ)) → bytes_eq w (codes "raw") ≡ false → entry_number (w ∷ ws) ≡ number 65535 w
unfolding entry_number
number_row w ws raw = rw raw refl

line_of_put : (epoch : Option ℕ) (cs : List Command) (l : Layout) (place k : ℕ) (ws : List (List ℕ)) (p : Placed) (o : Option (List ℕ)) (m : Option ℕ) → IsTakenNumber l place k m → IsPut l place k p o → entry_number ws ≡ m → line_bytes epoch cs l (Some ws) ≡ o → IsLine epoch cs l place ws p
line_of_put epoch cs l place k ws p o m taken put about said = record {
  value = put.value;
  long = put.long;
  behind = rw (← put.number) taken.behind;
  room = rw (← put.number) taken.room;
  bytes = ap (λ (j : ℕ). replicate ((j - 1 - place) * l.size) 0 ++ put.value) (sym put.number) ∙ put.bytes;
  about = about ∙ taken.is ∙ ap Some put.number;
  said = said ∙ put.said;
}

at_row_is : (epoch : Option ℕ) (cs : List Command) (l : Layout) (place : ℕ) (p : Placed) (w : List ℕ) (ws : List (List ℕ)) → IsLayout l → bytes_eq w (codes "raw") ≡ false → (r : Result ℕ LineFault) → number_said l place (number 65535 w) ≡ r → at_row epoch cs l place r ws ≡ Ok p → IsLine epoch cs l place (w ∷ ws) p
at_row_is epoch cs l place p w ws is raw (Err fault) n e = absurd (cc)
at_row_is epoch cs l place p w ws is raw (Ok k) n e =
    let put = row_put l place k p (values_said epoch cs l ws) (λ bytes said. values_size epoch cs l ws bytes is (l.area == 0) refl said) e in
    line_of_put epoch cs l place k (w ∷ ws) p (ok_bytes (values_said epoch cs l ws)) (number 65535 w) (number_is l place k (number 65535 w) n) put (number_row w ws raw) (rw raw refl)

at_block_is : (epoch : Option ℕ) (cs : List Command) (l : Layout) (place : ℕ) (p : Placed) (w v : List ℕ) (ws : List (List ℕ)) → bytes_eq w (codes "raw") ≡ true → (r : Result ℕ LineFault) → number_said l place (number 65535 v) ≡ r → at_block l place r ws ≡ Ok p → IsLine epoch cs l place (w ∷ v ∷ ws) p
at_block_is epoch cs l place p w v ws raw (Err fault) n e = absurd (cc)
at_block_is epoch cs l place p w v ws raw (Ok k) n e =
    line_of_put epoch cs l place k (w ∷ v ∷ ws) p (raw_bytes (v ∷ ws)) (number 65535 v) (number_is l place k (number 65535 v) n) (block_put l place k p v ws e) (number_raw w (v ∷ ws) raw) (rw raw refl)

raw_is : (epoch : Option ℕ) (cs : List Command) (l : Layout) (place : ℕ) (p : Placed) (w : List ℕ) (ws : List (List ℕ)) → bytes_eq w (codes "raw") ≡ true → raw_said l place ws ≡ Ok p → IsLine epoch cs l place (w ∷ ws) p
raw_is epoch cs l place p w [] raw e = absurd (cc)
raw_is epoch cs l place p w (v ∷ ws) raw e = at_block_is epoch cs l place p w v ws raw (number_said l place (number 65535 v)) refl e

entry_one : (epoch : Option ℕ) (cs : List Command) (l : Layout) (place : ℕ) (p : Placed) (w : List ℕ) (ws : List (List ℕ)) → IsLayout l → (b : Bool) → bytes_eq w (codes "raw") ≡ b → entry_said epoch cs l place (w ∷ ws) ≡ Ok p → IsLine epoch cs l place (w ∷ ws) p
entry_one epoch cs l place p w ws is true raw e = raw_is epoch cs l place p w ws raw (sym (entry_raw epoch cs l place (w ∷ ws) w ws refl raw) ∙ e)
entry_one epoch cs l place p w ws is false raw e = at_row_is epoch cs l place p w ws is raw (number_said l place (number 65535 w)) refl (sym (entry_row epoch cs l place (w ∷ ws) w ws refl raw) ∙ e)

entry_is : (epoch : Option ℕ) (cs : List Command) (l : Layout) (place : ℕ) (p : Placed) (ws : List (List ℕ)) → IsLayout l → entry_said epoch cs l place ws ≡ Ok p → IsLine epoch cs l place ws p
entry_is epoch cs l place p [] is e = absurd (let other : Err faults.Entry ≡ Ok p = sym (entry_none epoch cs l place [] refl) ∙ e in cc)
entry_is epoch cs l place p (w ∷ ws) is e = entry_one epoch cs l place p w ws is (bytes_eq w (codes "raw")) refl e

-- ---- all lines

-- what lines behind entry `place` say of each entry, and that they are about no other
record AreSaid (epoch : Option ℕ) (cs : List Command) (l : Layout) (place : ℕ) (lines : List Numbered) (bytes : List ℕ) : Type 0 where
  each : (i : ℕ) → i < l.count - place → line_bytes epoch cs l (line_about (place + 1 + i) lines) ≡ Some (take l.size (drop (l.size * i) bytes))
  others : (k : ℕ) → k ≤ place → line_about k lines ≡ None

about_here : (k : ℕ) (line : Numbered) (more : List Numbered) → entry_number line.words ≡ Some k → line_about k (line ∷ more) ≡ Some line.words
unfolding line_about
about_here k line more e = let same : (k == k) ≡ true = grind (arith, nat_tests) in rw (e, same) refl

about_other : (j k : ℕ) (line : Numbered) (more : List Numbered) → entry_number line.words ≡ Some j → (j ≡ k → ⊥) → line_about k (line ∷ more) ≡ line_about k more
unfolding line_about
about_other j k line more e other = let different : (j == k) ≡ false = grind (arith, nat_tests) in rw (e, different) refl

about_none : (k : ℕ) (line : Numbered) (more : List Numbered) → entry_number line.words ≡ None → line_about k (line ∷ more) ≡ line_about k more
unfolding line_about
about_none k line more e = rw e refl

no_line : (k : ℕ) → line_about k [] ≡ None
unfolding line_about
no_line k = refl

-- `end` is about no entry
end_number : (ws : List (List ℕ)) → is_end ws ≡ true → entry_number ws ≡ None
unfolding entry_number number digits
end_number [] e = refl
end_number (w ∷ ws) e = let same : w ≡ codes "end" = (bytes_eq-Decides w (codes "end")).0 e in rw same refl

-- the end, behind which nothing stands
record IsLast (l : Layout) (place : ℕ) (more : List Numbered) (bytes : List ℕ) : Type 0 where
  last : more ≡ []
  zeros : left_out l place ≡ bytes

ended_is : (l : Layout) (place n : ℕ) (ws : List (List ℕ)) (more : List Numbered) (bytes : List ℕ) → ended (left_out l place) n ws more ≡ Ok bytes → IsLast l place more bytes
ended_is l place n (w ∷ ws) more bytes e = absurd (cc)
ended_is l place n [] (line ∷ more) bytes e = absurd (cc)
ended_is l place n [] [] bytes e = record { last = refl; zeros = ap all_or e } where
  all_or : Result (List ℕ) TextFault → List ℕ
  all_or (Ok bytes) = bytes
  all_or (Err fault) = []

said_at_end : (epoch : Option ℕ) (cs : List Command) (l : Layout) (place : ℕ) (line : Numbered) (more : List Numbered) (bytes : List ℕ) → is_end line.words ≡ true → IsLast l place more bytes → AreSaid epoch cs l place (line ∷ more) bytes
said_at_end epoch cs l place line more bytes end is = record {
  each = λ i room. ap (line_bytes epoch cs l) (none (place + 1 + i)) ∙ ap Some (sym (chunk_gap l.size (l.count - place) i [] room) ∙ ap (λ (xs : List ℕ). take l.size (drop (l.size * i) xs)) (append-nil (left_out l place) ∙ is.zeros));
  others = λ k room. none k;
} where
  none : (k : ℕ) → line_about k (line ∷ more) ≡ None
  none k = about_none k line more (end_number line.words end) ∙ ap (line_about k) is.last ∙ no_line k

-- an entry's line, and those behind it

said_before : (epoch : Option ℕ) (cs : List Command) (l : Layout) (place i : ℕ) (line : Numbered) (more : List Numbered) (p : Placed) (rest bytes : List ℕ) → IsLine epoch cs l place line.words p → AreSaid epoch cs l p.number more rest → p.bytes ++ rest ≡ bytes → i < p.number - 1 - place → line_bytes epoch cs l (line_about (place + 1 + i) (line ∷ more)) ≡ Some (take l.size (drop (l.size * i) bytes))
said_before epoch cs l place i line more p rest bytes is behind whole before =
    let k = place + 1 + i in
    let after = is.behind in
    let other : p.number ≡ k → ⊥ = λ e. omega (arith, e, before, after) in
    let low : k ≤ p.number = omega (arith, before, after) in
    let none : line_about k (line ∷ more) ≡ None = about_other p.number k line more is.about other ∙ behind.others k low in
    let m = p.number - 1 - place in
    let all : replicate (m * l.size) 0 ++ (is.value ++ rest) ≡ bytes = sym (append_assoc (replicate (m * l.size) 0) is.value rest) ∙ ap (λ (xs : List ℕ). xs ++ rest) is.bytes ∙ whole in
    ap (line_bytes epoch cs l) none ∙ ap Some (sym (chunk_gap l.size m i (is.value ++ rest) before) ∙ ap (λ (xs : List ℕ). take l.size (drop (l.size * i) xs)) all)

said_here : (epoch : Option ℕ) (cs : List Command) (l : Layout) (place i : ℕ) (line : Numbered) (more : List Numbered) (p : Placed) (rest bytes : List ℕ) → IsLine epoch cs l place line.words p → p.bytes ++ rest ≡ bytes → i ≡ p.number - 1 - place → line_bytes epoch cs l (line_about (place + 1 + i) (line ∷ more)) ≡ Some (take l.size (drop (l.size * i) bytes))
said_here epoch cs l place i line more p rest bytes is whole here =
    let after = is.behind in
    let m = p.number - 1 - place in
    let same : place + 1 + i ≡ p.number = omega (arith, here, after) in
    let all : (replicate (m * l.size) 0 ++ is.value) ++ rest ≡ bytes = ap (λ (xs : List ℕ). xs ++ rest) is.bytes ∙ whole in
    ap (λ (k : ℕ). line_bytes epoch cs l (line_about k (line ∷ more))) same
    ∙ ap (line_bytes epoch cs l) (about_here p.number line more is.about)
    ∙ is.said
    ∙ ap Some (sym (chunk_here l.size m is.value rest is.long) ∙ ap (λ (xs : List ℕ). take l.size (drop (l.size * m) xs)) all ∙ ap (λ (j : ℕ). take l.size (drop (l.size * j) bytes)) (sym here))

said_behind : (epoch : Option ℕ) (cs : List Command) (l : Layout) (place i : ℕ) (line : Numbered) (more : List Numbered) (p : Placed) (rest bytes : List ℕ) → IsLine epoch cs l place line.words p → AreSaid epoch cs l p.number more rest → p.bytes ++ rest ≡ bytes → p.number - 1 - place < i → i < l.count - place → line_bytes epoch cs l (line_about (place + 1 + i) (line ∷ more)) ≡ Some (take l.size (drop (l.size * i) bytes))
said_behind epoch cs l place i line more p rest bytes is behind whole later room =
    let after = is.behind in
    let k = place + 1 + i in
    let m = p.number - 1 - place in
    let j = i - m - 1 in
    let sum : i ≡ m + 1 + j = omega (arith, later) in
    let same : k ≡ p.number + 1 + j = omega (arith, later, after) in
    let other : p.number ≡ k → ⊥ = λ e. omega (arith, e, later, after) in
    let left : j < l.count - p.number = omega (arith, later, after, room) in
    let all : (replicate (m * l.size) 0 ++ is.value) ++ rest ≡ bytes = ap (λ (xs : List ℕ). xs ++ rest) is.bytes ∙ whole in
    ap (line_bytes epoch cs l) (about_other p.number k line more is.about other ∙ ap (λ (n : ℕ). line_about n more) same)
    ∙ behind.each j left
    ∙ ap Some (sym (chunk_behind l.size m i j is.value rest is.long sum) ∙ ap (λ (xs : List ℕ). take l.size (drop (l.size * i) xs)) all)

said_others : (epoch : Option ℕ) (cs : List Command) (l : Layout) (place k : ℕ) (line : Numbered) (more : List Numbered) (p : Placed) (rest : List ℕ) → IsLine epoch cs l place line.words p → AreSaid epoch cs l p.number more rest → k ≤ place → line_about k (line ∷ more) ≡ None
said_others epoch cs l place k line more p rest is behind low =
    let after = is.behind in
    let other : p.number ≡ k → ⊥ = λ e. omega (arith, e, low, after) in
    about_other p.number k line more is.about other ∙ behind.others k (omega (arith, low, after))

said_more : (epoch : Option ℕ) (cs : List Command) (l : Layout) (place : ℕ) (line : Numbered) (more : List Numbered) (p : Placed) (rest bytes : List ℕ) → IsLine epoch cs l place line.words p → AreSaid epoch cs l p.number more rest → p.bytes ++ rest ≡ bytes → AreSaid epoch cs l place (line ∷ more) bytes
said_more epoch cs l place line more p rest bytes is behind whole = record {
  each = λ i room. by_place i room (nat_lt i (p.number - 1 - place)) (i == (p.number - 1 - place)) refl refl;
  others = λ k low. said_others epoch cs l place k line more p rest is behind low;
} where
  by_place : (i : ℕ) → i < l.count - place → (b c : Bool) → nat_lt i (p.number - 1 - place) ≡ b → (i == (p.number - 1 - place)) ≡ c → line_bytes epoch cs l (line_about (place + 1 + i) (line ∷ more)) ≡ Some (take l.size (drop (l.size * i) bytes))
  by_place i room true c before here = said_before epoch cs l place i line more p rest bytes is behind whole (grind (arith, nat_tests))
  by_place i room false true before here = said_here epoch cs l place i line more p rest bytes is whole (grind (arith, nat_tests))
  by_place i room false false before here = said_behind epoch cs l place i line more p rest bytes is behind whole (grind (arith, nat_tests)) room

front_parts : (front bytes : List ℕ) (r : Result (List ℕ) TextFault) → with_front front r ≡ Ok bytes → (rest : List ℕ) × (r ≡ Ok rest) × (front ++ rest ≡ bytes)
front_parts front bytes (Ok rest) e = (rest, refl, ap all_or e) where
  all_or : Result (List ℕ) TextFault → List ℕ
  all_or (Ok bytes) = bytes
  all_or (Err fault) = []
front_parts front bytes (Err fault) e = absurd (cc)

-- what lines say behind any entry
abbrev Says : Option ℕ → List Command → Layout → List Numbered → Type 0
Says epoch cs l lines = (place n : ℕ) (bytes : List ℕ) → entries_said epoch cs l place n lines ≡ Ok bytes → AreSaid epoch cs l place lines bytes

then_said : (epoch : Option ℕ) (cs : List Command) (l : Layout) (place : ℕ) (line : Numbered) (more : List Numbered) (bytes : List ℕ) → IsLayout l → Says epoch cs l more → (r : Result Placed LineFault) → entry_said epoch cs l place line.words ≡ r → then_entries line.number r (λ k. entries_said epoch cs l k (line.number + 1) more) ≡ Ok bytes → AreSaid epoch cs l place (line ∷ more) bytes
then_said epoch cs l place line more bytes is behind (Err fault) said e = absurd (cc)
then_said epoch cs l place line more bytes is behind (Ok p) said e =
    let parts = front_parts p.bytes bytes (entries_said epoch cs l p.number (line.number + 1) more) e in
    said_more epoch cs l place line more p parts.0 bytes (entry_is epoch cs l place p line.words is said) (behind p.number (line.number + 1) parts.0 parts.1) parts.2

line_said : (epoch : Option ℕ) (cs : List Command) (l : Layout) (line : Numbered) (more : List Numbered) → IsLayout l → Says epoch cs l more → (place n : ℕ) (bytes : List ℕ) → (b : Bool) → is_end line.words ≡ b → entries_said epoch cs l place n (line ∷ more) ≡ Ok bytes → AreSaid epoch cs l place (line ∷ more) bytes
line_said epoch cs l line more is behind place n bytes true end e =
    said_at_end epoch cs l place line more bytes end (ended_is l place line.number (behind_first line.words) more bytes (sym (entries_end epoch cs l place n line.number line.words (line ∷ more) more refl end) ∙ e))
line_said epoch cs l line more is behind place n bytes false end e =
    then_said epoch cs l place line more bytes is behind (entry_said epoch cs l place line.words) refl (sym (entries_line epoch cs l place n line.number line.words (line ∷ more) more refl end) ∙ e)

lines_said : (epoch : Option ℕ) (cs : List Command) (l : Layout) → IsLayout l → (lines : List Numbered) → Says epoch cs l lines
lines_said epoch cs l is [] = λ place n bytes e. absurd (let other : Err (fault_on n faults.End) ≡ Ok bytes = sym (entries_nil epoch cs l place n [] refl) ∙ e in cc)
lines_said epoch cs l is (line ∷ more) = λ place n bytes e. line_said epoch cs l line more is (lines_said epoch cs l is more) place n bytes (is_end line.words) refl e

-- ---- what they mean

-- what a kind's entries mean, where its layout is this one
pub record Fits {E : Type 0} (epoch : Option ℕ) (cs : List Command) (l : Layout) (m : EntryMeaning E) : Type 0 where
  pub zero : m.read (replicate l.size 0) ≡ m.unused
  pub said : (ws : List (List ℕ)) (bytes : List ℕ) → values_said epoch cs l ws ≡ Ok bytes → m.said ws ≡ Some (m.read bytes)

ok_is : (r : Result (List ℕ) LineFault) (bytes : List ℕ) → ok_bytes r ≡ Some bytes → r ≡ Ok bytes
ok_is (Ok x) bytes e = let same : x ≡ bytes = cc in ap Ok same
ok_is (Err fault) bytes e = absurd (cc)

meant_by : {E : Type 0} (epoch : Option ℕ) (cs : List Command) (l : Layout) (m : EntryMeaning E) (w : List ℕ) (ws : List (List ℕ)) (bytes : List ℕ) → Fits epoch cs l m → (b : Bool) → bytes_eq w (codes "raw") ≡ b → line_bytes epoch cs l (Some (w ∷ ws)) ≡ Some bytes → line_meant m (Some (w ∷ ws)) ≡ Some (m.read bytes)
meant_by epoch cs l m w ws bytes fits true raw e = rw raw (ap (option_map m.read) (sym (rw raw refl) ∙ e))
meant_by epoch cs l m w ws bytes fits false raw e = rw raw (fits.said ws bytes (ok_is (values_said epoch cs l ws) bytes (sym (rw raw refl) ∙ e)))

meant_is : {E : Type 0} (epoch : Option ℕ) (cs : List Command) (l : Layout) (m : EntryMeaning E) (o : Option (List (List ℕ))) (bytes : List ℕ) → Fits epoch cs l m → line_bytes epoch cs l o ≡ Some bytes → line_meant m o ≡ Some (m.read bytes)
meant_is epoch cs l m None bytes fits e = let same : replicate l.size 0 ≡ bytes = cc in ap Some (sym fits.zero ∙ ap m.read same)
meant_is epoch cs l m (Some []) bytes fits e = absurd (cc)
meant_is epoch cs l m (Some (w ∷ ws)) bytes fits e = meant_by epoch cs l m w ws bytes fits (bytes_eq w (codes "raw")) refl e

-- the entries that a loader reads are those that the lines mean
pub entries_are : {E : Type 0} (epoch : Option ℕ) (cs : List Command) (l : Layout) (m : EntryMeaning E) (n : ℕ) (lines : List Numbered) (bytes : List ℕ) (at : ℕ → E) → IsLayout l → Fits epoch cs l m → ((i : ℕ) → at i ≡ m.read (take l.size (drop (l.size * i) bytes))) → entries_said epoch cs l 0 n lines ≡ Ok bytes → map (λ i. Some (at i)) (range_with_len 0 l.count) ≡ entries_meant m l.count lines
entries_are epoch cs l m n lines bytes at is fits read e =
    let said = lines_said epoch cs l is lines 0 n bytes e in
    range_same (λ (i : ℕ). Some (at i)) (λ (k : ℕ). line_meant m (line_about k lines)) 0 1 l.count one
  where
    one : (i : ℕ) → i < l.count → Some (at (0 + i)) ≡ line_meant m (line_about (1 + i) lines)
    one i room =
        let said = lines_said epoch cs l is lines 0 n bytes e in
        let zero : 0 + i ≡ i = omega arith in
        let place : 0 + 1 + i ≡ 1 + i = omega arith in
        let bytes_are = said.each i (omega (arith, room)) in
        ap (λ (j : ℕ). Some (at j)) zero ∙ ap Some (read i)
        ∙ sym (meant_is epoch cs l m (line_about (0 + 1 + i) lines) (take l.size (drop (l.size * i) bytes)) fits bytes_are)
        ∙ ap (λ (k : ℕ). line_meant m (line_about k lines)) place
