-- Lemmas on how many bytes entries have.
use Rattle.std.proofs.Common.{◌≡◌, ℕ, ◌+◌, ◌-◌, ◌*◌, ◌<◌, ◌≤◌, Bool, true, false, List, [], ◌∷◌, ◌++◌, length, Option, Some, None, refl, ap, sym, ◌∙◌, arith, length-append}
use Rattle.std.specs.Prelude.{◌==◌, nat_lt, nat_le, codes, Result, Ok, Err, replicate}
use Rattle.std.specs.Str.{bytes_eq}
use Rattle.std.proofs.lemmas.Bool.Decides.{nat_tests}
use Rattle.std.proofs.lemmas.List.{length-replicate}
use Rattle.row_forms.specs.Words.{hex_said, number}
use Rattle.row_forms.specs.Rows.{with_front, row_said}
use Rattle.row_forms.specs.declared.fault.RowFault.{RowFault}
use Rattle.row_forms.proofs.SizeLemmas.{row_sizes}
use Rattle.telecommands.specs.declared.command.Command.{Command}
use Rattle.table_texts.proofs.BackLemmas.{row_values, area_values}
use Rattle.table_texts.specs.Fronts.{front_said, behind_front}
use Rattle.table_texts.specs.declared.fault.LineFault.{LineFault}
use Rattle.table_texts.specs.declared.fault.LineFault.TheVariants as faults
use Rattle.table_texts.specs.declared.fault.TextFault.{TextFault}
use Rattle.table_texts.specs.declared.layout.Layout.{Layout}
use Rattle.table_texts.specs.Lines.{Numbered}
use Rattle.table_texts.specs.Entries.{Placed, is_layout, behind_gap, sized, block_placed, row_placed, number_said, at_row, at_block, raw_said, entry_said, left_out, then_entries, entries_said, as_row, padded, values_said}
use Rattle.table_texts.specs.Endings.{ended, is_end, behind_first, fault_on}
use Rattle.table_texts.proofs.EntryLemmas.{entry_none, entry_raw, entry_row, entries_nil, entries_end, entries_line}
use Rattle.table_texts.proofs.LayoutLemmas.{IsLayout, layout_is, row_of}

-- an entry behind another, with the bytes of those between them
record IsPlaced (l : Layout) (place : ℕ) (p : Placed) : Type 0 where
  behind : place < p.number
  room : p.number ≤ l.count
  size : length p.bytes ≡ (p.number - place) * l.size

gap_size : (l : Layout) (place k : ℕ) (bytes : List ℕ) → place < k → length bytes ≡ l.size → length (behind_gap l place k bytes) ≡ (k - place) * l.size
gap_size l place k bytes behind long =
    let d : k - place ≡ (k - 1 - place) + 1 = omega arith in
    let more : ((k - 1 - place) + 1) * l.size ≡ (k - 1 - place) * l.size + l.size = omega arith in
    rw (length-append, length-replicate, long, d, more) refl

ok_same : (j k : ℕ) → ◌≡◌ {A = Result ℕ LineFault} (Ok j) (Ok k) → j ≡ k
ok_same j k e = cc

number_one : (l : Layout) (place j k : ℕ) (a b c : Bool) → nat_lt 0 j ≡ a → nat_le j l.count ≡ b → nat_lt place j ≡ c → number_said l place (Some j) ≡ Ok k → (place < k) × (k ≤ l.count)
number_one l place j k true true true f g h e =
    let said : number_said l place (Some j) ≡ Ok j = rw (f, g, h) refl in
    let same : j ≡ k = ok_same j k (sym said ∙ e) in
    (rw (← same) (grind (arith, nat_tests)), rw (← same) (grind (arith, nat_tests)))
number_one l place j k true true false f g h e = absurd (let other : Err faults.Order ≡ Ok k = sym (rw (f, g, h) refl) ∙ e in cc)
number_one l place j k true false c f g h e = absurd (let other : Err faults.Entry ≡ Ok k = sym (rw (f, g) refl) ∙ e in cc)
number_one l place j k false b c f g h e = absurd (let other : Err faults.Entry ≡ Ok k = sym (rw f refl) ∙ e in cc)

number_is : (l : Layout) (place k : ℕ) (o : Option ℕ) → number_said l place o ≡ Ok k → (place < k) × (k ≤ l.count)
number_is l place k None e = absurd (cc)
number_is l place k (Some j) e = number_one l place j k (nat_lt 0 j) (nat_le j l.count) (nat_lt place j) refl refl refl e

abbrev number_or : Result Placed LineFault → ℕ
number_or (Ok p) = p.number
number_or (Err fault) = 0

abbrev bytes_or : Result Placed LineFault → List ℕ
bytes_or (Ok p) = p.bytes
bytes_or (Err fault) = []

placed_is : (l : Layout) (place k : ℕ) (bytes : List ℕ) (p : Placed) → place < k → k ≤ l.count → length bytes ≡ l.size → ◌≡◌ {A = Result Placed LineFault} (Ok (record { number = k; bytes = behind_gap l place k bytes })) (Ok p) → IsPlaced l place p
placed_is l place k bytes p behind room long e =
    let number : k ≡ p.number = ap number_or e in
    let same : behind_gap l place k bytes ≡ p.bytes = ap bytes_or e in
    record {
      behind = rw (← number) behind;
      room = rw (← number) room;
      size = rw (← number, ← same) (gap_size l place k bytes behind long);
    }

row_is : (l : Layout) (place k : ℕ) (p : Placed) (r : Result (List ℕ) LineFault) → place < k → k ≤ l.count → ((bytes : List ℕ) → r ≡ Ok bytes → length bytes ≡ l.size) → row_placed l place k r ≡ Ok p → IsPlaced l place p
row_is l place k p (Ok bytes) behind room size e = placed_is l place k bytes p behind room (size bytes refl) e
row_is l place k p (Err fault) behind room size e = absurd (cc)

as_row_ok : (bytes : List ℕ) (r : Result (List ℕ) RowFault) → as_row r ≡ Ok bytes → r ≡ Ok bytes
as_row_ok bytes (Ok x) e = let same : x ≡ bytes = cc in ap Ok same
as_row_ok bytes (Err fault) e = absurd (cc)

padded_one : (l : Layout) (x bytes : List ℕ) (b : Bool) → nat_le (length x) l.size ≡ b → padded l (Ok x) ≡ Ok bytes → length bytes ≡ l.size
padded_one l x bytes true f e =
    let whole : ◌≡◌ {A = Result (List ℕ) LineFault} (Ok (x ++ replicate (l.size - length x) 0)) (Ok bytes) = sym (rw f refl) ∙ e in
    let same : x ++ replicate (l.size - length x) 0 ≡ bytes = cc in
    let few : length x ≤ l.size = grind (arith, nat_tests) in
    rw (← same, length-append, length-replicate) (omega (arith, few))
padded_one l x bytes false f e = absurd (let wrong : ◌≡◌ {A = Result (List ℕ) LineFault} (Err faults.Long) (Ok bytes) = sym (rw f refl) ∙ e in cc)

padded_size : (l : Layout) (bytes : List ℕ) (r : Result (List ℕ) LineFault) → padded l r ≡ Ok bytes → length bytes ≡ l.size
padded_size l bytes (Ok x) e = padded_one l x bytes (nat_le (length x) l.size) refl e
padded_size l bytes (Err fault) e = absurd (cc)

-- the values of an entry have as many bytes as an entry
values_size : (epoch : Option ℕ) (cs : List Command) (l : Layout) (ws : List (List ℕ)) (bytes : List ℕ) → IsLayout l → (b : Bool) → (l.area == 0) ≡ b → values_said epoch cs l ws ≡ Ok bytes → length bytes ≡ l.size
values_size epoch cs l ws bytes is true none e =
    row_sizes epoch 2 l.size l.fields.now ws bytes (row_of l is none) (as_row_ok bytes (row_said epoch 2 l.fields.now ws) (sym (row_values epoch cs l ws none) ∙ e))
values_size epoch cs l ws bytes is false some e =
    padded_size l bytes (behind_front epoch cs (length l.fields.now + 2) (front_said epoch 2 l.fields.now ws)) (sym (area_values epoch cs l ws some) ∙ e)

at_row_is : (epoch : Option ℕ) (cs : List Command) (l : Layout) (place : ℕ) (p : Placed) (w : List ℕ) (ws : List (List ℕ)) → IsLayout l → (r : Result ℕ LineFault) → number_said l place (number 65535 w) ≡ r → at_row epoch cs l place r ws ≡ Ok p → IsPlaced l place p
at_row_is epoch cs l place p w ws is (Err fault) n e = absurd (cc)
at_row_is epoch cs l place p w ws is (Ok k) n e =
    let places = number_is l place k (number 65535 w) n in
    row_is l place k p (values_said epoch cs l ws) places.0 places.1 (λ bytes said. values_size epoch cs l ws bytes is (l.area == 0) refl said) e

sized_one : (l : Layout) (place k : ℕ) (p : Placed) (bytes : List ℕ) (b : Bool) → (length bytes == l.size) ≡ b → place < k → k ≤ l.count → sized l place k (Some bytes) ≡ Ok p → IsPlaced l place p
sized_one l place k p bytes true f behind room e = placed_is l place k bytes p behind room (grind (arith, nat_tests)) (sym (rw f refl) ∙ e)
sized_one l place k p bytes false f behind room e = absurd (let other : Err faults.Size ≡ Ok p = sym (rw f refl) ∙ e in cc)

sized_is : (l : Layout) (place k : ℕ) (p : Placed) (o : Option (List ℕ)) → place < k → k ≤ l.count → sized l place k o ≡ Ok p → IsPlaced l place p
sized_is l place k p None behind room e = absurd (cc)
sized_is l place k p (Some bytes) behind room e = sized_one l place k p bytes (length bytes == l.size) refl behind room e

block_is : (l : Layout) (place k : ℕ) (p : Placed) (ws : List (List ℕ)) → place < k → k ≤ l.count → block_placed l place k ws ≡ Ok p → IsPlaced l place p
block_is l place k p [] behind room e = absurd (cc)
block_is l place k p (w ∷ []) behind room e = sized_is l place k p (hex_said w) behind room e
block_is l place k p (w ∷ v ∷ ws) behind room e = absurd (cc)

at_block_is : (l : Layout) (place : ℕ) (p : Placed) (w : List ℕ) (ws : List (List ℕ)) (r : Result ℕ LineFault) → number_said l place (number 65535 w) ≡ r → at_block l place r ws ≡ Ok p → IsPlaced l place p
at_block_is l place p w ws (Err fault) n e = absurd (cc)
at_block_is l place p w ws (Ok k) n e =
    let places = number_is l place k (number 65535 w) n in
    block_is l place k p ws places.0 places.1 e

raw_is : (l : Layout) (place : ℕ) (p : Placed) (ws : List (List ℕ)) → raw_said l place ws ≡ Ok p → IsPlaced l place p
raw_is l place p [] e = absurd (cc)
raw_is l place p (w ∷ ws) e = at_block_is l place p w ws (number_said l place (number 65535 w)) refl e

entry_one : (epoch : Option ℕ) (cs : List Command) (l : Layout) (place : ℕ) (p : Placed) (w : List ℕ) (ws : List (List ℕ)) → IsLayout l → (b : Bool) → bytes_eq w (codes "raw") ≡ b → entry_said epoch cs l place (w ∷ ws) ≡ Ok p → IsPlaced l place p
entry_one epoch cs l place p w ws is true raw e = raw_is l place p ws (sym (entry_raw epoch cs l place (w ∷ ws) w ws refl raw) ∙ e)
entry_one epoch cs l place p w ws is false raw e = at_row_is epoch cs l place p w ws is (number_said l place (number 65535 w)) refl (sym (entry_row epoch cs l place (w ∷ ws) w ws refl raw) ∙ e)

entry_is : (epoch : Option ℕ) (cs : List Command) (l : Layout) (place : ℕ) (p : Placed) (ws : List (List ℕ)) → IsLayout l → entry_said epoch cs l place ws ≡ Ok p → IsPlaced l place p
entry_is epoch cs l place p [] is e = absurd (let other : Err faults.Entry ≡ Ok p = sym (entry_none epoch cs l place [] refl) ∙ e in cc)
entry_is epoch cs l place p (w ∷ ws) is e = entry_one epoch cs l place p w ws is (bytes_eq w (codes "raw")) refl e

-- ---- all entries

ended_size : (l : Layout) (place n : ℕ) (ws : List (List ℕ)) (more : List Numbered) (bytes : List ℕ) → ended (left_out l place) n ws more ≡ Ok bytes → length bytes ≡ (l.count - place) * l.size
ended_size l place n (w ∷ ws) more bytes e = absurd (cc)
ended_size l place n [] (line ∷ more) bytes e = absurd (cc)
ended_size l place n [] [] bytes e = rw (← ap all_or e) (length-replicate ((l.count - place) * l.size) 0) where
  all_or : Result (List ℕ) TextFault → List ℕ
  all_or (Ok bytes) = bytes
  all_or (Err fault) = []

front_parts : (front bytes : List ℕ) (r : Result (List ℕ) TextFault) → with_front front r ≡ Ok bytes → (rest : List ℕ) × (r ≡ Ok rest) × (bytes ≡ front ++ rest)
front_parts front bytes (Ok rest) e = (rest, refl, sym (ap all_or e)) where
  all_or : Result (List ℕ) TextFault → List ℕ
  all_or (Ok bytes) = bytes
  all_or (Err fault) = []
front_parts front bytes (Err fault) e = absurd (cc)

-- sizes of two parts together
parts_size : (l : Layout) (place k : ℕ) (a b : List ℕ) → place < k → k ≤ l.count → length a ≡ (k - place) * l.size → length b ≡ (l.count - k) * l.size → length (a ++ b) ≡ (l.count - place) * l.size
parts_size l place k a b behind room first rest =
    let d : l.count - place ≡ (k - place) + (l.count - k) = omega arith in
    let more : ((k - place) + (l.count - k)) * l.size ≡ (k - place) * l.size + (l.count - k) * l.size = omega arith in
    rw (length-append, first, rest, d, more) refl

-- what the lines behind some entry say
abbrev Sized : Option ℕ → List Command → Layout → List Numbered → Type 0
Sized epoch cs l lines = (place n : ℕ) (bytes : List ℕ) → place ≤ l.count → entries_said epoch cs l place n lines ≡ Ok bytes → length bytes ≡ (l.count - place) * l.size

then_size : (epoch : Option ℕ) (cs : List Command) (l : Layout) (place m : ℕ) (ws : List (List ℕ)) (more : List Numbered) (bytes : List ℕ) → IsLayout l → Sized epoch cs l more → (r : Result Placed LineFault) → entry_said epoch cs l place ws ≡ r → then_entries m r (λ k. entries_said epoch cs l k (m + 1) more) ≡ Ok bytes → length bytes ≡ (l.count - place) * l.size
then_size epoch cs l place m ws more bytes is behind (Err fault) said e = absurd (cc)
then_size epoch cs l place m ws more bytes is behind (Ok p) said e =
    let entry = entry_is epoch cs l place p ws is said in
    let parts = front_parts p.bytes bytes (entries_said epoch cs l p.number (m + 1) more) e in
    rw (parts.2) (parts_size l place p.number p.bytes parts.0 entry.behind entry.room entry.size (behind p.number (m + 1) parts.0 entry.room parts.1))

line_size : (epoch : Option ℕ) (cs : List Command) (l : Layout) (line : Numbered) (more : List Numbered) → IsLayout l → Sized epoch cs l more → (place n : ℕ) (bytes : List ℕ) → (b : Bool) → is_end line.words ≡ b → entries_said epoch cs l place n (line ∷ more) ≡ Ok bytes → length bytes ≡ (l.count - place) * l.size
line_size epoch cs l line more is behind place n bytes true end e =
    ended_size l place line.number (behind_first line.words) more bytes (sym (entries_end epoch cs l place n line.number line.words (line ∷ more) more refl end) ∙ e)
line_size epoch cs l line more is behind place n bytes false end e =
    then_size epoch cs l place line.number line.words more bytes is behind (entry_said epoch cs l place line.words) refl (sym (entries_line epoch cs l place n line.number line.words (line ∷ more) more refl end) ∙ e)

sized_lines : (epoch : Option ℕ) (cs : List Command) (l : Layout) → IsLayout l → (lines : List Numbered) → Sized epoch cs l lines
sized_lines epoch cs l is [] = λ place n bytes room e. absurd (let other : Err (fault_on n faults.End) ≡ Ok bytes = sym (entries_nil epoch cs l place n [] refl) ∙ e in cc)
sized_lines epoch cs l is (line ∷ more) = λ place n bytes room e. line_size epoch cs l line more is (sized_lines epoch cs l is more) place n bytes (is_end line.words) refl e

-- what a text says has as many bytes as all entries together
pub entries_size : (epoch : Option ℕ) (cs : List Command) (l : Layout) (n : ℕ) (lines : List Numbered) (bytes : List ℕ) → is_layout l ≡ true → entries_said epoch cs l 0 n lines ≡ Ok bytes → length bytes ≡ l.count * l.size
entries_size epoch cs l n lines bytes good said =
    let d : l.count - 0 ≡ l.count = omega arith in
    sized_lines epoch cs l (layout_is l good) lines 0 n bytes (omega arith) said ∙ ap (λ (k : ℕ). k * l.size) d
