-- The line that says an entry, and the bytes that a whole text gives this entry.
use Rattle.std.proofs.Common.{◌≡◌, ℕ, ◌+◌, ◌-◌, ◌*◌, ◌<◌, ◌≤◌, Bool, true, false, List, [], ◌∷◌, ◌++◌, length, take, drop, Option, Some, None, refl, ap, sym, subst, ◌∙◌, arith, append_assoc, length-append, drop-drop, take_at, drop_at}
use Rattle.std.specs.Prelude.{◌==◌, nat_lt, nat_le, codes, Result, Ok, Err, replicate}
use Rattle.std.specs.Str.{bytes_eq}
use Rattle.std.proofs.lemmas.Bool.Decides.{nat_tests}
use Rattle.std.proofs.lemmas.List.{length-replicate}
use Rattle.std.proofs.lemmas.Slice.Eq.{bytes_eq-Decides}
use Rattle.row_forms.specs.Words.{hex_said, number, digits}
use Rattle.row_forms.specs.Rows.{with_front}
use Rattle.telecommands.specs.declared.command.Command.{Command}
use Rattle.table_texts.specs.declared.fault.LineFault.{LineFault}
use Rattle.table_texts.specs.declared.fault.LineFault.TheVariants as faults
use Rattle.table_texts.specs.declared.fault.TextFault.{TextFault}
use Rattle.table_texts.specs.declared.layout.Layout.{Layout}
use Rattle.table_texts.specs.Lines.{Numbered}
use Rattle.table_texts.specs.Entries.{Placed, is_layout, behind_gap, sized, block_placed, row_placed, number_said, at_row, at_block, raw_said, entry_said, left_out, then_entries, entries_said, values_said}
use Rattle.table_texts.specs.Endings.{ended, is_end, behind_first}
use Rattle.table_texts.proofs.EntryLemmas.{entry_none, entry_raw, entry_row, entries_end, entries_line}
use Rattle.table_texts.proofs.SizeLemmas.{entries_size}
use Rattle.entry_lines.specs.declared.words.Sought.TheVariants.{Entry}
use Rattle.entry_lines.specs.Words.{is_number, says, entry_said_in}
use Rattle.entry_lines.specs.Found.{line_saying}
use Rattle.entry_lines.proofs.FoundLemmas.{saying_none, saying_here, saying_later}

-- ---- the number that words say

entry_in_row : (w : List ℕ) (ws : List (List ℕ)) → bytes_eq w (codes "raw") ≡ false → entry_said_in (w ∷ ws) ≡ number 65535 w
unfolding entry_said_in
entry_in_row w ws other = rw other refl

entry_in_raw : (w v : List ℕ) (ws : List (List ℕ)) → bytes_eq w (codes "raw") ≡ true → entry_said_in (w ∷ v ∷ ws) ≡ number 65535 v
unfolding entry_said_in
entry_in_raw w v ws raw = rw raw refl

end_alone : (ws : List (List ℕ)) → entry_said_in (codes "end" ∷ ws) ≡ None
unfolding entry_said_in number digits
end_alone ws = refl

-- `end` says no entry
end_says_none : (ws : List (List ℕ)) → is_end ws ≡ true → entry_said_in ws ≡ None
end_says_none [] e = absurd (cc)
end_says_none (w ∷ ws) e = let same : w ≡ codes "end" = (bytes_eq-Decides w (codes "end")).0 e in rw same (end_alone ws)

ok_same : (j k : ℕ) → ◌≡◌ {A = Result ℕ LineFault} (Ok j) (Ok k) → j ≡ k
ok_same j k e = cc

-- a number that may stand behind another one, and which one it is
record IsNumber (l : Layout) (place k : ℕ) (o : Option ℕ) : Type 0 where
  is : o ≡ Some k
  some : 0 < k
  behind : place < k
  room : k ≤ l.count

number_one : (l : Layout) (place j k : ℕ) (a b c : Bool) → nat_lt 0 j ≡ a → nat_le j l.count ≡ b → nat_lt place j ≡ c → number_said l place (Some j) ≡ Ok k → IsNumber l place k (Some j)
number_one l place j k true true true f g h e =
    let said : number_said l place (Some j) ≡ Ok j = rw (f, g, h) refl in
    let same : j ≡ k = ok_same j k (sym said ∙ e) in
    record {
      is = ap Some same;
      some = rw (← same) (grind (arith, nat_tests));
      behind = rw (← same) (grind (arith, nat_tests));
      room = rw (← same) (grind (arith, nat_tests));
    }
number_one l place j k true true false f g h e = absurd (let other : Err faults.Order ≡ Ok k = sym (rw (f, g, h) refl) ∙ e in cc)
number_one l place j k true false c f g h e = absurd (let other : Err faults.Entry ≡ Ok k = sym (rw (f, g) refl) ∙ e in cc)
number_one l place j k false b c f g h e = absurd (let other : Err faults.Entry ≡ Ok k = sym (rw f refl) ∙ e in cc)

number_is : (l : Layout) (place k : ℕ) (o : Option ℕ) → number_said l place o ≡ Ok k → IsNumber l place k o
number_is l place k None e = absurd (cc)
number_is l place k (Some j) e = number_one l place j k (nat_lt 0 j) (nat_le j l.count) (nat_lt place j) refl refl refl e

-- it may stand behind any lower number
number_again : (l : Layout) (a k : ℕ) → 0 < k → k ≤ l.count → a < k → number_said l a (Some k) ≡ Ok k
number_again l a k some room behind =
    let x : nat_lt 0 k ≡ true = grind (arith, nat_tests) in
    let y : nat_le k l.count ≡ true = grind (arith, nat_tests) in
    let z : nat_lt a k ≡ true = grind (arith, nat_tests) in
    rw (x, y, z) refl

-- ---- the words of an entry

-- words that say an entry, whichever one stands before it
record SaysEntry (epoch : Option ℕ) (cs : List Command) (l : Layout) (place : ℕ) (p : Placed) (ws : List (List ℕ)) : Type 0 where
  k : ℕ
  row : List ℕ
  is : p ≡ record { number = k; bytes = behind_gap l place k row }
  some : 0 < k
  behind : place < k
  room : k ≤ l.count
  number : entry_said_in ws ≡ Some k
  again : (a : ℕ) → a < k → entry_said epoch cs l a ws ≡ Ok (record { number = k; bytes = behind_gap l a k row })

ok_placed : (p q : Placed) → ◌≡◌ {A = Result Placed LineFault} (Ok q) (Ok p) → p ≡ q
ok_placed p q e = let same : q ≡ p = cc in sym same

row_says : (epoch : Option ℕ) (cs : List Command) (l : Layout) (place k : ℕ) (p : Placed) (w : List ℕ) (ws : List (List ℕ)) → bytes_eq w (codes "raw") ≡ false → IsNumber l place k (number 65535 w) → (v : Result (List ℕ) LineFault) → values_said epoch cs l ws ≡ v → row_placed l place k v ≡ Ok p → SaysEntry epoch cs l place p (w ∷ ws)
row_says epoch cs l place k p w ws other n (Err fault) f e = absurd (cc)
row_says epoch cs l place k p w ws other n (Ok row) f e =
    let some = n.some in
    let room = n.room in
    record {
      k = k;
      row = row;
      is = ok_placed p (record { number = k; bytes = behind_gap l place k row }) e;
      some = n.some;
      behind = n.behind;
      room = n.room;
      number = entry_in_row w ws other ∙ n.is;
      again = λ a before.
          entry_row epoch cs l a (w ∷ ws) w ws refl other
          ∙ ap (λ (r : Result ℕ LineFault). at_row epoch cs l a r ws) (ap (number_said l a) n.is ∙ number_again l a k some room before)
          ∙ ap (row_placed l a k) f;
    }

at_row_says : (epoch : Option ℕ) (cs : List Command) (l : Layout) (place : ℕ) (p : Placed) (w : List ℕ) (ws : List (List ℕ)) → bytes_eq w (codes "raw") ≡ false → (r : Result ℕ LineFault) → number_said l place (number 65535 w) ≡ r → at_row epoch cs l place r ws ≡ Ok p → SaysEntry epoch cs l place p (w ∷ ws)
at_row_says epoch cs l place p w ws other (Err fault) n e = absurd (cc)
at_row_says epoch cs l place p w ws other (Ok k) n e = row_says epoch cs l place k p w ws other (number_is l place k (number 65535 w) n) (values_said epoch cs l ws) refl e

-- all bytes of an entry
record IsBlock (l : Layout) (place k : ℕ) (p : Placed) (ws : List (List ℕ)) : Type 0 where
  bytes : List ℕ
  is : p ≡ record { number = k; bytes = behind_gap l place k bytes }
  again : (a : ℕ) → block_placed l a k ws ≡ Ok (record { number = k; bytes = behind_gap l a k bytes })

sized_one : (l : Layout) (place k : ℕ) (p : Placed) (w bytes : List ℕ) → hex_said w ≡ Some bytes → (b : Bool) → (length bytes == l.size) ≡ b → sized l place k (Some bytes) ≡ Ok p → IsBlock l place k p (w ∷ [])
sized_one l place k p w bytes h true f e = record {
  bytes = bytes;
  is = ok_placed p (record { number = k; bytes = behind_gap l place k bytes }) (sym (rw f refl) ∙ e);
  again = λ a. ap (sized l a k) h ∙ rw f refl;
}
sized_one l place k p w bytes h false f e = absurd (let other : Err faults.Size ≡ Ok p = sym (rw f refl) ∙ e in cc)

sized_is : (l : Layout) (place k : ℕ) (p : Placed) (w : List ℕ) (o : Option (List ℕ)) → hex_said w ≡ o → sized l place k o ≡ Ok p → IsBlock l place k p (w ∷ [])
sized_is l place k p w None h e = absurd (cc)
sized_is l place k p w (Some bytes) h e = sized_one l place k p w bytes h (length bytes == l.size) refl e

block_is : (l : Layout) (place k : ℕ) (p : Placed) (ws : List (List ℕ)) → block_placed l place k ws ≡ Ok p → IsBlock l place k p ws
block_is l place k p [] e = absurd (cc)
block_is l place k p (w ∷ []) e = sized_is l place k p w (hex_said w) refl e
block_is l place k p (w ∷ v ∷ ws) e = absurd (cc)

at_block_says : (epoch : Option ℕ) (cs : List Command) (l : Layout) (place : ℕ) (p : Placed) (w v : List ℕ) (ws : List (List ℕ)) → bytes_eq w (codes "raw") ≡ true → (r : Result ℕ LineFault) → number_said l place (number 65535 v) ≡ r → at_block l place r ws ≡ Ok p → SaysEntry epoch cs l place p (w ∷ v ∷ ws)
at_block_says epoch cs l place p w v ws raw (Err fault) n e = absurd (cc)
at_block_says epoch cs l place p w v ws raw (Ok k) n e =
    let is = number_is l place k (number 65535 v) n in
    let some = is.some in
    let room = is.room in
    let block = block_is l place k p ws e in
    record {
      k = k;
      row = block.bytes;
      is = block.is;
      some = is.some;
      behind = is.behind;
      room = is.room;
      number = entry_in_raw w v ws raw ∙ is.is;
      again = λ a before.
          entry_raw epoch cs l a (w ∷ v ∷ ws) w (v ∷ ws) refl raw
          ∙ ap (λ (r : Result ℕ LineFault). at_block l a r ws) (ap (number_said l a) is.is ∙ number_again l a k some room before)
          ∙ block.again a;
    }

raw_says : (epoch : Option ℕ) (cs : List Command) (l : Layout) (place : ℕ) (p : Placed) (w : List ℕ) (ws : List (List ℕ)) → bytes_eq w (codes "raw") ≡ true → raw_said l place ws ≡ Ok p → SaysEntry epoch cs l place p (w ∷ ws)
raw_says epoch cs l place p w [] raw e = absurd (cc)
raw_says epoch cs l place p w (v ∷ ws) raw e = at_block_says epoch cs l place p w v ws raw (number_said l place (number 65535 v)) refl e

entry_one : (epoch : Option ℕ) (cs : List Command) (l : Layout) (place : ℕ) (p : Placed) (w : List ℕ) (ws : List (List ℕ)) → (b : Bool) → bytes_eq w (codes "raw") ≡ b → entry_said epoch cs l place (w ∷ ws) ≡ Ok p → SaysEntry epoch cs l place p (w ∷ ws)
entry_one epoch cs l place p w ws true raw e = raw_says epoch cs l place p w ws raw (sym (entry_raw epoch cs l place (w ∷ ws) w ws refl raw) ∙ e)
entry_one epoch cs l place p w ws false raw e = at_row_says epoch cs l place p w ws raw (number_said l place (number 65535 w)) refl (sym (entry_row epoch cs l place (w ∷ ws) w ws refl raw) ∙ e)

entry_says : (epoch : Option ℕ) (cs : List Command) (l : Layout) (place : ℕ) (p : Placed) (ws : List (List ℕ)) → entry_said epoch cs l place ws ≡ Ok p → SaysEntry epoch cs l place p ws
entry_says epoch cs l place p [] e = absurd (let other : Err faults.Entry ≡ Ok p = sym (entry_none epoch cs l place [] refl) ∙ e in cc)
entry_says epoch cs l place p (w ∷ ws) e = entry_one epoch cs l place p w ws (bytes_eq w (codes "raw")) refl e

-- ---- how many bytes they say

not_end_by : (ws : List (List ℕ)) (k : ℕ) (b : Bool) → is_end ws ≡ b → entry_said_in ws ≡ Some k → is_end ws ≡ false
not_end_by ws k true f e = absurd (let other : None ≡ Some k = sym (end_says_none ws f) ∙ e in cc)
not_end_by ws k false f e = f

not_end : (ws : List (List ℕ)) (k : ℕ) → entry_said_in ws ≡ Some k → is_end ws ≡ false
not_end ws k e = not_end_by ws k (is_end ws) refl e

-- a text of one entry
abbrev lines_with : List (List ℕ) → List Numbered
lines_with ws = record { number = 0; words = ws } ∷ record { number = 1; words = codes "end" ∷ [] } ∷ []

alone : (epoch : Option ℕ) (cs : List Command) (l : Layout) (k : ℕ) (ws : List (List ℕ)) (row : List ℕ) → is_end ws ≡ false → entry_said epoch cs l 0 ws ≡ Ok (record { number = k; bytes = behind_gap l 0 k row }) → entries_said epoch cs l 0 0 (lines_with ws) ≡ Ok (behind_gap l 0 k row ++ left_out l k)
alone epoch cs l k ws row other said =
    let ends : List Numbered = record { number = 1; words = codes "end" ∷ [] } ∷ [] in
    entries_line epoch cs l 0 0 0 ws (lines_with ws) ends refl other
    ∙ ap (λ (r : Result Placed LineFault). then_entries 0 r (λ j. entries_said epoch cs l j 1 ends)) said
    ∙ ap (with_front (behind_gap l 0 k row)) (entries_end epoch cs l k 1 1 (codes "end" ∷ []) ends [] refl refl)

row_long : (count k s long : ℕ) → 0 < k → k ≤ count → ((k - 1 - 0) * s + long) + (count - k) * s ≡ count * s → long ≡ s
row_long count k s long some room e =
    let d : count ≡ ((k - 1 - 0) + 1) + (count - k) = omega arith in
    let all : count * s ≡ (((k - 1 - 0) + 1) + (count - k)) * s = ap (λ (m : ℕ). m * s) d in
    let more : (((k - 1 - 0) + 1) + (count - k)) * s ≡ ((k - 1 - 0) * s + s) + (count - k) * s = omega arith in
    omega (arith, e, all, more)

-- an entry has as many bytes as the layout says, since a text of it alone has as many as all entries
row_size : (epoch : Option ℕ) (cs : List Command) (l : Layout) (k : ℕ) (ws : List (List ℕ)) (row : List ℕ) → is_layout l ≡ true → 0 < k → k ≤ l.count → entry_said_in ws ≡ Some k → entry_said epoch cs l 0 ws ≡ Ok (record { number = k; bytes = behind_gap l 0 k row }) → length row ≡ l.size
row_size epoch cs l k ws row good some room n said =
    let whole = entries_size epoch cs l 0 (lines_with ws) (behind_gap l 0 k row ++ left_out l k) good (alone epoch cs l k ws row (not_end ws k n) said) in
    let parts : length (behind_gap l 0 k row ++ left_out l k) ≡ ((k - 1 - 0) * l.size + length row) + (l.count - k) * l.size = rw (length-append, length-append, length-replicate, length-replicate) refl in
    row_long l.count k l.size (length row) some room (sym parts ∙ whole)

-- ---- its bytes among those of all entries

-- an entry behind some bytes and before others
own_bytes : (gap row rest : List ℕ) (g s : ℕ) → length gap ≡ g → length row ≡ s → take s (drop g ((gap ++ row) ++ rest)) ≡ row
own_bytes gap row rest g s a b =
    ap (λ (xs : List ℕ). take s (drop g xs)) (append_assoc gap row rest)
    ∙ ap (take s) (drop_at gap (row ++ rest) g a)
    ∙ take_at row rest s b

later_bytes : (front rest : List ℕ) (g a b : ℕ) → length front ≡ a → g ≡ a + b → drop g (front ++ rest) ≡ drop b rest
later_bytes front rest g a b long e =
    ap (λ (n : ℕ). drop n (front ++ rest)) e ∙ sym (drop-drop b a (front ++ rest)) ∙ ap (drop b) (drop_at front rest a long)

no_gap : (l : Layout) (k : ℕ) (row : List ℕ) → behind_gap l (k - 1) k row ≡ row
no_gap l k row =
    let none : (k - 1 - (k - 1)) * l.size ≡ 0 = (let z : k - 1 - (k - 1) ≡ 0 = omega arith in rw z (omega arith)) in
    ap (λ (m : ℕ). replicate m 0 ++ row) none

gap_size : (l : Layout) (place k : ℕ) (row : List ℕ) → place < k → length row ≡ l.size → length (behind_gap l place k row) ≡ (k - place) * l.size
gap_size l place k row behind long =
    let d : k - place ≡ (k - 1 - place) + 1 = omega arith in
    let more : ((k - 1 - place) + 1) * l.size ≡ (k - 1 - place) * l.size + l.size = omega arith in
    rw (length-append, length-replicate, long, d, more) refl

-- what lines behind entry `place` give entry e, which one of them says
record GivesLine (epoch : Option ℕ) (cs : List Command) (l : Layout) (place e : ℕ) (bytes : List ℕ) (line : Numbered) : Type 0 where
  behind : place < e
  room : e ≤ l.count
  said : entry_said epoch cs l (e - 1) line.words ≡ Ok (record { number = e; bytes = take l.size (drop ((e - 1 - place) * l.size) bytes) })

here_gives : (epoch : Option ℕ) (cs : List Command) (l : Layout) (place : ℕ) (p : Placed) (line : Numbered) (rest bytes : List ℕ) → is_layout l ≡ true → (s : SaysEntry epoch cs l place p line.words) → bytes ≡ p.bytes ++ rest → GivesLine epoch cs l place s.k bytes line
here_gives epoch cs l place p line rest bytes good s e =
    let some = s.some in
    let g = (s.k - 1 - place) * l.size in
    let long = row_size epoch cs l s.k line.words s.row good s.some s.room s.number (s.again 0 s.some) in
    let whole : bytes ≡ behind_gap l place s.k s.row ++ rest = e ∙ ap (λ (q : Placed). q.bytes ++ rest) s.is in
    let own : take l.size (drop g bytes) ≡ s.row = ap (λ (xs : List ℕ). take l.size (drop g xs)) whole ∙ own_bytes (replicate g 0) s.row rest g l.size (length-replicate g 0) long in
    record {
      behind = s.behind;
      room = s.room;
      said = s.again (s.k - 1) (omega (arith, some)) ∙ ap (λ (xs : List ℕ). Ok (record { number = s.k; bytes = xs })) (no_gap l s.k s.row ∙ sym own);
    }

later_gives : (epoch : Option ℕ) (cs : List Command) (l : Layout) (place e : ℕ) (p : Placed) (ws : List (List ℕ)) (line : Numbered) (rest bytes : List ℕ) → is_layout l ≡ true → (s : SaysEntry epoch cs l place p ws) → bytes ≡ p.bytes ++ rest → GivesLine epoch cs l s.k e rest line → GivesLine epoch cs l place e bytes line
later_gives epoch cs l place e p ws line rest bytes good s whole given =
    let k = s.k in
    let first = s.behind in
    let then = given.behind in
    let long = row_size epoch cs l k ws s.row good s.some s.room s.number (s.again 0 s.some) in
    let parts : bytes ≡ behind_gap l place k s.row ++ rest = whole ∙ ap (λ (q : Placed). q.bytes ++ rest) s.is in
    let d : e - 1 - place ≡ (k - place) + (e - 1 - k) = omega (arith, first, then) in
    let sum : (e - 1 - place) * l.size ≡ (k - place) * l.size + (e - 1 - k) * l.size = (let m : ((k - place) + (e - 1 - k)) * l.size ≡ (k - place) * l.size + (e - 1 - k) * l.size = omega arith in ap (λ (j : ℕ). j * l.size) d ∙ m) in
    let same : drop ((e - 1 - place) * l.size) bytes ≡ drop ((e - 1 - k) * l.size) rest = ap (drop ((e - 1 - place) * l.size)) parts ∙ later_bytes (behind_gap l place k s.row) rest ((e - 1 - place) * l.size) ((k - place) * l.size) ((e - 1 - k) * l.size) (gap_size l place k s.row first long) sum in
    record {
      behind = omega (arith, first, then);
      room = given.room;
      said = given.said ∙ ap (λ (xs : List ℕ). Ok (record { number = e; bytes = take l.size xs })) (sym same);
    }

-- ---- all lines

pub front_parts : (front bytes : List ℕ) (r : Result (List ℕ) TextFault) → with_front front r ≡ Ok bytes → (rest : List ℕ) × (r ≡ Ok rest) × (bytes ≡ front ++ rest)
front_parts front bytes (Ok rest) e = (rest, refl, sym (ap all_or e)) where
  all_or : Result (List ℕ) TextFault → List ℕ
  all_or (Ok bytes) = bytes
  all_or (Err fault) = []
front_parts front bytes (Err fault) e = absurd (cc)

pub some_line : (a b : Numbered) → ◌≡◌ {A = Option Numbered} (Some a) (Some b) → a ≡ b
some_line a b e = cc

-- what lines give entry e, where this one of them says it
abbrev Gives : Option ℕ → List Command → Layout → ℕ → Numbered → List Numbered → Type 0
Gives epoch cs l e line lines = (place n : ℕ) (bytes : List ℕ) → entries_said epoch cs l place n lines ≡ Ok bytes → line_saying (Entry e) lines ≡ Some line → GivesLine epoch cs l place e bytes line

says_this : (e k : ℕ) (ws : List (List ℕ)) (b : Bool) → entry_said_in ws ≡ Some k → (k == e) ≡ b → says (Entry e) ws ≡ b
says_this e k ws b n f = ap (is_number e) n ∙ f

line_gives_by : (epoch : Option ℕ) (cs : List Command) (l : Layout) (place e m : ℕ) (p : Placed) (x line : Numbered) (more : List Numbered) (rest bytes : List ℕ) → is_layout l ≡ true → Gives epoch cs l e line more → (s : SaysEntry epoch cs l place p x.words) → bytes ≡ p.bytes ++ rest → entries_said epoch cs l s.k m more ≡ Ok rest → (b : Bool) → (s.k == e) ≡ b → line_saying (Entry e) (x ∷ more) ≡ Some line → GivesLine epoch cs l place e bytes line
line_gives_by epoch cs l place e m p x line more rest bytes good behind s whole said true f found =
    let number : s.k ≡ e = grind (arith, nat_tests) in
    let here = sym (saying_here (Entry e) (x ∷ more) more x refl (says_this e s.k x.words true s.number f)) ∙ found in
    let same : x ≡ line = some_line x line here in
    subst (λ (j : ℕ). GivesLine epoch cs l place j bytes line) number (subst (λ (y : Numbered). GivesLine epoch cs l place s.k bytes y) same (here_gives epoch cs l place p x rest bytes good s whole))
line_gives_by epoch cs l place e m p x line more rest bytes good behind s whole said false f found =
    let later = sym (saying_later (Entry e) (x ∷ more) more x refl (says_this e s.k x.words false s.number f)) ∙ found in
    later_gives epoch cs l place e p x.words line rest bytes good s whole (behind s.k m rest said later)

then_gives : (epoch : Option ℕ) (cs : List Command) (l : Layout) (place e : ℕ) (x line : Numbered) (more : List Numbered) (bytes : List ℕ) → is_layout l ≡ true → Gives epoch cs l e line more → (r : Result Placed LineFault) → entry_said epoch cs l place x.words ≡ r → then_entries x.number r (λ j. entries_said epoch cs l j (x.number + 1) more) ≡ Ok bytes → line_saying (Entry e) (x ∷ more) ≡ Some line → GivesLine epoch cs l place e bytes line
then_gives epoch cs l place e x line more bytes good behind (Err fault) said all found = absurd (cc)
then_gives epoch cs l place e x line more bytes good behind (Ok p) said all found =
    let s = entry_says epoch cs l place p x.words said in
    let parts = front_parts p.bytes bytes (entries_said epoch cs l p.number (x.number + 1) more) all in
    let number : p.number ≡ s.k = ap (λ (q : Placed). q.number) s.is in
    let rest = ap (λ (j : ℕ). entries_said epoch cs l j (x.number + 1) more) (sym number) ∙ parts.1 in
    line_gives_by epoch cs l place e (x.number + 1) p x line more parts.0 bytes good behind s parts.2 rest (s.k == e) refl found

ended_alone : (l : Layout) (place n : ℕ) (ws : List (List ℕ)) (more : List Numbered) (bytes : List ℕ) → ended (left_out l place) n ws more ≡ Ok bytes → more ≡ []
ended_alone l place n (w ∷ ws) more bytes e = absurd (cc)
ended_alone l place n [] (line ∷ more) bytes e = absurd (cc)
ended_alone l place n [] [] bytes e = refl

line_gives : (epoch : Option ℕ) (cs : List Command) (l : Layout) (place n e : ℕ) (x line : Numbered) (more : List Numbered) (bytes : List ℕ) → is_layout l ≡ true → Gives epoch cs l e line more → (b : Bool) → is_end x.words ≡ b → entries_said epoch cs l place n (x ∷ more) ≡ Ok bytes → line_saying (Entry e) (x ∷ more) ≡ Some line → GivesLine epoch cs l place e bytes line
line_gives epoch cs l place n e x line more bytes good behind true end said found =
    let none = ended_alone l place x.number (behind_first x.words) more bytes (sym (entries_end epoch cs l place n x.number x.words (x ∷ more) more refl end) ∙ said) in
    let other : says (Entry e) x.words ≡ false = ap (is_number e) (end_says_none x.words end) in
    absurd (let wrong : None ≡ Some line = sym (saying_later (Entry e) (x ∷ more) more x refl other ∙ saying_none (Entry e) more none) ∙ found in cc)
line_gives epoch cs l place n e x line more bytes good behind false end said found =
    then_gives epoch cs l place e x line more bytes good behind (entry_said epoch cs l place x.words) refl (sym (entries_line epoch cs l place n x.number x.words (x ∷ more) more refl end) ∙ said) found

lines_give : (epoch : Option ℕ) (cs : List Command) (l : Layout) (e : ℕ) (line : Numbered) → is_layout l ≡ true → (lines : List Numbered) → Gives epoch cs l e line lines
lines_give epoch cs l e line good [] = λ place n bytes said found. absurd (let wrong : None ≡ Some line = sym (saying_none (Entry e) [] refl) ∙ found in cc)
lines_give epoch cs l e line good (x ∷ more) = λ place n bytes said found. line_gives epoch cs l place n e x line more bytes good (lines_give epoch cs l e line good more) (is_end x.words) refl said found

-- the line that says an entry has the words of that entry, with the bytes that the whole text gives it
pub line_is_said : (epoch : Option ℕ) (cs : List Command) (l : Layout) (n e : ℕ) (lines : List Numbered) (bytes : List ℕ) (line : Numbered) → is_layout l ≡ true → entries_said epoch cs l 0 n lines ≡ Ok bytes → line_saying (Entry e) lines ≡ Some line → entry_said epoch cs l (e - 1) line.words ≡ Ok (record { number = e; bytes = take l.size (drop ((e - 1) * l.size) bytes) })
line_is_said epoch cs l n e lines bytes line good said found =
    let given = lines_give epoch cs l e line good lines 0 n bytes said found in
    let d : e - 1 - 0 ≡ e - 1 = omega arith in
    given.said ∙ ap (λ (j : ℕ). Ok (record { number = e; bytes = take l.size (drop (j * l.size) bytes) })) d
