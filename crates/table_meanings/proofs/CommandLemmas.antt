-- Lemmas on the commands of sequences.
use Rattle.std.proofs.Common.{◌≡◌, ℕ, zero, suc, ◌+◌, ◌-◌, ◌<◌, ◌≤◌, Bool, true, false, List, [], ◌∷◌, ◌++◌, length, drop, Option, Some, None, refl, ap, sym, ◌∙◌, arith, append_assoc, append-nil, length-append, length-drop}
use Rattle.std.specs.Prelude.{codes, option_map, Result, Ok, Err}
use Rattle.std.specs.Str.{bytes_eq}
use Rattle.std.proofs.lemmas.List.{drop_at}
use Rattle.row_forms.specs.declared.field.Field.{Field}
use Rattle.row_forms.specs.Words.{hex_said}
use Rattle.telecommands.specs.declared.command.Command.{Command}
use Rattle.telecommands.proofs.CommandLemmas.{same_bytes}
use Rattle.table_files.specs.declared.fault.EntryFault.{EntryFault}
use Rattle.table_texts.specs.declared.fault.LineFault.{LineFault}
use Rattle.table_texts.specs.declared.fault.TextFault.{TextFault}
use Rattle.table_texts.specs.Lines.{Numbered}
use Rattle.table_texts.specs.Endings.{ended, is_end, behind_first}
use Rattle.table_texts.specs.Sequences.{bytes_said, some_bytes, item_said, then_item, sequence_said}
use Rattle.table_texts.proofs.SequenceLemmas.{item_raw, sequence_end, sequence_line}
use Rattle.sc_tables.specs.Grammar.{EntryForm, read_from, read_of, unless_refused}
use Rattle.sc_tables.specs.Grammar as grammar
use Rattle.sc_tables.proofs.Progress.{from_end, from_entry, some_left}
use Rattle.sc_tables.proofs.Spelled.{IsTaken}
use Rattle.table_forms.specs.Payloads.{begins}
use Rattle.table_meanings.specs.Sequences.{command_meant, raw_said, line_bytes, bytes_before, bytes_meant, Parted, parted, command_before, sequence_meant, commands_read}

-- ---- what a sequence's loader reads, for every kind of command

-- what is asked of a command that a line says: it isn't the end, and where the loader has no reason to refuse it, it reads it
pub record IsRead {E : Type 0} (form : EntryForm E) (spelled : E → List ℕ) (e : E) : Type 0 where
  pub going : (rest : List ℕ) → grammar.is_end (spelled e ++ rest) ≡ false
  pub taken : (done : List E) (rest : List ℕ) → form.reason done (spelled e ++ rest) ≡ None → IsTaken form spelled done e rest

-- what a line means
pub record IsItem {E : Type 0} (form : EntryForm E) (spelled : E → List ℕ) (said : List (List ℕ) → Option E) (ws : List (List ℕ)) (bytes : List ℕ) : Type 0 where
  pub command : E
  pub meant : command_meant said ws ≡ Some command
  pub bytes_are : spelled command ≡ bytes
  pub read : IsRead form spelled command

-- what lines mean behind commands that are read: more commands, and bytes in which the loader reads the others
record IsMeant {E : Type 0} (form : EntryForm E) (spelled : E → List ℕ) (said : List (List ℕ) → Option E) (lines : List Numbered) (done entries : List E) : Type 0 where
  commands : List E
  bytes : List ℕ
  meant : sequence_meant said spelled lines ≡ Some (parted commands bytes)
  read : read_from form (length bytes) (done ++ commands) bytes ≡ Ok entries

reason_none : {E : Type 0} (form : EntryForm E) (done : List E) (bytes : List ℕ) (read : Result (List E) EntryFault) (entries : List E) → unless_refused done (form.reason done bytes) read ≡ Ok entries → form.reason done bytes ≡ None
reason_none form done bytes read entries = elim (form.reason done bytes) as (λ o. unless_refused done o read ≡ Ok entries → o ≡ None) [
  | None ↦ λ e. refl
  | Some reason ↦ λ e. absurd (cc)
]

refused_by : {E : Type 0} (form : EntryForm E) (most : ℕ) (done : List E) (bytes : List ℕ) (entries : List E) → grammar.is_end bytes ≡ false → read_from form (suc most) done bytes ≡ Ok entries → form.reason done bytes ≡ None
unfolding read_from
refused_by form most done bytes entries going e =
    reason_none form done bytes (read_from form most (done ++ form.entry bytes ∷ []) (drop (form.size bytes) bytes)) entries (sym (rw going refl) ∙ e)

-- one command is read, and others behind it
read_step : {E : Type 0} (form : EntryForm E) (spelled : E → List ℕ) (most : ℕ) (done : List E) (c : E) (rest : List ℕ) (entries : List E) → IsRead form spelled c → read_from form (suc most) done (spelled c ++ rest) ≡ Ok entries → read_from form most (done ++ c ∷ []) rest ≡ Ok entries
read_step form spelled most done c rest entries is e =
    let going = is.going rest in
    let taken = is.taken done rest (refused_by form most done (spelled c ++ rest) entries going e) in
    let one : suc most ≡ most + 1 = omega arith in
    let cut : drop (length (spelled c)) (spelled c ++ rest) ≡ rest = drop_at (spelled c) rest (length (spelled c)) refl in
    let step : read_from form (suc most) done (spelled c ++ rest) ≡ read_from form most (done ++ c ∷ []) rest =
    rw one (from_entry form most done (spelled c ++ rest) taken.going taken.sound ∙ rw (taken.entry, taken.size, cut) refl) in
    sym step ∙ e

some_read : {E : Type 0} (form : EntryForm E) (spelled : E → List ℕ) (c : E) (rest : List ℕ) → IsRead form spelled c → 0 < length (spelled c ++ rest)
some_read form spelled c rest is = some_left (spelled c ++ rest) (is.going rest)

-- ---- the lines

item_parts : (m : ℕ) (item : Result (List ℕ) LineFault) (said : Result (List ℕ) TextFault) (bytes : List ℕ) → then_item m item said ≡ Ok bytes → (value : List ℕ) × (rest : List ℕ) × (item ≡ Ok value) × (said ≡ Ok rest) × (value ++ rest ≡ bytes)
item_parts m (Ok value) (Ok rest) bytes e = (value, rest, refl, refl, cc)
item_parts m (Ok value) (Err fault) bytes e = absurd (cc)
item_parts m (Err fault) said bytes e = absurd (cc)

nothing_left : (n : ℕ) (ws : List (List ℕ)) (more : List Numbered) (bytes : List ℕ) → ended [] n ws more ≡ Ok bytes → [] ≡ bytes
nothing_left n (w ∷ ws) more bytes e = absurd (cc)
nothing_left n [] (line ∷ more) bytes e = absurd (cc)
nothing_left n [] [] bytes e = cc

end_empty : grammar.is_end [] ≡ true
unfolding grammar.is_end
end_empty = refl

meant_end : {E : Type 0} (said : List (List ℕ) → Option E) (spelled : E → List ℕ) (line : Numbered) (more : List Numbered) → is_end line.words ≡ true → sequence_meant said spelled (line ∷ more) ≡ Some (parted [] [])
unfolding sequence_meant
meant_end said spelled line more end = rw end refl

meant_raw : {E : Type 0} (said : List (List ℕ) → Option E) (spelled : E → List ℕ) (line : Numbered) (more : List Numbered) → is_end line.words ≡ false → begins (codes "raw") line.words ≡ true → sequence_meant said spelled (line ∷ more) ≡ option_map (parted []) (bytes_meant said spelled (line ∷ more))
unfolding sequence_meant
meant_raw said spelled line more end raw = rw (end, raw) refl

meant_line : {E : Type 0} (said : List (List ℕ) → Option E) (spelled : E → List ℕ) (line : Numbered) (more : List Numbered) → is_end line.words ≡ false → begins (codes "raw") line.words ≡ false → sequence_meant said spelled (line ∷ more) ≡ command_before (command_meant said line.words) (sequence_meant said spelled more)
unfolding sequence_meant
meant_line said spelled line more end plain = rw (end, plain) refl

bytes_end : {E : Type 0} (said : List (List ℕ) → Option E) (spelled : E → List ℕ) (line : Numbered) (more : List Numbered) → is_end line.words ≡ true → bytes_meant said spelled (line ∷ more) ≡ Some []
unfolding bytes_meant
bytes_end said spelled line more end = rw end refl

bytes_line : {E : Type 0} (said : List (List ℕ) → Option E) (spelled : E → List ℕ) (line : Numbered) (more : List Numbered) → is_end line.words ≡ false → bytes_meant said spelled (line ∷ more) ≡ bytes_before (line_bytes said spelled line.words) (bytes_meant said spelled more)
unfolding bytes_meant
bytes_line said spelled line more end = rw end refl

-- the bytes of a line `raw`
some_said : (o : Option (List ℕ)) (value : List ℕ) → some_bytes o ≡ Ok value → o ≡ Some value
some_said (Some bytes) value e = let same : bytes ≡ value = cc in ap Some same
some_said None value e = absurd (cc)

said_raw : (ws : List (List ℕ)) (value : List ℕ) → bytes_said ws ≡ Ok value → raw_said ws ≡ Some value
said_raw [] value e = absurd (cc)
said_raw (w ∷ []) value e = some_said (hex_said w) value e
said_raw (w ∷ v ∷ ws) value e = absurd (cc)

raw_named : bytes_eq (codes "raw") (codes "command") ≡ false
raw_named = refl

raw_value : (epoch : Option ℕ) (cs : List Command) (fs : List Field) (ws : List (List ℕ)) (value : List ℕ) → begins (codes "raw") ws ≡ true → item_said epoch cs fs ws ≡ Ok value → raw_said (behind_first ws) ≡ Some value
raw_value epoch cs fs [] value raw e = absurd (cc)
raw_value epoch cs fs (w ∷ ws) value raw e =
    let other : bytes_eq w (codes "command") ≡ false = ap (λ (v : List ℕ). bytes_eq v (codes "command")) (same_bytes w (codes "raw") raw) ∙ raw_named in
    said_raw ws value (sym (item_raw epoch cs fs (w ∷ ws) w ws refl other raw) ∙ e)

never_ends : (epoch : Option ℕ) (cs : List Command) (fs : List Field) (n : ℕ) (bytes : List ℕ) → sequence_said epoch cs fs n [] ≡ Ok bytes → ⊥
unfolding sequence_said
never_ends epoch cs fs n bytes e = cc

-- ---- as many entries as bytes are looked for, or more

read_on : {E : Type 0} (form : EntryForm E) (m k : ℕ) (done : List E) (bytes : List ℕ) → read_from form m (done ++ form.entry bytes ∷ []) (drop (form.size bytes) bytes) ≡ read_from form k (done ++ form.entry bytes ∷ []) (drop (form.size bytes) bytes) → read_from form (suc m) done bytes ≡ read_from form (suc k) done bytes
unfolding read_from
read_on form m k done bytes e = rw e refl

nothing_read : {E : Type 0} (form : EntryForm E) (m k : ℕ) (done : List E) (bytes : List ℕ) → length bytes ≡ 0 → read_from form m done bytes ≡ read_from form k done bytes
nothing_read form m k done [] e = from_end form m done [] end_empty ∙ sym (from_end form k done [] end_empty)
nothing_read form m k done (b ∷ bytes) e = absurd (omega (arith, e))

enough : {E : Type 0} (form : EntryForm E) → ((bytes : List ℕ) → 1 ≤ form.size bytes) → (m k : ℕ) (done : List E) (bytes : List ℕ) → length bytes ≤ m → length bytes ≤ k → read_from form m done bytes ≡ read_from form k done bytes
enough form least zero k done bytes a b = nothing_read form zero k done bytes (omega (arith, a))
enough form least (suc m) zero done bytes a b = nothing_read form (suc m) zero done bytes (omega (arith, b))
enough form least (suc m) (suc k) done bytes a b =
    let one = least bytes in
    let long : length (drop (form.size bytes) bytes) ≡ length bytes - form.size bytes = length-drop (form.size bytes) bytes in
    read_on form m k done bytes (enough form least m k (done ++ form.entry bytes ∷ []) (drop (form.size bytes) bytes) (omega (arith, one, long, a)) (omega (arith, one, long, b)))

module _ {E : Type 0} (form : EntryForm E) (spelled : E → List ℕ) (said : List (List ℕ) → Option E) (epoch : Option ℕ) (cs : List Command) (fs : List Field)
    (least : (bytes : List ℕ) → 1 ≤ form.size bytes)
    (item : (line : Numbered) (bytes : List ℕ) → begins (codes "raw") line.words ≡ false → item_said epoch cs fs line.words ≡ Ok bytes → IsItem form spelled said line.words bytes) where
  -- the bytes of what lines mean are those that they say
  line_said : (line : Numbered) (value : List ℕ) (b : Bool) → begins (codes "raw") line.words ≡ b → item_said epoch cs fs line.words ≡ Ok value → line_bytes said spelled line.words ≡ Some value
  line_said line value true raw e = rw raw (raw_value epoch cs fs line.words value raw e)
  line_said line value false raw e =
      let is = item line value raw e in
      rw raw (ap (option_map spelled) is.meant ∙ ap Some is.bytes_are)

  abbrev Says : List Numbered → Type 0
  Says lines = (n : ℕ) (bytes : List ℕ) → sequence_said epoch cs fs n lines ≡ Ok bytes → bytes_meant said spelled lines ≡ Some bytes

  says_end : (line : Numbered) (more : List Numbered) → is_end line.words ≡ true → Says (line ∷ more)
  says_end line more end n bytes e =
      let none : [] ≡ bytes = nothing_left line.number (behind_first line.words) more bytes (sym (sequence_end epoch cs fs n line.number line.words (line ∷ more) more refl end) ∙ e) in
      bytes_end said spelled line more end ∙ ap Some none

  says_line : (line : Numbered) (more : List Numbered) → Says more → is_end line.words ≡ false → Says (line ∷ more)
  says_line line more later end n bytes e =
      let parts = item_parts line.number (item_said epoch cs fs line.words) (sequence_said epoch cs fs (line.number + 1) more) bytes (sym (sequence_line epoch cs fs n line.number line.words (line ∷ more) more refl end) ∙ e) in
      let here : line_bytes said spelled line.words ≡ Some parts.0 = line_said line parts.0 (begins (codes "raw") line.words) refl parts.2 in
      let behind : bytes_meant said spelled more ≡ Some parts.1 = later (line.number + 1) parts.1 parts.3 in
      bytes_line said spelled line more end
      ∙ ap (λ (o : Option (List ℕ)). bytes_before o (bytes_meant said spelled more)) here
      ∙ ap (bytes_before (Some parts.0)) behind
      ∙ ap Some parts.4

  says_by : (line : Numbered) (more : List Numbered) (b : Bool) → is_end line.words ≡ b → Says more → Says (line ∷ more)
  says_by line more true end later = says_end line more end
  says_by line more false end later = says_line line more later end

  lines_say : (lines : List Numbered) → Says lines
  lines_say [] = λ n bytes e. absurd (never_ends epoch cs fs n bytes e)
  lines_say (line ∷ more) = says_by line more (is_end line.words) refl (lines_say more)

  -- what lines say is read as what they mean
  abbrev Reads : List Numbered → Type 0
  Reads lines = (n most : ℕ) (done entries : List E) (bytes : List ℕ) → sequence_said epoch cs fs n lines ≡ Ok bytes → read_from form most done bytes ≡ Ok entries → length bytes ≤ most → IsMeant form spelled said lines done entries

  at_end : (line : Numbered) (more : List Numbered) → is_end line.words ≡ true → Reads (line ∷ more)
  at_end line more end n most done entries bytes e read few =
      let none : [] ≡ bytes = nothing_left line.number (behind_first line.words) more bytes (sym (sequence_end epoch cs fs n line.number line.words (line ∷ more) more refl end) ∙ e) in
      record {
        commands = [];
        bytes = [];
        meant = meant_end said spelled line more end;
        read = ap (λ (es : List E). read_from form 0 es []) (append-nil done) ∙ nothing_read form 0 most done [] refl ∙ ap (read_from form most done) none ∙ read;
      }

  at_raw : (line : Numbered) (more : List Numbered) → is_end line.words ≡ false → begins (codes "raw") line.words ≡ true → Reads (line ∷ more)
  at_raw line more end raw n most done entries bytes e read few =
      record {
        commands = [];
        bytes = bytes;
        meant = meant_raw said spelled line more end raw ∙ ap (option_map (parted [])) (lines_say (line ∷ more) n bytes e);
        read = ap (λ (es : List E). read_from form (length bytes) es bytes) (append-nil done) ∙ enough form least (length bytes) most done bytes (omega arith) few ∙ read;
      }

  behind : (line : Numbered) (more : List Numbered) (m : ℕ) (done entries : List E) (bytes value rest : List ℕ) → Reads more → is_end line.words ≡ false → begins (codes "raw") line.words ≡ false → IsItem form spelled said line.words value → sequence_said epoch cs fs (line.number + 1) more ≡ Ok rest → value ++ rest ≡ bytes → read_from form (suc m) done bytes ≡ Ok entries → length bytes ≤ suc m → IsMeant form spelled said (line ∷ more) done entries
  behind line more m done entries bytes value rest later end plain is e whole read few =
      let c = is.command in
      let all : spelled c ++ rest ≡ bytes = ap (λ (xs : List ℕ). xs ++ rest) is.bytes_are ∙ whole in
      let step = read_step form spelled m done c rest entries is.read (ap (read_from form (suc m) done) all ∙ read) in
      let some : 0 < length (spelled c ++ []) = some_read form spelled c [] is.read in
      let long : length bytes ≡ length (spelled c) + length rest = ap length (sym all) ∙ length-append (spelled c) rest in
      let none : length (spelled c ++ []) ≡ length (spelled c) = ap length (append-nil (spelled c)) in
      let left : length rest ≤ m = omega (arith, some, long, none, few) in
      let others = later (line.number + 1) m (done ++ c ∷ []) entries rest e step left in
      record {
        commands = c ∷ others.commands;
        bytes = others.bytes;
        meant = meant_line said spelled line more end plain ∙ rw (is.meant, others.meant) refl;
        read = ap (λ (es : List E). read_from form (length others.bytes) es others.bytes) (sym (append_assoc done (c ∷ []) others.commands)) ∙ others.read;
      }

  at_line : (line : Numbered) (more : List Numbered) → Reads more → is_end line.words ≡ false → begins (codes "raw") line.words ≡ false → Reads (line ∷ more)
  at_line line more later end plain n zero done entries bytes e read few =
      let parts = item_parts line.number (item_said epoch cs fs line.words) (sequence_said epoch cs fs (line.number + 1) more) bytes (sym (sequence_line epoch cs fs n line.number line.words (line ∷ more) more refl end) ∙ e) in
      let is = item line parts.0 plain parts.2 in
      let some : 0 < length (spelled is.command ++ parts.1) = some_read form spelled is.command parts.1 is.read in
      let all : spelled is.command ++ parts.1 ≡ bytes = ap (λ (xs : List ℕ). xs ++ parts.1) is.bytes_are ∙ parts.4 in
      let long : length (spelled is.command ++ parts.1) ≡ length bytes = ap length all in
      absurd (omega (arith, some, long, few))
  at_line line more later end plain n (suc m) done entries bytes e read few =
      let parts = item_parts line.number (item_said epoch cs fs line.words) (sequence_said epoch cs fs (line.number + 1) more) bytes (sym (sequence_line epoch cs fs n line.number line.words (line ∷ more) more refl end) ∙ e) in
      behind line more m done entries bytes parts.0 parts.1 later end plain (item line parts.0 plain parts.2) parts.3 parts.4 read few

  by_raw : (line : Numbered) (more : List Numbered) (b : Bool) → begins (codes "raw") line.words ≡ b → Reads more → is_end line.words ≡ false → Reads (line ∷ more)
  by_raw line more true raw later end = at_raw line more end raw
  by_raw line more false raw later end = at_line line more later end raw

  by_end : (line : Numbered) (more : List Numbered) (b : Bool) → is_end line.words ≡ b → Reads more → Reads (line ∷ more)
  by_end line more true end later = at_end line more end
  by_end line more false end later = by_raw line more (begins (codes "raw") line.words) refl later end

  lines_read : (lines : List Numbered) → Reads lines
  lines_read [] = λ n most done entries bytes e read few. absurd (never_ends epoch cs fs n bytes e)
  lines_read (line ∷ more) = by_end line more (is_end line.words) refl (lines_read more)

  -- what is stored of what lines say are the commands that the lines mean, and those that are read in their bytes
  pub sequence_read : (n : ℕ) (lines : List Numbered) (entries : List E) (bytes : List ℕ) → sequence_said epoch cs fs n lines ≡ Ok bytes → read_of form bytes ≡ Ok entries → (meant : Parted E) × (sequence_meant said spelled lines ≡ Some meant) × (read_of form bytes ≡ commands_read form meant)
  unfolding read_of commands_read
  sequence_read n lines entries bytes e read =
      let is = lines_read lines n (length bytes) [] entries bytes e read (omega arith) in
      (parted is.commands is.bytes, is.meant, read ∙ sym is.read)
