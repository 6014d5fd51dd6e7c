-- Lemmas on the lines of sequences.
use Rattle.std.proofs.Common.{◌≡◌, ℕ, ◌+◌, Bool, true, false, List, [], ◌∷◌, ◌++◌, length, take, drop, map, Option, Some, refl, ap, sym, ◌∙◌, append_assoc}
use Rattle.std.specs.Prelude.{codes, Result, Ok, Err}
use Rattle.std.specs.Str.{bytes_eq}
use Rattle.packet_forms.specs.Numbers.{be16_at, be32_at, be16_bytes, be32_bytes}
use Rattle.row_forms.specs.declared.field.Field.{Field}
use Rattle.row_forms.specs.Rows.{row_said}
use Rattle.row_forms.specs.Worked.{text_at}
use Rattle.row_forms.specs.declared.field.Spelling.TheVariants as spellings
use Rattle.telecommands.specs.declared.command.Command.{Command}
use Rattle.telecommands.specs.Commands.{are_good, command_said}
use Rattle.table_texts.specs.declared.fault.LineFault.{LineFault}
use Rattle.table_texts.specs.declared.fault.LineFault.TheVariants as faults
use Rattle.table_texts.specs.Lines.{Numbered}
use Rattle.table_texts.specs.Fronts.{front_said, behind_front}
use Rattle.table_texts.specs.Sequences.{item_said}
use Rattle.table_texts.proofs.SequenceLemmas.{item_none, item_command, item_other}
use Rattle.sc_tables.specs.declared.absolute.Timed.{Timed}
use Rattle.sc_tables.specs.declared.relative.Relative.{Relative}
use Rattle.sc_tables.specs.Absolute.{timed_form}
use Rattle.sc_tables.specs.Relative.{relative_form}
use Rattle.sc_tables.specs.Spelling.{timed_spelled, relative_spelled}
use Rattle.table_forms.specs.Layouts.{all_layouts, placed_field}
use Rattle.table_forms.specs.Payloads.{begins}
use Rattle.table_meanings.specs.Meanings.{Keyed, keyed, Amount, meanings_said, meanings_in}
use Rattle.table_meanings.specs.Sequences.{timed_of, relative_of, timed_meant, relative_meant}
use Rattle.table_meanings.proofs.MeaningLemmas.{row_meanings}
use Rattle.table_meanings.proofs.FrontLemmas.{said_packet, IsStored, stored_is}
use Rattle.table_meanings.proofs.CommandLemmas.{IsItem}
use Rattle.table_meanings.proofs.TimedLemmas.{IsTimedRow, timed_row, IsRelativeRow, relative_row, timed_read, relative_read}

-- ---- absolute sequences

absolute_row : (epoch : Option ℕ) (ws : List (List ℕ)) (front : List ℕ) → row_said epoch 2 all_layouts.absolute.now ws ≡ Ok front → IsTimedRow front
unfolding all_layouts
absolute_row epoch ws front said = timed_row epoch 2 (text_at (codes "number")) (text_at (codes "time")) spellings.Decimal spellings.Time ws front said

absolute_meanings : (front : List ℕ) → meanings_in all_layouts.absolute.now front ≡ keyed (codes "number") (Amount (be16_at front 0)) ∷ keyed (codes "time") (Amount (be32_at (drop 2 front) 0)) ∷ []
unfolding all_layouts meanings_in
absolute_meanings front = refl

timed_there : (c : Timed) (front packet bytes : List ℕ) → c ≡ record { number = be16_at front 0; tag = be32_at (drop 2 front) 0; packet = packet } → IsTimedRow front → front ++ packet ≡ bytes → timed_spelled c ≡ bytes
unfolding timed_spelled
timed_there c front packet bytes e row whole =
    ap timed_spelled e
    ∙ sym (append_assoc (be16_bytes (be16_at front 0)) (be32_bytes (be32_at (drop 2 front) 0)) packet)
    ∙ ap (λ (xs : List ℕ). xs ++ packet) row.bytes_are ∙ whole

timed_stored : (epoch : Option ℕ) (cs : List Command) (w : List ℕ) (ws : List (List ℕ)) (bytes : List ℕ) → are_good cs ≡ true → bytes_eq w (codes "command") ≡ true → IsStored epoch cs all_layouts.absolute.now ws bytes → IsItem timed_form timed_spelled (timed_meant epoch cs) (w ∷ ws) bytes
unfolding all_layouts timed_meant
timed_stored epoch cs w ws bytes good named is =
    let front = is.front in
    let row = absolute_row epoch (take 2 ws) front is.said in
    let form = said_packet epoch 4 cs (drop 2 ws) is.packet good is.command in
    let command : Timed = record { number = be16_at front 0; tag = be32_at (drop 2 front) 0; packet = is.packet } in
    let meanings : meanings_said epoch all_layouts.absolute.now (take 2 ws) ≡ Some (keyed (codes "number") (Amount (be16_at front 0)) ∷ keyed (codes "time") (Amount (be32_at (drop 2 front) 0)) ∷ []) =
    row_meanings epoch 2 all_layouts.absolute.now (take 2 ws) front is.said ∙ ap Some (absolute_meanings front) in
    record {
      command = command;
      meant = rw named (
          ap (λ (ms : Option (List Keyed)). timed_of ms (command_said epoch 4 cs (drop 2 ws))) meanings
          ∙ ap (timed_of (Some (keyed (codes "number") (Amount (be16_at front 0)) ∷ keyed (codes "time") (Amount (be32_at (drop 2 front) 0)) ∷ []))) is.command);
      bytes_are = timed_there command front is.packet bytes refl row is.bytes_are;
      read = timed_read command row.number row.tag form;
    }

-- ---- relative sequences

relatives_row : (epoch : Option ℕ) (ws : List (List ℕ)) (front : List ℕ) → row_said epoch 2 all_layouts.relative.now ws ≡ Ok front → IsRelativeRow front
unfolding all_layouts
relatives_row epoch ws front said = relative_row epoch 2 (text_at (codes "after")) spellings.Decimal ws front said

relative_meanings : (front : List ℕ) → meanings_in all_layouts.relative.now front ≡ keyed (codes "after") (Amount (be16_at front 0)) ∷ []
unfolding all_layouts meanings_in
relative_meanings front = refl

relative_there : (c : Relative) (front packet bytes : List ℕ) → c ≡ record { tag = be16_at front 0; packet = packet } → IsRelativeRow front → front ++ packet ≡ bytes → relative_spelled c ≡ bytes
unfolding relative_spelled
relative_there c front packet bytes e row whole = ap relative_spelled e ∙ ap (λ (xs : List ℕ). xs ++ packet) row.bytes_are ∙ whole

relative_stored : (epoch : Option ℕ) (cs : List Command) (w : List ℕ) (ws : List (List ℕ)) (bytes : List ℕ) → are_good cs ≡ true → bytes_eq w (codes "command") ≡ true → IsStored epoch cs all_layouts.relative.now ws bytes → IsItem relative_form relative_spelled (relative_meant epoch cs) (w ∷ ws) bytes
unfolding all_layouts relative_meant
relative_stored epoch cs w ws bytes good named is =
    let front = is.front in
    let row = relatives_row epoch (take 1 ws) front is.said in
    let form = said_packet epoch 3 cs (drop 1 ws) is.packet good is.command in
    let command : Relative = record { tag = be16_at front 0; packet = is.packet } in
    let meanings : meanings_said epoch all_layouts.relative.now (take 1 ws) ≡ Some (keyed (codes "after") (Amount (be16_at front 0)) ∷ []) =
    row_meanings epoch 2 all_layouts.relative.now (take 1 ws) front is.said ∙ ap Some (relative_meanings front) in
    record {
      command = command;
      meant = rw named (
          ap (λ (ms : Option (List Keyed)). relative_of ms (command_said epoch 3 cs (drop 1 ws))) meanings
          ∙ ap (relative_of (Some (keyed (codes "after") (Amount (be16_at front 0)) ∷ []))) is.command);
      bytes_are = relative_there command front is.packet bytes refl row is.bytes_are;
      read = relative_read command row.tag form;
    }

-- ---- a line of either

-- a line without bytes that says something is a command
record IsCommandLine (epoch : Option ℕ) (cs : List Command) (fs : List Field) (words : List (List ℕ)) (bytes : List ℕ) : Type 0 where
  w : List ℕ
  ws : List (List ℕ)
  words_are : words ≡ w ∷ ws
  named : bytes_eq w (codes "command") ≡ true
  said : behind_front epoch cs (length fs + 2) (front_said epoch 2 fs ws) ≡ Ok bytes

by_word : (epoch : Option ℕ) (cs : List Command) (fs : List Field) (w : List ℕ) (ws : List (List ℕ)) (bytes : List ℕ) (b : Bool) → bytes_eq w (codes "command") ≡ b → bytes_eq w (codes "raw") ≡ false → item_said epoch cs fs (w ∷ ws) ≡ Ok bytes → IsCommandLine epoch cs fs (w ∷ ws) bytes
by_word epoch cs fs w ws bytes true named plain e = record { w = w; ws = ws; words_are = refl; named = named; said = sym (item_command epoch cs fs (w ∷ ws) w ws refl named) ∙ e }
by_word epoch cs fs w ws bytes false named plain e = absurd (let wrong : ◌≡◌ {A = Result (List ℕ) LineFault} (Err faults.Word) (Ok bytes) = sym (item_other epoch cs fs (w ∷ ws) w ws refl named plain) ∙ e in cc)

command_line : (epoch : Option ℕ) (cs : List Command) (fs : List Field) (line : Numbered) (bytes : List ℕ) → begins (codes "raw") line.words ≡ false → item_said epoch cs fs line.words ≡ Ok bytes → IsCommandLine epoch cs fs line.words bytes
command_line epoch cs fs line bytes = by_words line.number line.words bytes where
  by_words : (n : ℕ) (words : List (List ℕ)) (bytes : List ℕ) → begins (codes "raw") words ≡ false → item_said epoch cs fs words ≡ Ok bytes → IsCommandLine epoch cs fs words bytes
  by_words n [] bytes plain e = absurd (let wrong : ◌≡◌ {A = Result (List ℕ) LineFault} (Err faults.Word) (Ok bytes) = sym (item_none epoch cs fs [] refl) ∙ e in cc)
  by_words n (w ∷ ws) bytes plain e = by_word epoch cs fs w ws bytes (bytes_eq w (codes "command")) refl plain e

pub timed_item : (epoch : Option ℕ) (cs : List Command) (fs : List Field) → are_good cs ≡ true → map placed_field fs ≡ all_layouts.absolute.now → (line : Numbered) (bytes : List ℕ) → begins (codes "raw") line.words ≡ false → item_said epoch cs fs line.words ≡ Ok bytes → IsItem timed_form timed_spelled (timed_meant epoch cs) line.words bytes
unfolding all_layouts
timed_item epoch cs fs good known line bytes plain e =
    let is = command_line epoch cs fs line bytes plain e in
    rw is.words_are (timed_stored epoch cs is.w is.ws bytes good is.named (stored_is epoch cs fs all_layouts.absolute.now is.ws bytes known refl is.said))

pub relative_item : (epoch : Option ℕ) (cs : List Command) (fs : List Field) → are_good cs ≡ true → map placed_field fs ≡ all_layouts.relative.now → (line : Numbered) (bytes : List ℕ) → begins (codes "raw") line.words ≡ false → item_said epoch cs fs line.words ≡ Ok bytes → IsItem relative_form relative_spelled (relative_meant epoch cs) line.words bytes
unfolding all_layouts
relative_item epoch cs fs good known line bytes plain e =
    let is = command_line epoch cs fs line bytes plain e in
    rw is.words_are (relative_stored epoch cs is.w is.ws bytes good is.named (stored_is epoch cs fs all_layouts.relative.now is.ws bytes known refl is.said))
