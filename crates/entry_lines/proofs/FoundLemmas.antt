-- Lemmas on lines that are looked for.
use Rattle.std.proofs.Common.{◌≡◌, ℕ, ◌-◌, Bool, true, false, List, [], ◌∷◌, Some, None, refl}
use Rattle.std.specs.Prelude.{◌==◌, if◌then◌else◌, codes}
use Rattle.table_files.specs.declared.kinds.TableKind.{TableKind}
use Rattle.table_files.specs.declared.kinds.TableKind.TheVariants.{AppMon, EventMon, ExeCount, MsgActs, Ats, Rts, Dwell, Eeprom, Memory, Wdt, Adt}
use Rattle.table_texts.specs.Lines.{Numbered}
use Rattle.entry_lines.specs.declared.words.Sought.{Sought}
use Rattle.entry_lines.specs.declared.words.Sought.TheVariants.{Entry}
use Rattle.entry_lines.specs.Words.{is_first, says}
use Rattle.entry_lines.specs.Found.{line_saying, line_of_command, first_of, line_of_entry}

pub saying_none : (s : Sought) (lines : List Numbered) → lines ≡ [] → line_saying s lines ≡ None
unfolding line_saying
saying_none s lines e = rw e refl

pub saying_here : (s : Sought) (lines more : List Numbered) (line : Numbered) → lines ≡ line ∷ more → says s line.words ≡ true → line_saying s lines ≡ Some line
unfolding line_saying
saying_here s lines more line e is = rw e (rw is refl)

pub saying_later : (s : Sought) (lines more : List Numbered) (line : Numbered) → lines ≡ line ∷ more → says s line.words ≡ false → line_saying s lines ≡ line_saying s more
unfolding line_saying
saying_later s lines more line e is = rw e (rw is refl)

pub command_none : (place : ℕ) (lines : List Numbered) → lines ≡ [] → line_of_command place lines ≡ None
unfolding line_of_command
command_none place lines e = rw e refl

pub command_other : (place : ℕ) (lines more : List Numbered) (line : Numbered) → lines ≡ line ∷ more → is_first (codes "command") line.words ≡ false → line_of_command place lines ≡ None
unfolding line_of_command
command_other place lines more line e is = rw e (rw is refl)

pub command_here : (place : ℕ) (lines more : List Numbered) (line : Numbered) → lines ≡ line ∷ more → is_first (codes "command") line.words ≡ true → (place == 1) ≡ true → line_of_command place lines ≡ Some line
unfolding line_of_command
command_here place lines more line e is here = rw e (rw (is, here) refl)

pub command_later : (place : ℕ) (lines more : List Numbered) (line : Numbered) → lines ≡ line ∷ more → is_first (codes "command") line.words ≡ true → (place == 1) ≡ false → line_of_command place lines ≡ line_of_command (place - 1) more
unfolding line_of_command
command_later place lines more line e is other = rw e (rw (is, other) refl)

no_head : (entry : ℕ) (b : Bool) → (if b then first_of [] else line_saying (Entry entry) []) ≡ None
unfolding line_saying
no_head entry true = refl
no_head entry false = refl

-- a text that says nothing has no line
pub nothing_of : (kind : TableKind) (entry : ℕ) (lines : List Numbered) → lines ≡ [] → line_of_entry kind entry lines ≡ None
unfolding line_of_entry line_saying line_of_command
nothing_of AppMon entry lines e = rw e refl
nothing_of EventMon entry lines e = rw e refl
nothing_of ExeCount entry lines e = rw e refl
nothing_of MsgActs entry lines e = rw e refl
nothing_of (Ats n) entry lines e = rw e refl
nothing_of (Rts n) entry lines e = rw e refl
nothing_of (Dwell n) entry lines e = rw e (no_head entry (entry == 0))
nothing_of Eeprom entry lines e = rw e refl
nothing_of Memory entry lines e = rw e refl
nothing_of Wdt entry lines e = rw e refl
nothing_of Adt entry lines e = rw e refl
