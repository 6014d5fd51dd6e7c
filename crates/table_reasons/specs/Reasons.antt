-- Why an entry of a table is refused, in words, by the number of its loader's reason.
use Rattle.std.specs.Prelude.{ℕ, ◌==◌, Bool, true, false, if◌then◌else◌, List, codes, Option, Some, None}
use Rattle.table_files.specs.declared.kinds.TableKind.{TableKind}
use Rattle.table_files.specs.declared.kinds.TableKind.TheVariants.{AppMon, EventMon, ExeCount, MsgActs, Ats, Rts, Dwell, Eeprom, Memory, Wdt, Adt}
use Rattle.table_reasons.specs.declared.reasons.Place.{Place}
use Rattle.table_reasons.specs.declared.reasons.Place.TheVariants.{Nowhere, Short, Address, Head}
use Rattle.table_reasons.specs.declared.reasons.ReasonWords.{ReasonWords}

-- a sentence: what stands in front of a number of the entry, where that number stands, and what stands behind it
pub record Sentence : Type 0 where
  pub before : List ℕ
  pub place : Place
  pub behind : List ℕ

abbrev pub sentence : List ℕ → Place → List ℕ → Sentence
sentence before place behind = record { before = before; place = place; behind = behind }

abbrev pub plain : List ℕ → Sentence
plain text = sentence text Nowhere (codes "")

-- application monitors and event monitors
abbrev pub monitor_reason : ℕ → Option Sentence
monitor_reason r =
    if r == 1 then Some (plain (codes "a used entry has no name of 1 to 19 letters, digits or _"))
    else if r == 2 then Some (sentence (codes "action ") (Short 22) (codes " is over 11"))
    else None

abbrev pub counter_reason : ℕ → Option Sentence
counter_reason r =
    if r == 1 then Some (plain (codes "a used entry has no name of 1 to 19 letters, digits or _"))
    else if r == 3 then Some (sentence (codes "type ") (Short 20) (codes " is over 4"))
    else None

abbrev pub action_reason : ℕ → Option Sentence
action_reason r =
    if r == 4 then Some (plain (codes "a used entry has no packet of 8 to 64 bytes"))
    else if r == 5 then Some (sentence (codes "state ") (Short 0) (codes " is over 2"))
    else None

-- absolute and relative sequences
abbrev pub sequence_reason : ℕ → Option Sentence
sequence_reason r =
    if r == 1 then Some (plain (codes "the command's number isn't 1 to 1000"))
    else if r == 2 then Some (plain (codes "an earlier entry has the command's number"))
    else if r == 3 then Some (plain (codes "no command packet of 8 to 256 bytes begins here"))
    else if r == 4 then Some (plain (codes "the entry runs past the end of the sequence"))
    else None

abbrev pub dwell_reason : ℕ → Option Sentence
dwell_reason r =
    if r == 1 then Some (sentence (codes "length ") (Short 0) (codes " isn't 0, 1, 2 or 4"))
    else if r == 2 then Some (sentence (codes "the enabled flag ") (Head 0) (codes " is over 1"))
    else if r == 3 then Some (sentence (codes "address ") (Address 4) (codes " isn't a multiple of the length"))
    else None

abbrev pub checksum_reason : ℕ → Option Sentence
checksum_reason r =
    if r == 1 then Some (sentence (codes "state ") (Short 0) (codes " is over 2"))
    else if r == 2 then Some (plain (codes "a used entry has length 0"))
    else None

abbrev pub watch_reason : ℕ → Option Sentence
watch_reason r =
    if r == 1 then Some (sentence (codes "type ") (Short 0) (codes " is over 3"))
    else if r == 2 then Some (sentence (codes "operator ") (Short 6) (codes " isn't 1 to 6"))
    else None

abbrev pub point_reason : ℕ → Option Sentence
point_reason r =
    if r == 1 then Some (sentence (codes "state ") (Short 0) (codes " is over 2"))
    else if r == 2 then Some (sentence (codes "sequence ") (Short 2) (codes " isn't 1 to 64, or the number of failures is 0"))
    else if r == 3 then Some (plain (codes "the expression hasn't 1 to 16 words, has an unknown one, lacks an operand or doesn't leave one value"))
    else None

-- why an entry of this kind of table is refused
abbrev pub reason_of : TableKind → ℕ → Option Sentence
reason_of AppMon r = monitor_reason r
reason_of EventMon r = monitor_reason r
reason_of ExeCount r = counter_reason r
reason_of MsgActs r = action_reason r
reason_of (Ats n) r = sequence_reason r
reason_of (Rts n) r = sequence_reason r
reason_of (Dwell n) r = dwell_reason r
reason_of Eeprom r = checksum_reason r
reason_of Memory r = checksum_reason r
reason_of Wdt r = watch_reason r
reason_of Adt r = point_reason r

-- sequences of commands, whose entries have sizes of their own
abbrev pub is_sequence : TableKind → Bool
is_sequence (Ats n) = true
is_sequence (Rts n) = true
is_sequence AppMon = false
is_sequence EventMon = false
is_sequence ExeCount = false
is_sequence MsgActs = false
is_sequence (Dwell n) = false
is_sequence Eeprom = false
is_sequence Memory = false
is_sequence Wdt = false
is_sequence Adt = false

abbrev pub is_there : Option Sentence → Bool
is_there (Some s) = true
is_there None = false

-- ---- what the code gives

abbrev pub by_words : Option ReasonWords → Option Sentence
by_words (Some w) = Some (sentence w.before.now w.place w.behind.now)
by_words None = None
