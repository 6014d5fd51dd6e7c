-- Actionpoints, and the payloads that spell their table.
use Rattle.std.specs.Prelude.{◌≡◌, ◌<◌, ◌≤◌, ℕ, ◌+◌, ◌*◌, ◌==◌, Bool, true, false, not, ◌&&◌, nat_lt, nat_le, if◌then◌else◌, List, take, replicate, slice_index_or, Option, Some, None}
use Rattle.std.specs.List.{All, list_any}
use Rattle.packet_forms.specs.Numbers.{be16_at}
use Rattle.table_files.specs.Entries.{first_fault, entries_in}
use Rattle.table_files.specs.declared.fault.EntryFault.{EntryFault}
use Rattle.lc_watch.specs.Expressions.{words_at, values_left, is_one, LeavesOne, value_of}
use Rattle.lc_watch.specs.declared.expressions.Word.{Word}
use Rattle.lc_watch.specs.declared.expressions.Word.TheVariants.{Watch}
use Rattle.lc_watch.specs.declared.actionpoints.ActRow.{ActRow}
use Rattle.lc_watch.specs.declared.outcomes.Outcome.{Outcome}

-- The entry in place i of a payload, from 0: it has 40 bytes, the last 32 of which are its words.
abbrev pub row_at : List ℕ → ℕ → ActRow
row_at payload i = record {
  state = be16_at payload (40 * i);
  rts = be16_at payload (40 * i + 2);
  failures = be16_at payload (40 * i + 4);
  size = be16_at payload (40 * i + 6);
  words = words_at payload (40 * i + 8);
}

-- The 16 entries of a payload.
unfoldable pub rows_of : List ℕ → List ActRow
rows_of payload = entries_in row_at 16 payload

-- Whether an entry is used: its state isn't 0.
abbrev pub is_used : ActRow → Bool
is_used row = not (row.state == 0)

-- The expression of an entry: as many of its words as its size says.
abbrev pub expression : ActRow → List Word
expression row = take row.size row.words

-- Whether an entry's expression has 1 to 16 words, lacks no operand and leaves exactly one value. The values of the watchpoints make no
-- difference to that.
abbrev pub is_whole : ActRow → Bool
is_whole row = nat_le 1 row.size && nat_le row.size 16 && is_one (values_left (λ place. false) (expression row))

-- Whether an entry starts a sequence, 1 to 64, after some evaluations in a row.
abbrev pub is_startable : ActRow → Bool
is_startable row = nat_le 1 row.rts && nat_le row.rts 64 && not (row.failures == 0)

-- The least reason to refuse an entry: 1 its state is over 2, and where it is used 2 its sequence isn't 1 to 64 or it asks for no failure,
-- 3 its expression isn't whole.
unfoldable pub row_reason : ActRow → Option ℕ
row_reason row =
    if nat_lt 2 row.state then Some 1
    else if not (is_used row) then None
    else if not (is_startable row) then Some 2
    else if is_whole row then None
    else Some 3

-- The fault of a payload: that of its first faulty entry.
unfoldable pub rows_fault_of : List ℕ → Option EntryFault
rows_fault_of payload = first_fault row_reason 1 (rows_of payload)

-- An entry of zero bytes, which is unused, and a table of them.
abbrev pub blank_row : ActRow
blank_row = record { state = 0; rts = 0; failures = 0; size = 0; words = replicate 16 (Watch 0) }

unfoldable pub blank_rows : List ActRow
blank_rows = replicate 16 blank_row

-- The actionpoint in a place of a table, from 0.
abbrev pub act_at : List ActRow → ℕ → ActRow
act_at rows place = slice_index_or rows place blank_row

-- Whether a table has a used entry.
unfoldable pub uses_any : List ActRow → Bool
uses_any rows = list_any is_used rows

-- What an entry that isn't refused has where it is used. Its expression leaves exactly one value, whatever the watchpoints' values are.
pub record IsAble (row : ActRow) : Type 0 where
  pub least : 1 ≤ row.rts
  pub most : row.rts ≤ 64
  pub failures : 0 < row.failures
  pub some_words : 1 ≤ row.size
  pub few_words : row.size ≤ 16
  pub whole : (value : ℕ → Bool) → LeavesOne (values_left value (expression row))

abbrev pub AbleWhereUsed : ActRow → Type 0
AbleWhereUsed row = is_used row ≡ true → IsAble row

abbrev pub AreAble : List ActRow → Type 0
AreAble rows = All AbleWhereUsed rows

-- What the evaluation of an actionpoint comes to by the outcomes of the watchpoints: whether it fails. There is none where it isn't used,
-- or names a watchpoint whose value wasn't compared.
unfoldable pub evaluation_of : (ℕ → Outcome) → ActRow → Option Bool
evaluation_of outcome row = if is_used row then value_of outcome (expression row) else None
