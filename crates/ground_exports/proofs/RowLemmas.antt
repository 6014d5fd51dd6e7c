-- Lemmas on rows of logs.
use Rattle.std.proofs.Common.{◌≡◌, ℕ, ◌+◌, Bool, List, [], ◌∷◌, ◌++◌, length, Option, Some, Result, Ok, Err, refl, ap, ◌∙◌, subst, append_assoc, length-append, arith}
use Rattle.std.specs.Prelude.{decimal, IfOk}
use Rattle.std.specs.Io.KnownBytes.{Appends}
use Rattle.std.proofs.KnownBytes.{Appends-trans}
use Rattle.csv.specs.Writing.{row_text, default_writer}
use Rattle.ground_logs.specs.Making.{lines_of, AreMade, IsMadeOf}
use Rattle.log_lines.specs.declared.line.LogLine.{LogLine}
use Rattle.ground_exports.specs.Rows.{fixed_columns, kind_cell, pipe_cell, cause_cell, packet_cell, AreCells, IsRow, AreRowsOf}

-- where the names of the columns were written and then what was made of the lines, the rows were
pub rows_written : {E : Type 0} (result : Result Bool E) (keys : List (List ℕ)) (n : ℕ) (remaining before headed after : Option (List ℕ)) (bytes : List ℕ)
    → n ≡ length keys → bytes ≡ row_text default_writer (fixed_columns ++ keys) → Appends before headed bytes
    → IfOk result (λ whole. (text : List ℕ) → remaining ≡ Some text → IsMadeOf (IsRow n) text whole headed after)
    → IfOk result (λ whole. (text : List ℕ) → remaining ≡ Some text → AreRowsOf text whole before after)
rows_written (Ok whole) keys n remaining before headed after bytes count is head made = λ text tells. let m : IsMadeOf (IsRow n) text whole headed after = made text tells in record {
  keys = keys;
  rows = m.bytes;
  made = subst (λ k. AreMade (IsRow k) (lines_of text) m.bytes) count m.made;
  written = Appends-trans before headed after (row_text default_writer (fixed_columns ++ keys)) m.bytes (subst (λ xs. Appends before headed xs) is head) m.written;
  whole = m.whole;
}
rows_written (Err fault) keys n remaining before headed after bytes count is head made = tt

-- the cells of a line, put together
pub are_cells : (line : LogLine) (fields : ℕ) (frame kind application name pipe cause words packet : List ℕ) (values fixed row : List (List ℕ))
    → frame ≡ decimal line.frame → kind ≡ kind_cell line.item → pipe ≡ pipe_cell line.item → cause ≡ cause_cell line.item → packet ≡ packet_cell line.item
    → fixed ≡ frame ∷ kind ∷ application ∷ name ∷ pipe ∷ cause ∷ words ∷ packet ∷ [] → row ≡ fixed ++ values → length values ≡ fields
    → AreCells line fields row
are_cells line fields frame kind application name pipe cause words packet values fixed row f k p c b front behind count =
    let cells : frame ∷ kind ∷ application ∷ name ∷ pipe ∷ cause ∷ words ∷ packet ∷ []
    ≡ decimal line.frame ∷ kind_cell line.item ∷ application ∷ name ∷ pipe_cell line.item ∷ cause_cell line.item ∷ words ∷ packet_cell line.item ∷ []
    = rw (f, k, p, c, b) refl in
    record {
      application = application;
      name = name;
      words = words;
      values = values;
      count = count;
      whole = behind ∙ ap (λ xs. xs ++ values) (front ∙ cells);
    }

-- the row of a line, of so many keys
pub is_row : (line : LogLine) (count fields : ℕ) (cells : List (List ℕ)) (row : List ℕ) → count ≡ fields → AreCells line count cells
    → row ≡ row_text default_writer cells → IsRow fields line row
is_row line count fields cells row is each text = record { cells = cells; each = subst (λ n. AreCells line n cells) is each; text = text }

-- one more value behind those that were added
pub value_pushed : (first old new values : List (List ℕ)) (partial field : List ℕ) (n : ℕ) → partial ≡ [] → length values ≡ n → old ≡ first ++ values
    → new ≡ old ++ ((partial ++ field) ∷ []) → (more : List (List ℕ)) × (length more ≡ n + 1) × (new ≡ first ++ more)
value_pushed first old new values partial field n none count is pushed =
    (values ++ field ∷ [], omega (arith, length-append values (field ∷ []), count), pushed ∙ rw (none, is) (append_assoc first values (field ∷ [])))

-- cells that are those of a line's parts
pub same_cells : (x : List (List ℕ)) (frame a b c d e f g kind name pipe cause words packet : List ℕ) → x ≡ frame ∷ a ∷ b ∷ c ∷ d ∷ e ∷ f ∷ g ∷ []
    → a ≡ kind → c ≡ name → d ≡ pipe → e ≡ cause → f ≡ words → g ≡ packet → x ≡ frame ∷ kind ∷ b ∷ name ∷ pipe ∷ cause ∷ words ∷ packet ∷ []
same_cells x frame a b c d e f g kind name pipe cause words packet h k n p q w v = h ∙ rw (k, n, p, q, w, v) refl
