-- Lines as they are written: by their text, with the number of the plan's line that says them.
use Rattle.std.specs.Prelude.{ℕ, ◌-◌, List, [], ◌∷◌, ◌++◌, map, replicate, codes}
use Rattle.std.specs.List.{flat_map}
use Rattle.table_texts.specs.Lines.{Numbered}
use Rattle.plan_text.specs.Lines.{line_text}
use Rattle.timed_plans.specs.declared.page.Page.{Page}
use Rattle.timed_plans.specs.Schedules.{LineText, PageText}

-- a line that is written
pub record Row : Type 0 where
  pub number : ℕ
  pub text : List ℕ

abbrev pub row : ℕ → List ℕ → Row
row number text = record { number = number; text = text }

-- what a page has
abbrev pub written_on : Page → PageText
written_on p = record { text = p.text.items; numbers = p.numbers.items }

-- a page with more lines
abbrev pub with_rows : PageText → List Row → PageText
with_rows p rows = record { text = p.text ++ flat_map (λ (r : Row). r.text) rows; numbers = p.numbers ++ map (λ (r : Row). r.number) rows }

abbrev pub tick_row : ℕ → Row
tick_row number = row number (codes "tick\n")

abbrev pub end_row : ℕ → Row
end_row number = row number (codes "end\n")

abbrev pub row_of : LineText → Row
row_of t = row t.number t.text

abbrev pub rows_of : List LineText → List Row
rows_of texts = map row_of texts

-- a line of the scenario
abbrev pub numbered_row : Numbered → Row
numbered_row l = row l.number (line_text l.words)

-- lines in the frames' order, with ticks up to each, and up to the last frame
unfoldable pub merged : ℕ → ℕ → ℕ → List LineText → List Row
merged come frames number [] = replicate (frames - come) (tick_row number)
merged come frames number (t ∷ more) = replicate (t.frame - come) (tick_row number) ++ row_of t ∷ merged t.frame frames number more
