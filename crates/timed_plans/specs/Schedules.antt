-- The lines of a scenario by the frames in which they stand.
use Rattle.std.specs.Prelude.{ℕ, zero, suc, ◌+◌, ◌==◌, if◌then◌else◌, List, [], ◌∷◌, ◌++◌, map, codes, decimal}
use Rattle.table_texts.specs.Lines.{Numbered}
use Rattle.plan_text.specs.Lines.{line_text, text_of, tick, end}
use Rattle.plan_text.specs.Items.{FrameItem}
use Rattle.timed_plans.specs.declared.heading.Heading.{Heading}
use Rattle.timed_plans.specs.declared.scheduled.ScheduledLine.{ScheduledLine}
use Rattle.timed_plans.specs.Headings.{frames_in}

-- a line that stands in a frame, and the number of the plan's line that says so
pub record Timed : Type 0 where
  pub frame : ℕ
  pub number : ℕ
  pub line : List (List ℕ)

abbrev pub timed : ℕ → List (List ℕ) → ℕ → Timed
timed number line n = record { frame = n; number = number; line = line }

-- a line in the frames of a heading, so many frames later
abbrev pub lines_in : Heading → ℕ → ℕ → List (List ℕ) → List Timed
lines_in h later number line = map (λ n. timed number line (n + later)) (frames_in h)

-- a line in so many frames from each of a heading's frames on
unfoldable pub spread : ℕ → Heading → ℕ → List (List ℕ) → List Timed
spread zero h number line = []
spread (suc k) h number line = spread k h number line ++ lines_in h k number line

-- the line of a counter's value
abbrev pub app_line : List ℕ → ℕ → List (List ℕ)
app_line name value = codes "app" ∷ name ∷ decimal value ∷ []

-- a counter that has the number of its frame, plus 1
abbrev pub counted_in : Heading → ℕ → List ℕ → List Timed
counted_in h number name = map (λ n. timed number (app_line name (n + 1)) n) (frames_in h)

-- what a plan says: the lines of its header, those of its frames in the text's order, how many frames there are, and the number of
-- the line that ends it
pub record Schedule : Type 0 where
  pub head : List Timed
  pub lines : List Timed
  pub frames : ℕ
  pub last : ℕ

abbrev pub numbered : Timed → Numbered
numbered t = record { number = t.number; words = t.line }

-- the lines of a frame, in the text's order
unfoldable pub lines_at : ℕ → List Timed → List Numbered
lines_at n [] = []
lines_at n (t ∷ more) = if t.frame == n then numbered t ∷ lines_at n more else lines_at n more

-- so many frames from number n on, each with its lines and the `tick` that ends it
unfoldable pub frames_from : ℕ → ℕ → ℕ → List Timed → List Numbered
frames_from zero n last lines = []
frames_from (suc k) n last lines = (lines_at n lines ++ record { number = last; words = tick } ∷ []) ++ frames_from k (n + 1) last lines

-- the lines of the scenario
abbrev pub scenario_lines : Schedule → List Numbered
scenario_lines s = (map numbered s.head ++ frames_from s.frames 0 s.last s.lines) ++ record { number = s.last; words = end } ∷ []

abbrev pub words_of : List Numbered → List (List (List ℕ))
words_of lines = map (λ (l : Numbered). l.words) lines

abbrev pub numbers_of : List Numbered → List ℕ
numbers_of lines = map (λ (l : Numbered). l.number) lines

-- the items of a scenario's frames, in the text's order
abbrev pub timed_items : List Timed → List FrameItem
timed_items lines = map (λ (t : Timed). record { frame = t.frame; line = t.line }) lines

-- ---- what the code holds

-- a line by its text
pub record LineText : Type 0 where
  pub frame : ℕ
  pub number : ℕ
  pub text : List ℕ

abbrev pub shown : Timed → LineText
shown t = record { frame = t.frame; number = t.number; text = line_text t.line }

abbrev pub held : ScheduledLine → LineText
held s = record { frame = s.frame; number = s.number; text = s.text.items }

-- lines that are held, by their texts
abbrev pub held_in : List ScheduledLine → List LineText
held_in lines = map held lines

abbrev pub texts_in : Heading → ℕ → ℕ → List ℕ → List LineText
texts_in h later number text = map (λ n. record { frame = n + later; number = number; text = text }) (frames_in h)

-- lines of a scenario, by their text and their numbers
pub record PageText : Type 0 where
  pub text : List ℕ
  pub numbers : List ℕ

-- lines behind those of a page
abbrev pub with_lines : PageText → List Numbered → PageText
with_lines p lines = record { text = p.text ++ text_of (words_of lines); numbers = p.numbers ++ numbers_of lines }
