-- Times of a plan: dates and times of day, beside those that plan_text has.
use Rattle.std.specs.Prelude.{◌≡◌, ℕ, ◌+◌, ◌-◌, if◌then◌else◌, List, [], ◌∷◌, ◌++◌, codes, decimal, Option, Some, None, Result, Ok, Err}
use Rattle.std.specs.Str.{bytes_eq}
use Rattle.row_forms.specs.Words.{words as words_in}
use Rattle.row_forms.specs.Rows.{behind_key}
use Rattle.row_forms.specs.declared.fault.Reason.TheVariants as words
use Rattle.calendar_dates.specs.declared.epoch.Epoch.{Epoch}
use Rattle.calendar_dates.specs.declared.fault.DateFault.{DateFault}
use Rattle.calendar_dates.specs.declared.fault.DateFault.TheVariants as faults
use Rattle.calendar_dates.specs.Instants.{instant_said, second_said}
use Rattle.plan_text.specs.declared.fault.PlanReason.{PlanReason}
use Rattle.plan_text.specs.declared.fault.PlanReason.TheVariants as reasons
use Rattle.plan_text.specs.declared.fault.LineError.{LineError}
use Rattle.plan_text.specs.declared.fault.LineError.TheVariants as line_errors
use Rattle.plan_text.specs.Plans.{◌>>=◌, word_fault, one, frame_of_time}

-- ---- headings

abbrev pub frame_said : Epoch → ℕ → List ℕ → Option (Result ℕ DateFault) → Result ℕ PlanReason
frame_said e n word (Some (Ok second)) = Ok (second - e.second)
frame_said e n word (Some (Err fault)) = Err (reasons.Date n fault)
frame_said e n word None = frame_of_time e.second n word

-- the frame of the time that the n-th word says: a date, a time of day, or a time that plan_text has
unfoldable pub frame_of_word : Epoch → ℕ → List ℕ → Result ℕ PlanReason
frame_of_word e n word = frame_said e n word (second_said e word)

-- the frame of the time that is the n-th word and the last one
abbrev pub timed_line : Epoch → ℕ → List (List ℕ) → Result ℕ PlanReason
timed_line e n others = do
  word ← one n others
  frame_of_word e n word

-- ---- the epoch's date

abbrev pub binding : Option (Result ℕ DateFault) → Result (Option ℕ) PlanReason
binding (Some (Ok instant)) = Ok (Some instant)
binding (Some (Err fault)) = Err (reasons.Date 4 fault)
binding None = Err (reasons.Date 4 faults.Form)

-- the instant that stands behind `epoch N`: none, or that of `is DATE`
abbrev pub binding_line : List (List ℕ) → Result (Option ℕ) PlanReason
binding_line [] = Ok None
binding_line (is ∷ others) =
    if bytes_eq is (codes "is") then one 4 others >>= (λ word. binding (instant_said word)) else Err (word_fault 3 words.Extra)

-- ---- telecommands

abbrev pub dated_value : ℕ → List ℕ → Option (Result ℕ DateFault) → Result (List ℕ) PlanReason
dated_value n word (Some (Ok second)) = Ok (codes "time=" ++ decimal second)
dated_value n word (Some (Err fault)) = Err (reasons.Date n fault)
dated_value n word None = Ok word

abbrev pub dated_by : Epoch → Option (List ℕ) → Option (Result ℕ DateFault)
dated_by e (Some text) = second_said e text
dated_by e None = None

-- the second that a word says as `time=` and a date or a time of day
unfoldable pub dated_second : Epoch → List ℕ → Option (Result ℕ DateFault)
dated_second e word = dated_by e (behind_key (codes "time") word)

-- the n-th word of a telecommand: `time=` and a date or a time of day is `time=` and its second, any other word is itself
unfoldable pub dated_word : Epoch → ℕ → List ℕ → Result (List ℕ) PlanReason
dated_word e n word = dated_value n word (dated_second e word)

abbrev pub in_front : List (List ℕ) → Result (List (List ℕ)) PlanReason → Result (List (List ℕ)) PlanReason
in_front front (Ok ws) = Ok (front ++ ws)
in_front front (Err reason) = Err reason

-- the words of a telecommand, the first being word n, with seconds for dates
unfoldable pub dated_words : Epoch → ℕ → List (List ℕ) → Result (List (List ℕ)) PlanReason
dated_words e n [] = Ok []
dated_words e n (w ∷ ws) = dated_word e n w >>= (λ v. in_front (v ∷ []) (dated_words e (n + 1) ws))

-- ---- what the code gives

-- a word was put behind a text and a space; a reason is told only where there is one; and memory may end
abbrev pub GivesWord : Result (List ℕ) PlanReason → List ℕ → List ℕ → Result (Unit {0}) LineError → Type 0
GivesWord said old new (Ok done) = (w : List ℕ) × (said ≡ Ok w) × (new ≡ old ++ 32 ∷ w) × (words_in w ≡ w ∷ [])
GivesWord said old new (Err (line_errors.Memory e)) = Unit {0}
GivesWord said old new (Err (line_errors.Because reason)) = said ≡ Err reason

-- the words of a text are those that are said
abbrev pub GivesWords : Result (List (List ℕ)) PlanReason → List ℕ → Result (Unit {0}) LineError → Type 0
GivesWords said new (Ok done) = said ≡ Ok (words_in new)
GivesWords said new (Err (line_errors.Memory e)) = Unit {0}
GivesWords said new (Err (line_errors.Because reason)) = said ≡ Err reason
