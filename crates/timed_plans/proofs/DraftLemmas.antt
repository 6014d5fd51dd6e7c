-- Lemmas on drafts.
use Rattle.std.proofs.Common.{◌≡◌, ℕ, ◌+◌, List, [], ◌∷◌, ◌++◌, map, refl, ap, sym, ◌∙◌, append_assoc}
use Rattle.std.specs.Prelude.{Result, Ok, Err}
use Rattle.std.proofs.lemmas.List.{map-append}
use Rattle.telecommands.specs.declared.command.Command.{Command}
use Rattle.table_texts.specs.Lines.{Numbered, kept_of}
use Rattle.plan_text.specs.declared.fault.PlanReason.{PlanReason}
use Rattle.plan_text.specs.declared.fault.PlanFault.{PlanFault}
use Rattle.plan_text.specs.declared.fault.LineError.{LineError}
use Rattle.plan_text.specs.declared.fault.LineError.TheVariants as line_errors
use Rattle.plan_text.specs.Plans.{◌>>=◌, fault_on, error_on}
use Rattle.timed_plans.specs.declared.stage.Course.{Course}
use Rattle.timed_plans.specs.declared.stage.Stage.{Stage}
use Rattle.timed_plans.specs.declared.stage.Stage.TheVariants as stages
use Rattle.timed_plans.specs.declared.plan.Draft.{Draft}
use Rattle.timed_plans.specs.Schedules.{Timed, timed, spread, counted_in, Schedule, LineText, shown}
use Rattle.timed_plans.specs.Plans.{Made, Scheduled, scheduled, extended, item_line, counts_line, passed, with_head, with_front, then_head, then_front, staged, finished, lines_said, schedule_said}
use Rattle.timed_plans.specs.Drafts.{Texts, shown_of, put_front, behind, GivesDraft, GivesSchedule}

-- ---- one line

abbrev texts_in : Result Scheduled PlanReason → List LineText
texts_in (Ok s) = s.texts
texts_in (Err reason) = []

abbrev stage_in : Result Scheduled PlanReason → Stage
stage_in (Ok s) = s.stage
stage_in (Err reason) = stages.Opening

abbrev as_scheduled : Stage → List LineText → Result Scheduled PlanReason
as_scheduled stage texts = Ok (record { texts = texts; stage = stage })

when_extended : (r : Result Course PlanReason) (more : Course) (f : Course → Result Made PlanReason) → r ≡ Ok more → r >>= f ≡ f more
when_extended r more f e = rw e refl

-- a line was added in frames of the heading
pub item_added : (c more : Course) (span number : ℕ) (line : List (List ℕ)) (old new : List LineText) → extended c span ≡ Ok more → new ≡ old ++ map shown (spread span c.heading number line) → scheduled old (item_line c span number line) ≡ Ok (record { texts = new; stage = stages.Frames more })
item_added c more span number line old new e added =
    ap (scheduled old) (when_extended (extended c span) more (λ m. Ok (record { lines = spread span c.heading number line; stage = stages.Frames m })) e)
    ∙ ap (as_scheduled (stages.Frames more)) (sym added)

pub counts_added : (c more : Course) (number : ℕ) (name : List ℕ) (old new : List LineText) → extended c 1 ≡ Ok more → new ≡ old ++ map shown (counted_in c.heading number name) → scheduled old (counts_line c number name) ≡ Ok (record { texts = new; stage = stages.Frames more })
counts_added c more number name old new e added =
    ap (scheduled old) (when_extended (extended c 1) more (λ m. Ok (record { lines = counted_in c.heading number name; stage = stages.Frames m })) e)
    ∙ ap (as_scheduled (stages.Frames more)) (sym added)

-- a line of the header was added
pub line_passed : (n : ℕ) (stage : Stage) (line : List (List ℕ)) (old new : List LineText) → new ≡ old ++ shown (timed n line 0) ∷ [] → scheduled old (passed n stage line) ≡ Ok (record { texts = new; stage = stage })
line_passed n stage line old new added = ap (as_scheduled stage) (sym added)

-- ---- behind a draft

head_front : (h l : List LineText) (front : List Timed) (r : Result Schedule PlanFault) → put_front h l (shown_of (with_head front r)) ≡ put_front (h ++ map shown front) l (shown_of r)
head_front h l front (Ok s) =
    ap (λ (t : List LineText). Ok (record { head = t; lines = l ++ map shown s.lines; frames = s.frames; last = s.last }))
    (ap (λ (t : List LineText). h ++ t) (map-append shown front s.head) ∙ sym (append_assoc h (map shown front) (map shown s.head)))
head_front h l front (Err fault) = refl

line_front : (h l : List LineText) (front : List Timed) (r : Result Schedule PlanFault) → put_front h l (shown_of (with_front front r)) ≡ put_front h (l ++ map shown front) (shown_of r)
line_front h l front (Ok s) =
    ap (λ (t : List LineText). Ok (record { head = h ++ map shown s.head; lines = t; frames = s.frames; last = s.last }))
    (ap (λ (t : List LineText). l ++ t) (map-append shown front s.lines) ∙ sym (append_assoc l (map shown front) (map shown s.lines)))
line_front h l front (Err fault) = refl

-- a line of the header was read
pub head_read : (n : ℕ) (said : Result Made PlanReason) (h new l : List LineText) (stage : Stage) → scheduled h said ≡ Ok (record { texts = new; stage = stage }) → (next : Stage → Result Schedule PlanFault) → put_front h l (shown_of (then_head n said next)) ≡ put_front new l (shown_of (next stage))
head_read n (Ok made) h new l stage e next =
    head_front h l made.lines (next made.stage)
    ∙ ap (λ (t : List LineText). put_front t l (shown_of (next made.stage))) (ap texts_in e)
    ∙ ap (λ (s : Stage). put_front new l (shown_of (next s))) (ap stage_in e)
head_read n (Err reason) h new l stage e next = absurd (cc)

-- a line of frames was read
pub front_read : (n : ℕ) (said : Result Made PlanReason) (h l new : List LineText) (stage : Stage) → scheduled l said ≡ Ok (record { texts = new; stage = stage }) → (next : Stage → Result Schedule PlanFault) → put_front h l (shown_of (then_front n said next)) ≡ put_front h new (shown_of (next stage))
front_read n (Ok made) h l new stage e next =
    line_front h l made.lines (next made.stage)
    ∙ ap (λ (t : List LineText). put_front h t (shown_of (next made.stage))) (ap texts_in e)
    ∙ ap (λ (s : Stage). put_front h new (shown_of (next s))) (ap stage_in e)
front_read n (Err reason) h l new stage e next = absurd (cc)

pub head_fault : (n : ℕ) (said : Result Made PlanReason) (h : List LineText) (reason : PlanReason) → scheduled h said ≡ Err reason → (next : Stage → Result Schedule PlanFault) → then_head n said next ≡ Err (fault_on n reason)
head_fault n (Ok made) h reason e next = absurd (cc)
head_fault n (Err r) h reason e next = let same : r ≡ reason = cc in ap (λ (x : PlanReason). Err (fault_on n x)) same

pub front_fault : (n : ℕ) (said : Result Made PlanReason) (l : List LineText) (reason : PlanReason) → scheduled l said ≡ Err reason → (next : Stage → Result Schedule PlanFault) → then_front n said next ≡ Err (fault_on n reason)
front_fault n (Ok made) l reason e next = absurd (cc)
front_fault n (Err r) l reason e next = let same : r ≡ reason = cc in ap (λ (x : PlanReason). Err (fault_on n x)) same

-- ---- all lines

nothing_in_front : (r : Result Texts PlanFault) → r ≡ put_front [] [] r
nothing_in_front (Ok t) = refl
nothing_in_front (Err fault) = refl

lines_nil : (cs : List Command) (stage : Stage) (n : ℕ) → lines_said cs stage n [] ≡ finished stage n
unfolding lines_said
lines_nil cs stage n = refl

pub lines_cons : (cs : List Command) (stage : Stage) (n : ℕ) (line : Numbered) (more : List Numbered) → lines_said cs stage n (line ∷ more) ≡ staged cs stage line (λ s. lines_said cs s (line.number + 1) more)
unfolding lines_said
lines_cons cs stage n line more = refl

pub said_first : (cs : List Command) (text : List ℕ) (h l : List LineText) → h ≡ [] → l ≡ [] → shown_of (schedule_said cs text) ≡ put_front h l (shown_of (lines_said cs stages.Opening 1 (kept_of 1 text)))
unfolding schedule_said
said_first cs text h l none nothing =
    nothing_in_front (shown_of (lines_said cs stages.Opening 1 (kept_of 1 text)))
    ∙ ap (λ (t : List LineText). put_front t [] (shown_of (lines_said cs stages.Opening 1 (kept_of 1 text)))) (sym none)
    ∙ ap (λ (t : List LineText). put_front h t (shown_of (lines_said cs stages.Opening 1 (kept_of 1 text)))) (sym nothing)

-- one line more was read
pub draft_read : (cs : List Command) (n m : ℕ) (ws : List (List ℕ)) (lines more : List Numbered) (old new : Draft) (whole : Result Texts PlanFault) (done : Unit {0}) → whole ≡ behind old (shown_of (lines_said cs old.stage n lines)) → lines ≡ record { number = m; words = ws } ∷ more → GivesDraft cs (record { number = m; words = ws }) old new (Ok done) → whole ≡ behind new (shown_of (lines_said cs new.stage (m + 1) more))
draft_read cs n m ws lines more old new whole done w here given =
    w ∙ ap (λ (ls : List Numbered). behind old (shown_of (lines_said cs old.stage n ls))) here
    ∙ ap (λ (r : Result Schedule PlanFault). behind old (shown_of r)) (lines_cons cs old.stage n (record { number = m; words = ws }) more)
    ∙ given (λ s. lines_said cs s (m + 1) more)

-- a line with a fault
pub draft_fault : (cs : List Command) (n m : ℕ) (ws : List (List ℕ)) (lines more : List Numbered) (old new : Draft) (whole : Result Texts PlanFault) (e : LineError) → whole ≡ behind old (shown_of (lines_said cs old.stage n lines)) → lines ≡ record { number = m; words = ws } ∷ more → GivesDraft cs (record { number = m; words = ws }) old new (Err e) → GivesSchedule whole (Err (error_on m e))
draft_fault cs n m ws lines more old new whole (line_errors.Memory e) w here given = tt
draft_fault cs n m ws lines more old new whole (line_errors.Because reason) w here given =
    w ∙ ap (λ (ls : List Numbered). behind old (shown_of (lines_said cs old.stage n ls))) here
    ∙ ap (λ (r : Result Schedule PlanFault). behind old (shown_of r)) (lines_cons cs old.stage n (record { number = m; words = ws }) more ∙ given (λ s. lines_said cs s (m + 1) more))

-- all lines were read
pub draft_end : (cs : List Command) (n : ℕ) (lines : List Numbered) (d : Draft) (whole : Result Texts PlanFault) → whole ≡ behind d (shown_of (lines_said cs d.stage n lines)) → lines ≡ [] → whole ≡ behind d (shown_of (finished d.stage n))
draft_end cs n lines d whole w none =
    w ∙ ap (λ (ls : List Numbered). behind d (shown_of (lines_said cs d.stage n ls))) none ∙ ap (λ (r : Result Schedule PlanFault). behind d (shown_of r)) (lines_nil cs d.stage n)
