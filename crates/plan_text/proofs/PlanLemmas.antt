-- Lemmas on the lines of plans.
use Rattle.std.proofs.Common.{◌≡◌, ℕ, ◌+◌, List, [], ◌∷◌, ◌++◌, refl, ap, sym, ◌∙◌, append_assoc, append-nil}
use Rattle.std.specs.Prelude.{Result, Ok, Err}
use Rattle.table_texts.specs.Lines.{Numbered, kept_of}
use Rattle.telecommands.specs.declared.command.Command.{Command}
use Rattle.plan_text.specs.declared.fault.PlanReason.{PlanReason}
use Rattle.plan_text.specs.declared.fault.PlanFault.{PlanFault}
use Rattle.plan_text.specs.declared.fault.LineError.{LineError}
use Rattle.plan_text.specs.declared.fault.LineError.TheVariants as line_errors
use Rattle.plan_text.specs.declared.stage.Course.{Course}
use Rattle.plan_text.specs.declared.stage.Stage.{Stage}
use Rattle.plan_text.specs.declared.stage.Stage.TheVariants as stages
use Rattle.plan_text.specs.Lines.{line_text, text_of}
use Rattle.plan_text.specs.Plans.{◌>>=◌, Made, Written, written, passed, one_more, item_line, line_said, then_lines, with_lines, with_text, lines_said, plan_said, scenario_said, finished, fault_on, error_on, GivesLine, GivesScenario}
use Rattle.plan_text.proofs.WritingLemmas.{text_nil, text_one, text_append}

abbrev as_written : Stage → List ℕ → Result Written PlanReason
as_written stage text = Ok (record { text = text; stage = stage })

-- a line by itself was written
pub line_put : (stage : Stage) (line : List (List ℕ)) (old new : List ℕ) → new ≡ old ++ line_text line → written old (passed stage line) ≡ Ok (record { text = new; stage = stage })
line_put stage line old new put = ap (as_written stage) (ap (λ (t : List ℕ). old ++ t) (text_one line) ∙ sym put)

item_when : (more : Result Course PlanReason) (c : Course) (line : List (List ℕ)) → more ≡ Ok c → more >>= (λ m. passed (stages.Frames m) line) ≡ passed (stages.Frames c) line
item_when more c line e = rw e refl

-- a line that is one more item was written
pub item_put : (c more : Course) (line : List (List ℕ)) (old new : List ℕ) → one_more c ≡ Ok more → new ≡ old ++ line_text line → written old (item_line c line) ≡ Ok (record { text = new; stage = stages.Frames more })
item_put c more line old new room put = ap (written old) (item_when (one_more c) more line room) ∙ line_put (stages.Frames more) line old new put

-- ---- all lines

lines_nil : (cs : List Command) (stage : Stage) (n : ℕ) → lines_said cs stage n [] ≡ finished stage n
unfolding lines_said
lines_nil cs stage n = refl

pub lines_cons : (cs : List Command) (stage : Stage) (n : ℕ) (line : Numbered) (more : List Numbered) → lines_said cs stage n (line ∷ more) ≡ then_lines line.number (line_said cs stage line.words) (λ s. lines_said cs s (line.number + 1) more)
unfolding lines_said
lines_cons cs stage n line more = refl

text_front : (old : List ℕ) (front : List (List (List ℕ))) (r : Result (List (List (List ℕ))) PlanFault) → with_text old (with_lines front r) ≡ with_text (old ++ text_of front) r
text_front old front (Ok lines) = ap Ok (ap (λ (t : List ℕ). old ++ t) (text_append front lines) ∙ sym (append_assoc old (text_of front) (text_of lines)))
text_front old front (Err fault) = refl

abbrev text_in : Result Written PlanReason → List ℕ
text_in (Ok w) = w.text
text_in (Err reason) = []

abbrev stage_in : Result Written PlanReason → Stage
stage_in (Ok w) = w.stage
stage_in (Err reason) = stages.Opening

line_then : (old mid : List ℕ) (said : Result Made PlanReason) (s : Stage) (m : ℕ) (next : Stage → Result (List (List (List ℕ))) PlanFault) → written old said ≡ Ok (record { text = mid; stage = s }) → with_text old (then_lines m said next) ≡ with_text mid (next s)
line_then old mid (Ok made) s m next e =
    text_front old made.lines (next made.stage)
    ∙ ap (λ (t : List ℕ). with_text t (next made.stage)) (ap text_in e)
    ∙ ap (λ (t : Stage). with_text mid (next t)) (ap stage_in e)
line_then old mid (Err reason) s m next e = absurd (cc)

-- one line more was read
pub line_read : (cs : List Command) (stage s : Stage) (n m : ℕ) (ws : List (List ℕ)) (lines more : List Numbered) (old mid : List ℕ) → lines ≡ record { number = m; words = ws } ∷ more → written old (line_said cs stage ws) ≡ Ok (record { text = mid; stage = s }) → with_text old (lines_said cs stage n lines) ≡ with_text mid (lines_said cs s (m + 1) more)
line_read cs stage s n m ws lines more old mid e said =
    ap (λ (xs : List Numbered). with_text old (lines_said cs stage n xs)) e
    ∙ ap (with_text old) (lines_cons cs stage n (record { number = m; words = ws }) more)
    ∙ line_then old mid (line_said cs stage ws) s m (λ t. lines_said cs t (m + 1) more) said

line_fault : (old : List ℕ) (said : Result Made PlanReason) (m : ℕ) (reason : PlanReason) (next : Stage → Result (List (List (List ℕ))) PlanFault) → written old said ≡ Err reason → with_text old (then_lines m said next) ≡ Err (fault_on m reason)
line_fault old (Ok made) m reason next e = absurd (cc)
line_fault old (Err r) m reason next e = let same : r ≡ reason = cc in ap (λ (x : PlanReason). Err (fault_on m x)) same

-- a line with a fault
pub error_gives : (cs : List Command) (stage : Stage) (n m : ℕ) (ws : List (List ℕ)) (lines more : List Numbered) (old new : List ℕ) (whole : Result (List ℕ) PlanFault) (e : LineError) → whole ≡ with_text old (lines_said cs stage n lines) → lines ≡ record { number = m; words = ws } ∷ more → GivesLine (written old (line_said cs stage ws)) new (Err e) → GivesScenario whole new (Err (error_on m e))
error_gives cs stage n m ws lines more old new whole (line_errors.Memory e) w here given = tt
error_gives cs stage n m ws lines more old new whole (line_errors.Because reason) w here said =
    w ∙ ap (λ (xs : List Numbered). with_text old (lines_said cs stage n xs)) here
    ∙ ap (with_text old) (lines_cons cs stage n (record { number = m; words = ws }) more)
    ∙ line_fault old (line_said cs stage ws) m reason (λ t. lines_said cs t (m + 1) more) said

-- all lines were read
pub lines_end : (cs : List Command) (stage : Stage) (n : ℕ) (lines : List Numbered) (out : List ℕ) (whole : Result (List ℕ) PlanFault) (r : Result (List (List (List ℕ))) PlanFault) → whole ≡ with_text out (lines_said cs stage n lines) → lines ≡ [] → finished stage n ≡ r → whole ≡ with_text out r
lines_end cs stage n lines out whole r w none is =
    w ∙ ap (λ (xs : List Numbered). with_text out (lines_said cs stage n xs)) none ∙ ap (with_text out) (lines_nil cs stage n ∙ is)

-- nothing more is written
pub text_ends : (out : List ℕ) → with_text out (Ok []) ≡ Ok out
text_ends out = ap Ok (ap (λ (t : List ℕ). out ++ t) text_nil ∙ append-nil out)

pub said_first : (cs : List Command) (text : List ℕ) (out : List ℕ) → out ≡ [] → scenario_said cs text ≡ with_text out (lines_said cs stages.Opening 1 (kept_of 1 text))
unfolding plan_said
said_first cs text out none = ap (λ (t : List ℕ). with_text t (lines_said cs stages.Opening 1 (kept_of 1 text))) (sym none)
