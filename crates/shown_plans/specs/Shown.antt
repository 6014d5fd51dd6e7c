-- A scenario shown as a plan.
use Rattle.std.specs.Prelude.{◌≡◌, ◌≢◌, ◌≤◌, ℕ, ◌+◌, ◌==◌, Bool, false, length, if◌then◌else◌, nat_eq, List, [], ◌∷◌, ◌++◌, codes, decimal, Option, Some, None, Result, Ok, Err}
use Rattle.std.specs.List.{starts_with}
use Rattle.std.specs.Str.{bytes_eq}
use Rattle.std.proofs.Common.{Vec, Global}
use Rattle.std.specs.declared.alloc.AllocError.{AllocError}
use Rattle.packet_forms.specs.Faults.{fault_of}
use Rattle.packet_forms.specs.declared.packet.PacketFault.{PacketFault}
use Rattle.row_forms.specs.Words.{hex_said}
use Rattle.scenario.specs.declared.item.Item.TheVariants as answers
use Rattle.telecommands.specs.declared.command.Command.{Command}
use Rattle.telecommands.specs.Commands.{command_shown}
use Rattle.table_texts.specs.Lines.{Numbered, kept_of}
use Rattle.plan_text.specs.Lines.{line_text, sent_line}
use Rattle.timed_plans.specs.Checks.{answered, scenario_said}
use Rattle.shown_plans.specs.declared.plan.ShowError.{ShowError}
use Rattle.shown_plans.specs.declared.plan.ShowError.TheVariants as errors
use Rattle.shown_plans.specs.declared.line.Ended.{Ended}
use Rattle.shown_plans.specs.KeptFrames.{GivesEnd}

-- ---- which texts are shown

-- a line, by its words, begins with `epoch`
abbrev pub is_epoch_line : List (List ℕ) → Bool
is_epoch_line [] = false
is_epoch_line (first ∷ others) = bytes_eq first (codes "epoch")

abbrev pub begins_epoch : List Numbered → Bool
begins_epoch [] = false
begins_epoch (line ∷ more) = is_epoch_line line.words

-- the first line that isn't skipped begins with `epoch`, as that of a plan does too
unfoldable pub is_scenario_text : List ℕ → Bool
is_scenario_text text = begins_epoch (kept_of 1 text)

-- ---- one line

-- a packet's line: by its command's words, or as it is where these are `packet=` and its bytes
abbrev pub worded : List (List ℕ) → List ℕ → List ℕ
worded line text = if starts_with nat_eq text (codes "packet=") then line_text line else codes "send " ++ (text ++ 10 ∷ [])

abbrev pub packet_shown : List Command → List (List ℕ) → List ℕ → Option PacketFault → List ℕ
packet_shown cs line bytes None = worded line (command_shown cs bytes)
packet_shown cs line bytes (Some fault) = line_text line

abbrev pub bytes_shown : List Command → List (List ℕ) → Option (List ℕ) → List ℕ
bytes_shown cs line (Some bytes) = packet_shown cs line bytes (fault_of bytes)
bytes_shown cs line None = line_text line

-- `send HEX`, whose words behind `send` are these
abbrev pub sent_shown : List Command → List (List ℕ) → List (List ℕ) → List ℕ
sent_shown cs line [] = line_text line
sent_shown cs line (word ∷ []) = bytes_shown cs line (hex_said word)
sent_shown cs line (word ∷ w ∷ ws) = line_text line

-- a line of the plan
unfoldable pub line_shown : List Command → List ℕ → List (List ℕ) → List ℕ
line_shown cs first others =
    if bytes_eq first (codes "send") then sent_shown cs (first ∷ others) others else line_text (first ∷ others)

-- ---- all lines

-- the heading of a frame, where ticks have come since the last one was told
unfoldable pub heading : ℕ → ℕ → List ℕ
heading told come = if told == come then [] else line_text (codes "frame" ∷ decimal come ∷ [])

-- a line of the scenario where so many ticks have come, of which so many were told, and the lines behind it
abbrev pub shown_first : List Command → ℕ → ℕ → List (List ℕ) → (ℕ → ℕ → List ℕ) → List ℕ
shown_first cs told come [] next = next told come
shown_first cs told come (first ∷ others) next =
    if bytes_eq first (codes "tick") then next told (come + 1)
    else (heading told come ++ line_shown cs first others) ++ next come come

-- the text of a plan whose frames, up to the one that has come, have this heading
unfoldable pub lines_shown : List Command → ℕ → ℕ → List Numbered → List ℕ
lines_shown cs told come [] = []
lines_shown cs told come (line ∷ more) = shown_first cs told come line.words (λ t c. lines_shown cs t c more)

-- a scenario as a plan
unfoldable pub plan_shown : List Command → List ℕ → List ℕ
plan_shown cs text = lines_shown cs 0 0 (kept_of 1 text)

-- ---- the scenario's own lines

abbrev pub plain_packet : List (List ℕ) → Option (List ℕ) → List ℕ
plain_packet line (Some bytes) = line_text (sent_line bytes)
plain_packet line None = line_text line

abbrev pub plain_sent : List (List ℕ) → List (List ℕ) → List ℕ
plain_sent line [] = line_text line
plain_sent line (word ∷ []) = plain_packet line (hex_said word)
plain_sent line (word ∷ w ∷ ws) = line_text line

-- a line with one space between two words, and the digits of its packet in upper case
unfoldable pub plain_line : List ℕ → List (List ℕ) → List ℕ
plain_line first others = if bytes_eq first (codes "send") then plain_sent (first ∷ others) others else line_text (first ∷ others)

abbrev pub plain_words : List (List ℕ) → List ℕ
plain_words [] = []
plain_words (first ∷ others) = plain_line first others

unfoldable pub plain_lines : List Numbered → List ℕ
plain_lines [] = []
plain_lines (line ∷ more) = plain_words line.words ++ plain_lines more

-- a scenario's lines that aren't skipped, each so
abbrev pub plain_of : List ℕ → List ℕ
plain_of text = plain_lines (kept_of 1 text)

-- ---- what the code gives

-- the plan is shown, and its scenario has the lines that were shown; or the text is no scenario; or it is one whose plan isn't taken, or says
-- other lines
abbrev pub GivesShown : List Command → List ℕ → Result (Vec ℕ Global) ShowError → Type 0
GivesShown cs text (Ok shown) = (shown.items ≡ plan_shown cs text) × (scenario_said cs (plan_shown cs text) ≡ Ok (plain_of text))
GivesShown cs text (Err (errors.Memory e)) = Unit {0}
GivesShown cs text (Err (errors.Scenario fault)) = GivesEnd (answered text) (Err fault)
GivesShown cs text (Err errors.Long) = (answered text ≡ answers.End) × (4294967295 ≤ length (plan_shown cs text))
GivesShown cs text (Err (errors.Plan fault)) = (answered text ≡ answers.End) × (scenario_said cs (plan_shown cs text) ≡ Err fault)
GivesShown cs text (Err errors.Differs) = (answered text ≡ answers.End) × (scenario_said cs (plan_shown cs text) ≢ Ok (plain_of text))

-- a line was shown, and so many frames have ended: whatever stands behind it, the text is the plan's with it
abbrev pub GivesLine : List Command → Ended → List (List ℕ) → List ℕ → List ℕ → Result Ended AllocError → Type 0
GivesLine cs e line old new (Ok more) =
    (next : ℕ → ℕ → List ℕ) → old ++ shown_first cs e.told e.come line next ≡ new ++ next more.told more.come
GivesLine cs e line old new (Err error) = Unit {0}
