-- A run at one more frame.
use Rattle.std.proofs.Common.{◌≡◌, ℕ, ◌+◌, List, [], ◌∷◌, ◌++◌, length, refl, sym, ◌∙◌, ap, fold, arith, add-zero, zero-add, true, false, Bool, not, Option, Some, None}
use Rattle.std.specs.List.{flat_map}
use Rattle.std.proofs.lemmas.List.Sums.{fold_push}
use Rattle.bus_pipes.specs.Pipes.{Pipes}
use Rattle.bus_pipes.specs.Delivery.{drops_from}
use Rattle.bus_pipes.specs.declared.names.Out.{Out}
use Rattle.bus_pipes.specs.declared.names.Dropped.{Dropped}
use Rattle.table_files.specs.Files.{file_at, kind_at}
use Rattle.table_files.specs.declared.kinds.TableKind.{TableKind}
use Rattle.app_suite.specs.Activations.{naming_of}
use Rattle.app_suite.specs.declared.activations.Naming.{Naming}
use Rattle.app_suite.specs.declared.activations.Naming.TheVariants.{Accepted, Refused, Running}
use Rattle.memory_window.specs.Memory.{Memory, regions_of}
use Rattle.memory_window.proofs.Areas.{regions-changed, regions-cut}
use Rattle.packet_log.specs.Items.{item_line}
use Rattle.packet_log.specs.Lines.{drop_line}
use Rattle.scenario.specs.declared.frame.Upset.{Upset}
use Rattle.scenario.specs.FrameLists.{Frame}
use Rattle.bus_pipes.proofs.Deliveries.{watched_after}
use Rattle.active_tables.specs.Tables.{TableSet, with_file, lc_named}
use Rattle.frame_wires.specs.Sending.{upset_by}
use Rattle.frame_runs.specs.Runs.{Setup, State, beginning, lc_input_at, runs_at, with_active, after_line, after_naming, after_activation, activated_at, after_wakeups, image_at, left_by, sent_at, offers_at, after_frame, run_of, frame_lines, lines_at, resets_at, behind_reset, behind}
use Rattle.app_suite.specs.Wakes.{history_after}

-- what a run has come to, at one more frame
pub run_more : (setup : Setup) (frames : List Frame) (frame : Frame) → run_of setup (frames ++ frame ∷ []) ≡ after_frame setup (run_of setup frames) frame
unfolding run_of
run_more setup frames frame = fold_push (after_frame setup) (beginning setup) frames frame

-- and without frames
pub run_none : (setup : Setup) → run_of setup [] ≡ beginning setup
unfolding run_of
run_none setup = refl

-- what a line that names a file keeps, where a table that becomes active does
line_keeps : {B : Type 0} (f : State → B) (s : State) (kind : TableKind) (tables : TableSet) (naming : Naming) → f (with_active s kind tables) ≡ f s → f (after_line naming s kind tables) ≡ f s
line_keeps f s kind tables Accepted keeps = keeps
line_keeps f s kind tables Refused keeps = refl
line_keeps f s kind tables Running keeps = refl

naming_keeps : {B : Type 0} (f : State → B) (s : State) (file : List ℕ) (named : Option TableKind) → ((kind : TableKind) (tables : TableSet) → f (with_active s kind tables) ≡ f s) → f (after_naming s file named) ≡ f s
naming_keeps f s file None keeps = refl
naming_keeps f s file (Some kind) keeps = line_keeps f s kind (with_file s.tables file) (naming_of (runs_at s kind) kind) (keeps kind (with_file s.tables file))

-- and all lines of a frame that do
pub activations_keep : {B : Type 0} (f : State → B) (setup : Setup) (s : State) (numbers : List ℕ) → ((t : State) (kind : TableKind) (tables : TableSet) → f (with_active t kind tables) ≡ f t)
    → f (fold (after_activation setup) s numbers) ≡ f s
activations_keep f setup s [] keeps = refl
activations_keep f setup s (n ∷ numbers) keeps =
    activations_keep f setup (after_activation setup s n) numbers keeps ∙ naming_keeps f s (file_at setup.files n) (kind_at setup.files n) (keeps s)

pub folded_number : (setup : Setup) (s : State) (numbers : List ℕ) → (fold (after_activation setup) s numbers).number ≡ s.number
folded_number setup s numbers = activations_keep (λ (t : State). t.number) setup s numbers (λ t kind tables. refl)

pub activated_number : (setup : Setup) (s : State) (frame : Frame) → (activated_at setup s frame).number ≡ s.number
unfolding activated_at
activated_number setup s frame = folded_number setup s frame.activations

activated_memory : (setup : Setup) (s : State) (frame : Frame) → (activated_at setup s frame).memory ≡ s.memory
unfolding activated_at
activated_memory setup s frame = activations_keep (λ (t : State). t.memory) setup s frame.activations (λ t kind tables. refl)

pub activated_image : (setup : Setup) (s : State) (frame : Frame) → image_at (activated_at setup s frame) frame ≡ image_at s frame
unfolding image_at
activated_image setup s frame = ap (λ (m : Memory). fold upset_by m frame.upsets) (activated_memory setup s frame)

-- what stays where a processor reset takes effect stays either way
behind_keeps : {B : Type 0} (f : State → B) (resets : Bool) (setup : Setup) (s : State) → f (behind_reset setup s) ≡ f s → f (behind resets setup s) ≡ f s
behind_keeps f true setup s keeps = keeps
behind_keeps f false setup s keeps = refl

frame_number : (setup : Setup) (s : State) (frame : Frame) → (after_frame setup s frame).number ≡ s.number + 1
unfolding after_frame after_wakeups behind_reset
frame_number setup s frame =
    let t = activated_at setup s frame in
    behind_keeps (λ (u : State). u.number) (resets_at setup t frame) setup (after_wakeups setup t frame) refl ∙ ap (λ (n : ℕ). n + 1) (activated_number setup s frame)

-- the number of frames, behind a state
number_from : (setup : Setup) (s : State) (frames : List Frame) → (fold (after_frame setup) s frames).number ≡ s.number + length frames
number_from setup s [] = sym (add-zero s.number)
number_from setup s (frame ∷ frames) =
    let one = frame_number setup s frame in
    number_from setup (after_frame setup s frame) frames ∙ omega (arith, one)

-- the number of frames of a run
pub run_number : (setup : Setup) (frames : List Frame) → (run_of setup frames).number ≡ length frames
unfolding run_of beginning
run_number setup frames = number_from setup (beginning setup) frames ∙ zero-add (length frames)

-- upsets leave the regions
upset_regions : (memory : Memory) (upsets : List Upset) → regions_of (fold upset_by memory upsets).areas ≡ regions_of memory.areas
upset_regions memory [] = refl
upset_regions memory (upset ∷ upsets) = upset_regions (upset_by memory upset) upsets ∙ regions-changed _ memory.areas

pub regions_same : (before after : Memory) (upsets : List Upset) → after ≡ fold upset_by before upsets → regions_of after.areas ≡ regions_of before.areas
regions_same before after upsets is = ap (λ (m : Memory). regions_of m.areas) is ∙ upset_regions before upsets

-- a frame leaves the regions
frame_regions : (setup : Setup) (s : State) (frame : Frame) → regions_of (after_frame setup s frame).memory.areas ≡ regions_of s.memory.areas
unfolding after_frame after_wakeups behind_reset image_at
frame_regions setup s frame =
    let t = activated_at setup s frame in
    ap (λ (m : Memory). regions_of m.areas) (behind_keeps (λ (u : State). u.memory) (resets_at setup t frame) setup (after_wakeups setup t frame) refl)
    ∙ regions-changed _ (fold upset_by t.memory frame.upsets).areas ∙ upset_regions t.memory frame.upsets ∙ ap (λ (m : Memory). regions_of m.areas) (activated_memory setup s frame)

-- frames leave the regions
regions_from : (setup : Setup) (s : State) (frames : List Frame) → regions_of (fold (after_frame setup) s frames).memory.areas ≡ regions_of s.memory.areas
regions_from setup s [] = refl
regions_from setup s (frame ∷ frames) = regions_from setup (after_frame setup s frame) frames ∙ frame_regions setup s frame

-- the regions of a run are those of its setup
pub run_regions : (setup : Setup) (frames : List Frame) → regions_of (run_of setup frames).memory.areas ≡ setup.regions
unfolding run_of beginning
run_regions setup frames = regions_from setup (beginning setup) frames ∙ regions-cut setup.regions _

-- whether LC is there stays
frame_watched : (setup : Setup) (s : State) (frame : Frame) → (after_frame setup s frame).pipes.watched ≡ s.pipes.watched
unfolding after_frame after_wakeups behind_reset left_by activated_at
frame_watched setup s frame =
    let t = activated_at setup s frame in
    behind_keeps (λ (u : State). u.pipes.watched) (resets_at setup t frame) setup (after_wakeups setup t frame) refl
    ∙ watched_after (left_by frame.held t.pipes) (offers_at setup t frame) ∙ activations_keep (λ (u : State). u.pipes.watched) setup s frame.activations (λ u kind tables. refl)

watched_from : (setup : Setup) (s : State) (frames : List Frame) → (fold (after_frame setup) s frames).pipes.watched ≡ s.pipes.watched
watched_from setup s [] = refl
watched_from setup s (frame ∷ frames) = watched_from setup (after_frame setup s frame) frames ∙ frame_watched setup s frame

-- in a run it is there exactly where a table of it is named
pub run_watched : (setup : Setup) (frames : List Frame) → (run_of setup frames).pipes.watched ≡ lc_named setup.files
unfolding run_of beginning
run_watched setup frames = watched_from setup (beginning setup) frames

-- LC's history stays where it isn't there
frame_limits : (setup : Setup) (s : State) (frame : Frame) → s.pipes.watched ≡ false → s.lc ≡ [] → (after_frame setup s frame).lc ≡ []
unfolding after_frame after_wakeups behind_reset beginning activated_at
frame_limits setup s frame away none =
    let t = activated_at setup s frame in
    let pipes : t.pipes ≡ s.pipes = activations_keep (λ (u : State). u.pipes) setup s frame.activations (λ u kind tables. refl) in
    let history : t.lc ≡ s.lc = activations_keep (λ (u : State). u.lc) setup s frame.activations (λ u kind tables. refl) in
    let stays : (after_wakeups setup t frame).lc ≡ [] = ap (λ (w : Bool). history_after (not w) t.lc (lc_input_at setup t)) (ap (λ (p : Pipes). p.watched) pipes ∙ away) ∙ history ∙ none in
    by_reset (resets_at setup t frame) t stays
  where
    by_reset : (resets : Bool) (t : State) → (after_wakeups setup t frame).lc ≡ [] → (behind resets setup (after_wakeups setup t frame)).lc ≡ []
    by_reset true t stays = refl
    by_reset false t stays = stays

limits_from : (setup : Setup) (s : State) (frames : List Frame) → s.pipes.watched ≡ false → s.lc ≡ [] → (fold (after_frame setup) s frames).lc ≡ []
limits_from setup s [] away none = none
limits_from setup s (frame ∷ frames) away none = limits_from setup (after_frame setup s frame) frames (frame_watched setup s frame ∙ away) (frame_limits setup s frame away none)

pub run_limits : (setup : Setup) (frames : List Frame) → lc_named setup.files ≡ false → (run_of setup frames).lc ≡ []
unfolding run_of beginning
run_limits setup frames away = limits_from setup (beginning setup) frames away refl

-- the lines of a frame, by what was sent and dropped
pub lines_are : (setup : Setup) (frames : List Frame) (frame : Frame) (number : ℕ) (sent : List Out) (drops : List Dropped) → number ≡ (run_of setup frames).number
    → sent ≡ sent_at setup (activated_at setup (run_of setup frames) frame) frame
    → drops ≡ drops_from (left_by frame.held (activated_at setup (run_of setup frames) frame).pipes) (offers_at setup (activated_at setup (run_of setup frames) frame) frame) → flat_map (item_line number) sent ++ flat_map (drop_line number) drops ≡ frame_lines setup frames frame
unfolding frame_lines lines_at
lines_are setup frames frame number sent drops a b c = rw (a ∙ sym (activated_number setup (run_of setup frames) frame), b, c) refl
