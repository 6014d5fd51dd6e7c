-- A frame, and a run over a list of frames.
use Rattle.std.specs.Prelude.{ℕ, ◌+◌, Bool, not, if◌then◌else◌, List, [], ◌∷◌, ◌++◌, map, fold, Option, Some, None}
use Rattle.std.specs.List.{flat_map, list_any}
use Rattle.histories.specs.Words.{along}
use Rattle.bus_pipes.specs.Pipes.{Pipes, empty_pipes, emptied_pipes}
use Rattle.bus_pipes.specs.Delivery.{after_offers, drops_from}
use Rattle.bus_pipes.specs.declared.names.Out.{Out}
use Rattle.table_files.specs.Files.{file_at, kind_at, loads_of}
use Rattle.table_files.specs.declared.kinds.TableKind.{TableKind}
use Rattle.memory_window.specs.Memory.{Memory, start_memory}
use Rattle.memory_window.specs.Landing.{land}
use Rattle.memory_window.specs.declared.regions.Region.{Region}
use Rattle.memory_window.specs.declared.operations.MemOp.{MemOp}
use Rattle.sc_sequences.specs.Histories.{ScEntry, sequences_of}
use Rattle.sc_sequences.specs.State.{sequence_place, runs_in}
use Rattle.mm_core.specs.Step.{Input as MmInput, mm_operations}
use Rattle.hs_monitors.specs.Histories.{HsEntry}
use Rattle.hs_monitors.specs.Step.{resets_made, resets_maximum}
use Rattle.cs_slices.specs.Histories.{CsEntry}
use Rattle.md_dwell.specs.Histories.{MdEntry}
use Rattle.lc_watch.specs.Histories.{Input as LcInput}
use Rattle.packet_log.specs.Lines.{drop_line}
use Rattle.packet_log.specs.Items.{item_line}
use Rattle.scenario.specs.declared.frame.App.{App}
use Rattle.scenario.specs.declared.frame.App.TheVariants as apps
use Rattle.scenario.specs.FrameLists.{Frame}
use Rattle.active_tables.specs.Tables.{TableSet, with_file, tables_of, lc_named}
use Rattle.app_suite.specs.Activations.{naming_of, hs_activated, cs_activated, sc_activated, md_activated, table_event}
use Rattle.frame_wires.specs.Sending.{is_same, upset_by, left_in_pipe, sent_of, is_reset, offered}
use Rattle.packet_log.specs.Sent.{makes}
use Rattle.app_suite.specs.Wakes.{history_after, unless, joined}
use Rattle.app_suite.specs.declared.activations.Naming.{Naming}
use Rattle.app_suite.specs.declared.activations.Naming.TheVariants.{Accepted, Refused, Running}
use Rattle.app_suite.specs.Applications.{Active, hs_setup, sc_begun, lc_setup, hs_gives, cs_gives, sc_gives, mm_gives, md_gives, lc_gives, hs_reads, cs_reads, sc_reads, mm_reads, md_reads, lc_reads}

-- what a run begins with: the time of frame 0, the regions of memory, and the named files
pub record Setup : Type 0 where
  pub epoch : ℕ
  pub regions : List Region
  pub files : List (List ℕ)

-- what a run has come to: how many frames there were; the time at which SC began, the resets made and their maximum with which HS began,
-- the tables with which the histories began and those that are active; the history of each application, what the pipes hold, the packets
-- made so far, and memory
pub record State : Type 0 where
  pub number : ℕ
  pub began : ℕ
  pub resets : ℕ
  pub limit : ℕ
  pub first : TableSet
  pub tables : TableSet
  pub hs : List HsEntry
  pub cs : List CsEntry
  pub sc : List ScEntry
  pub mm : List MmInput
  pub md : List MdEntry
  pub lc : List LcInput
  pub pipes : Pipes
  pub made : List (List ℕ)
  pub memory : Memory

-- before the first frame: SC begins at its time, HS with no reset made, of at most three, and the pipes of LC are there where a table of it is
-- named
unfoldable pub beginning : Setup → State
beginning setup = record { number = 0; began = setup.epoch; resets = 0; limit = 3; first = tables_of setup.files; tables = tables_of setup.files; hs = []; cs = []; sc = []; mm = []; md = []; lc = []; pipes = empty_pipes (lc_named setup.files); made = []; memory = start_memory setup.regions }

-- the tables with which the histories of a run began and those that are active, and what SC's and HS's began with besides
abbrev pub active_in : State → Active
active_in s = record { first = s.first; now = s.tables; began = s.began; resets = s.resets; limit = s.limit }

-- whether the table of this kind is a sequence that runs
abbrev pub runs_at : State → TableKind → Bool
runs_at s kind = runs_in (sequences_of (sc_begun (active_in s)) s.sc).all (sequence_place kind)

-- what becomes of a line that names a file of this kind, or no table
abbrev pub naming_at : State → Option TableKind → Naming
naming_at s None = Refused
naming_at s (Some kind) = naming_of (runs_at s kind) kind

-- the state once a table of this kind became active, which the tables have now: its application's history has the activation
abbrev pub with_active : State → TableKind → TableSet → State
with_active s kind tables = record s {
  tables = tables;
  hs = s.hs ++ hs_activated kind tables.hs;
  cs = s.cs ++ cs_activated kind tables;
  sc = s.sc ++ sc_activated kind tables.sc;
  md = s.md ++ md_activated kind tables.dwells;
}

-- the state once a line named a table of this kind, by what becomes of it
abbrev pub after_line : Naming → State → TableKind → TableSet → State
after_line Accepted s kind tables = with_active s kind tables
after_line Refused s kind tables = s
after_line Running s kind tables = s

-- the state once a line named this file, by the file's kind
abbrev pub after_naming : State → List ℕ → Option TableKind → State
after_naming s file None = s
after_naming s file (Some kind) = after_line (naming_of (runs_at s kind) kind) s kind (with_file s.tables file)

-- the state once a line named file n
abbrev pub after_activation : Setup → State → ℕ → State
after_activation setup s n = after_naming s (file_at setup.files n) (kind_at setup.files n)

-- the state once the activations of a frame were done, in line order
unfoldable pub activated_at : Setup → State → Frame → State
activated_at setup s frame = fold (after_activation setup) s frame.activations

-- A state below, up to `after_wakeups`, is that behind the activations of the frame: the same sequences run there as before them.

-- whether an application is held in a frame
abbrev pub is_held : App → Frame → Bool
is_held app frame = list_any (is_same app) frame.held

-- LC can't be held; it takes no part where its pipes aren't there
abbrev pub is_away : State → Bool
is_away s = not s.pipes.watched

-- the frame's image: memory with the frame's upsets, written in line order
unfoldable pub image_at : State → Frame → Memory
image_at s frame = fold upset_by s.memory frame.upsets

-- the frame's time
abbrev pub time_at : Setup → State → ℕ
time_at setup s = setup.epoch + s.number

-- what is told of lines that name these files
unfoldable pub table_events : Setup → State → List ℕ → List Out
table_events setup s numbers = map (λ (n : ℕ). table_event (time_at setup s) (naming_at s (kind_at setup.files n))) numbers

-- what HS, CS, SC, MM, MD and LC read in a frame
unfoldable pub hs_input_at : Setup → State → Frame → HsEntry
hs_input_at setup s frame = hs_reads (time_at setup s) s.pipes.hs s.pipes.hs_ev frame.counters

unfoldable pub cs_input_at : Setup → State → Frame → CsEntry
cs_input_at setup s frame = cs_reads (time_at setup s) s.pipes.cs (image_at s frame)

unfoldable pub sc_input_at : Setup → State → Frame → ScEntry
sc_input_at setup s frame = sc_reads (time_at setup s) s.pipes.sc

unfoldable pub mm_input_at : Setup → State → Frame → MmInput
mm_input_at setup s frame = mm_reads (loads_of setup.files) (time_at setup s) s.pipes.mm (image_at s frame)

unfoldable pub md_input_at : Setup → State → Frame → MdEntry
md_input_at setup s frame = md_reads (time_at setup s) s.pipes.md (image_at s frame)

unfoldable pub lc_input_at : Setup → State → LcInput
lc_input_at setup s = lc_reads (time_at setup s) s.pipes.lc s.pipes.lc_tlm

-- what is told of the frame's activations, and what the applications give in it, a list each, in their order
unfoldable pub items_at : Setup → State → Frame → List (List Out)
items_at setup s frame =
    table_events setup s frame.activations
    ∷ unless (is_held apps.Hs frame) (hs_gives (active_in s) s.hs (hs_input_at setup s frame))
    ∷ unless (is_held apps.Cs frame) (cs_gives (active_in s) s.cs (cs_input_at setup s frame))
    ∷ unless (is_held apps.Sc frame) (sc_gives (active_in s) s.sc (sc_input_at setup s frame))
    ∷ unless (is_held apps.Mm frame) (mm_gives s.tables s.mm (mm_input_at setup s frame))
    ∷ unless (is_held apps.Md frame) (md_gives (active_in s) s.md (md_input_at setup s frame))
    ∷ unless (is_away s) (lc_gives (lc_setup s.tables) s.lc (lc_input_at setup s))
    ∷ []

-- the memory operations of a frame, in command order
unfoldable pub operations_at : Setup → State → Frame → List MemOp
operations_at setup s frame = unless (is_held apps.Mm frame) (mm_operations (mm_input_at setup s frame))

-- what the pipes hold once the applications were woken that aren't among those that are held
unfoldable pub left_by : List App → Pipes → Pipes
left_by held pipes = record {
  watched = pipes.watched;
  hs = left_in_pipe (list_any (is_same apps.Hs) held) pipes.hs;
  hs_ev = left_in_pipe (list_any (is_same apps.Hs) held) pipes.hs_ev;
  cs = left_in_pipe (list_any (is_same apps.Cs) held) pipes.cs;
  sc = left_in_pipe (list_any (is_same apps.Sc) held) pipes.sc;
  mm = left_in_pipe (list_any (is_same apps.Mm) held) pipes.mm;
  md = left_in_pipe (list_any (is_same apps.Md) held) pipes.md;
  lc = [];
  lc_tlm = [];
}

-- the items of a frame as they are sent
unfoldable pub sent_at : Setup → State → Frame → List Out
sent_at setup s frame = sent_of s.made (joined (items_at setup s frame))

-- whether a processor reset is asked for in a frame
unfoldable pub resets_at : Setup → State → Frame → Bool
resets_at setup s frame = list_any is_reset (joined (items_at setup s frame))

-- what is offered to the pipes: the frame's packets, and then the applications'; nothing where a processor reset is asked for
unfoldable pub offers_at : Setup → State → Frame → List (List ℕ)
offers_at setup s frame = offered (resets_at setup s frame) frame.sends (sent_at setup s frame)

-- the lines of a frame: of its items, and then of its drops
unfoldable pub lines_at : Setup → State → Frame → List ℕ
lines_at setup s frame =
    flat_map (item_line s.number) (sent_at setup s frame)
    ++ flat_map (drop_line s.number) (drops_from (left_by frame.held s.pipes) (offers_at setup s frame))

-- what the run has come to after the wakeups of a frame
unfoldable pub after_wakeups : Setup → State → Frame → State
after_wakeups setup s frame = record {
  number = s.number + 1;
  began = s.began;
  resets = s.resets;
  limit = s.limit;
  first = s.first;
  tables = s.tables;
  hs = history_after (is_held apps.Hs frame) s.hs (hs_input_at setup s frame);
  cs = history_after (is_held apps.Cs frame) s.cs (cs_input_at setup s frame);
  sc = history_after (is_held apps.Sc frame) s.sc (sc_input_at setup s frame);
  mm = history_after (is_held apps.Mm frame) s.mm (mm_input_at setup s frame);
  md = history_after (is_held apps.Md frame) s.md (md_input_at setup s frame);
  lc = history_after (is_away s) s.lc (lc_input_at setup s);
  pipes = after_offers (left_by frame.held s.pipes) (offers_at setup s frame);
  made = s.made ++ flat_map makes (joined (items_at setup s frame));
  memory = land (loads_of setup.files) (operations_at setup s frame) (image_at s frame);
}

-- what the run has come to once a processor reset took effect behind a frame: the pipes and the histories are empty, and the first named
-- file of each kind is active; HS keeps the resets made and their maximum, and SC begins with the next frame's time
unfoldable pub behind_reset : Setup → State → State
behind_reset setup s = record (beginning setup) {
  number = s.number;
  began = time_at setup s;
  resets = resets_made (hs_setup (active_in s)) s.hs;
  limit = resets_maximum (hs_setup (active_in s)) s.hs;
  pipes = emptied_pipes s.pipes;
  made = s.made;
  memory = s.memory;
}

-- the same, where one was asked for
abbrev pub behind : Bool → Setup → State → State
behind resets setup s = if resets then behind_reset setup s else s

-- what the run has come to after one more frame
unfoldable pub after_frame : Setup → State → Frame → State
after_frame setup s frame = let t = activated_at setup s frame in behind (resets_at setup t frame) setup (after_wakeups setup t frame)

-- what a run has come to after these frames
unfoldable pub run_of : Setup → List Frame → State
run_of setup frames = fold (after_frame setup) (beginning setup) frames

-- the lines of a frame that comes after these frames
unfoldable pub frame_lines : Setup → List Frame → Frame → List ℕ
frame_lines setup frames frame = let s = run_of setup frames in lines_at setup (activated_at setup s frame) frame

-- the log of a run
unfoldable pub log_of : Setup → List Frame → List ℕ
log_of setup frames = flat_map (λ (lines : List ℕ). lines) (along (frame_lines setup) frames)
