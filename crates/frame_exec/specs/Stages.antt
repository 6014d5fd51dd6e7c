-- What the stages of a frame change in the bench.
use Rattle.std.specs.Prelude.{◌≡◌, ℕ, ◌+◌, false, List, [], ◌++◌, length}
use Rattle.std.specs.List.{AllPass, flat_map, fold, list_any}
use Rattle.bus_pipes.specs.Delivery.{after_offers, drops_from}
use Rattle.bus_pipes.specs.Counted.{is_item_counted}
use Rattle.bus_pipes.specs.declared.names.Out.{Out}
use Rattle.table_files.specs.Files.{loads_of}
use Rattle.memory_window.specs.Landing.{land}
use Rattle.packet_forms.specs.declared.name.Counter.{Counter}
use Rattle.packet_log.specs.Items.{item_line}
use Rattle.packet_log.specs.Lines.{drop_line}
use Rattle.packet_log.specs.Standing.{Stands as LogStands}
use Rattle.scenario.specs.declared.frame.App.{App}
use Rattle.scenario.specs.declared.frame.Upset.{Upset}
use Rattle.scenario.specs.FrameLists.{Frame}
use Rattle.frame_exec.specs.declared.bench.Bench.{Bench}
use Rattle.frame_wires.specs.Sending.{upset_by, sent_of, is_reset, offered}
use Rattle.packet_log.specs.Sent.{makes}
use Rattle.app_suite.specs.Wakes.{joined}
use Rattle.frame_runs.specs.Runs.{Setup, State, after_activation, activated_at, run_of, table_events, image_at, items_at, operations_at, left_by, sent_at, resets_at, offers_at, after_wakeups, behind}
use Rattle.app_suite.specs.Landable.{CanLand}
use Rattle.app_suite.specs.Jobs.{AllLeave, jobs_of}
use Rattle.app_suite.specs.Turns.{Seen}
use Rattle.frame_exec.specs.Parts.{KeepsApps, KeepsSlots, AreClear, CanBeSent, StepAll, TakeAll, items_in}
use Rattle.frame_exec.specs.Standing.{AppsStand, Has}

-- the time of the frame that comes
abbrev pub time_of : Bench → ℕ
time_of b = b.epoch + b.number

-- number, epoch, the mark of failure, the tables and the lines that wait stay
pub record IsSameRun (old new : Bench) : Type 0 where
  pub lines : new.lines ≡ old.lines
  pub epoch : new.epoch ≡ old.epoch
  pub number : new.number ≡ old.number
  pub failed : new.failed ≡ old.failed
  pub tables : new.tables ≡ old.tables

-- number, epoch, the mark of failure, the named files and the lines that wait stay
pub record GoesOn (old new : Bench) : Type 0 where
  pub lines : new.lines ≡ old.lines
  pub epoch : new.epoch ≡ old.epoch
  pub number : new.number ≡ old.number
  pub failed : new.failed ≡ old.failed
  pub files : new.tables.files ≡ old.tables.files

-- a line named file n: its table is active now, where it can be
pub record NamesFile (n : ℕ) (old new : Bench) : Type 0 where
  pub goes : GoesOn old new
  pub memory : new.memory ≡ old.memory
  pub told : new.apps.activations ≡ old.apps.activations
  pub has : (setup : Setup) (s : State) → old.tables.files ≡ setup.files → Has old s → Has new (after_activation setup s n)

-- lines named these files, one after another, and of each was told what became of it, behind what was told before
pub record Activates (numbers : List ℕ) (told : List Out) (old new : Bench) : Type 0 where
  pub goes : GoesOn old new
  pub memory : new.memory ≡ old.memory
  pub many : length new.apps.activations.items ≡ length told + length numbers
  pub counted : AllPass is_item_counted told → AllPass is_item_counted new.apps.activations.items
  pub events : (setup : Setup) (s : State) → old.epoch ≡ setup.epoch → old.tables.files ≡ setup.files → Has old s → new.apps.activations.items ≡ told ++ table_events setup s numbers
  pub has : (setup : Setup) (s : State) → old.tables.files ≡ setup.files → Has old s → Has new (fold (after_activation setup) s numbers)

-- the upsets of a frame were written
pub record IsUpset (upsets : List Upset) (old new : Bench) : Type 0 where
  pub run : IsSameRun old new
  pub apps : new.apps ≡ old.apps
  pub wires : new.wires ≡ old.wires
  pub memory : new.memory.ram ≡ fold upset_by old.memory.ram upsets

-- each application took what its pipes held, but those that are held, and gave nothing yet
pub record Takes (held : List App) (old new : Bench) : Type 0 where
  pub run : IsSameRun old new
  pub apps : KeepsApps old.apps new.apps
  pub takes : TakeAll held old.wires.bus old.apps new.apps
  pub operations : new.memory.ops.value ≡ []
  pub pipes : new.wires.bus ≡ left_by held old.wires.bus
  pub log : new.wires.log ≡ old.wires.log
  pub memory : new.memory.ram ≡ old.memory.ram

-- these upsets were written, and each application took what its pipes held, but those that are held
pub record Enters (upsets : List Upset) (held : List App) (old new : Bench) : Type 0 where
  pub upset : Bench
  pub writes : IsUpset upsets old upset
  pub takes : Takes held upset new

-- the tables that a frame names became active, its upsets were written, and the applications took what their pipes held
pub record Arrives (frame : Frame) (old new : Bench) : Type 0 where
  pub active : Bench
  pub activates : Activates frame.activations [] old active
  pub enters : Enters frame.upsets frame.held active new

-- no application gave anything yet
pub record IsClear (b : Bench) : Type 0 where
  pub apps : AreClear b.apps
  pub operations : b.memory.ops.value ≡ []

-- the load files that MM reads
abbrev pub loads_in : Bench → List (ℕ × List ℕ)
loads_in b = loads_of b.tables.files

-- what the wakeups of a frame read in the bench, on these execution counters
abbrev pub seen_in : List Counter → Bench → Seen
seen_in counters b = record {
  hs = b.apps.hs;
  events = b.apps.events;
  cs = b.apps.cs;
  sc = b.apps.sc;
  mm = b.apps.mm;
  md = b.apps.md;
  lc = b.apps.lc.slot;
  telemetry = b.apps.lc.telemetry.items;
  tables = b.tables.set;
  files = b.tables.files;
  memory = b.memory.ram;
  counters = counters;
  time = time_of b;
}

-- the applications were woken on what they took, and on these execution counters or memory, unless they were held
pub record Steps (counters : List Counter) (old new : Bench) : Type 0 where
  pub run : IsSameRun old new
  pub told : new.apps.activations ≡ old.apps.activations
  pub woken : StepAll (seen_in counters old) new.apps new.memory.ops.value
  pub wires : new.wires ≡ old.wires
  pub memory : new.memory.ram ≡ old.memory.ram

-- the applications were woken, each by a job that left what it gave
pub record AreWoken (counters : List Counter) (old new : Bench) : Type 0 where
  pub run : IsSameRun old new
  pub slots : KeepsSlots old.apps new.apps
  pub manned : length new.apps.crew.results ≡ jobs_of old.apps.lc.there
  pub left : AllLeave old.apps.lc.there (seen_in counters old) new.apps.crew.results
  pub wires : new.wires ≡ old.wires
  pub memory : new.memory ≡ old.memory

-- what the wakeups leave can be sent, and landed on the frame's image
pub record CanSend (b : Bench) : Type 0 where
  pub apps : CanBeSent b.apps
  pub operations : CanLand (loads_in b) b.memory.ram b.memory.ops.value

-- the items were sent behind these packets
pub record Sends (sends : List (List ℕ)) (old new : Bench) : Type 0 where
  pub run : IsSameRun old new
  pub apps : KeepsApps old.apps new.apps
  pub sent : (made : List (List ℕ)) → LogStands made old.wires.log → joined (items_in new.apps) ≡ sent_of made (joined (items_in old.apps))
  pub made : (made : List (List ℕ)) → LogStands made old.wires.log → LogStands (made ++ flat_map makes (joined (items_in old.apps))) new.wires.log
  pub resets : new.resets ≡ list_any is_reset (joined (items_in old.apps))
  pub pipes : new.wires.bus ≡ after_offers old.wires.bus (offered new.resets sends (joined (items_in new.apps)))
  pub drops : new.wires.drops.items ≡ drops_from old.wires.bus (offered new.resets sends (joined (items_in new.apps)))
  pub memory : new.memory ≡ old.memory

-- The frame was run on s, which is the state behind its activations, up to its lines: memory is its image, and its operations haven't
-- landed.
pub record RunsIn (setup : Setup) (s : State) (frame : Frame) (b : Bench) : Type 0 where
  pub tables : b.tables.set ≡ s.tables
  pub apps : AppsStand b.apps (after_wakeups setup s frame)
  pub sent : joined (items_in b.apps) ≡ sent_at setup s frame
  pub resets : b.resets ≡ resets_at setup s frame
  pub drops : b.wires.drops.items ≡ drops_from (left_by frame.held s.pipes) (offers_at setup s frame)
  pub pipes : b.wires.bus ≡ after_offers (left_by frame.held s.pipes) (offers_at setup s frame)
  pub made : LogStands (s.made ++ flat_map makes (joined (items_at setup s frame))) b.wires.log
  pub operations : b.memory.ops.value ≡ operations_at setup s frame
  pub memory : b.memory.ram ≡ image_at s frame

-- all that a frame makes of the bench stays, but for the lines that wait
pub record IsSameFrame (old new : Bench) : Type 0 where
  pub epoch : new.epoch ≡ old.epoch
  pub number : new.number ≡ old.number
  pub failed : new.failed ≡ old.failed
  pub tables : new.tables ≡ old.tables
  pub apps : new.apps ≡ old.apps
  pub wires : new.wires ≡ old.wires
  pub resets : new.resets ≡ old.resets
  pub memory : new.memory ≡ old.memory

-- the frame's operations have landed, and the next frame comes, before which nothing is noted of the bench
pub record Lands (old new : Bench) : Type 0 where
  pub epoch : new.epoch ≡ old.epoch
  pub number : new.number ≡ old.number + 1
  pub failed : new.failed ≡ old.failed
  pub tables : new.tables ≡ old.tables
  pub apps : new.apps ≡ old.apps
  pub wires : new.wires ≡ old.wires
  pub lines : new.lines ≡ old.lines
  pub resets : new.resets ≡ old.resets
  pub idle : new.idle ≡ false
  pub memory : new.memory.ram ≡ land (loads_in old) old.memory.ops.value old.memory.ram

-- a processor reset took effect where one was asked for
pub record StartsAnew (old new : Bench) : Type 0 where
  pub goes : GoesOn old new
  pub items : items_in new.apps ≡ items_in old.apps
  pub resets : new.resets ≡ old.resets
  pub idle : new.idle ≡ old.idle
  pub memory : new.memory ≡ old.memory
  pub has : (setup : Setup) (s : State) → old.epoch ≡ setup.epoch → old.tables.files ≡ setup.files → Has old s → Has new (behind old.resets setup s)

-- the lines of what was sent and dropped
abbrev pub lines_in : Bench → List ℕ
lines_in b = flat_map (item_line b.number) (joined (items_in b.apps)) ++ flat_map (drop_line b.number) b.wires.drops.items

-- the bench has the items of a frame that was run behind these frames, as they were sent, and whether one asks for a processor reset
pub record HasGiven (b : Bench) (setup : Setup) (frames : List Frame) (frame : Frame) : Type 0 where
  pub items : joined (items_in b.apps) ≡ sent_at setup (activated_at setup (run_of setup frames) frame) frame
  pub resets : b.resets ≡ resets_at setup (activated_at setup (run_of setup frames) frame) frame
