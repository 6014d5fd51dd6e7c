-- A worked run, in bytes written by hand.
use Rattle.std.specs.Prelude.{ℕ, List, [], ◌∷◌, codes}
use Rattle.memory_window.specs.declared.regions.Kind.TheVariants.{Ram}
use Rattle.scenario.specs.declared.frame.App.TheVariants.{Hs, Cs, Sc, Md}
use Rattle.scenario.specs.FrameLists.{Frame}
use Rattle.frame_runs.specs.Runs.{Setup}

-- a frame in which MM alone is woken
abbrev pub quiet : Frame
quiet = record { sends = []; counters = []; upsets = []; held = Hs ∷ Cs ∷ Sc ∷ Md ∷ []; activations = [] }

-- such a frame that sends the no-op of MM
abbrev pub noop_sent : Frame
noop_sent = record quiet { sends = (0x18 ∷ 0x88 ∷ 0xC0 ∷ 0 ∷ 0 ∷ 1 ∷ 0 ∷ 0xAE ∷ []) ∷ [] }

-- a frame in which MM alone is woken, and a file is named of which there is none
abbrev pub none_activated : Frame
none_activated = record quiet { activations = 1 ∷ [] }

-- event 2 of type 3 of TBL at time 1000, with sequence count 0
abbrev pub refused_line : List ℕ
refused_line = codes "0 pkt 0808C0000025000003E8000054424C0000000000000000000000000000000000000200030000004200000001\n"

-- a run at time 1000 with 256 bytes of memory and no tables
abbrev pub noop_setup : Setup
noop_setup = record { epoch = 1000; regions = (record { kind = Ram; start = 0x1000; len = 256 }) ∷ []; files = [] }

-- event 16 of type 2 at time 1001, with sequence count 0
abbrev pub noop_line : List ℕ
noop_line = codes "1 pkt 0808C0000025000003E900004D4D000000000000000000000000000000000000001000020000004200000001\n"
