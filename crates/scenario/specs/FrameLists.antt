-- A frame, as five lists.
use Rattle.std.specs.Prelude.{ℕ, ◌+◌, List, [], length}
use Rattle.packet_forms.specs.declared.name.Counter.{Counter}
use Rattle.scenario.specs.declared.frame.App.{App}
use Rattle.scenario.specs.declared.frame.Upset.{Upset}

-- the five lists of a frame, each in the order of its lines; of activations the numbers of the files
pub record Frame : Type 0 where
  pub sends : List (List ℕ)
  pub counters : List Counter
  pub upsets : List Upset
  pub held : List App
  pub activations : List ℕ

-- a frame of no items
abbrev pub no_items : Frame
no_items = record { sends = []; counters = []; upsets = []; held = []; activations = [] }

-- how many items a frame has
abbrev pub items_in : Frame → ℕ
items_in f = length f.sends + length f.counters + length f.upsets + length f.held + length f.activations
