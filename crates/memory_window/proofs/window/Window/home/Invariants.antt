use Rattle.std.proofs.Common.{◌≡◌, length, take}
use Rattle.memory_window.specs.Regions.{total_of}
use Rattle.memory_window.specs.Memory.{cut, home}
use Rattle.memory_window.specs.Access.{is_guarded}
use Rattle.memory_window.proofs.Parts.{areas_from, flags_from}
use Rattle.memory_window.proofs.window.Window.home.Given as goal

abbrev pub invariant-loop-i : goal.invariant-loop-i
invariant-loop-i l = record {
  from : l.from ≡ total_of (take l.i l.self.regions.now);
  area : home (cut l.self.regions.now l.self.block.now) l.at l.len ≡ home (areas_from l.self.regions.now l.self.flags.now l.self.block.now l.i l.from) l.at l.len;
  guard : is_guarded (cut l.self.regions.now l.self.block.now) (take (length l.self.regions.now) l.self.flags.now) l.at l.len
      ≡ is_guarded (areas_from l.self.regions.now l.self.flags.now l.self.block.now l.i l.from) (flags_from l.self.regions.now l.self.flags.now l.self.block.now l.i) l.at l.len;
}
