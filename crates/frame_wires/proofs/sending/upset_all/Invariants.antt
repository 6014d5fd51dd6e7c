use Rattle.std.proofs.Common.{◌≡◌, take, fold}
use Rattle.memory_window.specs.Memory.{regions_of}
use Rattle.frame_wires.specs.Sending.{upset_by}
use Rattle.frame_wires.proofs.sending.upset_all.Given as goal

-- the upsets so far were written, and the regions stay
abbrev pub invariant-upsets : goal.invariant-upsets
invariant-upsets l = record {
  written : l.ram ≡ fold upset_by l.fn.ram (take l.upset-index l.upsets);
  regions : regions_of l.ram.areas ≡ regions_of l.fn.ram.areas;
}
