use Rattle.std.proofs.Common.{◌≡◌, length, map, take}
use Rattle.memory_window.specs.Regions.{is_eeprom}
use Rattle.memory_window.proofs.ram.start_flags.Given as goal

abbrev pub invariant-loop-i : goal.invariant-loop-i
invariant-loop-i l = (length l.flags ≡ 8) × (take l.i l.flags ≡ map (λ r. is_eeprom r.kind) (take l.i l.regions))
