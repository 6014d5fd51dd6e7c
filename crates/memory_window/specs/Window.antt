-- What a window shows.
use Rattle.std.specs.Prelude.{length, take}
use Rattle.memory_window.specs.declared.window.Part.{Part}
use Rattle.memory_window.specs.declared.window.Window.{Window}
use Rattle.memory_window.specs.Memory.{Area, Memory, cut}

-- a region that a window shows, with its bytes
abbrev pub area_of : Part → Area
area_of p = record { region = p.region; bytes = p.bytes.now }

-- the memory that a window shows
abbrev pub seen : Window → Memory
seen w = record { areas = cut w.regions.now w.block.now; guarded = take (length w.regions.now) w.flags.now }
