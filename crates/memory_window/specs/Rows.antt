-- A worked memory: a region of each kind, and a second one of EEPROM, each byte told.
use Rattle.std.specs.Prelude.{true, false, [], ◌∷◌}
use Rattle.memory_window.specs.declared.regions.Kind.TheVariants.{Ram, Eeprom, Mem8, Mem16, Mem32}
use Rattle.memory_window.specs.Memory.{Memory}

abbrev pub worked_memory : Memory
worked_memory = record {
  areas =
      (record { region = record { kind = Ram; start = 0x1000; len = 8 }; bytes = 0x11 ∷ 0x12 ∷ 0x13 ∷ 0x14 ∷ 0x15 ∷ 0x16 ∷ 0x17 ∷ 0x18 ∷ [] })
      ∷ (record { region = record { kind = Mem8; start = 0x2000; len = 4 }; bytes = 0x21 ∷ 0x22 ∷ 0x23 ∷ 0x24 ∷ [] })
      ∷ (record { region = record { kind = Mem16; start = 0x3000; len = 4 }; bytes = 0x31 ∷ 0x32 ∷ 0x33 ∷ 0x34 ∷ [] })
      ∷ (record { region = record { kind = Mem32; start = 0x4000; len = 4 }; bytes = 0x41 ∷ 0x42 ∷ 0x43 ∷ 0x44 ∷ [] })
      ∷ (record { region = record { kind = Eeprom; start = 0x5000; len = 4 }; bytes = 0x51 ∷ 0x52 ∷ 0x53 ∷ 0x54 ∷ [] })
      ∷ (record { region = record { kind = Eeprom; start = 0x6000; len = 4 }; bytes = 0x61 ∷ 0x62 ∷ 0x63 ∷ 0x64 ∷ [] })
      ∷ [];
  guarded = false ∷ false ∷ false ∷ false ∷ true ∷ true ∷ [];
}
