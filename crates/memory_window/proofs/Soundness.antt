-- An operation that is admitted is one that can be written.
use Rattle.std.proofs.Common.{◌≡◌, ℕ, ◌+◌, ◌/◌, ◌≤◌, ◌^◌, Bool, false, List, [], ◌∷◌, length, None, Some, Ok, Option, refl, arith}
use Rattle.std.specs.List.{list_any}
use Rattle.std.proofs.lemmas.Grind.{common_steps}
use Rattle.memory_window.specs.declared.operations.MemOp.{MemOp}
use Rattle.memory_window.specs.declared.operations.MemOp.TheVariants.{Poke, Fill, Bytes, FromFile, Protect}
use Rattle.memory_window.specs.Regions.{ends_late}
use Rattle.memory_window.specs.Operations.{IsSound}
use Rattle.memory_window.specs.Memory.{Area, Memory, home, regions_of}
use Rattle.memory_window.specs.Access.{Admitted, read_in, bytes_in, is_guarded, unless_guarded}

-- a range that lies in an area ends by the last address
home-within : (areas : List Area) (at n : ℕ) (r : Area) → home areas at n ≡ Some r → list_any ends_late (regions_of areas) ≡ false → at + n ≤ 2 ^ 32
home-within [] at n r is within = cc
home-within (a ∷ areas) at n r is within = grind (arith, common_steps, home-within areas at n r)

read-area : (size at : ℕ) (found : Option Area) (guarded : Bool) → unless_guarded (read_in size at found) guarded ≡ Ok tt → (r : Area) × (found ≡ Some r)
read-area size at None guarded h = cc
read-area size at (Some r) guarded h = (r, refl)

bytes-area : (at len : ℕ) (found : Option Area) (guarded : Bool) → unless_guarded (bytes_in at len found) guarded ≡ Ok tt → (r : Area) × (found ≡ Some r)
bytes-area at len None guarded h = cc
bytes-area at len (Some r) guarded h = (r, refl)

pub sound-of : (m : Memory) (op : MemOp) → list_any ends_late (regions_of m.areas) ≡ false → Admitted m op → IsSound op
sound-of m (Poke size at value) within h =
    let found = read-area size at (home m.areas at (size / 8)) (is_guarded m.areas m.guarded at (size / 8)) h.admits in
    (h.can_ask.0, h.can_ask.1, home-within m.areas at (size / 8) found.0 found.1 within)
sound-of m (Fill at len byte) within h =
    let found = bytes-area at len (home m.areas at len) (is_guarded m.areas m.guarded at len) h.admits in
    (h.can_ask, home-within m.areas at len found.0 found.1 within)
sound-of m (Bytes at part) within h =
    let found = bytes-area at (length part) (home m.areas at (length part)) (is_guarded m.areas m.guarded at (length part)) h.admits in
    (h.can_ask, home-within m.areas at (length part) found.0 found.1 within)
sound-of m (FromFile load at len) within h =
    let found = bytes-area at len (home m.areas at len) (is_guarded m.areas m.guarded at len) h.admits in
    (h.can_ask, home-within m.areas at len found.0 found.1 within)
sound-of m (Protect region on) within h = tt
