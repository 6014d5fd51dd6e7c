-- Access: what a read or an operation meets, and the fault that it has.
use Rattle.std.specs.Prelude.{◌≡◌, ℕ, zero, suc, ◌/◌, ◌%◌, ◌^◌, ◌<◌, Bool, false, not, ◌&&◌, ◌||◌, nat_eq, IsTrue, List, ◌∷◌, length, Option, None, Some, IsSome, Result, Ok, Err, is_ok, slice_get, if◌then◌else◌}
use Rattle.memory_window.specs.declared.access.AccessFault.{AccessFault}
use Rattle.memory_window.specs.declared.access.AccessFault.TheVariants.{Outside, Unaligned, WrongSize, Protected}
use Rattle.memory_window.specs.declared.operations.MemOp.{MemOp}
use Rattle.memory_window.specs.declared.operations.MemOp.TheVariants.{Poke, Fill, Bytes, FromFile, Protect}
use Rattle.memory_window.specs.Numbers.{number_of}
use Rattle.memory_window.specs.Operations.{is_size}
use Rattle.memory_window.specs.declared.regions.Region.{Region}
use Rattle.memory_window.specs.Regions.{allows, unit_of, spans, is_eeprom}
use Rattle.memory_window.specs.Memory.{Area, Memory, home, part_of, start_memory}

-- a read of so many bits at an address, in the area in which its bytes lie
abbrev pub read_in : ℕ → ℕ → Option Area → Result ℕ AccessFault
read_in size at None = Err Outside
read_in size at (Some r) =
    if not (nat_eq (at % (size / 8)) 0) then Err Unaligned else
    if not (allows r.region.kind size) then Err WrongSize else Ok (number_of (part_of at (size / 8) r))

-- what a read of 8, 16 or 32 bits gives
abbrev pub read_of : ℕ → Memory → ℕ → Result ℕ AccessFault
read_of size image at = read_in size at (home image.areas at (size / 8))

-- the bytes of a range, in the area in which it lies
abbrev pub bytes_in : ℕ → ℕ → Option Area → Result (List ℕ) AccessFault
bytes_in at len None = Err Outside
bytes_in at len (Some r) =
    if not (nat_eq (at % unit_of r.region.kind) 0) || not (nat_eq (len % unit_of r.region.kind) 0) then Err Unaligned else Ok (part_of at len r)

-- what the bytes of a range are
abbrev pub bytes_of : Memory → ℕ → ℕ → Result (List ℕ) AccessFault
bytes_of image at len = bytes_in at len (home image.areas at len)

-- whether memory of these regions gives a read of so many bits at an address, whatever its bytes are
unfoldable pub gives_read : List Region → ℕ → ℕ → Bool
gives_read regions size at = is_ok (read_of size (start_memory regions) at)

-- whether memory of these regions gives the bytes of a range, whatever they are
unfoldable pub gives_bytes : List Region → ℕ → ℕ → Bool
gives_bytes regions at len = is_ok (bytes_of (start_memory regions) at len)

-- a region's flag, where it is an EEPROM region
abbrev pub flag_of : Option Area → Option Bool → Option Bool
flag_of (Some r) (Some flag) = if is_eeprom r.region.kind then Some flag else None
flag_of _ _ = None

-- whether a region, counted from 1, is protected; nothing where it is no EEPROM region
abbrev pub is_protected : Memory → ℕ → Option Bool
is_protected image zero = None
is_protected image (suc i) = flag_of (slice_get image.areas i) (slice_get image.guarded i)

-- whether a range lies in an EEPROM region that is protected
abbrev pub is_guarded : List Area → List Bool → ℕ → ℕ → Bool
is_guarded (r ∷ rest) (flag ∷ flags) at n = if spans at n r.region then is_eeprom r.region.kind && flag else is_guarded rest flags at n
is_guarded _ _ at n = false

-- an access that met no fault, but may be to protected memory
abbrev pub unless_guarded : {X : Type 0} → Result X AccessFault → Bool → Result (Unit {0}) AccessFault
unless_guarded (Err fault) guarded = Err fault
unless_guarded (Ok x) guarded = if guarded then Err Protected else Ok tt

-- whether an operation is admitted, or the fault that it meets
abbrev pub admits_of : Memory → MemOp → Result (Unit {0}) AccessFault
admits_of image (Poke size at value) = unless_guarded (read_of size image at) (is_guarded image.areas image.guarded at (size / 8))
admits_of image (Fill at len byte) = unless_guarded (bytes_of image at len) (is_guarded image.areas image.guarded at len)
admits_of image (Bytes at part) = unless_guarded (bytes_of image at (length part)) (is_guarded image.areas image.guarded at (length part))
admits_of image (FromFile load at len) = unless_guarded (bytes_of image at len) (is_guarded image.areas image.guarded at len)
admits_of image (Protect region on) = Ok tt

-- what must hold of an operation before it is asked whether it is admitted
abbrev pub CanAsk : Memory → MemOp → Type 0
CanAsk image (Poke size at value) = IsTrue (is_size size) × (value < 2 ^ size)
CanAsk image (Fill at len byte) = 0 < len
CanAsk image (Bytes at part) = 0 < length part
CanAsk image (FromFile load at len) = 0 < len
CanAsk image (Protect region on) = IsSome (is_protected image region)

-- that an operation can be asked for and is admitted
pub record Admitted (image : Memory) (op : MemOp) : Type 0 where
  pub can_ask : CanAsk image op
  pub admits : admits_of image op ≡ Ok tt
