-- Whether memory gives a read or a range depends on its regions alone.
use Rattle.std.proofs.Common.{◌≡◌, ℕ, ◌/◌, ◌%◌, Bool, true, false, not, ◌||◌, ◌&&◌, nat_eq, List, [], ◌∷◌, find, Option, None, Some, Result, Ok, Err, option_map, refl, sym, ap, ◌∙◌, if◌then◌else◌}
use Rattle.std.specs.Prelude.{is_ok}
use Rattle.memory_block.specs.Zeros.{zeros}
use Rattle.memory_window.specs.declared.access.AccessFault.{AccessFault}
use Rattle.memory_window.specs.declared.regions.Region.{Region}
use Rattle.memory_window.specs.Regions.{allows, unit_of, spans, total_of}
use Rattle.memory_window.specs.Memory.{Area, Memory, home, regions_of, start_memory}
use Rattle.memory_window.specs.Fitting.{read_fits, bytes_fit}
use Rattle.memory_window.specs.Access.{read_in, read_of, bytes_in, bytes_of, gives_read, gives_bytes}
use Rattle.memory_window.proofs.Areas.{regions-cut}

-- the region in which a range lies
abbrev region_at : List Region → ℕ → ℕ → Option Region
region_at regions at n = find (spans at n) regions

found-region : (r : Area) (rest : Option Area) (others : Option Region) (b : Bool) → option_map (λ (a : Area). a.region) rest ≡ others
    → option_map (λ (a : Area). a.region) (if b then Some r else rest) ≡ (if b then Some r.region else others)
found-region r rest others true h = refl
found-region r rest others false h = h

home-region : (areas : List Area) (at n : ℕ) → option_map (λ (r : Area). r.region) (home areas at n) ≡ region_at (regions_of areas) at n
home-region [] at n = refl
home-region (r ∷ areas) at n = found-region r (home areas at n) (region_at (regions_of areas) at n) (spans at n r.region) (home-region areas at n)

read-fits : (size at : ℕ) (found : Option Area) → is_ok (read_in size at found) ≡ read_fits size at (option_map (λ (r : Area). r.region) found)
read-fits size at None = refl
read-fits size at (Some r) = by_case (nat_eq (at % (size / 8)) 0) (allows r.region.kind size) _
  where
    by_case : (a b : Bool) (v : ℕ) → is_ok (if not a then Err AccessFault.Unaligned else if not b then Err AccessFault.WrongSize else Ok v) ≡ (a && b)
    by_case false b v = refl
    by_case true false v = refl
    by_case true true v = refl

bytes-fit : (at len : ℕ) (found : Option Area) → is_ok (bytes_in at len found) ≡ bytes_fit at len (option_map (λ (r : Area). r.region) found)
bytes-fit at len None = refl
bytes-fit at len (Some r) = by_case (nat_eq (at % unit_of r.region.kind) 0) (nat_eq (len % unit_of r.region.kind) 0) _
  where
    by_case : (a b : Bool) (bytes : List ℕ) → is_ok (if not a || not b then Err AccessFault.Unaligned else Ok bytes) ≡ (a && b)
    by_case false b bytes = refl
    by_case true false bytes = refl
    by_case true true bytes = refl

pub start-regions : (regions : List Region) → regions_of (start_memory regions).areas ≡ regions
start-regions regions = regions-cut regions (zeros (total_of regions))

-- a read is given by one memory where it is by another with the same regions
read-same : (image other : Memory) (size at : ℕ) → regions_of image.areas ≡ regions_of other.areas → is_ok (read_of size image at) ≡ is_ok (read_of size other at)
read-same image other size at same =
    read-fits size at (home image.areas at (size / 8)) ∙ ap (read_fits size at) (home-region image.areas at (size / 8) ∙ ap (λ (rs : List Region). region_at rs at (size / 8)) same ∙ sym (home-region other.areas at (size / 8)))
    ∙ sym (read-fits size at (home other.areas at (size / 8)))

bytes-same : (image other : Memory) (at len : ℕ) → regions_of image.areas ≡ regions_of other.areas → is_ok (bytes_of image at len) ≡ is_ok (bytes_of other at len)
bytes-same image other at len same =
    bytes-fit at len (home image.areas at len) ∙ ap (bytes_fit at len) (home-region image.areas at len ∙ ap (λ (rs : List Region). region_at rs at len) same ∙ sym (home-region other.areas at len))
    ∙ sym (bytes-fit at len (home other.areas at len))

-- whether memory gives a read depends on its regions alone
pub read_given : (image : Memory) (size at : ℕ) → is_ok (read_of size image at) ≡ gives_read (regions_of image.areas) size at
unfolding gives_read
read_given image size at = read-same image (start_memory (regions_of image.areas)) size at (sym (start-regions (regions_of image.areas)))

-- whether memory gives a range depends on its regions alone
pub bytes_given : (image : Memory) (at len : ℕ) → is_ok (bytes_of image at len) ≡ gives_bytes (regions_of image.areas) at len
unfolding gives_bytes
bytes_given image at len = bytes-same image (start_memory (regions_of image.areas)) at len (sym (start-regions (regions_of image.areas)))

ok-value : {X E : Type 0} (r : Result X E) → is_ok r ≡ true → (x : X) × (r ≡ Ok x)
ok-value (Ok x) h = (x, refl)
ok-value (Err fault) h = cc

-- a read that the regions give has a value
pub read_value : (image : Memory) (size at : ℕ) → gives_read (regions_of image.areas) size at ≡ true → (value : ℕ) × (read_of size image at ≡ Ok value)
read_value image size at h = ok-value (read_of size image at) (read_given image size at ∙ h)

-- a range that the regions give has bytes
pub range_bytes : (image : Memory) (at len : ℕ) → gives_bytes (regions_of image.areas) at len ≡ true → (bytes : List ℕ) × (bytes_of image at len ≡ Ok bytes)
range_bytes image at len h = ok-value (bytes_of image at len) (bytes_given image at len ∙ h)

-- the same of memory whose regions are known by another name
pub read_value_by : (regions : List Region) (image : Memory) (size at : ℕ) → regions_of image.areas ≡ regions → gives_read regions size at ≡ true → (value : ℕ) × (read_of size image at ≡ Ok value)
read_value_by regions image size at same h = read_value image size at (ap (λ (rs : List Region). gives_read rs size at) same ∙ h)

pub range_bytes_by : (regions : List Region) (image : Memory) (at len : ℕ) → regions_of image.areas ≡ regions → gives_bytes regions at len ≡ true → (bytes : List ℕ) × (bytes_of image at len ≡ Ok bytes)
range_bytes_by regions image at len same h = range_bytes image at len (ap (λ (rs : List Region). gives_bytes rs at len) same ∙ h)

-- whether memory of regions gives a read, by the region in which it lies
pub gives_read_is : (regions : List Region) (size at : ℕ) (found : Option Region) (fits : Bool) → found ≡ find (spans at (size / 8)) regions → fits ≡ read_fits size at found → fits ≡ gives_read regions size at
unfolding gives_read
gives_read_is regions size at found fits is by =
    by ∙ ap (read_fits size at) (is ∙ sym (home-region (start_memory regions).areas at (size / 8) ∙ ap (λ (rs : List Region). region_at rs at (size / 8)) (start-regions regions)))
    ∙ sym (read-fits size at (home (start_memory regions).areas at (size / 8)))

-- whether memory of regions gives a range, by the region in which it lies
pub gives_bytes_is : (regions : List Region) (at len : ℕ) (found : Option Region) (fits : Bool) → found ≡ find (spans at len) regions → fits ≡ bytes_fit at len found → fits ≡ gives_bytes regions at len
unfolding gives_bytes
gives_bytes_is regions at len found fits is by =
    by ∙ ap (bytes_fit at len) (is ∙ sym (home-region (start_memory regions).areas at len ∙ ap (λ (rs : List Region). region_at rs at len) (start-regions regions)))
    ∙ sym (bytes-fit at len (home (start_memory regions).areas at len))
