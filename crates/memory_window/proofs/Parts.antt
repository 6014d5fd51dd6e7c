-- The parts of a block in which regions lie side by side, one after another.
use Rattle.std.proofs.Common.{◌≡◌, ℕ, zero, suc, ◌+◌, ◌<◌, ◌≤◌, Bool, true, false, List, [], ◌∷◌, length, get_or, take, drop, None, Some, slice_get, refl, ap, ◌∙◌, arith, if◌then◌else◌}
use Rattle.std.specs.Prelude.{◌&&◌}
use Rattle.std.proofs.lemmas.List.{drop_more, drop_all, drop-drop, get_or-take, length-take-le}
use Rattle.std.proofs.lemmas.List.Sums.{sum_by_more, sum_by_more_le}
use Rattle.memory_window.specs.declared.regions.Region.{Region}
use Rattle.memory_window.specs.Regions.{blank, is_eeprom, spans, total_of}
use Rattle.memory_window.specs.Memory.{Area, cut, home}
use Rattle.memory_window.specs.Access.{is_guarded, is_protected}

-- the areas from a place on, and the flags
module _ (regions : List Region) (flags : List Bool) (block : List ℕ) where
  abbrev pub areas_from : ℕ → ℕ → List Area
  areas_from i from = cut (drop i regions) (drop from block)

  abbrev pub flags_from : ℕ → List Bool
  flags_from i = drop i (take (length regions) flags)

  -- the region in a place, with its bytes
  abbrev pub area_at : ℕ → ℕ → Area
  area_at i from = record { region = get_or regions i blank; bytes = take (get_or regions i blank).len (drop from block) }

  areas-more : (i from : ℕ) → i < length regions → areas_from i from ≡ area_at i from ∷ areas_from (i + 1) (from + (get_or regions i blank).len)
  areas-more i from lt =
      ap (λ (rs : List Region). cut rs (drop from block)) (drop_more regions i blank lt)
      ∙ ap (λ (xs : List ℕ). area_at i from ∷ cut (drop (i + 1) regions) xs) (drop-drop (get_or regions i blank).len from block)

  flags-more : (i : ℕ) → i < length regions → length regions ≤ length flags → flags_from i ≡ get_or flags i false ∷ flags_from (i + 1)
  flags-more i lt few =
      drop_more (take (length regions) flags) i false (omega (arith, length-take-le (length regions) flags few))
      ∙ ap (λ (flag : Bool). flag ∷ flags_from (i + 1)) (get_or-take (length regions) flags i false lt)

  home-first : (at n : ℕ) (r : Area) (areas : List Area) → spans at n r.region ≡ true → home (r ∷ areas) at n ≡ Some r
  home-first at n r areas spanned = rw spanned refl

  home-later : (at n : ℕ) (r : Area) (areas : List Area) → spans at n r.region ≡ false → home (r ∷ areas) at n ≡ home areas at n
  home-later at n r areas beyond = rw beyond refl

  guard-first : (at n : ℕ) (r : Area) (areas : List Area) (flag : Bool) (rest : List Bool) → spans at n r.region ≡ true → is_guarded (r ∷ areas) (flag ∷ rest) at n ≡ (is_eeprom r.region.kind && flag)
  guard-first at n r areas flag rest spanned = rw spanned refl

  guard-later : (at n : ℕ) (r : Area) (areas : List Area) (flag : Bool) (rest : List Bool) → spans at n r.region ≡ false → is_guarded (r ∷ areas) (flag ∷ rest) at n ≡ is_guarded areas rest at n
  guard-later at n r areas flag rest beyond = rw beyond refl

  -- where a range lies in the region in a place
  pub home-here : (at n i from : ℕ) → i < length regions → spans at n (get_or regions i blank) ≡ true → home (areas_from i from) at n ≡ Some (area_at i from)
  home-here at n i from lt spanned = ap (λ (areas : List Area). home areas at n) (areas-more i from lt) ∙ home-first at n (area_at i from) (areas_from (i + 1) (from + (get_or regions i blank).len)) spanned

  pub guard-here : (at n i from : ℕ) → i < length regions → length regions ≤ length flags → spans at n (get_or regions i blank) ≡ true → is_guarded (areas_from i from) (flags_from i) at n ≡ (is_eeprom (get_or regions i blank).kind && get_or flags i false)
  guard-here at n i from lt few spanned =
      (λ j. is_guarded (areas-more i from lt j) (flags-more i lt few j) at n) ∙ guard-first at n (area_at i from) (areas_from (i + 1) (from + (get_or regions i blank).len)) (get_or flags i false) (flags_from (i + 1)) spanned

  -- where it doesn't
  pub home-on : (at n i from : ℕ) → i < length regions → spans at n (get_or regions i blank) ≡ false → home (areas_from i from) at n ≡ home (areas_from (i + 1) (from + (get_or regions i blank).len)) at n
  home-on at n i from lt beyond = ap (λ (areas : List Area). home areas at n) (areas-more i from lt) ∙ home-later at n (area_at i from) (areas_from (i + 1) (from + (get_or regions i blank).len)) beyond

  pub guard-on : (at n i from : ℕ) → i < length regions → length regions ≤ length flags → spans at n (get_or regions i blank) ≡ false → is_guarded (areas_from i from) (flags_from i) at n ≡ is_guarded (areas_from (i + 1) (from + (get_or regions i blank).len)) (flags_from (i + 1)) at n
  guard-on at n i from lt few beyond =
      (λ j. is_guarded (areas-more i from lt j) (flags-more i lt few j) at n) ∙ guard-later at n (area_at i from) (areas_from (i + 1) (from + (get_or regions i blank).len)) (get_or flags i false) (flags_from (i + 1)) beyond

  -- behind the last region
  pub home-none : (at n i from : ℕ) → length regions ≤ i → home (areas_from i from) at n ≡ None
  home-none at n i from past = ap (λ (rs : List Region). home (cut rs (drop from block)) at n) (drop_all i regions past)

-- the area in a place
cut-get : (regions : List Region) (block : List ℕ) (i : ℕ) → i < length regions → (bytes : List ℕ) × (slice_get (cut regions block) i ≡ Some (record { region = get_or regions i blank; bytes = bytes }))
cut-get [] block i lt = absurd (omega arith)
cut-get (r ∷ regions) block zero lt = (take r.len block, refl)
cut-get (r ∷ regions) block (suc i) lt = cut-get regions (drop r.len block) i (omega arith)

flag-get : (n : ℕ) (flags : List Bool) (i : ℕ) → i < n → i < length flags → slice_get (take n flags) i ≡ Some (get_or flags i false)
flag-get zero flags i lt within = absurd (omega arith)
flag-get (suc n) [] i lt within = absurd (omega arith)
flag-get (suc n) (flag ∷ flags) zero lt within = refl
flag-get (suc n) (flag ∷ flags) (suc i) lt within = flag-get n flags i (omega arith) (omega arith)

-- the flag of a region, where that is EEPROM
pub flag-is : (regions : List Region) (flags : List Bool) (block : List ℕ) (number place : ℕ) → number ≡ suc place → place < length regions → place < length flags
    → is_protected (record { areas = cut regions block; guarded = take (length regions) flags }) number ≡ (if is_eeprom (get_or regions place blank).kind then Some (get_or flags place false) else None)
flag-is regions flags block zero place is lt within = absurd (omega arith)
flag-is regions flags block (suc number) place is lt within =
    let same : number ≡ place = omega arith in
    let area = cut-get regions block place lt in
    rw (same, area.1, flag-get (length regions) flags place lt within) refl

-- the bytes of the region in a place end within the block
pub ends-within : (regions : List Region) (block : List ℕ) (i from : ℕ) → i < length regions → from ≡ total_of (take i regions) → total_of regions ≡ length block → from + (get_or regions i blank).len ≤ length block
ends-within regions block i from lt is whole =
    let sum : total_of (take (i + 1) regions) ≡ total_of (take i regions) + (get_or regions i blank).len = sum_by_more (λ (s : Region). s.len) regions i blank lt in
    let within : total_of (take i regions) + (get_or regions i blank).len ≤ total_of regions = sum_by_more_le (λ (s : Region). s.len) regions i blank lt in
    omega arith
