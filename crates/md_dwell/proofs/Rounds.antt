-- Rounds at one more entry, and at one more wakeup.
use Rattle.std.proofs.Common.{◌≡◌, ◌≢◌, ℕ, zero, suc, ◌+◌, ◌-◌, ◌*◌, ◌/◌, ◌%◌, ◌<◌, ◌≤◌, Bool, true, false, eqb, leb, ◌&&◌, List, [], ◌∷◌, ◌++◌, length, take, get_or, Some, None, refl, sym, ap, ◌∙◌, arith, add-one, ne_eqb, below_more, leb-true, le-leb}
use Rattle.std.specs.Prelude.{flat_map}
use Rattle.std.proofs.lemmas.List.{take_more, get_or_append_left, get_or_push, length_push}
use Rattle.std.proofs.Math.Nat.{mul-mod_left, mul-div_cancel, div-lt_iff_lt-mul, mod-eq-sub-div-mul, div-mul-le_self}
use Rattle.histories.specs.Words.{along}
use Rattle.histories.proofs.Along.{along_more, along_none}
use Rattle.histories.proofs.Fronts.{flat_map_more}
use Rattle.memory_window.specs.Memory.{Memory}
use Rattle.md_dwell.specs.Lists.{delays, delays_to_last}
use Rattle.md_dwell.specs.Reading.{entry_bytes}
use Rattle.md_dwell.specs.Rounds.{no_memory, image_at, gathered, round_bytes, is_due, round_at}
use Rattle.md_dwell.specs.Readings.{IsReadTo}
use Rattle.md_dwell.specs.declared.tables.DwellEntry.{DwellEntry}
use Rattle.md_dwell.proofs.Lists.{delays_more, delays_rise, delays_none}

-- no entry of a round
pub gathered_none : (list : List DwellEntry) (images : List Memory) (from : ℕ) → gathered list images from 0 ≡ []
unfolding gathered
gathered_none list images from = rw (along_none (λ (before : List DwellEntry) (e : DwellEntry). entry_bytes (image_at images (from + delays before)) e)) refl

-- one entry more
pub gathered_more : (list : List DwellEntry) (images : List Memory) (from n : ℕ) (d : DwellEntry) → n < length list
    → gathered list images from (n + 1) ≡ gathered list images from n ++ entry_bytes (image_at images (from + delays (take n list))) (get_or list n d)
unfolding gathered
gathered_more list images from n d within =
    let read = λ (before : List DwellEntry) (e : DwellEntry). entry_bytes (image_at images (from + delays before)) e in
    ap (λ (front : List DwellEntry). flat_map (λ (bytes : List ℕ). bytes) (along read front)) (take_more list n d within)
    ∙ ap (flat_map (λ (bytes : List ℕ). bytes)) (along_more read (take n list) (get_or list n d))
    ∙ flat_map_more (λ (bytes : List ℕ). bytes) (along read (take n list)) (read (take n list) (get_or list n d))

-- the image of an earlier wakeup, and that of the last
pub image_kept : (images : List Memory) (image : Memory) (k : ℕ) → k < length images → image_at (images ++ image ∷ []) k ≡ image_at images k
image_kept images image k within = get_or_append_left images (image ∷ []) no_memory k within

pub image_last : (images : List Memory) (image : Memory) (k : ℕ) → length images ≡ k → image_at (images ++ image ∷ []) k ≡ image
image_last images image k is = get_or_push images image no_memory k is

-- what was read stays what it is in later wakeups
pub gathered_kept : (d : DwellEntry) (list : List DwellEntry) (images : List Memory) (from : ℕ) (image : Memory) (n : ℕ) → n ≤ length list → ((k : ℕ) → k < n → from + delays (take k list) < length images)
    → gathered list (images ++ image ∷ []) from n ≡ gathered list images from n
gathered_kept d list images from image zero within before = gathered_none list (images ++ image ∷ []) from ∙ sym (gathered_none list images from)
gathered_kept d list images from image (suc n) within before =
    let here = λ (i : List Memory). gathered_more list i from n d (omega arith) in
    let bytes = λ (i : Memory). entry_bytes i (get_or list n d) in
    ap (gathered list (images ++ image ∷ []) from) (sym (add-one n))
    ∙ here (images ++ image ∷ [])
    ∙ ap (λ (front : List ℕ). front ++ bytes (image_at (images ++ image ∷ []) (from + delays (take n list)))) (gathered_kept d list images from image n (omega arith) (λ k below. before k (omega arith)))
    ∙ ap (λ (i : Memory). gathered list images from n ++ bytes i) (image_kept images image (from + delays (take n list)) (before n (omega arith)))
    ∙ sym (here images)
    ∙ ap (gathered list images from) (add-one n)

-- a round of which nothing was read
pub read_none : (list : List DwellEntry) (from : ℕ) (images : List Memory) (wait : ℕ) → wait + length images ≡ from + 1 → IsReadTo list from images 0 wait []
read_none list from images wait distance =
    let none = delays_none in
    record {
      bytes_so_far = sym (gathered_none list images from);
      distance = omega arith;
      before = λ k below. absurd (omega arith);
    }

-- the next wakeup, before its reading
pub read_wakeup : (d : DwellEntry) (list : List DwellEntry) (from : ℕ) (images : List Memory) (image : Memory) (n wait : ℕ) (bytes : List ℕ) → n ≤ length list → 0 < wait
    → IsReadTo list from images n wait bytes → IsReadTo list from (images ++ image ∷ []) n (wait - 1) bytes
read_wakeup d list from images image n wait bytes within waits read =
    let long = length_push images image in
    record {
      bytes_so_far = read.bytes_so_far ∙ sym (gathered_kept d list images from image n within read.before);
      distance = omega (arith, read.distance);
      before = λ k below. let earlier = read.before k below in omega arith;
    }

-- one entry more that is read in the last wakeup
pub read_entry : (list : List DwellEntry) (from : ℕ) (past : List Memory) (image : Memory) (n : ℕ) (bytes : List ℕ) (d : DwellEntry) (wait : ℕ) (new : List ℕ) → n < length list
    → new ≡ bytes ++ entry_bytes image (get_or list n d) → wait ≡ (get_or list n d).delay
    → IsReadTo list from (past ++ image ∷ []) n 0 bytes → IsReadTo list from (past ++ image ∷ []) (n + 1) wait new
read_entry list from past image n bytes d wait new within grown delay read =
    let long = length_push past image in
    let more = delays_more list n d within in
    let last : length past ≡ from + delays (take n list) = omega (arith, read.distance) in
    record {
      bytes_so_far = grown
          ∙ ap (λ (front : List ℕ). front ++ entry_bytes image (get_or list n d)) read.bytes_so_far
          ∙ ap (λ (i : Memory). gathered list (past ++ image ∷ []) from n ++ entry_bytes i (get_or list n d)) (sym (image_last past image (from + delays (take n list)) last))
          ∙ sym (gathered_more list (past ++ image ∷ []) from n d within);
      distance = omega (arith, read.distance);
      before = below_more (λ (k : ℕ). from + delays (take k list) < length (past ++ image ∷ [])) n read.before (omega arith);
    }

-- the last entry was read in the last wakeup: one with a delay, or the last of some without
pub last_read : (list : List DwellEntry) (from : ℕ) (past : List Memory) (image : Memory) (i : ℕ) (bytes : List ℕ) → i < length list → i + 1 ≡ length list
    → IsReadTo list from (past ++ image ∷ []) i 0 bytes → from + delays_to_last list ≡ length past
last_read list from past image i bytes within is read =
    let long = length_push past image in
    let place : length list - 1 ≡ i = omega arith in
    let same = ap (λ (k : ℕ). delays (take k list)) place in
    omega (arith, read.distance)

pub last_reached : (list : List DwellEntry) (from : ℕ) (past : List Memory) (image : Memory) (next : ℕ) (old bytes : List ℕ) (n : ℕ) → next < length list → length list ≤ n
    → IsReadTo list from (past ++ image ∷ []) next 0 old → IsReadTo list from (past ++ image ∷ []) n 0 bytes → from + delays_to_last list ≡ length past
last_reached list from past image next old bytes n within end began read =
    let long = length_push past image in
    let below = delays_rise list next (length list - 1) (omega arith) in
    let above = delays_rise list (length list - 1) n (omega arith) in
    omega (arith, began.distance, read.distance)

-- a number below r periods is no multiple of the period, where none of the multiples before is it
no_multiple : (x period r : ℕ) → 0 < period → x < r * period → ((e : ℕ) → e < r → e * period ≢ x) → x % period ≢ 0
no_multiple x period r some_period below none whole =
    let q : x / period < r = (div-lt_iff_lt-mul some_period).1 below in
    let down = mod-eq-sub-div-mul x period in
    let small = div-mul-le_self x period in
    none (x / period) q (omega arith)

-- no round ends in the last wakeup, where one has begun whose next entry is read later
pub not_due : (list : List DwellEntry) (since k r : ℕ) → 0 < delays list → k < since + r * delays list + delays_to_last list → ((e : ℕ) → e < r → since + e * delays list + delays_to_last list < k) → is_due list since k ≡ false
unfolding is_due
not_due list since k r some_period below over = by_case (leb (since + delays_to_last list) k) refl
  where
    by_case : (b : Bool) → leb (since + delays_to_last list) k ≡ b → (b && eqb ((k - (since + delays_to_last list)) % delays list) 0) ≡ false
    by_case false is = refl
    by_case true is = ne_eqb _ 0 (no_multiple (k - (since + delays_to_last list)) (delays list) r some_period
        (let began : since + delays_to_last list ≤ k = leb-true _ _ is in omega arith)
        (λ e below same. let began : since + delays_to_last list ≤ k = leb-true _ _ is in let earlier = over e below in omega arith))

-- the round whose last entry is read in the last wakeup
pub round_due : (list : List DwellEntry) (since : ℕ) (images : List Memory) (r : ℕ) → 0 < delays list → length images - 1 ≡ since + r * delays list + delays_to_last list → round_at list since images ≡ Some (round_bytes list since images r)
unfolding round_at is_due
round_due list since images r some_period is =
    let start = since + delays_to_last list in
    let began : leb (since + delays_to_last list) (length images - 1) ≡ true = le-leb _ _ (omega arith) in
    let rounds : length images - 1 - (since + delays_to_last list) ≡ r * delays list = omega arith in
    rw (began, rounds, mul-mod_left r (delays list), mul-div_cancel r some_period) refl

-- no round ends in the last wakeup, where its number is that of no round
pub round_not_due : (list : List DwellEntry) (since : ℕ) (images : List Memory) → 0 < delays list → ((r : ℕ) → length images - 1 ≢ since + r * delays list + delays_to_last list) → round_at list since images ≡ None
unfolding round_at is_due
round_not_due list since images some_period other = rw none refl
  where
    k : ℕ
    k = length images - 1

    by_case : (b : Bool) → leb (since + delays_to_last list) (length images - 1) ≡ b → (b && eqb ((length images - 1 - (since + delays_to_last list)) % delays list) 0) ≡ false
    by_case false is = refl
    by_case true is = ne_eqb _ 0 (λ whole.
        let began : since + delays_to_last list ≤ length images - 1 = leb-true _ _ is in
        let x = length images - 1 - (since + delays_to_last list) in
        let down = mod-eq-sub-div-mul (length images - 1 - (since + delays_to_last list)) (delays list) in
        let small = div-mul-le_self (length images - 1 - (since + delays_to_last list)) (delays list) in
        other ((length images - 1 - (since + delays_to_last list)) / delays list) (omega arith))

    none : (leb (since + delays_to_last list) (length images - 1) && eqb ((length images - 1 - (since + delays_to_last list)) % delays list) 0) ≡ false
    none = by_case (leb (since + delays_to_last list) (length images - 1)) refl
