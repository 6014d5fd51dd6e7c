-- The first fault of a table's entries from a place on, where the entry at each place is a function of the place.
use Rattle.std.proofs.Common.{◌≡◌, ◌↔◌, ℕ, zero, suc, ◌+◌, ◌-◌, ◌<◌, ◌≤◌, List, [], ◌∷◌, length, map, drop, Option, Some, None, refl, ap, subst, ◌∙◌, arith, get_or, zero-add}
use Rattle.std.specs.List.{range_with_len}
use Rattle.std.proofs.lemmas.List.{drop_more, drop_all}
use Rattle.std.proofs.lemmas.List.FromFn.{length-map-range_with_len, get_or-map-range_with_len}
use Rattle.table_files.specs.declared.fault.EntryFault.{EntryFault}
use Rattle.table_files.specs.Entries.{fault_or, first_fault, where_well, IsFirstReason}

-- the fault of the first of some entries, or else that of those behind it
first_fault_cons : {E : Type 0} (reason_of : E → Option ℕ) (n : ℕ) (e : E) (entries : List E) → first_fault reason_of n (e ∷ entries) ≡ fault_or n (reason_of e) (first_fault reason_of (n + 1) entries)
unfolding first_fault
first_fault_cons reason_of n e entries = refl

module _ {E : Type 0} (reason_of : E → Option ℕ) (at : ℕ → E) (count : ℕ) where
  -- the fault from a place on is that of its entry, or else that from the next place on
  fault_more : (i : ℕ) → i < count → first_fault reason_of (i + 1) (drop i (map at (range_with_len 0 count))) ≡ fault_or (i + 1) (reason_of (at i)) (first_fault reason_of (i + 1 + 1) (drop (i + 1) (map at (range_with_len 0 count))))
  fault_more i within =
      let long : length (map at (range_with_len 0 count)) ≡ count = length-map-range_with_len at 0 count in
      ap (first_fault reason_of (i + 1)) (drop_more (map at (range_with_len 0 count)) i (at i) (omega arith))
      ∙ first_fault_cons reason_of (i + 1) (get_or (map at (range_with_len 0 count)) i (at i)) (drop (i + 1) (map at (range_with_len 0 count)))
      ∙ ap (λ (e : E). fault_or (i + 1) (reason_of e) (first_fault reason_of (i + 1 + 1) (drop (i + 1) (map at (range_with_len 0 count))))) (get_or-map-range_with_len at 0 count i i (at i) within (omega arith))

  -- where it has no reason to be refused
  pub fault_later : (i : ℕ) → i < count → reason_of (at i) ≡ None → first_fault reason_of (i + 1) (drop i (map at (range_with_len 0 count))) ≡ first_fault reason_of (i + 1 + 1) (drop (i + 1) (map at (range_with_len 0 count)))
  fault_later i within none = fault_more i within ∙ ap (λ (o : Option ℕ). fault_or (i + 1) o (first_fault reason_of (i + 1 + 1) (drop (i + 1) (map at (range_with_len 0 count))))) none

  -- where it has one
  pub fault_here : (i reason : ℕ) → i < count → reason_of (at i) ≡ Some reason → first_fault reason_of (i + 1) (drop i (map at (range_with_len 0 count))) ≡ Some (record { entry = i + 1; reason = reason })
  fault_here i reason within some_reason = fault_more i within ∙ ap (λ (o : Option ℕ). fault_or (i + 1) o (first_fault reason_of (i + 1 + 1) (drop (i + 1) (map at (range_with_len 0 count))))) some_reason

-- behind the last entry there is none
pub fault_none : {E : Type 0} (reason_of : E → Option ℕ) (entries : List E) (n i : ℕ) → length entries ≤ i → first_fault reason_of n (drop i entries) ≡ None
unfolding first_fault
fault_none reason_of entries n i past = ap (first_fault reason_of n) (drop_all i entries past)

-- no entry has a reason
abbrev Silent : List (Option ℕ) → Type 0
Silent reasons = (k : ℕ) → k < length reasons → get_or reasons k None ≡ None

-- the first of some reasons is told
pub first_told : (reasons : List (Option ℕ)) (n place reason : ℕ) → IsFirstReason reasons place reason → first_fault (λ r. r) n reasons ≡ Some (record { entry = place + n; reason = reason })
unfolding first_fault
first_told [] n place reason is = absurd (omega (arith, is.within))
first_told (r ∷ reasons) n zero reason is = let here : r ≡ Some reason = is.here in rw (here, zero-add n) refl
first_told (r ∷ reasons) n (suc place) reason is =
    let none : r ≡ None = is.before 0 (omega arith) in
    let behind : IsFirstReason reasons place reason = record { within = omega (arith, is.within); here = is.here; before = λ k below. is.before (suc k) (omega arith) } in
    let same : place + (n + 1) ≡ suc place + n = omega arith in
    rw (none, ← same) (first_told reasons (n + 1) place reason behind)

-- a reason in the first place, and one behind an entry that has none
here_first : (reasons : List (Option ℕ)) (place reason : ℕ) → place ≡ 0 → IsFirstReason (Some reason ∷ reasons) place reason
here_first reasons zero reason is = record { within = omega arith; here = refl; before = λ k below. absurd (omega arith) }
here_first reasons (suc place) reason is = absurd (omega arith)

behind_first : (reasons : List (Option ℕ)) (place other reason : ℕ) → place ≡ suc other → IsFirstReason reasons other reason → IsFirstReason (None ∷ reasons) place reason
behind_first reasons zero other reason is first = absurd (omega arith)
behind_first reasons (suc place) other reason is first =
    let same : place ≡ other = omega arith in
    record { within = omega (arith, first.within); here = rw same first.here; before = before first }
  where
    before : IsFirstReason reasons other reason → (k : ℕ) → k < suc place → get_or (None ∷ reasons) k None ≡ None
    before first zero below = refl
    before first (suc k) below = first.before k (omega arith)

-- what is told is the first of the reasons
told_from : (reasons : List (Option ℕ)) (n : ℕ) (fault : EntryFault) → first_fault (λ r. r) n reasons ≡ Some fault → (n ≤ fault.entry) × IsFirstReason reasons (fault.entry - n) fault.reason
unfolding first_fault
told_from [] n fault is = absurd (cc)
told_from (Some reason ∷ reasons) n fault is =
    let same : ◌≡◌ {A = EntryFault} (record { entry = n; reason = reason }) fault = cc in
    subst (λ (f : EntryFault). (n ≤ f.entry) × IsFirstReason (Some reason ∷ reasons) (f.entry - n) f.reason) same (omega arith, here_first reasons (n - n) reason (omega arith))
told_from (None ∷ reasons) n fault is =
    let behind = told_from reasons (n + 1) fault is in
    let entry : n + 1 ≤ fault.entry = behind.0 in
    (omega arith, behind_first reasons (fault.entry - n) (fault.entry - (n + 1)) fault.reason (omega arith) behind.1)

pub told_first : (reasons : List (Option ℕ)) (fault : EntryFault) → first_fault (λ r. r) 1 reasons ≡ Some fault → (1 ≤ fault.entry) × IsFirstReason reasons (fault.entry - 1) fault.reason
told_first reasons fault is = told_from reasons 1 fault is

silent_none : (reasons : List (Option ℕ)) (n : ℕ) → Silent reasons → first_fault (λ r. r) n reasons ≡ None
unfolding first_fault
silent_none [] n silent = refl
silent_none (r ∷ reasons) n silent =
    let here : r ≡ None = silent 0 (omega arith) in
    rw here (silent_none reasons (n + 1) (λ k within. silent (suc k) (omega arith)))

none_silent : (reasons : List (Option ℕ)) (n : ℕ) → first_fault (λ r. r) n reasons ≡ None → Silent reasons
unfolding first_fault
none_silent [] n none k within = absurd (omega arith)
none_silent (Some reason ∷ reasons) n none k within = absurd (cc)
none_silent (None ∷ reasons) n none zero within = refl
none_silent (None ∷ reasons) n none (suc k) within = none_silent reasons (n + 1) none k (omega arith)

pub none_told : (reasons : List (Option ℕ)) → (first_fault (λ r. r) 1 reasons ≡ None) ↔ Silent reasons
none_told reasons = (none_silent reasons 1, silent_none reasons 1)

-- what holds of the payload's entries where they have no fault, and of what was there before, holds of what is there afterwards
pub where_well_holds : {A : Type 0} (holds : A → Type 0) (well old : A) (fault : Option EntryFault) → (fault ≡ None → holds well) → holds old → holds (where_well well old fault)
where_well_holds holds well old None good kept = good refl
where_well_holds holds well old (Some fault) good kept = kept
