-- The current place, the offset and the bytes of a pass, at one more happening.
use Rattle.std.proofs.Common.{◌≡◌, ◌≢◌, ℕ, ◌+◌, ◌%◌, Bool, true, false, cond, not, ◌&&◌, ◌||◌, inl, inr, List, [], ◌∷◌, ◌++◌, map, refl, sym, ap, subst, ◌∙◌, append-nil, eq-eqb, ne_eqb}
use Rattle.std.specs.Prelude.{filter, flat_map, ◌==◌}
use Rattle.std.specs.List.{list_any}
use Rattle.std.proofs.lemmas.Bool.{eqb-true}
use Rattle.std.proofs.lemmas.List.{map_push}
use Rattle.std.proofs.lemmas.List.Elements.{filter-append}
use Rattle.histories.specs.Words.{last_or, from_last}
use Rattle.histories.proofs.Lasts.{last_or_more, last_cases, any_push, from_last_more}
use Rattle.histories.proofs.Fronts.{flat_map_more}
use Rattle.packet_forms.specs.Crc.{crc_of}
use Rattle.packet_forms.proofs.Checks.{crc_both, crc_none}
use Rattle.cs_slices.specs.declared.instructions.Instruction.{Instruction}
use Rattle.cs_slices.specs.Happenings.{Slice, Happening, slices_among, since_slice, slices_since}
use Rattle.cs_slices.specs.Happenings.Happening.{Ordered, Read, Renewed}
use Rattle.cs_slices.specs.Orders.{table_of, turns_off, breaks_off}
use Rattle.cs_slices.specs.Slices.{place_behind, current_place, goes_on, has_begun, offset_at}
use Rattle.cs_slices.specs.Passes.{pass_bytes, begun_bytes}
use Rattle.cs_slices.specs.State.{PassingStands}
use Rattle.cs_slices.specs.declared.passing.Passing.{Passing}
use Rattle.cs_slices.proofs.Happened.{slices_none, since_none, slices_ordered, since_ordered, slices_read, since_read, slices_renewed, since_renewed, slices_since_ordered, slices_since_read, slices_since_renewed}

-- by one more slice
pub current_more : (slices : List Slice) (s : Slice) → current_place (slices ++ s ∷ []) ≡ place_behind s
unfolding current_place
current_more slices s = ap (last_or 0) (map_push place_behind slices s) ∙ last_or_more 0 (map place_behind slices) (place_behind s)

pub begun_more : (place : ℕ) (slices : List Slice) (s : Slice) (since : List Happening) → has_begun place (slices ++ s ∷ []) since ≡ goes_on place since s
unfolding has_begun
begun_more place slices s since = ap (last_or false) (map_push (goes_on place since) slices s) ∙ last_or_more false (map (goes_on place since) slices) (goes_on place since s)

pub offset_more : (place : ℕ) (slices : List Slice) (s : Slice) (since : List Happening) → offset_at place (slices ++ s ∷ []) since ≡ cond (goes_on place since s) s.till 0
unfolding offset_at
offset_more place slices s since =
    let at : Slice → ℕ = λ x. cond (goes_on place since x) x.till 0 in
    ap (last_or 0) (map_push at slices s) ∙ last_or_more 0 (map at slices) (at s)

-- before any slice
begun_none : (place : ℕ) (since : List Happening) → has_begun place [] since ≡ false
unfolding has_begun last_or
begun_none place since = refl

pub offset_none : (place : ℕ) (since : List Happening) → offset_at place [] since ≡ 0
unfolding offset_at last_or
offset_none place since = refl

current_none : current_place [] ≡ 0
unfolding current_place last_or
current_none = refl

-- no pass, no bytes
none_begun : (happened : List Happening) → has_begun (current_place (slices_among happened)) (slices_among happened) (since_slice happened) ≡ false → 0 ≡ crc_of 0 (begun_bytes happened)
unfolding begun_bytes
none_begun happened none = rw none (sym (crc_none 0))

-- whether a pass goes on behind a slice of another place, or one that ended, or where something was switched off
ended : (place : ℕ) (since : List Happening) (s : Slice) → s.ends ≡ true → goes_on place since s ≡ false
ended place since s ends = rw ends (by_case (s.place == place) (not (list_any (breaks_off place) since)))
  where
    by_case : (a b : Bool) → (a && false && b) ≡ false
    by_case true b = refl
    by_case false b = refl

elsewhere : (place : ℕ) (since : List Happening) (s : Slice) → (s.place == place) ≡ false → goes_on place since s ≡ false
elsewhere place since s other = rw other refl

still : (place : ℕ) (s : Slice) → s.place ≡ place → s.ends ≡ false → goes_on place [] s ≡ true
still place s same ends = rw (ends, eq-eqb s.place place same) refl

turned : (place : ℕ) (since : List Happening) (h : Happening) (s : Slice) → breaks_off place h ≡ true → goes_on place (since ++ h ∷ []) s ≡ false
turned place since h s off =
    rw (any_push (breaks_off place) since h, off)
    (by_case ((s.place == place) && not s.ends) (list_any (breaks_off place) since))
  where
    by_case : (a b : Bool) → (a && not (b || true)) ≡ false
    by_case true true = refl
    by_case true false = refl
    by_case false b = refl

kept : (place : ℕ) (since : List Happening) (h : Happening) (s : Slice) → breaks_off place h ≡ false → goes_on place (since ++ h ∷ []) s ≡ goes_on place since s
kept place since h s on =
    rw (any_push (breaks_off place) since h, on)
    (by_case ((s.place == place) && not s.ends) (list_any (breaks_off place) since))
  where
    by_case : (a b : Bool) → (a && not (b || false)) ≡ (a && not b)
    by_case a true = refl
    by_case a false = refl

-- a pass breaks off with the last of what happened since
pub all_turned : (place : ℕ) (slices : List Slice) (since : List Happening) (h : Happening) → breaks_off place h ≡ true → (has_begun place slices (since ++ h ∷ []) ≡ false) × (offset_at place slices (since ++ h ∷ []) ≡ 0)
all_turned place slices since h off = elim (last_cases slices) [
  | inl none ↦ rw none (begun_none place (since ++ h ∷ []), offset_none place (since ++ h ∷ []))
  | inr found ↦ rw found.2 (begun_more place found.0 found.1 (since ++ h ∷ []) ∙ turned place since h found.1 off, offset_more place found.0 found.1 (since ++ h ∷ []) ∙ ap (λ (b : Bool). cond b found.1.till 0) (turned place since h found.1 off))
]

-- or it doesn't
pub all_kept : (place : ℕ) (slices : List Slice) (since : List Happening) (h : Happening) → breaks_off place h ≡ false
    → (has_begun place slices (since ++ h ∷ []) ≡ has_begun place slices since) × (offset_at place slices (since ++ h ∷ []) ≡ offset_at place slices since)
all_kept place slices since h on = elim (last_cases slices) [
  | inl none ↦ rw none (begun_none place (since ++ h ∷ []) ∙ sym (begun_none place since), offset_none place (since ++ h ∷ []) ∙ sym (offset_none place since))
  | inr found ↦ rw found.2 (
    begun_more place found.0 found.1 (since ++ h ∷ []) ∙ kept place since h found.1 on ∙ sym (begun_more place found.0 found.1 since),
    offset_more place found.0 found.1 (since ++ h ∷ []) ∙ ap (λ (b : Bool). cond b found.1.till 0) (kept place since h found.1 on) ∙ sym (offset_more place found.0 found.1 since),
  )
]

-- what was begun, once more happened that is no slice
module _ (happened next : List Happening) (h : Happening) (p : Passing) (slices : slices_among next ≡ slices_among happened) (since : since_slice next ≡ since_slice happened ++ h ∷ []) (stood : PassingStands happened p) where
  breaks : (q : Passing) → breaks_off p.place h ≡ true → q.place ≡ p.place → q.offset ≡ 0 → q.check ≡ 0 → PassingStands next q
  breaks q off place offset check =
      let here = current_place (slices_among happened) in
      let cut : breaks_off (current_place (slices_among happened)) h ≡ true = subst (λ (n : ℕ). breaks_off n h ≡ true) stood.place off in
      let none = all_turned (current_place (slices_among happened)) (slices_among happened) (since_slice happened) h cut in
      record {
        place = place ∙ stood.place ∙ ap current_place (sym slices);
        offset = offset ∙ sym (rw (slices, since) none.1);
        check = check ∙ none_begun next (rw (slices, since) none.0);
      }

  goes : slices_since (table_of (current_place (slices_among happened))) next ≡ slices_since (table_of (current_place (slices_among happened))) happened → breaks_off p.place h ≡ false → PassingStands next p
  unfolding begun_bytes
  goes fresh on =
      let uncut : breaks_off (current_place (slices_among happened)) h ≡ false = subst (λ (n : ℕ). breaks_off n h ≡ false) stood.place on in
      let same = all_kept (current_place (slices_among happened)) (slices_among happened) (since_slice happened) h uncut in
      record {
        place = stood.place ∙ ap current_place (sym slices);
        offset = stood.offset ∙ sym (rw (slices, since) same.1);
        check = stood.check ∙ sym (rw (slices, since, same.0, fresh) refl);
      }

-- an order
pub stands_turned : (happened : List Happening) (order : Instruction) (p q : Passing) → PassingStands happened p → turns_off p.place order ≡ true → q.place ≡ p.place → q.offset ≡ 0 → q.check ≡ 0 → PassingStands (happened ++ Ordered order ∷ []) q
stands_turned happened order p q stood off place offset check =
    breaks happened (happened ++ Ordered order ∷ []) (Ordered order) p (slices_ordered happened order) (since_ordered happened order) stood q off place offset check

pub stands_kept : (happened : List Happening) (order : Instruction) (p : Passing) → PassingStands happened p → turns_off p.place order ≡ false → PassingStands (happened ++ Ordered order ∷ []) p
stands_kept happened order p stood on =
    goes happened (happened ++ Ordered order ∷ []) (Ordered order) p (slices_ordered happened order) (since_ordered happened order) stood (slices_since_ordered (table_of (current_place (slices_among happened))) happened order) on

-- a table that becomes active
pub stands_renewed : (happened : List Happening) (n : ℕ) (p q : Passing) → PassingStands happened p → n ≡ table_of p.place → q.place ≡ p.place → q.offset ≡ 0 → q.check ≡ 0 → PassingStands (happened ++ Renewed n ∷ []) q
stands_renewed happened n p q stood same place offset check =
    breaks happened (happened ++ Renewed n ∷ []) (Renewed n) p (slices_renewed happened n) (since_renewed happened n) stood q (eq-eqb n (table_of p.place) same) place offset check

pub stands_elsewhere : (happened : List Happening) (n : ℕ) (p : Passing) → PassingStands happened p → n ≢ table_of p.place → PassingStands (happened ++ Renewed n ∷ []) p
stands_elsewhere happened n p stood other =
    let apart : (n == table_of p.place) ≡ false = ne_eqb n (table_of p.place) other in
    let here : (n == table_of (current_place (slices_among happened))) ≡ false = subst (λ (k : ℕ). (n == table_of k) ≡ false) stood.place apart in
    goes happened (happened ++ Renewed n ∷ []) (Renewed n) p (slices_renewed happened n) (since_renewed happened n) stood (slices_since_renewed (table_of (current_place (slices_among happened))) n happened false here) apart

-- before all
pub stands_none : (p : Passing) → p.place ≡ 0 → p.offset ≡ 0 → p.check ≡ 0 → PassingStands [] p
stands_none p place offset check = record {
  place = place ∙ sym (ap current_place slices_none ∙ current_none);
  offset = offset ∙ sym (rw (slices_none, since_none) (offset_none (current_place []) []));
  check = check ∙ none_begun [] (rw (slices_none, since_none) (begun_none (current_place []) []));
}

-- after a slice that ends its pass
pub stands_behind : (happened : List Happening) (s : Slice) (place : ℕ) (p : Passing) → s.place ≡ place → s.ends ≡ true → p.place ≡ (place + 1) % 32 → p.offset ≡ 0 → p.check ≡ 0 → PassingStands (happened ++ Read s ∷ []) p
stands_behind happened s place p same ends at offset check =
    let slices = slices_among happened in
    let now = current_place (slices_among happened ++ s ∷ []) in
    let behind : place_behind s ≡ (place + 1) % 32 = rw (ends, same) refl in
    record {
      place = at ∙ sym behind ∙ sym (current_more slices s) ∙ ap current_place (sym (slices_read happened s));
      offset = offset ∙ sym (rw (slices_read happened s, since_read happened s) (offset_more now slices s [] ∙ ap (λ (b : Bool). cond b s.till 0) (ended now [] s ends)));
      check = check ∙ none_begun (happened ++ Read s ∷ []) (rw (slices_read happened s, since_read happened s) (begun_more now slices s [] ∙ ended now [] s ends));
    }

-- after a slice that doesn't
pub stands_begun : (happened : List Happening) (s : Slice) (place till check : ℕ) (p : Passing) → s.place ≡ place → s.till ≡ till → s.ends ≡ false → check ≡ crc_of 0 (pass_bytes place (slices_since (table_of place) happened ++ s ∷ []))
    → p.place ≡ place → p.offset ≡ till → p.check ≡ check → PassingStands (happened ++ Read s ∷ []) p
unfolding begun_bytes
stands_begun happened s place till check p same to ends is at offset of =
    let slices = slices_among happened in
    let now = current_place (slices_among happened ++ s ∷ []) in
    let here : current_place (slices_among happened ++ s ∷ []) ≡ place = current_more slices s ∙ rw (ends, same) refl in
    let on : goes_on now [] s ≡ true = still now s (same ∙ sym here) ends in
    let begun : has_begun (current_place (slices_among happened ++ s ∷ [])) (slices_among happened ++ s ∷ []) [] ≡ true = begun_more now slices s [] ∙ on in
    record {
      place = at ∙ sym here ∙ ap current_place (sym (slices_read happened s));
      offset = offset ∙ sym (rw (slices_read happened s, since_read happened s) (offset_more now slices s [] ∙ ap (λ (b : Bool). cond b s.till 0) on ∙ to));
      check = of ∙ is ∙ sym (rw (slices_read happened s, since_read happened s, begun, here, slices_since_read (table_of place) happened s) refl);
    }

-- another place than the current one begins at its first byte
pub offset_elsewhere : (place : ℕ) (slices : List Slice) (since : List Happening) → place ≢ current_place slices → offset_at place slices since ≡ 0
offset_elsewhere place slices since other = elim (last_cases slices) [
  | inl none ↦ rw none (offset_none place since)
  | inr found ↦ rw found.2 (offset_more place found.0 found.1 since ∙ by_end found.1 (subst (λ (n : ℕ). place ≢ n) (ap current_place found.2 ∙ current_more found.0 found.1) other) found.1.ends refl)
]
  where
    by_end : (s : Slice) → place ≢ place_behind s → (b : Bool) → s.ends ≡ b → cond (goes_on place since s) s.till 0 ≡ 0
    by_end s apart true ends = ap (λ (b : Bool). cond b s.till 0) (ended place since s ends)
    by_end s apart false ends =
        let not_here : s.place ≢ place = λ same. apart (sym same ∙ sym (rw ends refl)) in
        ap (λ (b : Bool). cond b s.till 0) (elsewhere place since s (ne_eqb s.place place not_here))

-- where a place doesn't begin at its first byte, it is the current one, and its pass has begun
pub offset_begun : (place : ℕ) (slices : List Slice) (since : List Happening) → offset_at place slices since ≢ 0 → (current_place slices ≡ place) × (has_begun place slices since ≡ true)
offset_begun place slices since some = elim (last_cases slices) [
  | inl none ↦ absurd (some (ap (λ (xs : List Slice). offset_at place xs since) none ∙ offset_none place since))
  | inr found ↦ rw found.2 (by_going found.0 found.1 (λ zero. some (ap (λ (xs : List Slice). offset_at place xs since) found.2 ∙ offset_more place found.0 found.1 since ∙ zero)) (goes_on place since found.1) refl)
]
  where
    first_of_three : (a b c : Bool) → (a && b && c) ≡ true → a ≡ true
    first_of_three true b c h = refl
    first_of_three false b c h = cc

    second_of_three : (a b c : Bool) → (a && not b && c) ≡ true → b ≡ false
    second_of_three true true c h = cc
    second_of_three true false c h = refl
    second_of_three false b c h = cc

    by_going : (slices : List Slice) (s : Slice) → cond (goes_on place since s) s.till 0 ≢ 0 → (b : Bool) → goes_on place since s ≡ b → (current_place (slices ++ s ∷ []) ≡ place) × (has_begun place (slices ++ s ∷ []) since ≡ true)
    by_going slices s some false going = absurd (some (rw going refl))
    by_going slices s some true going =
        let here : s.place ≡ place = eqb-true s.place place (first_of_three (s.place == place) (not s.ends) (not (list_any (breaks_off place) since)) going) in
        let goes : s.ends ≡ false = second_of_three (s.place == place) s.ends (not (list_any (breaks_off place) since)) going in
        (current_more slices s ∙ rw goes here, begun_more place slices s since ∙ going)

-- the bytes of a pass at one more slice of its place
own_more : (place : ℕ) (slices : List Slice) (s : Slice) → s.place ≡ place → filter (λ (x : Slice). x.place == place) (slices ++ s ∷ []) ≡ filter (λ (x : Slice). x.place == place) slices ++ s ∷ []
own_more place slices s same =
    filter-append (λ (x : Slice). x.place == place) slices (s ∷ []) ∙ ap (λ (b : Bool). filter (λ (x : Slice). x.place == place) slices ++ cond b (s ∷ []) []) (eq-eqb s.place place same)

pub bytes_first : (place : ℕ) (slices : List Slice) (s : Slice) → s.place ≡ place → s.from ≡ 0 → pass_bytes place (slices ++ s ∷ []) ≡ s.bytes
unfolding pass_bytes
bytes_first place slices s same first =
    let own = filter (λ (x : Slice). x.place == place) slices in
    let begins : Slice → Bool = λ x. x.from == 0 in
    let bytes : List Slice → List ℕ = λ xs. flat_map (λ (x : Slice). x.bytes) xs in
    ap (λ (xs : List Slice). bytes (from_last begins xs)) (own_more place slices s same)
    ∙ ap bytes (from_last_more begins own s)
    ∙ ap (λ (b : Bool). bytes (cond b (s ∷ []) (from_last begins own ++ s ∷ []))) (eq-eqb s.from 0 first)
    ∙ append-nil s.bytes

pub bytes_more : (place : ℕ) (slices : List Slice) (s : Slice) → s.place ≡ place → s.from ≢ 0 → pass_bytes place (slices ++ s ∷ []) ≡ pass_bytes place slices ++ s.bytes
unfolding pass_bytes
bytes_more place slices s same later =
    let own = filter (λ (x : Slice). x.place == place) slices in
    let begins : Slice → Bool = λ x. x.from == 0 in
    let bytes : List Slice → List ℕ = λ xs. flat_map (λ (x : Slice). x.bytes) xs in
    ap (λ (xs : List Slice). bytes (from_last begins xs)) (own_more place slices s same)
    ∙ ap bytes (from_last_more begins own s)
    ∙ ap (λ (b : Bool). bytes (cond b (s ∷ []) (from_last begins own ++ s ∷ []))) (ne_eqb s.from 0 later)
    ∙ flat_map_more (λ (x : Slice). x.bytes) (from_last begins own) s

-- the check of a pass at one more slice
pub check_first : (place check : ℕ) (slices : List Slice) (s : Slice) (bytes : List ℕ) → s.place ≡ place → s.from ≡ 0 → s.bytes ≡ bytes → check ≡ crc_of 0 bytes → check ≡ crc_of 0 (pass_bytes place (slices ++ s ∷ []))
check_first place check slices s bytes same first are is = is ∙ ap (crc_of 0) (sym are ∙ sym (bytes_first place slices s same first))

pub check_more : (place check : ℕ) (happened : List Happening) (s : Slice) (bytes : List ℕ) (p : Passing) → PassingStands happened p → s.place ≡ place → s.from ≢ 0 → s.from ≡ offset_at place (slices_among happened) (since_slice happened) → s.bytes ≡ bytes
    → check ≡ crc_of p.check bytes → check ≡ crc_of 0 (pass_bytes place (slices_since (table_of place) happened ++ s ∷ []))
unfolding begun_bytes
check_more place check happened s bytes p stood same later from are is =
    let slices = slices_among happened in
    let since = since_slice happened in
    let fresh = slices_since (table_of place) happened in
    let going = offset_begun place slices since (λ zero. later (from ∙ zero)) in
    let here : current_place (slices_among happened) ≡ place = going.0 in
    let begun : has_begun place (slices_among happened) (since_slice happened) ≡ true = going.1 in
    let so_far : p.check ≡ crc_of 0 (pass_bytes place (slices_since (table_of place) happened)) = stood.check ∙ rw (here, begun) refl in
    is ∙ ap (λ (c : ℕ). crc_of c bytes) so_far ∙ ap (crc_of (crc_of 0 (pass_bytes place fresh))) (sym are)
    ∙ sym (crc_both 0 (pass_bytes place fresh) s.bytes) ∙ ap (crc_of 0) (sym (bytes_more place fresh s same later))
