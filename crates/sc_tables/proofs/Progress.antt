-- What was read of a payload so far, one entry at a time.
use Rattle.std.proofs.Common.{◌≡◌, ℕ, zero, suc, ◌+◌, ◌-◌, ◌<◌, ◌≤◌, true, false, List, [], ◌∷◌, ◌++◌, length, drop, Some, None, Ok, Err, refl, ap, ◌∙◌, add-one, arith, length-drop}
use Rattle.std.proofs.lemmas.List.{drop-drop, length_push}
use Rattle.sc_tables.specs.declared.reasons.EntryReason.{EntryReason}
use Rattle.sc_tables.specs.Reasons.{reason_number}
use Rattle.sc_tables.specs.Grammar.{EntryForm, is_end, read_from, read_of}

pub from_end : {E : Type 0} (form : EntryForm E) (most : ℕ) (done : List E) (bytes : List ℕ) → is_end bytes ≡ true → read_from form most done bytes ≡ Ok done
unfolding read_from
from_end form zero done bytes ended = refl
from_end form (suc most) done bytes ended = rw ended refl

pub from_fault : {E : Type 0} (form : EntryForm E) (most : ℕ) (done : List E) (bytes : List ℕ) (reason : EntryReason) → is_end bytes ≡ false → 0 < most → form.reason done bytes ≡ Some reason
    → read_from form most done bytes ≡ Err (record { entry = length done + 1; reason = reason_number reason })
unfolding read_from
from_fault form zero done bytes reason going some faulty = absurd (omega arith)
from_fault form (suc most) done bytes reason going some faulty = rw (going, faulty) refl

pub from_entry : {E : Type 0} (form : EntryForm E) (most : ℕ) (done : List E) (bytes : List ℕ) → is_end bytes ≡ false → form.reason done bytes ≡ None
    → read_from form (most + 1) done bytes ≡ read_from form most (done ++ form.entry bytes ∷ []) (drop (form.size bytes) bytes)
unfolding read_from
from_entry form most done bytes going sound = rw (add-one, going, sound) refl

-- where no end is, a byte is left
pub some_left : (bytes : List ℕ) → is_end bytes ≡ false → 0 < length bytes
unfolding is_end
some_left [] going = cc
some_left (b ∷ bytes) going = omega arith

-- These entries were read, up to a place.
pub record IsReadTo {E : Type 0} (form : EntryForm E) (payload : List ℕ) (entries : List E) (at : ℕ) : Type 0 where
  pub within : at ≤ length payload
  pub spare : length entries ≤ at
  pub left : read_of form payload ≡ read_from form (length payload - length entries) entries (drop at payload)

pub read_none : {E : Type 0} (form : EntryForm E) (payload : List ℕ) → IsReadTo form payload [] 0
unfolding read_of
read_none form payload = record { within = omega arith; spare = omega arith; left = let all : length payload - 0 ≡ length payload = omega arith in rw all refl }

pub read_more : {E : Type 0} (form : EntryForm E) (payload : List ℕ) (entries : List E) (at size : ℕ) → IsReadTo form payload entries at → is_end (drop at payload) ≡ false
    → form.reason entries (drop at payload) ≡ None → size ≡ form.size (drop at payload) → 1 ≤ size → size ≤ length (drop at payload)
    → IsReadTo form payload (entries ++ form.entry (drop at payload) ∷ []) (at + size)
read_more {E} form payload entries at size so_far going sound is least within =
    let more : List E = entries ++ form.entry (drop at payload) ∷ [] in
    let long : length more ≡ length entries + 1 = length_push entries (form.entry (drop at payload)) in
    let cut = length-drop at payload in
    let most : length payload - length entries ≡ length payload - length more + 1 = omega arith in
    let one : read_from form (length payload - length entries) entries (drop at payload) ≡ read_from form (length payload - length more) more (drop (form.size (drop at payload)) (drop at payload))
    = rw most (from_entry form (length payload - length more) entries (drop at payload) going sound) in
    let on : drop (form.size (drop at payload)) (drop at payload) ≡ drop (at + size) payload = rw (← is) (drop-drop size at payload) in
    record {
      within = omega arith;
      spare = omega arith;
      left = so_far.left ∙ (one ∙ ap (read_from form (length payload - length more) more) on);
    }

pub read_all : {E : Type 0} (form : EntryForm E) (payload : List ℕ) (entries : List E) (at : ℕ) → IsReadTo form payload entries at → is_end (drop at payload) ≡ true → read_of form payload ≡ Ok entries
read_all form payload entries at so_far ended = so_far.left ∙ from_end form (length payload - length entries) entries (drop at payload) ended

pub read_fault : {E : Type 0} (form : EntryForm E) (payload : List ℕ) (entries : List E) (at : ℕ) (reason : EntryReason) → IsReadTo form payload entries at → is_end (drop at payload) ≡ false
    → form.reason entries (drop at payload) ≡ Some reason → read_of form payload ≡ Err (record { entry = length entries + 1; reason = reason_number reason })
read_fault form payload entries at reason so_far going faulty =
    let some = some_left (drop at payload) going in
    let cut = length-drop at payload in
    so_far.left ∙ from_fault form (length payload - length entries) entries (drop at payload) reason going (omega arith) faulty
