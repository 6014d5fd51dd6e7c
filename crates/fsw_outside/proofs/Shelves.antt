-- The shelf over memory: telling by counts, searching by name, and what a read takes and leaves.
use Rattle.std.proofs.Common.{◌≡◌, ℕ, ◌+◌, ◌-◌, ◌^◌, ◌<◌, ◌≤◌, min, true, false, cond, ◌&&◌, List, [], ◌∷◌, ◌++◌, length, take, drop, get_or, refl, sym, ap, subst, ◌∙◌, arith, add-one, zero, suc, Option, Some, None, Ok, Err, is_some, IsFalse, ◌↔◌, string_bytes}
use Rattle.std.specs.Prelude.{slice_get, option_map, unwrap_or, bytes_eq}
use Rattle.std.specs.Option.{ForSome}
use Rattle.std.proofs.lemmas.Bool.Decides.{nat_tests}
use Rattle.std.proofs.lemmas.List.{take-append-drop, drop-drop, map_push}
use Rattle.std.proofs.lemmas.Option.{slice_get-get_or}
use Rattle.std.proofs.lemmas.Slice.Eq.{bytes_eq-Decides}
use Rattle.std.proofs.Math.Seq.{drop-cons}
use Rattle.fsw_outside.specs.Told.{WhereTold}
use Rattle.fsw_outside.specs.Files.{Stored, Opens, Reads, file_named}
use Rattle.fsw_outside.specs.Memory.{can_rise, stored_of, stored_files, name_at, bytes_at, rest_at, content_with, IsPlaceOf}
use Rattle.fsw_outside.specs.declared.mem_shelf.StoredFile.{StoredFile}
use Rattle.fsw_outside.specs.declared.mem_shelf.Place.{Place}
use Rattle.fsw_outside.specs.Closed.{cond_some, rest_of_none}
use Rattle.fsw_outside.specs.TellingLaws.{same_content}

-- what is told after was told before, since no count falls
pub by_two_counts : {A : Type 0} (m n m' n' : ℕ) (old new : A) (P : A → A → Type 0) → (m' < 2 ^ 64 - 1 → m ≤ m') → (n' < 2 ^ 64 - 1 → n ≤ n') → (m' < 2 ^ 64 - 1 → n' < 2 ^ 64 - 1 → P old new)
    → WhereTold (cond (can_rise m && can_rise n) (Some old) None) (cond (can_rise m' && can_rise n') (Some new) None) P
by_two_counts m n m' n' old new P m_later n_later holds after tells =
    let parts = cond_some (can_rise m' && can_rise n') new after tells in
    let m_low : m' < 2 ^ 64 - 1 = grind (arith, nat_tests, parts.0) in
    let n_low : n' < 2 ^ 64 - 1 = grind (arith, nat_tests, parts.0) in
    let m_before : m ≤ m' = m_later m_low in
    let n_before : n ≤ n' = n_later n_low in
    let told : (can_rise m && can_rise n) ≡ true = grind (arith, nat_tests) in
    (old, rw told refl, subst (λ x. P old x) parts.1 (holds m_low n_low))

-- a file behind the others changes none of them
pub slice_get_push : {A : Type 0} (xs : List A) (y : A) (i : ℕ) → i < length xs → slice_get (xs ++ y ∷ []) i ≡ slice_get xs i
slice_get_push [] y i within = absurd (omega arith)
slice_get_push (x ∷ xs) y zero within = refl
slice_get_push (x ∷ xs) y (suc i) within = slice_get_push xs y i (omega arith)

pub name_stays : (files : List StoredFile) (file : StoredFile) (last : Option ℕ) → ForSome last (λ place. place < length files) → name_at (files ++ file ∷ []) last ≡ name_at files last
name_stays files file None within = refl
name_stays files file (Some place) within = ap (option_map (λ kept. string_bytes kept.name)) (slice_get_push files file place (within place refl))

-- the rest at a place
pub rest_of_some : (files : List StoredFile) (reading : Option Place) (place : Place) (file : StoredFile) (bytes : List ℕ) → reading ≡ Some place → place.file < length files → file ≡ get_or files place.file file → bytes ≡ file.bytes.items
    → unwrap_or (rest_at files reading) [] ≡ drop place.at bytes
rest_of_some files reading place file bytes is within found filled =
    let there : slice_get files place.file ≡ Some file = slice_get-get_or files place.file file within ∙ ap Some (sym found) in
    rw (is, there, filled) refl

-- what a read takes and leaves
pub taken : (bytes buffer : List ℕ) (at count : ℕ) → take count buffer ≡ take count (drop at bytes) → drop at bytes ≡ take count buffer ++ drop (at + count) bytes
taken bytes buffer at count front = rw (front, ← drop-drop count at bytes) (sym (take-append-drop count (drop at bytes)))

-- nothing is taken exactly at the end
pub at_end : (rest : List ℕ) (most room count : ℕ) → count ≡ min most (min (length rest) room) → 0 < most → 0 < room → (count ≡ 0) ↔ (rest ≡ [])
at_end [] most room count is some_most some_room = (λ zero. refl, λ empty. omega arith)
at_end (x ∷ rest) most room count is some_most some_room = (λ zero. absurd (omega arith), λ empty. cc)

-- the search for a name, place by place
pub named_here : (files : List StoredFile) (name : List ℕ) (place : ℕ) (file : StoredFile) → place < length files → file ≡ get_or files place file → bytes_eq (string_bytes file.name) name ≡ true
    → file_named (stored_files (drop place files)) name ≡ Some file.bytes.items
named_here files name place file within found same =
    let front : drop place files ≡ file ∷ drop (suc place) files = drop-cons files place file within ∙ ap (λ head. head ∷ drop (suc place) files) (sym found) in
    rw (front, same) refl

pub not_named_here : (files : List StoredFile) (name : List ℕ) (place : ℕ) (file : StoredFile) → place < length files → file ≡ get_or files place file → bytes_eq (string_bytes file.name) name ≡ false
    → file_named (stored_files (drop place files)) name ≡ file_named (stored_files (drop (place + 1) files)) name
not_named_here files name place file within found other =
    let front : drop place files ≡ file ∷ drop (suc place) files = drop-cons files place file within ∙ ap (λ head. head ∷ drop (suc place) files) (sym found) in
    rw (front, other, add-one) refl

-- what a shelf tells with one file more
pub put_content : (files new : List StoredFile) (file : StoredFile) (name bytes : List ℕ) (reading : Option Place) (openings : ℕ) (last : Option ℕ)
    → new ≡ files ++ file ∷ [] → string_bytes file.name ≡ name → file.bytes.items ≡ bytes → IsFalse (is_some reading) → ForSome last (λ place. place < length files)
    → content_with new reading openings last ≡ record (content_with files reading openings last) { files = stored_files files ++ (record { name = name; bytes = bytes }) ∷ [] }
put_content files new file name bytes reading openings last is named filled closed within =
    let stored : stored_of file ≡ record { name = name; bytes = bytes } = rw (named, filled) refl in
    let all : stored_files new ≡ stored_files files ++ (record { name = name; bytes = bytes }) ∷ [] = rw is (map_push stored_of files file ∙ ap (λ (one : Stored). stored_files files ++ one ∷ []) stored) in
    let rest : unwrap_or (rest_at new reading) [] ≡ unwrap_or (rest_at files reading) [] = rest_of_none new reading closed ∙ sym (rest_of_none files reading closed) in
    let last_name : name_at new last ≡ name_at files last = rw is (name_stays files file last within) in
    cc

-- what a call of `next` does that succeeds
pub next_reads : {E : Type 0} (files : List StoredFile) (reading : Option Place) (place : Place) (file : StoredFile) (bytes buffer : List ℕ) (most room count openings : ℕ) (last : Option ℕ)
    → reading ≡ Some place → place.file < length files → file ≡ get_or files place.file file → bytes ≡ file.bytes.items
    → count ≡ min most (min (length (drop place.at bytes)) room) → take count buffer ≡ take count (drop place.at bytes) → 0 < most → 0 < room
    → Reads {E = E} (Ok count) buffer (content_with files reading openings last) (content_with files (Some (record { file = place.file; at = place.at + count })) openings last)
next_reads files reading place file bytes buffer most room count openings last is within found filled counted front some_most some_room =
    let later : Place = record { file = place.file; at = place.at + count } in
    let before : unwrap_or (rest_at files reading) [] ≡ drop place.at bytes = rest_of_some files reading place file bytes is within found filled in
    let after : unwrap_or (rest_at files (Some later)) [] ≡ drop (place.at + count) bytes = rest_of_some files (Some later) later file bytes refl within found filled in
    record {
      files = refl;
      openings = refl;
      name = refl;
      rest = before ∙ taken bytes buffer place.at count front ∙ ap (λ rest. take count buffer ++ rest) (sym after);
      end = rw before (at_end (drop place.at bytes) most room count counted some_most some_room);
    }

-- the file that was found
pub found_here : (files : List StoredFile) (name : List ℕ) (place : ℕ) (file : StoredFile) → place < length files → file ≡ get_or files place file → bytes_eq (string_bytes file.name) name ≡ true
    → file_named (stored_files files) name ≡ file_named (stored_files (drop place files)) name → file_named (stored_files files) name ≡ bytes_at files (Some place)
found_here files name place file within found same before =
    let there : slice_get files place ≡ Some file = slice_get-get_or files place file within ∙ ap Some (sym found) in
    before ∙ named_here files name place file within found same ∙ rw there refl

-- it has the name
pub name_here : (files : List StoredFile) (name : List ℕ) (place : ℕ) (file : StoredFile) → place < length files → file ≡ get_or files place file → bytes_eq (string_bytes file.name) name ≡ true
    → name_at files (Some place) ≡ Some name
name_here files name place file within found same =
    let there : slice_get files place ≡ Some file = slice_get-get_or files place file within ∙ ap Some (sym found) in
    let equal : string_bytes file.name ≡ name = (bytes_eq-Decides (string_bytes file.name) name).0 same in
    rw (there, equal) refl

slice_get_some : {A : Type 0} (xs : List A) (i : ℕ) → i < length xs → is_some (slice_get xs i) ≡ true
slice_get_some [] i within = absurd (omega arith)
slice_get_some (x ∷ xs) zero within = refl
slice_get_some (x ∷ xs) (suc i) within = slice_get_some xs i (omega arith)

map_some : {A B : Type 0} (f : A → B) (o : Option A) → is_some o ≡ true → is_some (option_map f o) ≡ true
map_some f None there = there
map_some f (Some x) there = refl

-- the name that is noted of an opening
pub name_noted : (files : List StoredFile) (name : List ℕ) (found : Option ℕ) → IsPlaceOf files name found → name_at files found ≡ cond (is_some (file_named (stored_files files) name)) (Some name) None
name_noted files name None searched = rw searched.same refl
name_noted files name (Some place) searched =
    let there : is_some (bytes_at files (Some place)) ≡ true = map_some (λ (file : StoredFile). file.bytes.items) (slice_get files place) (slice_get_some files place (searched.within place refl)) in
    rw (searched.same, there) searched.named

whole_rest : (o : Option StoredFile) → is_some o ≡ true → option_map (λ (file : StoredFile). file.bytes.items) o ≡ Some (unwrap_or (option_map (λ (file : StoredFile). drop 0 file.bytes.items) o) [])
whole_rest None there = cc
whole_rest (Some file) there = refl

-- what a call of `open` does that succeeds, and one that fails
pub open_succeeds : {E : Type 0} (files : List StoredFile) (name : List ℕ) (found : Option ℕ) (place : ℕ) (reading : Option Place) (openings later : ℕ) (last : Option ℕ)
    → found ≡ Some place → IsPlaceOf files name found → later ≡ openings + 1
    → Opens {E = E} name (Ok tt) (content_with files reading openings last) (content_with files (Some (record { file = place; at = 0 })) later found)
open_succeeds files name found place reading openings later last is searched counted = record {
  files = refl;
  openings = counted;
  name = name_noted files name found searched;
  rest = searched.same ∙ rw is (whole_rest (slice_get files place) (slice_get_some files place (searched.within place is)));
}

pub open_fails : {E : Type 0} (files : List StoredFile) (name : List ℕ) (found : Option ℕ) (error : E) (reading : Option Place) (openings later : ℕ) (last : Option ℕ)
    → IsPlaceOf files name found → later ≡ openings + 1
    → Opens name (Err error) (content_with files reading openings last) (content_with files None later found)
open_fails files name found error reading openings later last searched counted = record {
  files = refl;
  openings = counted;
  name = name_noted files name found searched;
  rest = refl;
}

pub place_found : (files : List StoredFile) (name : List ℕ) (place : ℕ) (file : StoredFile) → place < length files → file ≡ get_or files place file → bytes_eq (string_bytes file.name) name ≡ true
    → file_named (stored_files files) name ≡ file_named (stored_files (drop place files)) name → IsPlaceOf files name (Some place)
place_found files name place file within found same before = record {
  same = found_here files name place file within found same before;
  named = name_here files name place file within found same;
  within = λ other is. let equal = same_content place other is in subst (λ n. n < length files) equal within;
}
