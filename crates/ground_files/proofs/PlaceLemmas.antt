-- Files of a workspace over memory, by their places.
use Rattle.std.proofs.Common.{◌≡◌, ℕ, zero, suc, ◌+◌, ◌<◌, true, false, List, [], ◌∷◌, ◌++◌, length, drop, set, get_or, Option, Some, None, refl, sym, ap, ◌∙◌, arith, add-one, string_bytes}
use Rattle.std.specs.Prelude.{bytes_eq, option_map, if◌then◌else◌, Bool, is_some}
use Rattle.std.proofs.lemmas.List.{map_push}
use Rattle.std.proofs.Math.Seq.{drop-cons}
use Rattle.fsw_outside.specs.Files.{Stored, file_named}
use Rattle.ground_files.specs.Workspaces.{file_put}
use Rattle.ground_files.specs.Memory.{kept_of, stored_of, first_place}
use Rattle.ground_files.specs.declared.memory_files.KeptFile.{KeptFile}

-- the search for a name, place by place
pub place_here : (files : List KeptFile) (name : List ℕ) (place : ℕ) (file : KeptFile) → place < length files → file ≡ get_or files place file → bytes_eq (string_bytes file.name) name ≡ true
    → first_place (drop place files) name ≡ Some 0
place_here files name place file within found same =
    let front : drop place files ≡ file ∷ drop (suc place) files = drop-cons files place file within ∙ ap (λ head. head ∷ drop (suc place) files) (sym found) in
    rw (front, same) refl

pub place_not_here : (files : List KeptFile) (name : List ℕ) (place : ℕ) (file : KeptFile) → place < length files → file ≡ get_or files place file → bytes_eq (string_bytes file.name) name ≡ false
    → first_place (drop place files) name ≡ option_map suc (first_place (drop (place + 1) files) name)
place_not_here files name place file within found other =
    let front : drop place files ≡ file ∷ drop (suc place) files = drop-cons files place file within ∙ ap (λ head. head ∷ drop (suc place) files) (sym found) in
    rw (front, other, add-one) refl

-- a place behind the one that was left
pub from_here : (at : ℕ) (found : Option ℕ) → option_map (λ place. at + place) (option_map suc found) ≡ option_map (λ place. (at + 1) + place) found
from_here at None = refl
from_here at (Some place) = ap Some (omega arith)

-- a place that was found is one of the files
within_behind : (there : Option ℕ) (files : List KeptFile) (place : ℕ) → option_map suc there ≡ Some place → ((at : ℕ) → there ≡ Some at → at < length files) → place < suc (length files)
within_behind None files place is later = cc
within_behind (Some at) files zero is later = cc
within_behind (Some at) files (suc place) is later =
    let same : at ≡ place = cc in
    let behind = later place (ap Some same) in
    omega arith

within_by : (test : Bool) (files : List KeptFile) (name : List ℕ) (place : ℕ) → (if test then Some 0 else option_map suc (first_place files name)) ≡ Some place → ((at : ℕ) → first_place files name ≡ Some at → at < length files) → place < suc (length files)
within_by true files name zero is later = omega arith
within_by true files name (suc place) is later = cc
within_by false files name place is later = within_behind (first_place files name) files place is later

pub place_within : (files : List KeptFile) (name : List ℕ) (place : ℕ) → first_place files name ≡ Some place → place < length files
place_within [] name place is = cc
place_within (first ∷ files) name place is = within_by (bytes_eq (string_bytes first.name) name) files name place is (λ at there. place_within files name at there)

-- the file of a name and its place, by whether the first one has it
named_behind : (there : Option ℕ) (files : List KeptFile) (name : List ℕ) (place : ℕ) (file first : KeptFile) → option_map suc there ≡ Some place → file ≡ get_or (first ∷ files) place file
    → ((at : ℕ) → there ≡ Some at → file ≡ get_or files at file → (at < length files) × (file_named (stored_of files) name ≡ Some file.bytes.items))
    → (place < suc (length files)) × (file_named (stored_of files) name ≡ Some file.bytes.items)
named_behind None files name place file first is found later = cc
named_behind (Some at) files name zero file first is found later = cc
named_behind (Some at) files name (suc place) file first is found later =
    let same : at ≡ place = cc in
    let behind = later place (ap Some same) found in
    (omega arith, behind.1)

named_by : (test : Bool) (files : List KeptFile) (name : List ℕ) (place : ℕ) (file first : KeptFile) → (if test then Some 0 else option_map suc (first_place files name)) ≡ Some place → file ≡ get_or (first ∷ files) place file
    → ((at : ℕ) → first_place files name ≡ Some at → file ≡ get_or files at file → (at < length files) × (file_named (stored_of files) name ≡ Some file.bytes.items))
    → (place < suc (length files)) × ((if test then Some first.bytes.items else file_named (stored_of files) name) ≡ Some file.bytes.items)
named_by true files name zero file first is found later = (omega arith, ap (λ (kept : KeptFile). Some kept.bytes.items) (sym found))
named_by true files name (suc place) file first is found later = cc
named_by false files name place file first is found later = named_behind (first_place files name) files name place file first is found later

pub named_at : (files : List KeptFile) (name : List ℕ) (place : ℕ) (file : KeptFile) → first_place files name ≡ Some place → file ≡ get_or files place file → (place < length files) × (file_named (stored_of files) name ≡ Some file.bytes.items)
named_at [] name place file is found = cc
named_at (first ∷ files) name place file is found = named_by (bytes_eq (string_bytes first.name) name) files name place file first is found (λ at there same. named_at files name at file there same)

-- a file that has a place is there
there_behind : (there : Option ℕ) (files : List KeptFile) (name : List ℕ) (place : ℕ) → option_map suc there ≡ Some place → ((at : ℕ) → there ≡ Some at → is_some (file_named (stored_of files) name) ≡ true) → is_some (file_named (stored_of files) name) ≡ true
there_behind None files name place is later = cc
there_behind (Some at) files name place is later = later at refl

there_by : (test : Bool) (files : List KeptFile) (name : List ℕ) (place : ℕ) (first : KeptFile) → (if test then Some 0 else option_map suc (first_place files name)) ≡ Some place
    → ((at : ℕ) → first_place files name ≡ Some at → is_some (file_named (stored_of files) name) ≡ true) → is_some (if test then Some first.bytes.items else file_named (stored_of files) name) ≡ true
there_by true files name place first is later = refl
there_by false files name place first is later = there_behind (first_place files name) files name place is later

pub is_there : (files : List KeptFile) (name : List ℕ) (place : ℕ) → first_place files name ≡ Some place → is_some (file_named (stored_of files) name) ≡ true
is_there [] name place is = cc
is_there (first ∷ files) name place is = there_by (bytes_eq (string_bytes first.name) name) files name place first is (λ at there. is_there files name at there)

-- a file that gets other bytes
put_behind : (there : Option ℕ) (files : List KeptFile) (name bytes : List ℕ) (place : ℕ) (file new first : KeptFile) → option_map suc there ≡ Some place → file ≡ get_or (first ∷ files) place file
    → ((at : ℕ) → there ≡ Some at → file ≡ get_or files at file → file_put name bytes (stored_of files) ≡ stored_of (set files at new))
    → kept_of first ∷ file_put name bytes (stored_of files) ≡ stored_of (set (first ∷ files) place new)
put_behind None files name bytes place file new first is found later = cc
put_behind (Some at) files name bytes zero file new first is found later = cc
put_behind (Some at) files name bytes (suc place) file new first is found later =
    let same : at ≡ place = cc in
    ap (λ (behind : List Stored). kept_of first ∷ behind) (later place (ap Some same) found)

put_by : (test : Bool) (files : List KeptFile) (name bytes : List ℕ) (place : ℕ) (file new first : KeptFile) → (if test then Some 0 else option_map suc (first_place files name)) ≡ Some place → file ≡ get_or (first ∷ files) place file
    → new.name ≡ file.name → new.bytes.items ≡ bytes
    → ((at : ℕ) → first_place files name ≡ Some at → file ≡ get_or files at file → file_put name bytes (stored_of files) ≡ stored_of (set files at new))
    → (if test then (record (kept_of first) { bytes = bytes }) ∷ stored_of files else kept_of first ∷ file_put name bytes (stored_of files)) ≡ stored_of (set (first ∷ files) place new)
put_by true files name bytes zero file new first is found named filled later =
    let same : string_bytes new.name ≡ string_bytes first.name = ap string_bytes (named ∙ ap (λ (kept : KeptFile). kept.name) found) in
    rw (same, filled) refl
put_by true files name bytes (suc place) file new first is found named filled later = cc
put_by false files name bytes place file new first is found named filled later = put_behind (first_place files name) files name bytes place file new first is found later

pub put_at_place : (files : List KeptFile) (name bytes : List ℕ) (place : ℕ) (file new : KeptFile) → first_place files name ≡ Some place → file ≡ get_or files place file → new.name ≡ file.name → new.bytes.items ≡ bytes
    → file_put name bytes (stored_of files) ≡ stored_of (set files place new)
put_at_place [] name bytes place file new is found named filled = cc
put_at_place (first ∷ files) name bytes place file new is found named filled = put_by (bytes_eq (string_bytes first.name) name) files name bytes place file new first is found named filled (λ at there same. put_at_place files name bytes at file new there same named filled)

-- a file that is new
put_last_by : (test : Bool) (there : Option ℕ) (files : List KeptFile) (name bytes : List ℕ) (first : KeptFile) → (if test then Some 0 else option_map suc there) ≡ None
    → (there ≡ None → file_put name bytes (stored_of files) ≡ stored_of files ++ (record { name = name; bytes = bytes }) ∷ [])
    → (if test then (record (kept_of first) { bytes = bytes }) ∷ stored_of files else kept_of first ∷ file_put name bytes (stored_of files)) ≡ stored_of (first ∷ files) ++ (record { name = name; bytes = bytes }) ∷ []
put_last_by true there files name bytes first is later = cc
put_last_by false (Some at) files name bytes first is later = cc
put_last_by false None files name bytes first is later = ap (λ (behind : List Stored). kept_of first ∷ behind) (later refl)

put_last : (files : List KeptFile) (name bytes : List ℕ) → first_place files name ≡ None → file_put name bytes (stored_of files) ≡ stored_of files ++ (record { name = name; bytes = bytes }) ∷ []
put_last [] name bytes is = refl
put_last (first ∷ files) name bytes is = put_last_by (bytes_eq (string_bytes first.name) name) (first_place files name) files name bytes first is (λ there. put_last files name bytes there)

pub put_pushed : (files : List KeptFile) (name bytes : List ℕ) (new : KeptFile) → first_place files name ≡ None → string_bytes new.name ≡ name → new.bytes.items ≡ bytes → stored_of (files ++ new ∷ []) ≡ file_put name bytes (stored_of files)
put_pushed files name bytes new is named filled =
    let last : kept_of new ≡ record { name = name; bytes = bytes } = rw (named, filled) refl in
    map_push kept_of files new ∙ ap (λ (one : Stored). stored_of files ++ one ∷ []) last ∙ sym (put_last files name bytes is)
