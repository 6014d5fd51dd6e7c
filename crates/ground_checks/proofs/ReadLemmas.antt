-- Lemmas on the entries of one file that memory refuses.
use Rattle.std.proofs.Common.{◌≡◌, ℕ, List, [], ◌∷◌, Option, Some, None, option_map, refl, ap, sym, ◌∙◌}
use Rattle.memory_window.specs.declared.regions.Region.{Region}
use Rattle.table_files.specs.declared.fault.FileFault.{FileFault}
use Rattle.table_files.specs.Headers.{file_fault_of}
use Rattle.active_tables.specs.declared.giving.EntryPlace.{EntryPlace}
use Rattle.active_tables.specs.Tables.{said_or, first_said, refused_in, refused_entry, region_fault}
use Rattle.ground_checks.proofs.FaultLemmas.{none_said, no_kind}

place_some : (said : Option ℕ) (n entry : ℕ) → Some (n, entry) ≡ said_or 1 said None → Some entry ≡ said
place_some None n entry e = absurd (cc)
place_some (Some said) n entry e = let same : (n, entry) ≡ (1, said) = cc in ap (λ (place : ℕ × ℕ). Some place.1) same

place_none : (said : Option ℕ) → None ≡ said_or 1 said None → None ≡ said
place_none None e = refl
place_none (Some said) e = absurd (cc)

entry_in : (regions : List Region) (file : List ℕ) (n entry : ℕ) → Some (n, entry) ≡ region_fault regions (file ∷ []) → Some entry ≡ refused_in regions file
unfolding region_fault first_said
entry_in regions file n entry e = place_some (refused_in regions file) n entry e

none_in : (regions : List Region) (file : List ℕ) → None ≡ region_fault regions (file ∷ []) → None ≡ refused_in regions file
unfolding region_fault first_said
none_in regions file e = place_none (refused_in regions file) e

-- the place of an entry, as numbers
abbrev pub numbers_of : EntryPlace → ℕ × ℕ
numbers_of place = (place.file, place.entry)

-- the entry of the first refused place of one file
pub entry_some : (regions : List Region) (files : List (List ℕ)) (file : List ℕ) (place : EntryPlace) (found : Option EntryPlace)
    → option_map numbers_of found ≡ region_fault regions files → found ≡ Some place → files ≡ file ∷ [] → Some place.entry ≡ refused_in regions file
entry_some regions files file place found said is one =
    entry_in regions file place.file place.entry (ap (option_map numbers_of) (sym is) ∙ said ∙ ap (region_fault regions) one)

pub entry_none : (regions : List Region) (files : List (List ℕ)) (file : List ℕ) (found : Option EntryPlace)
    → option_map numbers_of found ≡ region_fault regions files → found ≡ None → files ≡ file ∷ [] → None ≡ refused_in regions file
entry_none regions files file found said is one = none_in regions file (ap (option_map numbers_of) (sym is) ∙ said ∙ ap (region_fault regions) one)

-- memory isn't asked of a file whose headers are refused
pub unread : (regions : List Region) (file : List ℕ) (fault : FileFault) → file_fault_of file ≡ Some fault → None ≡ refused_in regions file
unread regions file fault e = sym (none_said (refused_entry regions) file (no_kind file fault e))
