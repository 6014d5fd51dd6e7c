-- Lemmas on what the program refuses of files, by what is found in each of them.
use Rattle.std.proofs.Common.{◌≡◌, ℕ, ◌+◌, Bool, true, false, List, [], ◌∷◌, length, nat_lt, Option, Some, None, option_map, if◌then◌else◌, refl, ap}
use Rattle.std.specs.List.{AllByRecursion}
use Rattle.memory_window.specs.declared.regions.Region.{Region}
use Rattle.table_files.specs.declared.fault.FileFault.{FileFault}
use Rattle.table_files.specs.declared.fault.EntryFault.{EntryFault}
use Rattle.table_files.specs.Faults.{file_fault_number}
use Rattle.table_files.specs.Headers.{file_fault_of}
use Rattle.active_tables.specs.Tables.{said_or, first_said, fault_at, entry_fault_in, tables_fault, refused_in, region_fault}
use Rattle.rehearsal.specs.Files.{Refusal, refusal_of, refused_or, refused_from, first_refusal}
use Rattle.ground_checks.specs.declared.finding.FoundFault.TheVariants as faults
use Rattle.ground_checks.specs.Faults.{read_refused, fault_by, fault_of}
use Rattle.scenario.specs.Texts.{Given, Head, Whole, reading}
use Rattle.rehearsal.specs.Outcome.{refused_read}
use Rattle.ground_faults.specs.HeaderMaps.{regions_in, map_said}
use Rattle.ground_checks.specs.Loading.{AreLoaded, AreLoadedWith, AreFaultless}

-- what the program asks of a file by itself
abbrev IsWell : Option (List Region) → List ℕ → Type 0
IsWell map file = (refusal_of file ≡ None) × (entry_fault_in file ≡ None) × (read_refused map file ≡ None)

well_by : (long : Bool) (header : Option FileFault) (entry : Option EntryFault) (read : Option ℕ)
    → (if long then Some faults.Long else fault_by header entry read) ≡ None
    → ((if long then Some 9 else option_map file_fault_number header) ≡ None) × (entry ≡ None) × (read ≡ None)
well_by true header entry read e = absurd (cc)
well_by false (Some fault) entry read e = absurd (cc)
well_by false None (Some fault) read e = absurd (cc)
well_by false None None (Some n) e = absurd (cc)
well_by false None None None e = (refl, refl, refl)

none_by : (long : Bool) (header : Option FileFault) (entry : Option EntryFault) (read : Option ℕ)
    → (if long then Some 9 else option_map file_fault_number header) ≡ None → entry ≡ None → read ≡ None
    → (if long then Some faults.Long else fault_by header entry read) ≡ None
none_by true header entry read h e r = absurd (cc)
none_by false (Some fault) entry read h e r = absurd (cc)
none_by false None (Some fault) read h e r = absurd (cc)
none_by false None None (Some n) h e r = absurd (cc)
none_by false None None None h e r = refl

is_well : (map : Option (List Region)) (file : List ℕ) → fault_of map file ≡ None → IsWell map file
unfolding fault_of refusal_of
is_well map file e = well_by (nat_lt 65700 (length file)) (file_fault_of file) (entry_fault_in file) (read_refused map file) e

is_faultless : (map : Option (List Region)) (file : List ℕ) → refusal_of file ≡ None → entry_fault_in file ≡ None → read_refused map file ≡ None → fault_of map file ≡ None
unfolding fault_of refusal_of
is_faultless map file h e r = none_by (nat_lt 65700 (length file)) (file_fault_of file) (entry_fault_in file) (read_refused map file) h e r

-- ---- lists of files

abbrev AreSilent : {A : Type 0} → (List ℕ → Option A) → List (List ℕ) → Type 0
AreSilent say files = AllByRecursion (λ file. say file ≡ None) files

said_parts : {A : Type 0} (n : ℕ) (said : Option A) (behind : Option (ℕ × A)) → said_or n said behind ≡ None → (said ≡ None) × (behind ≡ None)
said_parts n None behind e = (refl, e)
said_parts n (Some said) behind e = absurd (cc)

all_silent : {A : Type 0} (say : List ℕ → Option A) (n : ℕ) (files : List (List ℕ)) → first_said say n files ≡ None → AreSilent say files
unfolding first_said
all_silent say n [] e = tt
all_silent say n (file ∷ files) e = let parts = said_parts n (say file) (first_said say (n + 1) files) e in (parts.0, all_silent say (n + 1) files parts.1)

none_said : {A : Type 0} (say : List ℕ → Option A) (n : ℕ) (files : List (List ℕ)) → AreSilent say files → first_said say n files ≡ None
unfolding first_said
none_said say n [] all = refl
none_said say n (file ∷ files) all = rw (all.0) (none_said say (n + 1) files all.1)

refused_parts : (n : ℕ) (reason : Option ℕ) (behind : Option Refusal) → refused_or n reason behind ≡ None → (reason ≡ None) × (behind ≡ None)
refused_parts n None behind e = (refl, e)
refused_parts n (Some reason) behind e = absurd (cc)

all_taken : (n : ℕ) (files : List (List ℕ)) → refused_from n files ≡ None → AreSilent refusal_of files
unfolding refused_from
all_taken n [] e = tt
all_taken n (file ∷ files) e = let parts = refused_parts n (refusal_of file) (refused_from (n + 1) files) e in (parts.0, all_taken (n + 1) files parts.1)

none_refused : (n : ℕ) (files : List (List ℕ)) → AreSilent refusal_of files → refused_from n files ≡ None
unfolding refused_from
none_refused n [] all = refl
none_refused n (file ∷ files) all = rw (all.0) (none_refused (n + 1) files all.1)

no_fault : (said : Option (ℕ × EntryFault)) → option_map fault_at said ≡ None → said ≡ None
no_fault None e = refl
no_fault (Some said) e = absurd (cc)

-- ---- what is found, and what the program refuses

faultless_parts : (map : Option (List Region)) (files : List (List ℕ)) → AreFaultless map files → AreSilent refusal_of files × AreSilent entry_fault_in files × AreSilent (read_refused map) files
faultless_parts map [] all = (tt, tt, tt)
faultless_parts map (file ∷ files) all =
    let well = is_well map file all.0 in
    let more = faultless_parts map files all.1 in
    ((well.0, more.0), (well.1, more.1), (well.2, more.2))

faultless_all : (map : Option (List Region)) (files : List (List ℕ)) → AreSilent refusal_of files → AreSilent entry_fault_in files → AreSilent (read_refused map) files → AreFaultless map files
faultless_all map [] taken loaded read = tt
faultless_all map (file ∷ files) taken loaded read = (is_faultless map file taken.0 loaded.0 read.0, faultless_all map files taken.1 loaded.1 read.1)

unread_all : (files : List (List ℕ)) → AreSilent (read_refused None) files
unread_all [] = tt
unread_all (file ∷ files) = (refl, unread_all files)

loaded_of : (files : List (List ℕ)) → AreSilent refusal_of files → AreSilent entry_fault_in files → AreLoaded files
unfolding first_refusal tables_fault
loaded_of files taken loaded = (none_refused 1 files taken, ap (option_map fault_at) (none_said entry_fault_in 1 files loaded))

taken_of : (files : List (List ℕ)) → AreLoaded files → AreSilent refusal_of files × AreSilent entry_fault_in files
unfolding first_refusal tables_fault
taken_of files loaded = (all_taken 1 files loaded.0, all_silent entry_fault_in 1 files (no_fault (first_said entry_fault_in 1 files) loaded.1))

pub loads : (files : List (List ℕ)) → AreFaultless None files → AreLoaded files
loads files all = let parts = faultless_parts None files all in loaded_of files parts.0 parts.1

pub loads_back : (files : List (List ℕ)) → AreLoaded files → AreFaultless None files
loads_back files loaded = let taken = taken_of files loaded in faultless_all None files taken.0 taken.1 (unread_all files)

pub reads : (regions : List Region) (files : List (List ℕ)) → AreFaultless (Some regions) files → AreLoadedWith regions files
unfolding region_fault
reads regions files all =
    let parts = faultless_parts (Some regions) files all in
    (loaded_of files parts.0 parts.1, none_said (refused_in regions) 1 files parts.2)

pub reads_back : (regions : List Region) (files : List (List ℕ)) → AreLoadedWith regions files → AreFaultless (Some regions) files
unfolding region_fault
reads_back regions files loaded =
    let taken = taken_of files loaded.0 in
    faultless_all (Some regions) files taken.0 taken.1 (all_silent (refused_in regions) 1 files loaded.1)

-- ---- the map of a scenario

reads_of : (items : List Given) (regions : List Region) (files : List (List ℕ)) → regions_in items ≡ Some regions → refused_read files items ≡ region_fault regions files
unfolding refused_read
reads_of [] regions files e = absurd (cc)
reads_of (Head epoch said ∷ items) regions files e = ap (λ (map : List Region). region_fault map files) (let same : said ≡ regions = cc in same)
reads_of (Whole frame ∷ items) regions files e = absurd (cc)

pub header_reads : (text : List ℕ) (regions : List Region) (files : List (List ℕ)) → map_said text ≡ Some regions
    → refused_read files (reading (record { bytes = text; closed = true })).items ≡ region_fault regions files
unfolding map_said
header_reads text regions files is = reads_of (reading (record { bytes = text; closed = true })).items regions files is
