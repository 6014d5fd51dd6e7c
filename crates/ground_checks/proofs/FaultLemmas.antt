-- Lemmas on the faults of a file that is looked at by itself.
use Rattle.std.proofs.Common.{◌≡◌, ℕ, ◌≤◌, List, [], ◌∷◌, ◌++◌, length, map, Option, Some, None, refl, ap, sym, subst, ◌∙◌}
use Rattle.memory_window.specs.declared.regions.Region.{Region}
use Rattle.table_files.specs.declared.fault.FileFault.{FileFault}
use Rattle.table_files.specs.declared.fault.EntryFault.{EntryFault}
use Rattle.table_files.specs.declared.kinds.TableKind.{TableKind}
use Rattle.table_files.specs.declared.kinds.TableKind.TheVariants.{AppMon, EventMon, ExeCount, MsgActs, Ats, Rts, Dwell, Eeprom, Memory, Wdt, Adt}
use Rattle.table_files.specs.Headers.{file_fault_of, kind_of_file, payload_of_file}
use Rattle.table_forms.specs.Judging.{refusal_of, kind_refusal, entry_fault_of}
use Rattle.active_tables.specs.Tables.{by_kind, by_file, entry_fault, entry_fault_in, refused_in, refused_entry}
use Rattle.ground_faults.specs.Firsts.{first_if_any, entry_refused}
use Rattle.ground_checks.specs.declared.finding.FoundFault.{FoundFault}
use Rattle.ground_checks.specs.declared.finding.FoundFault.TheVariants as faults
use Rattle.ground_checks.specs.Faults.{read_refused, fault_by}

-- both ways of judging entries say one thing
of_kind : (kind : TableKind) (payload : List ℕ) → entry_fault_of kind payload ≡ entry_fault kind payload
of_kind AppMon payload = refl
of_kind EventMon payload = refl
of_kind ExeCount payload = refl
of_kind MsgActs payload = refl
of_kind (Ats n) payload = refl
of_kind (Rts n) payload = refl
of_kind (Dwell n) payload = refl
of_kind Eeprom payload = refl
of_kind Memory payload = refl
of_kind Wdt payload = refl
of_kind Adt payload = refl

of_refusal : (kind : TableKind) (payload : List ℕ) (fault : Option EntryFault) → entry_fault_of kind payload ≡ fault → entry_refused (kind_refusal (Some kind) payload) ≡ fault
of_refusal kind payload None e = rw e refl
of_refusal kind payload (Some fault) e = rw e refl

of_kinds : (kind : Option TableKind) (payload : List ℕ) → entry_refused (kind_refusal kind payload) ≡ by_kind None entry_fault kind payload
of_kinds None payload = refl
of_kinds (Some kind) payload = of_refusal kind payload (entry_fault kind payload) (of_kind kind payload)

-- the entry for which a file with good headers is refused
pub entry_is : (file : List ℕ) → file_fault_of file ≡ None → entry_refused (refusal_of file) ≡ entry_fault_in file
unfolding refusal_of by_file
entry_is file well = rw well (of_kinds (kind_of_file file) (payload_of_file file))

-- nothing is said of a file that is no table
pub none_said : {A : Type 0} (say : TableKind → List ℕ → Option A) (file : List ℕ) → kind_of_file file ≡ None → by_file None say file ≡ None
unfolding by_file
none_said say file e = rw e refl

pub none_read : (map : Option (List Region)) (file : List ℕ) → kind_of_file file ≡ None → read_refused map file ≡ None
none_read None file e = refl
none_read (Some regions) file e = none_said (refused_entry regions) file e

-- a file with a fault in its headers is no table
pub no_kind : (file : List ℕ) (fault : FileFault) → file_fault_of file ≡ Some fault → kind_of_file file ≡ None
unfolding kind_of_file
no_kind file fault e = rw e refl

-- the first of all faults, by the first of the entries and the first of the reads
pub first_found : (entries : List EntryFault) (reads : List ℕ) (entry : Option EntryFault) (read : Option ℕ)
    → first_if_any entries ≡ entry → (entries ≡ [] → first_if_any reads ≡ read)
    → first_if_any (map (λ fault. faults.Entry fault) entries ++ map (λ n. faults.Read n) reads) ≡ fault_by None entry read
first_found [] [] entry read e r = rw (sym e, sym (r refl)) refl
first_found [] (n ∷ more) entry read e r = rw (sym e, sym (r refl)) refl
first_found (fault ∷ more) reads entry read e r = rw (sym e) refl

-- where no map is known
pub first_unread : (entries : List EntryFault) (entry : Option EntryFault) → first_if_any entries ≡ entry → first_if_any (map (λ fault. faults.Entry fault) entries) ≡ fault_by None entry None
first_unread [] entry e = rw (sym e) refl
first_unread (fault ∷ more) entry e = rw (sym e) refl

-- what stands in front: the first fault of the entries
entry_first : (file rest : List ℕ) (entries : List EntryFault) → rest ≡ file → file_fault_of file ≡ None → first_if_any entries ≡ entry_refused (refusal_of rest) → first_if_any entries ≡ entry_fault_in file
entry_first file rest entries same well first = first ∙ ap (λ (f : List ℕ). entry_refused (refusal_of f)) same ∙ entry_is file well

pub without_map : (file rest : List ℕ) (entries slice : List EntryFault) (found : List FoundFault)
    → rest ≡ file → file_fault_of file ≡ None → first_if_any entries ≡ entry_refused (refusal_of rest) → slice ≡ entries
    → found ≡ map (λ fault. faults.Entry fault) slice → first_if_any found ≡ fault_by None (entry_fault_in file) None
without_map file rest entries slice found same well first slice_is found_is =
    rw (found_is, slice_is) (first_unread entries (entry_fault_in file) (entry_first file rest entries same well first))

pub with_map : (regions : List Region) (file rest left : List ℕ) (entries slice : List EntryFault) (reads read_slice : List ℕ) (found all : List FoundFault)
    → rest ≡ file → file_fault_of file ≡ None → length file ≤ 65700 → first_if_any entries ≡ entry_refused (refusal_of rest) → slice ≡ entries
    → found ≡ map (λ fault. faults.Entry fault) slice → (entries ≡ [] → left ≡ rest)
    → (length left ≤ 65700 → first_if_any reads ≡ refused_in regions left) → read_slice ≡ reads → all ≡ found ++ map (λ n. faults.Read n) read_slice
    → first_if_any all ≡ fault_by None (entry_fault_in file) (refused_in regions file)
with_map regions file rest left entries slice reads read_slice found all same well short first slice_is found_is left_is reads_is read_slice_is all_is =
    let read : entries ≡ [] → first_if_any reads ≡ refused_in regions file =
    λ none. let is : left ≡ file = left_is none ∙ same in reads_is (subst (λ (f : List ℕ). length f ≤ 65700) (sym is) short) ∙ ap (refused_in regions) is in
    rw (all_is, found_is, slice_is, read_slice_is) (first_found entries reads (entry_fault_in file) (refused_in regions file) (entry_first file rest entries same well first) read)
