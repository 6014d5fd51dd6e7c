-- Lemmas on what readers say of a file.
use Rattle.std.proofs.Common.{◌≡◌, ℕ, List, Some, None, refl}
use Rattle.table_files.specs.declared.fault.EntryFault.{EntryFault}
use Rattle.table_files.specs.declared.fault.FileFault.{FileFault}
use Rattle.table_files.specs.declared.kinds.TableKind.{TableKind}
use Rattle.std.proofs.Common.{Bor}
use Rattle.table_files.specs.declared.headers.FileImage.{FileImage}
use Rattle.table_files.specs.declared.headers.FileImage.TheVariants.{Table, Load}
use Rattle.table_files.specs.Headers.{file_fault_of, kind_of_file, payload_of_file, Shows, IsTableFile, IsLoadFile}
use Rattle.table_forms.specs.declared.fault.TableFault.TheVariants as faults
use Rattle.table_forms.specs.Judging.{entry_fault_of, refusal_of}

pub file_refused : (file : List ℕ) (fault : FileFault) → file_fault_of file ≡ Some fault → Some (faults.File fault) ≡ refusal_of file
unfolding refusal_of
file_refused file fault e = rw e refl

pub load_taken : (file : List ℕ) → file_fault_of file ≡ None → kind_of_file file ≡ None → None ≡ refusal_of file
unfolding refusal_of
load_taken file well none = rw (well, none) refl

pub table_refused : (file : List ℕ) (kind : TableKind) (payload : List ℕ) (fault : EntryFault) → file_fault_of file ≡ None → kind_of_file file ≡ Some kind → payload ≡ payload_of_file file → Some fault ≡ entry_fault_of kind payload → Some (faults.Entry kind fault) ≡ refusal_of file
unfolding refusal_of
table_refused file kind payload fault well is same e = rw (well, is, ← same, ← e) refl

pub table_taken : (file : List ℕ) (kind : TableKind) (payload : List ℕ) → file_fault_of file ≡ None → kind_of_file file ≡ Some kind → payload ≡ payload_of_file file → None ≡ entry_fault_of kind payload → None ≡ refusal_of file
unfolding refusal_of
table_taken file kind payload well is same e = rw (well, is, ← same, ← e) refl

pub shown_table : (file : List ℕ) (image : FileImage) (kind : TableKind) (payload : Bor (List ℕ)) → image ≡ Table kind payload → Shows file image → IsTableFile file kind payload.now
shown_table file image kind payload e shows = rw e at shows

pub shown_load : (file : List ℕ) (image : FileImage) (at : ℕ) (bytes : Bor (List ℕ)) → image ≡ Load at bytes → Shows file image → IsLoadFile file at bytes.now
shown_load file image at bytes e shows = rw e at shows
