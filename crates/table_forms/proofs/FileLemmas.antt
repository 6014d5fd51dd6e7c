-- Lemmas on the bytes of files.
use Rattle.std.proofs.Common.{IsTrue, ◌≡◌, ℕ, ◌-◌, ◌≤◌, Bool, true, false, List, length, drop, Some, refl, arith, length-drop}
use Rattle.table_files.specs.declared.kinds.TableKind.{TableKind}
use Rattle.table_files.specs.Headers.{kind_of_file, IsTableOf}
use Rattle.table_files.proofs.Accepted.{kind_has_headers}
use Rattle.table_forms.specs.declared.layouts.Layouts.{Layouts}
use Rattle.table_forms.specs.Layouts.{form_of}
use Rattle.table_forms.specs.Payloads.{FitsForm}
use Rattle.table_forms.proofs.LayoutsLemmas.{AreLayouts, form_fits}

is_true : (b : Bool) → IsTrue b → b ≡ true
is_true true t = refl
is_true false t = absurd (cc)

pub headers_are : (file : List ℕ) (kind : TableKind) → kind_of_file file ≡ Some kind → IsTableOf file kind
headers_are file kind is = (kind_has_headers file kind).0 is

pub behind_long : (file : List ℕ) (kind : TableKind) (bytes : List ℕ) → kind_of_file file ≡ Some kind → bytes ≡ drop 8 file → 60 ≤ length bytes
behind_long file kind bytes is same =
    let long = (headers_are file kind is).long in
    let left : length (drop 8 file) ≡ length file - 8 = length-drop 8 file in
    rw same (omega (arith, long, left))

pub payload_fits : (ls : Layouts) (kind : TableKind) (file payload : List ℕ) → AreLayouts ls → kind_of_file file ≡ Some kind → payload ≡ drop 116 file → FitsForm (form_of ls kind) (length payload)
payload_fits ls kind file payload are is same =
    let fits = is_true _ (headers_are file kind is).fits in
    let left : length (drop 116 file) ≡ length file - 116 = length-drop 116 file in
    rw same (form_fits ls kind (length (drop 116 file)) are (rw left fits))
