-- Lemmas on files that texts say.
use Rattle.std.proofs.Common.{◌≡◌, ℕ, ◌+◌, ◌<◌, ◌≤◌, Bool, true, false, List, [], ◌∷◌, length, None, refl, ap, sym, subst, ◌∙◌, arith}
use Rattle.std.proofs.Common.{Vec, Global}
use Rattle.std.specs.Prelude.{codes, nat_lt, nat_le, IfOk, Result, Ok, Err}
use Rattle.std.proofs.lemmas.Bool.Decides.{nat_tests}
use Rattle.row_forms.specs.declared.fault.Reason.{Reason}
use Rattle.row_forms.proofs.SizeLemmas.{field_size}
use Rattle.row_forms.proofs.TextLemmas.{and_both}
use Rattle.table_files.specs.Headers.{is_load_size, address_of_file, payload_of_file, IsLoadOf}
use Rattle.table_texts.specs.Lines.{Numbered, kept_of}
use Rattle.table_texts.specs.Endings.{behind_first}
use Rattle.row_forms.specs.declared.field.Field.{Field}
use Rattle.load_texts.specs.Headers.{begins, header_said}
use Rattle.load_texts.proofs.HeaderLemmas.{header_size}
use Rattle.load_texts.specs.declared.fault.LoadFault.{LoadFault}
use Rattle.load_texts.specs.declared.fault.ReadError.{ReadError}
use Rattle.load_texts.specs.Addresses.{Addressed, address_kind, address_said, address_then, behind_load, addressed_said}
use Rattle.load_texts.specs.Loaded.{body_said}
use Rattle.load_texts.specs.Loads.{load_of, if_sized, loaded_filed, row_filed, addressed_filed, load_said, SaysLoad, GivesLoad}
use Rattle.load_texts.proofs.FileLemmas.{parts_are, made_load, made_address, made_payload}

-- ---- addresses have four bytes

abbrev address_or : Result Addressed LoadFault → List ℕ
address_or (Ok first) = first.address
address_or (Err fault) = []

four_by : (n : ℕ) (w : List ℕ) (r : Result (List ℕ) Reason) (ws : List (List ℕ)) (more : List Numbered) (first : Addressed) → address_said w ≡ r → address_then n r ws more ≡ Ok first → length first.address ≡ 4
four_by n w (Ok a) ws more first is e = let same : a ≡ first.address = ap address_or e in rw (← same) (field_size None (codes "address") address_kind w a 4 refl is)
four_by n w (Err reason) ws more first is e = absurd (cc)

behind_four : (n : ℕ) (ws : List (List ℕ)) (more : List Numbered) (first : Addressed) → behind_load n ws more ≡ Ok first → length first.address ≡ 4
behind_four n [] more first e = absurd (cc)
behind_four n (w ∷ ws) more first e = four_by n w (address_said w) ws more first refl e

addressed_four : (lines : List Numbered) (first : Addressed) → addressed_said lines ≡ Ok first → length first.address ≡ 4
unfolding addressed_said
addressed_four [] first e = absurd (cc)
addressed_four (line ∷ more) first e = by_word (begins (codes "load") line.words) refl
  where
    by_word : (b : Bool) → begins (codes "load") line.words ≡ b → length first.address ≡ 4
    by_word true here = behind_four line.number (behind_first line.words) more first (rw here at e)
    by_word false here = absurd (let other = rw here at e in cc)

-- ---- files

record IsSized (address row bytes file : List ℕ) : Type 0 where
  some : 0 < length bytes
  few : length bytes ≤ 65536
  same : load_of address row bytes ≡ file

ok_same : (a b : List ℕ) → ◌≡◌ {A = Result (List ℕ) LoadFault} (Ok a) (Ok b) → a ≡ b
ok_same a b e = cc

sized_is : (address row bytes file : List ℕ) → if_sized address row bytes ≡ Ok file → IsSized address row bytes file
sized_is address row bytes file e = by_size (is_load_size (length bytes)) refl
  where
    by_size : (b : Bool) → is_load_size (length bytes) ≡ b → IsSized address row bytes file
    by_size true is =
        let both = and_both (nat_lt 0 (length bytes)) (nat_le (length bytes) 65536) is in
        record { some = grind (arith, nat_tests, both); few = grind (arith, nat_tests, both); same = ok_same (load_of address row bytes) file (rw is at e) }
    by_size false is = absurd (let other = rw is at e in cc)

says_made : (named text : List ℕ) (first : Addressed) (row bytes file : List ℕ) → addressed_said (kept_of 1 text) ≡ Ok first → length row ≡ 60 → body_said named (first.number + 1) first.more ≡ Ok bytes → IsSized first.address row bytes file → SaysLoad named text file
says_made named text first row bytes file is long body sized =
    let few = sized.few in
    let some = sized.some in
    let same = sized.same in
    let has = parts_are first.address row bytes (addressed_four (kept_of 1 text) first is) long few in
    let load = made_load first.address row bytes has some few in
    record {
      first = first;
      first_is = is;
      load = subst IsLoadOf same load;
      address = ap address_of_file (sym same) ∙ made_address first.address row bytes has;
      bytes = body ∙ ap Ok (sym (made_payload first.address row bytes has load) ∙ ap payload_of_file same);
    }

by_bytes : (named text : List ℕ) (first : Addressed) (row file : List ℕ) (said : Result (List ℕ) LoadFault) → addressed_said (kept_of 1 text) ≡ Ok first → length row ≡ 60 → body_said named (first.number + 1) first.more ≡ said → loaded_filed first.address row said ≡ Ok file → SaysLoad named text file
by_bytes named text first row file (Ok bytes) is long body e = says_made named text first row bytes file is long body (sized_is first.address row bytes file e)
by_bytes named text first row file (Err fault) is long body e = absurd (let wrong : Err fault ≡ Ok file = e in cc)

by_row : (fs : List Field) (named text : List ℕ) (first : Addressed) (file : List ℕ) (r : Result (List ℕ) LoadFault) → addressed_said (kept_of 1 text) ≡ Ok first → header_said fs first.number first.words ≡ r → row_filed named first r ≡ Ok file → SaysLoad named text file
by_row fs named text first file (Ok row) is header e =
    by_bytes named text first row file (body_said named (first.number + 1) first.more) is (header_size fs first.number first.words row header) refl e
by_row fs named text first file (Err fault) is header e = absurd (cc)

by_first : (fs : List Field) (named text file : List ℕ) (r : Result Addressed LoadFault) → addressed_said (kept_of 1 text) ≡ r → addressed_filed fs named r ≡ Ok file → SaysLoad named text file
by_first fs named text file (Ok first) is e = by_row fs named text first file (header_said fs first.number first.words) is refl e
by_first fs named text file (Err fault) is e = absurd (let wrong : Err fault ≡ Ok file = e in cc)

pub load_is : (fs : List Field) (named text : List ℕ) → load_said fs named text ≡ addressed_filed fs named (addressed_said (kept_of 1 text))
unfolding load_said
load_is fs named text = refl

-- a file that a text says is accepted, and has the text's address and bytes
pub texts_say : (fs : List Field) (named text file : List ℕ) → load_said fs named text ≡ Ok file → SaysLoad named text file
texts_say fs named text file e = by_first fs named text file (addressed_said (kept_of 1 text)) refl (sym (load_is fs named text) ∙ e)

pub given_says : (fs : List Field) (named text : List ℕ) (r : Result (Vec ℕ Global) ReadError) → GivesLoad (load_said fs named text) r → IfOk r (λ file. SaysLoad named text file.items)
given_says fs named text (Ok file) given = texts_say fs named text file.items given
given_says fs named text (Err error) given = tt

pub given_by : (fs : List Field) (named text : List ℕ) (said : Result Addressed LoadFault) (r : Result (Vec ℕ Global) ReadError) → addressed_said (kept_of 1 text) ≡ said → GivesLoad (addressed_filed fs named said) r → GivesLoad (load_said fs named text) r
given_by fs named text said r e given = rw (load_is fs named text, e) given

pub given_fault : (fs : List Field) (named text : List ℕ) (fault : LoadFault) → addressed_said (kept_of 1 text) ≡ Err fault → load_said fs named text ≡ Err fault
given_fault fs named text fault e = load_is fs named text ∙ ap (addressed_filed fs named) e
