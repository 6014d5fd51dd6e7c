-- Lemmas on the first lines of texts.
use Rattle.std.proofs.Common.{◌≡◌, ℕ, true, false, List, [], ◌∷◌, Option, Some, None, refl, sym, ap, ◌∙◌}
use Rattle.std.specs.Prelude.{codes, Result, Ok, Err}
use Rattle.row_forms.specs.declared.fault.Reason.{Reason}
use Rattle.row_forms.specs.declared.fault.Reason.TheVariants as reasons
use Rattle.row_forms.specs.declared.field.Spelling.TheVariants as spellings
use Rattle.row_forms.specs.declared.field.Width.TheVariants.{U32}
use Rattle.row_forms.specs.Words.{number}
use Rattle.row_forms.specs.Values.{value_said}
use Rattle.row_forms.specs.Rows.{behind_key, value_or, field_said}
use Rattle.row_forms.proofs.SizeLemmas.{said_number}
use Rattle.packet_forms.specs.Numbers.{be32_at}
use Rattle.table_texts.specs.Lines.{Numbered}
use Rattle.table_texts.specs.Endings.{row_fault, behind_first}
use Rattle.load_texts.specs.declared.fault.LoadFault.TheVariants as faults
use Rattle.load_texts.specs.Headers.{line_refused, begins}
use Rattle.load_texts.specs.Addresses.{address_kind, address_said, address_then, behind_load, addressed_said}

pub first_none : (lines : List Numbered) → lines ≡ [] → addressed_said lines ≡ Err (faults.Load 1)
unfolding addressed_said
first_none lines e = rw e refl

pub first_other : (m : ℕ) (ws : List (List ℕ)) (lines more : List Numbered) → lines ≡ record { number = m; words = ws } ∷ more → begins (codes "load") ws ≡ false → addressed_said lines ≡ Err (faults.Load m)
unfolding addressed_said
first_other m ws lines more e other = rw e (rw other refl)

pub first_load : (m : ℕ) (ws : List (List ℕ)) (lines more : List Numbered) → lines ≡ record { number = m; words = ws } ∷ more → begins (codes "load") ws ≡ true → addressed_said lines ≡ behind_load m (behind_first ws) more
unfolding addressed_said
first_load m ws lines more e here = rw e (rw here refl)

pub first_missing : (m : ℕ) (ws behind : List (List ℕ)) (lines more : List Numbered) → lines ≡ record { number = m; words = ws } ∷ more → begins (codes "load") ws ≡ true → behind ≡ behind_first ws → behind ≡ [] → addressed_said lines ≡ Err (line_refused m (row_fault 2 reasons.Missing))
first_missing m ws behind lines more e here same none = first_load m ws lines more e here ∙ ap (λ (vs : List (List ℕ)). behind_load m vs more) (sym same ∙ none)

pub first_address : (m : ℕ) (ws behind vs : List (List ℕ)) (w : List ℕ) (lines more : List Numbered) (said : Result (List ℕ) Reason) → lines ≡ record { number = m; words = ws } ∷ more → begins (codes "load") ws ≡ true → behind ≡ behind_first ws → behind ≡ w ∷ vs → said ≡ address_said w → addressed_said lines ≡ address_then m said vs more
first_address m ws behind vs w lines more said e here same first is =
    first_load m ws lines more e here ∙ ap (λ (us : List (List ℕ)). behind_load m us more) (sym same ∙ first) ∙ ap (λ (r : Result (List ℕ) Reason). address_then m r vs more) (sym is)

-- the number of an address's text
address_by : (text bytes : List ℕ) → value_or reasons.Number32 (value_said None address_kind text) ≡ Ok bytes → value_said None address_kind text ≡ Some bytes
address_by text bytes e = by_value (value_said None address_kind text) e
  where
    by_value : (o : Option (List ℕ)) → value_or reasons.Number32 o ≡ Ok bytes → o ≡ Some bytes
    by_value (Some x) e = let same : x ≡ bytes = cc in ap Some same
    by_value None e = absurd (cc)

pub address_is : (word text bytes : List ℕ) → behind_key (codes "address") word ≡ Some text → address_said word ≡ Ok bytes → number 4294967295 text ≡ Some (be32_at bytes 0)
unfolding field_said
address_is word text bytes behind e =
    let said = rw behind at e in
    (said_number None U32 spellings.Hex text bytes (address_by text bytes said)).number
