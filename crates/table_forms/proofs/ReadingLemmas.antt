-- Lemmas on the first lines of texts.
use Rattle.std.proofs.Common.{◌≡◌, ℕ, true, false, List, [], ◌∷◌, Option, refl, sym, ap, ◌∙◌}
use Rattle.std.specs.Prelude.{codes, Err}
use Rattle.table_files.specs.declared.kinds.TableKind.{TableKind}
use Rattle.table_texts.specs.Lines.{Numbered}
use Rattle.table_texts.specs.Endings.{behind_first}
use Rattle.table_forms.specs.declared.fault.TableFault.TheVariants as faults
use Rattle.table_forms.specs.Names.{kind_said}
use Rattle.table_forms.specs.Payloads.{begins}
use Rattle.table_forms.specs.Reading.{named_first, kind_first, first_said}

pub first_none : (lines : List Numbered) → lines ≡ [] → first_said lines ≡ Err (faults.Table 1)
unfolding first_said
first_none lines e = rw e refl

pub first_other : (m : ℕ) (ws : List (List ℕ)) (lines more : List Numbered) → lines ≡ record { number = m; words = ws } ∷ more → begins (codes "table") ws ≡ false → first_said lines ≡ Err (faults.Table m)
unfolding first_said
first_other m ws lines more e other = rw e (rw other refl)

first_named : (m : ℕ) (ws : List (List ℕ)) (lines more : List Numbered) → lines ≡ record { number = m; words = ws } ∷ more → begins (codes "table") ws ≡ true → first_said lines ≡ named_first m (behind_first ws) more
unfolding first_said
first_named m ws lines more e here = rw e (rw here refl)

pub first_nameless : (m : ℕ) (ws behind : List (List ℕ)) (lines more : List Numbered) → lines ≡ record { number = m; words = ws } ∷ more → begins (codes "table") ws ≡ true → behind ≡ behind_first ws → behind ≡ [] → first_said lines ≡ Err (faults.Name m)
first_nameless m ws behind lines more e here same none = first_named m ws lines more e here ∙ ap (λ (vs : List (List ℕ)). named_first m vs more) (sym same ∙ none)

pub first_kind : (m : ℕ) (ws behind vs : List (List ℕ)) (w : List ℕ) (lines more : List Numbered) (kind : Option TableKind) → lines ≡ record { number = m; words = ws } ∷ more → begins (codes "table") ws ≡ true → behind ≡ behind_first ws → behind ≡ w ∷ vs → kind ≡ kind_said w → first_said lines ≡ kind_first m kind vs more
first_kind m ws behind vs w lines more kind e here same first is =
    first_named m ws lines more e here ∙ ap (λ (us : List (List ℕ)). named_first m us more) (sym same ∙ first) ∙ ap (λ (k : Option TableKind). kind_first m k vs more) (sym is)
