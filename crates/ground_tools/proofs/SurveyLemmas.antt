-- Lemmas on logs that are counted as they come.
use Rattle.std.proofs.Common.{◌≡◌, ℕ, zero, suc, ◌<◌, ◌+◌, Bool, true, false, ◌||◌, List, [], ◌∷◌, ◌++◌, length, take, drop, get_or, slice_set, map, arith, Ok, Err, refl, ap, sym, ◌∙◌, subst, append-nil, append_assoc}
use Rattle.std.specs.List.{list_any, flat_map}
use Rattle.std.proofs.lemmas.Grind.{flat_map-append}
use Rattle.std.proofs.lemmas.List.Folds.{list_any-append}
use Rattle.std.proofs.Math.Seq.{take-add, map-set_same}
use Rattle.log_lines.specs.Logs.{Said, log_said, Stands as ReaderStands}
use Rattle.log_lines.proofs.LogLemmas.{gave_all}
use Rattle.ground_tools.specs.declared.survey.Notable.{Notable}
use Rattle.ground_tools.specs.declared.survey.NotableCount.{NotableCount}
use Rattle.ground_tools.specs.declared.survey.Survey.{Survey}
use Rattle.ground_tools.specs.Noted.{said_noted, noted}
use Rattle.ground_tools.specs.Surveys.{notables_in, AreAlike, Surveys, Notes}

-- the lines that were given behind a log tell what they tell
noted_on : (log more : List ℕ) (given : List Said) → log_said log ++ given ≡ log_said (log ++ more) → noted log ++ flat_map said_noted given ≡ noted (log ++ more)
unfolding noted
noted_on log more given gave = sym (flat_map-append said_noted (log_said log) given) ∙ ap (flat_map said_noted) gave

-- a survey went on by what its reader gave
pub surveys_on : (old new : Survey) (log more : List ℕ) (given : List Said) → Surveys old log → ReaderStands new.reader (log ++ more) (log_said log ++ given)
    → AreAlike (notables_in new.notables.items) (notables_in old.notables.items ++ flat_map said_noted given) → Surveys new (log ++ more)
surveys_on old new log more given stands reader counts =
    let gave : log_said log ++ given ≡ log_said (log ++ more) = gave_all new.reader (log ++ more) (log_said log ++ given) reader in
    record {
      reader = subst (λ said. ReaderStands new.reader (log ++ more) said) gave reader;
      counts = λ test. counts test ∙ list_any-append test (notables_in old.notables.items) (flat_map said_noted given)
          ∙ ap (λ (b : Bool). b || list_any test (flat_map said_noted given)) (stands.counts test)
          ∙ sym (list_any-append test (noted log) (flat_map said_noted given)) ∙ ap (list_any test) (noted_on log more given gave);
    }

-- nothing was counted as well
pub alike_none : (counts : List NotableCount) → AreAlike (notables_in counts) (notables_in counts ++ [])
alike_none counts test = ap (list_any test) (sym (append-nil (notables_in counts)))

-- a survey of which nothing came
pub surveys_none : (s : Survey) → ReaderStands s.reader [] [] → s.notables.items ≡ [] → Surveys s []
unfolding noted
surveys_none s reader empty =
    let none : [] ≡ log_said [] = gave_all s.reader [] [] reader in
    record {
      reader = subst (λ said. ReaderStands s.reader [] said) none reader;
      counts = λ test. ap (λ (counts : List NotableCount). list_any test (notables_in counts)) empty ∙ ap (λ (said : List Said). list_any test (flat_map said_noted said)) none;
    }

-- what is counted already
either : (b c : Bool) → (c ≡ true → b ≡ true) → b ≡ (b || (c || false))
either true c gives = refl
either false true gives = gives refl
either false false gives = refl

or_true : (b c : Bool) → c ≡ true → (b || c) ≡ true
or_true true c is = refl
or_true false c is = is

among : (counts : List NotableCount) (place : ℕ) (other : NotableCount) (test : Notable → Bool) → place < length counts → test (get_or counts place other).what ≡ true → list_any test (notables_in counts) ≡ true
among [] place other test within passes = absurd (omega arith)
among (c ∷ cs) zero other test within passes = ap (λ (b : Bool). b || list_any test (notables_in cs)) passes
among (c ∷ cs) (suc place) other test within passes = or_true (test c.what) (list_any test (notables_in cs)) (among cs place other test (omega arith) passes)

pub alike_known : (counts : List NotableCount) (place : ℕ) (other : NotableCount) (what : Notable) → place < length counts → (get_or counts place other).what ≡ what
    → AreAlike (notables_in counts) (notables_in counts ++ what ∷ [])
alike_known counts place other what within is test =
    either (list_any test (notables_in counts)) (test what) (λ passes. among counts place other test within (ap test is ∙ passes))
    ∙ sym (list_any-append test (notables_in counts) (what ∷ []))

-- something came again that was counted
pub alike_again : (counts : List NotableCount) (place count : ℕ) (what : Notable) → place < length counts → ((other : NotableCount) → (get_or counts place other).what ≡ what)
    → AreAlike (notables_in (slice_set counts place (record { what = what; count = count }))) (notables_in counts ++ what ∷ [])
alike_again counts place count what within is test =
    let known : NotableCount = record { what = what; count = count } in
    ap (list_any test) (map-set_same (λ (c : NotableCount). c.what) counts place known known (sym (is known))) ∙ alike_known counts place known what within (is known) test

-- a survey that took a piece in two parts
pub parts_surveyed : (s : Survey) (log piece : List ℕ) (n m : ℕ) → Surveys s ((log ++ take n piece) ++ take m (drop n piece)) → Surveys s (log ++ take (n + m) piece)
parts_surveyed s log piece n m stands =
    subst (λ (xs : List ℕ). Surveys s xs) (append_assoc log (take n piece) (take m (drop n piece)) ∙ ap (λ (xs : List ℕ). log ++ xs) (sym (take-add n m piece))) stands
