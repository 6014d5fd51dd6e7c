-- Baselines, miscompares and whole passes at one more happening.
use Rattle.std.proofs.Common.{◌≡◌, ◌≢◌, ℕ, ◌+◌, ◌%◌, ◌^◌, ◌<◌, ◌≤◌, Bool, true, false, cond, not, ◌&&◌, List, [], ◌∷◌, ◌++◌, length, get_or, set, refl, sym, ap, ◌∙◌, arith, eq-eqb, ne_eqb, get_or-set_other, get_or-set_same}
use Rattle.std.specs.Prelude.{Option, Some, None, filter_map, count_by, ◌==◌}
use Rattle.std.specs.Option.{option_or}
use Rattle.std.specs.List.{cons_option}
use Rattle.std.proofs.lemmas.Bool.{eqb-true, eqb-false}
use Rattle.std.proofs.lemmas.List.{length-set}
use Rattle.std.proofs.lemmas.List.Elements.{filter_map-append}
use Rattle.histories.specs.Words.{along}
use Rattle.histories.proofs.Along.{along_more, along_none}
use Rattle.histories.proofs.Fronts.{count_more}
use Rattle.packet_forms.specs.Crc.{crc_of}
use Rattle.cs_slices.specs.Orders.{table_of}
use Rattle.cs_slices.specs.Happenings.{Slice, Happening, slices_among, slices_since}
use Rattle.cs_slices.specs.Happenings.Happening.{Ordered, Read, Renewed}
use Rattle.cs_slices.specs.Passes.{pass_bytes, check_at, checks, first_of, baseline, differs, miscompares, baseline_at, differs_behind, is_miscompare, miscompare_count, pass_count}
use Rattle.cs_slices.specs.State.{TallyStands}
use Rattle.cs_slices.specs.declared.instructions.Instruction.{Instruction}
use Rattle.cs_slices.specs.declared.tally.Tally.{Tally}
use Rattle.cs_slices.proofs.Happened.{slices_none, slices_ordered, slices_read, slices_renewed, slices_since_none, slices_since_ordered, slices_since_read, slices_since_renewed}
use Rattle.cs_slices.proofs.Places.{table_first, table_second}

-- the first of a list, or of what is put behind it
first_or : (xs : List ℕ) (o : Option ℕ) → first_of (xs ++ cons_option o []) ≡ option_or (first_of xs) o
first_or [] None = refl
first_or [] (Some x) = refl
first_or (x ∷ xs) o = refl

pub baseline_more : (place : ℕ) (slices : List Slice) (s : Slice) → baseline place (slices ++ s ∷ []) ≡ option_or (baseline place slices) (check_at place slices s)
unfolding baseline checks
baseline_more place slices s =
    let keep : Option ℕ → Option ℕ = λ check. check in
    ap (λ (cs : List (Option ℕ)). first_of (filter_map keep cs)) (along_more (check_at place) slices s)
    ∙ ap first_of (filter_map-append keep (along (check_at place) slices) (check_at place slices s ∷ []))
    ∙ first_or (filter_map keep (along (check_at place) slices)) (check_at place slices s)

pub baseline_none : (place : ℕ) → baseline place [] ≡ None
unfolding baseline checks
baseline_none place = ap (λ (cs : List (Option ℕ)). first_of (filter_map (λ (check : Option ℕ). check) cs)) (along_none (check_at place))

-- what a slice adds to a count
added : (count here : ℕ) → (count + here) % 65536 ≡ (count % 65536 + here) % 65536
added count here = omega arith

added_wide : (count here : ℕ) → (count + here) % 2 ^ 32 ≡ (count % 2 ^ 32 + here) % 2 ^ 32
added_wide count here = omega arith

pub miscompare_more : (table : ℕ) (happened : List Happening) (h : Happening) → miscompare_count table (happened ++ h ∷ []) ≡ (miscompare_count table happened + cond (is_miscompare table happened h) 1 0) % 65536
unfolding miscompare_count
miscompare_more table happened h =
    ap (λ (found : List Bool). count_by (λ (b : Bool). b) found % 65536) (along_more (is_miscompare table) happened h)
    ∙ ap (λ (n : ℕ). n % 65536) (count_more (λ (b : Bool). b) (along (is_miscompare table) happened) (is_miscompare table happened h))
    ∙ added (count_by (λ (b : Bool). b) (along (is_miscompare table) happened)) (cond (is_miscompare table happened h) 1 0)

pub miscompare_none : (table : ℕ) → miscompare_count table [] ≡ 0
unfolding miscompare_count
miscompare_none table = ap (λ (found : List Bool). count_by (λ (b : Bool). b) found % 65536) (along_none (is_miscompare table))

pub pass_more : (slices : List Slice) (s : Slice) → pass_count (slices ++ s ∷ []) ≡ (pass_count slices + cond s.ends 1 0) % 2 ^ 32
unfolding pass_count
pass_more slices s =
    ap (λ (n : ℕ). n % 2 ^ 32) (count_more (λ (x : Slice). x.ends) slices s)
    ∙ added_wide (count_by (λ (x : Slice). x.ends) slices) (cond s.ends 1 0)

-- counts are small already
small_count : (table : ℕ) (happened : List Happening) → miscompare_count table happened < 65536
unfolding miscompare_count
small_count table happened = omega arith

small_passes : (slices : List Slice) → pass_count slices < 2 ^ 32
unfolding pass_count
small_passes slices = omega arith

same_count : (n : ℕ) → n < 65536 → n ≡ (n + 0) % 65536
same_count n small = omega arith

same_passes : (n : ℕ) → n < 2 ^ 32 → n ≡ (n + 0) % 2 ^ 32
same_passes n small = omega arith

or_none : (o : Option ℕ) → option_or o None ≡ o
or_none None = refl
or_none (Some x) = refl

and_false : (b : Bool) → (b && false) ≡ false
and_false true = refl
and_false false = refl

-- a slice that doesn't end its pass
no_check : (place : ℕ) (slices : List Slice) (s : Slice) → s.ends ≡ false → check_at place slices s ≡ None
no_check place slices s goes =
    ap (λ (b : Bool). cond ((s.place == place) && b) (Some (crc_of 0 (pass_bytes place (slices ++ s ∷ [])))) None) goes
    ∙ ap (λ (b : Bool). cond b (Some (crc_of 0 (pass_bytes place (slices ++ s ∷ [])))) None) (and_false (s.place == place))

no_miscompare : (table : ℕ) (happened : List Happening) (s : Slice) → s.ends ≡ false → miscompare_count table happened ≡ miscompare_count table (happened ++ Read s ∷ [])
unfolding miscompares
no_miscompare table happened s goes =
    let fresh = slices_since (table_of s.place) happened in
    let differs_here = differs (baseline s.place fresh) (crc_of 0 (pass_bytes s.place (fresh ++ s ∷ []))) in
    same_count (miscompare_count table happened) (small_count table happened)
    ∙ ap (λ (b : Bool). (miscompare_count table happened + cond b 1 0) % 65536) (sym (ap (λ (b : Bool). (table_of s.place == table) && (b && differs_here)) goes ∙ and_false (table_of s.place == table)))
    ∙ sym (miscompare_more table happened (Read s))

pub tally_rests : (happened : List Happening) (s : Slice) (t : Tally) → TallyStands happened t → s.ends ≡ false → TallyStands (happened ++ Read s ∷ []) t
tally_rests happened s t stood goes = record {
  whole = stood.whole;
  baselines = λ k below.
      let fresh = slices_since (table_of k) happened in
      stood.baselines k below
      ∙ sym (ap (baseline k) (slices_since_read (table_of k) happened s) ∙ baseline_more k fresh s ∙ ap (option_or (baseline k fresh)) (no_check k fresh s goes) ∙ or_none (baseline k fresh));
  eeprom = stood.eeprom ∙ no_miscompare 1 happened s goes;
  memory = stood.memory ∙ no_miscompare 2 happened s goes;
  passes =
      let slices = slices_among happened in
      stood.passes ∙ same_passes (pass_count slices) (small_passes slices)
      ∙ sym (ap pass_count (slices_read happened s) ∙ pass_more slices s ∙ ap (λ (b : Bool). (pass_count slices + cond b 1 0) % 2 ^ 32) goes);
}

-- an order, and a table that becomes active
pub tally_ordered : (happened : List Happening) (order : Instruction) (t : Tally) → TallyStands happened t → TallyStands (happened ++ Ordered order ∷ []) t
tally_ordered happened order t stood = record {
  whole = stood.whole;
  baselines = λ k below. stood.baselines k below ∙ ap (baseline k) (sym (slices_since_ordered (table_of k) happened order));
  eeprom = stood.eeprom ∙ still 1;
  memory = stood.memory ∙ still 2;
  passes = stood.passes ∙ ap pass_count (sym (slices_ordered happened order));
}
  where
    still : (table : ℕ) → miscompare_count table happened ≡ miscompare_count table (happened ++ Ordered order ∷ [])
    still table = same_count (miscompare_count table happened) (small_count table happened) ∙ sym (miscompare_more table happened (Ordered order))

pub miscompares_renewed : (happened : List Happening) (n table : ℕ) → miscompare_count table happened ≡ miscompare_count table (happened ++ Renewed n ∷ [])
miscompares_renewed happened n table = same_count (miscompare_count table happened) (small_count table happened) ∙ sym (miscompare_more table happened (Renewed n))

pub baseline_renewed : (happened : List Happening) (n k : ℕ) → (n == table_of k) ≡ true → baseline_at k (happened ++ Renewed n ∷ []) ≡ None
baseline_renewed happened n k same = ap (baseline k) (slices_since_renewed (table_of k) n happened true same) ∙ baseline_none k

pub baseline_kept : (happened : List Happening) (n k : ℕ) → (n == table_of k) ≡ false → baseline_at k (happened ++ Renewed n ∷ []) ≡ baseline_at k happened
baseline_kept happened n k other = ap (baseline k) (slices_since_renewed (table_of k) n happened false other)

pub tally_renewed : (happened : List Happening) (n : ℕ) (t u : Tally) → TallyStands happened t → length u.baselines ≡ 32
    → ((k : ℕ) → k < 32 → get_or u.baselines k None ≡ cond (n == table_of k) None (get_or t.baselines k None)) → u.eeprom ≡ t.eeprom → u.memory ≡ t.memory → u.passes ≡ t.passes → TallyStands (happened ++ Renewed n ∷ []) u
tally_renewed happened n t u stood whole each eeprom memory passes = record {
  whole = whole;
  baselines = λ k below. each k below ∙ by_case k below (n == table_of k) refl;
  eeprom = eeprom ∙ stood.eeprom ∙ miscompares_renewed happened n 1;
  memory = memory ∙ stood.memory ∙ miscompares_renewed happened n 2;
  passes = passes ∙ stood.passes ∙ ap pass_count (sym (slices_renewed happened n));
}
  where
    by_case : (k : ℕ) → k < 32 → (b : Bool) → (n == table_of k) ≡ b → cond b None (get_or t.baselines k None) ≡ baseline_at k (happened ++ Renewed n ∷ [])
    by_case k below true same = sym (baseline_renewed happened n k same)
    by_case k below false other = stood.baselines k below ∙ sym (baseline_kept happened n k other)

-- what a slice that ends its pass makes of a baseline
check_is : (place check k : ℕ) (happened : List Happening) (s : Slice) → s.place ≡ place → s.ends ≡ true → check ≡ crc_of 0 (pass_bytes place (slices_since (table_of place) happened ++ s ∷ []))
    → check_at k (slices_since (table_of k) happened) s ≡ cond (place == k) (Some check) None
check_is place check k happened s same ends is =
    ap (λ (b : Bool). cond b (Some (crc_of 0 (pass_bytes k (slices_since (table_of k) happened ++ s ∷ [])))) None) (ap (λ (n : ℕ). (n == k) && s.ends) same ∙ ap (λ (b : Bool). (place == k) && b) ends ∙ and_true (place == k))
    ∙ by_case (place == k) refl
  where
    and_true : (b : Bool) → (b && true) ≡ b
    and_true true = refl
    and_true false = refl

    by_case : (b : Bool) → (place == k) ≡ b → cond b (Some (crc_of 0 (pass_bytes k (slices_since (table_of k) happened ++ s ∷ [])))) None ≡ cond b (Some check) None
    by_case true here = ap (λ (n : ℕ). Some n) (ap (λ (n : ℕ). crc_of 0 (pass_bytes n (slices_since (table_of n) happened ++ s ∷ []))) (sym (eqb-true place k here)) ∙ sym is)
    by_case false other = refl

-- whether it is a miscompare
pub miscompare_is : (place check : ℕ) (happened : List Happening) (s : Slice) → s.place ≡ place → s.ends ≡ true → check ≡ crc_of 0 (pass_bytes place (slices_since (table_of place) happened ++ s ∷ []))
    → differs_behind happened s ≡ differs (baseline_at place happened) check
unfolding miscompares
miscompare_is place check happened s same ends is =
    ap (λ (b : Bool). b && differs (baseline_at s.place happened) (crc_of 0 (pass_bytes s.place (slices_since (table_of s.place) happened ++ s ∷ [])))) ends
    ∙ ap (λ (n : ℕ). differs (baseline_at n happened) (crc_of 0 (pass_bytes n (slices_since (table_of n) happened ++ s ∷ [])))) same
    ∙ ap (differs (baseline_at place happened)) (sym is)

-- all that is kept after a slice that ends its pass
pub tally_after : (happened : List Happening) (s : Slice) (t u : Tally) (place check : ℕ) → TallyStands happened t → s.place ≡ place → s.ends ≡ true → check ≡ crc_of 0 (pass_bytes place (slices_since (table_of place) happened ++ s ∷ []))
    → length u.baselines ≡ length t.baselines
    → ((k : ℕ) → k < 32 → get_or u.baselines k None ≡ option_or (get_or t.baselines k None) (cond (place == k) (Some check) None))
    → u.eeprom ≡ (t.eeprom + cond ((table_of place == 1) && differs (baseline_at place happened) check) 1 0) % 65536
    → u.memory ≡ (t.memory + cond ((table_of place == 2) && differs (baseline_at place happened) check) 1 0) % 65536
    → u.passes ≡ (t.passes + 1) % 2 ^ 32 → TallyStands (happened ++ Read s ∷ []) u
tally_after happened s t u place check stood same ends is long each eeprom memory passes =
    record {
      whole = long ∙ stood.whole;
      baselines = λ k below.
          let fresh = slices_since (table_of k) happened in
          each k below ∙ ap (λ (o : Option ℕ). option_or o (cond (place == k) (Some check) None)) (stood.baselines k below)
          ∙ ap (option_or (baseline k fresh)) (sym (check_is place check k happened s same ends is)) ∙ sym (baseline_more k fresh s)
          ∙ ap (baseline k) (sym (slices_since_read (table_of k) happened s));
      eeprom = eeprom ∙ ap (λ (n : ℕ). (n + cond ((table_of place == 1) && differs (baseline_at place happened) check) 1 0) % 65536) stood.eeprom ∙ sym (miscompare_more 1 happened (Read s) ∙ counted 1);
      memory = memory ∙ ap (λ (n : ℕ). (n + cond ((table_of place == 2) && differs (baseline_at place happened) check) 1 0) % 65536) stood.memory ∙ sym (miscompare_more 2 happened (Read s) ∙ counted 2);
      passes =
          let slices = slices_among happened in
          passes ∙ ap (λ (n : ℕ). (n + 1) % 2 ^ 32) stood.passes
          ∙ sym (ap pass_count (slices_read happened s) ∙ pass_more slices s ∙ ap (λ (b : Bool). (pass_count slices + cond b 1 0) % 2 ^ 32) ends);
    }
  where
    counted : (table : ℕ) → (miscompare_count table happened + cond ((table_of s.place == table) && differs_behind happened s) 1 0) % 65536 ≡ (miscompare_count table happened + cond ((table_of place == table) && differs (baseline_at place happened) check) 1 0) % 65536
    counted table =
        ap (λ (n : ℕ). (miscompare_count table happened + cond ((table_of n == table) && differs_behind happened s) 1 0) % 65536) same
        ∙ ap (λ (b : Bool). (miscompare_count table happened + cond ((table_of place == table) && b) 1 0) % 65536) (miscompare_is place check happened s same ends is)

-- at the start
passes_none : pass_count [] ≡ 0
unfolding pass_count
passes_none = refl

pub tally_none : (t : Tally) → length t.baselines ≡ 32 → ((k : ℕ) → k < 32 → get_or t.baselines k None ≡ None) → t.eeprom ≡ 0 → t.memory ≡ 0 → t.passes ≡ 0 → TallyStands [] t
tally_none t whole none eeprom memory passes = record {
  whole = whole;
  baselines = λ k below. none k below ∙ sym (ap (baseline k) (slices_since_none (table_of k)) ∙ baseline_none k);
  eeprom = eeprom ∙ sym (miscompare_none 1);
  memory = memory ∙ sym (miscompare_none 2);
  passes = passes ∙ sym (ap pass_count slices_none ∙ passes_none);
}

-- the arms of a judgement
pub none_from : (o : Option ℕ) → ((x : ℕ) → o ≡ Some x → ⊥) → o ≡ None
none_from None other = refl
none_from (Some x) other = absurd (other x refl)

set_first : (xs : List (Option ℕ)) (place check k : ℕ) → place < length xs → get_or xs place None ≡ None → get_or (set xs place (Some check)) k None ≡ option_or (get_or xs k None) (cond (place == k) (Some check) None)
set_first xs place check k within none = by_case (place == k) refl
  where
    by_case : (b : Bool) → (place == k) ≡ b → get_or (set xs place (Some check)) k None ≡ option_or (get_or xs k None) (cond b (Some check) None)
    by_case true here =
        let e : place ≡ k = eqb-true place k here in
        ap (λ (j : ℕ). get_or (set xs place (Some check)) j None) (sym e) ∙ get_or-set_same xs place (Some check) None within
        ∙ sym (ap (λ (o : Option ℕ). option_or o (Some check)) (ap (λ (j : ℕ). get_or xs j None) (sym e) ∙ none))
    by_case false other =
        let e : place ≢ k = eqb-false place k other in
        get_or-set_other xs place k (Some check) None (λ back. e (sym back)) ∙ sym (or_none (get_or xs k None))

kept_later : (xs : List (Option ℕ)) (place base check k : ℕ) → get_or xs place None ≡ Some base → get_or xs k None ≡ option_or (get_or xs k None) (cond (place == k) (Some check) None)
kept_later xs place base check k some_base = by_case (place == k) refl
  where
    by_case : (b : Bool) → (place == k) ≡ b → get_or xs k None ≡ option_or (get_or xs k None) (cond b (Some check) None)
    by_case true here =
        let held : get_or xs k None ≡ Some base = ap (λ (j : ℕ). get_or xs j None) (sym (eqb-true place k here)) ∙ some_base in
        held ∙ sym (ap (λ (o : Option ℕ). option_or o (Some check)) held)
    by_case false other = sym (or_none (get_or xs k None))

-- a count that stays, and one that rises
stays : (count : ℕ) (here d : Bool) → count < 65536 → d ≡ false → count ≡ (count + cond (here && d) 1 0) % 65536
stays count here d small same = same_count count small ∙ ap (λ (b : Bool). (count + cond b 1 0) % 65536) (sym (ap (λ (b : Bool). here && b) same ∙ and_false here))

stays_elsewhere : (count : ℕ) (here d : Bool) → count < 65536 → here ≡ false → count ≡ (count + cond (here && d) 1 0) % 65536
stays_elsewhere count here d small other = same_count count small ∙ ap (λ (b : Bool). (count + cond (b && d) 1 0) % 65536) (sym other)

rises : (count : ℕ) (here d : Bool) → here ≡ true → d ≡ true → (count + 1) % 65536 ≡ (count + cond (here && d) 1 0) % 65536
rises count here d same other = sym (ap (λ (b : Bool). (count + cond (b && d) 1 0) % 65536) same ∙ ap (λ (b : Bool). (count + cond b 1 0) % 65536) other)

module _ (happened : List Happening) (s : Slice) (t : Tally) (place check : ℕ) (stood : TallyStands happened t) (within : place < 32) (same : s.place ≡ place) (ends : s.ends ≡ true) (is : check ≡ crc_of 0 (pass_bytes place (slices_since (table_of place) happened ++ s ∷ []))) where
  small_eeprom : t.eeprom < 65536
  small_eeprom = let few = small_count 1 happened in omega (arith, stood.eeprom)

  small_memory : t.memory < 65536
  small_memory = let few = small_count 2 happened in omega (arith, stood.memory)

  differs_none : get_or t.baselines place None ≡ None → differs (baseline_at place happened) check ≡ false
  differs_none none = ap (λ (o : Option ℕ). differs o check) (sym (stood.baselines place within) ∙ none)

  differs_some : (base : ℕ) (b : Bool) → get_or t.baselines place None ≡ Some base → (base == check) ≡ b → differs (baseline_at place happened) check ≡ not b
  differs_some base b some_base equal = ap (λ (o : Option ℕ). differs o check) (sym (stood.baselines place within) ∙ some_base) ∙ ap not equal

  -- the first whole pass of a place
  pub judged_first : get_or t.baselines place None ≡ None → TallyStands (happened ++ Read s ∷ []) (record { baselines = set t.baselines place (Some check); eeprom = t.eeprom; memory = t.memory; passes = (t.passes + 1) % 2 ^ 32 })
  judged_first none =
      let inside : place < length t.baselines = omega (arith, stood.whole, within) in
      tally_after happened s t _ place check stood same ends is (length-set t.baselines place (Some check))
      (λ k below. set_first t.baselines place check k inside none)
      (stays t.eeprom (table_of place == 1) _ small_eeprom (differs_none none))
      (stays t.memory (table_of place == 2) _ small_memory (differs_none none)) refl

  pub found_first : get_or t.baselines place None ≡ None → false ≡ differs_behind happened s
  found_first none = sym (miscompare_is place check happened s same ends is ∙ differs_none none)

  -- a later one that is as the first
  pub judged_same : (base : ℕ) → get_or t.baselines place None ≡ Some base → base ≡ check → TallyStands (happened ++ Read s ∷ []) (record { baselines = t.baselines; eeprom = t.eeprom; memory = t.memory; passes = (t.passes + 1) % 2 ^ 32 })
  judged_same base some_base equal =
      tally_after happened s t _ place check stood same ends is refl
      (λ k below. kept_later t.baselines place base check k some_base)
      (stays t.eeprom (table_of place == 1) _ small_eeprom (differs_some base true some_base (eq-eqb base check equal)))
      (stays t.memory (table_of place == 2) _ small_memory (differs_some base true some_base (eq-eqb base check equal))) refl

  pub found_same : (base : ℕ) → get_or t.baselines place None ≡ Some base → base ≡ check → false ≡ differs_behind happened s
  found_same base some_base equal = sym (miscompare_is place check happened s same ends is ∙ differs_some base true some_base (eq-eqb base check equal))

  -- a later one that isn't
  pub judged_eeprom : (base : ℕ) → get_or t.baselines place None ≡ Some base → base ≢ check → place < 16 → TallyStands (happened ++ Read s ∷ []) (record { baselines = t.baselines; eeprom = (t.eeprom + 1) % 65536; memory = t.memory; passes = (t.passes + 1) % 2 ^ 32 })
  judged_eeprom base some_base other first =
      tally_after happened s t _ place check stood same ends is refl
      (λ k below. kept_later t.baselines place base check k some_base)
      (rises t.eeprom (table_of place == 1) _ (ap (λ (n : ℕ). n == 1) (table_first place first)) (differs_some base false some_base (ne_eqb base check other)))
      (stays_elsewhere t.memory (table_of place == 2) _ small_memory (ap (λ (n : ℕ). n == 2) (table_first place first))) refl

  pub judged_memory : (base : ℕ) → get_or t.baselines place None ≡ Some base → base ≢ check → 16 ≤ place → TallyStands (happened ++ Read s ∷ []) (record { baselines = t.baselines; eeprom = t.eeprom; memory = (t.memory + 1) % 65536; passes = (t.passes + 1) % 2 ^ 32 })
  judged_memory base some_base other second =
      tally_after happened s t _ place check stood same ends is refl
      (λ k below. kept_later t.baselines place base check k some_base)
      (stays_elsewhere t.eeprom (table_of place == 1) _ small_eeprom (ap (λ (n : ℕ). n == 1) (table_second place second within)))
      (rises t.memory (table_of place == 2) _ (ap (λ (n : ℕ). n == 2) (table_second place second within)) (differs_some base false some_base (ne_eqb base check other))) refl

  pub found_other : (base : ℕ) → get_or t.baselines place None ≡ Some base → base ≢ check → true ≡ differs_behind happened s
  found_other base some_base other = sym (miscompare_is place check happened s same ends is ∙ differs_some base false some_base (ne_eqb base check other))
