-- Lemmas on the steps of expressions.
use Rattle.std.proofs.Common.{◌≡◌, ℕ, zero, suc, ◌+◌, ◌-◌, ◌*◌, ◌<◌, ◌≤◌, Bool, true, false, List, [], ◌∷◌, ◌++◌, length, drop, map, Option, Some, None, refl, ap, sym, ◌∙◌, arith, append_assoc, append-nil, Bor, nat_le}
use Rattle.std.specs.Prelude.{MatchOption, IfOk, OnOk, Result, Ok, Err, count_by, replicate, option_map, option_and_then, ◌==◌}
use Rattle.std.specs.declared.alloc.AllocError.{AllocError}
use Rattle.std.specs.List.{flat_map}
use Rattle.std.proofs.lemmas.Bool.Decides.{nat_tests}
use Rattle.std.proofs.lemmas.List.Splits.{length-slice_split}
use Rattle.packet_forms.specs.Numbers.{be16_at, be16_bytes}
use Rattle.row_forms.specs.declared.field.Choice.{Choice}
use Rattle.row_forms.specs.Lists.{parts, listed, behind_comma}
use Rattle.row_forms.specs.Numbers.{choice_said, choice_shown}
use Rattle.row_forms.specs.Values.{steps_said, steps_bytes, steps_at, expression_of, expression_said}
use Rattle.row_forms.specs.Rows.{GivesValue}

steps_none : (words : List Choice) (part : List ℕ) (more : List (List ℕ)) → choice_said 65535 words part ≡ None → steps_said words (part ∷ more) ≡ None
unfolding steps_said
steps_none words part more e = rw e refl

steps_cons : (words : List Choice) (part : List ℕ) (more : List (List ℕ)) (n : ℕ) → choice_said 65535 words part ≡ Some n → steps_said words (part ∷ more) ≡ option_map (λ rest. n ∷ rest) (steps_said words more)
unfolding steps_said
steps_cons words part more n e = rw e refl

no_steps : (words : List Choice) → steps_said words [] ≡ Some []
unfolding steps_said
no_steps words = refl

-- a part that is no step
pub steps_bad : (words : List Choice) (part text : List ℕ) (rest : Option (Bor (List ℕ))) (old new : List ℕ) → MatchOption rest (parts text ≡ part ∷ []) (λ r. parts text ≡ part ∷ parts r.now) → None ≡ choice_said 65535 words part → GivesValue (steps_bytes (steps_said words (parts text))) old new false
steps_bad words part text None old new e bad = rw (e, steps_none words part [] (sym bad)) refl
steps_bad words part text (Some r) old new e bad = rw (e, steps_none words part (parts r.now) (sym bad)) refl

-- the last step
pub steps_last : (words : List Choice) (part text : List ℕ) (n : ℕ) (old new : List ℕ) → parts text ≡ part ∷ [] → Some n ≡ choice_said 65535 words part → new ≡ old ++ be16_bytes n → GivesValue (steps_bytes (steps_said words (parts text))) old new true
steps_last words part text n old new e is put = rw (e, steps_cons words part [] n (sym is), no_steps words) (refl, put ∙ ap (λ (bytes : List ℕ). old ++ bytes) (sym (append-nil (be16_bytes n))))

next_gives : (n : ℕ) (said : Option (List ℕ)) (old mid new : List ℕ) (b : Bool) → mid ≡ old ++ be16_bytes n → GivesValue (steps_bytes said) mid new b → GivesValue (steps_bytes (option_map (λ rest. n ∷ rest) said)) old new b
next_gives n None old mid new b put given = given
next_gives n (Some steps) old mid new b put given = (given.0, given.1 ∙ ap (λ (bytes : List ℕ). bytes ++ flat_map be16_bytes steps) put ∙ append_assoc old (be16_bytes n) (flat_map be16_bytes steps))

-- a step, and others behind it
pub steps_next : (words : List Choice) (part text rest : List ℕ) (n : ℕ) (old mid new : List ℕ) (b : Bool) → parts text ≡ part ∷ parts rest → Some n ≡ choice_said 65535 words part → mid ≡ old ++ be16_bytes n → GivesValue (steps_bytes (steps_said words (parts rest))) mid new b → GivesValue (steps_bytes (steps_said words (parts text))) old new b
steps_next words part text rest n old mid new b e is put given = rw (e, steps_cons words part (parts rest) n (sym is)) (next_gives n (steps_said words (parts rest)) old mid new b put given)

one_more : (n : ℕ) (said : Option (List ℕ)) (k : ℕ) → ((steps : List ℕ) → said ≡ Some steps → length steps ≡ k) → (steps : List ℕ) → option_map (λ rest. n ∷ rest) said ≡ Some steps → length steps ≡ 1 + k
one_more n None k h steps e = absurd (cc)
one_more n (Some rest) k h steps e = let same : n ∷ rest ≡ steps = cc in rw (← same) (omega (arith, h rest refl))

count_one : (words : List Choice) (part : List ℕ) (more : List (List ℕ)) (o : Option ℕ) → choice_said 65535 words part ≡ o → ((steps : List ℕ) → steps_said words more ≡ Some steps → length steps ≡ length more) → (steps : List ℕ) → steps_said words (part ∷ more) ≡ Some steps → length steps ≡ 1 + length more
count_one words part more None is h steps e = absurd (let none = steps_none words part more is in cc)
count_one words part more (Some n) is h steps e = one_more n (steps_said words more) (length more) h steps (sym (steps_cons words part more n is) ∙ e)

-- there are as many steps as parts
steps_count : (words : List Choice) (ps : List (List ℕ)) (steps : List ℕ) → steps_said words ps ≡ Some steps → length steps ≡ length ps
unfolding steps_said
steps_count words [] steps e = let same : [] ≡ steps = cc in rw (← same) refl
steps_count words (part ∷ more) steps e = count_one words part more (choice_said 65535 words part) refl (steps_count words more) steps e ∙ omega arith

commas_parts : (text : List ℕ) → length (parts text) ≡ count_by (λ b. b == 44) text + 1
commas_parts text = length-slice_split (λ b. b == 44) text

over_by : (said : Option (List ℕ)) (old new : List ℕ) → ((steps : List ℕ) → said ≡ Some steps → 16 < length steps) → GivesValue (option_and_then expression_of said) old new false
over_by None old new h = refl
over_by (Some steps) old new h =
    let many : nat_le (length steps) 16 ≡ false = let over = h steps refl in grind (arith, nat_tests) in
    rw many refl

-- more steps than there is room for
pub too_many : (words : List Choice) (text : List ℕ) (commas : ℕ) (old new : List ℕ) → commas ≡ count_by (λ b. b == 44) text → 15 < commas → GivesValue (expression_said words text) old new false
unfolding expression_said
too_many words text commas old new count many =
    over_by (steps_said words (parts text)) old new (λ steps e. omega (arith, steps_count words (parts text) steps e, commas_parts text, count, many))

bad_by : (said : Option (List ℕ)) (old mid new : List ℕ) → GivesValue (steps_bytes said) mid new false → GivesValue (option_and_then expression_of said) old new false
bad_by None old mid new given = refl
bad_by (Some steps) old mid new given = absurd (let e = given.0 in cc)

-- a part that is no step
pub expression_bad : (words : List Choice) (text old mid new : List ℕ) → GivesValue (steps_bytes (steps_said words (parts text))) mid new false → GivesValue (expression_said words text) old new false
unfolding expression_said
expression_bad words text old mid new given = bad_by (steps_said words (parts text)) old mid new given

good_by : (said : Option (List ℕ)) (commas : ℕ) (old mid new end : List ℕ) → ((steps : List ℕ) → said ≡ Some steps → length steps ≡ commas + 1) → commas ≤ 15 → mid ≡ old ++ be16_bytes (commas + 1) → GivesValue (steps_bytes said) mid new true → end ≡ new ++ replicate (30 - 2 * commas) 0 → GivesValue (option_and_then expression_of said) old end true
good_by None commas old mid new end h few put given pad = absurd (cc)
good_by (Some steps) commas old mid new end h few put given pad =
    let count = h steps refl in
    let within : nat_le (length steps) 16 ≡ true = grind (arith, nat_tests) in
    let room : 30 - 2 * commas ≡ 32 - 2 * length steps = omega arith in
    rw within (
      refl,
      pad ∙ ap (λ (bytes : List ℕ). bytes ++ replicate (30 - 2 * commas) 0) (given.1 ∙ ap (λ (bytes : List ℕ). bytes ++ flat_map be16_bytes steps) put)
          ∙ ap (λ (n : ℕ). ((old ++ be16_bytes (commas + 1)) ++ flat_map be16_bytes steps) ++ replicate n 0) room
          ∙ ap (λ (n : ℕ). ((old ++ be16_bytes n) ++ flat_map be16_bytes steps) ++ replicate (32 - 2 * length steps) 0) (sym count)
          ∙ append_assoc (old ++ be16_bytes (length steps)) (flat_map be16_bytes steps) (replicate (32 - 2 * length steps) 0)
          ∙ append_assoc old (be16_bytes (length steps)) (flat_map be16_bytes steps ++ replicate (32 - 2 * length steps) 0),
    )

-- a whole expression
pub expression_good : (words : List Choice) (text : List ℕ) (commas : ℕ) (old mid new end : List ℕ) → commas ≡ count_by (λ b. b == 44) text → commas ≤ 15 → mid ≡ old ++ be16_bytes (commas + 1) → GivesValue (steps_bytes (steps_said words (parts text))) mid new true → end ≡ new ++ replicate (30 - 2 * commas) 0 → GivesValue (expression_said words text) old end true
unfolding expression_said
expression_good words text commas old mid new end count few put given pad =
    good_by (steps_said words (parts text)) commas old mid new end (λ steps e. steps_count words (parts text) steps e ∙ commas_parts text ∙ omega (arith, count)) few put given pad

-- others behind a step, where memory lasts
pub steps_after : (r : Result Bool AllocError) (words : List Choice) (part text rest : List ℕ) (n : ℕ) (old mid new : List ℕ) → parts text ≡ part ∷ parts rest → Some n ≡ choice_said 65535 words part → mid ≡ old ++ be16_bytes n → IfOk r (GivesValue (steps_bytes (steps_said words (parts rest))) mid new) → IfOk r (GivesValue (steps_bytes (steps_said words (parts text))) old new)
steps_after (Ok b) words part text rest n old mid new e is put given = steps_next words part text rest n old mid new b e is put given
steps_after (Err error) words part text rest n old mid new e is put given = tt

steps_zero : (bytes : List ℕ) → steps_at zero bytes ≡ []
unfolding steps_at
steps_zero bytes = refl

steps_suc : (n : ℕ) (bytes : List ℕ) → steps_at (suc n) bytes ≡ be16_at bytes 0 ∷ steps_at n (drop 2 bytes)
unfolding steps_at
steps_suc n bytes = refl

listed_nil : (led : Bool) → listed led [] ≡ []
unfolding listed
listed_nil led = refl

listed_cons : (led : Bool) (part : List ℕ) (more : List (List ℕ)) → listed led (part ∷ more) ≡ behind_comma led part ++ listed true more
unfolding listed
listed_cons led part more = refl

-- no step is left
pub no_steps_listed : (words : List Choice) (led : Bool) (n : ℕ) (bytes old : List ℕ) → n ≡ 0 → old ≡ old ++ listed led (map (choice_shown words) (steps_at n bytes))
no_steps_listed words led n bytes old e = rw (e, steps_zero bytes, listed_nil led) (sym (append-nil old))

-- one step more
pub step_listed : (r : Result (Unit {0}) AllocError) (words : List Choice) (led : Bool) (n m : ℕ) (bytes rest old mid new : List ℕ) → (n ≡ 0 → ⊥) → m ≡ n - 1 → rest ≡ drop 2 bytes → mid ≡ old ++ behind_comma led (choice_shown words (be16_at bytes 0))
    → OnOk r (new ≡ mid ++ listed true (map (choice_shown words) (steps_at m rest))) → OnOk r (new ≡ old ++ listed led (map (choice_shown words) (steps_at n bytes)))
step_listed (Ok done) words led n m bytes rest old mid new some one behind put given =
    let e : n ≡ suc m = omega arith in
    rw (e, steps_suc m bytes, listed_cons, ← append_assoc, ← put, ← behind) given
step_listed (Err error) words led n m bytes rest old mid new some one behind put given = tt
