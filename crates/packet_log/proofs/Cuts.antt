-- Where a sink's bytes are cut among the texts of frames.
use Rattle.std.proofs.Common.{◌≡◌, ◌<◌, ◌≤◌, ℕ, suc, ◌+◌, ◌-◌, Bool, true, false, cond, List, [], ◌∷◌, ◌++◌, length, take, get_or, refl, sym, ap, ◌∙◌, subst, arith, append-nil, append_assoc, length-append, inl, inr}
use Rattle.std.specs.Prelude.{nat_lt}
use Rattle.std.proofs.lemmas.Bool.Decides.{nat_tests, leb_tells}
use Rattle.std.proofs.lemmas.List.{take-append-le}
use Rattle.std.proofs.Math.Seq.{take-append-add}
use Rattle.fsw_outside.specs.Written.{AppendsPart}
use Rattle.packet_log.specs.Blocks.{late_in, ends_from, joined}
use Rattle.packet_log.proofs.Blocks.{late_one, late_none, taken_in}

pub ends_none : (start : ℕ) → ends_from start [] ≡ []
unfolding ends_from
ends_none start = refl

ends_one : (start : ℕ) (text : List ℕ) (texts : List (List ℕ)) → ends_from start (text ∷ texts) ≡ (start + length text) ∷ ends_from (start + length text) texts
unfolding ends_from
ends_one start text texts = refl

late_after : (taken end : ℕ) → taken < end → nat_lt taken end ≡ true
late_after taken end h = grind (arith, nat_tests)

late_counts : (taken end : ℕ) → taken < end → cond {A = ℕ} (nat_lt taken end) 1 0 ≡ 1
late_counts taken end h = ap (λ (b : Bool). cond {A = ℕ} b 1 0) (late_after taken end h)

taken_counts : (taken end : ℕ) → end ≤ taken → cond {A = ℕ} (nat_lt taken end) 1 0 ≡ 0
taken_counts taken end h = ap (λ (b : Bool). cond {A = ℕ} b 1 0) (taken_in end taken h)

-- all texts are late that begin behind the bytes that were taken
all_late : (texts : List (List ℕ)) (start taken : ℕ) → taken < start → late_in (ends_from start texts) taken ≡ length texts
all_late [] start taken h = ap (λ (es : List ℕ). late_in es taken) (ends_none start) ∙ late_none taken
all_late (text ∷ texts) start taken h =
    let rest : late_in (ends_from (start + length text) texts) taken ≡ length texts = all_late texts (start + length text) taken (omega arith) in
    ap (λ (es : List ℕ). late_in es taken) (ends_one start text texts)
    ∙ late_one (start + length text) taken (ends_from (start + length text) texts)
    ∙ ap (λ (b : Bool). cond b 1 0 + late_in (ends_from (start + length text) texts) taken) (late_after taken (start + length text) (omega arith))
    ∙ omega arith

late_few : (texts : List (List ℕ)) (start taken : ℕ) → late_in (ends_from start texts) taken ≤ length texts
late_few [] start taken = let e : late_in (ends_from start []) taken ≡ 0 = ap (λ (es : List ℕ). late_in es taken) (ends_none start) ∙ late_none taken in omega arith
late_few (text ∷ texts) start taken =
    let rest = late_few texts (start + length text) taken in
    let one : late_in (ends_from start (text ∷ texts)) taken ≡ cond (nat_lt taken (start + length text)) 1 0 + late_in (ends_from (start + length text) texts) taken =
    ap (λ (es : List ℕ). late_in es taken) (ends_one start text texts) ∙ late_one (start + length text) taken (ends_from (start + length text) texts) in
    let small = at_most_one (nat_lt taken (start + length text)) in
    omega arith
  where
    at_most_one : (b : Bool) → cond b 1 0 ≤ 1
    at_most_one true = omega arith
    at_most_one false = omega arith

late_first : (start taken : ℕ) (text : List ℕ) (texts : List (List ℕ)) → late_in (ends_from start (text ∷ texts)) (start + taken) ≡ cond (nat_lt (start + taken) (start + length text)) 1 0 + late_in (ends_from (start + length text) texts) (start + taken)
late_first start taken text texts =
    ap (λ (es : List ℕ). late_in es (start + taken)) (ends_one start text texts) ∙ late_one (start + length text) (start + taken) (ends_from (start + length text) texts)

-- the first text isn't whole
in_first : (text : List ℕ) (texts : List (List ℕ)) (begun : List ℕ) (start taken k : ℕ) → k + late_in (ends_from start (text ∷ texts)) (start + taken) ≡ length (text ∷ texts) → taken < length text
    → AppendsPart (get_or (text ∷ texts) k begun) (joined (take k (text ∷ texts))) (take taken (joined (text ∷ texts) ++ begun))
in_first text texts begun start taken k same part =
    let one = late_first start taken text texts in
    let late = late_counts (start + taken) (start + length text) (omega arith) in
    let rest : late_in (ends_from (start + length text) texts) (start + taken) ≡ length texts = all_late texts (start + length text) (start + taken) (omega arith) in
    let first : 0 ≡ k = omega arith in
    subst (λ (n : ℕ). AppendsPart (get_or (text ∷ texts) n begun) (joined (take n (text ∷ texts))) (take taken (joined (text ∷ texts) ++ begun))) first (record {
      count = taken;
      short = part;
      appended = ap (take taken) (append_assoc text (joined texts) begun) ∙ take-append-le taken text (joined texts ++ begun) (omega arith);
    })

-- the first text is whole, and the others are cut behind it
left_behind : (text : List ℕ) (texts : List (List ℕ)) (start taken k : ℕ) → k + late_in (ends_from start (text ∷ texts)) (start + taken) ≡ length (text ∷ texts) → length text ≤ taken
    → (1 ≤ k) × (k - 1 + late_in (ends_from (start + length text) texts) (start + length text + (taken - length text)) ≡ length texts)
left_behind text texts start taken k same whole =
    let one = late_first start taken text texts in
    let first = taken_counts (start + taken) (start + length text) (omega arith) in
    let few = late_few texts (start + length text) (start + taken) in
    let sum : start + taken ≡ start + length text + (taken - length text) = omega arith in
    let left : k - 1 + late_in (ends_from (start + length text) texts) (start + taken) ≡ length texts = omega arith in
    (omega arith, ap (λ (n : ℕ). k - 1 + late_in (ends_from (start + length text) texts) n) (sym sum) ∙ left)

short_behind : (text : List ℕ) (texts : List (List ℕ)) (begun : List ℕ) (taken : ℕ) → taken < length (joined (text ∷ texts)) + length begun → length text ≤ taken → taken - length text < length (joined texts) + length begun
short_behind text texts begun taken short whole =
    let long : length (joined (text ∷ texts)) ≡ length text + length (joined texts) = length-append text (joined texts) in
    omega arith

behind_first : (text : List ℕ) (texts : List (List ℕ)) (begun : List ℕ) (taken k : ℕ) → 1 ≤ k → length text ≤ taken
    → AppendsPart (get_or texts (k - 1) begun) (joined (take (k - 1) texts)) (take (taken - length text) (joined texts ++ begun))
    → AppendsPart (get_or (text ∷ texts) k begun) (joined (take k (text ∷ texts))) (take taken (joined (text ∷ texts) ++ begun))
behind_first text texts begun taken k some whole rest =
    let more : suc (k - 1) ≡ k = omega arith in
    let taken_is : taken ≡ length text + (taken - length text) = omega arith in
    subst (λ (n : ℕ). AppendsPart (get_or (text ∷ texts) n begun) (joined (take n (text ∷ texts))) (take taken (joined (text ∷ texts) ++ begun))) more (record {
      count = rest.count;
      short = rest.short;
      appended =
          ap (take taken) (append_assoc text (joined texts) begun)
          ∙ ap (λ (n : ℕ). take n (text ++ (joined texts ++ begun))) taken_is
          ∙ take-append-add text (joined texts ++ begun) (taken - length text)
          ∙ ap (λ (bytes : List ℕ). text ++ bytes) rest.appended
          ∙ sym (append_assoc text (joined (take (k - 1) texts)) (take rest.count (get_or texts (k - 1) begun)));
    })

-- what a sink took of texts that stand one behind another, the last of which isn't whole yet
pub cut_from : (texts : List (List ℕ)) (begun : List ℕ) (start taken k : ℕ) → taken < length (joined texts) + length begun → k + late_in (ends_from start texts) (start + taken) ≡ length texts
    → AppendsPart (get_or texts k begun) (joined (take k texts)) (take taken (joined texts ++ begun))
cut_from [] begun start taken k short same =
    let none : late_in (ends_from start []) (start + taken) ≡ 0 = ap (λ (es : List ℕ). late_in es (start + taken)) (ends_none start) ∙ late_none (start + taken) in
    let first : 0 ≡ k = omega arith in
    subst (λ (n : ℕ). AppendsPart (get_or [] n begun) (joined (take n [])) (take taken begun)) first (record { count = taken; short = omega arith; appended = refl })
cut_from (text ∷ texts) begun start taken k short same = elim (leb_tells (length text) taken) [
  | inl whole ↦
      let left = left_behind text texts start taken k same whole.1 in
      behind_first text texts begun taken k left.0 whole.1
      (cut_from texts begun (start + length text) (taken - length text) (k - 1) (short_behind text texts begun taken short whole.1) left.1)
  | inr part ↦ in_first text texts begun start taken k same part.1
]

pub cut_in_texts : (texts : List (List ℕ)) (begun : List ℕ) (taken : ℕ) → taken < length (joined texts) + length begun
    → AppendsPart (get_or texts (length texts - late_in (ends_from 0 texts) taken) begun) (joined (take (length texts - late_in (ends_from 0 texts) taken) texts)) (take taken (joined texts ++ begun))
cut_in_texts texts begun taken short =
    let few = late_few texts 0 taken in
    let here : 0 + taken ≡ taken = omega arith in
    cut_from texts begun 0 taken (length texts - late_in (ends_from 0 texts) taken) short
    (ap (λ (n : ℕ). length texts - late_in (ends_from 0 texts) taken + late_in (ends_from 0 texts) n) here ∙ omega (arith, few))

-- the ends of texts, and of one more
pub ends_more : (texts : List (List ℕ)) (start : ℕ) (text : List ℕ) → ends_from start (texts ++ text ∷ []) ≡ ends_from start texts ++ (start + length (joined (texts ++ text ∷ []))) ∷ []
ends_more [] start text =
    ends_one start text []
    ∙ ap (λ (es : List ℕ). (start + length text) ∷ es) (ends_none (start + length text))
    ∙ ap (λ (bytes : List ℕ). (start + length bytes) ∷ []) (sym (append-nil text))
    ∙ ap (λ (es : List ℕ). es ++ (start + length (joined (text ∷ []))) ∷ []) (sym (ends_none start))
ends_more (first ∷ texts) start text =
    let long : length (joined (first ∷ (texts ++ text ∷ []))) ≡ length first + length (joined (texts ++ text ∷ [])) = length-append first (joined (texts ++ text ∷ [])) in
    let same : start + length first + length (joined (texts ++ text ∷ [])) ≡ start + length (joined (first ∷ (texts ++ text ∷ []))) = omega arith in
    ends_one start first (texts ++ text ∷ [])
    ∙ ap (λ (es : List ℕ). (start + length first) ∷ es) (ends_more texts (start + length first) text ∙ ap (λ (n : ℕ). ends_from (start + length first) texts ++ n ∷ []) same)
    ∙ ap (λ (es : List ℕ). es ++ (start + length (joined (first ∷ (texts ++ text ∷ [])))) ∷ []) (sym (ends_one start first texts))
