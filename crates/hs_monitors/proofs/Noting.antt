-- Names that are noted, one place after another.
use Rattle.std.proofs.Common.{◌≡◌, ◌≢◌, ℕ, ◌+◌, ◌<◌, ◌≤◌, ◌%◌, List, length, set, inl, inr, Option, Some, None, sym, ap, subst, ◌∙◌, arith}
use Rattle.std.proofs.lemmas.Bool.{cases_eq}
use Rattle.std.proofs.lemmas.List.{get_or-set_same, get_or-set_other, length-set}
use Rattle.hs_monitors.specs.Heads.{head_of, stretch_at, IsHeaded, AreHeaded}
use Rattle.hs_monitors.specs.declared.heads.Stretch.{Stretch}
use Rattle.hs_monitors.specs.declared.heads.Heads.{Heads}

abbrev no_stretch : Stretch
no_stretch = record { from = 0; end = 0 }

abbrev pub noted_in : List ℕ → List Stretch → Heads
noted_in heads stretches = record { heads = heads; stretches = stretches }

-- no place
pub noted_none : (named : ℕ → Option (List ℕ)) (heads : Heads) → length heads.heads ≡ 32 → length heads.stretches ≡ 251 → AreHeaded named 0 heads
noted_none named heads long wide = record { long = (long, wide); each = λ k name below is. absurd (omega arith) }

-- a place without a name
pub noted_unnamed : (named : ℕ → Option (List ℕ)) (place : ℕ) (heads : Heads) → named place ≡ None → AreHeaded named place heads → AreHeaded named (place + 1) heads
noted_unnamed named place heads none stood = record {
  long = stood.long;
  each = λ k name below is. elim (cases_eq k place) [
    | inl same ↦ absurd (apart name (sym (sym (ap named same) ∙ is) ∙ none))
    | inr other ↦
        let other_place : k ≢ place = other in
        stood.each k name (omega arith) is
  ];
}
  where
    apart : (name : List ℕ) → ◌≡◌ {A = Option (List ℕ)} (Some name) None → ⊥
    apart name e = cc

-- one with a name, by the places that its slot has then
module _ (named : ℕ → Option (List ℕ)) (place : ℕ) (name : List ℕ) (old : Heads) (is : named place ≡ Some name) (below : place < 32) (slot : ℕ) (slot_is : slot ≡ head_of name % 251) (within : slot < 251)
    (stretch : Stretch) (from : stretch.from ≤ place) (end : place < stretch.end) (others : (k : ℕ) → (stretch_at old.stretches slot).from ≤ k → k < (stretch_at old.stretches slot).end → (stretch.from ≤ k) × (k < stretch.end))
    (stood : AreHeaded named place old) where
  stretches : List Stretch
  stretches = set old.stretches slot stretch

  in_slot : (other : ℕ) → other ≡ slot → stretch_at stretches other ≡ stretch
  unfolding stretches
  in_slot other same = ap (stretch_at (set old.stretches slot stretch)) same ∙ get_or-set_same old.stretches slot stretch no_stretch (let wide = stood.long.1 in omega arith)

  beside : (other : ℕ) → other ≢ slot → stretch_at stretches other ≡ stretch_at old.stretches other
  unfolding stretches
  beside other apart = get_or-set_other old.stretches slot other stretch no_stretch apart

  -- one of the names that were noted
  earlier : (k : ℕ) (known : List ℕ) → k ≢ place → IsHeaded old k known → IsHeaded (noted_in (set old.heads place (head_of name)) stretches) k known
  earlier k known apart noted = record {
    head = get_or-set_other old.heads place k (head_of name) 0 apart ∙ noted.head;
    from = (places (head_of known % 251) noted.from noted.end).0;
    end = (places (head_of known % 251) noted.from noted.end).1;
  }
    where
      places : (at : ℕ) → (stretch_at old.stretches at).from ≤ k → k < (stretch_at old.stretches at).end → ((stretch_at stretches at).from ≤ k) × (k < (stretch_at stretches at).end)
      places at low high = elim (cases_eq at slot) [
        | inl same ↦
            subst (λ (s : Stretch). (s.from ≤ k) × (k < s.end)) (sym (in_slot at same))
            (others k (subst (λ (s : ℕ). (stretch_at old.stretches s).from ≤ k) same low) (subst (λ (s : ℕ). k < (stretch_at old.stretches s).end) same high))
        | inr other ↦ subst (λ (s : Stretch). (s.from ≤ k) × (k < s.end)) (sym (beside at other)) (low, high)
      ]

  -- this one
  here : IsHeaded (noted_in (set old.heads place (head_of name)) stretches) place name
  here =
      let same = in_slot (head_of name % 251) (sym slot_is) in
      record {
        head = get_or-set_same old.heads place (head_of name) 0 (let long = stood.long.0 in omega arith);
        from = subst (λ (s : Stretch). s.from ≤ place) (sym same) from;
        end = subst (λ (s : Stretch). place < s.end) (sym same) end;
      }

  pub noted_more : AreHeaded named (place + 1) (noted_in (set old.heads place (head_of name)) (set old.stretches slot stretch))
  unfolding stretches
  noted_more = record {
    long = (length-set old.heads place (head_of name) ∙ stood.long.0, length-set old.stretches slot stretch ∙ stood.long.1);
    each = λ k known before known_is. elim (cases_eq k place) [
      | inl same ↦
          subst (λ (n : List ℕ). IsHeaded (noted_in (set old.heads place (head_of name)) (set old.stretches slot stretch)) k n) (named_once known (sym (sym (ap named same) ∙ known_is) ∙ is))
          (subst (λ (j : ℕ). IsHeaded (noted_in (set old.heads place (head_of name)) (set old.stretches slot stretch)) j name) (sym same) here)
      | inr other ↦
          let apart : k ≢ place = other in
          earlier k known other (stood.each k known (omega arith) known_is)
    ];
  }
    where
      named_once : (known : List ℕ) → ◌≡◌ {A = Option (List ℕ)} (Some known) (Some name) → name ≡ known
      named_once known e = cc
