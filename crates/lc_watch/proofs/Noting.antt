-- Where the newest packets are, at one more packet, and what stands behind them.
use Rattle.std.proofs.Common.{◌≡◌, ◌≤◌, ◌<◌, ℕ, ◌+◌, ◌%◌, suc, Bool, true, false, cond, ◌||◌, List, [], ◌∷◌, ◌++◌, length, drop, get_or, set, replicate, None, refl, sym, ap, ◌∙◌, inl, inr, arith, eq-eqb, ne_eqb}
use Rattle.std.specs.Prelude.{filter_map}
use Rattle.std.specs.List.{list_any}
use Rattle.std.proofs.lemmas.Bool.{cases_eq}
use Rattle.std.proofs.lemmas.List.{get_or-replicate, get_or-set_same, get_or-set_other, length-set, drop-drop}
use Rattle.histories.specs.Words.{last_place}
use Rattle.histories.proofs.Lasts.{any_push, last_place_more}
use Rattle.packet_forms.specs.Packets.{message_id}
use Rattle.lc_watch.specs.Outcomes.{reading_in}
use Rattle.lc_watch.specs.Newest.{has_slot, up_to_newest, AreNoted}
use Rattle.lc_watch.specs.declared.watchpoints.WatchRow.{WatchRow}
use Rattle.lc_watch.proofs.Both.{neither}

-- one more packet
up_to_more : (slot : ℕ) (packets : List (List ℕ)) (p : List ℕ) → up_to_newest slot (packets ++ p ∷ []) ≡ cond (has_slot slot p) (length packets + 1) (up_to_newest slot packets)
unfolding up_to_newest
up_to_more slot packets p =
    rw (any_push (has_slot slot) packets p, last_place_more (has_slot slot) packets p) (by_case (list_any (has_slot slot) packets) (has_slot slot p))
  where
    by_case : (a b : Bool) → ◌≡◌ {A = ℕ} (cond (a || b) (suc (cond b (length packets) (last_place (has_slot slot) packets))) 0) (cond b (length packets + 1) (cond a (suc (last_place (has_slot slot) packets)) 0))
    by_case true true = omega arith
    by_case true false = refl
    by_case false true = omega arith
    by_case false false = refl

-- before the first packet
pub noted_none : AreNoted [] (replicate 64 0)
unfolding up_to_newest
noted_none = record { long = refl; each = λ slot within. get_or-replicate 64 slot 0 0 within }

-- one more packet is noted
pub noted_more : (packets : List (List ℕ)) (places : List ℕ) (p : List ℕ) (at : ℕ) → at ≡ message_id p % 64 → at < 64 → AreNoted packets places
    → AreNoted (packets ++ p ∷ []) (set places at (length packets + 1))
noted_more packets places p at is within held =
    let long = held.long in
    record {
      long = length-set places at (length packets + 1) ∙ long;
      each = λ slot inside. elim (cases_eq at slot) [
        | inl same ↦
            ap (λ (k : ℕ). get_or (set places at (length packets + 1)) k 0) (sym same)
            ∙ get_or-set_same places at (length packets + 1) 0 (omega arith)
            ∙ sym (up_to_more slot packets p ∙ ap (λ (b : Bool). cond b (length packets + 1) (up_to_newest slot packets)) (eq-eqb (message_id p % 64) slot (sym is ∙ same)))
        | inr other ↦
            get_or-set_other places at slot (length packets + 1) 0 (λ back. other (sym back))
            ∙ held.each slot inside
            ∙ sym (up_to_more slot packets p ∙ ap (λ (b : Bool). cond b (length packets + 1) (up_to_newest slot packets)) (ne_eqb (message_id p % 64) slot (λ same. other (is ∙ same))))
      ];
    }

-- no more than there are
pub up_to_within : (slot : ℕ) (packets : List (List ℕ)) → up_to_newest slot packets ≤ length packets
unfolding up_to_newest last_place
up_to_within slot [] = omega arith
up_to_within slot (p ∷ ps) = by_case (has_slot slot p) (list_any (has_slot slot) ps) (up_to_within slot ps)
  where
    by_case : (a b : Bool) → cond b (suc (last_place (has_slot slot) ps)) 0 ≤ length ps → cond (a || b) (suc (cond b (suc (last_place (has_slot slot) ps)) 0)) 0 ≤ suc (length ps)
    by_case true true within = omega arith
    by_case true false within = omega arith
    by_case false true within = omega arith
    by_case false false within = omega arith

module _ (row : WatchRow) where
  -- a packet whose id hasn't the slot of the watchpoint's has no reading
  other_reads : (p : List ℕ) → has_slot (row.id % 64) p ≡ false → reading_in row p ≡ None
  other_reads p other = elim (cases_eq (message_id p) row.id) [
    | inl same ↦ let is = eq-eqb (message_id p % 64) (row.id % 64) (ap (λ (id : ℕ). id % 64) same) in cc
    | inr apart ↦ rw (ne_eqb (message_id p) row.id apart) refl
  ]

  -- so where there are only such nothing is read
  none_read : (packets : List (List ℕ)) → list_any (has_slot (row.id % 64)) packets ≡ false → filter_map (reading_in row) packets ≡ []
  none_read [] none = refl
  none_read (p ∷ ps) none =
      let both = neither (has_slot (row.id % 64) p) (list_any (has_slot (row.id % 64)) ps) none in
      rw (other_reads p both.0) (none_read ps both.1)

  -- nor is anything behind the newest
  pub none_behind : (packets : List (List ℕ)) → filter_map (reading_in row) (drop (up_to_newest (row.id % 64) packets) packets) ≡ []
  unfolding up_to_newest last_place
  none_behind [] = refl
  none_behind (p ∷ ps) = by_case (has_slot (row.id % 64) p) (list_any (has_slot (row.id % 64)) ps) refl refl (none_behind ps)
    where
      place : ℕ
      place = last_place (has_slot (row.id % 64)) ps

      by_case : (a b : Bool) → has_slot (row.id % 64) p ≡ a → list_any (has_slot (row.id % 64)) ps ≡ b → filter_map (reading_in row) (drop (cond b (suc place) 0) ps) ≡ []
          → filter_map (reading_in row) (drop (cond (a || b) (suc (cond b (suc place) 0)) 0) (p ∷ ps)) ≡ []
      by_case true true this rest none = none
      by_case true false this rest none = none_read ps rest
      by_case false true this rest none = none
      by_case false false this rest none = rw (other_reads p this) (none_read ps rest)

  -- where some packets stand before those that are noted
  pub none_behind_noted : (before : ℕ) (packets : List (List ℕ)) (count : ℕ) → count ≡ before + up_to_newest (row.id % 64) (drop before packets) → filter_map (reading_in row) (drop count packets) ≡ []
  none_behind_noted before packets count is =
      ap (λ (rest : List (List ℕ)). filter_map (reading_in row) rest) (ap (λ (from : ℕ). drop from packets) is ∙ sym (drop-drop (up_to_newest (row.id % 64) (drop before packets)) before packets))
      ∙ none_behind (drop before packets)
