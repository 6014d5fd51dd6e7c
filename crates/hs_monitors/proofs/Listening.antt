-- The entries that an event message needn't be compared with.
use Rattle.std.proofs.Common.{◌≡◌, ◌≢◌, ◌⊎◌, ℕ, zero, suc, ◌<◌, ◌≤◌, Bool, false, ◌&&◌, List, [], ◌∷◌, ◌++◌, length, take, get_or, inl, inr, Option, Some, None, refl, sym, ap, subst, ◌∙◌, arith}
use Rattle.std.specs.Prelude.{◌==◌}
use Rattle.std.specs.List.{flat_map}
use Rattle.packet_forms.specs.Numbers.{be16_at}
use Rattle.hs_tables.specs.Events.{entry_of}
use Rattle.hs_tables.specs.declared.events.EventRow.{EventRow}
use Rattle.hs_tables.specs.declared.events.EventEntry.{EventEntry}
use Rattle.hs_actions.specs.Happenings.{Happening}
use Rattle.hs_monitors.specs.Heads.{head_of, slot_stretch}
use Rattle.hs_monitors.specs.Events.{row_at, is_matched, event_sender, sender_where, event_attempt, SendersStand}
use Rattle.hs_monitors.specs.declared.heads.Heads.{Heads}
use Rattle.hs_monitors.proofs.Naming.{others_differ}
use Rattle.hs_monitors.proofs.Performing.{event_none, event_other}

-- rows the first of which give nothing
quiet_front : (f : EventRow → List Happening) (rows : List EventRow) (i : ℕ) → ((j : ℕ) → j < i → f (row_at rows j) ≡ []) → i ≤ length rows → flat_map f (take i rows) ≡ []
quiet_front f [] zero quiet within = refl
quiet_front f [] (suc i) quiet within = refl
quiet_front f (row ∷ rows) zero quiet within = refl
quiet_front f (row ∷ rows) (suc i) quiet within = rw (quiet 0 (omega arith)) (quiet_front f rows i (λ j below. quiet (suc j) (omega arith)) (omega arith))

-- and those the last of which do
quiet_rest : (f : EventRow → List Happening) (rows : List EventRow) (i : ℕ) → ((j : ℕ) → i ≤ j → j < length rows → f (row_at rows j) ≡ []) → flat_map f (take i rows) ≡ flat_map f rows
quiet_rest f [] zero quiet = refl
quiet_rest f [] (suc i) quiet = refl
quiet_rest f (row ∷ rows) zero quiet = rw (quiet 0 (omega arith) (omega arith)) (quiet_rest f rows zero (λ j past within. quiet (suc j) (omega arith) (omega arith)))
quiet_rest f (row ∷ rows) (suc i) quiet = ap (λ (more : List Happening). f row ++ more) (quiet_rest f rows i (λ j past within. quiet (suc j) (omega arith) (omega arith)))

-- the places in which no entry has the name of an event's sender
module _ (rows : List EventRow) (senders : Heads) (p : List ℕ) (stood : SendersStand rows senders) (k : ℕ) where
  -- an entry whose name has another head
  quiet_at : (j : ℕ) → ((e : EventEntry) → entry_of (row_at rows j) ≡ Some e → head_of (event_sender p) ≢ head_of e.name) → event_attempt k p (row_at rows j) ≡ []
  unfolding is_matched
  quiet_at j apart = by_entry (entry_of (row_at rows j)) refl
    where
      other : (e : EventEntry) → entry_of (row_at rows j) ≡ Some e → is_matched p e ≡ false
      other e is = ap (λ (b : Bool). b && (be16_at p 32 == e.id)) (others_differ head_of (event_sender p) e.name (apart e is))

      by_entry : (found : Option EventEntry) → entry_of (row_at rows j) ≡ found → event_attempt k p (row_at rows j) ≡ []
      by_entry None is = event_none (row_at rows j) None p k (sym is) refl
      by_entry (Some e) is = event_other (row_at rows j) (Some e) e p (is_matched p e) k (sym is) refl refl (other e is)

  -- by the heads that are noted
  pub unheard_at : (j : ℕ) → j < 16 → get_or senders.heads j 0 ≢ head_of (event_sender p) → event_attempt k p (row_at rows j) ≡ []
  unheard_at j within apart = quiet_at j (λ e is same. apart ((stood.each j e.name within (ap sender_where is)).head ∙ sym same))

  -- by the places of the sender's slot
  outside : (j : ℕ) → j < 16 → (j < (slot_stretch senders (head_of (event_sender p))).from) ⊎ ((slot_stretch senders (head_of (event_sender p))).end ≤ j) → event_attempt k p (row_at rows j) ≡ []
  outside j within out = quiet_at j (λ e is same.
      let noted = stood.each j e.name within (ap sender_where is) in
      let low = subst (λ (h : ℕ). (slot_stretch senders h).from ≤ j) (sym same) noted.from in
      let high = subst (λ (h : ℕ). j < (slot_stretch senders h).end) (sym same) noted.end in
      elim out [
        | inl before ↦ omega (arith, before, low)
        | inr behind ↦ omega (arith, behind, high)
      ])

  -- before the first place
  pub unheard_before : (i : ℕ) → i ≤ length rows → i ≤ 16 → i ≤ (slot_stretch senders (head_of (event_sender p))).from → flat_map (event_attempt k p) (take i rows) ≡ []
  unheard_before i inside few first = quiet_front (event_attempt k p) rows i (λ j below. outside j (omega arith) (inl (omega arith))) inside

  -- and behind the last
  pub unheard_behind : (i : ℕ) → length rows ≡ 16 → ((j : ℕ) → i ≤ j → j < 16 → (slot_stretch senders (head_of (event_sender p))).end ≤ j) → flat_map (event_attempt k p) (take i rows) ≡ flat_map (event_attempt k p) rows
  unheard_behind i whole last = quiet_rest (event_attempt k p) rows i (λ j past within. let inside : j < 16 = omega (arith, within, whole) in outside j inside (inr (last j past inside)))
