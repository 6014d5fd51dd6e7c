-- What the entry that a row is says of the row.
use Rattle.std.proofs.Common.{◌≡◌, ℕ, Bool, true, false, cond, ◌&&◌, Option, Some, None, refl, sym, ap, ◌∙◌}
use Rattle.std.specs.Prelude.{is_some, option_map}
use Rattle.hs_tables.specs.Actions.{is_used, entry_of}
use Rattle.hs_tables.specs.declared.actions.ActRow.{ActRow}
use Rattle.hs_tables.specs.declared.actions.ActEntry.{ActEntry}
use Rattle.hs_actions.specs.Outcomes.{is_whole}

none_of : {N E : Type 0} (used : Bool) (packet : Option N) (make : N → E) → cond used (option_map make packet) None ≡ None → (used && is_some packet) ≡ false
none_of true (Some n) make none = cc
none_of true None make none = refl
none_of false packet make none = refl

some_of : {N E : Type 0} (used : Bool) (packet : Option N) (make : N → E) (e : E) → cond used (option_map make packet) None ≡ Some e → (used && is_some packet) ≡ true
some_of true (Some n) make e some = refl
some_of true None make e some = cc
some_of false packet make e some = cc

same_of : {N E : Type 0} (used : Bool) (packet : Option N) (make : N → E) (f : E → ℕ) (c : ℕ) (e : E) → ((n : N) → f (make n) ≡ c) → cond used (option_map make packet) None ≡ Some e → f e ≡ c
same_of {N} {E} true (Some n) make f c e each some = ap (λ (o : Option E). elim o [ None ↦ c | Some x ↦ f x ]) (sym some) ∙ each n
same_of true None make f c e each some = cc
same_of false packet make f c e each some = cc

-- there is none
pub row_unused : (act : ActRow) (found : Option ActEntry) → found ≡ entry_of act → found ≡ None → is_whole act ≡ false
row_unused act found is none = none_of (is_used act) act.packet _ (sym is ∙ none)

-- there is one
pub row_whole : (act : ActRow) (found : Option ActEntry) (entry : ActEntry) → found ≡ entry_of act → found ≡ Some entry → is_whole act ≡ true
row_whole act found entry is some = some_of (is_used act) act.packet _ entry (sym is ∙ some)

pub row_cooldown : (act : ActRow) (found : Option ActEntry) (entry : ActEntry) → found ≡ entry_of act → found ≡ Some entry → entry.cooldown ≡ act.cooldown
row_cooldown act found entry is some = same_of (is_used act) act.packet _ (λ (e : ActEntry). e.cooldown) act.cooldown entry (λ n. refl) (sym is ∙ some)
