-- Lemmas on entries that are shown.
use Rattle.std.proofs.Common.{◌≡◌, ℕ, zero, suc, ◌+◌, ◌-◌, ◌<◌, List, [], ◌∷◌, ◌++◌, take, drop, refl, ap, ◌∙◌, arith, append_assoc, Bool, true, false}
use Rattle.std.specs.Prelude.{codes, Result, Ok, Err, OnOk, ◌==◌}
use Rattle.std.specs.List.{list_all}
use Rattle.row_forms.specs.Rows.{is_row}
use Rattle.row_forms.proofs.TextLemmas.{and_both}
use Rattle.table_texts.specs.Fronts.{packet_size, is_command_at}
use Rattle.std.specs.declared.alloc.AllocError.{AllocError}
use Rattle.telecommands.specs.declared.command.Command.{Command}
use Rattle.table_texts.specs.declared.layout.Layout.{Layout}
use Rattle.table_texts.specs.Shown.{can_show, entry_shown, entries_shown}

pub shown_end : (cs : List Command) (l : Layout) (n k : ℕ) (bytes : List ℕ) → n ≡ 0 → entries_shown cs l n k bytes ≡ codes "end" ++ 10 ∷ []
unfolding entries_shown
shown_end cs l n k bytes e = rw e refl

pub shown_suc : (cs : List Command) (l : Layout) (m k : ℕ) (bytes : List ℕ) → entries_shown cs l (suc m) k bytes ≡ entry_shown cs l k (take l.size bytes) ++ entries_shown cs l m (k + 1) (drop l.size bytes)
unfolding entries_shown
shown_suc cs l m k bytes = refl

pub shown_more : (cs : List Command) (l : Layout) (n k : ℕ) (bytes : List ℕ) → 0 < n → entries_shown cs l n k bytes ≡ entry_shown cs l k (take l.size bytes) ++ entries_shown cs l (n - 1) (k + 1) (drop l.size bytes)
shown_more cs l zero k bytes some = absurd (omega (arith, some))
shown_more cs l (suc m) k bytes some =
    let e : m ≡ suc m - 1 = omega arith in
    rw (← e) (shown_suc cs l m k bytes)

-- what was appended twice
pub entry_put : (old mid new a b : List ℕ) (r : Result (Unit {0}) AllocError) → mid ≡ old ++ a → OnOk r (new ≡ mid ++ b) → OnOk r (new ≡ old ++ (a ++ b))
entry_put old mid new a b (Ok x) e h = h ∙ ap (λ (xs : List ℕ). xs ++ b) e ∙ append_assoc old a b
entry_put old mid new a b (Err x) e h = tt

-- ---- what words say of an entry

shows_row_by : (l : Layout) (e : List ℕ) (b : Bool) → (l.area == 0) ≡ b → b ≡ true → can_show l e ≡ true → is_row l.fields.now e ≡ true
unfolding can_show
shows_row_by l e true f g h = rw f at h
shows_row_by l e false f g h = absurd (cc)

pub shows_row : (l : Layout) (e : List ℕ) → (l.area == 0) ≡ true → can_show l e ≡ true → is_row l.fields.now e ≡ true
shows_row l e none shows = shows_row_by l e (l.area == 0) refl none shows

-- fields, a telecommand, and zero bytes
pub record ShowsCommand (l : Layout) (e : List ℕ) : Type 0 where
  pub command : is_command_at l.fields.now (l.size - l.area) e ≡ true
  pub zeros : list_all (λ b. b == 0) (drop (l.size - l.area + packet_size (drop (l.size - l.area) e)) e) ≡ true

shows_command_by : (l : Layout) (e : List ℕ) (b : Bool) → (l.area == 0) ≡ b → b ≡ false → can_show l e ≡ true → ShowsCommand l e
unfolding can_show
shows_command_by l e true f g h = absurd (cc)
shows_command_by l e false f g h =
    let k = rw f at h in
    let both = and_both (is_command_at l.fields.now (l.size - l.area) e) (list_all (λ b. b == 0) (drop (l.size - l.area + packet_size (drop (l.size - l.area) e)) e)) k in
    record { command = both.0; zeros = both.1 }

pub shows_command : (l : Layout) (e : List ℕ) → (l.area == 0) ≡ false → can_show l e ≡ true → ShowsCommand l e
shows_command l e some shows = shows_command_by l e (l.area == 0) refl some shows
