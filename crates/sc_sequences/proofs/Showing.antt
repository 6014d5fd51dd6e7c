-- What housekeeping shows.
use Rattle.std.proofs.Common.{◌≡◌, ◌≢◌, ℕ, ◌+◌, ◌-◌, ◌%◌, ◌<◌, Bool, false, List, [], length, map, drop, get_or, set, Some, inl, inr, sym, ap, ◌∙◌, arith}
use Rattle.std.proofs.lemmas.Bool.{cases_eq}
use Rattle.std.proofs.lemmas.List.{get_or-set_same, get_or-set_other, get_or-map, get_or-drop, length-map, length-drop, ext_get_or}
use Rattle.sc_tables.specs.Commands.{TimedCommand, commands_in}
use Rattle.sc_sequences.specs.Sequences.{Sequence, waiting, at_place, running_ats}
use Rattle.sc_sequences.specs.Turns.{Sequences}
use Rattle.sc_sequences.specs.Housekeeping.{shown_ats, left_in, running_mask, enabled_mask, report_of}
use Rattle.sc_sequences.specs.declared.housekeeping.Report.{Report}
use Rattle.sc_sequences.specs.declared.housekeeping.Masks.{Masks}
use Rattle.sc_sequences.specs.Cursors.{cursor_in}
use Rattle.sc_sequences.specs.State.{CursorsStand}
use Rattle.sc_sequences.specs.declared.cursors.Cursor.{Cursor}
use Rattle.sc_sequences.proofs.Refusing.{running_runs, left_running}

-- flags of the relative sequences, one more
pub flags_more : (f : Sequence → Bool) (all : List Sequence) (bits : List Bool) (i : ℕ) (b : Bool) → i < length bits → ((k : ℕ) → k < i → get_or bits k false ≡ f (at_place all (k + 2))) → b ≡ f (at_place all (i + 2))
    → (k : ℕ) → k < i + 1 → get_or (set bits i b) k false ≡ f (at_place all (k + 2))
flags_more f all bits i b inside before here k below = elim (cases_eq i k) [
  | inl same ↦ ap (λ (j : ℕ). get_or (set bits i b) j false) (sym same) ∙ get_or-set_same bits i b false inside ∙ here ∙ ap (λ (j : ℕ). f (at_place all (j + 2))) same
  | inr other ↦ let apart : i ≢ k = other in get_or-set_other bits i k b false (λ back. other (sym back)) ∙ before k (omega arith)
]

-- and all of them
pub flags_are : (f : Sequence → Bool) (all : List Sequence) (bits : List Bool) → length all ≡ 66 → length bits ≡ 64 → ((k : ℕ) → k < 64 → get_or bits k false ≡ f (at_place all (k + 2))) → bits ≡ map f (drop 2 all)
flags_are f all bits whole long each =
    let behind = length-drop 2 all in
    let mapped = length-map (drop 2 all) f in
    ext_get_or false bits (map f (drop 2 all)) (omega arith) (λ k below. at_k k (let inside : k < 64 = omega arith in inside))
  where
    at_k : (k : ℕ) → k < 64 → get_or bits k false ≡ get_or (map f (drop 2 all)) k false
    at_k k inside =
        let behind = length-drop 2 all in
        let order : k + 2 ≡ 2 + k = omega arith in
        each k inside ∙ ap (λ (j : ℕ). f (at_place all j)) order ∙ ap f (sym (get_or-drop 2 all k (waiting [])))
        ∙ sym (get_or-map f (drop 2 all) k (waiting []) false (omega arith))

-- how many commands are left of the absolute sequence that runs
pub left_is_shown : (tables : List (List TimedCommand)) (all : List Sequence) (cursors : List Cursor) (place count : ℕ) → CursorsStand tables all cursors → place < 66 → running_ats all ≡ Some place → count ≡ length (commands_in tables place)
    → count - (cursor_in cursors place).at ≡ left_in all (running_ats all)
left_is_shown tables all cursors place count stood inside runs counted =
    ap (λ (n : ℕ). n - (cursor_in cursors place).at) counted
    ∙ sym (length-drop (cursor_in cursors place).at (commands_in tables place))
    ∙ ap length (left_running (commands_in tables place) (at_place all place) (cursor_in cursors place) (stood.each place inside) (running_runs all place runs))
    ∙ sym (ap (left_in all) runs)

-- the whole report
pub report_is : (s : Sequences) (ats left sent wrong : ℕ) (masks : Masks) → ats ≡ shown_ats (running_ats s.all) → left ≡ left_in s.all (running_ats s.all) → sent ≡ s.sent % 65536 → wrong ≡ s.wrong % 65536 → masks.running ≡ running_mask s.all → masks.enabled ≡ enabled_mask s.all
    → ◌≡◌ {A = Report} (record { ats = ats; left = left; sent = sent; wrong = wrong; masks = masks }) (report_of s)
unfolding report_of
report_is s ats left sent wrong masks ats_is left_is sent_is wrong_is running_is enabled_is =
    ap (λ (n : ℕ). let all : Report = record { ats = n; left = left; sent = sent; wrong = wrong; masks = masks } in all) ats_is
    ∙ ap (λ (n : ℕ). let all : Report = record { ats = shown_ats (running_ats s.all); left = n; sent = sent; wrong = wrong; masks = masks } in all) left_is
    ∙ ap (λ (n : ℕ). let all : Report = record { ats = shown_ats (running_ats s.all); left = left_in s.all (running_ats s.all); sent = n; wrong = wrong; masks = masks } in all) sent_is
    ∙ ap (λ (n : ℕ). let all : Report = record { ats = shown_ats (running_ats s.all); left = left_in s.all (running_ats s.all); sent = s.sent % 65536; wrong = n; masks = masks } in all) wrong_is
    ∙ ap (λ (m : Masks). let all : Report = record { ats = shown_ats (running_ats s.all); left = left_in s.all (running_ats s.all); sent = s.sent % 65536; wrong = s.wrong % 65536; masks = m } in all) same_masks
  where
    same_masks : ◌≡◌ {A = Masks} masks (record { running = running_mask s.all; enabled = enabled_mask s.all })
    same_masks =
        ap (λ (n : ℕ). let both : Masks = record { running = n; enabled = masks.enabled } in both) running_is
        ∙ ap (λ (n : ℕ). let both : Masks = record { running = running_mask s.all; enabled = n } in both) enabled_is
