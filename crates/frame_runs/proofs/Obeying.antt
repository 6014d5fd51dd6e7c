-- Items that a crowd obeys in their order.
use Rattle.std.proofs.Common.{◌≡◌, Bool, true, false, if◌then◌else◌, ℕ, ◌+◌, ◌<◌, List, [], length, take, fold, get_or, sym, ◌∙◌, ap}
use Rattle.std.proofs.lemmas.List.Sums.{fold-append}
use Rattle.std.specs.Borrow.{Bor}
use Rattle.histories.proofs.Fronts.{fold_front, flat_map_front}
use Rattle.bus_pipes.specs.declared.names.Out.{Out}
use Rattle.subjects.specs.Plans.{Simulated}
use Rattle.subjects.specs.Crowds.{all_restarted}
use Rattle.frame_wires.specs.Sending.{shown}
use Rattle.frame_runs.specs.Crowds.{obeying, behind_items}

-- one item more was obeyed
pub obeyed_front : (start before now : List Simulated) (items : List Out) (i : ℕ) (item : Out) → i < length items → item ≡ get_or items i item → before ≡ fold obeying start (take i items)
    → now ≡ obeying before item → now ≡ fold obeying start (take (i + 1) items)
obeyed_front start before now items i item within is earlier one = one ∙ ap (λ (subjects : List Simulated). obeying subjects item) earlier ∙ sym (fold_front obeying start items i item within is)

-- one list more was
pub obeyed_lists : (start before now : List Simulated) (lists : List (Bor (List Out))) (i : ℕ) (list : Bor (List Out)) → i < length lists → list ≡ get_or lists i list
    → before ≡ fold obeying start (shown (take i lists)) → now ≡ fold obeying before list.now → now ≡ fold obeying start (shown (take (i + 1) lists))
obeyed_lists start before now lists i list within is earlier one =
    one ∙ ap (λ (subjects : List Simulated). fold obeying subjects list.now) earlier
    ∙ sym (ap (fold obeying start) (flat_map_front (λ (l : Bor (List Out)). l.now) lists i list within is) ∙ fold-append obeying start (shown (take i lists)) list.now)

-- all items of a frame were, and then a processor reset, where one was asked for
pub obeyed_reset : (resets : Bool) (items : List Out) (start left now : List Simulated) → resets ≡ true → left ≡ fold obeying start items → now ≡ all_restarted left → now ≡ behind_items resets items start
unfolding behind_items
obeyed_reset resets items start left now asked obeyed restarted =
    restarted ∙ ap all_restarted obeyed ∙ ap (λ (r : Bool). if r then all_restarted (fold obeying start items) else fold obeying start items) (sym asked)

pub obeyed_alone : (resets : Bool) (items : List Out) (start now : List Simulated) → resets ≡ false → now ≡ fold obeying start items → now ≡ behind_items resets items start
unfolding behind_items
obeyed_alone resets items start now none obeyed = obeyed ∙ ap (λ (r : Bool). if r then all_restarted (fold obeying start items) else fold obeying start items) (sym none)

-- nothing was given, and no reset asked for
pub obeyed_nothing : (resets : Bool) (items : List Out) (start : List Simulated) → resets ≡ false → items ≡ [] → start ≡ behind_items resets items start
obeyed_nothing resets items start none empty = obeyed_alone resets items start start none (sym (ap (fold obeying start) empty))
