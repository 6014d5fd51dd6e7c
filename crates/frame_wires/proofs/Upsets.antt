-- Upsets, written one after another.
use Rattle.std.proofs.Common.{◌≡◌, ℕ, ◌+◌, ◌<◌, List, length, take, fold, get_or, sym, ◌∙◌, ap}
use Rattle.std.proofs.lemmas.List.{get_or_default}
use Rattle.histories.proofs.Fronts.{fold_front}
use Rattle.memory_window.specs.Memory.{Memory}
use Rattle.scenario.specs.declared.frame.Upset.{Upset}
use Rattle.frame_wires.specs.Sending.{upset_by}

-- one upset more was written
pub upset_front : (start before now : Memory) (upsets : List Upset) (i : ℕ) (d : Upset) → i < length upsets → before ≡ fold upset_by start (take i upsets)
    → now ≡ upset_by before (get_or upsets i d) → now ≡ fold upset_by start (take (i + 1) upsets)
upset_front start before now upsets i d within earlier one =
    one ∙ ap (λ (m : Memory). upset_by m (get_or upsets i d)) earlier
    ∙ sym (fold_front upset_by start upsets i (get_or upsets i d) within (get_or_default upsets i d (get_or upsets i d) within))
