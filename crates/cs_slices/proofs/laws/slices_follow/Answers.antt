use Rattle.std.proofs.Common.{refl, ◌≡◌, ◌<◌, ◌≤◌, ℕ, true, false, length, subst, sym, ap, ◌∙◌}
use Rattle.memory_window.specs.Memory.{Memory}
use Rattle.cs_slices.specs.Tables.{entry_in}
use Rattle.cs_slices.specs.Happenings.{Slice, slices_among, since_slice}
use Rattle.std.specs.List.{list_any}
use Rattle.cs_slices.specs.Orders.{takes_part, breaks_off}
use Rattle.cs_slices.specs.Slices.{current_place, offset_at, slice_from}
use Rattle.cs_slices.specs.declared.segments.Segment.{Segment}
use Rattle.cs_slices.proofs.Following.{next_is, found_part, short_slice, offset_follows, offset_unbroken}
use Rattle.cs_slices.proofs.laws.slices_follow.Goals as goal

place_same : (image : Memory) (e : Segment) (place from : ℕ) → (slice_from image e place from).place ≡ place
unfolding slice_from
place_same image e place from = refl

from_same : (image : Memory) (e : Segment) (place from : ℕ) → (slice_from image e place from).from ≡ from
unfolding slice_from
from_same image e place from = refl

pub returns-clause-part : goal.returns-clause-part
returns-clause-part c = λ tables happened image s is.
    let next = next_is tables happened image s is in
    let found = found_part (takes_part tables happened) (current_place (slices_among happened)) next.0 next.1 in
    let same : next.0 ≡ s.place = sym (place_same image (entry_in tables next.0) next.0 (offset_at next.0 (slices_among happened) (since_slice happened))) ∙ ap (λ (x : Slice). x.place) next.2 in
    (subst (λ (n : ℕ). takes_part tables happened n ≡ true) same found.0, subst (λ (n : ℕ). n < 32) same found.1)

pub returns-clause-short : goal.returns-clause-short
returns-clause-short c = λ tables happened image s is.
    let next = next_is tables happened image s is in
    subst (λ (x : Slice). length x.bytes ≤ 1024) next.2 (short_slice image (entry_in tables next.0) next.0 (offset_at next.0 (slices_among happened) (since_slice happened)))

pub returns-clause-follow : goal.returns-clause-follow
returns-clause-follow c = λ tables happened image s is later.
    let next = next_is tables happened image s is in
    let same : next.0 ≡ s.place = sym (place_same image (entry_in tables next.0) next.0 (offset_at next.0 (slices_among happened) (since_slice happened))) ∙ ap (λ (x : Slice). x.place) next.2 in
    let begins : offset_at next.0 (slices_among happened) (since_slice happened) ≡ s.from = sym (from_same image (entry_in tables next.0) next.0 (offset_at next.0 (slices_among happened) (since_slice happened))) ∙ ap (λ (x : Slice). x.from) next.2 in
    let found = offset_follows next.0 (slices_among happened) (since_slice happened) (λ zero. later (sym begins ∙ zero)) in
    (found.0, found.1, found.2, found.3 ∙ same, found.4 ∙ begins, found.5)

pub returns-clause-unbroken : goal.returns-clause-unbroken
returns-clause-unbroken c = λ tables happened image s is later.
    let next = next_is tables happened image s is in
    let same : next.0 ≡ s.place = sym (place_same image (entry_in tables next.0) next.0 (offset_at next.0 (slices_among happened) (since_slice happened))) ∙ ap (λ (x : Slice). x.place) next.2 in
    let begins : offset_at next.0 (slices_among happened) (since_slice happened) ≡ s.from = sym (from_same image (entry_in tables next.0) next.0 (offset_at next.0 (slices_among happened) (since_slice happened))) ∙ ap (λ (x : Slice). x.from) next.2 in
    subst (λ (n : ℕ). list_any (breaks_off n) (since_slice happened) ≡ false) same (offset_unbroken next.0 (slices_among happened) (since_slice happened) (λ zero. later (sym begins ∙ zero)))
