-- What the laws of texts say of frames, by the items that a reader gave.
use Rattle.std.proofs.Common.{◌≡◌, ℕ, ◌<◌, ◌≤◌, true, List, [], ◌∷◌, ◌++◌, length, sym, ◌∙◌, arith, length-append, slice_index_or, suc, zero}
use Rattle.std.specs.List.{AllByRecursion}
use Rattle.memory_window.specs.declared.regions.Region.{Region}
use Rattle.memory_window.specs.Regions.{is_mapped}
use Rattle.scenario.specs.declared.reader.Reader.{Reader}
use Rattle.scenario.specs.declared.frame.Upset.{Upset}
use Rattle.scenario.specs.FrameLists.{Frame}
use Rattle.scenario.specs.Texts.{Text, Given, Head, Whole, IsGoodFrame, AreGood}
use Rattle.scenario.specs.Standing.{Stands, is_finished}
use Rattle.scenario.specs.TextLaws.{given_are_good, closed_is}
use Rattle.frame_exec.specs.Standing.{CanRun}
use Rattle.rehearsal.specs.Fed.{Fed}
use Rattle.rehearsal.specs.Text.{Holds}
use Rattle.rehearsal.specs.Outcome.{frames_of, setup_of}

-- what holds of each element, by its place
all_of : {A : Type 0} (P : A → Type 0) (xs : List A) → AllByRecursion P xs → (k : ℕ) (d : A) → k < length xs → P (slice_index_or xs k d)
all_of P [] all k d within = absurd (omega arith)
all_of P (x ∷ xs) all zero d within = all.0
all_of P (x ∷ xs) all (suc k) d within = all_of P xs all.1 k d (omega arith)

-- no header stands among frames
head_among : (regions : List Region) (frames : List Given) (epoch : ℕ) (others : List Region) → AllByRecursion (IsGoodFrame regions) (frames ++ Head epoch others ∷ []) → ⊥
head_among regions [] epoch others all = all.0
head_among regions (frame ∷ frames) epoch others all = head_among regions frames epoch others all.1

-- a header that is given is the first item
pub no_later_head : (r : Reader) (t : Text) (gave : List Given) (epoch : ℕ) (regions : List Region) → Stands r t (gave ++ Head epoch regions ∷ []) → 0 < length gave → ⊥
no_later_head r t gave epoch regions stands some = by_first gave (given_are_good r t (gave ++ Head epoch regions ∷ []) stands) some
  where
    by_first : (xs : List Given) → AreGood (xs ++ Head epoch regions ∷ []) → 0 < length xs → ⊥
    by_first [] good some = omega arith
    by_first (Head e rs ∷ frames) good some = head_among rs frames epoch regions good.3
    by_first (Whole frame ∷ more) good some = good

-- a frame isn't the first item
pub no_first_frame : (r : Reader) (t : Text) (f : Frame) → Stands r t (Whole f ∷ []) → ⊥
no_first_frame r t f stands = given_are_good r t (Whole f ∷ []) stands

-- at most as many frames as items
few_among : (items : List Given) → length (frames_of items) ≤ length items
unfolding frames_of
few_among [] = omega arith
few_among (Head epoch regions ∷ items) = let few = few_among items in omega (arith, few)
few_among (Whole frame ∷ items) = let few = few_among items in omega (arith, few)

-- the last of good frames
last_good : (regions : List Region) (frames : List Given) (f : Frame) → AllByRecursion (IsGoodFrame regions) (frames ++ Whole f ∷ []) → IsGoodFrame regions (Whole f)
last_good regions [] f all = all.0
last_good regions (frame ∷ frames) f all = last_good regions frames f all.1

-- at most 100,000 frames are given
pub few_frames : (r : Reader) (t : Text) (gave : List Given) → Stands r t gave → length (frames_of gave) ≤ 100000
unfolding frames_of
few_frames r t gave stands = by_first gave (given_are_good r t gave stands)
  where
    by_first : (xs : List Given) → AreGood xs → length (frames_of xs) ≤ 100000
    by_first [] good = omega arith
    by_first (Head epoch regions ∷ frames) good = let few = few_among frames in omega (arith, few, good.2)
    by_first (Whole frame ∷ more) good = absurd good

-- a frame that is given can be run behind those before it
pub can_run : (files : List (List ℕ)) (r : Reader) (t : Text) (gave : List Given) (f : Frame) → Stands r t (gave ++ Whole f ∷ []) → CanRun (setup_of files gave) (frames_of gave) f
unfolding frames_of setup_of
can_run files r t gave f stands = by_first gave (given_are_good r t (gave ++ Whole f ∷ []) stands)
  where
    by_first : (xs : List Given) → AreGood (xs ++ Whole f ∷ []) → CanRun (setup_of files xs) (frames_of xs) f
    by_first [] good = absurd good
    by_first (Head epoch regions ∷ frames) good =
        let few = few_among frames in
        let more = length-append frames (Whole f ∷ []) in
        record {
          time = omega (arith, few, more, good.0, good.2);
          upsets = all_of (λ (u : Upset). is_mapped regions u.at ≡ true) f.upsets (last_good regions frames f good.3).1;
        }
    by_first (Whole frame ∷ more) good = absurd good

-- whether the reader was told of the end, by what was read
pub ended_is : (r : Reader) (f : Fed) (t : Text) (gave : List Given) → Holds r f t gave → is_finished r ≡ f.ended
ended_is r f t gave h = sym (closed_is r t gave h.stands) ∙ h.closed
