-- Lemmas on two logs that are compared frame by frame.
use Rattle.std.proofs.Common.{◌≡◌, ℕ, Bool, true, false, ◌&&◌, List, Option, Some, None, Result, Ok, Err, refl, ap, sym, ◌∙◌, subst, take, drop}
use Rattle.std.specs.Prelude.{IfOk, OnOk, MatchResult, IsErrAnd, IsSome}
use Rattle.log_lines.specs.declared.line.LogLine.{LogLine}
use Rattle.ground_logs.specs.Making.{lines_of, is_log}
use Rattle.ground_logs.specs.Coming.{GivesLine, GivesNone}
use Rattle.ground_differences.specs.declared.frame_source.FrameSource.{FrameSource}
use Rattle.ground_differences.specs.Frames.{frame_count, next_frame, HasLeft, ReadsFrame}
use Rattle.ground_differences.specs.Same.{uncounted_items, AreSameLines}
use Rattle.ground_differences.specs.Compared.{IsNoneWhere, ComparesOn, ComparesAll, IsFoundOf}
use Rattle.ground_differences.proofs.SameLemmas.{same_by_frame}

-- ---- results whose errors are mapped

-- what holds where a result is good holds where it is good with its error mapped
pub good_mapped : {T E D : Type 0} (P : T → Type 0) (result : Result T E) (mapped : Result T D) (value : T) (Q : E → D → Type 0)
    → MatchResult result (λ x. mapped ≡ Ok x) (λ error. IsErrAnd mapped (Q error)) → mapped ≡ Ok value → IfOk result P → P value
good_mapped P (Ok x) mapped value Q h is holds = let same : x ≡ value = cc in subst P same holds
good_mapped P (Err error) (Ok x) value Q h is holds = absurd h
good_mapped P (Err error) (Err other) value Q h is holds = let wrong : ⊥ = cc in absurd wrong

pub holds_mapped : {T E D : Type 0} {P R : Type 0} (result : Result T E) (mapped : Result T D) (Q : E → D → Type 0)
    → MatchResult result (λ x. mapped ≡ Ok x) (λ error. IsErrAnd mapped (Q error)) → (P → R) → OnOk result P → OnOk mapped R
holds_mapped (Ok x) (Ok y) Q h goes holds = goes holds
holds_mapped (Ok x) (Err other) Q h goes holds = tt
holds_mapped (Err error) (Ok x) Q h goes holds = absurd h
holds_mapped (Err error) (Err other) Q h goes holds = tt

-- both of two facts hold, of how the first was told
pub both_yes : (first one other last both : Bool) → first ≡ one → first ≡ true → last ≡ other → both ≡ last → both ≡ (one && other)
both_yes first true other last both is holds last_is both_is = both_is ∙ last_is
both_yes first false other last both is holds last_is both_is = let wrong : ⊥ = cc in absurd wrong

pub both_no : (first one other both : Bool) → first ≡ one → first ≡ false → both ≡ false → both ≡ (one && other)
both_no first true other both is fails both_is = let wrong : ⊥ = cc in absurd wrong
both_no first false other both is fails both_is = both_is

-- ---- a frame that is told

-- a frame that differs was told
pub none_differs : (before begun told after : Option ℕ) (same : Type 0) → IsSome begun → told ≡ begun → after ≡ told → (same → ⊥) → IsNoneWhere before same after
none_differs before None told after same found told_is after_is differs = let wrong : ⊥ = cc in absurd wrong
none_differs before (Some frame) told after same found told_is after_is differs =
    (λ none. let wrong : ⊥ = cc in absurd wrong, λ both. absurd (differs both.1))

-- ---- frames

-- a frame of both was read and told
pub compares_frame : {L E : Type 0} (remaining : L → Option (List ℕ)) (ones others new_ones new_others : FrameSource L E) (frame : ℕ) (before after : Option ℕ) (one_lines other_lines : List LogLine)
    → ((lines : List LogLine) (whole : Bool) → HasLeft remaining ones lines whole → ReadsFrame remaining new_ones frame lines whole)
    → ((lines : List LogLine) (whole : Bool) → HasLeft remaining others lines whole → ReadsFrame remaining new_others frame lines whole)
    → one_lines ≡ new_ones.lines.items → other_lines ≡ new_others.lines.items
    → IsNoneWhere before (uncounted_items one_lines ≡ uncounted_items other_lines) after
    → ComparesOn remaining ones others before new_ones new_others after
compares_frame remaining ones others new_ones new_others frame before after one_lines other_lines reads reads_other one_is other_is found = record {
  on = λ one other one_whole other_whole h k.
      let a = reads one one_whole h in
      let b = reads_other other other_whole k in
      let first : uncounted_items one_lines ≡ uncounted_items (take (frame_count frame one) one) = ap uncounted_items (one_is ∙ a.read) in
      let second : uncounted_items other_lines ≡ uncounted_items (take (frame_count frame other) other) = ap uncounted_items (other_is ∙ b.read) in
      let same = same_by_frame frame one other in
      record {
        one = drop (frame_count frame one) one;
        other = drop (frame_count frame other) other;
        one_left = a.left;
        other_left = b.left;
        found = (
          λ h. let was = found.0 h.0 in (was.0, same.0 (sym first ∙ was.1 ∙ second, h.1)),
          λ h. let parts = same.1 h.1 in (found.1 (h.0, first ∙ parts.0 ∙ sym second), parts.1),
        );
      };
}

-- nothing was compared yet
pub compares_none : {L E : Type 0} (remaining : L → Option (List ℕ)) (ones others : FrameSource L E) (first : Option ℕ) → ComparesOn remaining ones others first ones others first
compares_none remaining ones others first = record {
  on = λ one other one_whole other_whole h k. record { one = one; other = other; one_left = h; other_left = k; found = (λ s. s, λ s. s) };
}

-- more was compared
pub compares_more : {L E : Type 0} (remaining : L → Option (List ℕ)) (ones others mid_ones mid_others new_ones new_others : FrameSource L E) (before mid after : Option ℕ)
    → ComparesOn remaining ones others before mid_ones mid_others mid → ComparesOn remaining mid_ones mid_others mid new_ones new_others after
    → ComparesOn remaining ones others before new_ones new_others after
compares_more remaining ones others mid_ones mid_others new_ones new_others before mid after first second = record {
  on = λ one other one_whole other_whole h k.
      let a = first.on one other one_whole other_whole h k in
      let b = second.on a.one a.other one_whole other_whole a.one_left a.other_left in
      record {
        one = b.one;
        other = b.other;
        one_left = b.one_left;
        other_left = b.other_left;
        found = (λ s. a.found.0 (b.found.0 s), λ s. b.found.1 (a.found.1 s));
      };
}

at_end : {L E : Type 0} (remaining : L → Option (List ℕ)) (log : FrameSource L E) (lines : List LogLine) (whole : Bool) → log.next ≡ None → HasLeft remaining log lines whole
    → GivesNone log.source lines whole
at_end remaining log lines whole next h = subst (λ (o : Option LogLine). GivesLine remaining log.source lines whole o) next h

no_frame : (one other : Option LogLine) → next_frame one other ≡ None → (one ≡ None) × (other ≡ None)
no_frame None None h = (refl, refl)
no_frame None (Some line) h = let wrong : ⊥ = cc in absurd wrong
no_frame (Some line) None h = let wrong : ⊥ = cc in absurd wrong
no_frame (Some line) (Some next) h = let wrong : ⊥ = cc in absurd wrong

-- no frame is left of both
pub compares_all : {L E : Type 0} (remaining : L → Option (List ℕ)) (ones others new_ones new_others : FrameSource L E) (before after : Option ℕ) (one_next other_next : Option LogLine)
    → one_next ≡ new_ones.next → other_next ≡ new_others.next → next_frame one_next other_next ≡ None
    → ComparesOn remaining ones others before new_ones new_others after → ComparesAll remaining ones others before new_ones new_others after
compares_all remaining ones others new_ones new_others before after one_next other_next one_is other_is none_next on = record {
  all = λ one other one_whole other_whole h k.
      let ends = no_frame one_next other_next none_next in
      let a = on.on one other one_whole other_whole h k in
      let first = at_end remaining new_ones a.one one_whole (sym one_is ∙ ends.0) a.one_left in
      let second = at_end remaining new_others a.other other_whole (sym other_is ∙ ends.1) a.other_left in
      let none : AreSameLines a.one a.other = rw (first.none, second.none) refl in
      record {
        one = first.all;
        other = second.all;
        found = (λ s. a.found.0 (s, none), λ s. (a.found.1 s).0);
      };
}

-- two logs were compared from their beginnings
pub found_of : {L E : Type 0} (remaining : L → Option (List ℕ)) (ones others new_ones new_others : FrameSource L E) (before after : Option ℕ) (text text_other : List ℕ) (whole : Bool)
    → HasLeft remaining ones (lines_of text) (is_log text) → HasLeft remaining others (lines_of text_other) (is_log text_other) → before ≡ None
    → ComparesAll remaining ones others before new_ones new_others after → whole ≡ (new_ones.source.is_whole && new_others.source.is_whole)
    → IsFoundOf text text_other whole after
found_of remaining ones others new_ones new_others before after text text_other whole h k none compares both =
    let all = compares.all (lines_of text) (lines_of text_other) (is_log text) (is_log text_other) h k in
    record {
      both = both ∙ ap (λ (b : Bool). b && new_others.source.is_whole) all.one ∙ ap (λ (b : Bool). is_log text && b) all.other;
      same = (λ s. (all.found.0 s).1, λ s. all.found.1 (none, s));
    }
