-- What the feeding of a piece and the reading of the next one leave.
use Rattle.std.proofs.Common.{◌≡◌, ℕ, ◌+◌, ◌<◌, ◌≤◌, Bool, true, false, List, [], ◌∷◌, ◌++◌, length, take, drop, refl, sym, ◌∙◌, ap, subst, append_assoc, append-nil, length-append, length-drop, arith}
use Rattle.std.specs.Prelude.{◌==◌}
use Rattle.std.proofs.lemmas.Bool.Decides.{nat_tests}
use Rattle.std.proofs.lemmas.List.{take-append-drop, length-take-le}
use Rattle.rehearsal.specs.declared.text.Next.TheVariants as nexts
use Rattle.fsw_outside.specs.Files.{Content}
use Rattle.scenario.specs.declared.reader.Reader.{Reader}
use Rattle.scenario.specs.declared.item.Item.TheVariants as answers
use Rattle.scenario.specs.Texts.{Text, Given, Open, reading}
use Rattle.scenario.specs.Answers.{answer_at_end}
use Rattle.scenario.specs.TextLaws.{open_is_bounded}
use Rattle.rehearsal.proofs.Endings.{open_at_more}
use Rattle.scenario.specs.Standing.{Stands, fed, closed, left}
use Rattle.rehearsal.specs.Fed.{Fed}
use Rattle.rehearsal.specs.Files.{IsSameOpening}
use Rattle.rehearsal.specs.Text.{Holds, IsRead, IsFedOn, Gives, work_left}

-- nothing was fed yet
pub fed_none : (text : Text) (pending : List ℕ) → IsFedOn text pending text pending
fed_none text pending = record { bytes = refl; closed = refl }

-- some more of what is pending was fed
pub fed_on_again : (text now : Text) (pending between rest : List ℕ) (taken : ℕ) → rest ≡ drop taken between → IsFedOn text pending now between
    → IsFedOn text pending (fed now (take taken between)) rest
fed_on_again text now pending between rest taken is so = record {
  bytes =
      ap (λ (more : List ℕ). (now.bytes ++ take taken between) ++ more) is ∙ append_assoc now.bytes (take taken between) (drop taken between)
      ∙ ap (λ (bytes : List ℕ). now.bytes ++ bytes) (take-append-drop taken between) ∙ so.bytes;
  closed = so.closed;
}

-- less work is left once some of the pending bytes were fed
pub less_pending : (old new : Reader) (f g : Fed) (taken : ℕ) → 0 < taken → taken ≤ length f.pending
    → g ≡ record f { pending = drop taken f.pending } → left new ≡ left old + taken → work_left new g < work_left old f
unfolding work_left
less_pending old new f g taken some within is moved = rw (is, moved, length-drop taken f.pending) (omega arith)

-- less work is left once a piece was read
pub less_unread : (reader : Reader) (f g : Fed) → f.total ≤ 16777856 → f.pending ≡ [] → g.total ≡ f.total + length g.pending → length g.pending ≤ 4096
    → 0 < length g.pending → f.ended ≡ false → g.ended ≡ false → work_left reader g < work_left reader f
unfolding work_left
less_unread reader f g small empty total few some open_before open_now = rw (empty, total, open_before, open_now) (omega arith)

-- less work is left once the end was told
pub less_ended : (old new : Reader) (f g : Fed) → g.total ≡ f.total + length g.pending → g.pending ≡ [] → f.pending ≡ [] → f.ended ≡ false → g.ended ≡ true
    → left new ≡ left old → work_left new g < work_left old f
unfolding work_left
less_ended old new f g total none empty open_before ended moved = rw (total, none, empty, open_before, ended, moved) (omega arith)

-- a list that isn't empty
pub not_empty : (xs : List ℕ) → (xs ≡ [] → ⊥) → 0 < length xs
not_empty [] some = absurd (some refl)
not_empty (x ∷ xs) some = omega arith

-- the reader answered something, and stands for the same text
pub held : (old new : Reader) (f : Fed) (text : Text) (gave more : List Given) → Holds old f text gave → Stands new text more → Holds new f text more
held old new f text gave more h stands = record { stands = stands; closed = h.closed; nothing = h.nothing; total = h.total; few = h.few }

-- an answer doesn't raise the work that is left
pub less_after : (a b c : Reader) (f g : Fed) → left b ≤ left a → work_left c g < work_left b f → work_left c g < work_left a f
unfolding work_left
less_after a b c f g more less = omega (arith, more, less)

pub left_after : (first a b : Reader) (f g : Fed) → left b ≤ left a → work_left a g ≤ work_left first f → work_left b g ≤ work_left first f
unfolding work_left
left_after first a b f g more less = omega (arith, more, less)

-- few bytes were read of a text of which more is wanted
pub few_read : (reader : Reader) (f : Fed) (text : Text) (gave : List Given) → Holds reader f text gave → f.pending ≡ [] → text.closed ≡ false → answers.More ≡ answer_at_end (reading text).ending
    → f.total ≤ 16777856
few_read reader f text gave h none is_open more = by_closed text.closed text.bytes is_open (open_at_more (reading text).ending more) h.total
  where
    by_closed : (closed : Bool) (bytes : List ℕ) → closed ≡ false → (reading (record { bytes = bytes; closed = closed })).ending ≡ Open → f.total ≡ length bytes + length f.pending → f.total ≤ 16777856
    by_closed true bytes is_open ending total = cc
    by_closed false bytes is_open ending total =
        let few = open_is_bounded bytes ending in
        omega (arith, few, total, ap length none)

-- a list without length
pub empty_of : (xs : List ℕ) → length xs ≡ 0 → xs ≡ []
empty_of [] none = refl
empty_of (x ∷ xs) none = absurd (omega arith)

-- nothing is pending, by a test of its length
pub none_left : (pending piece : List ℕ) (test : Bool) → piece ≡ pending → test ≡ (length piece == 0) → test ≡ true → pending ≡ []
none_left pending piece test same is holds =
    let zero : (length piece == 0) ≡ true = sym is ∙ holds in
    let none : length piece ≡ 0 = grind (arith, nat_tests) in
    empty_of pending (ap length (sym same) ∙ none)

-- the shelf failed once all that it handed out was fed
pub failed_on : (reader : Reader) (f : Fed) (text now : Text) (gave : List Given) → Holds reader f now gave → now ≡ text → f.pending ≡ [] → text.closed ≡ false
    → gave ≡ (reading text).items → answers.More ≡ answer_at_end (reading text).ending → Gives nexts.Dry reader f now gave
failed_on reader f text now gave h same none is_open all more = (
  h,
  subst (λ (t : Text). gave ≡ (reading t).items) (sym same) all,
  subst (λ (t : Text). answers.More ≡ answer_at_end (reading t).ending) (sym same) more,
  ap (λ (t : Text). t.closed) same ∙ is_open,
  none,
)

-- the end was told, where nothing was pending
pub ended_on : (old new : Reader) (f g : Fed) (text : Text) (gave : List Given) → Holds old f text gave → f.pending ≡ [] → g.pending ≡ [] → g.total ≡ f.total + length g.pending
    → g.ended ≡ true → Stands new (closed text) gave → Holds new g (closed text) gave
ended_on old new f g text gave h empty none total ended stands = record {
  stands = stands;
  closed = sym ended;
  nothing = λ _. none;
  total = omega (arith, h.total, total, ap length empty, ap length none);
  few = omega (arith, ap length none);
}

-- a piece was read, where nothing was pending
pub filled : (reader : Reader) (f g : Fed) (text : Text) (gave : List Given) → Holds reader f text gave → f.pending ≡ [] → g.total ≡ f.total + length g.pending
    → f.ended ≡ false → g.ended ≡ false → length g.pending ≤ 4096 → Holds reader g text gave
filled reader f g text gave h empty total open_before open_now few = record {
  stands = h.stands;
  closed = h.closed ∙ open_before ∙ sym open_now;
  nothing = λ ended. cc;
  total = omega (arith, h.total, total, ap length empty);
  few = few;
}

-- what was read of the file with one piece more, where none was pending
pub read_filled : (text : Text) (closed : Bool) (pending : List ℕ) (start before after : Content) → IsSameOpening before after → before.rest ≡ pending ++ after.rest
    → (closed ≡ true → after.rest ≡ []) → IsRead text [] start before → IsRead (record { bytes = text.bytes; closed = closed }) pending start after
read_filled text closed pending start before after same parts ended read = record {
  same = record { files = same.files ∙ read.same.files; openings = same.openings ∙ read.same.openings; name = same.name ∙ read.same.name };
  parts = read.parts ∙ ap (λ (bytes : List ℕ). bytes ++ before.rest) (append-nil text.bytes) ∙ ap (λ (rest : List ℕ). text.bytes ++ rest) parts ∙ sym (append_assoc text.bytes pending after.rest);
  ended = ended;
}

-- some of what is pending was fed, and these items are given then
pub fed_on : (old new : Reader) (f g : Fed) (text : Text) (gave more : List Given) (taken : ℕ) → Holds old f text gave → text.closed ≡ false → taken ≤ length f.pending
    → Stands new (fed text (take taken f.pending)) more → g ≡ record f { pending = drop taken f.pending } → Holds new g (fed text (take taken f.pending)) more
fed_on old new f g text gave more taken h is_open within stands is = rw is (record {
  stands = stands;
  closed = h.closed;
  nothing = λ ended. cc;
  total = rw (length-append text.bytes (take taken f.pending), length-take-le taken f.pending within, length-drop taken f.pending) (omega (arith, h.total));
  few = rw (length-drop taken f.pending) (omega (arith, h.few));
})

-- a text of which bytes are pending isn't closed
pub open_with : (reader : Reader) (f : Fed) (text : Text) (gave : List Given) → Holds reader f text gave → 0 < length f.pending → text.closed ≡ false
open_with reader f text gave h some = by_ended f.ended refl where
  by_ended : (b : Bool) → f.ended ≡ b → text.closed ≡ false
  by_ended false e = h.closed ∙ e
  by_ended true e = absurd (let none = ap length (h.nothing e) in omega (arith, some, none))

-- no more work is left once a line of the pending bytes was taken
pub less_taken : (old new : Reader) (f g : Fed) (taken : ℕ) → taken ≤ length f.pending → g ≡ record f { pending = drop taken f.pending } → left new ≡ left old → work_left new g ≤ work_left old f
unfolding work_left
less_taken old new f g taken within is same = rw (is, same, length-drop taken f.pending) (omega arith)

-- no more work is left where nothing was taken
pub less_kept : (old new : Reader) (f g : Fed) → g ≡ f → left new ≡ left old → work_left new g ≤ work_left old f
unfolding work_left
less_kept old new f g is same = rw (is, same) (omega arith)
