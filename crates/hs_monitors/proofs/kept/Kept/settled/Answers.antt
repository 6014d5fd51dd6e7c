use Rattle.std.proofs.Common.{◌≡◌, ℕ, sym, subst, ◌∙◌, arith}
use Rattle.std.proofs.lemmas.List.{length-set}
use Rattle.hs_monitors.specs.Entries.{EntryStands, watched_at, later}
use Rattle.hs_monitors.specs.declared.watches.Watched.{Watched}
use Rattle.hs_monitors.proofs.Passing.{set_more}
use Rattle.hs_monitors.proofs.kept.Kept.settled.Goals as goal

pub loop-place-preserved : goal.loop-place-preserved
loop-place-preserved c =
    let held = c.loop-place.invariant in
    let self = c.args.self.now in
    record {
      long = length-set c.loop-place.watched c.loop-place.place c.later.result ∙ held.long;
      each =
          set_more (λ (k : ℕ) (w : Watched). w ≡ later self.passed (watched_at self.watched k)) c.loop-place.watched c.loop-place.place c.later.result (omega arith) held.each c.later.ensures;
    }

pub returns : goal.returns
returns c = λ rows checks stood. record {
  each = λ k e within is. subst (λ (w : Watched). EntryStands e checks w) (sym (c.loop-place.invariant.each k (omega arith))) (stood.each k e within is);
}
