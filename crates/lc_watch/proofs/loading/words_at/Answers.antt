use Rattle.std.proofs.Common.{◌≡◌, ◌<◌, ◌≤◌, ℕ, length, map, sym, ap, ◌∙◌, arith}
use Rattle.std.specs.List.{range_with_len}
use Rattle.std.proofs.lemmas.List.{length-set, take_more_set, take_all}
use Rattle.std.proofs.lemmas.List.FromFn.{map-range_with_len_more}
use Rattle.lc_watch.specs.Expressions.{word_at, words_at}
use Rattle.lc_watch.proofs.loading.words_at.Goals as goal

pub loop-k-preserved : goal.loop-k-preserved
loop-k-preserved c =
    let held = c.loop-k.invariant in
    let within : c.loop-k.k < length c.loop-k.words = omega (arith, held.whole) in
    record {
      whole = length-set c.loop-k.words c.loop-k.k c.of.result ∙ held.whole;
      read = take_more_set c.loop-k.words c.loop-k.k c.of.result within
          ∙ rw (held.read, c.of.ensures, c.be16.ensures) (sym (map-range_with_len_more (word_at c.args.payload.now c.args.from) 0 c.loop-k.k c.loop-k.k (omega arith)));
    }

pub returns : goal.returns
unfolding words_at
returns c =
    let all : c.loop-k.k ≡ 16 = omega arith in
    let whole : length c.loop-k.words ≤ c.loop-k.k = omega (arith, c.loop-k.invariant.whole) in
    sym (take_all c.loop-k.k c.loop-k.words whole) ∙ c.loop-k.invariant.read ∙ ap (λ (n : ℕ). map (word_at c.args.payload.now c.args.from) (range_with_len 0 n)) all
