use Rattle.std.proofs.Common.{◌≡◌, ◌+◌, ◌*◌, ◌/◌, ◌-◌, ◌∙◌, ℕ, length, take, drop, ap, sym, refl, arith}
use Rattle.std.proofs.Math.Seq.{take-add}
use Rattle.fsw_outside.specs.Tally.{line_ends}
use Rattle.packet_log.proofs.LineEnds.{ends_both}
use Rattle.packet_log.proofs.line_ends.lines_in_blocks.Goals as goal

pub loop-k-init : goal.loop-k-init
loop-k-init c = record { value = refl; few = omega arith }

pub loop-k-preserved : goal.loop-k-preserved
loop-k-preserved c =
    let bytes = c.args.bytes.now in
    let at : ℕ = 32 * c.loop-k.k in
    let size : 32 * c.loop-k.k + 32 - 32 * c.loop-k.k ≡ 32 = omega arith in
    let next : at + 32 ≡ 32 * (c.loop-k.k + 1) = omega arith in
    record {
      value =
          ap (λ (n : ℕ). n + c.lines_in_block-count.result) c.loop-k.invariant.value
          ∙ ap (λ (n : ℕ). line_ends (take at bytes) + n) (c.lines_in_block-count.ensures.value ∙ ap (λ (n : ℕ). line_ends (take n (drop at bytes))) size)
          ∙ sym (ends_both (take at bytes) (take 32 (drop at bytes)))
          ∙ ap line_ends (sym (take-add at 32 bytes) ∙ ap (λ (n : ℕ). take n bytes) next);
      few = omega (arith, c.loop-k.invariant.few, c.lines_in_block-count.ensures.few);
    }

pub returns : goal.returns
returns c =
    let whole : 32 * c.loop-k.k ≡ length c.args.bytes.now / 32 * 32 = omega (arith, c.loop-k-test.false) in
    record {
      value = c.loop-k.invariant.value ∙ ap (λ (n : ℕ). line_ends (take n c.args.bytes.now)) whole;
      few = omega (arith, c.loop-k.invariant.few, whole);
    }
