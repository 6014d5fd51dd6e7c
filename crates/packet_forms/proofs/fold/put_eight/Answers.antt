use Rattle.std.proofs.Common.{◌≡◌, ◌+◌, ◌-◌, ◌++◌, ℕ, length, take, drop, ap, sym, ◌∙◌, arith, length-drop}
use Rattle.std.specs.Simd.Lanes.{put_chunk}
use Rattle.std.proofs.lemmas.List.{length-take-le}
use Rattle.std.proofs.lemmas.Simd.{put_chunk_whole, put_chunk_is}
use borrow.Rule.Slice.PartMut.{put_mid}
use Rattle.packet_forms.proofs.fold.put_eight.Goals as goal

pub returns : goal.returns
returns c =
    let at : ℕ = c.args.at in
    let sums = c.args.sums.now in
    let eight = c.args.eight in
    let size : at + 8 - at ≡ 8 = omega arith in
    let lanes : length eight ≡ 8 = c.fits-eight.0 in
    let behind : length (drop at sums) ≡ length sums - at = length-drop at sums in
    let part : length (take 8 (drop at sums)) ≡ 8 = length-take-le 8 (drop at sums) (omega (arith, behind, c.requires)) in
    ap (λ (n : ℕ). put_mid at n sums (put_chunk 0 (take n (drop at sums)) eight)) size
    ∙ ap (put_mid at 8 sums) (put_chunk_whole (take 8 (drop at sums)) eight (part ∙ sym lanes))
    ∙ ap (λ (n : ℕ). take at sums ++ (eight ++ drop n (drop at sums))) (sym lanes)
    ∙ sym (put_chunk_is at sums eight (omega (arith, lanes, c.requires)))
