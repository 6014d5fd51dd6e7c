use Rattle.std.proofs.Common.{◌≡◌, ◌≤◌, ◌+◌, ◌++◌, ℕ, List, length, take, refl, ap, sym, ◌∙◌, arith}
use Rattle.scenario.specs.Drill.{text_left}
use Rattle.scenario.proofs.DrillLemmas.{filled_more}
use Rattle.scenario.proofs.drill.put_frames.Goals as goal

pub frames-init : goal.frames-init
frames-init c = record { moved = refl; size = refl; few = omega arith; frames = omega arith; some = λ h. h }

pub frames-preserved : goal.frames-preserved
frames-preserved c =
    let before = c.frames.invariant in
    let left = c.make_lines.new.left in
    let next : List ℕ = text_left left.frames left.x in
    let piece = c.bytes.result.now in
    let long : length piece ≡ c.len-filled.result = ap length c.bytes.ensures.value ∙ sym c.len-filled.ensures.value in
    let fits : c.frames.filled + length piece ≤ length c.frames.buf = omega (arith, c.if-buf-filled-lt-LINE_ROOM.false, c.bytes.ensures.few, before.few) in
    let made : text_left c.frames.left.frames c.frames.left.x ≡ piece ++ next = c.make_lines.ensures.text ∙ ap (λ (xs : List ℕ). xs ++ next) (sym c.bytes.ensures.value) in
    let whole : length c.place.new.bytes ≡ length c.frames.buf = c.place.auto.bytes in
    record {
      moved =
          filled_more (text_left c.args.left.now.frames c.args.left.now.x) c.frames.buf c.place.new.bytes piece (text_left c.frames.left.frames c.frames.left.x) next c.frames.filled fits before.moved made c.place.ensures
          ∙ ap (λ (n : ℕ). take (c.frames.filled + n) c.place.new.bytes ++ next) long;
      size = whole ∙ before.size;
      few = omega (arith, fits, long, whole);
      frames = omega (arith, before.frames, c.make_lines.ensures.fewer);
      some = λ _. omega (arith, c.make_lines.ensures.some, c.len-filled.ensures.value);
    }
