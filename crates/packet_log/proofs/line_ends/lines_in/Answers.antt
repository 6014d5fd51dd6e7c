use Rattle.std.proofs.Common.{◌+◌, ◌*◌, ◌/◌, ◌∙◌, ℕ, length, take, drop, ap, sym}
use Rattle.std.proofs.lemmas.List.{take-append-drop, take_rest}
use Rattle.fsw_outside.specs.Tally.{line_ends}
use Rattle.packet_log.proofs.LineEnds.{ends_both}
use Rattle.packet_log.proofs.line_ends.lines_in.Goals as goal

pub returns : goal.returns
returns c =
    let bytes = c.args.bytes.now in
    let whole : ℕ = length bytes / 32 * 32 in
    ap (λ (n : ℕ). n + c.lines_in_few.result) c.lines_in_blocks.ensures.value
    ∙ ap (λ (n : ℕ). line_ends (take whole bytes) + n) (c.lines_in_few.ensures.value ∙ ap line_ends (take_rest bytes whole))
    ∙ sym (ends_both (take whole bytes) (drop whole bytes))
    ∙ ap line_ends (take-append-drop whole bytes)
