use Rattle.std.proofs.Common.{ℕ, List, ◌∙◌, ap, arith}
use Rattle.packet_forms.specs.Numbers.{be16_at}
use Rattle.telemetry.proofs.TelemetryLemmas.{good_is, header_read, content_is}
use Rattle.telemetry.proofs.reading.read_content.Goals as goal

pub read_row-requires : goal.read_row-requires
read_row-requires c = let good = good_is _ c.requires.good in omega (arith, good.few, c.requires.word)

pub packet_of-requires-clause-version : goal.packet_of-requires-clause-version
packet_of-requires-clause-version c = (good_is _ c.requires.good).version

pub be16-requires : goal.be16-requires
be16-requires c = rw c.deref.ensures.value (header_read _ _ _ _ _ _ (good_is _ c.requires.good).header c.requires.none c.in-Ok.ensures)

pub packet_of-requires-clause-content : goal.packet_of-requires-clause-content
packet_of-requires-clause-content c =
    let low = header_read _ _ _ _ _ _ (good_is _ c.requires.good).header c.requires.none c.in-Ok.ensures in
    let count = c.be16.ensures ∙ ap (λ (xs : List ℕ). be16_at xs 4) c.deref.ensures.value in
    rw c.deref-in-Ok.ensures.value (content_is _ low (omega (arith, c.len.ensures, c.if-len-gt-CONTENT_BYTES.false)) (omega (arith, count, c.if-be16-gt-MOST_COUNT.false)))
