use Rattle.std.proofs.Common.{◌≢◌, ◌∙◌}
use Rattle.csv.specs.declared.writer.QuoteStyle.TheVariants as style
use Rattle.ground_exports.proofs.csv_rows.row_bytes.Goals as goal

pub returns-in-Ok-into_inner : goal.returns-in-Ok-into_inner
returns-in-Ok-into_inner c =
    let from = c.from_writer-rows.ensures in
    let plain : c.from_writer-rows.result.cfg.style ≢ style.NonNumeric = rw (from.cfg, c.new.ensures) (λ e. cc e) in
    let h = c.in-Ok.ensures.bytes from.fields from.wrote plain in
    let text = rw (from.cfg, c.new.ensures, from.wtr, c.new-2.ensures.items, from.empty) at h in
    c.in-Ok-into_inner.ensures.ok ∙ text
