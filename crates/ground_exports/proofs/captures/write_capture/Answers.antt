use Rattle.std.proofs.Common.{◌++◌, ◌∙◌, ap}
use Rattle.pcap_form.specs.Captures.{capture_header}
use Rattle.ground_exports.proofs.RecordLemmas.{capture_written}
use Rattle.ground_exports.proofs.captures.write_capture.Goals as goal

pub returns : goal.returns
returns g c =
    capture_written c.make.result c.args.epoch _ _ _ _ c.as_slice.result.now
    (c.as_slice.ensures.value ∙ c.in_ok-put_header.ensures ∙ ap (λ xs. xs ++ capture_header) c.new-header.ensures.items) c.in_ok-write_made.ensures c.make.ensures
