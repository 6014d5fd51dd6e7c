use Rattle.std.proofs.Common.{ℕ, List, ◌++◌, ◌∙◌, ap}
use Rattle.telemetry.proofs.TelemetryLemmas.{shown_is, shown_put, bytes_put}
use Rattle.telemetry.proofs.showing.show_telemetry.Goals as goal

pub show_row-requires : goal.show_row-requires
show_row-requires c = rw (c.bytes-in-Some.ensures.value, c.content_of-content.ensures) (shown_is c.args.packet.now c.in-Some.row c.in-Some.ensures.shows).row

pub returns-in_ok-extend_from_slice-in-Some : goal.returns-in_ok-extend_from_slice-in-Some
returns-in_ok-extend_from_slice-in-Some c = shown_put c.show_row.result c.args.rows.now c.args.packet.now c.in-Some.row c.bytes-in-Some.result.now c.args.out.now.items c.extend_from_slice.new.self.items c.show_row.new.out.items c.in-Some.ensures.value (c.bytes-in-Some.ensures.value ∙ c.content_of-content.ensures) (c.in_ok-extend_from_slice-in-Some.ensures.items ∙ ap (λ (xs : List ℕ). c.args.out.now.items ++ xs) c.as_bytes.ensures.value) c.show_row.ensures

pub returns-in_ok-extend_from_slice-in-None : goal.returns-in_ok-extend_from_slice-in-None
returns-in_ok-extend_from_slice-in-None c = bytes_put c.push_hex.result c.args.rows.now c.args.packet.now c.bytes-in-None.result.now c.args.out.now.items c.extend_from_slice-in-None.new.self.items c.push_hex.new.out.items c.in-None.ensures.value c.bytes-in-None.ensures.value c.in_ok-extend_from_slice-in-None.ensures.items c.push_hex.ensures
