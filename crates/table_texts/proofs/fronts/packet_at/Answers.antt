use Rattle.std.proofs.Common.{ℕ, List, ap, sym, ◌∙◌, arith}
use Rattle.packet_forms.specs.Faults.{fault_of}
use Rattle.packet_forms.specs.Numbers.{be16_at}
use Rattle.row_forms.specs.Rows.{is_row}
use Rattle.table_texts.proofs.PayloadLemmas.{at_short, at_row, at_long, at_fault, at_packet, packet_is}
use Rattle.table_texts.proofs.fronts.packet_at.Goals as goal

pub overflow_add-size : goal.overflow_add-size
overflow_add-size c = omega arith

pub returns-then-bytes-size-clause-packet : goal.returns-then-bytes-size-clause-packet
returns-then-bytes-size-clause-packet c = at_short _ _ _ c.if-bytes-size.true

pub returns-then-not-is_row-clause-packet : goal.returns-then-not-is_row-clause-packet
returns-then-not-is_row-clause-packet c = at_row _ _ _ (ap (is_row c.args.fields.now) (sym c.split_at.ensures.front) ∙ sym c.is_row.ensures ∙ c.if-not-is_row.true)

pub returns-then-long-rest-clause-packet : goal.returns-then-long-rest-clause-packet
returns-then-long-rest-clause-packet c =
    let size = c.be16.ensures ∙ ap (λ (xs : List ℕ). be16_at xs 4) c.split_at.ensures.back in
    at_long _ _ _ (rw (← size, ← c.split_at.ensures.back) c.if-long-rest.true)

pub returns-in-Ok-clause-packet : goal.returns-in-Ok-clause-packet
returns-in-Ok-clause-packet c =
    let size = c.be16.ensures ∙ ap (λ (xs : List ℕ). be16_at xs 4) c.split_at.ensures.back in
    let bytes = packet_is c.args.size c.args.bytes.now c.be16.result _ _ size c.split_at.ensures.back c.front.ensures in
    let row = ap (is_row c.args.fields.now) (sym c.split_at.ensures.front) ∙ sym c.is_row.ensures ∙ c.if-not-is_row.false in
    (at_packet _ _ _ c.if-bytes-size.false row (rw (← size, ← c.split_at.ensures.back) c.if-long-rest.false) (ap fault_of (sym bytes) ∙ c.in-Ok.ensures.fault), c.in-Ok.ensures.packet ∙ bytes)

pub returns-in-Err-clause-packet : goal.returns-in-Err-clause-packet
returns-in-Err-clause-packet c =
    let size = c.be16.ensures ∙ ap (λ (xs : List ℕ). be16_at xs 4) c.split_at.ensures.back in
    let bytes = packet_is c.args.size c.args.bytes.now c.be16.result _ _ size c.split_at.ensures.back c.front.ensures in
    at_fault _ _ _ c.in-Err.field-0 (ap fault_of (sym bytes) ∙ c.in-Err.ensures.fault)
