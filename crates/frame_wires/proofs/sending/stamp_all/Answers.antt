use Rattle.std.proofs.Common.{ℕ, ◌+◌, ◌<◌, List, ◌++◌, length, take, refl, sym, ◌∙◌, ap, subst, append-nil, arith, take_all}
use Rattle.std.proofs.lemmas.List.{take_more_set, drop-set-lt, length-set}
use Rattle.std.specs.List.{flat_map}
use Rattle.bus_pipes.specs.declared.names.Out.{Out}
use Rattle.packet_log.specs.Sent.{makes}
use Rattle.packet_log.specs.Standing.{Stands as LogStands}
use Rattle.frame_wires.specs.Sending.{sent_of}
use Rattle.frame_wires.proofs.Stamping.{sent_none, sent_front, made_front, left_item, left_more, counted_at}
use Rattle.frame_wires.proofs.sending.stamp_all.Goals as goal

pub items-init : goal.items-init
items-init c = record {
  sent = λ made stands. sym (sent_none made);
  stands = λ made stands. subst (λ (packets : List (List ℕ)). LogStands packets c.args.log.now) (sym (append-nil made)) stands;
  others = refl;
  few = refl;
  room = refl;
}

pub stamp_item-requires : goal.stamp_item-requires
stamp_item-requires c =
    let item = c.item_mut.result.now in
    let within : c.items.i < length c.args.out.now.items = omega (arith, c.items-test.true, c.len-i-end.ensures) in
    counted_at c.args.out.now.items c.items.i item c.requires.counted within (c.item_mut.ensures.value ∙ left_item c.args.out.now.items c.items.out.items c.items.i c.items.invariant.others item)

pub items-preserved : goal.items-preserved
items-preserved c =
    let start = c.args.out.now.items in
    let now = c.items.out.items in
    let i = c.items.i in
    let item = c.item_mut.result.now in
    let within : i < length start = omega (arith, c.items-test.true, c.len-i-end.ensures) in
    let there : i < length now = omega (arith, within, c.items.invariant.few) in
    let is = c.item_mut.ensures.value ∙ left_item start now i c.items.invariant.others item in
    record {
      sent = λ made stands. sent_front made start i item c.stamp_item.new.item (take i now) _ within is (c.items.invariant.sent made stands) (c.stamp_item.ensures.sent _ (c.items.invariant.stands made stands)) (take_more_set now i c.stamp_item.new.item there);
      stands = λ made stands. made_front made start i item c.stamp_item.new.self within is (c.stamp_item.ensures.stands _ (c.items.invariant.stands made stands));
      others = drop-set-lt (i + 1) now i c.stamp_item.new.item (omega arith) ∙ left_more start now i c.items.invariant.others;
      few = length-set now i c.stamp_item.new.item ∙ c.items.invariant.few;
      room = c.items.invariant.room;
    }

pub returns-clause-stands : goal.returns-clause-stands
returns-clause-stands c = λ made stands.
    subst (λ (items : List Out). LogStands (made ++ flat_map makes items) c.items.log) (take_all c.items.i c.args.out.now.items (omega (arith, c.items-test.false, c.len-i-end.ensures))) (c.items.invariant.stands made stands)

pub returns-clause-sent : goal.returns-clause-sent
returns-clause-sent c = λ made stands.
    sym (take_all c.items.i c.items.out.items (omega (arith, c.items-test.false, c.len-i-end.ensures, c.items.invariant.few))) ∙ c.items.invariant.sent made stands
    ∙ ap (sent_of made) (take_all c.items.i c.args.out.now.items (omega (arith, c.items-test.false, c.len-i-end.ensures)))
