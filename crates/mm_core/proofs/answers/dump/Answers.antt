use Rattle.std.proofs.Common.{◌≡◌, ◌+◌, ◌-◌, ◌*◌, ◌/◌, ℕ, List, [], ◌∷◌, ◌++◌, length, map, refl, sym, ap, ◌∙◌, arith, add-zero}
use Rattle.std.specs.List.{range_with_len}
use Rattle.std.proofs.lemmas.List.FromFn.{map-range_with_len_more}
use Rattle.bus_pipes.specs.Held.{Held, adding}
use Rattle.bus_pipes.specs.declared.names.Out.{Out}
use Rattle.bus_pipes.specs.declared.names.Out.TheVariants.{Made}
use Rattle.bus_pipes.proofs.Deliveries.{adding_none, adding_more}
use Rattle.commands.proofs.Heard.{one_more_counted}
use Rattle.mm_core.specs.Answers.{dump_packet, dump_part, dump_items}
use Rattle.mm_core.proofs.answers.dump.Goals as goal

pub loop-k-init : goal.loop-k-init
loop-k-init c = record { items = sym (adding_none c.args.out.now); few = sym (add-zero (length c.args.out.now.items)); room = refl; counted = λ before. before }

pub loop-k-preserved : goal.loop-k-preserved
loop-k-preserved c =
    let part : ℕ → Out = dump_part c.args.now c.args.at c.args.bytes.now in
    let before : List Out = map part (range_with_len 0 c.loop-k.k) in
    let item : Out = Made c.dump_packet.result in
    let is : item ≡ part c.loop-k.k = ap Made (c.dump_packet.ensures.packet ∙ ap (dump_packet c.args.now (c.args.at + c.loop-k.k * 128)) c.part_from-part.ensures.part) in
    record {
      items = c.push.ensures.after ∙ ap (λ (held : Held Out). adding held (item ∷ [])) c.loop-k.invariant.items ∙ adding_more c.args.out.now before (item ∷ [])
          ∙ ap (adding c.args.out.now) (ap (λ (one : Out). before ++ one ∷ []) is ∙ sym (map-range_with_len_more part 0 c.loop-k.k c.loop-k.k (omega arith)));
      few = omega arith;
      room = c.push.ensures.room ∙ c.loop-k.invariant.room;
      counted = λ counted. one_more_counted c.loop-k.out c.push.new.self item c.push.ensures.after c.dump_packet.ensures.counted (c.loop-k.invariant.counted counted);
    }

pub returns-clause-items : goal.returns-clause-items
unfolding dump_items
returns-clause-items c =
    let count : c.loop-k.k ≡ (length c.args.bytes.now + (128 - 1)) / 128 = omega arith in
    c.loop-k.invariant.items ∙ ap (λ (n : ℕ). adding c.args.out.now (map (dump_part c.args.now c.args.at c.args.bytes.now) (range_with_len 0 n))) count
