use Rattle.std.proofs.Common.{◌≡◌, Bool, length, refl, ap, sym, ◌∙◌, arith, Box, Global}
use Rattle.std.proofs.lemmas.List.{get_or-set_other, get_or-set_same}
use Rattle.bus_pipes.specs.Held.{Held}
use Rattle.bus_pipes.specs.declared.names.Out.{Out}
use Rattle.mm_core.specs.declared.state.Mm.{Mm}
use Rattle.app_suite.specs.declared.left.Left.{Left}
use Rattle.app_suite.specs.Wakes.{next_of}
use Rattle.app_suite.proofs.Taking.{none_given}
use Rattle.frame_exec.proofs.applications.Applications.take_over_first.Goals as goal

pub returns-clause-over : goal.returns-clause-over
returns-clause-over c =
    let hs = c.take_over-hs.ensures in
    let cs = c.take_over-cs.ensures in
    let sc = c.take_over-sc.ensures in
    let mm = c.take_over-mm.ensures in
    let md = c.take_over-md.ensures in
    let gave = c.give_operations.new.self in
    let left : Left = c.result_mut-left.result.now in
    let behind = c.take_over-sc.new.crew.results in
    let count : length behind ≡ length c.args.self.now.crew.results = sc.count ∙ cs.count ∙ hs.count in
    let same = sym mm.from.1 ∙ get_or-set_same behind 3 gave mm.from.0 (omega (arith, count, c.requires.manned)) in
    record {
      told = refl;
      hs = (hs.from.0, hs.from.1, (hs.from.2, hs.from.3));
      cs = (cs.from.0, sym (hs.others 1 cs.from.0 (omega arith)) ∙ cs.from.1, (cs.from.2, cs.from.3));
      sc = (sc.from.0, sym (hs.others 2 sc.from.0 (omega arith)) ∙ sym (cs.others 2 sc.from.0 (omega arith)) ∙ sc.from.1, (sc.from.2, sc.from.3));
      mm = (
        left,
        sym (hs.others 3 left (omega arith)) ∙ sym (cs.others 3 left (omega arith)) ∙ sym (sc.others 3 left (omega arith)) ∙ c.result_mut-left.ensures.value,
        (
          mm.from.2 ∙ ap (λ (l : Left). next_of l.stays l.mm.value c.args.self.now.mm.state.value) same ∙ ap (λ (next : Box Mm Global). next_of gave.stays next.value c.args.self.now.mm.state.value) c.give_operations.ensures.next.0 ∙ ap (λ (stays : Bool). next_of stays left.mm.value c.args.self.now.mm.state.value) c.give_operations.ensures.next.1,
          mm.from.3 ∙ ap (λ (l : Left). l.out.items) same ∙ ap (λ (held : Held Out). held.items) c.give_operations.ensures.items,
          c.give_operations.ensures.operations,
        ),
      );
      md = (
        md.from.0,
        sym (hs.others 4 md.from.0 (omega arith)) ∙ sym (cs.others 4 md.from.0 (omega arith)) ∙ sym (sc.others 4 md.from.0 (omega arith))
            ∙ sym (get_or-set_other behind 3 4 gave md.from.0 (omega arith)) ∙ sym (mm.others 4 md.from.0 (omega arith)) ∙ md.from.1,
        (md.from.2, md.from.3),
      );
    }

pub returns-clause-none : goal.returns-clause-none
returns-clause-none c = none_given _ _ _ _ _ _ _ _ _ _ _ c.take_over-hs.ensures.none c.take_over-cs.ensures.none c.take_over-sc.ensures.none c.take_over-mm.ensures.none c.take_over-md.ensures.none c.requires.clear.lc

pub returns-clause-last : goal.returns-clause-last
returns-clause-last c = λ left.
    c.take_over-md.ensures.others 5 left (omega arith) ∙ c.take_over-mm.ensures.others 5 left (omega arith) ∙ get_or-set_other c.take_over-sc.new.crew.results 3 5 c.give_operations.new.self left (omega arith)
    ∙ c.take_over-sc.ensures.others 5 left (omega arith) ∙ c.take_over-cs.ensures.others 5 left (omega arith) ∙ c.take_over-hs.ensures.others 5 left (omega arith)
