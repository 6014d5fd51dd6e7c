use Rattle.std.proofs.Common.{◌∙◌, ap, refl, sym}
use Rattle.app_suite.specs.declared.lc_slot.LcSlot.{LcSlot}
use Rattle.app_suite.specs.Jobs.{jobs_of}
use Rattle.frame_exec.specs.declared.memory.Memory.{Memory as BenchMemory}
use Rattle.frame_exec.proofs.Woken.{all_step, all_can_send, all_ready}
use Rattle.frame_exec.proofs.bench.Bench.step_on_crew.Goals as goal

pub take_over-requires-clause-manned : goal.take_over-requires-clause-manned
take_over-requires-clause-manned g c = c.wake.ensures.manned ∙ ap jobs_of (sym (ap (λ (l : LcSlot). l.there) c.wake.ensures.slots.lc))

pub take_over-requires-clause-clear : goal.take_over-requires-clause-clear
take_over-requires-clause-clear g c =
    let slots = c.wake.ensures.slots in
    let clear = c.requires.clear.apps in
    record {
      hs = ap (λ slot. slot.out.items) slots.hs ∙ clear.hs;
      cs = ap (λ slot. slot.out.items) slots.cs ∙ clear.cs;
      sc = ap (λ slot. slot.out.items) slots.sc ∙ clear.sc;
      mm = ap (λ slot. slot.out.items) slots.mm ∙ clear.mm;
      md = ap (λ slot. slot.out.items) slots.md ∙ clear.md;
      lc = ap (λ (l : LcSlot). l.slot.out.items) slots.lc ∙ clear.lc;
    }

pub take_over-requires-clause-empty : goal.take_over-requires-clause-empty
take_over-requires-clause-empty g c = ap (λ (m : BenchMemory). m.ops.value) c.wake.ensures.memory ∙ c.requires.clear.operations

pub returns-clause-steps : goal.returns-clause-steps
returns-clause-steps g c =
    let over = c.take_over.ensures in
    all_step _ _ _ _ c.wake.ensures over.over (record { lines = refl; epoch = refl; number = refl; failed = refl; tables = refl }) refl refl over.lc over.away

pub returns-clause-can_send : goal.returns-clause-can_send
returns-clause-can_send g c =
    let over = c.take_over.ensures in
    all_can_send _ _ _ _ c.wake.ensures over.over (record { lines = refl; epoch = refl; number = refl; failed = refl; tables = refl }) refl refl over.lc over.away c.requires.clear.apps.lc

pub returns-clause-ready : goal.returns-clause-ready
returns-clause-ready g c =
    let over = c.take_over.ensures in
    all_ready _ _ _ _ c.wake.ensures over.over (record { lines = refl; epoch = refl; number = refl; failed = refl; tables = refl }) refl refl over.lc over.away c.requires.ready
