use Rattle.std.proofs.Common.{◌+◌, [], ◌∙◌, ap, refl, sym, subst}
use Rattle.memory_window.specs.Memory.{Memory, regions_of}
use Rattle.memory_window.specs.Window.{seen}
use Rattle.cs_slices.specs.Given.{SegmentsGiven}
use Rattle.md_dwell.specs.State.{AllGiven}
use Rattle.mm_core.specs.Step.{mm_operations}
use Rattle.app_suite.specs.Applications.{lc_setup, cs_stands, mm_stands, md_stands, cs_gives, mm_gives, md_gives, cs_reads, mm_reads, md_reads}
use Rattle.app_suite.specs.Landable.{CanLand}
use Rattle.app_suite.specs.Wakes.{IsWoken}
use Rattle.app_suite.proofs.Taking.{none_sendable, operates}
use Rattle.frame_exec.specs.Stages.{loads_in}
use Rattle.frame_exec.proofs.Waking.{left_unless}
use Rattle.frame_exec.proofs.Woken.{rested, six_gave_none, six_parts, steps_beside}
use Rattle.frame_exec.proofs.bench.Bench.step_in_place.Goals as goal

pub wake_in_place-cs-requires-clause-can : goal.wake_in_place-cs-requires-clause-can
wake_in_place-cs-requires-clause-can g c =
    let b = c.args.self.now in
    let is = sym c.window.ensures.window in
    let given = c.requires.ready.given.set in
    (subst (λ (m : Memory). SegmentsGiven (regions_of m.areas) b.tables.set.eeprom) is given.eeprom, subst (λ (m : Memory). SegmentsGiven (regions_of m.areas) b.tables.set.memory) is given.memory)

pub wake_in_place-md-requires-clause-can : goal.wake_in_place-md-requires-clause-can
wake_in_place-md-requires-clause-can g c =
    subst (λ (m : Memory). AllGiven (regions_of m.areas) c.args.self.now.apps.md.state.value) (sym c.window.ensures.window) c.requires.ready.md

-- each was woken, or rests
pub returns-clause-steps : goal.returns-clause-steps
returns-clause-steps g c =
    let b = c.args.self.now in
    let time = b.epoch + b.number in
    let is = c.window.ensures.window in
    let cs = c.wake_in_place-cs.new.slot in
    let mm = c.wake_in_place-mm.new.slot in
    let md = c.wake_in_place-md.new.slot in
    record {
      run = record { lines = refl; epoch = refl; number = refl; failed = refl; tables = refl };
      told = refl;
      woken = record {
        hs = λ tables same. c.wake_in_place-hs.ensures.woken tables (sym same);
        cs = λ tables same. subst (λ (m : Memory). IsWoken (cs_stands tables) (cs_gives tables) b.apps.cs.held (cs_reads time b.apps.cs.commands.value m) b.apps.cs.state.value cs.state.value cs.out.items) is
            (c.wake_in_place-cs.ensures.woken tables (sym same));
        sc = λ tables same. c.wake_in_place-sc.ensures.woken tables (sym same);
        mm = λ tables. subst (λ (m : Memory). IsWoken (mm_stands tables) (mm_gives tables) b.apps.mm.held (mm_reads (loads_in b) time b.apps.mm.commands.value m) b.apps.mm.state.value mm.state.value mm.out.items) is
            (c.wake_in_place-mm.ensures.woken tables tt);
        md = λ tables. subst (λ (m : Memory). IsWoken (md_stands tables) (md_gives tables) b.apps.md.held (md_reads time b.apps.md.commands.value m) b.apps.md.state.value md.state.value md.out.items) is
            (c.wake_in_place-md.ensures.woken tables tt);
        lc = c.wake_in_place-lc.ensures.woken (lc_setup b.tables.set) refl;
        operations = left_unless b.apps.mm.held c.wake_in_place-mm.new.beside (mm_operations (mm_reads (loads_in b) time b.apps.mm.commands.value b.memory.ram)) c.wake_in_place-mm.ensures.held
            (λ here. (c.wake_in_place-mm.ensures.fills here).0 ∙ ap (λ (m : Memory). mm_operations (mm_reads (loads_in b) time b.apps.mm.commands.value m)) is);
      };
      wires = refl;
      memory = refl;
    }

pub returns-clause-can_send : goal.returns-clause-can_send
returns-clause-can_send g c =
    let b = c.args.self.now in
    let left = operates (loads_in b) b.apps.mm.held (b.epoch + b.number) b.apps.mm.commands.value (seen c.window.result) c.wake_in_place-mm.new.beside c.wake_in_place-mm.ensures.held c.wake_in_place-mm.ensures.fills in
    record {
      apps = record {
        hs = c.wake_in_place-hs.ensures.sendable;
        cs = c.wake_in_place-cs.ensures.sendable;
        sc = c.wake_in_place-sc.ensures.sendable;
        mm = c.wake_in_place-mm.ensures.sendable;
        md = c.wake_in_place-md.ensures.sendable;
        lc = c.wake_in_place-lc.ensures.sendable;
      };
      operations = subst (λ (m : Memory). CanLand (loads_in b) m c.wake_in_place-mm.new.beside) c.window.ensures.window left.can_land;
    }

pub returns-clause-ready : goal.returns-clause-ready
returns-clause-ready g c = record {
  sc = c.wake_in_place-sc.ensures.can;
  md = subst (λ (m : Memory). AllGiven (regions_of m.areas) c.wake_in_place-md.new.slot.state.value) c.window.ensures.window c.wake_in_place-md.ensures.can;
  given = c.requires.ready.given;
}

pub returns-clause-none : goal.returns-clause-none
returns-clause-none g c = λ nothing.
    six_gave_none _ _ _ _ _ _ _ _ _ _ _ _ c.wake_in_place-hs.ensures.none c.wake_in_place-cs.ensures.none c.wake_in_place-sc.ensures.none c.wake_in_place-mm.ensures.none c.wake_in_place-md.ensures.none c.wake_in_place-lc.ensures.none (c.unless.ensures nothing)

-- the crew wakes all: its bench is the same but for the proofs of its ghost facts
pub returns-then-are_shared-clause-steps : goal.returns-then-are_shared-clause-steps
returns-then-are_shared-clause-steps g c = steps_beside _ _ _ _ _ _ _ _ c.step_on_crew.ensures.steps

-- all rest
pub returns-then-all_rest-clause-steps : goal.returns-then-all_rest-clause-steps
returns-then-all_rest-clause-steps g c =
    let b = c.args.self.now in
    let time = b.epoch + b.number in
    let is = c.window.ensures.window in
    let clear = c.requires.clear in
    let all = six_parts c.rests-hs_rests.result c.rests-cs_rests.result c.rests-sc_rests.result c.rests-mm_rests.result c.rests-md_rests.result c.rests-lc_rests.result c.if-all_rest.true in
    record {
      run = record { lines = refl; epoch = refl; number = refl; failed = refl; tables = refl };
      told = refl;
      woken = record {
        hs = λ tables same. rested _ _ _ _ _ _ clear.apps.hs (c.rests-hs_rests.ensures.woken tables all.0 (sym same));
        cs = λ tables same. rested _ _ _ _ _ _ clear.apps.cs (subst (λ (m : Memory). IsWoken (cs_stands tables) (cs_gives tables) b.apps.cs.held (cs_reads time b.apps.cs.commands.value m) b.apps.cs.state.value b.apps.cs.state.value []) is
            (c.rests-cs_rests.ensures.woken tables all.1 (sym same)));
        sc = λ tables same. rested _ _ _ _ _ _ clear.apps.sc (c.rests-sc_rests.ensures.woken tables all.2 (sym same));
        mm = λ tables. rested _ _ _ _ _ _ clear.apps.mm (subst (λ (m : Memory). IsWoken (mm_stands tables) (mm_gives tables) b.apps.mm.held (mm_reads (loads_in b) time b.apps.mm.commands.value m) b.apps.mm.state.value b.apps.mm.state.value []) is
            (c.rests-mm_rests.ensures.woken tables all.3 tt));
        md = λ tables. rested _ _ _ _ _ _ clear.apps.md (subst (λ (m : Memory). IsWoken (md_stands tables) (md_gives tables) b.apps.md.held (md_reads time b.apps.md.commands.value m) b.apps.md.state.value b.apps.md.state.value []) is
            (c.rests-md_rests.ensures.woken tables all.4 tt));
        lc = rested _ _ _ _ _ _ clear.apps.lc (c.rests-lc_rests.ensures.woken (lc_setup b.tables.set) all.5 refl);
        operations = left_unless b.apps.mm.held b.memory.ops.value (mm_operations (mm_reads (loads_in b) time b.apps.mm.commands.value b.memory.ram)) (λ held. clear.operations)
            (λ here. (c.rests-mm_rests.ensures.fills b.memory.ops.value all.3 here clear.operations).0 ∙ ap (λ (m : Memory). mm_operations (mm_reads (loads_in b) time b.apps.mm.commands.value m)) is);
      };
      wires = refl;
      memory = refl;
    }

pub returns-then-all_rest-clause-can_send : goal.returns-then-all_rest-clause-can_send
returns-then-all_rest-clause-can_send g c =
    let b = c.args.self.now in
    let clear = c.requires.clear in
    let all = six_parts c.rests-hs_rests.result c.rests-cs_rests.result c.rests-sc_rests.result c.rests-mm_rests.result c.rests-md_rests.result c.rests-lc_rests.result c.if-all_rest.true in
    let left = operates (loads_in b) b.apps.mm.held (b.epoch + b.number) b.apps.mm.commands.value (seen c.window.result) b.memory.ops.value (λ held. clear.operations) (λ here. c.rests-mm_rests.ensures.fills b.memory.ops.value all.3 here clear.operations) in
    record {
      apps = record {
        hs = none_sendable _ _ clear.apps.hs;
        cs = none_sendable _ _ clear.apps.cs;
        sc = none_sendable _ _ clear.apps.sc;
        mm = none_sendable _ _ clear.apps.mm;
        md = none_sendable _ _ clear.apps.md;
        lc = none_sendable _ _ clear.apps.lc;
      };
      operations = subst (λ (m : Memory). CanLand (loads_in b) m b.memory.ops.value) c.window.ensures.window left.can_land;
    }

pub returns-then-all_rest-clause-none : goal.returns-then-all_rest-clause-none
returns-then-all_rest-clause-none g c =
    let clear = c.requires.clear in
    λ _. rw (clear.apps.hs, clear.apps.cs, clear.apps.sc, clear.apps.mm, clear.apps.md, clear.apps.lc) refl
