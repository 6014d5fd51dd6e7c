use Rattle.std.proofs.Common.{◌∙◌, ap, refl, sym, subst}
use Rattle.memory_window.specs.Memory.{Memory, regions_of}
use Rattle.md_dwell.specs.State.{AllGiven}
use Rattle.cs_slices.specs.Given.{SegmentsGiven}
use Rattle.app_suite.specs.Jobs.{AllLeave, jobs_of}
use Rattle.frame_exec.specs.Stages.{seen_in}
use Rattle.frame_exec.proofs.bench.Bench.wake.Goals as goal

pub wake_all-requires-clause-jobs : goal.wake_all-requires-clause-jobs
wake_all-requires-clause-jobs g c = λ _ _. c.args.self.now.manned ∙ ap jobs_of (sym c.args.self.now.there)

pub invariant_of-scene : goal.invariant_of-scene
invariant_of-scene g c =
    let old = c.args.self.now in
    let is = sym c.window-window.ensures.window in
    record {
      eeprom = subst (λ (m : Memory). SegmentsGiven (regions_of m.areas) old.tables.set.eeprom) is c.requires.ready.given.set.eeprom;
      memory = subst (λ (m : Memory). SegmentsGiven (regions_of m.areas) old.tables.set.memory) is c.requires.ready.given.set.memory;
      sc = c.requires.ready.sc;
      md = subst (λ (m : Memory). AllGiven (regions_of m.areas) old.apps.md.state.value) is c.requires.ready.md;
    }

pub returns : goal.returns
returns g c =
    let old = c.args.self.now in
    record {
      run = record { lines = refl; epoch = refl; number = refl; failed = refl; tables = refl };
      slots = record { told = refl; hs = refl; cs = refl; sc = refl; mm = refl; md = refl; lc = refl };
      manned = c.wake_all.ensures.count;
      left = subst (λ (m : Memory). AllLeave old.apps.lc.there (record (seen_in c.args.counters.now old) { memory = m }) c.wake_all.new.crew.results) c.window-window.ensures.window c.wake_all.ensures.left;
      wires = refl;
      memory = refl;
    }
