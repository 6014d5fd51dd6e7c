use Rattle.std.proofs.Common.{ℕ, ◌+◌, refl, sym, ◌∙◌, ap, subst}
use Rattle.memory_window.specs.Memory.{regions_of}
use Rattle.bus_pipes.specs.Pipes.{emptied_pipes}
use Rattle.packet_log.specs.Standing.{Stands as LogStands}
use Rattle.app_suite.specs.Applications.{hs_setup}
use Rattle.active_tables.specs.Tables.{Loaded, tables_of}
use Rattle.active_tables.proofs.GivenTables.{given_again}
use Rattle.frame_runs.specs.Runs.{active_in}
use Rattle.frame_exec.proofs.Frames.{has_begun, has_anew, has_behind, ready_begun}
use Rattle.frame_exec.proofs.bench.Bench.start_anew.Goals as goal

pub returns-clause-anew : goal.returns-clause-anew
returns-clause-anew c =
    let old = c.args.self.now in
    let time = old.epoch + old.number in
    record {
      goes = record { lines = refl; epoch = refl; number = refl; failed = refl; files = ap (λ (t : Loaded). t.files) c.load_again.ensures };
      items = c.start_anew.ensures.items;
      resets = refl;
      idle = refl;
      memory = refl;
      has = λ setup s epoch files has.
          has_behind _ setup s old.resets c.requires.resets
          (has_anew _ setup s time _ _ (ap (λ (e : ℕ). e + old.number) epoch ∙ ap (λ (n : ℕ). setup.epoch + n) has.number) refl refl
          (has_begun _ setup s.number time _ _ (emptied_pipes s.pipes) s.made s.memory has.number (ap (λ (t : Loaded). t.set) c.load_again.ensures ∙ ap tables_of files)
          (c.start_anew.ensures.begin (hs_setup (active_in s)) s.hs has.apps.hs.1)
          (c.empty.ensures.pipes ∙ ap emptied_pipes has.pipes) (subst (LogStands s.made) (sym c.empty.ensures.log) has.made) has.memory));
    }

pub returns-clause-ready : goal.returns-clause-ready
returns-clause-ready c =
    let regions = regions_of c.args.self.now.memory.ram.areas in
    let given = given_again regions c.args.self.now.tables c.load_again.new.self c.load_again.ensures c.requires.ready.given in
    ready_begun _ regions refl c.start_anew.ensures.ready.sc (c.start_anew.ensures.ready.md regions given.set.dwells) given
