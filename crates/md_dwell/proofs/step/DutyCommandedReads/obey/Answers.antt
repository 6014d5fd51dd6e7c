use Rattle.std.proofs.Common.{sym}
use Rattle.bus_pipes.proofs.Deliveries.{adding_none}
use Rattle.memory_window.specs.Window.{seen}
use Rattle.md_dwell.proofs.Turns.{table_turn}
use Rattle.md_dwell.proofs.Gifts.{order_given}
use Rattle.md_dwell.proofs.step.DutyCommandedReads.obey.Goals as goal

pub returns-clause-stands : goal.returns-clause-stands
returns-clause-stands c = λ turn orders belongs stood.
    record {
      first = table_turn turn.setup turn.history orders c.args.instruction.now 1 c.args.self.now.first c.obey.new.self stood.first c.obey.ensures.stands;
      second = table_turn turn.setup turn.history orders c.args.instruction.now 2 c.args.self.now.second c.obey-2.new.self stood.second c.obey-2.ensures.stands;
      third = table_turn turn.setup turn.history orders c.args.instruction.now 3 c.args.self.now.third c.obey-3.new.self stood.third c.obey-3.ensures.stands;
      fourth = table_turn turn.setup turn.history orders c.args.instruction.now 4 c.args.self.now.fourth c.obey-4.new.self stood.fourth c.obey-4.ensures.stands;
    }

pub returns-clause-safe : goal.returns-clause-safe
returns-clause-safe c = λ n few given.
    let order = order_given (seen c.args.reads.window) c.args.instruction.now c.requires.can in
    record {
      first = c.obey.ensures.given _ given.first order;
      second = c.obey-2.ensures.given _ given.second order;
      third = c.obey-3.ensures.given _ given.third order;
      fourth = c.obey-4.ensures.given _ given.fourth order;
    }

pub returns-clause-items : goal.returns-clause-items
returns-clause-items c = λ turn orders belongs stood. sym (adding_none c.args.out.now)
