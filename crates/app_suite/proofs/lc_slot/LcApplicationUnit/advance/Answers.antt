use Rattle.std.proofs.Common.{◌≡◌, ℕ, List, ◌∷◌, [], ◌++◌, ap, sym, subst, ◌∙◌}
use Rattle.lc_watch.specs.Histories.{Setup, setup_of, input_of}
use Rattle.lc_watch.specs.State.{Stands}
use Rattle.lc_watch.specs.Step.{lc_items}
use Rattle.lc_watch.specs.declared.watchpoints.WatchRow.{WatchRow}
use Rattle.app_suite.proofs.lc_slot.LcApplicationUnit.advance.Goals as goal

pub returns-clause-stands : goal.returns-clause-stands
returns-clause-stands c = λ setup history belongs stands.
    let reads = c.args.reads.now in
    let same : setup_of c.wdt.result.now c.adt.result.now ≡ setup = ap (λ (watch : List WatchRow). setup_of watch c.adt.result.now) c.wdt.ensures ∙ ap (setup_of reads.tables.now.set.wdt) c.adt.ensures ∙ belongs in
    subst (λ (seen : List (List ℕ)). Stands setup.watch setup.actions (history ++ input_of reads.time c.args.commands.now seen ∷ []) c.advance.new.self) c.items.ensures
    (subst (λ (s : Setup). Stands s.watch s.actions (history ++ input_of reads.time c.args.commands.now c.items.result.now ∷ []) c.advance.new.self) same
    (c.advance.ensures.stands history (subst (λ (s : Setup). Stands s.watch s.actions history c.args.self.now) (sym same) stands)))

pub returns-clause-items : goal.returns-clause-items
returns-clause-items c = λ setup history belongs stands.
    let reads = c.args.reads.now in
    let same : setup_of c.wdt.result.now c.adt.result.now ≡ setup = ap (λ (watch : List WatchRow). setup_of watch c.adt.result.now) c.wdt.ensures ∙ ap (setup_of reads.tables.now.set.wdt) c.adt.ensures ∙ belongs in
    c.advance.ensures.items history (subst (λ (s : Setup). Stands s.watch s.actions history c.args.self.now) (sym same) stands)
    ∙ ap (λ (s : Setup). lc_items s history (input_of reads.time c.args.commands.now c.items.result.now)) same ∙ ap (λ (seen : List (List ℕ)). lc_items setup history (input_of reads.time c.args.commands.now seen)) c.items.ensures
