use Rattle.std.proofs.Common.{subst}
use Rattle.table_files.specs.Files.{loads_of}
use Rattle.mm_core.specs.declared.step.TheConstants.{MOST_ITEMS as mm_most}
use Rattle.app_suite.specs.Applications.{mm_stands, mm_gives, mm_reads}
use Rattle.app_suite.specs.Jobs.{Gives, Operates}
use Rattle.active_tables.specs.Tables.{TableSet}
use Rattle.app_suite.specs.Turns.{Seen}
use Rattle.app_suite.proofs.Taking.{operates}
use Rattle.app_suite.proofs.wakeups.Scene.wake_mm.Goals as goal

pub returns : goal.returns
returns c =
    let wake = c.wake.ensures in
    subst
    (λ (s : Seen). Gives {Setup = TableSet} (λ t. Unit {0}) mm_stands mm_gives mm_most s.mm.held (mm_reads (loads_of s.files) s.time s.mm.commands.value s.memory) s.mm.state.value c.wake.new.stays c.wake.new.next.value c.wake.new.out.items × Operates (loads_of s.files) s.mm.held s.time s.mm.commands.value s.memory c.wake.new.beside)
    c.self.view_is (record { woken = λ tables own. wake.wakes tables own; sendable = wake.sendable }, operates _ c.self.inside.mm.now.held _ _ _ c.wake.new.beside wake.held wake.fills)
