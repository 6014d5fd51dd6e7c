use Rattle.std.proofs.Common.{◌≡◌, List, IsTrue}
use Rattle.fsw_outside.specs.Told.{WhereTold}
use Rattle.fsw_outside.specs.Files.{Content}
use Rattle.scenario.specs.Texts.{Text, Given}
use Rattle.rehearsal.specs.Text.{IsRead, Holds, work_left}
use Rattle.rehearsal.proofs.text.read_on.Given as goal

-- what was read so far was fed or is pending, and no fault came
abbrev pub invariant-pieces : goal.invariant-pieces
invariant-pieces g l =
    let source = g.S.Source in
    record {
      opened : IsTrue (source.is_open l.source);
      reads : (text : Text) (gave : List Given) → Holds l.initial.reader l.initial.feed text gave
          → (now : Text) × Holds l.reader l.feed now gave
          × WhereTold (source.told l.initial.source) (source.told l.source) (λ before after. (start : Content) → IsRead text l.initial.feed.pending start before → IsRead now l.feed.pending start after);
      well : source.faults l.source ≡ source.faults l.initial.source;
      mark : source.mark l.source ≡ source.mark l.initial.source;
    }

abbrev pub decreases-pieces : goal.decreases-pieces
decreases-pieces g l = work_left l.reader l.feed
