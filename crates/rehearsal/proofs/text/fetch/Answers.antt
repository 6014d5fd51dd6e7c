use Rattle.std.proofs.Common.{◌≡◌, ◌<◌, true, false, length, sym, ◌∙◌}
use Rattle.fsw_outside.specs.TellingLaws.{told_map}
use Rattle.scenario.specs.Standing.{closed}
use Rattle.rehearsal.proofs.Pieces.{less_ended, less_unread, not_empty, ended_on, filled, read_filled}
use Rattle.rehearsal.proofs.text.fetch.Goals as goal

pub returns-then-ended-clause-less : goal.returns-then-ended-clause-less
returns-then-ended-clause-less g c =
    let ended : c.fill.new.self.ended ≡ true = sym c.ended.ensures ∙ c.if-ended.true in
    less_ended c.args.reader.now c.finish.new.self c.args.feed.now c.fill.new.self c.in-Ok.ensures.total (c.in-Ok.ensures.ended.0 ended)
    c.requires.empty c.requires.open_text ended c.finish.ensures.left

pub returns-clause-less : goal.returns-clause-less
returns-clause-less g c =
    let open_now : c.fill.new.self.ended ≡ false = sym c.ended.ensures ∙ c.if-ended.false in
    let some : 0 < length c.fill.new.self.pending = not_empty _ (λ none. let ended = c.in-Ok.ensures.ended.1 none in cc) in
    less_unread c.args.reader.now c.args.feed.now c.fill.new.self c.requires.small c.requires.empty c.in-Ok.ensures.total c.fill.ensures.few some
    c.requires.open_text open_now

pub returns-then-ended-clause-reads : goal.returns-then-ended-clause-reads
returns-then-ended-clause-reads g c = λ text gave h.
    let ended : c.fill.new.self.ended ≡ true = sym c.ended.ensures ∙ c.if-ended.true in
    let none = c.in-Ok.ensures.ended.0 ended in (
      closed text,
      ended_on c.args.reader.now c.finish.new.self c.args.feed.now c.fill.new.self text gave h c.requires.empty none c.in-Ok.ensures.total ended (c.finish.ensures.stands text gave h.stands),
      tt,
      told_map c.in-Ok.ensures.content (λ before after filled start read. read_filled text true c.fill.new.self.pending start before after filled.0 filled.1 (λ _. filled.2 none) read),
    )

pub returns-clause-reads : goal.returns-clause-reads
returns-clause-reads g c = λ text gave h.
    let open_now : c.fill.new.self.ended ≡ false = sym c.ended.ensures ∙ c.if-ended.false in (
      text,
      filled c.args.reader.now c.args.feed.now c.fill.new.self text gave h c.requires.empty c.in-Ok.ensures.total c.requires.open_text open_now c.fill.ensures.few,
      tt,
      told_map c.in-Ok.ensures.content (λ before after filled start read.
          read_filled text text.closed c.fill.new.self.pending start before after filled.0 filled.1 (λ closed. let wrong : true ≡ false = sym closed ∙ h.closed ∙ c.requires.open_text in cc) read),
    )
