use Rattle.std.proofs.Common.{◌≤◌, ◌<◌, length, sym, ◌∙◌, arith}
use Rattle.std.proofs.lemmas.List.{drop_all}
use Rattle.sc_tables.specs.Commands.{commands_in, command_at}
use Rattle.sc_sequences.proofs.Ordering.{rest_from, skip_early, none_from}
use Rattle.sc_sequences.proofs.heads.first_from.Goals as goal

pub returns-then-tag-time-clause-left : goal.returns-then-tag-time-clause-left
returns-then-tag-time-clause-left c =
    let commands = commands_in c.args.tables.now c.args.place in
    let inside : c.loop-at.at < length commands = (let count = c.len-count.ensures.count in omega arith) in
    let late : c.args.time ≤ (command_at c.args.tables.now c.args.place c.loop-at.at).tag = (let is = c.tag.ensures in omega arith) in
    sym (c.loop-at.invariant ∙ rest_from c.args.tables.now c.args.place c.loop-at.at c.args.time c.requires c.len-count.ensures.tables inside late)

pub loop-at-preserved : goal.loop-at-preserved
loop-at-preserved c =
    let commands = commands_in c.args.tables.now c.args.place in
    let inside : c.loop-at.at < length commands = (let count = c.len-count.ensures.count in omega arith) in
    let early : (command_at c.args.tables.now c.args.place c.loop-at.at).tag < c.args.time = (let is = c.tag.ensures in omega arith) in
    c.loop-at.invariant ∙ skip_early commands c.loop-at.at c.args.time inside early

pub returns-clause-left : goal.returns-clause-left
returns-clause-left c =
    let commands = commands_in c.args.tables.now c.args.place in
    let past : length commands ≤ c.loop-at.at = (let count = c.len-count.ensures.count in omega arith) in
    drop_all c.len-count.result commands (let count = c.len-count.ensures.count in omega arith) ∙ sym (c.loop-at.invariant ∙ none_from commands c.loop-at.at c.args.time past)
