use Rattle.std.proofs.Common.{arith, ◌≡◌, ◌<◌, ◌≤◌, length}
use Rattle.md_dwell.proofs.Lists.{end_of, list_is, end_found, end_missing}
use Rattle.md_dwell.proofs.tables.list_len.Goals as goal
use Rattle.md_dwell.proofs.tables.list_len.Goals.{After-loop-i, Then-entry-eq0}

found : (c : Then-entry-eq0) → c.loop-i.i ≡ end_of c.args.entries.now
found c =
    let within : c.loop-i.i < length c.args.entries.now = omega arith in
    end_found c.args.entries.now c.loop-i.i _ within c.loop-i.invariant c.if-entry-eq0.true

missing : (c : After-loop-i) → 25 ≡ end_of c.args.entries.now
missing c =
    let past : length c.args.entries.now ≤ c.loop-i.i = omega arith in
    let is = end_missing c.args.entries.now c.loop-i.i past c.loop-i.invariant in
    omega arith

pub returns-then-entry-eq0-clause-count : goal.returns-then-entry-eq0-clause-count
returns-then-entry-eq0-clause-count c = (list_is _ _ (found c)).0

pub returns-then-entry-eq0-clause-list : goal.returns-then-entry-eq0-clause-list
returns-then-entry-eq0-clause-list c = (list_is _ _ (found c)).1

pub returns-clause-count : goal.returns-clause-count
returns-clause-count c = (list_is _ _ (missing c)).0

pub returns-clause-list : goal.returns-clause-list
returns-clause-list c = (list_is _ _ (missing c)).1
