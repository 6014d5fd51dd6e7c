use Rattle.std.proofs.Common.{ℕ, ap}
use Rattle.std.specs.Prelude.{nat_le}
use Rattle.sc_sequences.specs.declared.cursors.Cursor.{Cursor}
use Rattle.sc_sequences.proofs.Sending.{leaves_stand, leaves_items}
use Rattle.sc_sequences.proofs.duty.Duty.leave.Goals as goal

pub returns-clause-stands : goal.returns-clause-stands
returns-clause-stands c = λ s stood.
    leaves_stand c.args.tables.now s c.args.now c.args.place c.get-at.result.at c.next_behind-next.result c.requires.runs.0 c.checksum_ok-right.result c.command-packet.result c.args.self.now.cursors stood.cursors c.requires.within
    c.requires.runs.1 (ap (λ (k : Cursor). k.at) c.get-at.ensures.cursor) c.command-packet.ensures c.checksum_ok-right.ensures c.next_behind-next.ensures.left
    c.count.new.self c.continue_at.new.cursors (c.continue_at.ensures s.all stood.cursors) c.count.ensures.cursors (c.count.ensures.sent s.sent stood.sent) (c.count.ensures.wrong s.wrong stood.wrong)

pub returns-clause-items : goal.returns-clause-items
returns-clause-items c = λ s stood.
    leaves_items c.args.tables.now s c.args.now c.args.place c.get-at.result.at c.next_behind-next.result c.requires.runs.0 c.checksum_ok-right.result c.command-packet.result c.args.self.now.cursors stood.cursors c.requires.within
    c.requires.runs.1 (ap (λ (k : Cursor). k.at) c.get-at.ensures.cursor) c.command-packet.ensures c.checksum_ok-right.ensures c.next_behind-next.ensures.left
    c.args.out.now c.put_head.new.out (nat_le c.len.result c.next_behind-next.result) (ap (λ (n : ℕ). nat_le n c.next_behind-next.result) c.len.ensures.count) c.put_head.ensures.items
