use Rattle.std.proofs.Common.{◌≡◌, ℕ, List, ◌++◌, length, take, drop}
use Rattle.std.specs.List.{flat_map}
use Rattle.packet_log.specs.Sent.{makes}
use Rattle.packet_log.specs.Standing.{Stands as LogStands}
use Rattle.frame_wires.specs.Sending.{sent_of}
use Rattle.frame_wires.proofs.sending.stamp_all.Given as goal

-- the items so far have their counts, and the others are as they were
abbrev pub invariant-items : goal.invariant-items
invariant-items l = record {
  sent : (made : List (List ℕ)) → LogStands made l.fn.log → take l.i l.out.items ≡ sent_of made (take l.i l.fn.out.items);
  stands : (made : List (List ℕ)) → LogStands made l.fn.log → LogStands (made ++ flat_map makes (take l.i l.fn.out.items)) l.log;
  others : drop l.i l.out.items ≡ drop l.i l.fn.out.items;
  few : length l.out.items ≡ length l.fn.out.items;
  room : l.out.room ≡ l.fn.out.room;
}
