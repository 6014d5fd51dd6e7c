use Rattle.std.proofs.Common.{◌≡◌, ℕ, List, ◌++◌, take}
use Rattle.std.specs.List.{flat_map}
use Rattle.input_words.specs.Inputs.{input_line, packet_sent}
use Rattle.input_words.proofs.inputs.tell_packets.Given as goal

abbrev pub invariant-loop-packet : goal.invariant-loop-packet
invariant-loop-packet l = l.out.items ≡ l.fn.out.items ++ flat_map (λ (p : List ℕ). input_line l.time (packet_sent l.vocabulary p)) (take l.packet-index l.packets)
