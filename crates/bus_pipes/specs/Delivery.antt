-- Delivery: what the pipes keep of the packets that are offered to them, and what is dropped.
use Rattle.std.specs.Prelude.{ℕ, true, false, List, [], ◌∷◌, ◌++◌, Some, None}
use Rattle.std.specs.List.{fold}
use Rattle.packet_forms.specs.Packets.{message_id}
use Rattle.bus_pipes.specs.Pipes.{Pipes, PipeState, packets_in, with_packets, depth_of, pipe_of, offered, held_after}
use Rattle.bus_pipes.specs.declared.names.PipeName.{PipeName}
use Rattle.bus_pipes.specs.declared.names.Dropped.{Dropped}
use Rattle.bus_pipes.specs.declared.names.Offer.{Offer}
use Rattle.bus_pipes.specs.declared.names.Offer.TheVariants as offers

-- one of the pipes by itself
abbrev pub pipe_in : PipeName → Pipes → PipeState
pipe_in name pipes = record { packets = packets_in name pipes; depth = depth_of name; limit = depth_of name }

-- the pipes after a packet was offered to one of them
unfoldable pub after_offer_to : PipeName → Pipes → List ℕ → Pipes
after_offer_to name pipes p = with_packets name (held_after (packets_in name pipes) p (offered (pipe_in name pipes) p)) pipes

-- what is dropped where an offer to a pipe came out so
abbrev pub drop_at : PipeName → List ℕ → Offer → List Dropped
drop_at name p offers.Kept = []
drop_at name p offers.Limit = record { pipe = name; full = false; packet = p } ∷ []
drop_at name p offers.Full = record { pipe = name; full = true; packet = p } ∷ []

-- the pipes after a packet was sent: it is offered to the pipe of its id, if there is one
unfoldable pub after_offer : Pipes → List ℕ → Pipes
after_offer pipes p = elim (pipe_of pipes.watched (message_id p)) [
  | None ↦ pipes
  | Some name ↦ after_offer_to name pipes p
]

-- what is dropped of a packet that was sent
unfoldable pub drop_of : Pipes → List ℕ → List Dropped
drop_of pipes p = elim (pipe_of pipes.watched (message_id p)) [
  | None ↦ []
  | Some name ↦ drop_at name p (offered (pipe_in name pipes) p)
]

-- the pipes after these packets were sent, one after another
unfoldable pub after_offers : Pipes → List (List ℕ) → Pipes
after_offers pipes packets = fold after_offer pipes packets

-- what is dropped of them, in order
unfoldable pub drops_from : Pipes → List (List ℕ) → List Dropped
drops_from pipes [] = []
drops_from pipes (p ∷ packets) = drop_of pipes p ++ drops_from (after_offer pipes p) packets
