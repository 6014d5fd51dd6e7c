use Rattle.std.proofs.Common.{refl}
use Rattle.packet_forms.specs.Numbers.{be16_at, be16_bytes}
use Rattle.packet_forms.specs.Packets.{message_id, checksum_of}
use Rattle.packet_forms.specs.Built.{primary_header, with_checksum, command_of}
use Rattle.bus_pipes.specs.Pipes.{count_of_id, offered, pipe_of}
use Rattle.bus_pipes.specs.Delivery.{after_offer_to, after_offer, drop_of, after_offers, drops_from}
use Rattle.bus_pipes.proofs.laws.worked_drops.Goals as goal

pub returns : goal.returns
unfolding be16_at be16_bytes message_id checksum_of primary_header with_checksum command_of count_of_id offered pipe_of after_offer_to after_offer drop_of after_offers drops_from
returns c watched = refl
