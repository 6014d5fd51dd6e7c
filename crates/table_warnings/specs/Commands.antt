-- Commands of sequences that say something of their own sequence, and seconds that have too many.
use Rattle.std.specs.Prelude.{ℕ, ◌==◌, Bool, ◌&&◌, ◌||◌, List, [], ◌∷◌, take, count_by, slice_index}
use Rattle.std.specs.Str.{bytes_eq}
use Rattle.packet_forms.specs.MessageIds.{sc_command}
use Rattle.packet_forms.specs.Packets.{message_id, function_code, payload_of}

-- whether a packet starts relative sequence n
unfoldable pub starts_relative : ℕ → List ℕ → Bool
starts_relative n packet = (message_id packet == sc_command) && (function_code packet == 4) && bytes_eq (payload_of packet) (0 ∷ n ∷ [])

-- whether a packet stops the absolute sequence that runs, or switches to the other one
unfoldable pub ends_absolute : List ℕ → Bool
ends_absolute packet = (message_id packet == sc_command) && ((function_code packet == 3) || (function_code packet == 8))

-- whether a command is the ninth of its second
unfoldable pub is_ninth : List ℕ → ℕ → Bool
is_ninth times k = count_by (λ t. t == slice_index times k) (take k times) == 8
