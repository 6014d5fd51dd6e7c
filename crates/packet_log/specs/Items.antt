-- The lines of the items that an application gives.
use Rattle.std.specs.Prelude.{ℕ, Bool, true, false, List, [], ◌++◌, codes, decimal}
use Rattle.packet_forms.specs.Names.{name_text}
use Rattle.bus_pipes.specs.declared.names.Out.{Out}
use Rattle.bus_pipes.specs.declared.names.Out.TheVariants.{Made, Stored, Reset, Restart, Delete}
use Rattle.packet_log.specs.Lines.{packet_line}

-- an item that asks for something
abbrev pub is_request : Out → Bool
is_request (Made p) = false
is_request (Stored p) = false
is_request Reset = true
is_request (Restart name) = true
is_request (Delete name) = true

-- what a line says of a request
abbrev pub request_text : Out → List ℕ
request_text Reset = codes " reset"
request_text (Restart name) = codes " restart " ++ name_text name
request_text (Delete name) = codes " delete " ++ name_text name
request_text (Made p) = []
request_text (Stored p) = []

-- the line of a request that was made in a frame
unfoldable pub request_line : ℕ → Out → List ℕ
request_line frame item = decimal frame ++ request_text item ++ codes "\n"

-- the line of an item: of its packet, or of its request
abbrev pub item_line : ℕ → Out → List ℕ
item_line frame (Made p) = packet_line frame p
item_line frame (Stored p) = packet_line frame p
item_line frame Reset = request_line frame Reset
item_line frame (Restart name) = request_line frame (Restart name)
item_line frame (Delete name) = request_line frame (Delete name)
