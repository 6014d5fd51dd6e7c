-- The small steps of a frame: held applications, upsets, pipes that are emptied, and items as they are sent.
use Rattle.std.specs.Prelude.{ℕ, ◌==◌, Bool, true, false, if◌then◌else◌, List, [], ◌∷◌, ◌++◌}
use Rattle.std.specs.Borrow.{Bor}
use Rattle.std.specs.List.{flat_map}
use Rattle.histories.specs.Words.{along}
use Rattle.bus_pipes.specs.Pipes.{Pipes, packets_in, with_packets}
use Rattle.bus_pipes.specs.declared.names.PipeName.{PipeName}
use Rattle.bus_pipes.specs.declared.names.Out.{Out}
use Rattle.bus_pipes.specs.declared.names.Out.TheVariants.{Made, Stored, Reset, Restart, Delete}
use Rattle.memory_window.specs.Memory.{Memory, upset_at}
use Rattle.scenario.specs.declared.frame.Upset.{Upset}
use Rattle.packet_log.specs.Sent.{makes, as_sent}
use Rattle.scenario.specs.declared.frame.App.{App}
use Rattle.scenario.specs.declared.frame.App.TheVariants as apps

-- the place of an application in the order of the applications
abbrev pub place_of : App → ℕ
place_of apps.Hs = 0
place_of apps.Cs = 1
place_of apps.Sc = 2
place_of apps.Mm = 3
place_of apps.Md = 4

-- two names of one application
abbrev pub is_same : App → App → Bool
is_same one other = place_of one == place_of other

-- memory with one byte set, whatever the protection
abbrev pub upset_by : Memory → Upset → Memory
upset_by memory upset = upset_at memory upset.at upset.value

-- what a pipe holds once its application was woken, unless that is held
abbrev pub left_in_pipe : Bool → List (List ℕ) → List (List ℕ)
left_in_pipe held packets = if held then packets else []

-- the pipes once an application took what one of them holds, unless it is held
abbrev pub taken : PipeName → Bool → Pipes → Pipes
taken name held pipes = with_packets name (left_in_pipe held (packets_in name pipes)) pipes

-- the pipes once LC took what its two hold
abbrev pub without_limits : Pipes → Pipes
without_limits pipes = record pipes { lc = []; lc_tlm = [] }

-- items as they are sent, in order
unfoldable pub sent_of : List (List ℕ) → List Out → List Out
sent_of made items = along (λ before item. as_sent (made ++ flat_map makes before) item) items

-- the packet of an item that was sent, if it is one
abbrev pub packet_in : Out → List (List ℕ)
packet_in (Made p) = p ∷ []
packet_in (Stored p) = p ∷ []
packet_in Reset = []
packet_in (Restart name) = []
packet_in (Delete name) = []

-- an item that asks for a processor reset
abbrev pub is_reset : Out → Bool
is_reset Reset = true
is_reset (Made p) = false
is_reset (Stored p) = false
is_reset (Restart name) = false
is_reset (Delete name) = false

-- what is offered to the pipes, by whether a processor reset is asked for: then nothing; else the frame's packets, and then those of the items
abbrev pub offered : Bool → List (List ℕ) → List Out → List (List ℕ)
offered resets sends sent = if resets then [] else (sends ++ flat_map packet_in sent)

-- what lists of items show, one after another
abbrev pub shown : List (Bor (List Out)) → List Out
shown lists = flat_map (λ (list : Bor (List Out)). list.now) lists

-- the packets of a list of items
abbrev pub packets_of : Bor (List Out) → List (List ℕ)
packets_of list = flat_map packet_in list.now
