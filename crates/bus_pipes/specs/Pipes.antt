-- One pipe, and the pipes of the bus: six, and two more where the limit checker is there.
use Rattle.std.specs.Prelude.{◌≡◌, ℕ, ◌==◌, ◌||◌, Bool, true, if◌then◌else◌, List, [], ◌∷◌, ◌++◌, length, count_by, nat_le, Option, Some, None}
use Rattle.std.specs.List.{list_any}
use Rattle.packet_forms.specs.MessageIds.{hs_command, hs_request, cs_command, cs_request, sc_command, sc_request, mm_command, mm_request, md_command, md_request, lc_command, lc_request, event_id, hs_housekeeping, cs_housekeeping, cs_baseline, sc_housekeeping, mm_housekeeping, mm_peek, mm_dump, md_housekeeping, md_dwell, lc_housekeeping}
use Rattle.packet_forms.specs.Packets.{message_id}
use Rattle.bus_pipes.specs.declared.names.PipeName.{PipeName}
use Rattle.bus_pipes.specs.declared.names.PipeName.TheVariants.{Hs, HsEv, Cs, Sc, Mm, Md, Lc, LcTlm}
use Rattle.bus_pipes.specs.declared.names.Offer.{Offer}
use Rattle.bus_pipes.specs.declared.names.Offer.TheVariants as offers

-- a pipe: the packets that it holds, the first one first, and how many packets and how many of one id it holds at most
pub record PipeState : Type 0 where
  pub packets : List (List ℕ)
  pub depth : ℕ
  pub limit : ℕ

-- how many of these packets have an id
unfoldable pub count_of_id : ℕ → List (List ℕ) → ℕ
count_of_id id packets = count_by (λ p. message_id p == id) packets

-- what becomes of a packet that is offered to a pipe: the limit for its id is asked first, then the depth
unfoldable pub offered : PipeState → List ℕ → Offer
offered pipe p =
    if nat_le pipe.limit (count_of_id (message_id p) pipe.packets) then offers.Limit
    else if nat_le pipe.depth (length pipe.packets) then offers.Full
    else offers.Kept

-- the packets that a pipe holds after an offer: one that is kept becomes the last one
abbrev pub held_after : List (List ℕ) → List ℕ → Offer → List (List ℕ)
held_after packets p offers.Kept = packets ++ p ∷ []
held_after packets p offers.Limit = packets
held_after packets p offers.Full = packets

-- the packets of the pipes, and whether the two of the limit checker are there
pub record Pipes : Type 0 where
  pub watched : Bool
  pub hs : List (List ℕ)
  pub hs_ev : List (List ℕ)
  pub cs : List (List ℕ)
  pub sc : List (List ℕ)
  pub mm : List (List ℕ)
  pub md : List (List ℕ)
  pub lc : List (List ℕ)
  pub lc_tlm : List (List ℕ)

-- pipes that hold nothing
abbrev pub empty_pipes : Bool → Pipes
empty_pipes watched = record { watched = watched; hs = []; hs_ev = []; cs = []; sc = []; mm = []; md = []; lc = []; lc_tlm = [] }

-- the same pipes, where they hold nothing
abbrev pub emptied_pipes : Pipes → Pipes
emptied_pipes pipes = empty_pipes pipes.watched

-- the packets of a pipe
abbrev pub packets_in : PipeName → Pipes → List (List ℕ)
packets_in Hs pipes = pipes.hs
packets_in HsEv pipes = pipes.hs_ev
packets_in Cs pipes = pipes.cs
packets_in Sc pipes = pipes.sc
packets_in Mm pipes = pipes.mm
packets_in Md pipes = pipes.md
packets_in Lc pipes = pipes.lc
packets_in LcTlm pipes = pipes.lc_tlm

-- the pipes, where one has other packets
abbrev pub with_packets : PipeName → List (List ℕ) → Pipes → Pipes
with_packets Hs packets pipes = record pipes { hs = packets }
with_packets HsEv packets pipes = record pipes { hs_ev = packets }
with_packets Cs packets pipes = record pipes { cs = packets }
with_packets Sc packets pipes = record pipes { sc = packets }
with_packets Mm packets pipes = record pipes { mm = packets }
with_packets Md packets pipes = record pipes { md = packets }
with_packets Lc packets pipes = record pipes { lc = packets }
with_packets LcTlm packets pipes = record pipes { lc_tlm = packets }

-- how many packets a pipe holds at most, all together as well as of one id
abbrev pub depth_of : PipeName → ℕ
depth_of Hs = 16
depth_of HsEv = 32
depth_of Cs = 16
depth_of Sc = 16
depth_of Mm = 16
depth_of Md = 16
depth_of Lc = 16
depth_of LcTlm = 256

-- the telemetry that the limit checker takes: all but the events
abbrev pub watched_ids : List ℕ
watched_ids =
    hs_housekeeping ∷ cs_housekeeping ∷ sc_housekeeping ∷ mm_housekeeping ∷ md_housekeeping ∷ mm_peek ∷ mm_dump
    ∷ md_dwell 1 ∷ md_dwell 2 ∷ md_dwell 3 ∷ md_dwell 4 ∷ cs_baseline ∷ lc_housekeeping ∷ []

-- the pipe of the limit checker to which packets of an id go, if any
unfoldable pub watched_pipe_of : ℕ → Option PipeName
watched_pipe_of id =
    if (id == lc_command) || (id == lc_request) then Some Lc
    else if list_any (λ watched. watched == id) watched_ids then Some LcTlm
    else None

-- the pipe to which packets of an id go, if any, where the limit checker is there and where it isn't
unfoldable pub pipe_of : Bool → ℕ → Option PipeName
pipe_of watched id =
    if (id == hs_command) || (id == hs_request) then Some Hs
    else if id == event_id then Some HsEv
    else if (id == cs_command) || (id == cs_request) then Some Cs
    else if (id == sc_command) || (id == sc_request) then Some Sc
    else if (id == mm_command) || (id == mm_request) then Some Mm
    else if (id == md_command) || (id == md_request) then Some Md
    else if watched then watched_pipe_of id
    else None

-- whether a pipe is there
abbrev pub is_there : PipeName → Bool → Bool
is_there Hs watched = true
is_there HsEv watched = true
is_there Cs watched = true
is_there Sc watched = true
is_there Mm watched = true
is_there Md watched = true
is_there Lc watched = watched
is_there LcTlm watched = watched

-- a pipe of this depth, which is its limit too
pub record IsSized (size : ℕ) (pipe : PipeState) : Type 0 where
  pub depth : pipe.depth ≡ size
  pub limit : pipe.limit ≡ size

-- each of the six pipes that are always there has its depth
pub record AreSized (hs hs_ev cs sc mm md : PipeState) : Type 0 where
  pub hs_size : IsSized (depth_of Hs) hs
  pub hs_ev_size : IsSized (depth_of HsEv) hs_ev
  pub cs_size : IsSized (depth_of Cs) cs
  pub sc_size : IsSized (depth_of Sc) sc
  pub mm_size : IsSized (depth_of Mm) mm
  pub md_size : IsSized (depth_of Md) md
