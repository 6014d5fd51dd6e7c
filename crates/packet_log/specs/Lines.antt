-- The lines of the log.
use Rattle.std.specs.Prelude.{ℕ, Bool, if◌then◌else◌, List, ◌++◌, codes, decimal}
unfoldable pub use Rattle.packet_forms.specs.Hex.{hex}
use Rattle.bus_pipes.specs.declared.names.PipeName.{PipeName}
use Rattle.bus_pipes.specs.declared.names.PipeName.TheVariants.{Hs, HsEv, Cs, Sc, Mm, Md, Lc, LcTlm}
use Rattle.bus_pipes.specs.declared.names.Dropped.{Dropped}

-- the line of a packet that was sent in a frame
unfoldable pub packet_line : ℕ → List ℕ → List ℕ
packet_line frame p = decimal frame ++ codes " pkt " ++ hex p ++ codes "\n"

-- what a line calls a pipe
abbrev pub pipe_text : PipeName → List ℕ
pipe_text Hs = codes "HS"
pipe_text HsEv = codes "HS.EV"
pipe_text Cs = codes "CS"
pipe_text Sc = codes "SC"
pipe_text Mm = codes "MM"
pipe_text Md = codes "MD"
pipe_text Lc = codes "LC"
pipe_text LcTlm = codes "LC.TLM"

-- what a line says of why a packet was dropped
abbrev pub cause_text : Bool → List ℕ
cause_text full = if full then codes " full " else codes " limit "

-- the line of a packet that was dropped in a frame
unfoldable pub drop_line : ℕ → Dropped → List ℕ
drop_line frame lost =
    decimal frame ++ codes " drop " ++ pipe_text lost.pipe ++ cause_text lost.full ++ hex lost.packet ++ codes "\n"
