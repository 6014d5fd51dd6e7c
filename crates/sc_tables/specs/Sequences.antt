-- The commands of sequences, and of sets of them.
use Rattle.std.specs.Prelude.{ℕ, ◌-◌, List, [], ◌++◌, take, map, slice_index_or, slice_set, replicate, Option, Some, None}
use Rattle.sc_tables.specs.declared.absolute.Timed.{Timed}
use Rattle.sc_tables.specs.declared.relative.Relative.{Relative}
use Rattle.sc_tables.specs.declared.ats.Ats.{Ats}
use Rattle.sc_tables.specs.declared.rts.Rts.{Rts}
use Rattle.sc_tables.specs.declared.sets.RtsSet.{RtsSet}
use Rattle.sc_tables.specs.Places.{timed_in, relatives_in}
use Rattle.sc_tables.specs.Commands.{TimedCommand, of_timed, of_relative}

-- the commands of an absolute time sequence, by time and then by number
unfoldable pub timed_commands : Ats → List Timed
timed_commands ats = timed_in ats.payload.now (take ats.count ats.places)

-- the commands of a relative time sequence, as they are stored
unfoldable pub relative_commands : Rts → List Relative
relative_commands rts = relatives_in rts.payload.now (take rts.count rts.places)

-- relative time sequence n of a set, from 1, where it is named
abbrev pub named_rts : RtsSet → ℕ → Option Rts
named_rts set n = slice_index_or set.all (n - 1) None

-- the set in which n names this sequence
abbrev pub with_rts : RtsSet → ℕ → Rts → RtsSet
with_rts set n rts = record { all = slice_set set.all (n - 1) (Some rts) }

-- the set in which none is named
abbrev pub no_rts : RtsSet
no_rts = record { all = replicate 64 None }

-- commands with their times, and with their seconds
abbrev pub ats_commands : Option Ats → List TimedCommand
ats_commands None = []
ats_commands (Some ats) = map of_timed (timed_commands ats)

abbrev pub rts_commands : Option Rts → List TimedCommand
rts_commands None = []
rts_commands (Some rts) = map of_relative (relative_commands rts)

-- the commands of all sequences, the absolute ones first
abbrev pub commands_of : List (Option Ats) → List (Option Rts) → List (List TimedCommand)
commands_of ats rts = map ats_commands ats ++ map rts_commands rts

abbrev pub tables_of : List (Option Ats) → RtsSet → List (List TimedCommand)
tables_of ats set = commands_of ats set.all
