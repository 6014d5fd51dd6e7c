-- Which payloads are accepted and which are refused, by how commands are spelled.
use Rattle.std.proofs.Common.{◌≡◌, ℕ, List, [], Some, Result, Ok, Err, refl}
use Rattle.std.specs.Prelude.{◌↔◌, nat_eq}
use Rattle.std.specs.List.{IsDistinct}
use Rattle.table_files.specs.declared.fault.EntryFault.{EntryFault}
use Rattle.sc_tables.specs.declared.absolute.Timed.{Timed}
use Rattle.sc_tables.specs.declared.relative.Relative.{Relative}
use Rattle.sc_tables.specs.Grammar.{entries_in}
use Rattle.sc_tables.specs.Absolute.{timed_form, numbers_of, in_order, stored_ats, ats_of, ats_fault_of}
use Rattle.sc_tables.specs.Relative.{relative_form, stored_rts, rts_fault_of}
use Rattle.sc_tables.specs.Places.{AreInOrder}
use Rattle.sc_tables.specs.Spelling.{timed_spelled, relative_spelled, AreTimed, AreRelative, Spells, Fails}
use Rattle.sc_tables.proofs.Orders.{pairs_rise, in_order_rises}
use Rattle.sc_tables.proofs.Spelled.{AreBytes, Chain, accepted, refused}
use Rattle.sc_tables.proofs.Spellings.{TimedFits, RelativeFits, timed_spelling, relative_spelling, timed_all, timed_apart, timed_chain, relative_all, relative_chain}

-- nothing is used at first
none_apart : IsDistinct nat_eq (numbers_of [])
unfolding IsDistinct
none_apart = tt

are_timed : (commands : List Timed) → Chain TimedFits [] commands → AreTimed commands
are_timed commands chain = record { each = timed_all [] commands chain; apart = timed_apart [] commands chain none_apart }

fit : (commands : List Timed) → AreTimed commands → Chain TimedFits [] commands
fit commands are = timed_chain [] commands are.each are.apart

pub timed_accepted : (payload : List ℕ) (commands : List Timed) → AreBytes payload → (stored_ats payload ≡ Ok commands) ↔ Spells timed_spelled AreTimed payload commands
unfolding stored_ats
timed_accepted = accepted timed_form timed_spelled TimedFits timed_spelling AreTimed are_timed fit

pub timed_refused : (payload : List ℕ) (fault : EntryFault) → AreBytes payload → (ats_fault_of payload ≡ Some fault) ↔ Fails timed_form timed_spelled AreTimed payload fault
unfolding stored_ats ats_fault_of
timed_refused = refused timed_form timed_spelled TimedFits timed_spelling AreTimed are_timed fit

pub relative_accepted : (payload : List ℕ) (commands : List Relative) → AreBytes payload → (stored_rts payload ≡ Ok commands) ↔ Spells relative_spelled AreRelative payload commands
unfolding stored_rts
relative_accepted = accepted relative_form relative_spelled RelativeFits relative_spelling AreRelative (relative_all []) (relative_chain [])

pub relative_refused : (payload : List ℕ) (fault : EntryFault) → AreBytes payload → (rts_fault_of payload ≡ Some fault) ↔ Fails relative_form relative_spelled AreRelative payload fault
unfolding stored_rts rts_fault_of
relative_refused = refused relative_form relative_spelled RelativeFits relative_spelling AreRelative (relative_all []) (relative_chain [])

-- the commands of a payload are in order
ordered : (payload : List ℕ) → AreBytes payload → (read : Result (List Timed) EntryFault) → stored_ats payload ≡ read → AreInOrder (in_order (entries_in read))
ordered payload are (Ok commands) is = pairs_rise (in_order commands) (in_order_rises commands ((timed_accepted payload commands are).0 is).good.apart)
ordered payload are (Err fault) is = pairs_rise (in_order []) (in_order_rises [] none_apart)

pub commands_ordered : (payload : List ℕ) → AreBytes payload → AreInOrder (ats_of payload)
unfolding ats_of
commands_ordered payload are = ordered payload are (stored_ats payload) refl
