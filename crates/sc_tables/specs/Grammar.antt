-- Entries one after another, each in its own length, up to the payload's end or to zero bytes alone.
use Rattle.std.specs.Prelude.{ℕ, zero, suc, ◌+◌, ◌==◌, Bool, if◌then◌else◌, List, [], ◌∷◌, ◌++◌, length, drop, Option, Some, None, Result, Ok, Err}
use Rattle.std.specs.List.{list_all}
use Rattle.table_files.specs.declared.fault.EntryFault.{EntryFault}
use Rattle.sc_tables.specs.declared.reasons.EntryReason.{EntryReason}
use Rattle.sc_tables.specs.Reasons.{reason_number}

-- Of the entry with which some bytes begin: the first reason to refuse it behind the entries before it, what it says, and how many bytes it has.
pub record EntryForm (E : Type 0) : Type 0 where
  pub reason : List E → List ℕ → Option EntryReason
  pub entry : List ℕ → E
  pub size : List ℕ → ℕ

-- no entry is left: nothing remains, or zero bytes alone
unfoldable pub is_end : List ℕ → Bool
is_end bytes = list_all (λ b. b == 0) bytes

-- what is read, where the entry behind these has this reason to be refused, or else what is read with it
abbrev pub unless_refused : {E : Type 0} → List E → Option EntryReason → Result (List E) EntryFault → Result (List E) EntryFault
unless_refused done None read = read
unless_refused done (Some reason) read = Err (record { entry = length done + 1; reason = reason_number reason })

-- what is read of bytes behind some entries, where at most so many more are looked for
unfoldable pub read_from : {E : Type 0} → EntryForm E → ℕ → List E → List ℕ → Result (List E) EntryFault
read_from form zero done bytes = Ok done
read_from form (suc most) done bytes =
    if is_end bytes then Ok done
    else unless_refused done (form.reason done bytes) (read_from form most (done ++ form.entry bytes ∷ []) (drop (form.size bytes) bytes))

-- what is read of a payload: its entries, or its first faulty one, counted from 1. An entry has a byte at least.
unfoldable pub read_of : {E : Type 0} → EntryForm E → List ℕ → Result (List E) EntryFault
read_of form payload = read_from form (length payload) [] payload

-- the fault and the entries that were read
abbrev pub fault_in : {E : Type 0} → Result (List E) EntryFault → Option EntryFault
fault_in (Ok entries) = None
fault_in (Err fault) = Some fault

abbrev pub entries_in : {E : Type 0} → Result (List E) EntryFault → List E
entries_in (Ok entries) = entries
entries_in (Err fault) = []
