-- The next slice, as it is read.
use Rattle.std.proofs.Common.{◌≡◌, ℕ, ◌+◌, ◌-◌, Bool, true, false, cond, ◌&&◌, List, [], ◌∷◌, ◌++◌, take, drop, refl, sym, ap, ◌∙◌, append-nil}
use Rattle.std.specs.Prelude.{Option, Some, None, min, find, ◌==◌}
use Rattle.bus_pipes.specs.Held.{Held, adding}
use Rattle.bus_pipes.specs.declared.names.Out.{Out}
use Rattle.bus_pipes.specs.declared.names.Out.TheVariants.{Made}
use Rattle.bus_pipes.proofs.Deliveries.{adding_none}
use Rattle.packet_forms.specs.Built.{event_of}
use Rattle.packet_forms.specs.Crc.{crc_of}
use Rattle.memory_window.specs.Memory.{Memory}
use Rattle.cs_slices.specs.Tables.{TablePair, entry_in}
use Rattle.cs_slices.specs.Happenings.{Slice, Happening, slices_among, since_slice, slices_since, reading}
use Rattle.cs_slices.specs.Happenings.Happening.{Read}
use Rattle.cs_slices.specs.Orders.{table_of, takes_part}
use Rattle.cs_slices.specs.Slices.{current_place, offset_at, entry_bytes, slice_from, ring_from, next_slice}
use Rattle.cs_slices.specs.Passes.{pass_bytes, differs, miscompares, baseline_at, differs_behind}
use Rattle.cs_slices.specs.Answers.{slice_items}
use Rattle.cs_slices.specs.Messages.{cs_name}
use Rattle.cs_slices.specs.State.{DutyStands}
use Rattle.cs_slices.specs.declared.segments.Segment.{Segment}
use Rattle.cs_slices.specs.declared.duty.Duty.{Duty}

-- a slice is what was read
pub record IsRead (s : Slice) (at begin size len : ℕ) (those : List ℕ) : Type 0 where
  pub place : s.place ≡ at
  pub from : s.from ≡ begin
  pub till : s.till ≡ begin + size
  pub ends : s.ends ≡ ((begin + size) == len)
  pub bytes : s.bytes ≡ those

pub slice_read : (image : Memory) (e : Segment) (place offset from size len : ℕ) (whole bytes : List ℕ) → from ≡ offset → len ≡ e.len → size ≡ min 1024 (len - from) → whole ≡ entry_bytes image e → bytes ≡ take size (drop from whole)
    → IsRead (slice_from image e place offset) place from size len bytes
unfolding slice_from
slice_read image e place offset from size len whole bytes begins long sized read are =
    let from_back : offset ≡ from = sym begins in
    let size_back : min 1024 (e.len - offset) ≡ size = ap (λ (n : ℕ). min 1024 (n - offset)) (sym long) ∙ ap (λ (n : ℕ). min 1024 (len - n)) from_back ∙ sym sized in
    let end_back : offset + min 1024 (e.len - offset) ≡ from + size = ap (λ (n : ℕ). offset + n) size_back ∙ ap (λ (n : ℕ). n + size) from_back in
    record {
      place = refl;
      from = from_back;
      till = end_back;
      ends = ap (λ (n : ℕ). n == e.len) end_back ∙ ap (λ (n : ℕ). (from + size) == n) (sym long);
      bytes =
          ap (λ (n : ℕ). take n (drop offset (entry_bytes image e))) size_back ∙ ap (λ (n : ℕ). take size (drop n (entry_bytes image e))) from_back
          ∙ ap (λ (xs : List ℕ). take size (drop from xs)) (sym read) ∙ sym are;
    }

-- the items of a slice
pub items_quiet : (time : ℕ) (held : Held Out) (happened : List Happening) (s : Slice) → differs_behind happened s ≡ false → held ≡ adding held (slice_items time happened (Some s))
items_quiet time held happened s quiet =
    sym (ap (λ (b : Bool). adding held (cond b (Made (event_of cs_name 101 3 time) ∷ []) [])) quiet ∙ adding_none held)

pub items_found : (time : ℕ) (held : Held Out) (happened : List Happening) (s : Slice) → differs_behind happened s ≡ true → adding held (Made (event_of cs_name 101 3 time) ∷ []) ≡ adding held (slice_items time happened (Some s))
items_found time held happened s found =
    sym (ap (λ (b : Bool). adding held (cond b (Made (event_of cs_name 101 3 time) ∷ []) [])) found)

pub quiet_before_end : (happened : List Happening) (s : Slice) → s.ends ≡ false → differs_behind happened s ≡ false
unfolding miscompares
quiet_before_end happened s goes = ap (λ (b : Bool). b && differs (baseline_at s.place happened) (crc_of 0 (pass_bytes s.place (slices_since (table_of s.place) happened ++ s ∷ [])))) goes

-- the next slice by the place that was found
module _ (tables : TablePair) (happened : List Happening) (image : Memory) where
  pub next_none : None ≡ find (takes_part tables happened) (ring_from (current_place (slices_among happened))) → next_slice tables happened image ≡ None
  unfolding next_slice
  next_none none = rw (← none) refl

  pub next_some : (place : ℕ) → Some place ≡ find (takes_part tables happened) (ring_from (current_place (slices_among happened)))
      → next_slice tables happened image ≡ Some (slice_from image (entry_in tables place) place (offset_at place (slices_among happened) (since_slice happened)))
  unfolding next_slice
  next_some place found = rw (← found) refl

-- the state after the next slice
pub stands_unread : (tables : TablePair) (happened : List Happening) (next : Option Slice) (duty : Duty) → DutyStands tables happened duty → next ≡ None → DutyStands tables (happened ++ reading next) duty
stands_unread tables happened next duty stood none = rw (none, append-nil happened) stood

pub stands_read : (tables : TablePair) (happened : List Happening) (next : Option Slice) (s : Slice) (duty : Duty) → DutyStands tables (happened ++ Read s ∷ []) duty → next ≡ Some s → DutyStands tables (happened ++ reading next) duty
stands_read tables happened next s duty stood found = rw found stood
