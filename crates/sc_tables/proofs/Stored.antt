-- The places that were written so far, and what was read.
use Rattle.std.proofs.Common.{◌≡◌, ℕ, ◌+◌, ◌-◌, ◌*◌, ◌^◌, ◌<◌, ◌≤◌, Bool, true, false, List, [], ◌∷◌, ◌++◌, length, take, drop, set, replicate, Option, Some, None, Ok, Err, refl, sym, ◌∙◌, subst, arith, length-take-le, ap}
use Rattle.std.specs.Prelude.{◌==◌, nat_eq, is_none}
use Rattle.std.specs.List.{All, IsDistinct, list_all}
use Rattle.std.proofs.lemmas.Cmp.{nat_eq_equiv}
use Rattle.std.proofs.lemmas.List.{map_push, length_push, take_rest, take_more_set, length-map, length-drop}
use Rattle.std.proofs.lemmas.List.Elements.{All-nil, All-push, All-map, All-weaker}
use Rattle.std.proofs.lemmas.Map.Keys.{IsDistinct-push}
use Rattle.packet_forms.specs.Numbers.{be16_at, be32_at}
use Rattle.sc_tables.specs.declared.absolute.Timed.{Timed}
use Rattle.sc_tables.specs.declared.absolute.Place.{Place}
use Rattle.sc_tables.specs.declared.reasons.EntryReason.{EntryReason}
use Rattle.table_files.specs.declared.fault.EntryFault.{EntryFault}
use Rattle.sc_tables.specs.Reasons.{reason_number}
use Rattle.sc_tables.specs.Grammar.{is_end, fault_in}
use Rattle.sc_tables.specs.Absolute.{timed_at, timed_size, timed_reason, timed_form, numbers_of, is_used, stored_ats, ats_fault_of}
use Rattle.sc_tables.specs.Relative.{relative_at, relative_size, relative_reason, relative_form, stored_rts, rts_fault_of}
use Rattle.sc_tables.specs.Places.{timed_in, relatives_in, IsPlaced, ArePlaced, AreWhole, AreFlags, AreStored}
use Rattle.sc_tables.proofs.Fronts.{timed_front, timed_sized, timed_unused, timed_alone, relative_front, relative_sized}
use Rattle.sc_tables.proofs.Flags.{no_flags, flag_more, few_numbers}
use Rattle.sc_tables.proofs.Progress.{IsReadTo, read_none, read_more, read_all, read_fault}

pub record AreRead (payload : List ℕ) (places : List Place) (used : List Bool) (at : ℕ) : Type 0 where
  pub so_far : IsReadTo timed_form payload (timed_in payload places) at
  pub far : at ≤ 262 * length places
  pub placed : ArePlaced payload places
  pub flags : AreFlags (timed_in payload places) used
  pub apart : IsDistinct nat_eq (numbers_of (timed_in payload places))

pub none_read : (payload : List ℕ) → AreRead payload [] (replicate 1001 false) 0
unfolding IsDistinct
none_read payload = record { so_far = read_none timed_form payload; far = omega arith; placed = All-nil (IsPlaced payload); flags = no_flags; apart = tt }

-- an entry without a reason to be refused
pub sound : {A : Type 0} (o : Option A) → o ≡ None → is_none o ≡ true
sound None none = refl
sound (Some a) none = cc

pub number_at : (bytes : List ℕ) → (timed_at bytes).number ≡ be16_at bytes 0
unfolding timed_at
number_at bytes = refl

pub timed_more : (payload : List ℕ) (places : List Place) (p : Place) → timed_in payload (places ++ p ∷ []) ≡ timed_in payload places ++ timed_at (drop p.at payload) ∷ []
timed_more payload places p = map_push (λ (q : Place). timed_at (drop q.at payload)) places p

pub apart_more : (commands : List Timed) (c : Timed) → IsDistinct nat_eq (numbers_of commands) → is_used c.number commands ≡ false → IsDistinct nat_eq (numbers_of (commands ++ c ∷ []))
apart_more commands c apart unused = rw (map_push (λ (d : Timed). d.number) commands c) (IsDistinct-push nat_eq_equiv (numbers_of commands) c.number apart unused)

pub one_read : (payload : List ℕ) (places : List Place) (used : List Bool) (p : Place) (size : ℕ) → AreRead payload places used p.at → is_end (drop p.at payload) ≡ false
    → timed_reason (timed_in payload places) (drop p.at payload) ≡ None → p.tag ≡ be32_at (drop p.at payload) 2 → p.number ≡ be16_at (drop p.at payload) 0 → size ≡ timed_size (drop p.at payload)
    → AreRead payload (places ++ p ∷ []) (set used p.number true) (p.at + size)
one_read payload places used p size read going accepted tag number is =
    let bytes : List ℕ = drop p.at payload in
    let commands : List Timed = timed_in payload places in
    let passes = sound (timed_reason commands bytes) accepted in
    let front = timed_front commands bytes passes in
    let sized = timed_sized bytes front in
    let counted : length (places ++ p ∷ []) ≡ length places + 1 = length_push places p in
    let same : (timed_at bytes).number ≡ p.number = number_at bytes ∙ sym number in
    let unused : is_used (timed_at bytes).number commands ≡ false = rw (number_at bytes) (timed_unused commands bytes passes) in
    let small : (timed_at bytes).number ≤ 1000 = rw (number_at bytes) front.most in
    let flags : AreFlags (commands ++ timed_at bytes ∷ []) (set used p.number true)
    = subst (λ (n : ℕ). AreFlags (commands ++ timed_at bytes ∷ []) (set used n true)) same (flag_more commands used (timed_at bytes) small read.flags) in
    record {
      so_far = rw (timed_more payload places p) (read_more timed_form payload commands p.at size read.so_far going accepted is (omega arith) (omega arith));
      far = omega arith;
      placed = All-push (IsPlaced payload) places p read.placed (record { whole = timed_alone commands bytes passes; tag = tag; number = number });
      flags = rw (timed_more payload places p) flags;
      apart = rw (timed_more payload places p) (apart_more commands (timed_at bytes) read.apart unused);
    }

abbrev IsNumber : ℕ → Type 0
IsNumber n = (1 ≤ n) × (n ≤ 1000)

numbered : (payload : List ℕ) (p : Place) → IsPlaced payload p → IsNumber (timed_at (drop p.at payload)).number
numbered payload p placed =
    let front = timed_front [] (drop p.at payload) placed.whole in
    rw (number_at (drop p.at payload)) (front.least, front.most)

-- there are at most as many as there are numbers
pub few_read : (payload : List ℕ) (places : List Place) (used : List Bool) (at : ℕ) → AreRead payload places used at → length places ≤ 1000
few_read payload places used at read =
    let commands : List Timed = timed_in payload places in
    let each : All (λ (p : Place). IsNumber (timed_at (drop p.at payload)).number) places = All-weaker (IsPlaced payload) (λ (p : Place). IsNumber (timed_at (drop p.at payload)).number) (numbered payload) places read.placed in
    let all : All IsNumber (numbers_of commands) = All-map IsNumber (λ (c : Timed). c.number) commands (All-map (λ (c : Timed). IsNumber c.number) (λ (p : Place). timed_at (drop p.at payload)) places each) in
    omega (arith, few_numbers (numbers_of commands) read.apart all, length-map commands (λ (c : Timed). c.number), length-map places (λ (p : Place). timed_at (drop p.at payload)))

-- the same of a relative time sequence
pub record AreReadRelative (payload places : List ℕ) (at : ℕ) : Type 0 where
  pub so_far : IsReadTo relative_form payload (relatives_in payload places) at
  pub spare : 10 * length places ≤ at
  pub whole : AreWhole payload places

pub no_relative_read : (payload : List ℕ) → AreReadRelative payload [] 0
no_relative_read payload = record { so_far = read_none relative_form payload; spare = omega arith; whole = All-nil (λ (at : ℕ). is_none (relative_reason (drop at payload)) ≡ true) }

pub one_relative_read : (payload places : List ℕ) (at size : ℕ) → AreReadRelative payload places at → is_end (drop at payload) ≡ false → relative_reason (drop at payload) ≡ None → size ≡ relative_size (drop at payload)
    → AreReadRelative payload (places ++ at ∷ []) (at + size)
one_relative_read payload places at size read going accepted is =
    let bytes : List ℕ = drop at payload in
    let passes = sound (relative_reason bytes) accepted in
    let front = relative_front bytes passes in
    let sized = relative_sized bytes front in
    let counted : length (places ++ at ∷ []) ≡ length places + 1 = length_push places at in
    record {
      so_far = rw (map_push (λ (a : ℕ). relative_at (drop a payload)) places at) (read_more relative_form payload (relatives_in payload places) at size read.so_far going accepted is (omega arith) (omega arith));
      spare = omega arith;
      whole = All-push (λ (a : ℕ). is_none (relative_reason (drop a payload)) ≡ true) places at read.whole passes;
    }

-- where no entry has a fault, the next one has no reason to be refused
pub unfaulted : (payload : List ℕ) (places : List Place) (used : List Bool) (at : ℕ) → ats_fault_of payload ≡ None → AreRead payload places used at → is_end (drop at payload) ≡ false
    → timed_reason (timed_in payload places) (drop at payload) ≡ None
unfolding ats_fault_of stored_ats
unfaulted payload places used at well read going = by_reason (timed_reason (timed_in payload places) (drop at payload)) refl
  where
    by_reason : (o : Option EntryReason) → timed_reason (timed_in payload places) (drop at payload) ≡ o → o ≡ None
    by_reason None is = refl
    by_reason (Some reason) is = let fault = sym (ap fault_in (read_fault timed_form payload (timed_in payload places) at reason read.so_far going is)) ∙ well in cc

pub relative_unfaulted : (payload places : List ℕ) (at : ℕ) → rts_fault_of payload ≡ None → AreReadRelative payload places at → is_end (drop at payload) ≡ false → relative_reason (drop at payload) ≡ None
unfolding rts_fault_of stored_rts
relative_unfaulted payload places at well read going = by_reason (relative_reason (drop at payload)) refl
  where
    by_reason : (o : Option EntryReason) → relative_reason (drop at payload) ≡ o → o ≡ None
    by_reason None is = refl
    by_reason (Some reason) is = let fault = sym (ap fault_in (read_fault relative_form payload (relatives_in payload places) at reason read.so_far going is)) ∙ well in cc

-- What the tests of a turn say: whether the end is reached, and that the next entry has no reason to be refused.
pub end_tested : (payload : List ℕ) (at : ℕ) (test ended : Bool) → test ≡ list_all (λ (b : ℕ). b == 0) (take (length payload - at) (drop at payload)) → test ≡ ended → is_end (drop at payload) ≡ ended
unfolding is_end
end_tested payload at test ended is said = rw take_rest at (sym is) ∙ said

-- The next entry of a payload, which is accepted.
pub record IsNext (payload : List ℕ) (places : List Place) (count at : ℕ) : Type 0 where
  pub going : is_end (drop at payload) ≡ false
  pub accepted : timed_reason (timed_in payload (take count places)) (drop at payload) ≡ None
  pub long : 14 ≤ length (take (length payload - at) (drop at payload))
  pub number : be16_at (take (length payload - at) (drop at payload)) 0 ≤ 1000
  pub room : count < 1000
  pub size : timed_size (take (length payload - at) (drop at payload)) + at ≤ length payload
  pub some : 14 ≤ timed_size (take (length payload - at) (drop at payload))
  pub few : timed_size (take (length payload - at) (drop at payload)) ≤ 262
  pub far : at < 2 ^ 32

pub next_is : (payload : List ℕ) (places : List Place) (count : ℕ) (used : List Bool) (at : ℕ) (test : Bool) (answer : Option EntryReason) → length places ≡ 1000 → count ≤ 1000 → AreRead payload (take count places) used at
    → test ≡ list_all (λ (b : ℕ). b == 0) (take (length payload - at) (drop at payload)) → test ≡ false
    → answer ≡ timed_reason (timed_in payload (take count places)) (take (length payload - at) (drop at payload)) → answer ≡ None
    → IsNext payload places count at
next_is payload places count used at test answer whole few read tested going reason none =
    let bytes : List ℕ = drop at payload in
    let rest : take (length payload - at) bytes ≡ bytes = take_rest payload at in
    let here : is_end bytes ≡ false = end_tested payload at test false tested going in
    let accepted : timed_reason (timed_in payload (take count places)) bytes ≡ None = rw rest at (sym reason) ∙ none in
    let front = timed_front (timed_in payload (take count places)) bytes (sound (timed_reason (timed_in payload (take count places)) bytes) accepted) in
    let sized = timed_sized bytes front in
    let p : Place = record { tag = be32_at bytes 2; number = be16_at bytes 0; at = at } in
    let one = one_read payload (take count places) used p (timed_size bytes) read here accepted refl refl refl in
    let counted : length (take count places) ≡ count = length-take-le count places (omega arith) in
    let more : length (take count places ++ p ∷ []) ≡ length (take count places) + 1 = length_push (take count places) p in
    let cut = length-drop at payload in
    let far = read.far in
    let within = read.so_far.within in
    let most = few_read payload (take count places ++ p ∷ []) (set used p.number true) (at + timed_size bytes) one in
    record {
      going = here;
      accepted = accepted;
      long = rw rest front.long;
      number = rw rest front.most;
      room = omega arith;
      size = rw rest (omega arith);
      some = rw rest sized.least;
      few = rw rest sized.most;
      far = omega arith;
    }

-- the next entry of a payload without a fault
pub next_well : (payload : List ℕ) (places : List Place) (count : ℕ) (used : List Bool) (at : ℕ) (test : Bool) → ats_fault_of payload ≡ None → length places ≡ 1000 → count ≤ 1000 → AreRead payload (take count places) used at
    → test ≡ list_all (λ (b : ℕ). b == 0) (take (length payload - at) (drop at payload)) → test ≡ false → IsNext payload places count at
next_well payload places count used at test well whole few read tested going =
    let accepted = unfaulted payload (take count places) used at well read (end_tested payload at test false tested going) in
    next_is payload places count used at test None whole few read tested going (rw (take_rest payload at) (sym accepted)) refl

pub one_more : (payload : List ℕ) (places : List Place) (count : ℕ) (used : List Bool) (p : Place) (size : ℕ) → length places ≡ 1000 → AreRead payload (take count places) used p.at → IsNext payload places count p.at
    → p.tag ≡ be32_at (take (length payload - p.at) (drop p.at payload)) 2 → p.number ≡ be16_at (take (length payload - p.at) (drop p.at payload)) 0 → size ≡ timed_size (take (length payload - p.at) (drop p.at payload))
    → AreRead payload (take (count + 1) (set places count p)) (set used p.number true) (p.at + size)
one_more payload places count used p size whole read next tag number is =
    let rest : take (length payload - p.at) (drop p.at payload) ≡ drop p.at payload = take_rest payload p.at in
    let room = next.room in
    rw (take_more_set places count p (omega arith)) (one_read payload (take count places) used p size read next.going next.accepted (rw rest at tag) (rw rest at number) (rw rest at is))

pub all_read : (payload : List ℕ) (places : List Place) (used : List Bool) (at : ℕ) → AreRead payload places used at → is_end (drop at payload) ≡ true → AreStored payload places
unfolding stored_ats
all_read payload places used at read ended =
    record { stored = read_all timed_form payload (timed_in payload places) at read.so_far ended; placed = read.placed; apart = read.apart }

pub fault_read : (payload : List ℕ) (places : List Place) (count : ℕ) (used : List Bool) (at : ℕ) (answer : Option EntryReason) (reason : EntryReason) (fault : EntryFault) → length places ≡ 1000 → count ≤ 1000
    → AreRead payload (take count places) used at → is_end (drop at payload) ≡ false
    → answer ≡ timed_reason (timed_in payload (take count places)) (take (length payload - at) (drop at payload)) → answer ≡ Some reason
    → fault ≡ record { entry = count + 1; reason = reason_number reason } → stored_ats payload ≡ Err fault
unfolding stored_ats
fault_read payload places count used at answer reason fault whole few read going asked some is =
    let rest : take (length payload - at) (drop at payload) ≡ drop at payload = take_rest payload at in
    let faulty : timed_reason (timed_in payload (take count places)) (drop at payload) ≡ Some reason = rw rest at (sym asked) ∙ some in
    let counted : length (timed_in payload (take count places)) ≡ count = length-map (take count places) (λ (p : Place). timed_at (drop p.at payload)) ∙ length-take-le count places (omega arith) in
    read_fault timed_form payload (timed_in payload (take count places)) at reason read.so_far going faulty ∙ rw (counted, is) refl

-- The same of a relative time sequence.
pub record IsNextRelative (payload places : List ℕ) (count at : ℕ) : Type 0 where
  pub going : is_end (drop at payload) ≡ false
  pub accepted : relative_reason (drop at payload) ≡ None
  pub long : 10 ≤ length (take (length payload - at) (drop at payload))
  pub room : count < 204
  pub size : relative_size (take (length payload - at) (drop at payload)) + at ≤ length payload
  pub some : 10 ≤ relative_size (take (length payload - at) (drop at payload))

pub next_relative_is : (payload places : List ℕ) (count at : ℕ) (test : Bool) (answer : Option EntryReason) → length payload ≤ 2048 → length places ≡ 204 → count ≤ 204 → AreReadRelative payload (take count places) at
    → test ≡ list_all (λ (b : ℕ). b == 0) (take (length payload - at) (drop at payload)) → test ≡ false
    → answer ≡ relative_reason (take (length payload - at) (drop at payload)) → answer ≡ None
    → IsNextRelative payload places count at
next_relative_is payload places count at test answer short whole few read tested going reason none =
    let bytes : List ℕ = drop at payload in
    let rest : take (length payload - at) bytes ≡ bytes = take_rest payload at in
    let accepted : relative_reason bytes ≡ None = rw rest at (sym reason) ∙ none in
    let front = relative_front bytes (sound (relative_reason bytes) accepted) in
    let sized = relative_sized bytes front in
    let counted : length (take count places) ≡ count = length-take-le count places (omega arith) in
    let cut = length-drop at payload in
    let spare = read.spare in
    let within = read.so_far.within in
    record {
      going = end_tested payload at test false tested going;
      accepted = accepted;
      long = rw rest front.long;
      room = omega arith;
      size = rw rest (omega arith);
      some = rw rest sized.least;
    }

pub next_relative_well : (payload places : List ℕ) (count at : ℕ) (test : Bool) → rts_fault_of payload ≡ None → length payload ≤ 2048 → length places ≡ 204 → count ≤ 204 → AreReadRelative payload (take count places) at
    → test ≡ list_all (λ (b : ℕ). b == 0) (take (length payload - at) (drop at payload)) → test ≡ false → IsNextRelative payload places count at
next_relative_well payload places count at test well short whole few read tested going =
    let accepted = relative_unfaulted payload (take count places) at well read (end_tested payload at test false tested going) in
    next_relative_is payload places count at test None short whole few read tested going (rw (take_rest payload at) (sym accepted)) refl

pub one_more_relative : (payload places : List ℕ) (count at size : ℕ) → length places ≡ 204 → AreReadRelative payload (take count places) at → IsNextRelative payload places count at
    → size ≡ relative_size (take (length payload - at) (drop at payload))
    → AreReadRelative payload (take (count + 1) (set places count at)) (at + size)
one_more_relative payload places count at size whole read next is =
    let room = next.room in
    rw (take_more_set places count at (omega arith)) (one_relative_read payload (take count places) at size read next.going next.accepted (rw (take_rest payload at) at is))

pub all_relative_read : (payload places : List ℕ) (at : ℕ) → AreReadRelative payload places at → is_end (drop at payload) ≡ true → stored_rts payload ≡ Ok (relatives_in payload places)
unfolding stored_rts
all_relative_read payload places at read ended = read_all relative_form payload (relatives_in payload places) at read.so_far ended

pub relative_fault_read : (payload places : List ℕ) (count at : ℕ) (answer : Option EntryReason) (reason : EntryReason) (fault : EntryFault) → length places ≡ 204 → count ≤ 204
    → AreReadRelative payload (take count places) at → is_end (drop at payload) ≡ false
    → answer ≡ relative_reason (take (length payload - at) (drop at payload)) → answer ≡ Some reason
    → fault ≡ record { entry = count + 1; reason = reason_number reason } → stored_rts payload ≡ Err fault
unfolding stored_rts
relative_fault_read payload places count at answer reason fault whole few read going asked some is =
    let faulty : relative_reason (drop at payload) ≡ Some reason = rw (take_rest payload at) at (sym asked) ∙ some in
    let counted : length (relatives_in payload (take count places)) ≡ count = length-map (take count places) (λ (a : ℕ). relative_at (drop a payload)) ∙ length-take-le count places (omega arith) in
    read_fault relative_form payload (relatives_in payload (take count places)) at reason read.so_far going faulty ∙ rw (counted, is) refl
