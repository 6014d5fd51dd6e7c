-- What MM leaves is admitted, and its load files are there.
use Rattle.std.proofs.Common.{◌≡◌, ℕ, ◌+◌, ◌<◌, ◌%◌, ◌^◌, Bool, true, false, cond, List, [], ◌∷◌, ◌++◌, length, Option, Some, None, refl, ◌∙◌, subst, arith, append-nil, length-append}
use Rattle.std.specs.Prelude.{◌==◌, is_none, Result, Ok, Err, is_some}
use Rattle.std.specs.List.{cons_option}
use Rattle.std.proofs.lemmas.Grind.{common_steps}
use Rattle.std.proofs.lemmas.List.Elements.{filter_map-append, All-append}
use Rattle.std.proofs.lemmas.Nat.{pow_pos}
use Rattle.packet_forms.specs.Crc.{crc_of}
use Rattle.commands.proofs.Answering.{none_fail, one_passes}
use Rattle.table_files.specs.Files.{nth}
use Rattle.memory_window.specs.Operations.{is_size, bytes_loaded, IsBacked}
use Rattle.memory_window.specs.Access.{is_protected, Admitted}
use Rattle.memory_window.specs.declared.access.AccessFault.{AccessFault}
use Rattle.memory_window.specs.declared.operations.MemOp.{MemOp}
use Rattle.memory_window.specs.declared.operations.MemOp.TheVariants as ops
use Rattle.mm_core.specs.Reading.{Seen, value_at, range_at, admission_of, protection_of}
use Rattle.mm_core.specs.Instructions.{file_operation, operation_of, is_fill_len, is_dump_len, is_sized}
use Rattle.mm_core.specs.Verdicts.{file_refusal, access_refusal, CanObey}
use Rattle.mm_core.specs.Step.{operations_of}
use Rattle.mm_core.specs.State.{CanLand}
use Rattle.mm_core.specs.declared.verdicts.Refusal.{Refusal}
use Rattle.mm_core.specs.declared.verdicts.Refusal.TheVariants.{Size, Length, Crc, Region}
use Rattle.mm_core.specs.declared.instructions.Instruction.{Instruction}
use Rattle.mm_core.specs.declared.instructions.Instruction.TheVariants.{Plain, Peek, Poke, Load, LoadFile, Fill, Protect, Dump}

access_passes : (access : Result (Unit {0}) AccessFault) → access_refusal access ≡ None → access ≡ Ok tt
access_passes (Ok done) passes = refl
access_passes (Err fault) passes = cc

is_eeprom_number : (protection : Option Bool) → cond {A = Option Refusal} (is_none protection) (Some Region) None ≡ None → is_some protection ≡ true
is_eeprom_number None passes = cc
is_eeprom_number (Some guarded) passes = refl

low_fits : (size value : ℕ) → value % 2 ^ size < 2 ^ size
low_fits size value = let some : 0 < 2 ^ size = pow_pos size in omega arith

chosen : (test : Bool) (own : Option Refusal) (e : Refusal) → cond test own (Some e) ≡ None → (test ≡ true) × (own ≡ None)
chosen true own e passes = (refl, passes)
chosen false own e passes = cc

-- a command that its own refusals let pass has a size that can be read and written
pub passes_sized : (seen : Seen) (instruction : Instruction) → CanObey seen instruction → is_sized instruction ≡ true
passes_sized seen Plain can = refl
passes_sized seen (Peek size at) can = (chosen (is_size size) (access_refusal (value_at seen.image size at)) Size can.passes).0
passes_sized seen (Poke size at value) can = (chosen (is_size size) (access_refusal (admission_of seen.image (ops.Poke size at (value % 2 ^ size)))) Size can.passes).0
passes_sized seen (Load at crc part) can = refl
passes_sized seen (LoadFile n) can = refl
passes_sized seen (Fill at len byte) can = refl
passes_sized seen (Protect region on) can = refl
passes_sized seen (Dump at len) can = (chosen (is_dump_len len) (access_refusal (range_at seen.image at len)) Length can.passes).0

some_fill : (len : ℕ) → is_fill_len len ≡ true → 0 < len
some_fill len test = grind (arith, common_steps)

-- an operation that can land: memory admits it, and its load file is there
pub record Lands (seen : Seen) (op : MemOp) : Type 0 where
  pub admitted : Admitted seen.image op
  pub backed : IsBacked seen.loads op

-- the operation that loads a file
file_lands : (seen : Seen) (n : ℕ) (found : Option (ℕ × List ℕ)) (op : MemOp) → nth seen.loads n ≡ found → file_refusal seen.image n found ≡ None → 0 < length (bytes_loaded found) → file_operation n found ≡ Some op → Lands seen op
unfolding admission_of
file_lands seen n None op is passes some_bytes left = cc
file_lands seen n (Some load) op is passes some_bytes left =
    let same : ops.FromFile n load.0 (length load.1) ≡ op = cc in
    subst (Lands seen) same (record {
      admitted = record { can_ask = some_bytes; admits = access_passes (admission_of seen.image (ops.FromFile n load.0 (length load.1))) passes };
      backed = (load.1, is, refl);
    })

-- and leaves an operation that can land
pub operation_lands : (seen : Seen) (instruction : Instruction) (op : MemOp) → CanObey seen instruction → operation_of seen.loads instruction ≡ Some op → Lands seen op
unfolding admission_of protection_of
operation_lands seen Plain op can left = cc
operation_lands seen (Peek size at) op can left = cc
operation_lands seen (Poke size at value) op can left =
    let same : ops.Poke size at (value % 2 ^ size) ≡ op = cc in
    let parts = chosen (is_size size) (access_refusal (admission_of seen.image (ops.Poke size at (value % 2 ^ size)))) Size can.passes in
    subst (Lands seen) same (record { admitted = record { can_ask = (parts.0, low_fits size value); admits = access_passes (admission_of seen.image (ops.Poke size at (value % 2 ^ size))) parts.1 }; backed = tt })
operation_lands seen (Load at crc part) op can left =
    let same : ops.Bytes at part ≡ op = cc in
    let parts = chosen (crc_of 0 part == crc) (access_refusal (admission_of seen.image (ops.Bytes at part))) Crc can.passes in
    subst (Lands seen) same (record { admitted = record { can_ask = can.has_bytes; admits = access_passes (admission_of seen.image (ops.Bytes at part)) parts.1 }; backed = tt })
operation_lands seen (LoadFile n) op can left = file_lands seen n (nth seen.loads n) op refl can.passes can.has_bytes left
operation_lands seen (Fill at len byte) op can left =
    let same : ops.Fill at len byte ≡ op = cc in
    let parts = chosen (is_fill_len len) (access_refusal (admission_of seen.image (ops.Fill at len byte))) Length can.passes in
    subst (Lands seen) same (record { admitted = record { can_ask = some_fill len parts.0; admits = access_passes (admission_of seen.image (ops.Fill at len byte)) parts.1 }; backed = tt })
operation_lands seen (Protect region on) op can left =
    let same : ops.Protect region on ≡ op = cc in
    subst (Lands seen) same (record { admitted = record { can_ask = is_eeprom_number (is_protected seen.image region) can.passes; admits = refl }; backed = tt })
operation_lands seen (Dump at len) op can left = cc

-- no operation, and one more
pub nothing_lands : (seen : Seen) (ops : List MemOp) → ops ≡ [] → CanLand seen 0 ops
nothing_lands seen ops none = rw none (record { few = omega arith; admitted = none_fail (Admitted seen.image); backed = none_fail (IsBacked seen.loads) })

pub left_lands : (seen : Seen) (n : ℕ) (before after : List MemOp) (instruction : Instruction) → CanLand seen n before → CanObey seen instruction → after ≡ before ++ cons_option (operation_of seen.loads instruction) [] → CanLand seen (n + 1) after
left_lands seen n before after instruction land can is = by_left (operation_of seen.loads instruction) refl is where
  by_left : (left : Option MemOp) → operation_of seen.loads instruction ≡ left → after ≡ before ++ cons_option left [] → CanLand seen (n + 1) after
  by_left None none same =
      let few = land.few in
      rw (same ∙ append-nil before) (record { few = omega (arith, few); admitted = land.admitted; backed = land.backed })
  by_left (Some op) one more =
      let few = land.few in
      let long = length-append before (op ∷ []) in
      let lands = operation_lands seen instruction op can one in
      rw more (record {
        few = omega (arith, long, few);
        admitted = All-append (Admitted seen.image) before (op ∷ []) land.admitted (one_passes (Admitted seen.image) op lands.admitted);
        backed = All-append (IsBacked seen.loads) before (op ∷ []) land.backed (one_passes (IsBacked seen.loads) op lands.backed);
      })

-- the operations of these orders and one more
pub operations_more : (loads : List (ℕ × List ℕ)) (orders : List Instruction) (instruction : Instruction) → operations_of loads (orders ++ instruction ∷ []) ≡ operations_of loads orders ++ cons_option (operation_of loads instruction) []
unfolding operations_of
operations_more loads orders instruction = filter_map-append (operation_of loads) orders (instruction ∷ [])

pub operations_none : (loads : List (ℕ × List ℕ)) → operations_of loads [] ≡ []
unfolding operations_of
operations_none loads = refl
