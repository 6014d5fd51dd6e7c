-- Lemmas on message actions.
use Rattle.std.proofs.Common.{◌≡◌, ℕ, ◌+◌, ◌-◌, ◌*◌, ◌≤◌, true, List, [], ◌∷◌, ◌++◌, length, take, drop, Option, Some, refl, ap, sym, ◌∙◌, arith, append_assoc, length-append}
use Rattle.std.specs.Prelude.{codes, ◌==◌, nat_le, Ok, replicate}
use Rattle.std.proofs.lemmas.Bool.Decides.{nat_tests}
use Rattle.std.proofs.lemmas.List.{take-take, drop-drop, drop-take, take_all, take_at, length-replicate, get_or_append_left}
use Rattle.packet_forms.specs.Faults.{fault_of}
use Rattle.packet_forms.specs.Numbers.{be16_at}
use Rattle.packet_forms.specs.Packets.{IsPacket, length_field}
use Rattle.packet_forms.proofs.Forms.{none_of_packet}
use Rattle.row_forms.specs.Rows.{row_said, row_size}
use Rattle.row_forms.proofs.SizeLemmas.{row_sizes}
use Rattle.telecommands.specs.declared.command.Command.{Command}
use Rattle.telecommands.specs.Commands.{are_good, command_said}
use Rattle.table_texts.specs.declared.layout.Layout.{Layout}
use Rattle.table_texts.specs.Entries.{values_said}
use Rattle.hs_tables.specs.Actions as actions
use Rattle.table_forms.specs.Layouts.{all_layouts, placed_layout}
use Rattle.table_meanings.specs.Meanings.{Keyed, keyed, Amount, meanings_said, meanings_in}
use Rattle.table_meanings.specs.Tables.{message_of, message_meant, messages_meaning}
use Rattle.table_meanings.proofs.MeaningLemmas.{row_meanings}
use Rattle.table_meanings.proofs.ChunkLemmas.{be16_cut}
use Rattle.table_meanings.proofs.FrontLemmas.{said_packet, IsStored, stored_is}
use Rattle.table_meanings.proofs.KindLemmas.{known_is}
use Rattle.table_meanings.proofs.SaidLemmas.{Fits, area_is}

-- a packet that begins an area
field_there : (p rest : List ℕ) → 8 ≤ length p → length_field (p ++ rest) ≡ length_field p
unfolding length_field be16_at
field_there p rest long = rw (get_or_append_left p rest 0 4 (omega (arith, long)), get_or_append_left p rest 0 5 (omega (arith, long))) refl

packet_there : (p rest : List ℕ) → IsPacket p → length p ≤ 64 → actions.packet_in (p ++ rest) ≡ Some p
unfolding actions.packet_in
packet_there p rest is few =
    let size : length_field (p ++ rest) + 7 ≡ length p = ap (λ (n : ℕ). n + 7) (field_there p rest is.long) ∙ is.field in
    let within : nat_le (length p) 64 ≡ true = grind (arith, nat_tests) in
    rw (size, within, take_at p rest (length p) refl, none_of_packet p is) refl

-- two fields of two bytes in front
front_read : (front rest : List ℕ) → length front ≡ 4 → record { state = be16_at front 0; cooldown = be16_at (drop 2 front) 0; packet = actions.packet_in (take 64 rest) } ≡ actions.row_at (front ++ rest) 0
unfolding be16_at
front_read [] rest long = absurd (omega (arith, long))
front_read (a ∷ []) rest long = absurd (omega (arith, long))
front_read (a ∷ b ∷ []) rest long = absurd (omega (arith, long))
front_read (a ∷ b ∷ c ∷ []) rest long = absurd (omega (arith, long))
front_read (a ∷ b ∷ c ∷ d ∷ []) rest long = refl
front_read (a ∷ b ∷ c ∷ d ∷ e ∷ front) rest long = absurd (omega (arith, long))

fields_meant : (front : List ℕ) → meanings_in all_layouts.actions.fields.now front ≡ keyed (codes "state") (Amount (be16_at front 0)) ∷ keyed (codes "cooldown") (Amount (be16_at (drop 2 front) 0)) ∷ []
unfolding all_layouts meanings_in
fields_meant front = refl

front_size : (epoch : Option ℕ) (ws : List (List ℕ)) (front : List ℕ) → row_said epoch 2 all_layouts.actions.fields.now ws ≡ Ok front → length front ≡ 4
unfolding all_layouts row_size
front_size epoch ws front said = row_sizes epoch 2 4 all_layouts.actions.fields.now ws front refl said

message_bytes : (epoch : Option ℕ) (cs : List Command) (ws : List (List ℕ)) (bytes : List ℕ) (zeros : ℕ) → are_good cs ≡ true → IsStored epoch cs all_layouts.actions.fields.now ws bytes → length bytes ≤ 68 → zeros ≡ 68 - length bytes → message_meant epoch cs ws ≡ Some (actions.row_at (bytes ++ replicate zeros 0) 0)
unfolding all_layouts message_meant
message_bytes epoch cs ws bytes zeros good is room pad =
    let front = is.front in
    let packet = is.packet in
    let four = front_size epoch (take 2 ws) front is.said in
    let form = said_packet epoch 4 cs (drop 2 ws) packet good is.command in
    let long : length bytes ≡ 4 + length packet = ap length (sym is.bytes_are) ∙ length-append front packet ∙ ap (λ (n : ℕ). n + length packet) four in
    let rest = packet ++ replicate zeros 0 in
    let whole : front ++ rest ≡ bytes ++ replicate zeros 0 = sym (append_assoc front packet (replicate zeros 0)) ∙ ap (λ (xs : List ℕ). xs ++ replicate zeros 0) is.bytes_are in
    let size : length rest ≡ 64 = length-append packet (replicate zeros 0) ∙ ap (λ (n : ℕ). length packet + n) (length-replicate zeros 0) ∙ omega (arith, pad, long, room) in
    let area : take 64 rest ≡ rest = take_all 64 rest (omega (arith, size)) in
    let found : actions.packet_in (take 64 rest) ≡ Some packet = ap actions.packet_in area ∙ packet_there packet (replicate zeros 0) form (omega (arith, long, room)) in
    let meant : meanings_said epoch all_layouts.actions.fields.now (take 2 ws) ≡ Some (keyed (codes "state") (Amount (be16_at front 0)) ∷ keyed (codes "cooldown") (Amount (be16_at (drop 2 front) 0)) ∷ []) =
    row_meanings epoch 2 all_layouts.actions.fields.now (take 2 ws) front is.said ∙ ap Some (fields_meant front) in
    ap (λ (ms : Option (List Keyed)). message_of ms (command_said epoch 4 cs (drop 2 ws))) meant
    ∙ ap (message_of (Some (keyed (codes "state") (Amount (be16_at front 0)) ∷ keyed (codes "cooldown") (Amount (be16_at (drop 2 front) 0)) ∷ []))) is.command
    ∙ ap (λ (p : Option (List ℕ)). Some (record { state = be16_at front 0; cooldown = be16_at (drop 2 front) 0; packet = p })) (sym found)
    ∙ ap Some (front_read front rest four ∙ ap (λ (xs : List ℕ). actions.row_at xs 0) whole)

message_zero : actions.row_at (replicate 68 0) 0 ≡ actions.blank_row
unfolding be16_at actions.packet_in length_field fault_of
message_zero = refl

pub messages_fit : (epoch : Option ℕ) (cs : List Command) (l : Layout) → are_good cs ≡ true → placed_layout l ≡ all_layouts.actions → Fits epoch cs l (messages_meaning epoch cs)
unfolding all_layouts messages_meaning
messages_fit epoch cs l good e = record {
  zero = ap (λ (n : ℕ). actions.row_at (replicate n 0) 0) (known_is l all_layouts.actions e).size ∙ message_zero;
  said = λ ws bytes said. one ws bytes said;
} where
  one : (ws : List (List ℕ)) (bytes : List ℕ) → values_said epoch cs l ws ≡ Ok bytes → message_meant epoch cs ws ≡ Some (actions.row_at bytes 0)
  one ws bytes said =
      let known = known_is l all_layouts.actions e in
      let padded = area_is epoch cs l ws bytes (ap (λ (n : ℕ). n == 0) known.area) said in
      let stored = stored_is epoch cs l.fields.now all_layouts.actions.fields.now ws padded.stored known.fields refl padded.is in
      let size : l.size ≡ 68 = known.size in
      let few = padded.few in
      message_bytes epoch cs ws padded.stored (l.size - length padded.stored) good stored (omega (arith, size, few)) (omega (arith, size))
      ∙ ap (λ (xs : List ℕ). Some (actions.row_at xs 0)) padded.bytes_are

area_cut : (payload : List ℕ) (i : ℕ) → take 64 (drop (68 * i + 4) payload) ≡ take 64 (drop 4 (take 68 (drop (68 * i) payload)))
area_cut payload i =
    sym (ap (take 64) (drop-take 4 64 (drop (68 * i) payload) ∙ ap (take 64) (drop-drop 4 (68 * i) payload)) ∙ take-take 64 64 (drop (68 * i + 4) payload) (omega arith))

pub message_cut : (payload : List ℕ) (i : ℕ) → actions.row_at payload i ≡ actions.row_at (take 68 (drop (68 * i) payload)) 0
message_cut payload i =
    let first : 68 * i + 0 ≡ 68 * i = omega arith in
    rw (
      be16_cut 68 (68 * i) 0 (68 * i) payload (omega arith) first,
      be16_cut 68 (68 * i) 2 (68 * i + 2) payload (omega arith) refl,
      area_cut payload i,
    ) refl
