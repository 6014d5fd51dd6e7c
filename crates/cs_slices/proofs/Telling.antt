-- Where the event of a miscompare stands among what CS sends.
use Rattle.std.proofs.Common.{◌≡◌, ◌≢◌, ℕ, suc, ◌+◌, ◌*◌, ◌/◌, ◌%◌, ◌<◌, Bool, true, false, cond, not, ◌&&◌, ◌||◌, List, [], ◌∷◌, ◌++◌, refl, ap, ◌∙◌, arith, lit<, ne_eqb}
use Rattle.std.specs.Prelude.{Option, Some, None, ◌==◌}
use Rattle.std.specs.List.{All, list_any}
use Rattle.std.proofs.lemmas.List.Elements.{All-append}
use Rattle.histories.proofs.Along.{joined_among}
use Rattle.packet_forms.specs.Numbers.{be16_at, be16_bytes, be32_bytes}
use Rattle.packet_forms.specs.Packets.{message_id, function_code, is_checksum_right, payload_of}
use Rattle.packet_forms.specs.Names.{name_of}
use Rattle.packet_forms.specs.Built.{telemetry_of, event_of, event_payload, primary_header}
use Rattle.packet_forms.proofs.Forms.{telemetry_message_id}
use Rattle.bus_pipes.specs.declared.names.Out.{Out}
use Rattle.bus_pipes.specs.declared.names.Out.TheVariants.{Made}
use Rattle.commands.specs.Rows.{row_of, is_length_allowed}
use Rattle.commands.specs.Verdicts.{orders_in, judged_by, verdict_by_row, verdict_at, verdicts_on}
use Rattle.commands.specs.Answering.{packet_items, command_items}
use Rattle.commands.specs.declared.verdicts.CodeRow.{CodeRow}
use Rattle.commands.specs.declared.verdicts.Verdict.{Verdict}
use Rattle.commands.specs.declared.verdicts.Verdict.TheVariants.{Other, Request, Refused, Accepted}
use Rattle.commands.proofs.Answering.{none_fail, one_passes}
use Rattle.commands.proofs.Heard.{each_verdict}
use Rattle.cs_slices.specs.Messages.{cs_name, miscompare_event}
use Rattle.cs_slices.specs.Verdicts.{number_of, own_refusal, cs_protocol}
use Rattle.cs_slices.specs.Tables.{TablePair}
use Rattle.cs_slices.specs.Happenings.{Slice, Happening, slices_since}
use Rattle.cs_slices.specs.Orders.{table_of}
use Rattle.packet_forms.specs.Crc.{crc_of}
use Rattle.cs_slices.specs.Passes.{pass_bytes, miscompares, baseline_at, differs_behind}
use Rattle.cs_slices.specs.Wakeups.{Input, heard_at}
use Rattle.cs_slices.specs.Histories.{CsEntry, tables_after, before_slice, happened_of, slice_at}
use Rattle.cs_slices.specs.Housekeeping.{housekeeping_of, housekeeping_at}
use Rattle.cs_slices.specs.Answers.{baseline_packet, replies_to}
use Rattle.cs_slices.specs.Answers.{slice_items}
use Rattle.cs_slices.specs.Step.{Turn, turn_of, happened_in, cs_answers, cs_items}
use Rattle.cs_slices.specs.Telling.{tells_miscompare}
use Rattle.cs_slices.specs.declared.verdicts.Refusal.{Refusal}
use Rattle.cs_slices.specs.declared.verdicts.Refusal.TheVariants as refusals
use Rattle.cs_slices.specs.declared.instructions.Instruction.{Instruction}
use Rattle.cs_slices.specs.declared.instructions.Instruction.TheVariants.{Plain, Whole, Table, Entry, Report}

-- telemetry of another id
other_id : (id time : ℕ) (payload : List ℕ) → id < 8192 → id ≢ 0x0808 → tells_miscompare (Made (telemetry_of id time payload)) ≡ false
other_id id time payload small other =
    ap (λ (b : Bool). b && ((be16_at (telemetry_of id time payload) 32 == miscompare_event) && (be16_at (telemetry_of id time payload) 34 == 3)))
    (ap (λ (n : ℕ). n == 0x0808) (telemetry_message_id id time payload small) ∙ ne_eqb id 0x0808 other)

-- an event by its id and its type
event_told : (id kind time : ℕ) → id < 65536 → kind < 65536 → tells_miscompare (Made (event_of cs_name id kind time)) ≡ ((id == miscompare_event) && (kind == 3))
unfolding event_of telemetry_of event_payload primary_header be16_bytes be32_bytes be16_at cs_name name_of message_id
event_told id kind time small short =
    let id_is : (id / 256 % 256) * 256 + id % 256 ≡ id = omega arith in
    let kind_is : (kind / 256 % 256) * 256 + kind % 256 ≡ kind = omega arith in
    ap (λ (n : ℕ). (n == miscompare_event) && (((kind / 256 % 256) * 256 + kind % 256) == 3)) id_is ∙ ap (λ (n : ℕ). (id == miscompare_event) && (n == 3)) kind_is

-- a verdict that isn't refused by a number over 6, and whose code is below 128
abbrev Small : Verdict Instruction → Type 0
Small Other = Unit {0}
Small Request = Unit {0}
Small (Refused reason) = reason < 7
Small (Accepted code instruction) = code < 128

small_number : (reason : Refusal) → number_of reason < 7
small_number refusals.Table = lit< tt
small_number refusals.Entry = lit< tt
small_number refusals.Empty = lit< tt

small_code : (p : List ℕ) → function_code p < 128
unfolding function_code
small_code p = omega arith

judged_small : (own : Option Refusal) (code : ℕ) (instruction : Instruction) → code < 128 → Small (judged_by number_of own code instruction)
judged_small None code instruction small = small
judged_small (Some reason) code instruction small = small_number reason

row_small : (tables : TablePair) (orders : List Instruction) (o : Option CodeRow) (code : ℕ) (payload : List ℕ) → code < 128 → Small (verdict_by_row cs_protocol tables orders o code payload)
row_small tables orders None code payload small = lit< tt
row_small tables orders (Some row) code payload small = by_length (is_length_allowed row payload)
  where
    by_length : (b : Bool) → Small (cond b (judged_by number_of (own_refusal tables (cs_protocol.language.decode code payload)) code (cs_protocol.language.decode code payload)) (Refused 3))
    by_length true = judged_small (own_refusal tables (cs_protocol.language.decode code payload)) code (cs_protocol.language.decode code payload) small
    by_length false = lit< tt

verdict_small : (tables : TablePair) (orders : List Instruction) (p : List ℕ) → Small (verdict_at cs_protocol tables orders p)
unfolding verdict_at
verdict_small tables orders p = by_id (message_id p == cs_protocol.language.request_id) (message_id p == cs_protocol.language.command_id) (is_checksum_right p)
  where
    by_id : (a b c : Bool) → Small (cond a Request (cond b (cond c (verdict_by_row cs_protocol tables orders (row_of cs_protocol.language.codes (function_code p)) (function_code p) (payload_of p)) (Refused 1)) Other))
    by_id true b c = tt
    by_id false true true = row_small tables orders (row_of cs_protocol.language.codes (function_code p)) (function_code p) (payload_of p) (small_code p)
    by_id false true false = lit< tt
    by_id false false c = tt

-- what answers a command is no event of a miscompare
abbrev IsOther : Out → Type 0
IsOther item = tells_miscompare item ≡ false

replies_other : (time : ℕ) (happened : List Happening) (instruction : Instruction) → All IsOther (replies_to time happened instruction)
unfolding baseline_packet
replies_other time happened Plain = none_fail IsOther
replies_other time happened (Whole on) = none_fail IsOther
replies_other time happened (Table table on) = none_fail IsOther
replies_other time happened (Entry table number on) = none_fail IsOther
replies_other time happened (Report table number) = one_passes IsOther _ (other_id 0x08A5 time _ (lit< tt) (λ same. absurd (omega (arith, same))))

refused_other : (reason time : ℕ) → reason < 7 → IsOther (Made (event_of cs_name reason 3 time))
refused_other reason time small =
    event_told reason 3 time (omega arith) (lit< tt) ∙ ap (λ (b : Bool). b && (3 == 3)) (ne_eqb reason miscompare_event (λ same. absurd (omega (arith, same))))

accepted_other : (code time : ℕ) → code < 128 → IsOther (Made (event_of cs_name (16 + code) 2 time))
accepted_other code time small = event_told (16 + code) 2 time (omega arith) (lit< tt) ∙ never ((16 + code) == miscompare_event)
  where
    never : (b : Bool) → (b && (2 == 3)) ≡ false
    never true = refl
    never false = refl

packet_other : (turn : Turn) (before : List (Verdict Instruction)) (verdict : Verdict Instruction) → Small verdict → All IsOther (packet_items cs_answers cs_name turn before verdict)
unfolding packet_items housekeeping_at housekeeping_of
packet_other turn before Other small = none_fail IsOther
packet_other turn before Request small = one_passes IsOther _ (other_id 0x08A4 turn.input.time _ (lit< tt) (λ same. absurd (omega (arith, same))))
packet_other turn before (Refused reason) small = one_passes IsOther _ (refused_other reason turn.input.time small)
packet_other turn before (Accepted code instruction) small =
    All-append IsOther _ _ (replies_other turn.input.time (happened_in turn (orders_in before)) instruction) (one_passes IsOther _ (accepted_other code turn.input.time small))

commands_other : (turn : Turn) (tables : TablePair) (packets : List (List ℕ)) → All IsOther (command_items cs_answers cs_name turn (verdicts_on cs_protocol tables packets))
unfolding command_items
commands_other turn tables packets =
    joined_among Small IsOther (packet_items cs_answers cs_name turn) (packet_other turn) (verdicts_on cs_protocol tables packets) (each_verdict cs_protocol tables Small (verdict_small tables) packets)

-- in a list of which none passes
none_passes : (items : List Out) → All IsOther items → list_any tells_miscompare items ≡ false
none_passes [] others = refl
none_passes (item ∷ items) others =
    rw (others 0 item (omega arith)) (none_passes items (λ k d within. others (suc k) d (omega arith)))

any_both : (xs ys : List Out) → list_any tells_miscompare (xs ++ ys) ≡ (list_any tells_miscompare xs || list_any tells_miscompare ys)
any_both [] ys = refl
any_both (x ∷ xs) ys = by_case (tells_miscompare x) (any_both xs ys)
  where
    by_case : (b : Bool) → list_any tells_miscompare (xs ++ ys) ≡ (list_any tells_miscompare xs || list_any tells_miscompare ys) → (b || list_any tells_miscompare (xs ++ ys)) ≡ ((b || list_any tells_miscompare xs) || list_any tells_miscompare ys)
    by_case true rest = refl
    by_case false rest = rest

-- among the items of a wakeup the event stands exactly where its slice miscompares
abbrev pub slice_miscompares : List Happening → Option Slice → Bool
slice_miscompares happened None = false
slice_miscompares happened (Some s) = differs_behind happened s

slice_told : (time : ℕ) (happened : List Happening) (o : Option Slice) → list_any tells_miscompare (slice_items time happened o) ≡ slice_miscompares happened o
slice_told time happened None = refl
slice_told time happened (Some s) = by_case (differs_behind happened s)
  where
    by_case : (b : Bool) → list_any tells_miscompare (cond b (Made (event_of cs_name miscompare_event 3 time) ∷ []) []) ≡ b
    by_case true = ap (λ (b : Bool). b || false) (event_told miscompare_event 3 time (lit< tt) (lit< tt))
    by_case false = refl

-- what happened before the slice of a wakeup
abbrev pub happened_before : TablePair → List CsEntry → Input → List Happening
happened_before tables history input = before_slice (tables_after tables history) (happened_of tables history) input

pub told_where : (tables : TablePair) (history : List CsEntry) (input : Input)
    → list_any tells_miscompare (cs_items tables history input) ≡ slice_miscompares (happened_before tables history input) (slice_at tables history input)
unfolding cs_items
told_where tables history input =
    let now = tables_after tables history in
    let happened = happened_before tables history input in
    any_both (command_items cs_answers cs_name (turn_of tables history input) (heard_at now input)) (slice_items input.time happened (slice_at tables history input))
    ∙ ap (λ (b : Bool). b || list_any tells_miscompare (slice_items input.time happened (slice_at tables history input))) (none_passes _ (commands_other (turn_of tables history input) now input.commands))
    ∙ slice_told input.time happened (slice_at tables history input)

module _ (tables : TablePair) (history : List CsEntry) (input : Input) (s : Slice) (is : slice_at tables history input ≡ Some s) where
  told_by : list_any tells_miscompare (cs_items tables history input) ≡ differs_behind (happened_before tables history input) s
  told_by = told_where tables history input ∙ ap (slice_miscompares (happened_before tables history input)) is

  -- by the end of the slice and the baseline of its place
  pub told_before_end : s.ends ≡ false → list_any tells_miscompare (cs_items tables history input) ≡ false
  unfolding miscompares
  told_before_end goes = told_by ∙ rw goes refl

  pub told_first : baseline_at s.place (happened_before tables history input) ≡ None → list_any tells_miscompare (cs_items tables history input) ≡ false
  unfolding miscompares
  told_first none = told_by ∙ rw none (never s.ends)
    where
      never : (b : Bool) → (b && false) ≡ false
      never true = refl
      never false = refl

  pub told_later : (base : ℕ) → s.ends ≡ true → baseline_at s.place (happened_before tables history input) ≡ Some base
      → list_any tells_miscompare (cs_items tables history input) ≡ not (base == crc_of 0 (pass_bytes s.place (slices_since (table_of s.place) (happened_before tables history input) ++ s ∷ [])))
  unfolding miscompares
  told_later base whole some = told_by ∙ rw (whole, some) refl
