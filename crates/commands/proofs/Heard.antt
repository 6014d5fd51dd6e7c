-- The verdicts of a wakeup at one more packet, and what answers it.
use Rattle.std.proofs.Common.{◌≡◌, ◌≤◌, ◌<◌, ℕ, ◌+◌, ◌*◌, true, List, [], ◌∷◌, ◌++◌, length, refl, sym, ap, subst, ◌∙◌, arith, append-nil}
use Rattle.std.specs.Prelude.{Option, Some, None, ◌==◌}
use Rattle.std.specs.List.{All, AllPass, fold}
use Rattle.std.proofs.Math.Nat.{mul-le-mul_left}
use Rattle.std.proofs.lemmas.Bool.{eqb-true}
use Rattle.std.proofs.lemmas.List.Sums.{fold_push}
use Rattle.std.proofs.lemmas.List.Elements.{filter_map-append, All-append}
use Rattle.histories.proofs.Along.{joined_more, joined_none}
use Rattle.bus_pipes.specs.Held.{Held, adding}
use Rattle.bus_pipes.specs.Counted.{is_item_counted}
use Rattle.bus_pipes.specs.declared.names.Counts.{Counts}
use Rattle.bus_pipes.specs.declared.names.Out.{Out}
use Rattle.bus_pipes.specs.declared.names.Out.TheVariants.{Made}
use Rattle.bus_pipes.proofs.Deliveries.{adding_none, adding_more, items-adding}
use Rattle.packet_forms.specs.Built.{event_of}
use Rattle.commands.specs.Verdicts.{Protocol, instruction_in, orders_in, judged_by, verdict_by_form, verdict_at, verdicts_on}
use Rattle.commands.specs.Inputs.{heard_along}
use Rattle.commands.specs.Counting.{counts_of}
use Rattle.commands.specs.Answering.{Answers, items_for, packet_items, command_items}
use Rattle.commands.specs.declared.verdicts.Verdict.{Verdict}
use Rattle.commands.specs.declared.verdicts.Verdict.TheVariants.{Refused, Accepted}
use Rattle.commands.proofs.Answering.{none_fail, one_passes, event_counted}

module _ {I : Type 0} where
  -- what was ordered, at one more verdict
  pub orders_same : (heard : List (Verdict I)) (verdict : Verdict I) → instruction_in verdict ≡ None → orders_in (heard ++ verdict ∷ []) ≡ orders_in heard
  unfolding orders_in
  orders_same heard verdict none = filter_map-append instruction_in heard (verdict ∷ []) ∙ rw none (append-nil (orders_in heard))

  pub orders_more : (heard : List (Verdict I)) (verdict : Verdict I) (instruction : I) → instruction_in verdict ≡ Some instruction → orders_in (heard ++ verdict ∷ []) ≡ orders_in heard ++ instruction ∷ []
  unfolding orders_in
  orders_more heard verdict instruction some = filter_map-append instruction_in heard (verdict ∷ []) ∙ rw some refl

  -- of one list behind another
  pub orders_both : (xs ys : List (Verdict I)) → orders_in (xs ++ ys) ≡ orders_in xs ++ orders_in ys
  unfolding orders_in
  orders_both xs ys = filter_map-append instruction_in xs ys

-- nothing heard
pub orders_none : (I : Type 0) → orders_in {I = I} [] ≡ []
unfolding orders_in
orders_none I = refl

-- the verdicts on a packet more
pub verdicts_more : {B I E : Type 0} (protocol : Protocol B I E) (basis : B) (done : List (List ℕ)) (p : List ℕ)
    → verdicts_on protocol basis (done ++ p ∷ []) ≡ verdicts_on protocol basis done ++ verdict_at protocol basis (orders_in (verdicts_on protocol basis done)) p ∷ []
unfolding verdicts_on
verdicts_more {B} {I} {E} protocol basis done p = fold_push (λ (heard : List (Verdict I)) (q : List ℕ). heard ++ verdict_at protocol basis (orders_in heard) q ∷ []) [] done p

pub verdicts_none : {B I E : Type 0} (protocol : Protocol B I E) (basis : B) → verdicts_on protocol basis [] ≡ []
unfolding verdicts_on
verdicts_none protocol basis = refl

-- a fact of each verdict
each_behind : {B I E : Type 0} (protocol : Protocol B I E) (basis : B) (Q : Verdict I → Type 0) → ((orders : List I) (p : List ℕ) → Q (verdict_at protocol basis orders p)) → (heard : List (Verdict I)) (packets : List (List ℕ)) → All Q heard
    → All Q (fold (λ (done : List (Verdict I)) (q : List ℕ). done ++ verdict_at protocol basis (orders_in done) q ∷ []) heard packets)
each_behind protocol basis Q each heard [] all = all
each_behind protocol basis Q each heard (p ∷ packets) all =
    each_behind protocol basis Q each (heard ++ verdict_at protocol basis (orders_in heard) p ∷ []) packets (All-append Q heard _ all (one_passes Q _ (each (orders_in heard) p)))

pub each_verdict : {B I E : Type 0} (protocol : Protocol B I E) (basis : B) (Q : Verdict I → Type 0) → ((orders : List I) (p : List ℕ) → Q (verdict_at protocol basis orders p)) → (packets : List (List ℕ)) → All Q (verdicts_on protocol basis packets)
unfolding verdicts_on
each_verdict protocol basis Q each packets = each_behind protocol basis Q each [] packets (none_fail Q)

-- the verdicts of an entry more
pub heard_more : {X B I E : Type 0} (protocol : Protocol B I E) (basis : List X → X → B) (packets : X → List (List ℕ)) (entries : List X) (entry : X)
    → heard_along protocol basis packets (entries ++ entry ∷ []) ≡ heard_along protocol basis packets entries ++ verdicts_on protocol (basis entries entry) (packets entry)
unfolding heard_along
heard_more {X} protocol basis packets entries entry = joined_more (λ (earlier : List X) (x : X). verdicts_on protocol (basis earlier x) (packets x)) entries entry

pub heard_none : {X B I E : Type 0} (protocol : Protocol B I E) (basis : List X → X → B) (packets : X → List (List ℕ)) → heard_along protocol basis packets [] ≡ []
unfolding heard_along
heard_none {X} protocol basis packets = joined_none (λ (earlier : List X) (x : X). verdicts_on protocol (basis earlier x) (packets x))

-- an entry without packets
pub heard_idle : {X B I E : Type 0} (protocol : Protocol B I E) (basis : List X → X → B) (packets : X → List (List ℕ)) (entries : List X) (entry : X) → packets entry ≡ []
    → heard_along protocol basis packets (entries ++ entry ∷ []) ≡ heard_along protocol basis packets entries
heard_idle protocol basis packets entries entry none =
    heard_more protocol basis packets entries entry
    ∙ ap (λ (ps : List (List ℕ)). heard_along protocol basis packets entries ++ verdicts_on protocol (basis entries entry) ps) none
    ∙ ap (λ (more : List (Verdict _)). heard_along protocol basis packets entries ++ more) (verdicts_none protocol (basis entries entry))
    ∙ append-nil (heard_along protocol basis packets entries)

-- no packets
pub no_packets : {A : Type 0} (xs : List A) → (length xs == 0) ≡ true → xs ≡ []
no_packets [] none = refl
no_packets (x ∷ xs) none = let zero : length (x ∷ xs) ≡ 0 = eqb-true (length (x ∷ xs)) 0 none in absurd (omega (arith, zero))

-- the verdict on a command whose form is accepted, by its own refusal
module _ {B I E : Type 0} (protocol : Protocol B I E) (basis : B) (orders : List I) (payload : List ℕ) (verdict : Verdict I) (form : Verdict (Unit {0})) (code : ℕ) (u : Unit {0}) (instruction : I) (own : Option E) where
  by_own : verdict ≡ verdict_by_form protocol basis orders payload form → form ≡ Accepted code u → instruction ≡ protocol.language.decode code payload → own ≡ protocol.refuses basis orders instruction
      → verdict ≡ judged_by protocol.number own code instruction
  by_own judged formed decoded refused = judged ∙ rw (formed, refused, decoded) refl

  pub own_refused : (reason : E) → verdict ≡ verdict_by_form protocol basis orders payload form → form ≡ Accepted code u → instruction ≡ protocol.language.decode code payload → own ≡ protocol.refuses basis orders instruction
      → own ≡ Some reason → verdict ≡ Refused (protocol.number reason)
  own_refused reason judged formed decoded refused some = by_own judged formed decoded refused ∙ rw some refl

  pub own_passes : verdict ≡ verdict_by_form protocol basis orders payload form → form ≡ Accepted code u → instruction ≡ protocol.language.decode code payload → own ≡ protocol.refuses basis orders instruction
      → own ≡ None → verdict ≡ Accepted code instruction
  own_passes judged formed decoded refused none = by_own judged formed decoded refused ∙ rw none refl

module _ {T I : Type 0} (answers : Answers T I) (name : List ℕ) (turn : T) where
  -- the answer to a packet, by the counts that were kept
  pub packet_answered : (heard : List (Verdict I)) (verdict : Verdict I) (time : ℕ) (counts : Counts) (start end : Held Out)
      → answers.time turn ≡ time → counts ≡ counts_of (answers.earlier turn ++ heard)
      → end ≡ adding start (items_for answers turn name time counts (orders_in heard) verdict) → end ≡ adding start (packet_items answers name turn heard verdict)
  unfolding packet_items
  packet_answered heard verdict time counts start end timed counted behind =
      behind
      ∙ ap (λ (t : ℕ). adding start (items_for answers turn name t counts (orders_in heard) verdict)) (sym timed)
      ∙ ap (λ (c : Counts). adding start (items_for answers turn name (answers.time turn) c (orders_in heard) verdict)) counted

  -- the answers to none, and to a packet more
  pub items_none : (start : Held Out) → start ≡ adding start (command_items answers name turn [])
  unfolding command_items
  items_none start = sym (ap (adding start) (joined_none (packet_items answers name turn)) ∙ adding_none start)

  -- no answers
  pub no_answers : command_items answers name turn [] ≡ []
  unfolding command_items
  no_answers = joined_none (packet_items answers name turn)

  pub items_step : (start middle end : Held Out) (heard : List (Verdict I)) (verdict : Verdict I) → middle ≡ adding start (command_items answers name turn heard)
      → end ≡ adding middle (packet_items answers name turn heard verdict) → end ≡ adding start (command_items answers name turn (heard ++ verdict ∷ []))
  unfolding command_items
  items_step start middle end heard verdict before behind =
      behind
      ∙ ap (λ (held : Held Out). adding held (packet_items answers name turn heard verdict)) before
      ∙ adding_more start (command_items answers name turn heard) (packet_items answers name turn heard verdict)
      ∙ ap (adding start) (sym (joined_more (packet_items answers name turn) heard verdict))

-- items that all get counts, and more of them
pub counted_more : (start end : Held Out) (more : List Out) → end ≡ adding start more → AllPass is_item_counted more → AllPass is_item_counted start.items → AllPass is_item_counted end.items
counted_more start end more behind here before =
    subst (λ (items : List Out). AllPass is_item_counted items) (sym (ap (λ (held : Held Out). held.items) behind ∙ items-adding start more))
    (All-append (λ (item : Out). is_item_counted item ≡ true) start.items more before here)

-- one item more
pub one_more_counted : (start end : Held Out) (item : Out) → end ≡ adding start (item ∷ []) → is_item_counted item ≡ true → AllPass is_item_counted start.items → AllPass is_item_counted end.items
one_more_counted start end item behind here before = counted_more start end (item ∷ []) behind (one_passes (λ (one : Out). is_item_counted one ≡ true) item here) before

-- and an event
pub event_behind : (start end : Held Out) (name : List ℕ) (id kind time : ℕ) → end ≡ adding start (Made (event_of name id kind time) ∷ []) → AllPass is_item_counted start.items → AllPass is_item_counted end.items
event_behind start end name id kind time behind before = one_more_counted start end (Made (event_of name id kind time)) behind (event_counted name id kind time) before

-- an event whose name and number are these, alone or behind replies
pub event_as : (start end : Held Out) (n name : List ℕ) (i id kind time : ℕ) → n ≡ name → i ≡ id → end ≡ adding start (Made (event_of n i kind time) ∷ []) → end ≡ adding start (Made (event_of name id kind time) ∷ [])
event_as start end n name i id kind time named numbered behind = rw (sym named, sym numbered) behind

pub replies_and_event : (start middle end : Held Out) (replies : List Out) (event : Out) → middle ≡ adding start replies → end ≡ adding middle (event ∷ []) → end ≡ adding start (replies ++ event ∷ [])
replies_and_event start middle end replies event before behind = behind ∙ ap (λ (held : Held Out). adding held (event ∷ [])) before ∙ adding_more start replies (event ∷ [])

-- there is room for a packet more of at most 16
pub room_step : (most i n room : ℕ) → n ≤ (1 + most) * i → i < 16 → (1 + most) * 16 ≤ room → n + (1 + most) ≤ room
room_step most i n room few below enough = let more : (1 + most) * (i + 1) ≤ (1 + most) * 16 = mul-le-mul_left (1 + most) (omega arith) in omega (arith, more)
