-- A history at one more entry.
use Rattle.std.proofs.Common.{◌≡◌, ℕ, Bool, true, false, cond, eqb, List, [], ◌∷◌, ◌++◌, length, map, Some, None, refl, ap, ◌∙◌, append-nil}
use Rattle.std.proofs.lemmas.List.{map_push}
use Rattle.histories.specs.Words.{from_last}
use Rattle.histories.specs.Entries.{wakeups, replaced_by}
use Rattle.histories.specs.Entries.Entry.{Woken, Activated}
use Rattle.histories.proofs.Lasts.{from_last_more, from_last_none}
use Rattle.histories.proofs.Fronts.{flat_map_more}
use Rattle.histories.proofs.Entries.{wakeups_woken, wakeups_activated, wakeups_none, in_force_woken, in_force_activated, in_force_none, wakeups_before_more, wakeups_before_none}
use Rattle.std.specs.List.{flat_map}
use Rattle.commands.specs.Inputs.{heard_of}
use Rattle.commands.proofs.Heard.{heard_more, heard_none}
use Rattle.md_dwell.specs.Tables.{DwellTable}
use Rattle.md_dwell.specs.Verdicts.{md_protocol}
use Rattle.md_dwell.specs.Orders.{Input, heard_at, ordered_at, starts_in}
use Rattle.md_dwell.specs.Histories.{Activation, MdEntry, table_of, table_in, table_after, activates, orders_at, orders_since, restarts, started_at, started_by, images_of}
use Rattle.md_dwell.specs.Step.{md_heard}

-- the tables in force
pub table_begun : (tables : List DwellTable) (n : ℕ) → table_after tables [] n ≡ table_of tables n
table_begun tables n = in_force_none Input (table_in n) (table_of tables n)

pub table_woken : (tables : List DwellTable) (history : List MdEntry) (input : Input) (n : ℕ) → table_after tables (history ++ Woken input ∷ []) n ≡ table_after tables history n
table_woken tables history input n = in_force_woken (table_in n) (table_of tables n) history input

pub table_activated : (tables : List DwellTable) (history : List MdEntry) (a : Activation) (n : ℕ) (b : Bool) → eqb a.number n ≡ b → table_after tables (history ++ Activated a ∷ []) n ≡ cond b a.table (table_after tables history n)
table_activated tables history a n b is =
    in_force_activated (table_in n) (table_of tables n) history a
    ∙ ap (λ (t : Bool). replaced_by (cond t (Some a.table) None) (table_after tables history n)) is
    ∙ by_case b
  where
    by_case : (t : Bool) → replaced_by (cond t (Some a.table) None) (table_after tables history n) ≡ cond t a.table (table_after tables history n)
    by_case true = refl
    by_case false = refl

-- what was ordered since
pub orders_begun : (n : ℕ) → orders_since n [] ≡ []
unfolding orders_since
orders_begun n = ap (flat_map orders_at) (from_last_none (activates n))

pub orders_woken : (n : ℕ) (history : List MdEntry) (input : Input) → orders_since n (history ++ Woken input ∷ []) ≡ orders_since n history ++ ordered_at input
unfolding orders_since
orders_woken n history input = ap (flat_map orders_at) (from_last_more (activates n) history (Woken input)) ∙ flat_map_more orders_at (from_last (activates n) history) (Woken input)

pub orders_activated : (n : ℕ) (history : List MdEntry) (a : Activation) (b : Bool) → eqb a.number n ≡ b → orders_since n (history ++ Activated a ∷ []) ≡ cond b [] (orders_since n history)
unfolding orders_since
orders_activated n history a b is =
    ap (flat_map orders_at) (from_last_more (activates n) history (Activated a))
    ∙ ap (λ (t : Bool). flat_map orders_at (cond t (Activated a ∷ []) (from_last (activates n) history ++ Activated a ∷ []))) is
    ∙ by_case b
  where
    by_case : (t : Bool) → flat_map orders_at (cond t (Activated a ∷ []) (from_last (activates n) history ++ Activated a ∷ [])) ≡ cond t [] (flat_map orders_at (from_last (activates n) history))
    by_case true = refl
    by_case false = flat_map_more orders_at (from_last (activates n) history) (Activated a) ∙ append-nil (flat_map orders_at (from_last (activates n) history))

-- where a stream started
pub started_begun : (n : ℕ) → started_at n [] ≡ 0
unfolding started_at
started_begun n = wakeups_before_none (restarts n)

pub started_woken : (n : ℕ) (history : List MdEntry) (input : Input) → started_at n (history ++ Woken input ∷ []) ≡ started_by n history (ordered_at input)
unfolding started_at
started_woken n history input = wakeups_before_more (restarts n) history (Woken input)

pub started_activated : (n : ℕ) (history : List MdEntry) (a : Activation) (b : Bool) → eqb a.number n ≡ b → started_at n (history ++ Activated a ∷ []) ≡ cond b (length (wakeups history)) (started_at n history)
unfolding started_at
started_activated n history a b is =
    wakeups_before_more (restarts n) history (Activated a) ∙ ap (λ (t : Bool). cond t (length (wakeups history)) (started_at n history)) is

pub started_unordered : (n : ℕ) (history : List MdEntry) → started_by n history [] ≡ started_at n history
unfolding starts_in
started_unordered n history = refl

-- the images
pub images_begun : images_of [] ≡ []
unfolding images_of
images_begun = ap (map (λ (i : Input). i.seen)) (wakeups_none Input Activation)

pub images_woken : (history : List MdEntry) (input : Input) → images_of (history ++ Woken input ∷ []) ≡ images_of history ++ input.seen ∷ []
unfolding images_of
images_woken history input = ap (map (λ (i : Input). i.seen)) (wakeups_woken history input) ∙ map_push (λ (i : Input). i.seen) (wakeups history) input

pub images_activated : (history : List MdEntry) (a : Activation) → images_of (history ++ Activated a ∷ []) ≡ images_of history
unfolding images_of
images_activated history a = ap (map (λ (i : Input). i.seen)) (wakeups_activated history a)

-- the verdicts on all packets
pub heard_before_all : md_heard [] ≡ []
unfolding md_heard
heard_before_all =
    ap (λ (inputs : List Input). heard_of md_protocol (λ (earlier : List Input) (i : Input). i.seen) inputs) (wakeups_none Input Activation)
    ∙ heard_none md_protocol (λ (earlier : List Input) (i : Input). i.seen) (λ (i : Input). i.commands)

pub heard_woken : (history : List MdEntry) (input : Input) → md_heard (history ++ Woken input ∷ []) ≡ md_heard history ++ heard_at input
unfolding md_heard
heard_woken history input =
    ap (λ (inputs : List Input). heard_of md_protocol (λ (earlier : List Input) (i : Input). i.seen) inputs) (wakeups_woken history input)
    ∙ heard_more md_protocol (λ (earlier : List Input) (i : Input). i.seen) (λ (i : Input). i.commands) (wakeups history) input

pub heard_activated : (history : List MdEntry) (a : Activation) → md_heard (history ++ Activated a ∷ []) ≡ md_heard history
unfolding md_heard
heard_activated history a = ap (λ (inputs : List Input). heard_of md_protocol (λ (earlier : List Input) (i : Input). i.seen) inputs) (wakeups_activated history a)
