-- What the packets of a command pipe are answered with. T is a wakeup.
use Rattle.std.specs.Prelude.{ℕ, ◌+◌, List, [], ◌∷◌, ◌++◌}
use Rattle.histories.specs.Words.{joined_along}
use Rattle.packet_forms.specs.Built.{event_of}
use Rattle.bus_pipes.specs.declared.names.Counts.{Counts}
use Rattle.bus_pipes.specs.declared.names.Out.{Out}
use Rattle.bus_pipes.specs.declared.names.Out.TheVariants.{Made}
use Rattle.commands.specs.Verdicts.{orders_in}
use Rattle.commands.specs.Counting.{counts_of}
use Rattle.commands.specs.declared.verdicts.Verdict.{Verdict}
use Rattle.commands.specs.declared.verdicts.Verdict.TheVariants.{Other, Request, Refused, Accepted}

-- What an application answers in a wakeup: at the wakeup's time and by the verdicts before it, a housekeeping packet by the counts and
-- by what was ordered in the wakeup so far, and what stands before the event of an accepted command.
pub record Answers (T I : Type 0) : Type 0 where
  pub time : T → ℕ
  pub earlier : T → List (Verdict I)
  pub housekeeping : T → Counts → List I → List ℕ
  pub replies : T → List I → I → List Out

-- What answers a packet: a request is answered with housekeeping, a refused command with event r of type 3 for refusal r, an accepted
-- command of code c with its replies and event 16 + c of type 2, and another packet with nothing.
abbrev pub items_for : {T I : Type 0} → Answers T I → T → List ℕ → ℕ → Counts → List I → Verdict I → List Out
items_for answers turn name time counts orders Other = []
items_for answers turn name time counts orders Request = Made (answers.housekeeping turn counts orders) ∷ []
items_for answers turn name time counts orders (Refused reason) = Made (event_of name reason 3 time) ∷ []
items_for answers turn name time counts orders (Accepted code instruction) = answers.replies turn orders instruction ++ Made (event_of name (16 + code) 2 time) ∷ []

-- What answers a packet behind those of the wakeup that have these verdicts.
unfoldable pub packet_items : {T I : Type 0} → Answers T I → List ℕ → T → List (Verdict I) → Verdict I → List Out
packet_items answers name turn heard verdict = items_for answers turn name (answers.time turn) (counts_of (answers.earlier turn ++ heard)) (orders_in heard) verdict

-- What answers the packets of a wakeup, by their verdicts.
unfoldable pub command_items : {T I : Type 0} → Answers T I → List ℕ → T → List (Verdict I) → List Out
command_items answers name turn heard = joined_along (packet_items answers name turn) heard
