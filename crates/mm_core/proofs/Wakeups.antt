-- A history of MM with one wakeup more.
use Rattle.std.proofs.Common.{◌≡◌, List, [], ◌∷◌, ◌++◌, ap, ◌∙◌}
use Rattle.commands.specs.declared.verdicts.Verdict.{Verdict}
use Rattle.commands.specs.Verdicts.{orders_in, verdicts_on}
use Rattle.commands.specs.Answering.{command_items}
use Rattle.commands.proofs.Heard.{heard_more, heard_none, heard_idle, no_answers, verdicts_none}
use Rattle.mm_core.specs.Verdicts.{mm_protocol}
use Rattle.mm_core.specs.Messages.{mm_name}
use Rattle.mm_core.specs.Step.{Input, heard_at, mm_heard, turn_of, mm_answers, mm_items, operations_of, mm_operations}
use Rattle.mm_core.specs.declared.instructions.Instruction.{Instruction}

-- no wakeup yet
pub heard_before_all : mm_heard [] ≡ []
unfolding mm_heard
heard_before_all = heard_none mm_protocol (λ (earlier : List Input) (input : Input). input.seen) (λ (input : Input). input.commands)

-- one wakeup more
pub heard_wakeup : (history : List Input) (input : Input) → mm_heard (history ++ input ∷ []) ≡ mm_heard history ++ heard_at input
unfolding mm_heard
heard_wakeup history input = heard_more mm_protocol (λ (earlier : List Input) (i : Input). i.seen) (λ (i : Input). i.commands) history input

-- a wakeup without packets
pub heard_asleep : (history : List Input) (input : Input) → input.commands ≡ [] → mm_heard (history ++ input ∷ []) ≡ mm_heard history
unfolding mm_heard
heard_asleep history input none = heard_idle mm_protocol (λ (earlier : List Input) (i : Input). i.seen) (λ (i : Input). i.commands) history input none

none_heard : (input : Input) → input.commands ≡ [] → heard_at input ≡ []
none_heard input none = ap (verdicts_on mm_protocol input.seen) none ∙ verdicts_none mm_protocol input.seen

pub items_asleep : (history : List Input) (input : Input) → input.commands ≡ [] → mm_items history input ≡ []
unfolding mm_items
items_asleep history input none = ap (command_items mm_answers mm_name (turn_of history input)) (none_heard input none) ∙ no_answers mm_answers mm_name (turn_of history input)

pub operations_asleep : (input : Input) → input.commands ≡ [] → mm_operations input ≡ []
unfolding mm_operations operations_of orders_in
operations_asleep input none = ap (λ (heard : List (Verdict Instruction)). operations_of input.seen.loads (orders_in heard)) (none_heard input none)
