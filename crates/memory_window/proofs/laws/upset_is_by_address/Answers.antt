use Rattle.std.proofs.Common.{ℕ, nat_eq, if◌then◌else◌}
use Rattle.memory_window.proofs.Areas.{byte-changed, regions-changed}
use Rattle.memory_window.proofs.laws.upset_is_by_address.Goals as goal

pub returns-clause-bytes : goal.returns-clause-bytes
returns-clause-bytes c = λ m at value a. byte-changed (λ (b x : ℕ). if nat_eq b at then value else x) m.areas a

pub returns-clause-map : goal.returns-clause-map
returns-clause-map c = λ m at value. regions-changed (λ (b x : ℕ). if nat_eq b at then value else x) m.areas
