use Rattle.memory_window.specs.Landing.{landed}
use Rattle.memory_window.proofs.Areas.{byte-changed, regions-changed}
use Rattle.memory_window.proofs.laws.landing_is_by_address.Goals as goal

pub returns-clause-bytes : goal.returns-clause-bytes
returns-clause-bytes c = λ loads ops m a. byte-changed (landed loads ops) m.areas a

pub returns-clause-map : goal.returns-clause-map
returns-clause-map c = λ loads ops m. regions-changed (landed loads ops) m.areas
