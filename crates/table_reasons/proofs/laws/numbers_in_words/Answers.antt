use Rattle.std.proofs.Common.{refl}
use Rattle.std.specs.Fmt.{digits}
use Rattle.packet_forms.specs.Hex.{hex}
use Rattle.packet_forms.specs.Numbers.{be16_at}
use Rattle.table_reasons.specs.Told.{fault_told}
use Rattle.table_reasons.proofs.laws.numbers_in_words.Goals as goal

pub returns-clause-event : goal.returns-clause-event
unfolding digits be16_at fault_told
returns-clause-event c = refl

pub returns-clause-counter : goal.returns-clause-counter
unfolding digits be16_at fault_told
returns-clause-counter c = refl

pub returns-clause-action : goal.returns-clause-action
unfolding digits be16_at fault_told
returns-clause-action c = refl

pub returns-clause-dwell_length : goal.returns-clause-dwell_length
unfolding digits be16_at fault_told
returns-clause-dwell_length c = refl

pub returns-clause-checksum : goal.returns-clause-checksum
unfolding digits be16_at fault_told
returns-clause-checksum c = refl

pub returns-clause-watch_type : goal.returns-clause-watch_type
unfolding digits be16_at fault_told
returns-clause-watch_type c = refl

pub returns-clause-operator : goal.returns-clause-operator
unfolding digits be16_at fault_told
returns-clause-operator c = refl

pub returns-clause-point_state : goal.returns-clause-point_state
unfolding digits be16_at fault_told
returns-clause-point_state c = refl

pub returns-clause-started : goal.returns-clause-started
unfolding digits be16_at fault_told
returns-clause-started c = refl

pub returns-clause-address : goal.returns-clause-address
unfolding digits be16_at hex fault_told
returns-clause-address c = refl
