use Rattle.std.proofs.Common.{refl}
use Rattle.std.specs.Fmt.{digits}
use Rattle.packet_forms.specs.Numbers.{be16_at}
use Rattle.table_reasons.specs.Told.{fault_told}
use Rattle.table_reasons.proofs.laws.told_in_words.Goals as goal

pub returns-clause-entry : goal.returns-clause-entry
unfolding digits be16_at fault_told
returns-clause-entry c = refl

pub returns-clause-head : goal.returns-clause-head
unfolding digits be16_at fault_told
returns-clause-head c = refl

pub returns-clause-sequence : goal.returns-clause-sequence
unfolding digits be16_at fault_told
returns-clause-sequence c = refl
