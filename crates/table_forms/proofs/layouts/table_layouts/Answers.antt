use Rattle.std.proofs.Common.{refl}
use Rattle.row_forms.specs.Rows.{row_size}
use Rattle.row_forms.specs.Numbers.{are_choices}
use Rattle.row_forms.specs.Values.{is_kind}
use Rattle.table_texts.specs.Entries.{is_layout}
use Rattle.table_texts.specs.Fronts.{is_front}
use Rattle.table_forms.specs.Layouts.{are_layouts, has_bytes, is_open, shows_all, all_layouts, actions, event_actions, message_states, entry_states, point_states, value_types, operators, steps}
use Rattle.table_forms.proofs.layouts.table_layouts.Goals as goal

pub returns-clause-listed : goal.returns-clause-listed
unfolding all_layouts actions event_actions message_states entry_states point_states value_types operators steps
returns-clause-listed c = refl

pub returns-clause-good : goal.returns-clause-good
unfolding are_layouts has_bytes is_open shows_all is_layout is_front row_size are_choices is_kind
returns-clause-good c = refl
