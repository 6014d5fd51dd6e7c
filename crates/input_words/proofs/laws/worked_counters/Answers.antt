use Rattle.std.proofs.Common.{refl}
use Rattle.std.specs.Fmt.{digits as written}
use Rattle.packet_forms.specs.Names.{name_text, name_of}
use Rattle.input_words.specs.Counters.{are_same, counter_named, is_watched, with_counters, counters_told, watched_behind}
use Rattle.input_words.proofs.laws.worked_counters.Goals as goal

pub returns : goal.returns
unfolding written name_text name_of are_same counter_named is_watched with_counters counters_told watched_behind
returns c = record {
  first = refl;
  advances = refl;
  stops = refl;
  missing = refl;
  stands = refl;
  goes_on = refl;
  twice = refl;
}
