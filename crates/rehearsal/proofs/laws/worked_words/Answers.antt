use Rattle.std.proofs.Common.{refl}
use Rattle.clap.proofs.OnLiterals.{clap_on_literals}
use Rattle.scenario.specs.Words.{digits}
use Rattle.rehearsal.specs.Words.{workers_in, drill_in, asked_by, faults_at, matches_at, accepted_words}
use Rattle.rehearsal.proofs.laws.worked_words.Goals as goal

pub returns : goal.returns
unfolding clap_on_literals digits workers_in drill_in asked_by faults_at matches_at accepted_words
returns c = record { plain = refl; by_hand = refl; equals = refl; behind = refl; between = refl; dashes = refl; dash = refl; one = refl; most = refl; drill_names = refl; flag = refl; flag_behind = refl; flag_drill = refl; flag_dashes = refl; flag_dashed = refl; flag_alone = refl; flag_twice = refl; flag_value = refl; flag_abbreviated = refl; none = refl; zero = refl; many = refl; long = refl; no_number = refl; no_value = refl; twice = refl; abbreviated = refl; unknown = refl; help = refl; short_help = refl; version = refl; drill = refl; drilled = refl; drilled_zeros = refl; drilled_least = refl; drilled_most = refl; undrilled = refl; undrilled_long = refl; undrilled_sign = refl; undrilled_case = refl }
