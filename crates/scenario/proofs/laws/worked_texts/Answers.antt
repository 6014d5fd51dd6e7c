use Rattle.std.proofs.Common.{refl}
use Rattle.memory_window.specs.Regions.{map_fault_of}
use Rattle.packet_forms.specs.Faults.{fault_of}
use Rattle.scenario.specs.Words.{words, digits, number, hex, app_of, kind_of}
use Rattle.scenario.specs.Sentences.{verb_of, verb_at, number_or_bad, epoch_line, region_line, send_line, upset_line, hold_line, activate_line, sentence_of, said, line_says}
use Rattle.scenario.specs.Frames.{refusal}
use Rattle.scenario.specs.Texts.{reads, read, read_bytes, reading}
use Rattle.scenario.proofs.laws.worked_texts.Goals as goal

pub returns-clause-empty : goal.returns-clause-empty
unfolding reading read_bytes read
returns-clause-empty c = refl

pub returns-clause-whole : goal.returns-clause-whole
unfolding reading read_bytes read reads line_says said verb_at verb_of sentence_of epoch_line region_line upset_line hold_line activate_line number_or_bad number digits words app_of kind_of refusal map_fault_of
returns-clause-whole c = refl

pub returns-clause-packet : goal.returns-clause-packet
unfolding reading read_bytes read reads line_says said verb_at verb_of sentence_of epoch_line region_line send_line number_or_bad number digits words hex kind_of refusal map_fault_of fault_of
returns-clause-packet c = refl

pub returns-clause-map : goal.returns-clause-map
unfolding reading read_bytes read reads line_says said verb_at verb_of sentence_of epoch_line region_line number_or_bad number digits words kind_of refusal map_fault_of
returns-clause-map c = refl

pub returns-clause-word : goal.returns-clause-word
unfolding reading read_bytes read reads line_says said verb_at verb_of sentence_of epoch_line region_line number_or_bad number digits words kind_of refusal map_fault_of
returns-clause-word c = refl

pub returns-clause-number : goal.returns-clause-number
unfolding reading read_bytes read reads line_says said verb_at verb_of sentence_of epoch_line number_or_bad number digits words
returns-clause-number c = refl

pub returns-clause-unfinished : goal.returns-clause-unfinished
unfolding reading read_bytes read reads line_says said verb_at verb_of sentence_of epoch_line region_line number_or_bad number digits words kind_of refusal map_fault_of
returns-clause-unfinished c = refl
