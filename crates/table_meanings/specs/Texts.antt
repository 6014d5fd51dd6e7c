-- What the texts of tables mean: the entries that the tables' loaders read in their files.
use Rattle.std.specs.Prelude.{◌≡◌, ℕ, ◌==◌, true, List, [], ◌∷◌, map, Option, Some, option_map, Result, Ok, Err, codes}
use Rattle.table_files.specs.Headers.{payload_of_file}
use Rattle.table_files.specs.declared.fault.EntryFault.{EntryFault}
use Rattle.table_files.specs.declared.kinds.TableKind.{TableKind}
use Rattle.table_files.specs.declared.kinds.TableKind.TheVariants.{AppMon, EventMon, ExeCount, MsgActs, Ats, Rts, Dwell, Eeprom, Memory, Wdt, Adt}
use Rattle.telecommands.specs.Commands.{are_good}
use Rattle.table_texts.specs.Lines.{Numbered, kept_of}
use Rattle.table_texts.specs.Endings.{behind_first}
use Rattle.hs_tables.specs.Apps as apps
use Rattle.hs_tables.specs.Events as events
use Rattle.hs_tables.specs.Counters as counters
use Rattle.hs_tables.specs.Actions as actions
use Rattle.md_dwell.specs.Tables.{dwell_of}
use Rattle.cs_slices.specs.Tables.{segments_of}
use Rattle.lc_watch.specs.Watchpoints as watchpoints
use Rattle.lc_watch.specs.Actionpoints as actionpoints
use Rattle.sc_tables.specs.Grammar.{EntryForm}
use Rattle.sc_tables.specs.Absolute.{timed_form, stored_ats}
use Rattle.sc_tables.specs.Relative.{relative_form, stored_rts}
use Rattle.sc_tables.specs.Spelling.{timed_spelled, relative_spelled}
use Rattle.table_forms.specs.declared.fault.TableFault.{TableFault}
use Rattle.table_forms.specs.declared.forms.TextForms.{TextForms}
use Rattle.table_forms.specs.Layouts.{all_layouts, are_layouts, placed}
use Rattle.table_forms.specs.Reading.{First, first_said}
use Rattle.table_meanings.specs.Meanings.{meanings_said, amount_in}
use Rattle.table_meanings.specs.Entries.{EntryMeaning, entries_meant}
use Rattle.table_meanings.specs.Tables.{counters_meaning, apps_meaning, events_meaning, messages_meaning, dwells_meaning, segments_meaning, watchpoints_meaning, actionpoints_meaning}
use Rattle.table_meanings.specs.Sequences.{timed_meant, relative_meant, Parted, sequence_meant, commands_read}

-- a loader's entries are those that lines mean, so many
abbrev pub Mean : {E : Type 0} → EntryMeaning E → ℕ → List Numbered → List E → Type 0
Mean m count lines entries = map Some entries ≡ entries_meant m count lines

-- a dwell table's first line says whether it is enabled, and the lines behind it its entries
pub record DwellMeans (epoch : Option ℕ) (head : Numbered) (more : List Numbered) (payload : List ℕ) : Type 0 where
  pub enabled : option_map (λ ms. amount_in ms (codes "enabled") == 1) (meanings_said epoch all_layouts.head.now (behind_first head.words)) ≡ Some (dwell_of payload).enabled
  pub entries : Mean (dwells_meaning epoch) 25 more (dwell_of payload).entries

abbrev pub HeadedMeans : Option ℕ → List Numbered → List ℕ → Type 0
HeadedMeans epoch [] payload = ⊥
HeadedMeans epoch (head ∷ more) payload = DwellMeans epoch head more payload

-- what is stored of a payload are the commands that the lines mean, and behind them those that the loader reads in the bytes that lines say
-- from the first `raw` on: without such a line there are no bytes, and the commands are all
abbrev pub SequenceMeans : {E : Type 0} → EntryForm E → (E → List ℕ) → (List (List ℕ) → Option E) → List Numbered → Result (List E) EntryFault → Type 0
SequenceMeans {E = E} form spelled said lines stored = (meant : Parted E) × (sequence_meant said spelled lines ≡ Some meant) × (stored ≡ commands_read form meant)

-- the entries that the loader of a kind reads in a payload are those that these lines mean
abbrev pub PayloadMeans : TextForms → TableKind → List Numbered → List ℕ → Type 0
PayloadMeans f AppMon lines payload = Mean (apps_meaning f.epoch) 32 lines (apps.rows_of payload)
PayloadMeans f EventMon lines payload = Mean (events_meaning f.epoch) 16 lines (events.rows_of payload)
PayloadMeans f ExeCount lines payload = Mean (counters_meaning f.epoch) 32 lines (counters.rows_of payload)
PayloadMeans f MsgActs lines payload = Mean (messages_meaning f.epoch f.commands.now) 8 lines (actions.rows_of payload)
PayloadMeans f (Ats n) lines payload = SequenceMeans timed_form timed_spelled (timed_meant f.epoch f.commands.now) lines (stored_ats payload)
PayloadMeans f (Rts n) lines payload = SequenceMeans relative_form relative_spelled (relative_meant f.epoch f.commands.now) lines (stored_rts payload)
PayloadMeans f (Dwell n) lines payload = HeadedMeans f.epoch lines payload
PayloadMeans f Eeprom lines payload = Mean (segments_meaning f.epoch) 16 lines (segments_of payload)
PayloadMeans f Memory lines payload = Mean (segments_meaning f.epoch) 16 lines (segments_of payload)
PayloadMeans f Wdt lines payload = Mean (watchpoints_meaning f.epoch) 32 lines (watchpoints.rows_of payload)
PayloadMeans f Adt lines payload = Mean (actionpoints_meaning f.epoch) 16 lines (actionpoints.rows_of payload)

abbrev pub FirstMeans : TextForms → Result First TableFault → List ℕ → Type 0
FirstMeans f (Ok first) file = PayloadMeans f first.kind first.more (payload_of_file file)
FirstMeans f (Err fault) file = ⊥

-- the entries that the loader of the table that a text names reads in a file are those that the text's lines mean
abbrev pub TextMeans : TextForms → List ℕ → List ℕ → Type 0
TextMeans f text file = FirstMeans f (first_said (kept_of 1 text)) file

-- the layouts are those of docs/FILES.md, wherever they lie, and the telecommands are good ones
pub record AreKnownForms (f : TextForms) : Type 0 where
  pub known : placed f.layouts.now ≡ all_layouts
  pub layouts : are_layouts f.layouts.now ≡ true
  pub commands : are_good f.commands.now ≡ true
