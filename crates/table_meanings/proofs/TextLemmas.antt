-- Lemmas on whole texts.
use Rattle.std.proofs.Common.{◌≡◌, ℕ, zero, suc, ◌+◌, ◌-◌, ◌*◌, ◌≤◌, Bool, true, false, List, [], ◌∷◌, ◌++◌, length, take, drop, map, Option, Some, None, refl, ap, sym, subst, ◌∙◌, arith, length-append, length-take, length-drop}
use Rattle.std.specs.Prelude.{◌==◌, codes, option_map, Result, Ok, Err, replicate}
use Rattle.std.specs.List.{range_with_len}
use Rattle.std.proofs.lemmas.Bool.Decides.{nat_tests}
use Rattle.std.proofs.lemmas.List.{drop_at}
use Rattle.std.proofs.Math.Seq.{drop-append-add}
use Rattle.packet_forms.specs.Numbers.{be16_at, be32_at, be32_bytes}
use Rattle.row_forms.specs.declared.field.Field.{Field}
use Rattle.row_forms.specs.declared.fault.RowFault.{RowFault}
use Rattle.row_forms.specs.Rows.{row_said, row_size}
use Rattle.row_forms.proofs.SizeLemmas.{row_sizes}
use Rattle.table_files.specs.declared.fault.EntryFault.{EntryFault}
use Rattle.table_files.specs.declared.kinds.TableKind.{TableKind}
use Rattle.table_files.specs.declared.kinds.TableKind.TheVariants.{AppMon, EventMon, ExeCount, MsgActs, Ats, Rts, Dwell, Eeprom, Memory, Wdt, Adt}
use Rattle.table_files.specs.Entries as table_entries
use Rattle.table_files.specs.Kinds.{IsKnown}
use Rattle.table_files.specs.Headers.{payload_of_file, is_load, subtype}
use Rattle.telecommands.specs.declared.command.Command.{Command}
use Rattle.telecommands.specs.Commands.{are_good}
use Rattle.table_texts.specs.declared.fault.TextFault.{TextFault}
use Rattle.table_texts.specs.declared.layout.Layout.{Layout}
use Rattle.table_texts.specs.Entries.{entries_said, is_layout}
use Rattle.table_texts.specs.Endings.{behind_first}
use Rattle.table_texts.specs.Sequences.{sequence_said}
use Rattle.table_texts.specs.Lines.{Numbered, kept_of}
use Rattle.table_texts.proofs.LayoutLemmas.{layout_is}
use Rattle.hs_tables.specs.Apps as apps
use Rattle.hs_tables.specs.Events as events
use Rattle.hs_tables.specs.Counters as counters
use Rattle.hs_tables.specs.Actions as actions
use Rattle.md_dwell.specs.Tables.{dwell_of, entry_at, entries_in}
use Rattle.cs_slices.specs.Tables.{segments_of, segment_at}
use Rattle.lc_watch.specs.Watchpoints as watchpoints
use Rattle.lc_watch.specs.Actionpoints as actionpoints
use Rattle.sc_tables.specs.Absolute.{stored_ats, ats_fault_of, timed_form, timed_size}
use Rattle.sc_tables.specs.Relative.{stored_rts, rts_fault_of, relative_form, relative_size}
use Rattle.sc_tables.specs.Grammar.{read_of, fault_in}
use Rattle.sc_tables.specs.Spelling.{timed_spelled, relative_spelled}
use Rattle.table_forms.specs.declared.fault.TableFault.{TableFault}
use Rattle.table_forms.specs.declared.forms.TextForms.{TextForms}
use Rattle.table_forms.specs.declared.layouts.Layouts.{Layouts}
use Rattle.table_forms.specs.Headers.{in_file, whole_header, header_said, table_file}
use Rattle.table_forms.specs.Judging.{entry_fault_of, refusal_of, unless_refused, judged}
use Rattle.table_forms.specs.Layouts.{all_layouts, placed, placed_layout, placed_field, form_of}
use Rattle.table_forms.specs.Names.{kind_said, name_field}
use Rattle.table_forms.specs.Payloads.{begins, as_table, entries_by, head_then, headed_said, payload_said}
use Rattle.table_forms.specs.Reading.{First, kind_first, named_first, first_said, filed, first_filed, table_said, IsTakenAs}
use Rattle.table_forms.proofs.KnownLemmas.{field_long}
use Rattle.table_forms.proofs.LayoutsLemmas.{AreLayouts, layouts_are}
use Rattle.table_forms.proofs.NameLemmas.{said_known}
use Rattle.table_forms.proofs.TakenLemmas.{texts_are_taken}
use Rattle.table_meanings.specs.Meanings.{keyed, Amount, meanings_said, meanings_in, amount_in}
use Rattle.table_meanings.specs.Entries.{EntryMeaning, entries_meant}
use Rattle.table_meanings.specs.Tables.{counters_meaning, apps_meaning, events_meaning, messages_meaning, dwells_meaning, segments_meaning, watchpoints_meaning, actionpoints_meaning}
use Rattle.table_meanings.specs.Sequences.{timed_meant, relative_meant}
use Rattle.table_meanings.specs.Texts.{Mean, DwellMeans, HeadedMeans, SequenceMeans, PayloadMeans, FirstMeans, TextMeans, AreKnownForms}
use Rattle.table_meanings.proofs.MeaningLemmas.{row_meanings}
use Rattle.table_meanings.proofs.PlacedLemmas.{row_placed}
use Rattle.table_meanings.proofs.SaidLemmas.{Fits, entries_are}
use Rattle.table_meanings.proofs.KindLemmas.{known_is, counters_fit, counter_cut, apps_fit, app_cut, events_fit, event_cut, segments_fit, segment_cut, watchpoints_fit, watchpoint_cut, actionpoints_fit, actionpoint_cut, dwells_fit, dwell_cut}
use Rattle.table_meanings.proofs.MessageLemmas.{messages_fit, message_cut}
use Rattle.table_meanings.proofs.CommandLemmas.{sequence_read}
use Rattle.table_meanings.proofs.ItemLemmas.{timed_item, relative_item}

-- ---- entries of one size

some_mapped : {A : Type 0} (f : ℕ → A) (a n : ℕ) → map Some (map f (range_with_len a n)) ≡ map (λ i. Some (f i)) (range_with_len a n)
some_mapped f a zero = refl
some_mapped {A = A} f a (suc n) = ap (λ (xs : List (Option A)). Some (f a) ∷ xs) (some_mapped f (a + 1) n)

all_entries : {E : Type 0} → (List ℕ → ℕ → E) → ℕ → List ℕ → List E
all_entries at count payload = map (at payload) (range_with_len 0 count)

-- a loader's entries, each given by its place, are those that lines mean
entries_mean : {E : Type 0} (epoch : Option ℕ) (cs : List Command) (l known : Layout) (m : EntryMeaning E) (n : ℕ) (lines : List Numbered) (bytes : List ℕ) (at : ℕ → E) → is_layout l ≡ true → placed_layout l ≡ known → Fits epoch cs l m → ((i : ℕ) → at i ≡ m.read (take known.size (drop (known.size * i) bytes))) → entries_said epoch cs l 0 n lines ≡ Ok bytes → map Some (map at (range_with_len 0 known.count)) ≡ entries_meant m known.count lines
entries_mean epoch cs l known m n lines bytes at good e fits read said =
    let is = known_is l known e in
    let cut : (i : ℕ) → at i ≡ m.read (take l.size (drop (l.size * i) bytes)) = λ i. read i ∙ ap (λ (s : ℕ). m.read (take s (drop (s * i) bytes))) (sym is.size) in
    let all : map (λ i. Some (at i)) (range_with_len 0 l.count) ≡ entries_meant m l.count lines = entries_are epoch cs l m n lines bytes at (layout_is l good) fits cut said in
    some_mapped at 0 known.count
    ∙ ap (λ (k : ℕ). map (λ i. Some (at i)) (range_with_len 0 k)) (sym is.count)
    ∙ all
    ∙ ap (λ (k : ℕ). entries_meant m k lines) is.count

table_ok : (r : Result (List ℕ) TextFault) (payload : List ℕ) → as_table r ≡ Ok payload → r ≡ Ok payload
table_ok (Ok bytes) payload e = let same : bytes ≡ payload = cc in ap Ok same
table_ok (Err fault) payload e = absurd (cc)

apps_mean : (f : TextForms) (l : Layout) (n : ℕ) (lines : List Numbered) (payload : List ℕ) → is_layout l ≡ true → placed_layout l ≡ all_layouts.apps → entries_by f l n lines ≡ Ok payload → Mean (apps_meaning f.epoch) 32 lines (apps.rows_of payload)
unfolding all_layouts apps.rows_of table_entries.entries_in apps_meaning
apps_mean f l n lines payload good e said =
    entries_mean f.epoch f.commands.now l all_layouts.apps (apps_meaning f.epoch) n lines payload (apps.row_at payload) good e (apps_fit f.epoch f.commands.now l e) (app_cut payload) (table_ok (entries_said f.epoch f.commands.now l 0 n lines) payload said)

events_mean : (f : TextForms) (l : Layout) (n : ℕ) (lines : List Numbered) (payload : List ℕ) → is_layout l ≡ true → placed_layout l ≡ all_layouts.events → entries_by f l n lines ≡ Ok payload → Mean (events_meaning f.epoch) 16 lines (events.rows_of payload)
unfolding all_layouts events.rows_of table_entries.entries_in events_meaning
events_mean f l n lines payload good e said =
    entries_mean f.epoch f.commands.now l all_layouts.events (events_meaning f.epoch) n lines payload (events.row_at payload) good e (events_fit f.epoch f.commands.now l e) (event_cut payload) (table_ok (entries_said f.epoch f.commands.now l 0 n lines) payload said)

counters_mean : (f : TextForms) (l : Layout) (n : ℕ) (lines : List Numbered) (payload : List ℕ) → is_layout l ≡ true → placed_layout l ≡ all_layouts.counters → entries_by f l n lines ≡ Ok payload → Mean (counters_meaning f.epoch) 32 lines (counters.rows_of payload)
unfolding all_layouts counters.rows_of table_entries.entries_in counters_meaning
counters_mean f l n lines payload good e said =
    entries_mean f.epoch f.commands.now l all_layouts.counters (counters_meaning f.epoch) n lines payload (counters.row_at payload) good e (counters_fit f.epoch f.commands.now l e) (counter_cut payload) (table_ok (entries_said f.epoch f.commands.now l 0 n lines) payload said)

messages_mean : (f : TextForms) (l : Layout) (n : ℕ) (lines : List Numbered) (payload : List ℕ) → are_good f.commands.now ≡ true → is_layout l ≡ true → placed_layout l ≡ all_layouts.actions → entries_by f l n lines ≡ Ok payload → Mean (messages_meaning f.epoch f.commands.now) 8 lines (actions.rows_of payload)
unfolding all_layouts actions.rows_of table_entries.entries_in messages_meaning
messages_mean f l n lines payload commands good e said =
    entries_mean f.epoch f.commands.now l all_layouts.actions (messages_meaning f.epoch f.commands.now) n lines payload (actions.row_at payload) good e (messages_fit f.epoch f.commands.now l commands e) (message_cut payload) (table_ok (entries_said f.epoch f.commands.now l 0 n lines) payload said)

segments_mean : (f : TextForms) (l : Layout) (n : ℕ) (lines : List Numbered) (payload : List ℕ) → is_layout l ≡ true → placed_layout l ≡ all_layouts.checksums → entries_by f l n lines ≡ Ok payload → Mean (segments_meaning f.epoch) 16 lines (segments_of payload)
unfolding all_layouts segments_of segments_meaning
segments_mean f l n lines payload good e said =
    entries_mean f.epoch f.commands.now l all_layouts.checksums (segments_meaning f.epoch) n lines payload (segment_at payload) good e (segments_fit f.epoch f.commands.now l e) (segment_cut payload) (table_ok (entries_said f.epoch f.commands.now l 0 n lines) payload said)

watchpoints_mean : (f : TextForms) (l : Layout) (n : ℕ) (lines : List Numbered) (payload : List ℕ) → is_layout l ≡ true → placed_layout l ≡ all_layouts.watchpoints → entries_by f l n lines ≡ Ok payload → Mean (watchpoints_meaning f.epoch) 32 lines (watchpoints.rows_of payload)
unfolding all_layouts watchpoints.rows_of table_entries.entries_in watchpoints_meaning
watchpoints_mean f l n lines payload good e said =
    entries_mean f.epoch f.commands.now l all_layouts.watchpoints (watchpoints_meaning f.epoch) n lines payload (watchpoints.row_at payload) good e (watchpoints_fit f.epoch f.commands.now l e) (watchpoint_cut payload) (table_ok (entries_said f.epoch f.commands.now l 0 n lines) payload said)

actionpoints_mean : (f : TextForms) (l : Layout) (n : ℕ) (lines : List Numbered) (payload : List ℕ) → is_layout l ≡ true → placed_layout l ≡ all_layouts.actionpoints → entries_by f l n lines ≡ Ok payload → Mean (actionpoints_meaning f.epoch) 16 lines (actionpoints.rows_of payload)
unfolding all_layouts actionpoints.rows_of table_entries.entries_in actionpoints_meaning
actionpoints_mean f l n lines payload good e said =
    entries_mean f.epoch f.commands.now l all_layouts.actionpoints (actionpoints_meaning f.epoch) n lines payload (actionpoints.row_at payload) good e (actionpoints_fit f.epoch f.commands.now l e) (actionpoint_cut payload) (table_ok (entries_said f.epoch f.commands.now l 0 n lines) payload said)

-- ---- dwell tables

record IsHeaded (f : TextForms) (l : Layout) (head : Numbered) (more : List Numbered) (payload : List ℕ) : Type 0 where
  front : List ℕ
  rest : List ℕ
  said : row_said f.epoch 2 f.layouts.now.head.now (behind_first head.words) ≡ Ok front
  entries : entries_by f l (head.number + 1) more ≡ Ok rest
  payload_is : front ++ rest ≡ payload

headed_parts : (n : ℕ) (head : Result (List ℕ) RowFault) (said : Result (List ℕ) TableFault) (payload : List ℕ) → head_then n head said ≡ Ok payload → (front : List ℕ) × (rest : List ℕ) × (head ≡ Ok front) × (said ≡ Ok rest) × (front ++ rest ≡ payload)
headed_parts n (Ok front) (Ok rest) payload e = (front, rest, refl, refl, cc)
headed_parts n (Ok front) (Err fault) payload e = absurd (cc)
headed_parts n (Err fault) said payload e = absurd (cc)

headed_by : (f : TextForms) (l : Layout) (n : ℕ) (head : Numbered) (more : List Numbered) (payload : List ℕ) (b : Bool) → begins (codes "head") head.words ≡ b → headed_said f l n (head ∷ more) ≡ Ok payload → IsHeaded f l head more payload
unfolding headed_said
headed_by f l n head more payload true e said =
    let parts = headed_parts head.number (row_said f.epoch 2 f.layouts.now.head.now (behind_first head.words)) (entries_by f l (head.number + 1) more) payload (rw e at said) in
    record { front = parts.0; rest = parts.1; said = parts.2; entries = parts.3; payload_is = parts.4 }
headed_by f l n head more payload false e said = absurd (let wrong = rw e at said in cc)

head_size : (epoch : Option ℕ) (ws : List (List ℕ)) (front : List ℕ) → row_said epoch 2 all_layouts.head.now ws ≡ Ok front → length front ≡ 4
unfolding all_layouts row_size
head_size epoch ws front said = row_sizes epoch 2 4 all_layouts.head.now ws front refl said

head_meanings : (front : List ℕ) → meanings_in all_layouts.head.now front ≡ keyed (codes "enabled") (Amount (be16_at front 0)) ∷ keyed (codes "spare") (Amount (be16_at (drop 2 front) 0)) ∷ []
unfolding all_layouts meanings_in
head_meanings front = refl

front_flag : (front rest : List ℕ) → length front ≡ 4 → be16_at front 0 ≡ be16_at (front ++ rest) 0
unfolding be16_at
front_flag [] rest long = absurd (omega (arith, long))
front_flag (a ∷ []) rest long = absurd (omega (arith, long))
front_flag (a ∷ b ∷ front) rest long = refl

flag_is : (payload : List ℕ) → (dwell_of payload).enabled ≡ (be16_at payload 0 == 1)
unfolding dwell_of
flag_is payload = refl

dwell_entries : (payload : List ℕ) → (dwell_of payload).entries ≡ map (entry_at payload) (range_with_len 0 25)
unfolding dwell_of entries_in
dwell_entries payload = refl

dwells_mean : (f : TextForms) (l : Layout) (head : Numbered) (more : List Numbered) (payload : List ℕ) → is_layout l ≡ true → placed_layout l ≡ all_layouts.dwells → map placed_field f.layouts.now.head.now ≡ all_layouts.head.now → IsHeaded f l head more payload → DwellMeans f.epoch head more payload
unfolding all_layouts dwells_meaning
dwells_mean f l head more payload good e fields is =
    let front = is.front in
    let rest = is.rest in
    let ws = behind_first head.words in
    let said : row_said f.epoch 2 all_layouts.head.now ws ≡ Ok front = ap (λ (fs : List Field). row_said f.epoch 2 fs ws) (sym fields) ∙ row_placed f.epoch 2 f.layouts.now.head.now ws ∙ is.said in
    let four = head_size f.epoch ws front said in
    let behind : drop 4 payload ≡ rest = ap (drop 4) (sym is.payload_is) ∙ drop_at front rest 4 four in
    let flag : be16_at front 0 ≡ be16_at payload 0 = front_flag front rest four ∙ ap (λ (xs : List ℕ). be16_at xs 0) is.payload_is in
    let meant : meanings_said f.epoch all_layouts.head.now ws ≡ Some (keyed (codes "enabled") (Amount (be16_at front 0)) ∷ keyed (codes "spare") (Amount (be16_at (drop 2 front) 0)) ∷ []) = row_meanings f.epoch 2 all_layouts.head.now ws front said ∙ ap Some (head_meanings front) in
    let cut : (i : ℕ) → entry_at payload i ≡ entry_at (0 ∷ 0 ∷ 0 ∷ 0 ∷ take 8 (drop (8 * i) rest)) 0 =
    λ i. dwell_cut payload i ∙ ap (λ (xs : List ℕ). entry_at (0 ∷ 0 ∷ 0 ∷ 0 ∷ take 8 (drop (8 * i) xs)) 0) behind in
    record {
      enabled = ap (option_map (λ ms. amount_in ms (codes "enabled") == 1)) meant ∙ ap (λ (n : ℕ). Some (n == 1)) flag ∙ ap Some (sym (flag_is payload));
      entries = ap (map Some) (dwell_entries payload) ∙ entries_mean f.epoch f.commands.now l all_layouts.dwells (dwells_meaning f.epoch) (head.number + 1) more rest (entry_at payload) good e (dwells_fit f.epoch f.commands.now l e) cut (table_ok (entries_said f.epoch f.commands.now l 0 (head.number + 1) more) rest is.entries);
    }

no_head : (f : TextForms) (l : Layout) (n : ℕ) (payload : List ℕ) → headed_said f l n [] ≡ Ok payload → ⊥
unfolding headed_said
no_head f l n payload said = cc

headed_mean : (f : TextForms) (l : Layout) (n : ℕ) (lines : List Numbered) (payload : List ℕ) → is_layout l ≡ true → placed_layout l ≡ all_layouts.dwells → map placed_field f.layouts.now.head.now ≡ all_layouts.head.now → headed_said f l n lines ≡ Ok payload → HeadedMeans f.epoch lines payload
headed_mean f l n [] payload good e fields said = no_head f l n payload said
headed_mean f l n (head ∷ more) payload good e fields said = dwells_mean f l head more payload good e fields (headed_by f l n head more payload (begins (codes "head") head.words) refl said)

-- ---- sequences

read_ok : {E : Type 0} (r : Result (List E) EntryFault) → fault_in r ≡ None → (entries : List E) × (r ≡ Ok entries)
read_ok (Ok entries) e = (entries, refl)
read_ok (Err fault) e = absurd (cc)

-- an entry has a byte at least
timed_least : (bytes : List ℕ) → 1 ≤ timed_form.size bytes
unfolding timed_size
timed_least bytes = omega arith

relative_least : (bytes : List ℕ) → 1 ≤ relative_form.size bytes
unfolding relative_size
relative_least bytes = omega arith

absolute_mean : (f : TextForms) (fs : List Field) (n : ℕ) (lines : List Numbered) (payload : List ℕ) → are_good f.commands.now ≡ true → map placed_field fs ≡ all_layouts.absolute.now → as_table (sequence_said f.epoch f.commands.now fs n lines) ≡ Ok payload → ats_fault_of payload ≡ None → SequenceMeans timed_form timed_spelled (timed_meant f.epoch f.commands.now) lines (stored_ats payload)
unfolding ats_fault_of stored_ats
absolute_mean f fs n lines payload good known said well =
    let read = read_ok (read_of timed_form payload) well in
    sequence_read timed_form timed_spelled (timed_meant f.epoch f.commands.now) f.epoch f.commands.now fs timed_least (timed_item f.epoch f.commands.now fs good known) n lines read.0 payload (table_ok (sequence_said f.epoch f.commands.now fs n lines) payload said) read.1

relative_mean : (f : TextForms) (fs : List Field) (n : ℕ) (lines : List Numbered) (payload : List ℕ) → are_good f.commands.now ≡ true → map placed_field fs ≡ all_layouts.relative.now → as_table (sequence_said f.epoch f.commands.now fs n lines) ≡ Ok payload → rts_fault_of payload ≡ None → SequenceMeans relative_form relative_spelled (relative_meant f.epoch f.commands.now) lines (stored_rts payload)
unfolding rts_fault_of stored_rts
relative_mean f fs n lines payload good known said well =
    let read = read_ok (read_of relative_form payload) well in
    sequence_read relative_form relative_spelled (relative_meant f.epoch f.commands.now) f.epoch f.commands.now fs relative_least (relative_item f.epoch f.commands.now fs good known) n lines read.0 payload (table_ok (sequence_said f.epoch f.commands.now fs n lines) payload said) read.1

-- ---- all kinds

payload_means : (f : TextForms) (kind : TableKind) (n : ℕ) (lines : List Numbered) (payload : List ℕ) → placed f.layouts.now ≡ all_layouts → AreLayouts f.layouts.now → are_good f.commands.now ≡ true → payload_said f (form_of f.layouts.now kind) n lines ≡ Ok payload → entry_fault_of kind payload ≡ None → PayloadMeans f kind lines payload
payload_means f AppMon n lines payload known good commands said well = apps_mean f f.layouts.now.apps n lines payload good.apps.layout (ap (λ (ls : Layouts). ls.apps) known) said
payload_means f EventMon n lines payload known good commands said well = events_mean f f.layouts.now.events n lines payload good.events.layout (ap (λ (ls : Layouts). ls.events) known) said
payload_means f ExeCount n lines payload known good commands said well = counters_mean f f.layouts.now.counters n lines payload good.counters.layout (ap (λ (ls : Layouts). ls.counters) known) said
payload_means f MsgActs n lines payload known good commands said well = messages_mean f f.layouts.now.actions n lines payload commands good.actions.layout (ap (λ (ls : Layouts). ls.actions) known) said
payload_means f (Ats k) n lines payload known good commands said well = absolute_mean f f.layouts.now.absolute.now n lines payload commands (ap (λ (ls : Layouts). ls.absolute.now) known) said well
payload_means f (Rts k) n lines payload known good commands said well = relative_mean f f.layouts.now.relative.now n lines payload commands (ap (λ (ls : Layouts). ls.relative.now) known) said well
payload_means f (Dwell k) n lines payload known good commands said well = headed_mean f f.layouts.now.dwells n lines payload good.dwells.layout (ap (λ (ls : Layouts). ls.dwells) known) (ap (λ (ls : Layouts). ls.head.now) known) said
payload_means f Eeprom n lines payload known good commands said well = segments_mean f f.layouts.now.checksums n lines payload good.checksums.layout (ap (λ (ls : Layouts). ls.checksums) known) said
payload_means f Memory n lines payload known good commands said well = segments_mean f f.layouts.now.checksums n lines payload good.checksums.layout (ap (λ (ls : Layouts). ls.checksums) known) said
payload_means f Wdt n lines payload known good commands said well = watchpoints_mean f f.layouts.now.watchpoints n lines payload good.watchpoints.layout (ap (λ (ls : Layouts). ls.watchpoints) known) said
payload_means f Adt n lines payload known good commands said well = actionpoints_mean f f.layouts.now.actionpoints n lines payload good.actionpoints.layout (ap (λ (ls : Layouts). ls.actionpoints) known) said

-- ---- the payload of a file

ok_same : (a b : List ℕ) → ◌≡◌ {A = Result (List ℕ) TableFault} (Ok a) (Ok b) → a ≡ b
ok_same a b e = cc

judged_by : (x file : List ℕ) (o : Option TableFault) → unless_refused o x ≡ Ok file → x ≡ file
judged_by x file None is = ok_same x file is
judged_by x file (Some fault) is = absurd (cc)

judged_ok : (r : Result (List ℕ) TableFault) (file : List ℕ) → judged r ≡ Ok file → r ≡ Ok file
judged_ok (Ok x) file e = ap Ok (judged_by x file (refusal_of x) e)
judged_ok (Err fault) file e = absurd (cc)

record IsFiled (kind : TableKind) (header said : Result (List ℕ) TableFault) (file : List ℕ) : Type 0 where
  row : List ℕ
  payload : List ℕ
  header_is : header ≡ Ok row
  payload_is : said ≡ Ok payload
  file_is : table_file kind row payload ≡ file

filed_is : (kind : TableKind) (header said : Result (List ℕ) TableFault) (file : List ℕ) → filed kind header said ≡ Ok file → IsFiled kind header said file
filed_is kind (Ok row) (Ok payload) file e = record { row = row; payload = payload; header_is = refl; payload_is = refl; file_is = ok_same (table_file kind row payload) file e }
filed_is kind (Ok row) (Err fault) file e = absurd (let wrong : Err fault ≡ Ok file = e in cc)
filed_is kind (Err fault) said file e = absurd (let wrong : Err fault ≡ Ok file = e in cc)

whole_size : (n : ℕ) (x row : List ℕ) (b : Bool) → (length x == 60) ≡ b → whole_header n (Ok x) ≡ Ok row → length row ≡ 60
whole_size n x row true e is =
    let said : whole_header n (Ok x) ≡ Ok x = rw e refl in
    let same : x ≡ row = ok_same x row (sym said ∙ is) in
    rw (← same) (grind (arith, nat_tests, e))
whole_size n x row false e is = absurd (let said : whole_header n (Ok x) ≡ Ok row = is in let other = rw e at said in cc)

whole_long : (n : ℕ) (r : Result (List ℕ) RowFault) (row : List ℕ) → whole_header n r ≡ Ok row → length row ≡ 60
whole_long n (Ok x) row is = whole_size n x row (length x == 60) refl is
whole_long n (Err fault) row is = absurd (cc)

header_size : (fs : List Field) (n : ℕ) (ws : List (List ℕ)) (row : List ℕ) → header_said fs n ws ≡ Ok row → length row ≡ 60
unfolding header_said
header_size fs n [] row is = let same : replicate 60 0 ≡ row = ok_same (replicate 60 0) row is in rw (← same) refl
header_size fs n (w ∷ ws) row is = whole_long n (row_said None 3 fs (w ∷ ws)) row is

in_file_long : (row : List ℕ) → length row ≡ 60 → length (in_file row) ≡ 60
in_file_long row long =
    let a : length (take 24 row) ≡ 24 = simp length-take (omega (arith, long)) in
    let l24 : length (drop 24 row) ≡ length row - 24 = length-drop 24 row in
    let b : length (take 4 (drop 24 row)) ≡ 4 = simp length-take (omega (arith, long, l24)) in
    let c : length (drop 28 row) ≡ 32 = length-drop 28 row ∙ ap (λ (n : ℕ). n - 28) long in
    rw (length-append, length-append, a, b, c) refl

made_unloaded : (kind : TableKind) (row payload : List ℕ) → is_load (table_file kind row payload) ≡ false
unfolding is_load subtype be32_at
made_unloaded kind row payload = refl

drop_past : (n k : ℕ) (xs ys : List ℕ) → length xs ≡ n → drop (n + k) (xs ++ ys) ≡ drop k ys
drop_past n k xs ys e = rw (← e) (drop-append-add xs ys k)

made_payload : (kind : TableKind) (row payload : List ℕ) → IsKnown kind → length row ≡ 60 → payload_of_file (table_file kind row payload) ≡ payload
unfolding payload_of_file be32_bytes
made_payload kind row payload known long =
    let name = name_field kind in
    let rest = 0 ∷ 0 ∷ 0 ∷ 0 ∷ (be32_bytes (length payload) ++ (name ++ payload)) in
    let past : drop (60 + 48) (in_file row ++ rest) ≡ drop 48 rest = drop_past 60 48 (in_file row) rest (in_file_long row long) in
    rw (made_unloaded kind row payload) (past ∙ drop_at name payload 40 (field_long kind known))

-- ---- the first line

known_first : (n : ℕ) (o : Option TableKind) (ws : List (List ℕ)) (more : List Numbered) (first : First) → kind_first n o ws more ≡ Ok first → o ≡ Some first.kind
known_first n None ws more first e = absurd (cc)
known_first n (Some kind) ws more first e = ap kind_or e where
  kind_or : Result First TableFault → Option TableKind
  kind_or (Ok first) = Some first.kind
  kind_or (Err fault) = None

known_name : (n : ℕ) (ws : List (List ℕ)) (more : List Numbered) (first : First) → named_first n ws more ≡ Ok first → IsKnown first.kind
known_name n [] more first e = absurd (cc)
known_name n (w ∷ ws) more first e = (said_known w first.kind (known_first n (kind_said w) ws more first e)).0

first_by : (line : Numbered) (more : List Numbered) (first : First) (b : Bool) → begins (codes "table") line.words ≡ b → first_said (line ∷ more) ≡ Ok first → IsKnown first.kind
unfolding first_said
first_by line more first true here e = known_name line.number (behind_first line.words) more first (rw here at e)
first_by line more first false here e = absurd (let other = rw here at e in cc)

no_first : (first : First) → first_said [] ≡ Ok first → ⊥
unfolding first_said
no_first first e = cc

first_known : (lines : List Numbered) (first : First) → first_said lines ≡ Ok first → IsKnown first.kind
first_known [] first e = absurd (no_first first e)
first_known (line ∷ more) first e = first_by line more first (begins (codes "table") line.words) refl e

first_means : (f : TextForms) (r : Result First TableFault) (file : List ℕ) → ((first : First) → r ≡ Ok first → IsKnown first.kind) → placed f.layouts.now ≡ all_layouts → AreLayouts f.layouts.now → are_good f.commands.now ≡ true → first_filed f r ≡ Ok file → IsTakenAs r file → FirstMeans f r file
first_means f (Err fault) file kinds known good commands e taken = taken
first_means f (Ok first) file kinds known good commands e taken =
    let made = filed_is first.kind (header_said f.layouts.now.header.now first.number first.words) (payload_said f (form_of f.layouts.now first.kind) (first.number + 1) first.more) file e in
    let long = header_size f.layouts.now.header.now first.number first.words made.row made.header_is in
    let same : payload_of_file file ≡ made.payload = ap payload_of_file (sym made.file_is) ∙ made_payload first.kind made.row made.payload (kinds first refl) long in
    let well : entry_fault_of first.kind made.payload ≡ None = ap (entry_fault_of first.kind) (sym same) ∙ taken.1 in
    subst (PayloadMeans f first.kind first.more) (sym same) (payload_means f first.kind (first.number + 1) first.more made.payload known good commands made.payload_is well)

-- a text that is taken gives a file whose entries are those that the text means
pub texts_mean : (f : TextForms) (text file : List ℕ) → AreKnownForms f → table_said f text ≡ Ok file → TextMeans f text file
texts_mean f text file forms e =
    let lines = kept_of 1 text in
    first_means f (first_said lines) file (first_known lines) forms.known (layouts_are f.layouts.now forms.layouts) forms.commands (judged_ok (first_filed f (first_said lines)) file e) (texts_are_taken f text file e)
