-- Lemmas on the entries that loaders read, kind by kind.
use Rattle.std.proofs.Common.{◌≡◌, ℕ, zero, suc, ◌+◌, ◌*◌, ◌<◌, true, List, ◌∷◌, take, drop, map, Option, Some, refl, ap, sym, ◌∙◌, arith}
use Rattle.std.specs.Prelude.{◌==◌, Ok, replicate, option_map}
use Rattle.std.specs.List.{range_with_len}
use Rattle.std.proofs.lemmas.List.{take-take, drop-drop, get_or-drop}
use Rattle.packet_forms.specs.Names.{is_name, is_name_text, name_text}
use Rattle.packet_forms.specs.Numbers.{be16_at, be32_at}
use Rattle.row_forms.specs.declared.field.Field.{Field}
use Rattle.row_forms.specs.Rows.{row_said}
use Rattle.row_forms.specs.Values.{steps_at}
use Rattle.telecommands.specs.declared.command.Command.{Command}
use Rattle.table_texts.specs.declared.layout.Layout.{Layout}
use Rattle.hs_tables.specs.Apps as apps
use Rattle.hs_tables.specs.Events as events
use Rattle.hs_tables.specs.Counters as counters
use Rattle.md_dwell.specs.Tables.{entry_at}
use Rattle.md_dwell.specs.declared.tables.DwellEntry.{DwellEntry}
use Rattle.cs_slices.specs.Tables.{segment_at}
use Rattle.lc_watch.specs.Watchpoints as watchpoints
use Rattle.lc_watch.specs.Actionpoints as actionpoints
use Rattle.lc_watch.specs.Expressions.{word_of, word_at, words_at}
use Rattle.lc_watch.specs.declared.expressions.Word.{Word}
use Rattle.table_forms.specs.Layouts.{all_layouts, placed_layout, placed_field}
use Rattle.table_meanings.specs.Meanings.{Keyed, meanings_said, meanings_in}
use Rattle.table_meanings.specs.Entries.{EntryMeaning}
use Rattle.table_meanings.specs.Tables.{counter_of, app_of, event_of, dwell_entry_of, segment_of, watchpoint_of, actionpoint_of, row_meant, counters_meaning, apps_meaning, events_meaning, dwells_meaning, segments_meaning, watchpoints_meaning, actionpoints_meaning}
use Rattle.table_meanings.proofs.MeaningLemmas.{row_meanings}
use Rattle.table_meanings.proofs.PlacedLemmas.{row_placed}
use Rattle.table_meanings.proofs.ChunkLemmas.{be16_cut, be32_cut, be16_behind, be32_behind, range_same}
use Rattle.table_meanings.proofs.SaidLemmas.{Fits, row_is}

-- ---- entries without a telecommand

-- a layout is this one, wherever its texts lie
pub record IsKnown (l known : Layout) : Type 0 where
  pub count : l.count ≡ known.count
  pub size : l.size ≡ known.size
  pub area : l.area ≡ known.area
  pub fields : map placed_field l.fields.now ≡ known.fields.now

pub known_is : (l known : Layout) → placed_layout l ≡ known → IsKnown l known
known_is l known e = record {
  count = ap (λ (x : Layout). x.count) e;
  size = ap (λ (x : Layout). x.size) e;
  area = ap (λ (x : Layout). x.area) e;
  fields = ap (λ (x : Layout). x.fields.now) e;
}

-- a row by fields whose texts lie elsewhere means what these fields say
pub known_row : (epoch : Option ℕ) (fs known : List Field) (ws : List (List ℕ)) (bytes : List ℕ) → map placed_field fs ≡ known → row_said epoch 2 fs ws ≡ Ok bytes → meanings_said epoch known ws ≡ Some (meanings_in known bytes)
known_row epoch fs known ws bytes e said =
    row_meanings epoch 2 known ws bytes (ap (λ (xs : List Field). row_said epoch 2 xs ws) (sym e) ∙ row_placed epoch 2 fs ws ∙ said)

rows_fit : {E : Type 0} (epoch : Option ℕ) (cs : List Command) (l known : Layout) (m : EntryMeaning E) (made : List Keyed → E) → IsKnown l known → (known.area == 0) ≡ true → m.said ≡ row_meant epoch known.fields.now made → m.read (replicate known.size 0) ≡ m.unused → ((bytes : List ℕ) → made (meanings_in known.fields.now bytes) ≡ m.read bytes) → Fits epoch cs l m
rows_fit epoch cs l known m made is plain means blank same = record {
  zero = ap (λ (n : ℕ). m.read (replicate n 0)) is.size ∙ blank;
  said = λ ws bytes e.
      ap (λ (said : List (List ℕ) → Option _). said ws) means
      ∙ ap (option_map made) (known_row epoch l.fields.now known.fields.now ws bytes is.fields (row_is epoch cs l ws bytes (ap (λ (n : ℕ). n == 0) is.area ∙ plain) e))
      ∙ ap Some (same bytes);
}

-- ---- execution counters

counter_read : (bytes : List ℕ) → counter_of (meanings_in all_layouts.counters.fields.now bytes) ≡ counters.row_at bytes 0
unfolding all_layouts meanings_in counter_of
counter_read bytes = rw (be16_behind 20 0 bytes) refl

pub counters_fit : (epoch : Option ℕ) (cs : List Command) (l : Layout) → placed_layout l ≡ all_layouts.counters → Fits epoch cs l (counters_meaning epoch)
unfolding all_layouts counters_meaning be16_at is_name is_name_text name_text
counters_fit epoch cs l e = rows_fit epoch cs l all_layouts.counters (counters_meaning epoch) counter_of (known_is l all_layouts.counters e) refl refl refl counter_read

pub counter_cut : (payload : List ℕ) (i : ℕ) → counters.row_at payload i ≡ counters.row_at (take 22 (drop (22 * i) payload)) 0
counter_cut payload i =
    rw (
      take-take 20 22 (drop (22 * i) payload) (omega arith),
      be16_cut 22 (22 * i) 20 (22 * i + 20) payload (omega arith) refl,
    ) refl

-- ---- application monitors

app_read : (bytes : List ℕ) → app_of (meanings_in all_layouts.apps.fields.now bytes) ≡ apps.row_at bytes 0
unfolding all_layouts meanings_in app_of
app_read bytes = simp (be16_behind)

pub apps_fit : (epoch : Option ℕ) (cs : List Command) (l : Layout) → placed_layout l ≡ all_layouts.apps → Fits epoch cs l (apps_meaning epoch)
unfolding all_layouts apps_meaning be16_at is_name is_name_text name_text
apps_fit epoch cs l e = rows_fit epoch cs l all_layouts.apps (apps_meaning epoch) app_of (known_is l all_layouts.apps e) refl refl refl app_read

pub app_cut : (payload : List ℕ) (i : ℕ) → apps.row_at payload i ≡ apps.row_at (take 24 (drop (24 * i) payload)) 0
app_cut payload i =
    rw (
      take-take 20 24 (drop (24 * i) payload) (omega arith),
      be16_cut 24 (24 * i) 20 (24 * i + 20) payload (omega arith) refl,
      be16_cut 24 (24 * i) 22 (24 * i + 22) payload (omega arith) refl,
    ) refl

-- ---- event monitors

event_read : (bytes : List ℕ) → event_of (meanings_in all_layouts.events.fields.now bytes) ≡ events.row_at bytes 0
unfolding all_layouts meanings_in event_of
event_read bytes = simp (be16_behind)

pub events_fit : (epoch : Option ℕ) (cs : List Command) (l : Layout) → placed_layout l ≡ all_layouts.events → Fits epoch cs l (events_meaning epoch)
unfolding all_layouts events_meaning be16_at is_name is_name_text name_text
events_fit epoch cs l e = rows_fit epoch cs l all_layouts.events (events_meaning epoch) event_of (known_is l all_layouts.events e) refl refl refl event_read

pub event_cut : (payload : List ℕ) (i : ℕ) → events.row_at payload i ≡ events.row_at (take 24 (drop (24 * i) payload)) 0
event_cut payload i =
    rw (
      take-take 20 24 (drop (24 * i) payload) (omega arith),
      be16_cut 24 (24 * i) 20 (24 * i + 20) payload (omega arith) refl,
      be16_cut 24 (24 * i) 22 (24 * i + 22) payload (omega arith) refl,
    ) refl

-- ---- checksum tables

segment_read : (bytes : List ℕ) → segment_of (meanings_in all_layouts.checksums.fields.now bytes) ≡ segment_at bytes 0
unfolding all_layouts meanings_in segment_of
segment_read bytes = simp (drop-drop, be32_behind)

pub segments_fit : (epoch : Option ℕ) (cs : List Command) (l : Layout) → placed_layout l ≡ all_layouts.checksums → Fits epoch cs l (segments_meaning epoch)
unfolding all_layouts segments_meaning be16_at be32_at
segments_fit epoch cs l e = rows_fit epoch cs l all_layouts.checksums (segments_meaning epoch) segment_of (known_is l all_layouts.checksums e) refl refl refl segment_read

pub segment_cut : (payload : List ℕ) (i : ℕ) → segment_at payload i ≡ segment_at (take 12 (drop (12 * i) payload)) 0
segment_cut payload i =
    let first : 12 * i + 0 ≡ 12 * i = omega arith in
    rw (
      be16_cut 12 (12 * i) 0 (12 * i) payload (omega arith) first,
      be32_cut 12 (12 * i) 4 (12 * i + 4) payload (omega arith) refl,
      be32_cut 12 (12 * i) 8 (12 * i + 8) payload (omega arith) refl,
    ) refl

-- ---- watchpoints

watchpoint_read : (bytes : List ℕ) → watchpoint_of (meanings_in all_layouts.watchpoints.fields.now bytes) ≡ watchpoints.row_at bytes 0
unfolding all_layouts meanings_in watchpoint_of
watchpoint_read bytes = simp (be16_behind, be32_behind)

pub watchpoints_fit : (epoch : Option ℕ) (cs : List Command) (l : Layout) → placed_layout l ≡ all_layouts.watchpoints → Fits epoch cs l (watchpoints_meaning epoch)
unfolding all_layouts watchpoints_meaning be16_at be32_at
watchpoints_fit epoch cs l e = rows_fit epoch cs l all_layouts.watchpoints (watchpoints_meaning epoch) watchpoint_of (known_is l all_layouts.watchpoints e) refl refl refl watchpoint_read

pub watchpoint_cut : (payload : List ℕ) (i : ℕ) → watchpoints.row_at payload i ≡ watchpoints.row_at (take 16 (drop (16 * i) payload)) 0
watchpoint_cut payload i =
    let first : 16 * i + 0 ≡ 16 * i = omega arith in
    rw (
      be16_cut 16 (16 * i) 0 (16 * i) payload (omega arith) first,
      be16_cut 16 (16 * i) 2 (16 * i + 2) payload (omega arith) refl,
      be16_cut 16 (16 * i) 4 (16 * i + 4) payload (omega arith) refl,
      be16_cut 16 (16 * i) 6 (16 * i + 6) payload (omega arith) refl,
      be32_cut 16 (16 * i) 8 (16 * i + 8) payload (omega arith) refl,
      be32_cut 16 (16 * i) 12 (16 * i + 12) payload (omega arith) refl,
    ) refl

-- ---- actionpoints

words_by : (n k from : ℕ) (bytes : List ℕ) → map word_of (steps_at n (drop (from + 2 * k) bytes)) ≡ map (word_at bytes from) (range_with_len k n)
unfolding steps_at
words_by zero k from bytes = refl
words_by (suc n) k from bytes =
    let first : be16_at (drop (from + 2 * k) bytes) 0 ≡ be16_at bytes (from + 2 * k + 0) = be16_behind (from + 2 * k) 0 bytes in
    let same : from + 2 * k + 0 ≡ from + 2 * k = omega arith in
    let next : from + 2 * k + 2 ≡ from + 2 * (k + 1) = omega arith in
    let later : map word_of (steps_at n (drop 2 (drop (from + 2 * k) bytes))) ≡ map (word_at bytes from) (range_with_len (k + 1) n) =
    ap (λ (xs : List ℕ). map word_of (steps_at n xs)) (drop-drop 2 (from + 2 * k) bytes ∙ ap (λ (j : ℕ). drop j bytes) next) ∙ words_by n (k + 1) from bytes in
    joined (ap word_of (first ∙ ap (be16_at bytes) same)) later
  where
    joined : {x y : Word} {xs ys : List Word} → x ≡ y → xs ≡ ys → x ∷ xs ≡ y ∷ ys
    joined p q = cc

actionpoint_read : (bytes : List ℕ) → actionpoint_of (meanings_in all_layouts.actionpoints.fields.now bytes) ≡ actionpoints.row_at bytes 0
unfolding all_layouts meanings_in actionpoint_of words_at
actionpoint_read bytes =
    let words : map word_of (steps_at 16 (drop 8 bytes)) ≡ map (word_at bytes 8) (range_with_len 0 16) = words_by 16 0 8 bytes in
    simp (be16_behind, drop-drop, words)

pub actionpoints_fit : (epoch : Option ℕ) (cs : List Command) (l : Layout) → placed_layout l ≡ all_layouts.actionpoints → Fits epoch cs l (actionpoints_meaning epoch)
unfolding all_layouts actionpoints_meaning be16_at words_at
actionpoints_fit epoch cs l e = rows_fit epoch cs l all_layouts.actionpoints (actionpoints_meaning epoch) actionpoint_of (known_is l all_layouts.actionpoints e) refl refl refl actionpoint_read

words_cut : (payload : List ℕ) (i : ℕ) → words_at payload (40 * i + 8) ≡ words_at (take 40 (drop (40 * i) payload)) 8
unfolding words_at
words_cut payload i = range_same (word_at payload (40 * i + 8)) (word_at (take 40 (drop (40 * i) payload)) 8) 0 0 16 each where
  each : (k : ℕ) → k < 16 → word_at payload (40 * i + 8) (0 + k) ≡ word_at (take 40 (drop (40 * i) payload)) 8 (0 + k)
  each k room =
      let same : 40 * i + (8 + 2 * (0 + k)) ≡ 40 * i + 8 + 2 * (0 + k) = omega arith in
      ap word_of (sym (be16_cut 40 (40 * i) (8 + 2 * (0 + k)) (40 * i + 8 + 2 * (0 + k)) payload (omega (arith, room)) same))

pub actionpoint_cut : (payload : List ℕ) (i : ℕ) → actionpoints.row_at payload i ≡ actionpoints.row_at (take 40 (drop (40 * i) payload)) 0
actionpoint_cut payload i =
    let first : 40 * i + 0 ≡ 40 * i = omega arith in
    rw (
      be16_cut 40 (40 * i) 0 (40 * i) payload (omega arith) first,
      be16_cut 40 (40 * i) 2 (40 * i + 2) payload (omega arith) refl,
      be16_cut 40 (40 * i) 4 (40 * i + 4) payload (omega arith) refl,
      be16_cut 40 (40 * i) 6 (40 * i + 6) payload (omega arith) refl,
      words_cut payload i,
    ) refl

-- ---- dwell tables

dwell_read : (bytes : List ℕ) → dwell_entry_of (meanings_in all_layouts.dwells.fields.now bytes) ≡ entry_at (0 ∷ 0 ∷ 0 ∷ 0 ∷ bytes) 0
unfolding all_layouts meanings_in dwell_entry_of be16_at be32_at
dwell_read bytes = simp (get_or-drop)

pub dwells_fit : (epoch : Option ℕ) (cs : List Command) (l : Layout) → placed_layout l ≡ all_layouts.dwells → Fits epoch cs l (dwells_meaning epoch)
unfolding all_layouts dwells_meaning be16_at be32_at
dwells_fit epoch cs l e = rows_fit epoch cs l all_layouts.dwells (dwells_meaning epoch) dwell_entry_of (known_is l all_layouts.dwells e) refl refl refl dwell_read

behind_four : (chunk : List ℕ) → ◌≡◌ {A = DwellEntry} (record { len = be16_at chunk 0; delay = be16_at chunk 2; at = be32_at chunk 4 }) (entry_at (0 ∷ 0 ∷ 0 ∷ 0 ∷ chunk) 0)
unfolding be16_at be32_at
behind_four chunk = refl

pub dwell_cut : (payload : List ℕ) (i : ℕ) → entry_at payload i ≡ entry_at (0 ∷ 0 ∷ 0 ∷ 0 ∷ take 8 (drop (8 * i) (drop 4 payload))) 0
dwell_cut payload i =
    let chunk = take 8 (drop (8 * i) (drop 4 payload)) in
    let at0 : 8 * i + 0 ≡ 8 * i = omega arith in
    let at6 : 4 + (8 * i + 2) ≡ 6 + 8 * i = omega arith in
    let at8 : 4 + (8 * i + 4) ≡ 8 + 8 * i = omega arith in
    let len : be16_at chunk 0 ≡ be16_at payload (4 + 8 * i) = be16_cut 8 (8 * i) 0 (8 * i) (drop 4 payload) (omega arith) at0 ∙ be16_behind 4 (8 * i) payload in
    let delay : be16_at chunk 2 ≡ be16_at payload (6 + 8 * i) = be16_cut 8 (8 * i) 2 (8 * i + 2) (drop 4 payload) (omega arith) refl ∙ be16_behind 4 (8 * i + 2) payload ∙ ap (be16_at payload) at6 in
    let at : be32_at chunk 4 ≡ be32_at payload (8 + 8 * i) = be32_cut 8 (8 * i) 4 (8 * i + 4) (drop 4 payload) (omega arith) refl ∙ be32_behind 4 (8 * i + 4) payload ∙ ap (be32_at payload) at8 in
    rw (← len, ← delay, ← at) (behind_four chunk)
