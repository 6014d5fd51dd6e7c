-- Lemmas on rows whose texts lie elsewhere.
use Rattle.std.proofs.Common.{◌≡◌, ℕ, ◌+◌, ◌++◌, ◌∷◌, Bool, true, false, List, [], map, take, drop, Option, Some, None, refl, ap, ◌∙◌}
use Rattle.std.specs.Prelude.{codes, if◌then◌else◌, replicate, option_map}
use Rattle.std.specs.Str.{bytes_eq}
use Rattle.row_forms.specs.declared.field.Choice.{Choice}
use Rattle.row_forms.specs.declared.field.Field.{Field}
use Rattle.row_forms.specs.declared.field.Field.TheVariants.{Value, Zeros, Check}
use Rattle.row_forms.specs.declared.field.Kind.{Kind}
use Rattle.row_forms.specs.declared.field.Kind.TheVariants.{Number, Name, Block, Expression}
use Rattle.row_forms.specs.declared.field.Spelling.{Spelling}
use Rattle.row_forms.specs.declared.field.Spelling.TheVariants as spellings
use Rattle.row_forms.specs.declared.field.Width.{Width}
use Rattle.row_forms.specs.declared.field.Width.TheVariants.{U8, U16, U32}
use Rattle.row_forms.specs.Numbers.{most_of, number_at, number_bytes, number_said, choice_said, choice_shown}
use Rattle.row_forms.specs.Values.{reason_of, value_said, can_show, value_shown, width}
use Rattle.row_forms.specs.Rows.{behind_key, keyed_said, field_said, with_front, with_check, row_said, row_words, spaced, is_row}
use Rattle.telemetry.specs.declared.row.TelemetryRow.{TelemetryRow}
use Rattle.telemetry.specs.Telemetry.{named, made, named_said, word_said, telemetry_said, content_of, shows, showing, shown_by, telemetry_shown}
use Rattle.telemetry.specs.Dictionary.{placed, placed_choice, placed_spelling, placed_kind, placed_field}

-- ---- values

placed_choice_said : (most : ℕ) (cs : List Choice) (text : List ℕ) → choice_said most (map placed_choice cs) text ≡ choice_said most cs text
unfolding choice_said
placed_choice_said most [] text = refl
placed_choice_said most (c ∷ cs) text = rw (placed_choice_said most cs text) refl

placed_choice_shown : (cs : List Choice) (n : ℕ) → choice_shown (map placed_choice cs) n ≡ choice_shown cs n
unfolding choice_shown
placed_choice_shown [] n = refl
placed_choice_shown (c ∷ cs) n = rw (placed_choice_shown cs n) refl

placed_number : (epoch : Option ℕ) (w : Width) (s : Spelling) (text : List ℕ) → number_said epoch w (placed_spelling s) text ≡ number_said epoch w s text
placed_number epoch w spellings.Decimal text = refl
placed_number epoch w spellings.Hex text = refl
placed_number epoch w (spellings.Choice choices) text = placed_choice_said (most_of w) choices.now text
placed_number epoch w spellings.Mask text = refl
placed_number epoch w spellings.Time text = refl

placed_value : (epoch : Option ℕ) (kind : Kind) (text : List ℕ) → value_said epoch (placed_kind kind) text ≡ value_said epoch kind text
unfolding value_said
placed_value epoch (Number w s) text = ap (option_map (number_bytes w)) (placed_number epoch w s text)
placed_value epoch Name text = refl
placed_value epoch Block text = refl
placed_value epoch (Expression words) text = refl

placed_reason : (kind : Kind) → reason_of (placed_kind kind) ≡ reason_of kind
placed_reason (Number U8 spellings.Decimal) = refl
placed_reason (Number U16 spellings.Decimal) = refl
placed_reason (Number U32 spellings.Decimal) = refl
placed_reason (Number U8 spellings.Hex) = refl
placed_reason (Number U16 spellings.Hex) = refl
placed_reason (Number U32 spellings.Hex) = refl
placed_reason (Number U8 (spellings.Choice choices)) = refl
placed_reason (Number U16 (spellings.Choice choices)) = refl
placed_reason (Number U32 (spellings.Choice choices)) = refl
placed_reason (Number U8 spellings.Mask) = refl
placed_reason (Number U16 spellings.Mask) = refl
placed_reason (Number U32 spellings.Mask) = refl
placed_reason (Number U8 spellings.Time) = refl
placed_reason (Number U16 spellings.Time) = refl
placed_reason (Number U32 spellings.Time) = refl
placed_reason Name = refl
placed_reason Block = refl
placed_reason (Expression words) = refl

placed_shown : (kind : Kind) (bytes : List ℕ) → value_shown (placed_kind kind) bytes ≡ value_shown kind bytes
unfolding value_shown
placed_shown (Number w spellings.Decimal) bytes = refl
placed_shown (Number w spellings.Hex) bytes = refl
placed_shown (Number w (spellings.Choice choices)) bytes = placed_choice_shown choices.now (number_at w bytes)
placed_shown (Number w spellings.Mask) bytes = refl
placed_shown (Number w spellings.Time) bytes = refl
placed_shown Name bytes = refl
placed_shown Block bytes = refl
placed_shown (Expression words) bytes = refl

placed_width : (kind : Kind) (bytes : List ℕ) → width (placed_kind kind) bytes ≡ width kind bytes
placed_width (Number w s) bytes = refl
placed_width Name bytes = refl
placed_width Block bytes = refl
placed_width (Expression words) bytes = refl

placed_can : (kind : Kind) (bytes : List ℕ) → can_show (placed_kind kind) bytes ≡ can_show kind bytes
unfolding can_show
placed_can (Number w s) bytes = refl
placed_can Name bytes = refl
placed_can Block bytes = refl
placed_can (Expression words) bytes = refl

-- ---- rows

placed_keyed : (epoch : Option ℕ) (kind : Kind) (o : Option (List ℕ)) → keyed_said epoch (placed_kind kind) o ≡ keyed_said epoch kind o
placed_keyed epoch kind None = refl
placed_keyed epoch kind (Some text) = rw (placed_value epoch kind text, placed_reason kind) refl

placed_word : (epoch : Option ℕ) (key : List ℕ) (kind : Kind) (w : List ℕ) → field_said epoch key (placed_kind kind) w ≡ field_said epoch key kind w
unfolding field_said
placed_word epoch key kind w = placed_keyed epoch kind (behind_key key w)

placed_row : (epoch : Option ℕ) (n : ℕ) (fs : List Field) (ws : List (List ℕ)) → row_said epoch n (map placed_field fs) ws ≡ row_said epoch n fs ws
unfolding row_said
placed_row epoch n [] ws = refl
placed_row epoch n (Value key kind ∷ fs) [] = refl
placed_row epoch n (Value key kind ∷ fs) (w ∷ ws) = rw (placed_word epoch key.now kind w, placed_row epoch (n + 1) fs ws) refl
placed_row epoch n (Zeros count ∷ fs) [] = ap (with_front (replicate count 0)) (placed_row epoch n fs [])
placed_row epoch n (Zeros count ∷ fs) (w ∷ ws) = ap (with_front (replicate count 0)) (placed_row epoch n fs (w ∷ ws))
placed_row epoch n (Check ∷ fs) [] = ap with_check (placed_row epoch n fs [])
placed_row epoch n (Check ∷ fs) (w ∷ ws) = ap with_check (placed_row epoch n fs (w ∷ ws))

placed_is_row : (fs : List Field) (bytes : List ℕ) → is_row (map placed_field fs) bytes ≡ is_row fs bytes
unfolding is_row
placed_is_row [] bytes = refl
placed_is_row (Value key kind ∷ fs) bytes =
    rw (placed_width kind bytes, placed_can kind (take (width kind bytes) bytes), placed_is_row fs (drop (width kind bytes) bytes)) refl
placed_is_row (Zeros count ∷ fs) bytes = rw (placed_is_row fs (drop count bytes)) refl
placed_is_row (Check ∷ fs) bytes = rw (placed_is_row fs (drop 2 bytes)) refl

placed_words : (fs : List Field) (bytes : List ℕ) → row_words (map placed_field fs) bytes ≡ row_words fs bytes
unfolding row_words
placed_words [] bytes = refl
placed_words (Value key kind ∷ fs) bytes =
    rw (placed_width kind bytes, placed_shown kind (take (width kind bytes) bytes), placed_words fs (drop (width kind bytes) bytes)) refl
placed_words (Zeros count ∷ fs) bytes = placed_words fs (drop count bytes)
placed_words (Check ∷ fs) bytes = placed_words fs (drop 2 bytes)

-- ---- packets

abbrev placed_option : Option TelemetryRow → Option TelemetryRow
placed_option None = None
placed_option (Some k) = Some (placed k)

placed_named : (ks : List TelemetryRow) (name : List ℕ) → named (map placed ks) name ≡ placed_option (named ks name)
unfolding named
placed_named [] name = refl
placed_named (k ∷ ks) name = by (bytes_eq k.name.now name) (placed_named ks name) where
  by : (b : Bool) → named (map placed ks) name ≡ placed_option (named ks name) → (if b then Some (placed k) else named (map placed ks) name) ≡ placed_option (if b then Some k else named ks name)
  by true h = refl
  by false h = h

placed_said : (epoch : Option ℕ) (n : ℕ) (o : Option TelemetryRow) (ws : List (List ℕ)) → named_said epoch n (placed_option o) ws ≡ named_said epoch n o ws
placed_said epoch n None ws = refl
placed_said epoch n (Some k) ws = ap (made k) (placed_row epoch (n + 1) k.fields.now ws)

placed_first : (epoch : Option ℕ) (n : ℕ) (ks : List TelemetryRow) (o : Option (List ℕ)) (w : List ℕ) (ws : List (List ℕ)) → word_said epoch n (map placed ks) o w ws ≡ word_said epoch n ks o w ws
placed_first epoch n ks (Some digits) w ws = refl
placed_first epoch n ks None w ws = ap (λ (o : Option TelemetryRow). named_said epoch n o ws) (placed_named ks w) ∙ placed_said epoch n (named ks w) ws

-- where the texts of rows lie says nothing
pub placed_rows : (epoch : Option ℕ) (n : ℕ) (ks : List TelemetryRow) (ws : List (List ℕ)) → telemetry_said epoch n (map placed ks) ws ≡ telemetry_said epoch n ks ws
unfolding telemetry_said
placed_rows epoch n ks [] = refl
placed_rows epoch n ks (w ∷ ws) = placed_first epoch n ks (behind_key (codes "packet") w) w ws

placed_shows : (packet : List ℕ) (k : TelemetryRow) → shows packet (placed k) ≡ shows packet k
unfolding shows
placed_shows packet k = rw (placed_is_row k.fields.now (content_of packet)) refl

placed_showing : (ks : List TelemetryRow) (packet : List ℕ) → showing (map placed ks) packet ≡ placed_option (showing ks packet)
unfolding showing
placed_showing [] packet = refl
placed_showing (k ∷ ks) packet = ap (λ (b : Bool). if b then Some (placed k) else showing (map placed ks) packet) (placed_shows packet k) ∙ by (shows packet k) (placed_showing ks packet) where
  by : (b : Bool) → showing (map placed ks) packet ≡ placed_option (showing ks packet) → (if b then Some (placed k) else showing (map placed ks) packet) ≡ placed_option (if b then Some k else showing ks packet)
  by true h = refl
  by false h = h

placed_shown_by : (o : Option TelemetryRow) (packet : List ℕ) → shown_by (placed_option o) packet ≡ shown_by o packet
placed_shown_by None packet = refl
placed_shown_by (Some k) packet = ap (λ (ws : List (List ℕ)). k.name.now ++ spaced ws) (placed_words k.fields.now (content_of packet))

pub placed_telemetry : (ks : List TelemetryRow) (packet : List ℕ) → telemetry_shown (map placed ks) packet ≡ telemetry_shown ks packet
unfolding telemetry_shown
placed_telemetry ks packet = ap (λ (o : Option TelemetryRow). shown_by o packet) (placed_showing ks packet) ∙ placed_shown_by (showing ks packet) packet
