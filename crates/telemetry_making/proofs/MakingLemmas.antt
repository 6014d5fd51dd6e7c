-- Lemmas on the words of packets that are made.
use Rattle.std.proofs.Common.{◌≡◌, ℕ, zero, suc, ◌+◌, ◌*◌, ◌/◌, ◌%◌, ◌^◌, ◌<◌, ◌≤◌, Bool, true, false, ◌&&◌, List, [], ◌∷◌, ◌++◌, length, take, drop, Option, Some, None, refl, ap, sym, ◌∙◌, arith, Bor}
use Rattle.std.specs.Prelude.{◌==◌, nat_le, if◌then◌else◌, codes, find, Ok}
use Rattle.std.specs.List.{list_all, AllByRecursion}
use Rattle.std.specs.Str.{bytes_eq}
use Rattle.std.proofs.lemmas.Bool.Decides.{nat_tests}
use Rattle.packet_forms.specs.Built.{telemetry_of, with_sequence, primary_header}
use Rattle.packet_forms.specs.Hex.{hex}
use Rattle.packet_forms.specs.Numbers.{be16_at, be32_at, be16_bytes, be32_bytes}
use Rattle.packet_forms.specs.Packets.{message_id, sequence_count}
use Rattle.row_forms.specs.declared.field.Field.{Field}
use Rattle.row_forms.specs.declared.field.Field.TheVariants.{Value, Zeros}
use Rattle.row_forms.specs.declared.field.Kind.TheVariants.{Number, Block}
use Rattle.row_forms.specs.declared.field.Spelling.{Spelling}
use Rattle.row_forms.specs.declared.field.Spelling.TheVariants as spellings
use Rattle.row_forms.specs.declared.field.Width.TheVariants.{U8, U16, U32}
use Rattle.row_forms.specs.Rows.{row_said, row_words, row_shown, is_row, are_fields}
use Rattle.row_forms.specs.RowNumbers.{numbers_said, numbers_in}
use Rattle.row_forms.specs.Values.{can_show, value_shown}
use Rattle.row_forms.specs.Worked.{field, text_at}
use Rattle.row_forms.proofs.BackLemmas.{row_back}
use Rattle.row_forms.proofs.RowNumberLemmas.{row_numbers}
use Rattle.row_forms.proofs.TextLemmas.{all_append}
use Rattle.telemetry.specs.declared.row.TelemetryRow.{TelemetryRow}
use Rattle.telemetry.specs.Telemetry.{named, content_of, is_content, packet_of, shows, showing, shown_by, telemetry_shown}
use Rattle.telemetry.specs.Dictionary.{dictionary, behind_header, count}
use Rattle.telemetry.proofs.TelemetryLemmas.{content_is}
use Rattle.telemetry_making.specs.Making.{fields_in, fields_of, words_of, IsShownWith}

-- ---- numbers in bytes

pub whole16 : (n : ℕ) → n < 65536 → n / 256 % 256 * 256 + n % 256 ≡ n
whole16 n h = omega (arith, h)

pub whole32 : (n : ℕ) → n < 4294967296 → n / 16777216 % 256 * 16777216 + n / 65536 % 256 * 65536 + n / 256 % 256 * 256 + n % 256 ≡ n
whole32 n h = omega (arith, h)

pub bytes16 : (n : ℕ) → AllByRecursion (λ b. b < 256) (be16_bytes n)
unfolding be16_bytes
bytes16 n = (omega arith, (omega arith, tt))

pub bytes32 : (n : ℕ) → AllByRecursion (λ b. b < 256) (be32_bytes n)
unfolding be32_bytes
bytes32 n = (omega arith, (omega arith, (omega arith, (omega arith, tt))))

-- ---- what a row says of a packet that was made

-- seconds, sequence count and payload
abbrev pub content_from : ℕ → ℕ → List ℕ → List ℕ
content_from time count payload = (be32_bytes time ++ be16_bytes count) ++ payload

content_made : (id time count : ℕ) (payload : List ℕ) → count < 16384 → content_of (with_sequence count (telemetry_of id time payload)) ≡ content_from time count payload
unfolding content_of with_sequence telemetry_of primary_header sequence_count be16_at be16_bytes be32_bytes
content_made id time count payload low =
    let same : ((49152 + count) / 256 % 256 * 256 + (49152 + count) % 256) % 16384 ≡ count = omega (arith, low) in
    ap (λ (n : ℕ). content_from time n payload) same

rebuilt : (id time count : ℕ) (payload : List ℕ) → time < 4294967296 → count < 16384 → packet_of id (content_from time count payload) ≡ with_sequence count (telemetry_of id time payload)
unfolding packet_of be16_at be32_at be16_bytes be32_bytes
rebuilt id time count payload within low =
    ap (λ (n : ℕ). with_sequence n (telemetry_of id (be32_at (content_from time count payload) 0) payload)) (whole16 count (omega (arith, low)))
    ∙ ap (λ (n : ℕ). with_sequence count (telemetry_of id n payload)) (whole32 time within)

id_made : (id time count : ℕ) (payload : List ℕ) → id < 8192 → message_id (with_sequence count (telemetry_of id time payload)) ≡ id
unfolding message_id with_sequence telemetry_of primary_header be16_at be16_bytes be32_bytes
id_made id time count payload low = whole16 id (omega (arith, low))

long_made : (time count : ℕ) (payload : List ℕ) → length (content_from time count payload) ≡ 6 + length payload
unfolding be16_bytes be32_bytes
long_made time count payload = omega arith

count_made : (time count : ℕ) (payload : List ℕ) → count < 16384 → be16_at (content_from time count payload) 4 ≡ count
unfolding be16_at be16_bytes be32_bytes
count_made time count payload low = whole16 count (omega (arith, low))

can_be_made : (time count : ℕ) (payload : List ℕ) → count < 16384 → length payload ≤ 244 → is_content (content_from time count payload) ≡ true
can_be_made time count payload low few =
    let long = long_made time count payload in
    let counted = count_made time count payload low in
    content_is (content_from time count payload) (omega (arith, long)) (omega (arith, long, few)) (omega (arith, counted, low))

-- ---- the first row that shows it

same_bytes : (xs : List ℕ) → bytes_eq xs xs ≡ true
same_bytes [] = refl
same_bytes (x ∷ xs) = let e : (x == x) ≡ true = grind (arith, nat_tests) in rw (e, same_bytes xs) refl

shows_made : (k : TelemetryRow) (packet : List ℕ) → message_id packet ≡ k.id → is_content (content_of packet) ≡ true → is_row k.fields.now (content_of packet) ≡ true → packet_of k.id (content_of packet) ≡ packet → shows packet k ≡ true
unfolding shows
shows_made k packet id content row whole =
    let first : (message_id packet == k.id) ≡ true = grind (arith, nat_tests, id) in
    let last : bytes_eq (packet_of k.id (content_of packet)) packet ≡ true = ap (λ (xs : List ℕ). bytes_eq xs packet) whole ∙ same_bytes packet in
    rw (first, content, row, last) refl

shows_not : (k : TelemetryRow) (packet : List ℕ) → (message_id packet == k.id) ≡ false → shows packet k ≡ false
unfolding shows
shows_not k packet other = rw other refl

abbrev first_of : List TelemetryRow → ℕ → Option TelemetryRow
first_of ks id = find (λ k. id == k.id) ks

some_same : (k d : TelemetryRow) → (let x : Option TelemetryRow = Some k in x) ≡ Some d → k ≡ d
some_same k d e = cc

none_some : (k : TelemetryRow) → (let x : Option TelemetryRow = None in x) ≡ Some k → ⊥
none_some k e = absurd (cc)

shown_first : (ks : List TelemetryRow) (packet : List ℕ) (k : TelemetryRow) → first_of ks (message_id packet) ≡ Some k → shows packet k ≡ true → showing ks packet ≡ Some k
unfolding showing
shown_first [] packet k first shown = absurd (none_some k first)
shown_first (d ∷ ks) packet k first shown = by (message_id packet == d.id) refl first (shown_first ks packet k) where
  by : (b : Bool) → (message_id packet == d.id) ≡ b → (if b then Some d else first_of ks (message_id packet)) ≡ Some k → (first_of ks (message_id packet) ≡ Some k → shows packet k ≡ true → showing ks packet ≡ Some k) → (if shows packet d then Some d else showing ks packet) ≡ Some k
  by true e f behind =
      let same = some_same d k f in
      let t : shows packet d ≡ true = rw same shown in
      rw t f
  by false e f behind = rw (shows_not d packet e) (behind f shown)

-- ---- the law of one row

-- what is asked of a row and a payload
pub record IsRowOf (name : List ℕ) (k : TelemetryRow) (time count : ℕ) (payload numbers : List ℕ) : Type 0 where
  pub found : named dictionary name ≡ Some k
  pub first : find (λ d. k.id == d.id) dictionary ≡ Some k
  pub called : k.name.now ≡ name
  pub low : k.id < 8192
  pub fields : are_fields k.fields.now ≡ true
  pub few : length payload ≤ 244
  pub bytes : AllByRecursion (λ b. b < 256) payload
  pub row : is_row k.fields.now (content_from time count payload) ≡ true
  pub values : numbers_in k.fields.now (content_from time count payload) ≡ numbers

shown_is : (packet : List ℕ) (k : TelemetryRow) → showing dictionary packet ≡ Some k → telemetry_shown dictionary packet ≡ k.name.now ++ row_shown k.fields.now (content_of packet)
unfolding telemetry_shown
shown_is packet k e = ap (λ (o : Option TelemetryRow). shown_by o packet) e

pub found_fields : (name : List ℕ) (k : TelemetryRow) → named dictionary name ≡ Some k → fields_of name ≡ k.fields.now
unfolding fields_of
found_fields name k e = ap fields_in e

-- the content of a packet that was made
pub content_is_made : (id time count : ℕ) (payload : List ℕ) → count < 2 ^ 14 → content_of (with_sequence count (telemetry_of id time payload)) ≡ content_from time count payload
content_is_made id time count payload low = content_made id time count payload (omega (arith, low))

-- so its words say these numbers
pub shown_with : (name : List ℕ) (k : TelemetryRow) (time count : ℕ) (payload numbers : List ℕ) → time < 2 ^ 32 → count < 2 ^ 14 → IsRowOf name k time count payload numbers → IsShownWith name numbers (with_sequence count (telemetry_of k.id time payload))
shown_with name k time count payload numbers within few is =
    let packet = with_sequence count (telemetry_of k.id time payload) in
    let low : count < 16384 = omega (arith, few) in
    let content = content_made k.id time count payload low in
    let id = id_made k.id time count payload is.low in
    let row : is_row k.fields.now (content_of packet) ≡ true = ap (is_row k.fields.now) content ∙ is.row in
    let whole : packet_of k.id (content_of packet) ≡ packet = ap (packet_of k.id) content ∙ rebuilt k.id time count payload (omega (arith, within)) low in
    let shown = shows_made k packet id (ap is_content content ∙ can_be_made time count payload low is.few) row whole in
    let first = shown_first dictionary packet k (ap (first_of dictionary) id ∙ is.first) shown in
    let fields = found_fields name k is.found in
    let bytes = all_append (λ b. b < 256) (be32_bytes time ++ be16_bytes count) payload (all_append (λ b. b < 256) (be32_bytes time) (be16_bytes count) (bytes32 time) (bytes16 count)) is.bytes in
    let back : (epoch : Option ℕ) → row_said epoch 1 k.fields.now (row_words k.fields.now (content_of packet)) ≡ Ok (content_of packet) =
    λ epoch. ap (λ (xs : List ℕ). row_said epoch 1 k.fields.now (row_words k.fields.now xs)) content ∙ row_back epoch 1 k.fields.now (content_from time count payload) is.fields bytes is.row ∙ ap Ok (sym content) in
    record {
      shown = shown_is packet k first ∙ ap (λ (xs : List ℕ). xs ++ row_shown k.fields.now (content_of packet)) is.called ∙ ap (λ (fs : List Field). name ++ row_shown fs (content_of packet)) (sym fields);
      said = λ epoch.
          ap (λ (fs : List Field). numbers_said epoch fs (row_words fs (content_of packet))) fields
          ∙ row_numbers epoch 1 k.fields.now (row_words k.fields.now (content_of packet)) (content_of packet) (back epoch)
          ∙ ap Some (ap (numbers_in k.fields.now) content ∙ is.values);
    }

-- ---- bytes that are all that is left

least : (n : ℕ) → nat_le n n ≡ true
least n = grind (arith, nat_tests)

none_left : (xs : List ℕ) → (length (drop (length xs) xs) == 0) ≡ true
none_left [] = refl
none_left (x ∷ xs) = none_left xs

-- a number of one byte, of two bytes, and of four, zero bytes, and the row behind it
pub row8 : (key : Bor (List ℕ)) (s : Spelling) (fs : List Field) (n : ℕ) (rest : List ℕ) → is_row (Value key (Number U8 s) ∷ fs) (n ∷ rest) ≡ is_row fs rest
unfolding is_row can_show
row8 key s fs n rest =
    let enough : nat_le 1 (length (n ∷ rest)) ≡ true = grind (arith, nat_tests) in
    ap (λ (b : Bool). b && can_show (Number U8 s) (n ∷ []) && is_row fs rest) enough

pub zeros2 : (fs : List Field) (rest : List ℕ) → is_row (Zeros 2 ∷ fs) (be16_bytes 0 ++ rest) ≡ is_row fs rest
unfolding is_row be16_bytes
zeros2 fs rest =
    let enough : nat_le 2 (length (be16_bytes 0 ++ rest)) ≡ true = grind (arith, nat_tests) in
    ap (λ (b : Bool). b && list_all (λ x. x == 0) (0 ∷ 0 ∷ []) && is_row fs rest) enough

pub row16 : (key : Bor (List ℕ)) (s : Spelling) (fs : List Field) (n : ℕ) (rest : List ℕ) → is_row (Value key (Number U16 s) ∷ fs) (be16_bytes n ++ rest) ≡ is_row fs rest
unfolding is_row can_show be16_bytes
row16 key s fs n rest =
    let enough : nat_le 2 (length (be16_bytes n ++ rest)) ≡ true = grind (arith, nat_tests) in
    ap (λ (b : Bool). b && can_show (Number U16 s) (take 2 (be16_bytes n ++ rest)) && is_row fs (drop 2 (be16_bytes n ++ rest))) enough

pub row32 : (key : Bor (List ℕ)) (s : Spelling) (fs : List Field) (n : ℕ) (rest : List ℕ) → is_row (Value key (Number U32 s) ∷ fs) (be32_bytes n ++ rest) ≡ is_row fs rest
unfolding is_row can_show be32_bytes
row32 key s fs n rest =
    let enough : nat_le 4 (length (be32_bytes n ++ rest)) ≡ true = grind (arith, nat_tests) in
    ap (λ (b : Bool). b && can_show (Number U32 s) (take 4 (be32_bytes n ++ rest)) && is_row fs (drop 4 (be32_bytes n ++ rest))) enough

pub block_row : (bytes : List ℕ) → is_row (field (codes "bytes") Block ∷ []) bytes ≡ true
unfolding is_row can_show
block_row bytes = rw (least (length bytes), none_left bytes) refl

take_whole : (xs : List ℕ) → take (length xs) xs ≡ xs
take_whole [] = refl
take_whole (x ∷ xs) = ap (λ (ys : List ℕ). x ∷ ys) (take_whole xs)

-- the words of a row that ends in such bytes
pub block_words : (bytes : List ℕ) → row_words (field (codes "bytes") Block ∷ []) bytes ≡ (codes "bytes=" ++ hex bytes) ∷ []
unfolding row_words value_shown
block_words bytes = rw (take_whole bytes) refl

halves : (n : ℕ) (ws : List (List ℕ)) → ws ≡ take n ws ++ drop n ws
halves zero ws = refl
halves (suc n) [] = refl
halves (suc n) (w ∷ ws) = ap (λ (xs : List (List ℕ)). w ∷ xs) (halves n ws)

-- words that end in this one
pub end_in : (n : ℕ) (ws : List (List ℕ)) (word : List ℕ) → drop n ws ≡ word ∷ [] → (front : List (List ℕ)) × (ws ≡ front ++ word ∷ [])
end_in n ws word e = (take n ws, halves n ws ∙ ap (λ (xs : List (List ℕ)). take n ws ++ xs) e)

-- the words of a packet that was made, by the fields of its row
pub words_are : (name : List ℕ) (k : TelemetryRow) (id time count : ℕ) (payload : List ℕ) → named dictionary name ≡ Some k → count < 2 ^ 14 → words_of name (with_sequence count (telemetry_of id time payload)) ≡ row_words k.fields.now (content_from time count payload)
words_are name k id time count payload found few =
    ap (λ (fs : List Field). row_words fs (content_of (with_sequence count (telemetry_of id time payload)))) (found_fields name k found)
    ∙ ap (row_words k.fields.now) (content_is_made id time count payload few)

-- its last word, behind so many others
pub last_word : (n : ℕ) (name : List ℕ) (k : TelemetryRow) (id time count : ℕ) (payload part : List ℕ) → named dictionary name ≡ Some k → count < 2 ^ 14 → drop n (row_words k.fields.now (content_from time count payload)) ≡ row_words (field (codes "bytes") Block ∷ []) part → (front : List (List ℕ)) × (words_of name (with_sequence count (telemetry_of id time payload)) ≡ front ++ (codes "bytes=" ++ hex part) ∷ [])
last_word n name k id time count payload part found few behind =
    end_in n (words_of name (with_sequence count (telemetry_of id time payload))) (codes "bytes=" ++ hex part) (ap (drop n) (words_are name k id time count payload found few) ∙ behind ∙ block_words part)

-- the seconds and the sequence count are no obstacle to the row behind them
pub header_row : (fs : List Field) (time n : ℕ) (payload : List ℕ) → is_row (behind_header fs) (content_from time n payload) ≡ is_row fs payload
unfolding be16_bytes be32_bytes
header_row fs time n payload =
    row32 (text_at (codes "time")) spellings.Time (field (codes "count") count ∷ fs) time (be16_bytes n ++ payload)
    ∙ row16 (text_at (codes "count")) spellings.Decimal fs n payload
