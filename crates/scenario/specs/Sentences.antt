-- What a line says by itself at a place: a sentence, or the first of the reasons Word, Number and Packet.
use Rattle.std.specs.Prelude.{◌≡◌, ℕ, ◌==◌, Bool, true, false, if◌then◌else◌, List, [], ◌∷◌, codes, slice_index, Option, Some, None, Result, Ok, Err}
use Rattle.std.specs.Str.{bytes_eq}
use Rattle.packet_forms.specs.Faults.{fault_of}
use Rattle.scenario.specs.declared.reason.Reason.{Reason}
use Rattle.scenario.specs.declared.reason.Reason.TheVariants as reasons
use Rattle.scenario.specs.declared.sentence.Place.{Place}
use Rattle.scenario.specs.declared.sentence.Place.TheVariants as places
use Rattle.scenario.specs.declared.sentence.Verb.{Verb}
use Rattle.scenario.specs.declared.sentence.Verb.TheVariants as verbs
use Rattle.scenario.specs.declared.sentence.Sentence.{Sentence}
use Rattle.scenario.specs.declared.sentence.Sentence.TheVariants as says
use Rattle.scenario.specs.Words.{words, number, hex, name_said, app_of, kind_of}

infixl 10 ◌>>=◌
-- go on with a value, or stop with its reason
abbrev pub ◌>>=◌ : {A B : Type 0} → Result A Reason → (A → Result B Reason) → Result B Reason
(Ok x) >>= f = f x
(Err reason) >>= f = Err reason

-- what a function returned, seen by view, is what is read
abbrev pub Gives : {X Y : Type 0} → (X → Y) → Result X Reason → Result Y Reason → Type 0
Gives view (Ok x) read = read ≡ Ok (view x)
Gives view (Err reason) read = read ≡ Err reason

-- the value, or this reason where there is none
abbrev pub or_bad : {A : Type 0} → Reason → Option A → Result A Reason
or_bad reason (Some x) = Ok x
or_bad reason None = Err reason

-- the largest number of four bytes
abbrev pub largest : ℕ
largest = 4294967295

-- the kind of line that a first word begins
unfoldable pub verb_of : List ℕ → Option Verb
verb_of word =
    if bytes_eq word (codes "epoch") then Some verbs.Epoch
    else if bytes_eq word (codes "region") then Some verbs.Region
    else if bytes_eq word (codes "start") then Some verbs.Start
    else if bytes_eq word (codes "send") then Some verbs.Send
    else if bytes_eq word (codes "app") then Some verbs.App
    else if bytes_eq word (codes "upset") then Some verbs.Upset
    else if bytes_eq word (codes "hold") then Some verbs.Hold
    else if bytes_eq word (codes "activate") then Some verbs.Activate
    else if bytes_eq word (codes "tick") then Some verbs.Tick
    else if bytes_eq word (codes "end") then Some verbs.End
    else None

-- nothing but skipped lines came before
abbrev pub is_opening : Place → Bool
is_opening places.Opening = true
is_opening places.Header = false
is_opening places.Between = false
is_opening places.Inside = false
is_opening places.Ended = false

-- behind `epoch` and before `start`
abbrev pub is_in_header : Place → Bool
is_in_header places.Opening = false
is_in_header places.Header = true
is_in_header places.Between = false
is_in_header places.Inside = false
is_in_header places.Ended = false

-- directly behind `start` or a `tick`
abbrev pub is_between : Place → Bool
is_between places.Opening = false
is_between places.Header = false
is_between places.Between = true
is_between places.Inside = false
is_between places.Ended = false

-- behind `start` and before `end`
abbrev pub is_in_frames : Place → Bool
is_in_frames places.Opening = false
is_in_frames places.Header = false
is_in_frames places.Between = true
is_in_frames places.Inside = true
is_in_frames places.Ended = false

-- the places at which a kind of line may stand
abbrev pub stands_at : Place → Verb → Bool
stands_at place verbs.Epoch = is_opening place
stands_at place verbs.Region = is_in_header place
stands_at place verbs.Start = is_in_header place
stands_at place verbs.Send = is_in_frames place
stands_at place verbs.App = is_in_frames place
stands_at place verbs.Upset = is_in_frames place
stands_at place verbs.Hold = is_in_frames place
stands_at place verbs.Activate = is_in_frames place
stands_at place verbs.Tick = is_in_frames place
stands_at place verbs.End = is_between place

-- a kind of line, where it may stand at the place
abbrev pub placed : Place → Verb → Result Verb Reason
placed place verb = if stands_at place verb then Ok verb else Err reasons.Word

-- the kind of line that a first word begins at a place
unfoldable pub verb_at : Place → List ℕ → Result Verb Reason
verb_at place word = do
  verb ← or_bad reasons.Word (verb_of word)
  placed place verb

-- the kind of line that says a sentence
abbrev pub verb_said : Sentence → Verb
verb_said (says.Epoch n) = verbs.Epoch
verb_said (says.Region r) = verbs.Region
verb_said says.Start = verbs.Start
verb_said (says.Send p) = verbs.Send
verb_said (says.Count c) = verbs.App
verb_said (says.Upset u) = verbs.Upset
verb_said (says.Hold a) = verbs.Hold
verb_said (says.Activate n) = verbs.Activate
verb_said says.Tick = verbs.Tick
verb_said says.End = verbs.End

-- what a line says may stand at the place
abbrev pub IsPlaced : Place → Option Sentence → Type 0
IsPlaced place None = Unit {0}
IsPlaced place (Some s) = stands_at place (verb_said s) ≡ true

-- a sentence as what a line says
abbrev pub as_said : Result Sentence Reason → Result (Option Sentence) Reason
as_said (Ok s) = Ok (Some s)
as_said (Err reason) = Err reason

-- what a line says is of a kind of line
abbrev pub IsOfVerb : Verb → Option Sentence → Type 0
IsOfVerb verb None = ⊥
IsOfVerb verb (Some s) = verb_said s ≡ verb

-- the packet of these bytes, where they have no fault
abbrev pub packet_of : List ℕ → Result (List ℕ) Reason
packet_of bytes = elim (fault_of bytes) [ None ↦ Ok bytes | Some fault ↦ Err reasons.Packet ]

-- `send` of the packet of these bytes
abbrev pub packet_said : List ℕ → Result Sentence Reason
packet_said bytes = packet_of bytes >>= (λ packet. Ok (says.Send packet))

-- no word
abbrev pub none : List (List ℕ) → Result (Unit {0}) Reason
none [] = Ok tt
none _ = Err reasons.Word

-- one word
abbrev pub one : List (List ℕ) → Result (List ℕ) Reason
one (a ∷ []) = Ok a
one _ = Err reasons.Word

-- two words
abbrev pub two : List (List ℕ) → Result (List ℕ × List ℕ) Reason
two (a ∷ b ∷ []) = Ok (a, b)
two _ = Err reasons.Word

-- three words
abbrev pub three : List (List ℕ) → Result (List ℕ × List ℕ × List ℕ) Reason
three (a ∷ b ∷ c ∷ []) = Ok (a, b, c)
three _ = Err reasons.Word

-- a number that isn't over `most`, or the reason Number
unfoldable pub number_or_bad : ℕ → List ℕ → Result ℕ Reason
number_or_bad most word = or_bad reasons.Number (number most word)

-- `epoch N`, by the words after the first
unfoldable pub epoch_line : List (List ℕ) → Result Sentence Reason
epoch_line others = do
  word ← one others
  time ← number_or_bad 4294000000 word
  Ok (says.Epoch time)

-- `region KIND START LEN`
unfoldable pub region_line : List (List ℕ) → Result Sentence Reason
region_line others = do
  words ← three others
  kind ← or_bad reasons.Word (kind_of words.0)
  start ← number_or_bad largest words.1
  len ← number_or_bad largest words.2
  Ok (says.Region (record { kind = kind; start = start; len = len }))

-- the packet that the word behind `send` writes
unfoldable pub hex_said : List ℕ → Result Sentence Reason
hex_said word = do
  bytes ← or_bad reasons.Packet (hex word)
  packet_said bytes

-- `send HEX`
unfoldable pub send_line : List (List ℕ) → Result Sentence Reason
send_line others = do
  word ← one others
  bytes ← or_bad reasons.Packet (hex word)
  packet_said bytes

-- `app NAME N`
unfoldable pub app_line : List (List ℕ) → Result Sentence Reason
app_line others = do
  words ← two others
  name ← or_bad reasons.Word (name_said words.0)
  value ← number_or_bad largest words.1
  Ok (says.Count (record { name = name; value = value }))

-- `upset ADDR VALUE`
unfoldable pub upset_line : List (List ℕ) → Result Sentence Reason
upset_line others = do
  words ← two others
  at ← number_or_bad largest words.0
  value ← number_or_bad 255 words.1
  Ok (says.Upset (record { at = at; value = value }))

-- `hold APP`
unfoldable pub hold_line : List (List ℕ) → Result Sentence Reason
hold_line others = do
  word ← one others
  app ← or_bad reasons.Word (app_of word)
  Ok (says.Hold app)

-- `activate N`
unfoldable pub activate_line : List (List ℕ) → Result Sentence Reason
activate_line others = do
  word ← one others
  file ← number_or_bad largest word
  Ok (says.Activate file)

-- a line of its first word alone
abbrev pub bare_line : Sentence → List (List ℕ) → Result Sentence Reason
bare_line sentence others = do
  _ ← none others
  Ok sentence

-- what a kind of line says with the words after the first
unfoldable pub sentence_of : Verb → List (List ℕ) → Result Sentence Reason
sentence_of verbs.Epoch others = epoch_line others
sentence_of verbs.Region others = region_line others
sentence_of verbs.Start others = bare_line says.Start others
sentence_of verbs.Send others = send_line others
sentence_of verbs.App others = app_line others
sentence_of verbs.Upset others = upset_line others
sentence_of verbs.Hold others = hold_line others
sentence_of verbs.Activate others = activate_line others
sentence_of verbs.Tick others = bare_line says.Tick others
sentence_of verbs.End others = bare_line says.End others

-- a line's first word begins this kind of line, and these words come behind it
abbrev pub Begins : List ℕ → Verb → List (List ℕ) → Type 0
Begins line verb others = (first : List ℕ) × (words line ≡ first ∷ others) × ((slice_index first 0 == 35) ≡ false) × (verb_of first ≡ Some verb)

-- what words say at a place: nothing where there are none or the first begins with `#`
unfoldable pub said : Place → List (List ℕ) → Result (Option Sentence) Reason
said place [] = Ok None
said place (first ∷ others) =
    if slice_index first 0 == 35 then Ok None
    else do
      verb ← verb_at place first
      sentence ← sentence_of verb others
      Ok (Some sentence)

-- what a line says at a place: nothing where it is skipped, else a sentence or a reason
unfoldable pub line_says : Place → List ℕ → Result (Option Sentence) Reason
line_says place line = said place (words line)
