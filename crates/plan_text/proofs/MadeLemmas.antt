-- Lemmas on the lines that a plan makes: they are lines of words.
use Rattle.std.proofs.Common.{◌≡◌, ℕ, zero, suc, ◌+◌, ◌-◌, ◌<◌, ◌≤◌, Bool, true, false, ◌&&◌, List, [], ◌∷◌, ◌++◌, length, Option, Some, None, refl, arith, subst}
use Rattle.std.specs.Prelude.{◌==◌, if◌then◌else◌, nat_lt, nat_le, replicate, codes, Result, Ok, Err}
use Rattle.std.specs.List.{AllByRecursion}
use Rattle.std.specs.Str.{bytes_eq}
use Rattle.std.proofs.lemmas.Bool.Decides.{nat_tests}
use Rattle.packet_forms.specs.Built.{command_of}
use Rattle.packet_forms.specs.Faults.{fault_of}
use Rattle.packet_forms.specs.Hex.{hex}
use Rattle.packet_forms.specs.declared.packet.PacketFault.{PacketFault}
use Rattle.packet_forms.proofs.Forms.{packet_of_none, none_of_packet, command_reads_back}
use Rattle.row_forms.specs.Words.{number, hex_said}
use Rattle.row_forms.specs.Rows.{behind_key, row_said}
use Rattle.row_forms.specs.declared.fault.RowFault.{RowFault}
use Rattle.row_forms.specs.declared.fault.Reason.TheVariants as words
use Rattle.row_forms.proofs.TextLemmas.{IsPlain, all_map}
use Rattle.row_forms.proofs.HexLemmas.{hex_is_plain, hex_length}
use Rattle.telecommands.specs.declared.command.Command.{Command}
use Rattle.telecommands.specs.declared.fault.CommandFault.{CommandFault}
use Rattle.telecommands.specs.declared.fault.CommandFault.TheVariants as faults
use Rattle.telecommands.specs.Commands.{is_good, are_good, named, named_said, sent, whole_packet, packet_said, word_said, command_said}
use Rattle.telecommands.proofs.CommandLemmas.{good_is, and_both}
use Rattle.table_texts.specs.Lines.{Numbered, kept_of}
use Rattle.plan_text.specs.declared.fault.PlanReason.{PlanReason}
use Rattle.plan_text.specs.declared.fault.PlanReason.TheVariants as reasons
use Rattle.plan_text.specs.declared.fault.PlanFault.{PlanFault}
use Rattle.plan_text.specs.declared.stage.Course.{Course}
use Rattle.plan_text.specs.declared.stage.Stage.{Stage}
use Rattle.plan_text.specs.declared.stage.Stage.TheVariants as stages
use Rattle.plan_text.specs.declared.verb.Verb.{Verb}
use Rattle.plan_text.specs.declared.verb.Verb.TheVariants as verbs
use Rattle.plan_text.specs.Verbs.{verb_of}
use Rattle.plan_text.specs.Lines.{tick, end, sent_line}
use Rattle.plan_text.specs.Plans.{◌>>=◌, Made, passed, none, one, or_else, word_fault, moved, forwarded, closed, last_of, time_line, end_line, item_line, sent_by, packet_sent, as_plan, course_line, header_line, opening_line, of_verb, line_said, then_lines, with_lines, lines_said, plan_said, finished}
use Rattle.plan_text.specs.Readings.{IsTextWord, IsTextLine}
use Rattle.plan_text.proofs.WordLemmas.{text_lines}

-- ---- packets

-- the first command of a name is good, as all are
pub named_good : (cs : List Command) (name : List ℕ) (c : Command) → are_good cs ≡ true → named cs name ≡ Some c → is_good c ≡ true
unfolding are_good named
named_good [] name c good e = absurd (cc)
named_good (d ∷ cs) name c good e =
    let parts = and_both (is_good d) (are_good cs) good in
    by (bytes_eq d.name.now name) e parts.0 (named_good cs name c parts.1) where
      by : (b : Bool) → (if b then Some d else named cs name) ≡ Some c → is_good d ≡ true → (named cs name ≡ Some c → is_good c ≡ true) → is_good c ≡ true
      by true e first more = let same : d ≡ c = cc in rw (← same) first
      by false e first more = more e

abbrev pub IsFaultless : Result (List ℕ) CommandFault → Type 0
IsFaultless (Ok packet) = fault_of packet ≡ None
IsFaultless (Err fault) = Unit {0}

sent_faultless : (c : Command) (said : Result (List ℕ) RowFault) → is_good c ≡ true → IsFaultless (sent c said)
sent_faultless c (Err fault) good = tt
sent_faultless c (Ok payload) good = by (nat_le (length payload) 248) refl where
  by : (b : Bool) → nat_le (length payload) 248 ≡ b → IsFaultless (if b then Ok (command_of c.id c.code payload) else Err faults.Long)
  by true e =
      let is = good_is c good in
      let few : length payload ≤ 248 = grind (arith, nat_tests, e) in
      none_of_packet (command_of c.id c.code payload) (command_reads_back c.id c.code payload is.version is.kind is.code few).form
  by false e = tt

bytes_faultless : (n : ℕ) (bytes : List ℕ) (fault : Option PacketFault) → fault_of bytes ≡ fault → IsFaultless (whole_packet n bytes fault)
bytes_faultless n bytes None e = e
bytes_faultless n bytes (Some fault) e = tt

packet_faultless : (n : ℕ) (said : Option (List ℕ)) (ws : List (List ℕ)) → IsFaultless (packet_said n said ws)
packet_faultless n None ws = tt
packet_faultless n (Some bytes) [] = bytes_faultless n bytes (fault_of bytes) refl
packet_faultless n (Some bytes) (w ∷ ws) = tt

named_faultless : (epoch : Option ℕ) (n : ℕ) (cs : List Command) (name : List ℕ) (ws : List (List ℕ)) → are_good cs ≡ true → (c : Option Command) → named cs name ≡ c → IsFaultless (named_said epoch n c ws)
named_faultless epoch n cs name ws good None e = tt
named_faultless epoch n cs name ws good (Some c) e = sent_faultless c (row_said epoch (n + 1) c.fields.now ws) (named_good cs name c good e)

word_faultless : (epoch : Option ℕ) (n : ℕ) (cs : List Command) (key : Option (List ℕ)) (name : List ℕ) (ws : List (List ℕ)) → are_good cs ≡ true → IsFaultless (word_said epoch n cs key name ws)
word_faultless epoch n cs (Some digits) name ws good = packet_faultless n (hex_said digits) ws
word_faultless epoch n cs None name ws good = named_faultless epoch n cs name ws good (named cs name) refl

command_faultless : (epoch : Option ℕ) (n : ℕ) (cs : List Command) (ws : List (List ℕ)) → are_good cs ≡ true → IsFaultless (command_said epoch n cs ws)
unfolding command_said
command_faultless epoch n cs [] good = tt
command_faultless epoch n cs (w ∷ ws) good = word_faultless epoch n cs (behind_key (codes "packet") w) w ws good

by_faultless : (cs : List Command) (epoch : ℕ) (bytes : Option (List ℕ)) (w : List ℕ) (ws : List (List ℕ)) → are_good cs ≡ true → IsFaultless (sent_by cs epoch bytes (w ∷ ws) ws)
by_faultless cs epoch (Some bytes) w ws good = packet_faultless 2 (Some bytes) ws
by_faultless cs epoch None w ws good = command_faultless (Some epoch) 2 cs (w ∷ ws) good

-- what a `send` says is a packet
pub sent_is_packet : (cs : List Command) (epoch : ℕ) (ws : List (List ℕ)) → are_good cs ≡ true → IsFaultless (packet_sent cs epoch ws)
unfolding packet_sent
sent_is_packet cs epoch [] good = tt
sent_is_packet cs epoch (w ∷ ws) good = by_faultless cs epoch (hex_said w) w ws good

-- ---- lines

plain_no : (c b : ℕ) → c < 33 → IsPlain b → (b == c) ≡ false
plain_no c b low plain = grind (arith, nat_tests)

pub plain_word : (w : List ℕ) → 0 < length w → AllByRecursion IsPlain w → IsTextWord w
plain_word w some all = (some, all_map IsPlain (λ b. (b == 32) ≡ false) (λ b p. plain_no 32 b (omega arith) p) w all, all_map IsPlain (λ b. (b == 10) ≡ false) (λ b p. plain_no 10 b (omega arith) p) w all)

pub tick_line_is : IsTextLine tick
tick_line_is = ((omega arith, (refl, (refl, (refl, (refl, tt)))), (refl, (refl, (refl, (refl, tt))))), refl, tt)

pub end_line_is : IsTextLine end
end_line_is = ((omega arith, (refl, (refl, (refl, tt))), (refl, (refl, (refl, tt)))), refl, tt)

pub sent_line_is : (packet : List ℕ) → fault_of packet ≡ None → IsTextLine (sent_line packet)
sent_line_is packet good =
    let long = (packet_of_none packet good).long in
    let size = hex_length packet in
    ((omega arith, (refl, (refl, (refl, (refl, tt)))), (refl, (refl, (refl, (refl, tt))))), refl, (plain_word (hex packet) (omega (arith, long, size)) (hex_is_plain packet), tt))

abbrev pub AreTextLines : List (List (List ℕ)) → Type 0
AreTextLines lines = AllByRecursion IsTextLine lines

abbrev MakesLines : Result Made PlanReason → Type 0
MakesLines (Ok made) = AreTextLines made.lines
MakesLines (Err reason) = Unit {0}

pub lines_append : (xs ys : List (List (List ℕ))) → AreTextLines xs → AreTextLines ys → AreTextLines (xs ++ ys)
lines_append [] ys first second = second
lines_append (x ∷ xs) ys first second = (first.0, lines_append xs ys first.1 second)

pub ticks_are : (k : ℕ) → AreTextLines (replicate k tick)
ticks_are zero = tt
ticks_are (suc k) = (tick_line_is, ticks_are k)

then_makes : {A : Type 0} (r : Result A PlanReason) (f : A → Result Made PlanReason) → ((x : A) → MakesLines (f x)) → MakesLines (r >>= f)
then_makes (Ok x) f makes = makes x
then_makes (Err reason) f makes = tt

forward_makes : (c : Course) (n : ℕ) → MakesLines (forwarded c n)
unfolding forwarded
forward_makes c n = by (nat_lt n c.frame) (nat_lt 100000 n) where
  by : (a b : Bool) → MakesLines (if a then Err reasons.Past else if b then Err reasons.Frames else Ok (record { lines = replicate (n - c.frame) tick; stage = stages.Frames (moved c n) }))
  by true b = tt
  by false true = tt
  by false false = ticks_are (n - c.frame)

close_makes : (c : Course) (n : ℕ) → MakesLines (closed c n)
unfolding closed
close_makes c n = by (nat_lt n c.frame) (nat_lt 100000 n) ((n == c.frame) && nat_lt 0 c.items) where
  by : (a b d : Bool) → MakesLines (if a then Err reasons.Past else if b then Err reasons.Frames else if d then Err reasons.Begun else Ok (record { lines = replicate (n - c.frame) tick ++ end ∷ []; stage = stages.Ended }))
  by true b d = tt
  by false true d = tt
  by false false true = tt
  by false false false = lines_append (replicate (n - c.frame) tick) (end ∷ []) (ticks_are (n - c.frame)) (end_line_is, tt)

item_makes : (c : Course) (line : List (List ℕ)) → IsTextLine line → MakesLines (item_line c line)
item_makes c line is = by (nat_lt c.items 64) where
  by : (room : Bool) → MakesLines ((if room then Ok (record { epoch = c.epoch; frame = c.frame; items = c.items + 1 }) else Err reasons.Items) >>= (λ more. passed (stages.Frames more) line))
  by true = (is, tt)
  by false = tt

send_makes : (c : Course) (said : Result (List ℕ) CommandFault) → IsFaultless said → MakesLines (as_plan said >>= (λ packet. item_line c (sent_line packet)))
send_makes c (Err fault) good = tt
send_makes c (Ok packet) good = item_makes c (sent_line packet) (sent_line_is packet good)

end_makes : (c : Course) (others : List (List ℕ)) → MakesLines (end_line c others)
end_makes c [] = close_makes c (last_of c)
end_makes c (word ∷ others) = by (bytes_eq word (codes "at")) where
  by : (b : Bool) → MakesLines (if b then time_line c.epoch 3 others >>= (λ n. closed c n) else Err (word_fault 2 words.Extra))
  by true = then_makes (time_line c.epoch 3 others) (λ n. closed c n) (close_makes c)
  by false = tt

course_makes : (cs : List Command) (c : Course) (verb : Verb) (first : List ℕ) (others : List (List ℕ)) → are_good cs ≡ true → IsTextLine (first ∷ others) → MakesLines (course_line cs c verb first others)
course_makes cs c verbs.Epoch first others good is = tt
course_makes cs c verbs.Region first others good is = tt
course_makes cs c verbs.Start first others good is = tt
course_makes cs c verbs.Send first others good is = send_makes c (packet_sent cs c.epoch others) (sent_is_packet cs c.epoch others good)
course_makes cs c verbs.Item first others good is = item_makes c (first ∷ others) is
course_makes cs c verbs.Frame first others good is = then_makes (one 2 others) (λ word. or_else (word_fault 2 words.Number32) (number 4294967295 word) >>= (λ n. forwarded c n)) (λ word. then_makes (or_else (word_fault 2 words.Number32) (number 4294967295 word)) (λ n. forwarded c n) (forward_makes c))
course_makes cs c verbs.At first others good is = then_makes (time_line c.epoch 2 others) (λ n. forwarded c n) (forward_makes c)
course_makes cs c verbs.Tick first others good is = then_makes (none 2 others) (λ u. forwarded c (c.frame + 1)) (λ u. forward_makes c (c.frame + 1))
course_makes cs c verbs.End first others good is = end_makes c others

header_makes : (epoch : ℕ) (verb : Verb) (first : List ℕ) (others : List (List ℕ)) → IsTextLine (first ∷ others) → MakesLines (header_line epoch verb first others)
header_makes epoch verbs.Epoch first others is = tt
header_makes epoch verbs.Region first others is = (is, tt)
header_makes epoch verbs.Start first others is = then_makes (none 2 others) (λ u. passed (stages.Frames (record { epoch = epoch; frame = 0; items = 0 })) (first ∷ others)) (λ u. (is, tt))
header_makes epoch verbs.Send first others is = tt
header_makes epoch verbs.Item first others is = tt
header_makes epoch verbs.Frame first others is = tt
header_makes epoch verbs.At first others is = tt
header_makes epoch verbs.Tick first others is = tt
header_makes epoch verbs.End first others is = tt

opening_makes : (verb : Verb) (first : List ℕ) (others : List (List ℕ)) → IsTextLine (first ∷ others) → MakesLines (opening_line verb first others)
opening_makes verbs.Epoch first others is = then_makes (one 2 others) (λ word. or_else reasons.Epoch (number 4294000000 word) >>= (λ epoch. passed (stages.Header epoch) (first ∷ others))) (λ word. then_makes (or_else reasons.Epoch (number 4294000000 word)) (λ epoch. passed (stages.Header epoch) (first ∷ others)) (λ epoch. (is, tt)))
opening_makes verbs.Region first others is = tt
opening_makes verbs.Start first others is = tt
opening_makes verbs.Send first others is = tt
opening_makes verbs.Item first others is = tt
opening_makes verbs.Frame first others is = tt
opening_makes verbs.At first others is = tt
opening_makes verbs.Tick first others is = tt
opening_makes verbs.End first others is = tt

verb_makes : (cs : List Command) (stage : Stage) (verb : Option Verb) (first : List ℕ) (others : List (List ℕ)) → are_good cs ≡ true → IsTextLine (first ∷ others) → MakesLines (of_verb cs stage verb first others)
verb_makes cs stage None first others good is = tt
verb_makes cs stages.Opening (Some verb) first others good is = opening_makes verb first others is
verb_makes cs (stages.Header epoch) (Some verb) first others good is = header_makes epoch verb first others is
verb_makes cs (stages.Frames c) (Some verb) first others good is = course_makes cs c verb first others good is
verb_makes cs stages.Ended (Some verb) first others good is = tt

line_makes : (cs : List Command) (stage : Stage) (ws : List (List ℕ)) → are_good cs ≡ true → IsTextLine ws → MakesLines (line_said cs stage ws)
unfolding line_said
line_makes cs stage [] good is = tt
line_makes cs stage (first ∷ others) good is = verb_makes cs stage (verb_of first) first others good is

-- ---- all lines

abbrev Said : Type 0
Said = Result (List (List (List ℕ))) PlanFault

abbrev SaysLines : Said → Type 0
SaysLines (Ok lines) = AreTextLines lines
SaysLines (Err fault) = Unit {0}

front_says : (front : List (List (List ℕ))) (r : Said) → AreTextLines front → SaysLines r → SaysLines (with_lines front r)
front_says front (Ok lines) first more = lines_append front lines first more
front_says front (Err fault) first more = tt

then_says : (m : ℕ) (r : Result Made PlanReason) (next : Stage → Said) → MakesLines r → ((s : Stage) → SaysLines (next s)) → SaysLines (then_lines m r next)
then_says m (Ok made) next makes more = front_says made.lines (next made.stage) makes (more made.stage)
then_says m (Err reason) next makes more = tt

finished_says : (stage : Stage) (n : ℕ) → SaysLines (finished stage n)
finished_says stages.Opening n = tt
finished_says (stages.Header epoch) n = tt
finished_says (stages.Frames c) n = tt
finished_says stages.Ended n = tt

kept_says : (cs : List Command) (stage : Stage) (n : ℕ) (kept : List Numbered) → are_good cs ≡ true → AllByRecursion (λ (l : Numbered). IsTextLine l.words) kept → SaysLines (lines_said cs stage n kept)
unfolding lines_said
kept_says cs stage n [] good all = finished_says stage n
kept_says cs stage n (line ∷ more) good all =
    then_says line.number (line_said cs stage line.words) (λ s. lines_said cs s (line.number + 1) more) (line_makes cs stage line.words good all.0) (λ s. kept_says cs s (line.number + 1) more good all.1)

-- each line of a scenario that is made is a line of words
pub made_lines : (cs : List Command) (text : List ℕ) (lines : List (List (List ℕ))) → are_good cs ≡ true → plan_said cs text ≡ Ok lines → AllByRecursion IsTextLine lines
unfolding plan_said
made_lines cs text lines good e = subst SaysLines e (kept_says cs stages.Opening 1 (kept_of 1 text) good (text_lines 1 text))
