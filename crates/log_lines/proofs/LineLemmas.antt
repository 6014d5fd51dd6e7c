-- Lemmas on lines that are read back, and on what a line that says something is.
use Rattle.std.proofs.Common.{◌≡◌, ◌==◌, ℕ, ◌+◌, ◌<◌, ◌≤◌, Bool, true, false, List, [], ◌∷◌, ◌++◌, length, Option, Some, None, refl, ap, sym, ◌∙◌, arith, append_assoc, append-nil, length-append, if◌then◌else◌}
use Rattle.std.specs.Prelude.{nat_lt, decimal, codes, Result, Ok, Err}
use Rattle.std.specs.List.{AllByRecursion, slice_split}
use Rattle.std.specs.Str.{bytes_eq}
use Rattle.std.proofs.lemmas.Bool.Decides.{nat_tests}
use Rattle.std.proofs.lemmas.Slice.Eq.{bytes_eq-Decides}
use Rattle.packet_forms.specs.Hex.{hex}
use Rattle.packet_forms.specs.Names.{is_name, name_text}
use Rattle.packet_forms.proofs.Digits.{length-hex}
use Rattle.bus_pipes.specs.declared.names.PipeName.{PipeName}
use Rattle.bus_pipes.specs.declared.names.PipeName.TheVariants as pipes
use Rattle.bus_pipes.specs.declared.names.Dropped.{Dropped}
use Rattle.packet_log.specs.Lines.{packet_line, drop_line, pipe_text}
use Rattle.packet_log.specs.Items.{request_line}
use Rattle.row_forms.specs.Rows.{spaced}
use Rattle.row_forms.specs.Words.{name_said}
use Rattle.row_forms.proofs.TextLemmas.{IsPlain, all_append, all_map, marks_are_plain, decimal_marks}
use Rattle.row_forms.proofs.HexLemmas.{hex_is_plain}
use Rattle.log_lines.specs.declared.fault.LineFault.{LineFault}
use Rattle.log_lines.specs.declared.fault.LineFault.TheVariants as faults
use Rattle.log_lines.specs.declared.line.LineItem.{LineItem}
use Rattle.log_lines.specs.declared.line.LineItem.TheVariants as items
use Rattle.log_lines.specs.declared.line.LogLine.{LogLine}
use Rattle.log_lines.specs.Lines.{line_words, frame_said, pipe_said, cause_said, name_or_fault, last_word, packet_in, name_in, as_item, dropped, drop_for, drop_at, drop_said, reset_said, item_said, in_frame, line_at, words_said, line_said}
use Rattle.log_lines.specs.Texts.{item_text, line_text, IsPacketOfBytes, IsItem, IsLine, IsReadAs, lf_parts}
use Rattle.log_lines.proofs.PartsLemmas.{words_led, line_is, split_first}
use Rattle.log_lines.proofs.BackLemmas.{decimal_length, frame_back, frame_exact, packet_back, packet_exact, name_back, name_exact, name_plain, name_short, pipe_back, pipe_exact, cause_word, cause_back, cause_exact}

-- ---- the words of an item

abbrev pub item_words : LineItem → List (List ℕ)
item_words (items.Packet p) = codes "pkt" ∷ hex p ∷ []
item_words (items.Drop lost) = codes "drop" ∷ pipe_text lost.pipe ∷ cause_word lost.full ∷ hex lost.packet ∷ []
item_words items.Reset = codes "reset" ∷ []
item_words (items.Restart name) = codes "restart" ∷ name_text name ∷ []
item_words (items.Delete name) = codes "delete" ∷ name_text name ∷ []

drop_back : (lost : Dropped) → IsPacketOfBytes lost.packet → drop_said (pipe_text lost.pipe ∷ cause_word lost.full ∷ hex lost.packet ∷ []) ≡ Ok (items.Drop lost)
unfolding drop_said
drop_back lost is = rw (pipe_back lost.pipe, cause_back lost.full, packet_back lost.packet is) refl

pub item_back : (item : LineItem) → IsItem item → item_said (item_words item) ≡ Ok item
unfolding item_said
item_back (items.Packet p) is = rw (packet_back p is) refl
item_back (items.Drop lost) is = drop_back lost is
item_back items.Reset is = refl
item_back (items.Restart name) is = rw (name_back name is) refl
item_back (items.Delete name) is = rw (name_back name is) refl

-- ---- what words that say an item are

abbrev AreItem : List (List ℕ) → LineItem → Type 0
AreItem ws item = (ws ≡ item_words item) × IsItem item

last_exact : (ws : List (List ℕ)) (word : List ℕ) → last_word ws ≡ Ok word → ws ≡ word ∷ []
last_exact [] word h = absurd (cc)
last_exact (w ∷ []) word h = cc
last_exact (w ∷ v ∷ vs) word h = absurd (cc)

packet_in_exact : (ws : List (List ℕ)) (p : List ℕ) (r : Result (List ℕ) LineFault) → last_word ws ≡ r → packet_in r ≡ Ok p → (ws ≡ hex p ∷ []) × IsPacketOfBytes p
packet_in_exact ws p (Ok word) e h =
    let is = packet_exact word p h in
    (last_exact ws word e ∙ ap (λ (w : List ℕ). w ∷ []) is.0, is.1)
packet_in_exact ws p (Err fault) e h = absurd (cc)

or_exact : (word name : List ℕ) (o : Option (List ℕ)) → name_said word ≡ o → name_or_fault o ≡ Ok name → (word ≡ name_text name) × (is_name name ≡ true)
or_exact word name None e h = absurd (cc)
or_exact word name (Some n) e h = let same : n ≡ name = cc in name_exact word name (e ∙ ap Some same)

name_in_exact : (ws : List (List ℕ)) (name : List ℕ) (r : Result (List ℕ) LineFault) → last_word ws ≡ r → name_in r ≡ Ok name → (ws ≡ name_text name ∷ []) × (is_name name ≡ true)
name_in_exact ws name (Ok word) e h =
    let is = or_exact word name (name_said word) refl h in
    (last_exact ws word e ∙ ap (λ (w : List ℕ). w ∷ []) is.0, is.1)
name_in_exact ws name (Err fault) e h = absurd (cc)

sent_exact : (ws : List (List ℕ)) (p : List ℕ) → packet_in (last_word ws) ≡ Ok p → AreItem (codes "pkt" ∷ ws) (items.Packet p)
sent_exact ws p h = let is = packet_in_exact ws p (last_word ws) refl h in (ap (λ (vs : List (List ℕ)). codes "pkt" ∷ vs) is.0, is.1)

restart_exact : (ws : List (List ℕ)) (name : List ℕ) → name_in (last_word ws) ≡ Ok name → AreItem (codes "restart" ∷ ws) (items.Restart name)
restart_exact ws name h = let is = name_in_exact ws name (last_word ws) refl h in (ap (λ (vs : List (List ℕ)). codes "restart" ∷ vs) is.0, is.1)

delete_exact : (ws : List (List ℕ)) (name : List ℕ) → name_in (last_word ws) ≡ Ok name → AreItem (codes "delete" ∷ ws) (items.Delete name)
delete_exact ws name h = let is = name_in_exact ws name (last_word ws) refl h in (ap (λ (vs : List (List ℕ)). codes "delete" ∷ vs) is.0, is.1)

reset_exact : (ws : List (List ℕ)) (item : LineItem) → reset_said ws ≡ Ok item → AreItem (codes "reset" ∷ ws) item
reset_exact [] item h = let same : items.Reset ≡ item = cc in rw (← same) (refl, tt)
reset_exact (w ∷ ws) item h = absurd (cc)

drop_made : (pipe : PipeName) (full : Bool) (ws : List (List ℕ)) (p : List ℕ) → packet_in (last_word ws) ≡ Ok p → AreItem (codes "drop" ∷ pipe_text pipe ∷ cause_word full ∷ ws) (dropped pipe full p)
drop_made pipe full ws p h =
    let is = packet_in_exact ws p (last_word ws) refl h in
    (ap (λ (vs : List (List ℕ)). codes "drop" ∷ pipe_text pipe ∷ cause_word full ∷ vs) is.0, is.1)

-- an item that is made of bytes
made_exact : (ws : List (List ℕ)) (make : List ℕ → LineItem) (r : Result (List ℕ) LineFault) (item : LineItem) → ((bytes : List ℕ) → r ≡ Ok bytes → AreItem ws (make bytes)) → as_item make r ≡ Ok item → AreItem ws item
made_exact ws make (Ok bytes) item are h = let same : make bytes ≡ item = cc in rw (← same) (are bytes refl)
made_exact ws make (Err fault) item are h = absurd (cc)

cause_item : (pipe : PipeName) (cause : List ℕ) (ws : List (List ℕ)) (o : Option Bool) (item : LineItem) → cause_said cause ≡ o → drop_for pipe o ws ≡ Ok item → AreItem (codes "drop" ∷ pipe_text pipe ∷ cause ∷ ws) item
cause_item pipe cause ws None item e h = absurd (cc)
cause_item pipe cause ws (Some full) item e h =
    rw (cause_exact cause full e) (made_exact (codes "drop" ∷ pipe_text pipe ∷ cause_word full ∷ ws) (dropped pipe full) (packet_in (last_word ws)) item (drop_made pipe full ws) h)

pipe_item : (pipe : List ℕ) (ws : List (List ℕ)) (o : Option PipeName) (item : LineItem) → pipe_said pipe ≡ o → drop_at o ws ≡ Ok item → AreItem (codes "drop" ∷ pipe ∷ ws) item
pipe_item pipe ws None item e h = absurd (cc)
pipe_item pipe [] (Some p) item e h = absurd (cc)
pipe_item pipe (cause ∷ ws) (Some p) item e h = rw (pipe_exact pipe p e) (cause_item p cause ws (cause_said cause) item refl h)

drop_exact : (ws : List (List ℕ)) (item : LineItem) → drop_said ws ≡ Ok item → AreItem (codes "drop" ∷ ws) item
unfolding drop_said
drop_exact [] item h = absurd (cc)
drop_exact (pipe ∷ ws) item h = pipe_item pipe ws (pipe_said pipe) item refl h

-- a choice whose word this is, or one of the others
chosen : (word text : List ℕ) (here others : Result LineItem LineFault) (ws : List (List ℕ)) (item : LineItem) (b : Bool) → bytes_eq word text ≡ b → (if b then here else others) ≡ Ok item
    → (here ≡ Ok item → AreItem (text ∷ ws) item) → (others ≡ Ok item → AreItem (word ∷ ws) item) → AreItem (word ∷ ws) item
chosen word text here others ws item true e h first next = let same : word ≡ text = (bytes_eq-Decides word text).0 e in rw same (first h)
chosen word text here others ws item false e h first next = next h

pub item_exact : (ws : List (List ℕ)) (item : LineItem) → item_said ws ≡ Ok item → (ws ≡ item_words item) × IsItem item
unfolding item_said
item_exact [] item h = absurd (cc)
item_exact (word ∷ ws) item h =
    chosen word (codes "pkt") _ _ ws item (bytes_eq word (codes "pkt")) refl h (made_exact (codes "pkt" ∷ ws) items.Packet (packet_in (last_word ws)) item (sent_exact ws)) (λ h1.
    chosen word (codes "drop") _ _ ws item (bytes_eq word (codes "drop")) refl h1 (drop_exact ws item) (λ h2.
    chosen word (codes "reset") _ _ ws item (bytes_eq word (codes "reset")) refl h2 (reset_exact ws item) (λ h3.
    chosen word (codes "restart") _ _ ws item (bytes_eq word (codes "restart")) refl h3 (made_exact (codes "restart" ∷ ws) items.Restart (name_in (last_word ws)) item (restart_exact ws)) (λ h4.
    chosen word (codes "delete") _ _ ws item (bytes_eq word (codes "delete")) refl h4 (made_exact (codes "delete" ∷ ws) items.Delete (name_in (last_word ws)) item (delete_exact ws)) (λ h5. absurd (cc))))))

-- ---- the text of a line

-- a line without its LF
abbrev pub line_body : LogLine → List ℕ
line_body line = decimal line.frame ++ spaced (item_words line.item)

packet_text : (frame : ℕ) (p : List ℕ) → packet_line frame p ≡ (decimal frame ++ spaced (item_words (items.Packet p))) ++ 10 ∷ []
unfolding packet_line spaced
packet_text frame p =
    ap (λ (xs : List ℕ). xs ++ 10 ∷ []) (append_assoc (decimal frame) (codes " pkt ") (hex p) ∙ ap (λ (xs : List ℕ). decimal frame ++ (codes " pkt " ++ xs)) (sym (append-nil (hex p))))

-- four texts in front of another
four : (a b c d e : List ℕ) → (((a ++ b) ++ c) ++ d) ++ e ≡ a ++ (b ++ (c ++ (d ++ e)))
four a b c d e = append_assoc ((a ++ b) ++ c) d e ∙ append_assoc (a ++ b) c (d ++ e) ∙ append_assoc a b (c ++ (d ++ e))

drop_text : (frame : ℕ) (pipe : PipeName) (full : Bool) (p : List ℕ)
    → drop_line frame (record { pipe = pipe; full = full; packet = p }) ≡ (decimal frame ++ spaced (codes "drop" ∷ pipe_text pipe ∷ cause_word full ∷ hex p ∷ [])) ++ 10 ∷ []
unfolding drop_line spaced
drop_text frame pipe false p =
    ap (λ (xs : List ℕ). xs ++ 10 ∷ []) (four (decimal frame) (codes " drop ") (pipe_text pipe) (codes " limit ") (hex p)
    ∙ ap (λ (xs : List ℕ). decimal frame ++ (codes " drop " ++ (pipe_text pipe ++ (codes " limit " ++ xs)))) (sym (append-nil (hex p))))
drop_text frame pipe true p =
    ap (λ (xs : List ℕ). xs ++ 10 ∷ []) (four (decimal frame) (codes " drop ") (pipe_text pipe) (codes " full ") (hex p)
    ∙ ap (λ (xs : List ℕ). decimal frame ++ (codes " drop " ++ (pipe_text pipe ++ (codes " full " ++ xs)))) (sym (append-nil (hex p))))

pub text_is : (frame : ℕ) (item : LineItem) → item_text frame item ≡ (decimal frame ++ spaced (item_words item)) ++ 10 ∷ []
unfolding request_line spaced
text_is frame (items.Packet p) = packet_text frame p
text_is frame (items.Drop lost) = drop_text frame lost.pipe lost.full lost.packet
text_is frame items.Reset = refl
text_is frame (items.Restart name) = ap (λ (xs : List ℕ). (decimal frame ++ (codes " restart " ++ xs)) ++ 10 ∷ []) (sym (append-nil (name_text name)))
text_is frame (items.Delete name) = ap (λ (xs : List ℕ). (decimal frame ++ (codes " delete " ++ xs)) ++ 10 ∷ []) (sym (append-nil (name_text name)))

-- ---- its bytes

pipe_plain : (pipe : PipeName) → AllByRecursion IsPlain (pipe_text pipe)
pipe_plain pipes.Hs = search arith
pipe_plain pipes.HsEv = search arith
pipe_plain pipes.Cs = search arith
pipe_plain pipes.Sc = search arith
pipe_plain pipes.Mm = search arith
pipe_plain pipes.Md = search arith
pipe_plain pipes.Lc = search arith
pipe_plain pipes.LcTlm = search arith

cause_plain : (full : Bool) → AllByRecursion IsPlain (cause_word full)
cause_plain false = search arith
cause_plain true = search arith

words_plain : (item : LineItem) → IsItem item → AllByRecursion (AllByRecursion IsPlain) (item_words item)
words_plain (items.Packet p) is = (search arith, (hex_is_plain p, tt))
words_plain (items.Drop lost) is = (search arith, (pipe_plain lost.pipe, (cause_plain lost.full, (hex_is_plain lost.packet, tt))))
words_plain items.Reset is = (search arith, tt)
words_plain (items.Restart name) is = (search arith, (name_plain name is, tt))
words_plain (items.Delete name) is = (search arith, (name_plain name is, tt))

abbrev IsNoLf : ℕ → Type 0
IsNoLf b = (b == 10) ≡ false

plain_no_lf : (b : ℕ) → IsPlain b → IsNoLf b
plain_no_lf b plain = grind (arith, nat_tests)

no_lfs : (w : List ℕ) → AllByRecursion IsPlain w → AllByRecursion IsNoLf w
no_lfs w all = all_map IsPlain IsNoLf plain_no_lf w all

spaced_no_lf : (ws : List (List ℕ)) → AllByRecursion (AllByRecursion IsPlain) ws → AllByRecursion IsNoLf (spaced ws)
unfolding spaced
spaced_no_lf [] all = tt
spaced_no_lf (w ∷ ws) all = (refl, all_append IsNoLf w (spaced ws) (no_lfs w all.0) (spaced_no_lf ws all.1))

frame_plain : (frame : ℕ) → frame < 4294967296 → AllByRecursion IsPlain (decimal frame)
frame_plain frame small = marks_are_plain (decimal frame) (decimal_marks frame small)

pub body_no_lf : (line : LogLine) → IsLine line → AllByRecursion (λ b. (b == 10) ≡ false) (line_body line)
body_no_lf line is = all_append IsNoLf (decimal line.frame) (spaced (item_words line.item)) (no_lfs (decimal line.frame) (frame_plain line.frame is.frame)) (spaced_no_lf (item_words line.item) (words_plain line.item is.item))

-- how many bytes words have, with a space in front of each
abbrev spaced_size : List (List ℕ) → ℕ
spaced_size [] = 0
spaced_size (w ∷ ws) = 1 + length w + spaced_size ws

length-spaced : (ws : List (List ℕ)) → length (spaced ws) ≡ spaced_size ws
unfolding spaced
length-spaced [] = refl
length-spaced (w ∷ ws) = let both = length-append w (spaced ws) in let more = length-spaced ws in omega arith

pipe_short : (pipe : PipeName) → length (pipe_text pipe) ≤ 6
pipe_short pipes.Hs = search arith
pipe_short pipes.HsEv = search arith
pipe_short pipes.Cs = search arith
pipe_short pipes.Sc = search arith
pipe_short pipes.Mm = search arith
pipe_short pipes.Md = search arith
pipe_short pipes.Lc = search arith
pipe_short pipes.LcTlm = search arith

cause_short : (full : Bool) → length (cause_word full) ≤ 5
cause_short false = search arith
cause_short true = search arith

words_short : (item : LineItem) → IsItem item → spaced_size (item_words item) ≤ 531
words_short (items.Packet p) is = let h = length-hex p in let k = is.packet.short in omega arith
words_short (items.Drop lost) is = let h = length-hex lost.packet in let k = is.packet.short in let a = pipe_short lost.pipe in let b = cause_short lost.full in omega arith
words_short items.Reset is = omega arith
words_short (items.Restart name) is = let h = name_short name is in omega arith
words_short (items.Delete name) is = let h = name_short name is in omega arith

body_short : (line : LogLine) → IsLine line → nat_lt 640 (length (line_body line)) ≡ false
body_short line is =
    let both = length-append (decimal line.frame) (spaced (item_words line.item)) in
    let a = decimal_length line.frame is.frame in
    let b = length-spaced (item_words line.item) in
    let c = words_short line.item is.item in
    let few : length (line_body line) ≤ 541 = omega arith in
    grind (arith, nat_tests)

-- ---- whole lines

body_words : (line : LogLine) → IsLine line → line_words (line_body line) ≡ decimal line.frame ∷ item_words line.item
body_words line is = words_led (decimal line.frame) (item_words line.item) (frame_plain line.frame is.frame) (words_plain line.item is.item)

words_back : (line : LogLine) → IsLine line → words_said (decimal line.frame ∷ item_words line.item) ≡ Ok line
unfolding words_said
words_back line is = rw (frame_back line.frame is.frame, item_back line.item is.item) refl

pub body_back : (line : LogLine) → IsLine line → line_said (line_body line) ≡ Ok line
unfolding line_said
body_back line is = rw (body_short line is, body_words line is) (words_back line is)

-- the text of a line, and what stands behind it
pub body_first : (line : LogLine) (rest : List ℕ) → IsLine line → lf_parts (line_text line ++ rest) ≡ line_body line ∷ lf_parts rest
unfolding lf_parts
body_first line rest is =
    ap (λ (xs : List ℕ). slice_split (λ b. b == 10) (xs ++ rest)) (text_is line.frame line.item)
    ∙ ap (slice_split (λ b. b == 10)) (append_assoc (line_body line) (10 ∷ []) rest)
    ∙ split_first (λ b. b == 10) (line_body line) 10 rest (body_no_lf line is) refl

pub line_back : (line : LogLine) → IsLine line → IsReadAs (line_text line) line
line_back line is = record {
  line = line_body line;
  whole = text_is line.frame line.item;
  first = λ rest. body_first line rest is;
  says = body_back line is;
}

-- what a line that says something is
abbrev Writes : List ℕ → LogLine → Type 0
Writes bytes line = (line_text line ≡ bytes ++ 10 ∷ []) × IsLine line

frame_writes : (bytes number : List ℕ) (ws : List (List ℕ)) (frame : ℕ) (r : Result LineItem LineFault) (line : LogLine) → line_words bytes ≡ number ∷ ws → frame_said number ≡ Some frame → item_said ws ≡ r → in_frame frame r ≡ Ok line → Writes bytes line
frame_writes bytes number ws frame (Ok item) line cut said says h =
    let same : record { frame = frame; item = item } ≡ line = cc in
    let first = frame_exact number frame said in
    let rest = item_exact ws item says in
    let whole : bytes ≡ decimal frame ++ spaced (item_words item) = line_is bytes number ws cut ∙ ap (λ (w : List ℕ). w ++ spaced ws) first.0 ∙ ap (λ (vs : List (List ℕ)). decimal frame ++ spaced vs) rest.0 in
    rw (← same) (text_is frame item ∙ ap (λ (xs : List ℕ). xs ++ 10 ∷ []) (sym whole), record { frame = first.1; item = rest.1 })
frame_writes bytes number ws frame (Err fault) line cut said says h = absurd (cc)

at_writes : (bytes number : List ℕ) (ws : List (List ℕ)) (o : Option ℕ) (line : LogLine) → line_words bytes ≡ number ∷ ws → frame_said number ≡ o → line_at o ws ≡ Ok line → Writes bytes line
at_writes bytes number ws None line cut said h = absurd (cc)
at_writes bytes number ws (Some frame) line cut said h = frame_writes bytes number ws frame (item_said ws) line cut said refl h

words_write : (bytes : List ℕ) (ws : List (List ℕ)) (line : LogLine) → line_words bytes ≡ ws → words_said ws ≡ Ok line → Writes bytes line
unfolding words_said
words_write bytes [] line cut h = absurd (cc)
words_write bytes (number ∷ ws) line cut h = at_writes bytes number ws (frame_said number) line cut refl h

line_if : (bytes : List ℕ) (line : LogLine) (b : Bool) → (if b then Err faults.Long else words_said (line_words bytes)) ≡ Ok line → Writes bytes line
line_if bytes line true h = absurd (cc)
line_if bytes line false h = words_write bytes (line_words bytes) line refl h

pub line_exact : (bytes : List ℕ) (line : LogLine) → line_said bytes ≡ Ok line → (line_text line ≡ bytes ++ 10 ∷ []) × IsLine line
unfolding line_said
line_exact bytes line h = line_if bytes line (nat_lt 640 (length bytes)) h
