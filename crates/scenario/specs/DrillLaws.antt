-- The text of a generated scenario is a header and 2,000 frames, and ends well.
use Rattle.std.proofs.Common.{◌≡◌, ℕ, zero, suc, ◌+◌, ◌*◌, ◌<◌, ◌≤◌, ◌%◌, Bool, true, false, List, [], ◌∷◌, ◌++◌, length, map, refl, sym, ◌∙◌, ap, subst, append_assoc, length-append, arith, Some, None, Ok, codes}
use Rattle.std.specs.Prelude.{◌==◌, if◌then◌else◌, nat_lt, nat_le, decimal}
use Rattle.std.specs.List.{AllByRecursion, slice_split}
use Rattle.std.proofs.lemmas.Bool.Decides.{nat_tests}
use Rattle.std.proofs.lemmas.Fmt.{length-decimal-le}
use Rattle.memory_window.specs.declared.regions.Region.{Region}
use Rattle.memory_window.specs.declared.regions.Kind.TheVariants as kinds
use Rattle.memory_window.specs.Regions.{is_mapped, map_fault_of}
use Rattle.scenario.specs.declared.sentence.Place.TheVariants as places
use Rattle.scenario.specs.declared.frame.Upset.{Upset}
use Rattle.scenario.specs.declared.sentence.Sentence.{Sentence}
use Rattle.scenario.specs.declared.sentence.Sentence.TheVariants as says
use Rattle.scenario.specs.Words.{words, digits, number, kind_of}
use Rattle.scenario.specs.Sentences.{is_in_frames, line_says, said, verb_at, verb_of, sentence_of, number_or_bad, epoch_line, region_line}
use Rattle.scenario.specs.Frames.{place_after, regions_of, ticks_of, frame_of, room_for_item, refusal}
use Rattle.scenario.specs.FrameLists.{items_in}
use Rattle.scenario.specs.Texts.{Line, Before, nothing, Reading, Ended, whole_lines, unless_refused, reads, passed, given, with_items, end_of, read, read_bytes, reading}
use Rattle.scenario.specs.Standing.{is_lf}
use Rattle.scenario.specs.LineLaws.{read_good, whole_first, parts_some}
use Rattle.scenario.specs.Drill.{upper_hex, Draws, draws_of, counter_line, upset_line, command_drawn, send_line, frame_lines, frames_text, drill_header, drill_text}
use Rattle.scenario.specs.DrillWordLaws.{IsPlain, all_append, all_map, plain_no_lf, digits_are_plain, own, hex_is_plain, hex_length, split_first}
use Rattle.scenario.specs.DrillLineLaws.{IsGoodPacket, load_count, send_says, upset_says, load_says, tick_says, end_says, drawn_is_good, drawn_is_mapped}

-- how bytes end that stand behind what stood before, and how many items they give
pub record Ends (old : Before) (bytes : List ℕ) (n : ℕ) : Type 0 where
  pub ending : (read_bytes true old bytes).ending ≡ Ended
  pub items : length (read_bytes true old bytes).items ≡ n

-- a whole line
abbrev whole : List ℕ → Line
whole line = record { bytes = line; takes = length line + 1 }

abbrev HasNoLf : List ℕ → Type 0
HasNoLf line = AllByRecursion (λ b. is_lf b ≡ false) line

-- what a good line gives, in front of other bytes
read_line : (old : Before) (line rest : List ℕ) (s : Sentence) → HasNoLf line → reads old (whole line) ≡ Ok (Some s)
    → read_bytes true old (line ++ 10 ∷ rest) ≡ with_items (given old.sentences (Some s)) (map (λ _. end_of old (whole line)) (given old.sentences (Some s))) (read_bytes true (passed old (whole line) (Some s)) rest)
unfolding read_bytes
read_line old line rest s plain is =
    ap (λ (parts : List (List ℕ)). read true old (whole_lines true parts)) (split_first is_lf line 10 rest plain refl)
    ∙ ap (read true old) (whole_first true line (slice_split is_lf rest) (parts_some rest))
    ∙ read_good true old (whole line) (whole_lines true (slice_split is_lf rest)) (Some s) is

step : (old : Before) (line rest : List ℕ) (s : Sentence) (n : ℕ) → HasNoLf line → reads old (whole line) ≡ Ok (Some s) → Ends (passed old (whole line) (Some s)) rest n
    → Ends old (line ++ 10 ∷ rest) (length (given old.sentences (Some s)) + n)
step old line rest s n plain is ends =
    let same = read_line old line rest s plain is in
    record {
      ending = ap (λ (r : Reading). r.ending) same ∙ ends.ending;
      items = ap (λ (r : Reading). length r.items) same ∙ length-append (given old.sentences (Some s)) (read_bytes true (passed old (whole line) (Some s)) rest).items
          ∙ ap (λ (k : ℕ). length (given old.sentences (Some s)) + k) ends.items;
    }

-- a line that is short enough, says a sentence at its place and isn't refused
reads_ok : (old : Before) (line : List ℕ) (s : Sentence) → length line ≤ 640 → old.bytes + length line + 1 ≤ 16777216 → line_says (place_after old.sentences) line ≡ Ok (Some s) → refusal old.sentences s ≡ None
    → reads old (whole line) ≡ Ok (Some s)
unfolding reads
reads_ok old line s short within is good =
    let a : nat_lt 640 (length line) ≡ false = grind (arith, nat_tests) in
    let b : nat_lt 16777216 (old.bytes + (length line + 1)) ≡ false = grind (arith, nat_tests) in
    rw (a, b, is, good, unless_refused) refl

-- ---- frames

-- the regions of the header
abbrev drill_regions : List Region
drill_regions = record { kind = kinds.Ram; start = 0; len = 65536 } ∷ record { kind = kinds.Eeprom; start = 65536; len = 65536 } ∷ []

-- within the frames, behind so many of them and so many items at most of the next
record IsIn (old : Before) (n items : ℕ) : Type 0 where
  inside : is_in_frames (place_after old.sentences) ≡ true
  regions : regions_of old.sentences ≡ drill_regions
  ticks : ticks_of old.sentences ≡ n
  few : items_in (frame_of old.sentences) ≤ items

-- an address of the first region
mapped : (at : ℕ) → at < 65536 → is_mapped drill_regions at ≡ true
mapped at small =
    let first : nat_lt at 65536 ≡ true = grind (arith, nat_tests) in
    let least : nat_le 0 at ≡ true = grind (arith, nat_tests) in
    rw (least, first) refl

-- one more of the frame's items has room
has_room : (old : List Sentence) (items : ℕ) → items_in (frame_of old) ≤ items → items < 64 → room_for_item old ≡ None
has_room old items few room =
    let less : nat_lt (items_in (frame_of old)) 64 ≡ true = grind (arith, nat_tests) in
    rw less refl

-- ---- lines

zero_more : (k : ℕ) → 0 + k ≡ k
zero_more k = omega arith

no_lf_in_digits : (n : ℕ) → n < 4294967296 → HasNoLf (decimal n)
no_lf_in_digits n small = all_map IsPlain _ plain_no_lf (decimal n) (digits_are_plain (decimal n) (own n small))

short_digits : (n : ℕ) → n < 4294967296 → length (decimal n) ≤ 10
short_digits n small = length-decimal-le 10 n (omega arith) (omega (arith, small)) (omega (arith, small))

-- a counter
count_ends : (a : ℕ) (old : Before) (n k : ℕ) (rest : List ℕ) → IsIn old n 0 → old.bytes + 640 ≤ 16777216
    → ((new : Before) → IsIn new n 1 → new.bytes ≤ old.bytes + 20 → Ends new rest k) → Ends old (counter_line a ++ rest) k
unfolding counter_line refusal
count_ends a old n k rest is room go_on =
    let d : ℕ = a % 4 in
    let small : d < 4 = omega arith in
    let large : d < 4294967296 = omega (arith, small) in
    let line : List ℕ = codes "app" ++ 32 ∷ (codes "LOAD" ++ 32 ∷ decimal d) in
    let short = short_digits d large in
    let size : length line ≡ 9 + length (decimal d) = omega arith in
    let good = reads_ok old line (says.Count (load_count d)) (omega (arith, size, short)) (omega (arith, size, short, room)) (load_says (place_after old.sentences) d is.inside small) (has_room old.sentences 0 is.few (omega arith)) in
    let more = length-append (frame_of old.sentences).counters (load_count d ∷ []) in
    let few = is.few in
    let new : Before = passed old (whole line) (Some (says.Count (load_count d))) in
    let behind = go_on new (record { inside = refl; regions = is.regions; ticks = is.ticks; few = omega (arith, more, few) }) (omega (arith, size, short)) in
    let text : counter_line a ++ rest ≡ line ++ 10 ∷ rest = ap (λ (t : List ℕ). codes "app LOAD " ++ t) (append_assoc (decimal d) (codes "\n") rest) in
    subst (λ (t : List ℕ). Ends old t k) (sym text)
    (subst (Ends old (line ++ 10 ∷ rest)) (zero_more k) (step old line rest (says.Count (load_count d)) k (refl, (refl, (refl, (refl, (refl, (refl, (refl, (refl, (refl, no_lf_in_digits d large))))))))) good behind))

-- an upset, or none
upset_ends : (b c : ℕ) (old : Before) (n k : ℕ) (rest : List ℕ) → c < 65536 → IsIn old n 1 → old.bytes + 640 ≤ 16777216
    → ((new : Before) → IsIn new n 2 → new.bytes ≤ old.bytes + 40 → Ends new rest k) → Ends old (upset_line b c ++ rest) k
unfolding upset_line refusal
upset_ends b c old n k rest small is room go_on = by_test (b % 4 == 0)
  where
    none : Ends old rest k
    none = let few = is.few in go_on old (record { inside = is.inside; regions = is.regions; ticks = is.ticks; few = omega (arith, few) }) (omega arith)

    one : Ends old ((codes "upset " ++ decimal c ++ codes " " ++ decimal (b % 256) ++ codes "\n") ++ rest) k
    one =
        let v : ℕ = b % 256 in
        let value : v < 256 = omega arith in
        let large_c : c < 4294967296 = omega (arith, small) in
        let large_v : v < 4294967296 = omega (arith, value) in
        let line : List ℕ = codes "upset" ++ 32 ∷ (decimal c ++ 32 ∷ decimal v) in
        let short_c = short_digits c large_c in
        let short_v = short_digits v large_v in
        let size : length line ≡ 6 + length (decimal c ++ 32 ∷ decimal v) = omega arith in
        let parts = length-append (decimal c) (32 ∷ decimal v) in
        let upset : Upset = record { at = c; value = v } in
        let allowed : refusal old.sentences (says.Upset upset) ≡ None = rw (is.regions, mapped c small) (has_room old.sentences 1 is.few (omega arith)) in
        let good = reads_ok old line (says.Upset upset) (omega (arith, size, parts, short_c, short_v)) (omega (arith, size, parts, short_c, short_v, room)) (upset_says (place_after old.sentences) c v is.inside small value) allowed in
        let more = length-append (frame_of old.sentences).upsets (upset ∷ []) in
        let few = is.few in
        let new : Before = passed old (whole line) (Some (says.Upset upset)) in
        let behind = go_on new (record { inside = refl; regions = is.regions; ticks = is.ticks; few = omega (arith, more, few) }) (omega (arith, size, parts, short_c, short_v)) in
        let text : (codes "upset " ++ decimal c ++ codes " " ++ decimal v ++ codes "\n") ++ rest ≡ line ++ 10 ∷ rest =
        ap (λ (t : List ℕ). codes "upset " ++ t) (append_assoc (decimal c ++ codes " " ++ decimal v) (codes "\n") rest ∙ ap (λ (t : List ℕ). t ++ 10 ∷ rest) (append_assoc (decimal c) (codes " ") (decimal v))) in
        let plain : HasNoLf (decimal c ++ 32 ∷ decimal v) = all_append _ (decimal c) (32 ∷ decimal v) (no_lf_in_digits c large_c) (refl, no_lf_in_digits v large_v) in
        subst (λ (t : List ℕ). Ends old t k) (sym text) (subst (Ends old (line ++ 10 ∷ rest)) (zero_more k) (step old line rest (says.Upset upset) k (refl, (refl, (refl, (refl, (refl, (refl, plain)))))) good behind))

    by_test : (t : Bool) → Ends old ((if t then codes "upset " ++ decimal c ++ codes " " ++ decimal (b % 256) ++ codes "\n" else []) ++ rest) k
    by_test true = one
    by_test false = none

-- a command
send_ends : (p : List ℕ) (old : Before) (n k : ℕ) (rest : List ℕ) → IsGoodPacket p → IsIn old n 2 → old.bytes + 640 ≤ 16777216
    → ((new : Before) → IsIn new n 3 → new.bytes ≤ old.bytes + 50 → Ends new rest k) → Ends old (send_line p ++ rest) k
unfolding send_line refusal
send_ends p old n k rest packet is room go_on =
    let line : List ℕ = codes "send" ++ 32 ∷ upper_hex p in
    let digits_in = hex_length p in
    let bytes = packet.few in
    let size : length line ≡ 5 + length (upper_hex p) = omega arith in
    let good = reads_ok old line (says.Send p) (omega (arith, size, digits_in, bytes)) (omega (arith, size, digits_in, bytes, room)) (send_says (place_after old.sentences) p is.inside packet) (has_room old.sentences 2 is.few (omega arith)) in
    let more = length-append (frame_of old.sentences).sends (p ∷ []) in
    let few = is.few in
    let new : Before = passed old (whole line) (Some (says.Send p)) in
    let behind = go_on new (record { inside = refl; regions = is.regions; ticks = is.ticks; few = omega (arith, more, few) }) (omega (arith, size, digits_in, bytes)) in
    let text : send_line p ++ rest ≡ line ++ 10 ∷ rest = ap (λ (t : List ℕ). codes "send " ++ t) (append_assoc (upper_hex p) (codes "\n") rest) in
    subst (λ (t : List ℕ). Ends old t k) (sym text)
    (subst (Ends old (line ++ 10 ∷ rest)) (zero_more k) (step old line rest (says.Send p) k (refl, (refl, (refl, (refl, (refl, all_map IsPlain _ plain_no_lf (upper_hex p) (hex_is_plain p)))))) good behind))

-- the end of a frame
tick_ends : (old : Before) (n items k : ℕ) (rest : List ℕ) → n < 100000 → IsIn old n items → old.bytes + 640 ≤ 16777216
    → ((new : Before) → IsIn new (n + 1) 0 → place_after new.sentences ≡ places.Between → new.bytes ≤ old.bytes + 5 → Ends new rest k) → Ends old (codes "tick\n" ++ rest) (suc k)
unfolding refusal
tick_ends old n items k rest within is room go_on =
    let line : List ℕ = codes "tick" in
    let ticks = is.ticks in
    let less : nat_lt (ticks_of old.sentences) 100000 ≡ true = grind (arith, nat_tests) in
    let good = reads_ok old line says.Tick (omega arith) (omega (arith, room)) (tick_says (place_after old.sentences) is.inside) (rw less refl) in
    let new : Before = passed old (whole line) (Some says.Tick) in
    let behind = go_on new (record { inside = refl; regions = is.regions; ticks = ap (λ (m : ℕ). m + 1) is.ticks; few = omega arith }) refl (omega arith) in
    let one : 1 + k ≡ suc k = omega arith in
    subst (Ends old (line ++ 10 ∷ rest)) one (step old line rest says.Tick k (refl, (refl, (refl, (refl, tt)))) good behind)

-- ---- frames

-- the lines of a frame
frame_ends : (q : Draws) (old : Before) (n k : ℕ) (rest : List ℕ) → q.c < 65536 → n < 100000 → IsIn old n 0 → old.bytes + 1000 ≤ 16777216
    → ((new : Before) → IsIn new (n + 1) 0 → place_after new.sentences ≡ places.Between → new.bytes ≤ old.bytes + 200 → Ends new rest k) → Ends old (frame_lines q ++ rest) (suc k)
unfolding frame_lines
frame_ends q old n k rest small within is room go_on =
    let upset : List ℕ = upset_line q.b q.c in
    let send : List ℕ = send_line (command_drawn q.d q.e) in
    let tick : List ℕ = codes "tick\n" in
    let text : (counter_line q.a ++ upset ++ send ++ tick) ++ rest ≡ counter_line q.a ++ (upset ++ (send ++ (tick ++ rest))) =
    append_assoc (counter_line q.a ++ upset ++ send) tick rest ∙ append_assoc (counter_line q.a ++ upset) send (tick ++ rest) ∙ append_assoc (counter_line q.a) upset (send ++ (tick ++ rest)) in
    subst (λ (t : List ℕ). Ends old t (suc k)) (sym text)
    (count_ends q.a old n (suc k) (upset ++ (send ++ (tick ++ rest))) is (omega (arith, room)) (λ first in_first below_first.
    upset_ends q.b q.c first n (suc k) (send ++ (tick ++ rest)) small in_first (omega (arith, room, below_first)) (λ second in_second below_second.
    send_ends (command_drawn q.d q.e) second n (suc k) (tick ++ rest) (drawn_is_good q.d q.e) in_second (omega (arith, room, below_first, below_second)) (λ third in_third below_third.
    tick_ends third n 3 k rest within in_third (omega (arith, room, below_first, below_second, below_third)) (λ new in_new between below_new.
    go_on new in_new between (omega (arith, below_first, below_second, below_third, below_new)))))))

-- `end`
end_ends : (old : Before) → place_after old.sentences ≡ places.Between → old.bytes + 640 ≤ 16777216 → Ends old (codes "end\n") 0
unfolding refusal read_bytes read
end_ends old between room =
    let good = reads_ok old (codes "end") says.End (omega arith) (omega (arith, room)) (rw between end_says) refl in
    step old (codes "end") [] says.End 0 (refl, (refl, (refl, tt))) good (record { ending = refl; items = refl })

-- so many frames, and `end`
frames_end : (left x : ℕ) (old : Before) (n : ℕ) → n + left ≤ 2000 → IsIn old n 0 → place_after old.sentences ≡ places.Between → old.bytes + 200 * left + 1000 ≤ 16777216 → Ends old (frames_text left x ++ codes "end\n") left
unfolding frames_text
frames_end zero x old n few is between room = end_ends old between (omega (arith, room))
frames_end (suc left) x old n few is between room =
    subst (λ (t : List ℕ). Ends old t (suc left)) (sym (append_assoc (frame_lines (draws_of x)) (frames_text left (draws_of x).x) (codes "end\n")))
    (frame_ends (draws_of x) old n left (frames_text left (draws_of x).x ++ codes "end\n") (drawn_is_mapped x) (omega (arith, few)) is (omega (arith, room)) (λ new in_new now below.
    frames_end left (draws_of x).x new (n + 1) (omega (arith, few)) in_new now (omega (arith, room, below))))

-- ---- the whole text

epoch_reads : reads nothing (whole (codes "epoch 1000000")) ≡ Ok (Some (says.Epoch 1000000))
unfolding reads line_says said words verb_at verb_of sentence_of epoch_line number_or_bad number digits refusal
epoch_reads = refl

behind_epoch : Before
behind_epoch = record { sentences = says.Epoch 1000000 ∷ []; lines = 1; bytes = 14 }

ram : Region
ram = record { kind = kinds.Ram; start = 0; len = 65536 }

eeprom : Region
eeprom = record { kind = kinds.Eeprom; start = 65536; len = 65536 }

ram_reads : reads behind_epoch (whole (codes "region RAM 0 65536")) ≡ Ok (Some (says.Region ram))
unfolding behind_epoch ram reads line_says said words verb_at verb_of sentence_of region_line kind_of number_or_bad number digits refusal
ram_reads = refl

behind_ram : Before
behind_ram = record { sentences = says.Region ram ∷ says.Epoch 1000000 ∷ []; lines = 2; bytes = 33 }

eeprom_reads : reads behind_ram (whole (codes "region EEPROM 65536 65536")) ≡ Ok (Some (says.Region eeprom))
unfolding behind_ram ram eeprom reads line_says said words verb_at verb_of sentence_of region_line kind_of number_or_bad number digits refusal
eeprom_reads = refl

behind_eeprom : Before
behind_eeprom = record { sentences = says.Region eeprom ∷ says.Region ram ∷ says.Epoch 1000000 ∷ []; lines = 3; bytes = 59 }

start_reads : reads behind_eeprom (whole (codes "start")) ≡ Ok (Some says.Start)
unfolding behind_eeprom ram eeprom reads line_says said words verb_at verb_of sentence_of refusal map_fault_of
start_reads = refl

-- a generated scenario ends well, and gives its header and 2,000 frames
drill_ends : (k : ℕ) → Ends nothing (drill_text k) 2001
unfolding drill_text drill_header behind_epoch behind_ram behind_eeprom ram eeprom
drill_ends k =
    let frames : List ℕ = frames_text 2000 k ++ codes "end\n" in
    let started : Before = passed behind_eeprom (whole (codes "start")) (Some says.Start) in
    let is : IsIn started 0 0 = record { inside = refl; regions = refl; ticks = refl; few = omega arith } in
    let behind = frames_end 2000 k started 0 (omega arith) is refl (omega arith) in
    let starts = step behind_eeprom (codes "start") frames says.Start 2000 (refl, (refl, (refl, (refl, (refl, tt))))) start_reads behind in
    let eeproms = step behind_ram (codes "region EEPROM 65536 65536") (codes "start\n" ++ frames) (says.Region eeprom) 2001 (refl, (refl, (refl, (refl, (refl, (refl, (refl, (refl, (refl, (refl, (refl, (refl, (refl, (refl, (refl, (refl, (refl, (refl, (refl, (refl, (refl, (refl, (refl, (refl, (refl, tt))))))))))))))))))))))))) eeprom_reads starts in
    let rams = step behind_epoch (codes "region RAM 0 65536") (codes "region EEPROM 65536 65536\nstart\n" ++ frames) (says.Region ram) 2001 (refl, (refl, (refl, (refl, (refl, (refl, (refl, (refl, (refl, (refl, (refl, (refl, (refl, (refl, (refl, (refl, (refl, (refl, tt)))))))))))))))))) ram_reads eeproms in
    step nothing (codes "epoch 1000000") (codes "region RAM 0 65536\nregion EEPROM 65536 65536\nstart\n" ++ frames) (says.Epoch 1000000) 2001 (refl, (refl, (refl, (refl, (refl, (refl, (refl, (refl, (refl, (refl, (refl, (refl, (refl, tt))))))))))))) epoch_reads rams

pub drills_end_well : (k : ℕ) → (reading (record { bytes = drill_text k; closed = true })).ending ≡ Ended
unfolding reading
drills_end_well k = (drill_ends k).ending

pub drills_are_long : (k : ℕ) → length (reading (record { bytes = drill_text k; closed = true })).items ≡ 2001
unfolding reading
drills_are_long k = (drill_ends k).items
