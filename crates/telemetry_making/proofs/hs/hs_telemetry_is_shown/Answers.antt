use Rattle.std.proofs.Common.{◌≡◌, Bool, true, false, ℕ, ◌<◌, ◌+◌, ◌*◌, ◌/◌, ◌%◌, ◌∷◌, [], ◌++◌, List, length, refl, ◌∙◌, arith}
use Rattle.std.specs.Prelude.{codes}
use Rattle.std.specs.List.{AllByRecursion}
use Rattle.packet_forms.specs.MessageIds.{hs_housekeeping}
use Rattle.packet_forms.specs.Numbers.{be16_at, be32_at, be16_bytes, be32_bytes}
use Rattle.packet_forms.specs.declared.name.Counter.{Counter}
use Rattle.row_forms.specs.declared.field.Field.{Field}
use Rattle.row_forms.specs.declared.field.Field.TheVariants.{Zeros}
use Rattle.row_forms.specs.declared.field.Spelling.{Spelling}
use Rattle.row_forms.specs.declared.field.Spelling.TheVariants as spellings
use Rattle.row_forms.specs.Numbers.{are_choices}
use Rattle.row_forms.specs.Rows.{is_row}
use Rattle.row_forms.specs.RowNumbers.{numbers_in}
use Rattle.row_forms.specs.Values.{is_kind}
use Rattle.row_forms.specs.Worked.{choice_of, choices_at, field, text_at}
use Rattle.row_forms.proofs.TextLemmas.{all_append}
use Rattle.telemetry.specs.Telemetry.{named}
use Rattle.telemetry.specs.Dictionary.{dictionary, hs_rows, mm_rows, md_rows, cs_rows, sc_rows, lc_rows, event_rows, row, byte, count as counted, switch, long_bits, behind_header, hs_state_fields}
use Rattle.hs_tables.specs.Counters.{entry_of}
use Rattle.hs_tables.specs.declared.counters.CountRow.{CountRow}
use Rattle.hs_monitors.specs.Housekeeping.{flag_of, housekeeping_of, shown_of}
use Rattle.telemetry_making.proofs.MakingLemmas.{content_from, header_row, row8, row16, row32, zeros2, shown_with, whole16, whole32, bytes16, bytes32}
use Rattle.telemetry_making.proofs.CounterLemmas.{counters_by, bytes_by, counters_row, counters_numbers, counters_small, counters_long}
use Rattle.telemetry_making.proofs.hs.hs_telemetry_is_shown.Goals as goal

abbrev keys : List (List ℕ)
keys = codes "counter1" ∷ codes "counter2" ∷ codes "counter3" ∷ codes "counter4" ∷ codes "counter5" ∷ codes "counter6" ∷ codes "counter7" ∷ codes "counter8" ∷ codes "counter9" ∷ codes "counter10" ∷ codes "counter11" ∷ codes "counter12" ∷ codes "counter13" ∷ codes "counter14" ∷ codes "counter15" ∷ codes "counter16" ∷ codes "counter17" ∷ codes "counter18" ∷ codes "counter19" ∷ codes "counter20" ∷ codes "counter21" ∷ codes "counter22" ∷ codes "counter23" ∷ codes "counter24" ∷ codes "counter25" ∷ codes "counter26" ∷ codes "counter27" ∷ codes "counter28" ∷ codes "counter29" ∷ codes "counter30" ∷ codes "counter31" ∷ codes "counter32" ∷ []

abbrev number_of : List Counter → CountRow → ℕ
number_of counters row = shown_of counters (entry_of row)

abbrev tail_of : List Counter → List CountRow → List ℕ
tail_of counters rows = bytes_by (number_of counters) rows

-- the fields from the watching monitors on, from the resets on, and all of them
abbrev watching_fields : List Field
watching_fields = field (codes "watching") long_bits ∷ counters_by keys

abbrev resets_fields : List Field
resets_fields = field (codes "resets") counted ∷ field (codes "max_resets") counted ∷ field (codes "actions") counted ∷ Zeros 2 ∷ watching_fields

abbrev all_fields : List Field
all_fields = field (codes "accepted") byte ∷ field (codes "errors") byte ∷ field (codes "apps") switch ∷ field (codes "events") switch ∷ resets_fields

abbrev switched : Spelling
switched = spellings.Choice (choices_at (choice_of (codes "off") 0 ∷ choice_of (codes "on") 1 ∷ []))

abbrev payload_of : ℕ → ℕ → Bool → Bool → ℕ → ℕ → ℕ → ℕ → List ℕ → List ℕ
payload_of accepted errors apps events made most sent watching more =
    (((accepted ∷ errors ∷ flag_of apps ∷ flag_of events ∷ []) ++ (((be16_bytes made ++ be16_bytes most) ++ be16_bytes sent) ++ be16_bytes 0)) ++ be32_bytes watching) ++ more

resets_row : (made most sent watching : ℕ) (more : List ℕ) → is_row (counters_by keys) more ≡ true → is_row resets_fields (be16_bytes made ++ (be16_bytes most ++ (be16_bytes sent ++ (be16_bytes 0 ++ (be32_bytes watching ++ more))))) ≡ true
resets_row made most sent watching more end =
    row16 (text_at (codes "resets")) spellings.Decimal (field (codes "max_resets") counted ∷ field (codes "actions") counted ∷ Zeros 2 ∷ watching_fields) made (be16_bytes most ++ (be16_bytes sent ++ (be16_bytes 0 ++ (be32_bytes watching ++ more))))
    ∙ row16 (text_at (codes "max_resets")) spellings.Decimal (field (codes "actions") counted ∷ Zeros 2 ∷ watching_fields) most (be16_bytes sent ++ (be16_bytes 0 ++ (be32_bytes watching ++ more)))
    ∙ row16 (text_at (codes "actions")) spellings.Decimal (Zeros 2 ∷ watching_fields) sent (be16_bytes 0 ++ (be32_bytes watching ++ more))
    ∙ zeros2 watching_fields (be32_bytes watching ++ more)
    ∙ row32 (text_at (codes "watching")) spellings.Mask (counters_by keys) watching more
    ∙ end

whole_row : (accepted errors : ℕ) (apps events : Bool) (made most sent watching : ℕ) (more : List ℕ) → is_row (counters_by keys) more ≡ true → is_row all_fields (payload_of accepted errors apps events made most sent watching more) ≡ true
unfolding be16_bytes be32_bytes
whole_row accepted errors apps events made most sent watching more end =
    let rest = be16_bytes made ++ (be16_bytes most ++ (be16_bytes sent ++ (be16_bytes 0 ++ (be32_bytes watching ++ more)))) in
    row8 (text_at (codes "accepted")) spellings.Decimal (field (codes "errors") byte ∷ field (codes "apps") switch ∷ field (codes "events") switch ∷ resets_fields) accepted (errors ∷ flag_of apps ∷ flag_of events ∷ rest)
    ∙ row8 (text_at (codes "errors")) spellings.Decimal (field (codes "apps") switch ∷ field (codes "events") switch ∷ resets_fields) errors (flag_of apps ∷ flag_of events ∷ rest)
    ∙ row8 (text_at (codes "apps")) switched (field (codes "events") switch ∷ resets_fields) (flag_of apps) (flag_of events ∷ rest)
    ∙ row8 (text_at (codes "events")) switched resets_fields (flag_of events) rest
    ∙ resets_row made most sent watching more end

abbrev raw16 : ℕ → ℕ
raw16 n = n / 256 % 256 * 256 + n % 256

abbrev raw32 : ℕ → ℕ
raw32 n = n / 16777216 % 256 * 16777216 + n / 65536 % 256 * 65536 + n / 256 % 256 * 256 + n % 256

abbrev told : ℕ → ℕ → ℕ → ℕ → Bool → Bool → ℕ → ℕ → ℕ → ℕ → List ℕ → List ℕ
told time count accepted errors apps events made most sent watching more =
    time ∷ count ∷ accepted ∷ errors ∷ flag_of apps ∷ flag_of events ∷ made ∷ most ∷ sent ∷ watching ∷ more

first_numbers : (time count accepted errors : ℕ) (apps events : Bool) (made most sent watching : ℕ) (more : List ℕ) → numbers_in (behind_header all_fields) (content_from time count (payload_of accepted errors apps events made most sent watching more)) ≡ told (raw32 time) (raw16 count) accepted errors apps events (raw16 made) (raw16 most) (raw16 sent) (raw32 watching) (numbers_in (counters_by keys) more)
unfolding numbers_in be16_at be32_at be16_bytes be32_bytes
first_numbers time count accepted errors apps events made most sent watching more = refl

-- each number is the one that the packet was made of
told_same : (t n a e : ℕ) (apps events : Bool) (m x s w : ℕ) (more : List ℕ) (t2 n2 m2 x2 s2 w2 : ℕ) (more2 : List ℕ) → t ≡ t2 → n ≡ n2 → m ≡ m2 → x ≡ x2 → s ≡ s2 → w ≡ w2 → more ≡ more2 → told t n a e apps events m x s w more ≡ told t2 n2 a e apps events m2 x2 s2 w2 more2
told_same t n a e apps events m x s w more t2 n2 m2 x2 s2 w2 more2 p1 p2 p3 p4 p5 p6 p7 = rw (p1, p2, p3, p4, p5, p6, p7) refl

flag_small : (on : Bool) → flag_of on < 256
flag_small true = omega arith
flag_small false = omega arith

told_small : (made most sent : ℕ) → AllByRecursion (λ b. b < 256) (((be16_bytes made ++ be16_bytes most) ++ be16_bytes sent) ++ be16_bytes 0)
told_small made most sent =
    all_append (λ b. b < 256) ((be16_bytes made ++ be16_bytes most) ++ be16_bytes sent) (be16_bytes 0)
    (all_append (λ b. b < 256) (be16_bytes made ++ be16_bytes most) (be16_bytes sent) (all_append (λ b. b < 256) (be16_bytes made) (be16_bytes most) (bytes16 made) (bytes16 most)) (bytes16 sent)) (bytes16 0)

payload_long : (accepted errors : ℕ) (apps events : Bool) (made most sent watching : ℕ) (more : List ℕ) → length (payload_of accepted errors apps events made most sent watching more) ≡ 16 + length more
unfolding be16_bytes be32_bytes
payload_long accepted errors apps events made most sent watching more = omega arith

pub returns : goal.returns
unfolding named dictionary hs_rows mm_rows md_rows cs_rows sc_rows lc_rows event_rows is_kind are_choices housekeeping_of
returns c counts apps events made most sent watching rows counters small m x s w many fit time count within few =
    let more = tail_of counters rows in
    let payload = payload_of counts.accepted counts.errors apps events made most sent watching more in
    let long = payload_long counts.accepted counts.errors apps events made most sent watching more in
    let tail_long = counters_long (number_of counters) rows in
    shown_with (codes "hs.housekeeping") (row (codes "hs.housekeeping") hs_housekeeping hs_state_fields) time count payload _ within few record {
      found = refl;
      first = refl;
      called = refl;
      low = omega arith;
      fields = refl;
      few = omega (arith, long, tail_long, many);
      bytes = (
        small.accepted,
        (
          small.errors,
          (
            flag_small apps,
            (
              flag_small events,
              all_append (λ b. b < 256) ((((be16_bytes made ++ be16_bytes most) ++ be16_bytes sent) ++ be16_bytes 0) ++ be32_bytes watching) more
                  (all_append (λ b. b < 256) (((be16_bytes made ++ be16_bytes most) ++ be16_bytes sent) ++ be16_bytes 0) (be32_bytes watching) (told_small made most sent) (bytes32 watching))
                  (counters_small (number_of counters) rows),
            ),
          ),
        ),
      );
      row = header_row all_fields time count payload ∙ whole_row counts.accepted counts.errors apps events made most sent watching more (counters_row (number_of counters) keys rows many);
      values =
          first_numbers time count counts.accepted counts.errors apps events made most sent watching more
          ∙ told_same _ _ _ _ apps events _ _ _ _ _ _ _ _ _ _ _ _ (whole32 time within) (whole16 count (omega (arith, few))) (whole16 made (omega (arith, m))) (whole16 most (omega (arith, x))) (whole16 sent (omega (arith, s))) (whole32 watching w) (counters_numbers (number_of counters) keys rows many fit);
    }
