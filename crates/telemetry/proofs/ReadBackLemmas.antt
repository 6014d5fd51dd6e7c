-- Lemmas on telemetry that are read back.
use Rattle.std.proofs.Common.{◌≡◌, ℕ, zero, suc, ◌+◌, ◌<◌, true, false, ◌&&◌, List, [], ◌∷◌, ◌++◌, length, take, drop, Option, Some, None, refl, ap, ◌∙◌, arith}
use Rattle.std.specs.Prelude.{nat_lt, nat_le, is_none, codes, Ok}
use Rattle.std.specs.List.{list_all, AllByRecursion}
use Rattle.std.proofs.lemmas.Bool.Decides.{nat_tests}
use Rattle.packet_forms.specs.Faults.{fault_of}
use Rattle.packet_forms.specs.Hex.{hex}
use Rattle.packet_forms.specs.Numbers.{be16_at, be16_bytes}
use Rattle.packet_forms.specs.Packets.{sequence_count}
use Rattle.row_forms.specs.Words.{words}
use Rattle.row_forms.specs.Rows.{behind_key, row_words, row_shown}
use Rattle.row_forms.proofs.TextLemmas.{IsPlain, IsWord, all_append, word_alone, words_led}
use Rattle.row_forms.proofs.HexLemmas.{hex_is_bytes, hex_is_plain}
use Rattle.row_forms.proofs.BackLemmas.{all_drop, key_back, key_plain, row_back, row_words_are}
use Rattle.telemetry.specs.declared.row.TelemetryRow.{TelemetryRow}
use Rattle.telemetry.specs.Telemetry.{made, named_said, whole_packet, packet_said, word_said, telemetry_said, content_of, is_content, packet_of, showing, shown_by, telemetry_shown, are_good, are_distinct}
use Rattle.telemetry.proofs.TelemetryLemmas.{and_both, good_is, shown_is, IsFound, found_is, same_bytes}

abbrev AreBytes : List ℕ → Type 0
AreBytes bytes = AllByRecursion (λ b. b < 256) bytes

said_cons : (epoch : Option ℕ) (n : ℕ) (ks : List TelemetryRow) (w : List ℕ) (ws : List (List ℕ)) → telemetry_said epoch n ks (w ∷ ws) ≡ word_said epoch n ks (behind_key (codes "packet") w) w ws
unfolding telemetry_said
said_cons epoch n ks w ws = refl

front_plain : AllByRecursion IsPlain (codes "packet=")
front_plain = (omega arith, (omega arith, (omega arith, (omega arith, (omega arith, (omega arith, (omega arith, tt)))))))

-- all bytes of a packet say it
bytes_back : (epoch : Option ℕ) (n : ℕ) (ks : List TelemetryRow) (packet : List ℕ) → AllByRecursion (λ b. b < 256) packet → fault_of packet ≡ None → telemetry_said epoch n ks (words (codes "packet=" ++ hex packet)) ≡ Ok packet
bytes_back epoch n ks packet all faultless =
    let word : IsWord (codes "packet=" ++ hex packet) = (omega arith, all_append IsPlain (codes "packet=") (hex packet) front_plain (hex_is_plain packet)) in
    ap (telemetry_said epoch n ks) (word_alone (codes "packet=" ++ hex packet) word)
    ∙ said_cons epoch n ks (codes "packet=" ++ hex packet) []
    ∙ ap (λ (o : Option (List ℕ)). word_said epoch n ks o (codes "packet=" ++ hex packet) []) (key_back (codes "packet") (hex packet))
    ∙ ap (λ (o : Option (List ℕ)). packet_said n o []) (hex_is_bytes packet all)
    ∙ ap (whole_packet n packet) faultless

no_key : (o : Option (List ℕ)) → is_none o ≡ true → o ≡ None
no_key None e = refl
no_key (Some text) e = absurd (no e) where
  no : false ≡ true → ⊥
  no f = absurd (cc)

made_is : (k : TelemetryRow) (content : List ℕ) → is_content content ≡ true → made k (Ok content) ≡ Ok (packet_of k.id content)
made_is k content e =
    let x = and_both (nat_le 6 (length content) && nat_le (length content) 250) (nat_le (be16_at content 4) 16383) e in
    let y = and_both (nat_le 6 (length content)) (nat_le (length content) 250) x.0 in
    rw y.1 (rw x.1 refl)

take_bytes : (n : ℕ) (xs : List ℕ) → AllByRecursion (λ b. b < 256) xs → AllByRecursion (λ b. b < 256) (take n xs)
take_bytes zero xs all = tt
take_bytes (suc n) [] all = tt
take_bytes (suc n) (x ∷ xs) all = (all.0, take_bytes n xs all.1)

count_bytes : (n : ℕ) → AllByRecursion (λ b. b < 256) (be16_bytes n)
unfolding be16_bytes
count_bytes n = (omega arith, (omega arith, tt))

content_bytes : (packet : List ℕ) → AllByRecursion (λ b. b < 256) packet → AllByRecursion (λ b. b < 256) (content_of packet)
unfolding content_of
content_bytes packet all =
    all_append (λ b. b < 256) (take 4 (drop 6 packet) ++ be16_bytes (sequence_count packet)) (drop 12 packet)
    (all_append (λ b. b < 256) (take 4 (drop 6 packet)) (be16_bytes (sequence_count packet)) (take_bytes 4 (drop 6 packet) (all_drop (λ b. b < 256) 6 packet all)) (count_bytes (sequence_count packet)))
    (all_drop (λ b. b < 256) 12 packet all)

-- the words of a row say the packet that they are shown for
name_back : (epoch : Option ℕ) (n : ℕ) (ks : List TelemetryRow) (packet : List ℕ) (k : TelemetryRow) → AllByRecursion (λ b. b < 256) packet → IsFound ks packet k → telemetry_said epoch n ks (words (k.name.now ++ row_shown k.fields.now (content_of packet))) ≡ Ok packet
name_back epoch n ks packet k all found =
    let good = good_is k found.good in
    let shown = shown_is packet k found.shown in
    let content = content_of packet in
    let bytes = content_bytes packet all in
    let name = and_both (nat_lt 0 (length k.name.now) && list_all (nat_lt 32) k.name.now) (is_none (behind_key (codes "packet") k.name.now)) good.name in
    let text = and_both (nat_lt 0 (length k.name.now)) (list_all (nat_lt 32) k.name.now) name.0 in
    let some = text.0 in
    let word : IsWord k.name.now = (grind (arith, nat_tests, some), key_plain k.name.now text.1) in
    ap (telemetry_said epoch n ks) (words_led k.name.now (row_words k.fields.now content) word (row_words_are k.fields.now content good.fields bytes shown.row))
    ∙ said_cons epoch n ks k.name.now (row_words k.fields.now content)
    ∙ ap (λ (o : Option (List ℕ)). word_said epoch n ks o k.name.now (row_words k.fields.now content)) (no_key (behind_key (codes "packet") k.name.now) name.1)
    ∙ ap (λ (o : Option TelemetryRow). named_said epoch n o (row_words k.fields.now content)) found.name
    ∙ ap (made k) (row_back epoch (n + 1) k.fields.now content good.fields bytes shown.row)
    ∙ made_is k content shown.content
    ∙ ap Ok (same_bytes (packet_of k.id content) packet shown.whole)

shown_is_by : (ks : List TelemetryRow) (packet : List ℕ) (o : Option TelemetryRow) → showing ks packet ≡ o → telemetry_shown ks packet ≡ shown_by o packet
unfolding telemetry_shown
shown_is_by ks packet o e = ap (λ (x : Option TelemetryRow). shown_by x packet) e

-- the words that a packet is shown by say it
pub telemetry_back : (epoch : Option ℕ) (n : ℕ) (ks : List TelemetryRow) (packet : List ℕ) → are_good ks ≡ true → are_distinct ks ≡ true → AllByRecursion (λ b. b < 256) packet → fault_of packet ≡ None → telemetry_said epoch n ks (words (telemetry_shown ks packet)) ≡ Ok packet
telemetry_back epoch n ks packet good distinct all faultless = by (showing ks packet) refl where
  by : (o : Option TelemetryRow) → showing ks packet ≡ o → telemetry_said epoch n ks (words (telemetry_shown ks packet)) ≡ Ok packet
  by None e = ap (λ (xs : List ℕ). telemetry_said epoch n ks (words xs)) (shown_is_by ks packet None e) ∙ bytes_back epoch n ks packet all faultless
  by (Some k) e =
      ap (λ (xs : List ℕ). telemetry_said epoch n ks (words xs)) (shown_is_by ks packet (Some k) e)
      ∙ name_back epoch n ks packet k all (found_is ks packet k good distinct e)
