-- Lemmas on telecommands that are read back.
use Rattle.std.proofs.Common.{◌≡◌, ℕ, ◌+◌, ◌<◌, ◌≤◌, true, false, ◌&&◌, List, [], ◌∷◌, ◌++◌, length, Option, Some, None, refl, ap, sym, subst, ◌∙◌, arith, append-nil}
use Rattle.std.specs.Prelude.{nat_lt, nat_le, if◌then◌else◌, is_none, codes, Ok}
use Rattle.std.specs.List.{list_all, AllByRecursion}
use Rattle.std.proofs.lemmas.Bool.Decides.{nat_tests}
use Rattle.packet_forms.specs.Built.{command_of}
use Rattle.packet_forms.specs.Faults.{fault_of}
use Rattle.packet_forms.specs.Hex.{hex}
use Rattle.packet_forms.specs.Packets.{is_command, payload_of}
use Rattle.packet_forms.proofs.Forms.{packet_of_none}
use Rattle.row_forms.specs.Words.{words}
use Rattle.row_forms.specs.Rows.{behind_key, row_words, row_shown, spaced}
use Rattle.row_forms.proofs.TextLemmas.{IsPlain, IsWord, all_append, spaced_nil, word_alone, words_led}
use Rattle.row_forms.proofs.HexLemmas.{hex_is_bytes, hex_is_plain}
use Rattle.row_forms.proofs.BackLemmas.{all_drop, key_back, key_plain, row_back, row_words_are}
use Rattle.telecommands.specs.declared.command.Command.{Command}
use Rattle.telecommands.specs.Commands.{sent, named_said, whole_packet, packet_said, word_said, command_said, showing, shown_by, command_shown, are_good, are_distinct}
use Rattle.telecommands.proofs.CommandLemmas.{and_both, good_is, shown_is, IsFound, found_is, same_bytes, payload_room}

abbrev AreBytes : List ℕ → Type 0
AreBytes bytes = AllByRecursion (λ b. b < 256) bytes

said_cons : (epoch : Option ℕ) (n : ℕ) (cs : List Command) (w : List ℕ) (ws : List (List ℕ)) → command_said epoch n cs (w ∷ ws) ≡ word_said epoch n cs (behind_key (codes "packet") w) w ws
unfolding command_said
said_cons epoch n cs w ws = refl

front_plain : AllByRecursion IsPlain (codes "packet=")
front_plain = (omega arith, (omega arith, (omega arith, (omega arith, (omega arith, (omega arith, (omega arith, tt)))))))

-- all bytes of a packet say it
bytes_back : (epoch : Option ℕ) (n : ℕ) (cs : List Command) (packet : List ℕ) → AllByRecursion (λ b. b < 256) packet → fault_of packet ≡ None → command_said epoch n cs (words (codes "packet=" ++ hex packet)) ≡ Ok packet
bytes_back epoch n cs packet all faultless =
    let word : IsWord (codes "packet=" ++ hex packet) = (omega arith, all_append IsPlain (codes "packet=") (hex packet) front_plain (hex_is_plain packet)) in
    ap (command_said epoch n cs) (word_alone (codes "packet=" ++ hex packet) word)
    ∙ said_cons epoch n cs (codes "packet=" ++ hex packet) []
    ∙ ap (λ (o : Option (List ℕ)). word_said epoch n cs o (codes "packet=" ++ hex packet) []) (key_back (codes "packet") (hex packet))
    ∙ ap (λ (o : Option (List ℕ)). packet_said n o []) (hex_is_bytes packet all)
    ∙ ap (whole_packet n packet) faultless

no_key : (o : Option (List ℕ)) → is_none o ≡ true → o ≡ None
no_key None e = refl
no_key (Some text) e = absurd (no e) where
  no : false ≡ true → ⊥
  no f = absurd (cc)

sent_is : (c : Command) (payload : List ℕ) → length payload ≤ 248 → sent c (Ok payload) ≡ Ok (command_of c.id c.code payload)
sent_is c payload few = let low : nat_le (length payload) 248 ≡ true = grind (arith, nat_tests) in rw low refl

payload_bytes : (packet : List ℕ) → AllByRecursion (λ b. b < 256) packet → AllByRecursion (λ b. b < 256) (payload_of packet)
unfolding payload_of
payload_bytes packet all = all_drop (λ b. b < 256) (if is_command packet then 8 else 12) packet all

-- the words of a command say the packet that they are shown for
name_back : (epoch : Option ℕ) (n : ℕ) (cs : List Command) (packet : List ℕ) (c : Command) → AllByRecursion (λ b. b < 256) packet → length packet ≤ 256 → IsFound cs packet c → command_said epoch n cs (words (c.name.now ++ row_shown c.fields.now (payload_of packet))) ≡ Ok packet
name_back epoch n cs packet c all short found =
    let good = good_is c found.good in
    let shown = shown_is packet c found.shown in
    let payload = payload_of packet in
    let bytes = payload_bytes packet all in
    let name = and_both (nat_lt 0 (length c.name.now) && list_all (nat_lt 32) c.name.now) (is_none (behind_key (codes "packet") c.name.now)) good.name in
    let text = and_both (nat_lt 0 (length c.name.now)) (list_all (nat_lt 32) c.name.now) name.0 in
    let some = text.0 in
    let word : IsWord c.name.now = (grind (arith, nat_tests, some), key_plain c.name.now text.1) in
    ap (command_said epoch n cs) (words_led c.name.now (row_words c.fields.now payload) word (row_words_are c.fields.now payload good.fields bytes shown.row))
    ∙ said_cons epoch n cs c.name.now (row_words c.fields.now payload)
    ∙ ap (λ (o : Option (List ℕ)). word_said epoch n cs o c.name.now (row_words c.fields.now payload)) (no_key (behind_key (codes "packet") c.name.now) name.1)
    ∙ ap (λ (o : Option Command). named_said epoch n o (row_words c.fields.now payload)) found.name
    ∙ ap (sent c) (row_back epoch (n + 1) c.fields.now payload good.fields bytes shown.row)
    ∙ sent_is c payload (payload_room packet short)
    ∙ ap Ok (same_bytes (command_of c.id c.code payload) packet shown.whole)

-- a text that is one word and others, with a space between
pub record IsSpaced (shown : List ℕ) : Type 0 where
  pub word : List ℕ
  pub more : List (List ℕ)
  pub text : shown ≡ word ++ spaced more
  pub first : IsWord word
  pub all : AllByRecursion IsWord more

bytes_spaced : (packet : List ℕ) → IsSpaced (codes "packet=" ++ hex packet)
bytes_spaced packet = record {
  word = codes "packet=" ++ hex packet;
  more = [];
  text = sym (ap (λ (xs : List ℕ). (codes "packet=" ++ hex packet) ++ xs) spaced_nil ∙ append-nil (codes "packet=" ++ hex packet));
  first = (omega arith, all_append IsPlain (codes "packet=") (hex packet) front_plain (hex_is_plain packet));
  all = tt;
}

name_spaced : (cs : List Command) (packet : List ℕ) (c : Command) → AllByRecursion (λ b. b < 256) packet → IsFound cs packet c → IsSpaced (c.name.now ++ row_shown c.fields.now (payload_of packet))
name_spaced cs packet c all found =
    let good = good_is c found.good in
    let shown = shown_is packet c found.shown in
    let name = and_both (nat_lt 0 (length c.name.now) && list_all (nat_lt 32) c.name.now) (is_none (behind_key (codes "packet") c.name.now)) good.name in
    let text = and_both (nat_lt 0 (length c.name.now)) (list_all (nat_lt 32) c.name.now) name.0 in
    let some = text.0 in
    record {
      word = c.name.now;
      more = row_words c.fields.now (payload_of packet);
      text = refl;
      first = (grind (arith, nat_tests, some), key_plain c.name.now text.1);
      all = row_words_are c.fields.now (payload_of packet) good.fields (payload_bytes packet all) shown.row;
    }

shown_is_by : (cs : List Command) (packet : List ℕ) (o : Option Command) → showing cs packet ≡ o → command_shown cs packet ≡ shown_by o packet
unfolding command_shown
shown_is_by cs packet o e = ap (λ (x : Option Command). shown_by x packet) e

-- the words that a packet is shown by say it
pub command_back : (epoch : Option ℕ) (n : ℕ) (cs : List Command) (packet : List ℕ) → are_good cs ≡ true → are_distinct cs ≡ true → AllByRecursion (λ b. b < 256) packet → fault_of packet ≡ None → command_said epoch n cs (words (command_shown cs packet)) ≡ Ok packet
command_back epoch n cs packet good distinct all faultless = by (showing cs packet) refl where
  by : (o : Option Command) → showing cs packet ≡ o → command_said epoch n cs (words (command_shown cs packet)) ≡ Ok packet
  by None e = ap (λ (xs : List ℕ). command_said epoch n cs (words xs)) (shown_is_by cs packet None e) ∙ bytes_back epoch n cs packet all faultless
  by (Some c) e =
      ap (λ (xs : List ℕ). command_said epoch n cs (words xs)) (shown_is_by cs packet (Some c) e)
      ∙ name_back epoch n cs packet c all (packet_of_none packet faultless).short (found_is cs packet c good distinct e)

-- the words that a packet is shown by stand with a space between
pub command_spaced : (cs : List Command) (packet : List ℕ) → are_good cs ≡ true → are_distinct cs ≡ true → AllByRecursion (λ b. b < 256) packet → IsSpaced (command_shown cs packet)
command_spaced cs packet good distinct all = by (showing cs packet) refl where
  by : (o : Option Command) → showing cs packet ≡ o → IsSpaced (command_shown cs packet)
  by None e = subst IsSpaced (sym (shown_is_by cs packet None e)) (bytes_spaced packet)
  by (Some c) e = subst IsSpaced (sym (shown_is_by cs packet (Some c) e)) (name_spaced cs packet c all (found_is cs packet c good distinct e))
