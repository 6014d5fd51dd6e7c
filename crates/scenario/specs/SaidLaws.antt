-- What a good line has said: its place, and the numbers that are bounded.
use Rattle.std.proofs.Common.{◌≡◌, ℕ, ◌≤◌, Bool, true, false, nat_le, ◌==◌, if◌then◌else◌, List, [], ◌∷◌, slice_index, Option, Some, None, Result, Ok, Err, refl, subst, arith}
use Rattle.std.proofs.lemmas.Bool.Decides.{nat_tests}
use Rattle.scenario.specs.declared.reason.Reason.{Reason}
use Rattle.scenario.specs.declared.reason.Reason.TheVariants as reasons
use Rattle.scenario.specs.declared.sentence.Place.{Place}
use Rattle.scenario.specs.declared.sentence.Sentence.{Sentence}
use Rattle.scenario.specs.declared.sentence.Sentence.TheVariants as says
use Rattle.scenario.specs.declared.sentence.Verb.{Verb}
use Rattle.scenario.specs.declared.sentence.Verb.TheVariants as verbs
use Rattle.scenario.specs.Words.{words, number, any_number, at_most, hex, name_said, app_of, kind_of}
use Rattle.scenario.specs.Sentences.{◌>>=◌, or_bad, largest, stands_at, placed, verb_of, verb_at, verb_said, packet_of, none, one, two, three, number_or_bad, epoch_line, region_line, send_line, app_line, upset_line, hold_line, activate_line, bare_line, sentence_of, said, line_says}

-- the epoch is bounded
abbrev pub IsBounded : Sentence → Type 0
IsBounded (says.Epoch n) = n ≤ 4294000000
IsBounded _ = Unit {0}

-- what a kind of line has said
abbrev pub SaysAs : Verb → Sentence → Type 0
SaysAs verb s = (verb_said s ≡ verb) × IsBounded s

then_ok : {A B : Type 0} (r : Result A Reason) (f : A → Result B Reason) (b : B) → (r >>= f) ≡ Ok b → (a : A) × (r ≡ Ok a) × (f a ≡ Ok b)
then_ok (Ok a) f b e = (a, refl, e)
then_ok (Err reason) f b e = absurd (cc)

at_most_is : (most : ℕ) (o : Option ℕ) (n : ℕ) → or_bad reasons.Number (elim o [ None ↦ None | Some m ↦ at_most most m ]) ≡ Ok n → n ≤ most
at_most_is most None n e = absurd (cc)
at_most_is most (Some m) n e = within (nat_le m most) refl e where
  within : (b : Bool) → nat_le m most ≡ b → or_bad reasons.Number (if b then Some m else None) ≡ Ok n → n ≤ most
  within true h e = let same : m ≡ n = cc in rw (← same) (grind (arith, nat_tests))
  within false h e = absurd (cc)

number_bounded : (most : ℕ) (word : List ℕ) (n : ℕ) → number_or_bad most word ≡ Ok n → n ≤ most
unfolding number_or_bad number
number_bounded most word n e = at_most_is most (any_number word) n e

ok_is : {A : Type 0} (a b : A) → (let x : Result A Reason = Ok a in x) ≡ Ok b → a ≡ b
ok_is a b e = cc

says_epoch : (others : List (List ℕ)) (s : Sentence) → epoch_line others ≡ Ok s → SaysAs verbs.Epoch s
unfolding epoch_line
says_epoch others s e =
    let w = then_ok (one others) (λ word. number_or_bad 4294000000 word >>= (λ time. Ok (says.Epoch time))) s e in
    let n = then_ok (number_or_bad 4294000000 w.0) (λ time. Ok (says.Epoch time)) s w.2 in
    subst (SaysAs verbs.Epoch) (ok_is (says.Epoch n.0) s n.2) (refl, number_bounded 4294000000 w.0 n.0 n.1)

says_region : (others : List (List ℕ)) (s : Sentence) → region_line others ≡ Ok s → SaysAs verbs.Region s
unfolding region_line
says_region others s e =
    let w = then_ok (three others) (λ ws. or_bad reasons.Word (kind_of ws.0) >>= (λ kind. number_or_bad largest ws.1 >>= (λ start. number_or_bad largest ws.2 >>= (λ len. Ok (says.Region (record { kind = kind; start = start; len = len })))))) s e in
    let k = then_ok (or_bad reasons.Word (kind_of w.0.0)) (λ kind. number_or_bad largest w.0.1 >>= (λ start. number_or_bad largest w.0.2 >>= (λ len. Ok (says.Region (record { kind = kind; start = start; len = len }))))) s w.2 in
    let a = then_ok (number_or_bad largest w.0.1) (λ start. number_or_bad largest w.0.2 >>= (λ len. Ok (says.Region (record { kind = k.0; start = start; len = len })))) s k.2 in
    let b = then_ok (number_or_bad largest w.0.2) (λ len. Ok (says.Region (record { kind = k.0; start = a.0; len = len }))) s a.2 in
    subst (SaysAs verbs.Region) (ok_is (says.Region (record { kind = k.0; start = a.0; len = b.0 })) s b.2) (refl, tt)

says_send : (others : List (List ℕ)) (s : Sentence) → send_line others ≡ Ok s → SaysAs verbs.Send s
unfolding send_line
says_send others s e =
    let w = then_ok (one others) (λ word. or_bad reasons.Packet (hex word) >>= (λ bytes. packet_of bytes >>= (λ packet. Ok (says.Send packet)))) s e in
    let b = then_ok (or_bad reasons.Packet (hex w.0)) (λ bytes. packet_of bytes >>= (λ packet. Ok (says.Send packet))) s w.2 in
    let p = then_ok (packet_of b.0) (λ packet. Ok (says.Send packet)) s b.2 in
    subst (SaysAs verbs.Send) (ok_is (says.Send p.0) s p.2) (refl, tt)

says_app : (others : List (List ℕ)) (s : Sentence) → app_line others ≡ Ok s → SaysAs verbs.App s
unfolding app_line
says_app others s e =
    let w = then_ok (two others) (λ ws. or_bad reasons.Word (name_said ws.0) >>= (λ name. number_or_bad largest ws.1 >>= (λ value. Ok (says.Count (record { name = name; value = value }))))) s e in
    let n = then_ok (or_bad reasons.Word (name_said w.0.0)) (λ name. number_or_bad largest w.0.1 >>= (λ value. Ok (says.Count (record { name = name; value = value })))) s w.2 in
    let v = then_ok (number_or_bad largest w.0.1) (λ value. Ok (says.Count (record { name = n.0; value = value }))) s n.2 in
    subst (SaysAs verbs.App) (ok_is (says.Count (record { name = n.0; value = v.0 })) s v.2) (refl, tt)

says_upset : (others : List (List ℕ)) (s : Sentence) → upset_line others ≡ Ok s → SaysAs verbs.Upset s
unfolding upset_line
says_upset others s e =
    let w = then_ok (two others) (λ ws. number_or_bad largest ws.0 >>= (λ at. number_or_bad 255 ws.1 >>= (λ value. Ok (says.Upset (record { at = at; value = value }))))) s e in
    let a = then_ok (number_or_bad largest w.0.0) (λ at. number_or_bad 255 w.0.1 >>= (λ value. Ok (says.Upset (record { at = at; value = value })))) s w.2 in
    let v = then_ok (number_or_bad 255 w.0.1) (λ value. Ok (says.Upset (record { at = a.0; value = value }))) s a.2 in
    subst (SaysAs verbs.Upset) (ok_is (says.Upset (record { at = a.0; value = v.0 })) s v.2) (refl, tt)

says_hold : (others : List (List ℕ)) (s : Sentence) → hold_line others ≡ Ok s → SaysAs verbs.Hold s
unfolding hold_line
says_hold others s e =
    let w = then_ok (one others) (λ word. or_bad reasons.Word (app_of word) >>= (λ app. Ok (says.Hold app))) s e in
    let a = then_ok (or_bad reasons.Word (app_of w.0)) (λ app. Ok (says.Hold app)) s w.2 in
    subst (SaysAs verbs.Hold) (ok_is (says.Hold a.0) s a.2) (refl, tt)

says_activate : (others : List (List ℕ)) (s : Sentence) → activate_line others ≡ Ok s → SaysAs verbs.Activate s
unfolding activate_line
says_activate others s e =
    let w = then_ok (one others) (λ word. number_or_bad largest word >>= (λ file. Ok (says.Activate file))) s e in
    let n = then_ok (number_or_bad largest w.0) (λ file. Ok (says.Activate file)) s w.2 in
    subst (SaysAs verbs.Activate) (ok_is (says.Activate n.0) s n.2) (refl, tt)

says_bare : (verb : Verb) (bare s : Sentence) (others : List (List ℕ)) → SaysAs verb bare → bare_line bare others ≡ Ok s → SaysAs verb s
says_bare verb bare s others h e = let w = then_ok (none others) (λ _. Ok bare) s e in subst (SaysAs verb) (ok_is bare s w.2) h

says_as : (verb : Verb) (others : List (List ℕ)) (s : Sentence) → sentence_of verb others ≡ Ok s → SaysAs verb s
unfolding sentence_of
says_as verbs.Epoch others s e = says_epoch others s e
says_as verbs.Region others s e = says_region others s e
says_as verbs.Start others s e = says_bare verbs.Start says.Start s others (refl, tt) e
says_as verbs.Send others s e = says_send others s e
says_as verbs.App others s e = says_app others s e
says_as verbs.Upset others s e = says_upset others s e
says_as verbs.Hold others s e = says_hold others s e
says_as verbs.Activate others s e = says_activate others s e
says_as verbs.Tick others s e = says_bare verbs.Tick says.Tick s others (refl, tt) e
says_as verbs.End others s e = says_bare verbs.End says.End s others (refl, tt) e

placed_ok : (b : Bool) (verb found : Verb) → (if b then (let x : Result Verb Reason = Ok verb in x) else Err reasons.Word) ≡ Ok found → (b ≡ true) × (verb ≡ found)
placed_ok true verb found e = (refl, ok_is verb found e)
placed_ok false verb found e = absurd (cc)

stands_verb : (place : Place) (word : List ℕ) (found : Verb) → verb_at place word ≡ Ok found → stands_at place found ≡ true
unfolding verb_at
stands_verb place word found e =
    let v = then_ok (or_bad reasons.Word (verb_of word)) (placed place) found e in
    let p = placed_ok (stands_at place v.0) v.0 found v.2 in
    subst (λ x. stands_at place x ≡ true) p.1 p.0

-- what a line has said
pub record IsSaid (place : Place) (s : Sentence) : Type 0 where
  pub placed : stands_at place (verb_said s) ≡ true
  pub bounded : IsBounded s

said_words : (place : Place) (b : Bool) (first : List ℕ) (others : List (List ℕ)) (s : Sentence) → slice_index first 0 == 35 ≡ b → said place (first ∷ others) ≡ Ok (Some s) → IsSaid place s
unfolding said
said_words place true first others s h e = absurd (let k = rw h at e in cc)
said_words place false first others s h e =
    let k = rw h at e in
    let v = then_ok (verb_at place first) (λ verb. sentence_of verb others >>= (λ sentence. Ok (Some sentence))) (Some s) k in
    let w = then_ok (sentence_of v.0 others) (λ sentence. Ok (Some sentence)) (Some s) v.2 in
    let same : w.0 ≡ s = cc in
    let how = subst (SaysAs v.0) same (says_as v.0 others w.0 w.1) in
    record { placed = rw how.0 (stands_verb place first v.0 v.1); bounded = how.1 }

said_is : (place : Place) (ws : List (List ℕ)) (s : Sentence) → said place ws ≡ Ok (Some s) → IsSaid place s
unfolding said
said_is place [] s e = absurd (cc)
said_is place (first ∷ others) s e = said_words place (slice_index first 0 == 35) first others s refl e

-- a sentence that a line says stands at its place, and its numbers are bounded
pub line_said : (place : Place) (line : List ℕ) (s : Sentence) → line_says place line ≡ Ok (Some s) → IsSaid place s
unfolding line_says
line_said place line s e = said_is place (words line) s e
