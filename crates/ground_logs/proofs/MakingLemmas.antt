-- Lemmas on logs that are made into something as they come.
use Rattle.std.proofs.Common.{◌≡◌, ℕ, ◌+◌, Bool, true, false, ◌&&◌, List, [], ◌∷◌, ◌++◌, length, take, drop, Option, Some, None, Result, Ok, Err, refl, ap, sym, ◌∙◌, subst, arith, ◌≤◌, ◌-◌, length-drop, append_assoc, append-nil}
use Rattle.std.specs.Prelude.{IfOk}
use Rattle.std.specs.List.{AllZip}
use Rattle.std.specs.Io.KnownBytes.{Appends, Consumes, IsAtEnd}
use Rattle.std.proofs.KnownBytes.{Appends-nil, Appends-trans, Consumes-trans}
use Rattle.std.proofs.lemmas.List.Folds.{concat-append}
use Rattle.std.proofs.lemmas.List.{take_all}
use Rattle.std.proofs.Math.Seq.{take-add}
use Rattle.log_lines.specs.declared.line.LogLine.{LogLine}
use Rattle.log_lines.specs.declared.fault.LogFault.{LogFault}
use Rattle.log_lines.specs.Logs.{Said, log_said, cut_in, Stands as ReaderStands}
use Rattle.log_lines.proofs.LogLemmas.{gave_all}
use Rattle.ground_logs.specs.declared.log_maker.LogMaker.{LogMaker}
use Rattle.ground_logs.specs.Making.{good_lines, lines_of, are_good, is_log, AreMade, Stands, Takes, Appended, Writes, IsWritten, IsMadeOf}

pub good_lines_behind : (said given : List Said) → good_lines (said ++ given) ≡ good_lines said ++ good_lines given
good_lines_behind [] given = refl
good_lines_behind (Ok line ∷ said) given = ap (λ (lines : List LogLine). line ∷ lines) (good_lines_behind said given)
good_lines_behind (Err fault ∷ said) given = good_lines_behind said given

pub are_good_behind : (said given : List Said) → are_good (said ++ given) ≡ (are_good said && are_good given)
are_good_behind [] given = refl
are_good_behind (Ok line ∷ said) given = are_good_behind said given
are_good_behind (Err fault ∷ said) given = refl

zip_behind : {A B : Type 0} (R : A → B → Type 0) (xs us : List A) (ys vs : List B) → AllZip R xs ys → AllZip R us vs → AllZip R (xs ++ us) (ys ++ vs)
zip_behind R [] us [] vs h k = k
zip_behind R [] us (y ∷ ys) vs h k = absurd h
zip_behind R (x ∷ xs) us [] vs h k = absurd h
zip_behind R (x ∷ xs) us (y ∷ ys) vs h k = (h.0, zip_behind R xs us ys vs h.1 k)

-- what is made of lines and of those behind them
pub made_behind : (makes : LogLine → List ℕ → Type 0) (xs us : List LogLine) (bytes more : List ℕ)
    → AreMade makes xs bytes → AreMade makes us more → AreMade makes (xs ++ us) (bytes ++ more)
made_behind makes xs us bytes more h k = record {
  parts = h.parts ++ k.parts;
  each = zip_behind makes xs us h.parts k.parts h.each k.each;
  whole = rw (h.whole, k.whole) (sym (concat-append h.parts k.parts));
}

made_none : (makes : LogLine → List ℕ → Type 0) → AreMade makes [] []
made_none makes = record { parts = []; each = tt; whole = refl }

made_one : (makes : LogLine → List ℕ → Type 0) (line : LogLine) (bytes : List ℕ) → makes line bytes → AreMade makes (line ∷ []) bytes
made_one makes line bytes h = record { parts = bytes ∷ []; each = (h, tt); whole = sym (append-nil bytes) }

-- what the reader gave goes on behind the lines so far
lines_behind : (reader-text taken : List ℕ) (given : List Said) → log_said reader-text ++ given ≡ log_said (reader-text ++ taken)
    → lines_of (reader-text ++ taken) ≡ lines_of reader-text ++ good_lines given
unfolding lines_of
lines_behind text taken given gave = rw (sym gave) (good_lines_behind (log_said text) given)

-- a maker goes on by what its reader gave of the bytes that came
stands_on : {M : Type 0} (makes : M → LogLine → List ℕ → Type 0) (old new : LogMaker M) (text bytes taken more : List ℕ) (given : List Said)
    → new.maker ≡ old.maker → new.is_whole ≡ (old.is_whole && are_good given) → Stands makes old text bytes
    → ReaderStands new.reader (text ++ taken) (log_said text ++ given) → AreMade (makes old.maker) (good_lines given) more
    → Stands makes new (text ++ taken) (bytes ++ more)
stands_on makes old new text bytes taken more given keeps whole stands reader made =
    let gave : log_said text ++ given ≡ log_said (text ++ taken) = gave_all new.reader (text ++ taken) (log_said text ++ given) reader in
    record {
      reader = subst (λ said. ReaderStands new.reader (text ++ taken) said) gave reader;
      made = subst (λ m. AreMade (makes m) (lines_of (text ++ taken)) (bytes ++ more)) (sym keeps)
          (subst (λ lines. AreMade (makes old.maker) lines (bytes ++ more)) (sym (lines_behind text taken given gave))
          (made_behind (makes old.maker) (lines_of text) (good_lines given) bytes more stands.made made));
      whole = whole ∙ ap (λ b. b && are_good given) stands.whole ∙ sym (are_good_behind (log_said text) given) ∙ ap are_good gave;
    }

-- nothing came
pub stands_none : {M : Type 0} (makes : M → LogLine → List ℕ → Type 0) (m : LogMaker M) → ReaderStands m.reader [] [] → m.is_whole ≡ true
    → Stands makes m [] []
unfolding lines_of
stands_none makes m reader whole =
    let none : [] ≡ log_said [] = gave_all m.reader [] [] reader in
    record {
      reader = subst (λ said. ReaderStands m.reader [] said) none reader;
      made = subst (λ said. AreMade (makes m.maker) (good_lines said) []) none (made_none (makes m.maker));
      whole = whole ∙ ap are_good none;
    }

-- the reader gave no line that is the log's
pub takes_nothing : {M : Type 0} (makes : M → LogLine → List ℕ → Type 0) (old new : LogMaker M) (taken out : List ℕ) (given : List Said)
    → new.maker ≡ old.maker → new.is_whole ≡ (old.is_whole && are_good given)
    → ((text : List ℕ) (gave : List Said) → ReaderStands old.reader text gave → ReaderStands new.reader (text ++ taken) (gave ++ given))
    → [] ≡ good_lines given → Appended makes old new taken out out
takes_nothing makes old new taken out given keeps whole feeds none = record {
  more = [];
  whole = sym (append-nil out);
  takes = record {
    stands = λ text bytes s. stands_on makes old new text bytes taken [] given keeps whole s (feeds text (log_said text) s.reader)
        (subst (λ lines. AreMade (makes old.maker) lines []) none (made_none (makes old.maker)));
    maker = keeps;
  };
}

-- the reader gave a line, of which this was made
pub takes_line : {M : Type 0} (makes : M → LogLine → List ℕ → Type 0) (old new : LogMaker M) (taken before after : List ℕ) (line : LogLine)
    → new.maker ≡ old.maker → new.is_whole ≡ (old.is_whole && true)
    → ((text : List ℕ) (gave : List Said) → ReaderStands old.reader text gave → ReaderStands new.reader (text ++ taken) (gave ++ Ok line ∷ []))
    → ((made : List ℕ) × (after ≡ before ++ made) × makes old.maker line made) → Appended makes old new taken before after
takes_line makes old new taken before after line keeps whole feeds made = record {
  more = made.0;
  whole = made.1;
  takes = record {
    stands = λ text bytes s. stands_on makes old new text bytes taken made.0 (Ok line ∷ []) keeps whole s (feeds text (log_said text) s.reader)
        (made_one (makes old.maker) line made.0 made.2);
    maker = keeps;
  };
}

-- a maker that takes bytes, and then others
pub takes_on : {M : Type 0} (makes : M → LogLine → List ℕ → Type 0) (a b c : LogMaker M) (taken next made more : List ℕ)
    → Takes makes a b taken made → Takes makes b c next more → Takes makes a c (taken ++ next) (made ++ more)
takes_on makes a b c taken next made more h k = record {
  stands = λ text bytes s.
      subst (λ xs. Stands makes c xs (bytes ++ (made ++ more))) (append_assoc text taken next)
      (subst (λ ys. Stands makes c ((text ++ taken) ++ next) ys) (append_assoc bytes made more)
      (k.stands (text ++ taken) (bytes ++ made) (h.stands text bytes s)));
  maker = k.maker ∙ h.maker;
}

-- a maker that takes nothing
pub takes_none : {M : Type 0} (makes : M → LogLine → List ℕ → Type 0) (m : LogMaker M) → Takes makes m m [] []
takes_none makes m = record {
  stands = λ text bytes s.
      subst (λ xs. Stands makes m xs (bytes ++ [])) (sym (append-nil text))
      (subst (λ ys. Stands makes m text ys) (sym (append-nil bytes)) s);
  maker = refl;
}

-- what was appended of nothing
pub appended_none : {M : Type 0} (makes : M → LogLine → List ℕ → Type 0) (m : LogMaker M) (out : List ℕ) → Appended makes m m [] out out
appended_none makes m out = record { more = []; whole = sym (append-nil out); takes = takes_none makes m }

-- what was appended of two parts of a piece
pub appended_on : {M : Type 0} (makes : M → LogLine → List ℕ → Type 0) (a b c : LogMaker M) (piece rest first second third : List ℕ) (n m : ℕ)
    → rest ≡ drop n piece → Appended makes a b (take n piece) first second → Appended makes b c (take m rest) second third
    → Appended makes a c (take (n + m) piece) first third
appended_on makes a b c piece rest first second third n m is h k = record {
  more = h.more ++ k.more;
  whole = k.whole ∙ ap (λ xs. xs ++ k.more) h.whole ∙ append_assoc first h.more k.more;
  takes = subst (λ xs. Takes makes a c xs (h.more ++ k.more)) (ap (λ xs. take n piece ++ take m xs) is ∙ sym (take-add n m piece))
      (takes_on makes a b c (take n piece) (take m rest) h.more k.more h.takes k.takes);
}

-- a part of what is behind a part fits
pub part_fits : (piece rest : List ℕ) (n m : ℕ) → n ≤ length piece → rest ≡ drop n piece → m ≤ length rest → n + m ≤ length piece
part_fits piece rest n m fits is some =
    let size : length rest ≡ length piece - n = rw is (length-drop n piece) in
    omega (arith, fits, size, some)

pub and_true : (b : Bool) → b ≡ (b && true)
and_true true = refl
and_true false = refl

pub and_false : (b : Bool) → false ≡ (b && false)
and_false true = refl
and_false false = refl

-- ---- what is written

-- nothing is written of nothing
pub writes_none : {M : Type 0} (makes : M → LogLine → List ℕ → Type 0) (m : LogMaker M) (out : Option (List ℕ)) → Writes makes m m [] out out
writes_none makes m out = record { more = []; takes = takes_none makes m; written = Appends-nil out }

-- what was appended to an empty list was written
pub writes_appended : {M : Type 0} (makes : M → LogLine → List ℕ → Type 0) (a b : LogMaker M) (taken start made bytes : List ℕ) (before after : Option (List ℕ))
    → start ≡ [] → bytes ≡ made → Appended makes a b taken start made → Appends before after bytes → Writes makes a b taken before after
writes_appended makes a b taken start made bytes before after empty is h w = record {
  more = h.more;
  takes = h.takes;
  written = subst (λ xs. Appends before after xs) (is ∙ h.whole ∙ ap (λ xs. xs ++ h.more) empty) w;
}

-- what is written of two parts
pub writes_on : {M : Type 0} (makes : M → LogLine → List ℕ → Type 0) (a b c : LogMaker M) (taken next : List ℕ) (first second third : Option (List ℕ))
    → Writes makes a b taken first second → Writes makes b c next second third → Writes makes a c (taken ++ next) first third
writes_on makes a b c taken next first second third h k = record {
  more = h.more ++ k.more;
  takes = takes_on makes a b c taken next h.more k.more h.takes k.takes;
  written = Appends-trans first second third h.more k.more h.written k.written;
}

-- what is written of two parts of a piece
pub writes_parts : {M : Type 0} (makes : M → LogLine → List ℕ → Type 0) (a b c : LogMaker M) (piece rest : List ℕ) (first second third : Option (List ℕ)) (n m : ℕ)
    → rest ≡ drop n piece → Writes makes a b (take n piece) first second → Writes makes b c (take m rest) second third
    → Writes makes a c (take (n + m) piece) first third
writes_parts makes a b c piece rest first second third n m is h k =
    subst (λ xs. Writes makes a c xs first third) (ap (λ xs. take n piece ++ take m xs) is ∙ sym (take-add n m piece))
    (writes_on makes a b c (take n piece) (take m rest) first second third h k)

-- a maker of which nothing was written yet
pub written_none : {M : Type 0} (makes : M → LogLine → List ℕ → Type 0) (m : LogMaker M) (out : Option (List ℕ)) → Stands makes m [] []
    → IsWritten makes m [] out out
written_none makes m out stands = record { bytes = []; stands = stands; written = Appends-nil out }

-- a maker of which more is written
pub written_on : {M : Type 0} (makes : M → LogLine → List ℕ → Type 0) (a b : LogMaker M) (text taken : List ℕ) (first second third : Option (List ℕ))
    → IsWritten makes a text first second → Writes makes a b taken second third → IsWritten makes b (text ++ taken) first third
written_on makes a b text taken first second third h k = record {
  bytes = h.bytes ++ k.more;
  stands = k.takes.stands text h.bytes h.stands;
  written = Appends-trans first second third h.bytes k.more h.written k.written;
}

some_is : (xs ys : List ℕ) → Some xs ≡ Some ys → xs ≡ ys
some_is xs ys is = cc

-- a reader at its end has given all of its text
pub read_all : (old new : Option (List ℕ)) (given text : List ℕ) → Consumes old new given → IsAtEnd new → old ≡ Some text → given ≡ text
read_all None new given text takes end is = let wrong : ⊥ = cc in absurd wrong
read_all (Some xs) None given text takes end is = absurd takes
read_all (Some xs) (Some ys) given text takes end is = sym (append-nil given) ∙ ap (λ l. given ++ l) (sym end) ∙ sym takes ∙ some_is xs text is

-- what was written of a whole text
pub made_of : {M : Type 0} (makes : M → LogLine → List ℕ → Type 0) (m : LogMaker M) (maker : M) (given text : List ℕ) (said : Bool) (before after : Option (List ℕ))
    → IsWritten makes m given before after → m.maker ≡ maker → given ≡ text → ((xs bytes : List ℕ) → Stands makes m xs bytes → said ≡ is_log xs)
    → IsMadeOf (makes maker) text said before after
made_of makes m maker given text said before after h keeps is ends = record {
  bytes = h.bytes;
  made = subst (λ x. AreMade (makes x) (lines_of text) h.bytes) keeps (subst (λ xs. AreMade (makes m.maker) (lines_of xs) h.bytes) is h.stands.made);
  written = h.written;
  whole = ends given h.bytes h.stands ∙ ap is_log is;
}

-- a last line that is cut off
pub cut_is_none : {M : Type 0} (makes : M → LogLine → List ℕ → Type 0) (m : LogMaker M) (text bytes : List ℕ) (f : LogFault) → Stands makes m text bytes
    → Some f ≡ cut_in text → false ≡ is_log text
unfolding is_log
cut_is_none makes m text bytes f s cut = rw (sym cut) (and_false (are_good (log_said text)))

-- no last line is cut off
pub whole_is_log : {M : Type 0} (makes : M → LogLine → List ℕ → Type 0) (m : LogMaker M) (text bytes : List ℕ) → Stands makes m text bytes
    → None ≡ cut_in text → m.is_whole ≡ is_log text
unfolding is_log
whole_is_log makes m text bytes s cut = rw (sym cut) (s.whole ∙ and_true (are_good (log_said text)))

-- nothing is behind a text where nothing was read
no_more : (count : ℕ) (piece text : List ℕ) → count ≡ 0 → text ++ take count piece ≡ text
no_more count piece text none = rw none (append-nil text)

-- at the end of a reader what was made of all that it gave was made of its text
pub all_made : {M E : Type 0} (makes : M → LogLine → List ℕ → Type 0) (result : Result Bool E) (m : LogMaker M) (maker : M)
    (old now : Option (List ℕ)) (given : List ℕ) (before after : Option (List ℕ)) → Consumes old now given → IsAtEnd now → m.maker ≡ maker
    → IsWritten makes m given before after → IfOk result (λ whole. (text bytes : List ℕ) → Stands makes m text bytes → whole ≡ is_log text)
    → IfOk result (λ whole. (text : List ℕ) → old ≡ Some text → IsMadeOf (makes maker) text whole before after)
all_made makes (Ok whole) m maker old now given before after takes end keeps written ends =
    λ text is. made_of makes m maker given text whole before after written keeps (read_all old now given text takes end is) ends
all_made makes (Err fault) m maker old now given before after takes end keeps written ends = tt

-- a part that is the whole
pub writes_whole : {M : Type 0} (makes : M → LogLine → List ℕ → Type 0) (a b : LogMaker M) (piece : List ℕ) (n : ℕ) (before after : Option (List ℕ))
    → length piece ≤ n → Writes makes a b (take n piece) before after → Writes makes a b piece before after
writes_whole makes a b piece n before after all h = subst (λ xs. Writes makes a b xs before after) (take_all n piece all) h

-- a reader gives more
pub reads_on : (a b c : Option (List ℕ)) (text read taken : List ℕ) → taken ≡ read → Consumes a b text → Consumes b c read → Consumes a c (text ++ taken)
reads_on a b c text read taken is h k = rw is (Consumes-trans a b c text read h k)

-- a reader gives nothing more
pub reads_end : (a b c : Option (List ℕ)) (text piece : List ℕ) (count : ℕ) → count ≡ 0 → Consumes a b text → Consumes b c (take count piece) → Consumes a c text
reads_end a b c text piece count none h k = subst (λ xs. Consumes a c xs) (no_more count piece text none) (Consumes-trans a b c text (take count piece) h k)
