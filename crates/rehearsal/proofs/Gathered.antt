-- What the FILEs taken so far come to with one more.
use Rattle.std.proofs.Common.{◌≡◌, ℕ, Bool, suc, ◌+◌, ◌-◌, ◌<◌, List, [], ◌∷◌, ◌++◌, length, map, take, refl, sym, ◌∙◌, ap, subst, arith, length-append, add-zero, add-one, slice_index_or, Option, Some, None, Err}
use Rattle.std.proofs.Math.ListN.{get_or-append}
use Rattle.std.proofs.Math.Seq.{take-suc, get_or-append_seam}
use Rattle.std.proofs.lemmas.List.{map-append, take_all}
use Rattle.fsw_outside.specs.Files.{Stored, Content, file_named}
use Rattle.rehearsal.specs.Files.{AsksFor, OpensOnce, noted_name, Refusal, refused_or, refusal_of, refused_from, first_refusal, AreTaken, EndsAtFile, stop_report, Takes}
use Rattle.rehearsal.specs.declared.files.Stop.{Stop}
use Rattle.rehearsal.specs.declared.files.Stop.TheVariants as stops

-- none of the first files is refused where no file is
pub none_before : (n : ℕ) (reason : Option ℕ) (behind : Option Refusal) → refused_or n reason behind ≡ None → (reason ≡ None) × (behind ≡ None)
none_before n None behind none = (refl, none)
none_before n (Some reason) behind none = cc

-- with one file more it is that file alone that may be refused
refusal_more : (n : ℕ) (files : List (List ℕ)) (file : List ℕ) → refused_from n files ≡ None → refused_from n (files ++ file ∷ []) ≡ refused_or (n + length files) (refusal_of file) None
unfolding refused_from
refusal_more n [] file none = rw (add-zero n) refl
refusal_more n (first ∷ files) file none =
    let parts = none_before n (refusal_of first) (refused_from (n + 1) files) none in
    let size : n + 1 + length files ≡ n + suc (length files) = omega arith in
    rw parts.0 (refusal_more (n + 1) files file parts.1 ∙ ap (λ (k : ℕ). refused_or k (refusal_of file) None) size)

-- the file behind those that were taken
first_more : (files : List (List ℕ)) (file : List ℕ) (reason : Option ℕ) → first_refusal files ≡ None → refusal_of file ≡ reason
    → first_refusal (files ++ file ∷ []) ≡ refused_or (length files + 1) reason None
unfolding first_refusal
first_more files file reason none is =
    let size : 1 + length files ≡ length files + 1 = omega arith in
    refusal_more 1 files file none ∙ ap (λ (n : ℕ). refused_or n (refusal_of file) None) size ∙ ap (λ (r : Option ℕ). refused_or (length files + 1) r None) is

-- no FILE at all
pub taken_none : (stored : List Stored) (names files : List (List ℕ)) → files ≡ [] → AreTaken stored (take (length files) names) files
unfolding first_refusal refused_from
taken_none stored names files none = rw none (record { named = refl; taken = refl })

-- the names so far with one more
named_more : (stored : List Stored) (names files : List (List ℕ)) (file : List ℕ) → length files < length names → map (file_named stored) (take (length files) names) ≡ map Some files
    → file_named stored (slice_index_or names (length files) []) ≡ Some file → map (file_named stored) (take (length files + 1) names) ≡ map Some (files ++ file ∷ [])
named_more stored names files file within named is =
    let n = length files in
    ap (λ (k : ℕ). map (file_named stored) (take k names)) (add-one n) ∙ ap (map (file_named stored)) (take-suc names n [] within)
    ∙ map-append (file_named stored) (take n names) (slice_index_or names n [] ∷ [])
    ∙ (λ i. named i ++ is i ∷ [])
    ∙ sym (map-append Some files (file ∷ []))

-- one FILE more is taken
pub taken_more : (stored : List Stored) (names files now : List (List ℕ)) (file : List ℕ) → length files < length names → AreTaken stored (take (length files) names) files
    → file_named stored (slice_index_or names (length files) []) ≡ Some file → refusal_of file ≡ None → now ≡ files ++ file ∷ [] → AreTaken stored (take (length now) names) now
taken_more stored names files now file within taken is good grown =
    let size : length now ≡ length files + 1 = omega (arith, ap length grown, length-append files (file ∷ [])) in
    rw (size, grown) (record { named = named_more stored names files file within taken.named is; taken = first_more files file None taken.taken good })

-- all FILEs were taken
pub taken_all : (stored : List Stored) (names files : List (List ℕ)) → length files ≡ length names → AreTaken stored (take (length files) names) files → AreTaken stored names files
taken_all stored names files all taken = subst (λ (front : List (List ℕ)). AreTaken stored front files) (ap (λ (n : ℕ). take n names) all ∙ take_all (length names) names (omega arith)) taken

-- the next FILE isn't taken
pub stops_at : (stored : List Stored) (names files : List (List ℕ)) (why : Stop) (is_open : Bool) (rest : List ℕ) (now : List (List ℕ)) → length files < length names → AreTaken stored (take (length files) names) files
    → Takes (Err why) is_open (file_named stored (slice_index_or names (length files) [])) rest files now → EndsAtFile (stop_report why (length files + 1)) stored names (length files + 1) is_open rest
stops_at stored names files stops.Failed is_open rest now within taken why = (
  record {
    before = files;
    taken = taken;
    part = why;
    file = refl;
    within = omega (arith, within);
    line = refl;
    reason = refl;
    frames = refl;
  },
  refl,
)
stops_at stored names files (stops.Refused reason) is_open rest now within taken why = (
  record {
    before = files;
    bytes = why.0;
    named = named_more stored names files why.0 within taken.named why.1;
    refused = first_more files why.0 (Some reason) taken.taken why.2;
    left = why.3;
    line = refl;
    frames = refl;
  },
  refl,
)
stops_at stored names files stops.NoMemory is_open rest now within taken why = record {
  within = omega (arith, within);
  file = refl;
  line = refl;
  reason = refl;
  frames = refl;
}

-- nothing was asked for
pub asks_none : (words files : List (List ℕ)) (content : Content) → files ≡ [] → AsksFor words (length files) content content
asks_none words files content none = rw none (record { files = refl; within = omega arith; openings = sym (add-zero content.openings); name = λ some. absurd (omega (arith, some)); nothing = λ _. refl })

-- one word more was asked for
pub asks_more : (words : List (List ℕ)) (count : ℕ) (name : List ℕ) (before middle after : Content) → count < length words → name ≡ slice_index_or words count [] → AsksFor words count before middle → OpensOnce name middle after
    → AsksFor words (count + 1) before after
asks_more words count name before middle after within is asked opens = record {
  files = opens.files ∙ asked.files;
  within = omega (arith, within);
  openings = omega (arith, opens.openings, asked.openings);
  name = λ _. opens.name ∙ ap (λ (stored : List Stored). noted_name stored name) asked.files ∙ ap (noted_name before.files) (is ∙ ap (λ (k : ℕ). slice_index_or words k []) (count_is count));
  nothing = λ none. absurd (omega (arith, none));
}
  where
    count_is : (n : ℕ) → n ≡ n + 1 - 1
    count_is n = omega arith

-- a front of the words was asked for
pub asks_front : (names more : List (List ℕ)) (count : ℕ) (before after : Content) → AsksFor names count before after → AsksFor (names ++ more) count before after
asks_front names more count before after asked = record {
  files = asked.files;
  within = omega (arith, asked.within, length-append names more);
  openings = asked.openings;
  name = λ some. asked.name some ∙ ap (noted_name before.files) (sym (get_or-append names more [] (count - 1) (omega (arith, some, asked.within))));
  nothing = asked.nothing;
}

-- and then the one behind it
pub asks_all : (names : List (List ℕ)) (last : List ℕ) (before middle after : Content) → AsksFor names (length names) before middle → OpensOnce last middle after → AsksFor (names ++ last ∷ []) (length names + 1) before after
asks_all names last before middle after asked opens =
    asks_more (names ++ last ∷ []) (length names) last before middle after (omega (arith, length-append names (last ∷ []))) (sym (get_or-append_seam names last [] [])) (asks_front names (last ∷ []) (length names) before middle asked) opens
