-- Lemmas on files that are put at their paths.
use Rattle.std.proofs.Common.{◌≡◌, ℕ, zero, suc, ◌+◌, ◌<◌, ◌≤◌, List, [], ◌∷◌, ◌++◌, length, get_or, set, take, drop, map, Option, Some, option_map, option_and_then, Result, Ok, Err, OnOk, true, string_bytes, refl, ap, sym, subst, ◌∙◌, arith}
use Rattle.std.proofs.lemmas.List.{map-append, take-map, take_more, take_more_set, take_all, drop_more, drop-drop, drop-set-lt, length-drop}
use Rattle.std.specs.List.{AllByRecursion}
use Rattle.ground_files.specs.declared.verb_status.Status.{Status}
use Rattle.ground_files.specs.declared.verb_status.Status.TheVariants as statuses
use Rattle.ground_files.specs.Workspaces.{Held, files_of, settled_at, put_at}
use Rattle.ground_files.specs.Verbs.{KeepsAllFiles}
use Rattle.ground_books.specs.declared.building.Written.{Written}
use Rattle.ground_books.specs.Built.{Built}
use Rattle.ground_books.specs.Placed.{put_all, PutsFirst, Puts, KeepsFilesOnly, written_as, IsDrafted}

-- ---- lists

all_push : {X : Type 0} (P : X → Type 0) (xs : List X) (x : X) → AllByRecursion P xs → P x → AllByRecursion P (xs ++ x ∷ [])
all_push P [] x all one = (one, tt)
all_push P (y ∷ xs) x all one = (all.0, all_push P xs x all.1 one)

all_at : {X : Type 0} (P : X → Type 0) (xs : List X) (i : ℕ) (d : X) → i < length xs → AllByRecursion P xs → P (get_or xs i d)
all_at P [] i d h all = absurd (omega (arith, h))
all_at P (x ∷ xs) zero d h all = all.0
all_at P (x ∷ xs) (suc i) d h all = all_at P xs i d (omega (arith, h)) all.1

map_same : {X Y : Type 0} (f : X → Y) (xs : List X) (i : ℕ) (x d : X) → f x ≡ f (get_or xs i d) → map f (set xs i x) ≡ map f xs
map_same f [] i x d same = refl
map_same f (y ∷ xs) zero x d same = ap (λ first. first ∷ map f xs) same
map_same f (y ∷ xs) (suc i) x d same = ap (λ more. f y ∷ more) (map_same f xs i x d same)

-- ---- drafts

-- a draft more was written
pub drafted_more : {D : Type 0} (contents : D → Option (List ℕ)) (files : List (Written D)) (i : ℕ) (new : Written D) → i < length files
    → AllByRecursion (IsDrafted contents) (take i files) → IsDrafted contents new → AllByRecursion (IsDrafted contents) (take (i + 1) (set files i new))
drafted_more {D} contents files i new h all one =
    subst (AllByRecursion (IsDrafted contents)) (sym (take_more_set files i new h)) (all_push (IsDrafted contents) (take i files) new all one)

-- its path and its bytes are the same
pub written_same : {D : Type 0} (first files : List (Written D)) (i : ℕ) (new d : Written D) → written_as new ≡ written_as (get_or files i d)
    → map written_as files ≡ map written_as first → map written_as (set files i new) ≡ map written_as first
written_same {D} first files i new d same so_far = map_same written_as files i new d same ∙ so_far

-- a file's draft was settled
pub draft_kept : {T E D : Type 0} (settled : Result T E) (contents : D → Option (List ℕ)) (file : Written D) (draft : D) (now after : Option Held) (name : List ℕ)
    → file.draft ≡ Some draft → name ≡ string_bytes file.path
    → OnOk settled ((bytes : List ℕ) → contents draft ≡ Some bytes → after ≡ option_map (settled_at name bytes true) now)
    → OnOk settled (IsDrafted contents file → after ≡ option_map (put_at (string_bytes file.path) file.bytes.items) now)
draft_kept {T} {E} {D} (Ok done) contents file draft now after name is path put = λ drafted.
    put file.bytes.items (sym (ap (λ (d : Option D). option_and_then contents d) is) ∙ drafted)
    ∙ ap (λ (n : List ℕ). option_map (settled_at n file.bytes.items true) now) path
draft_kept {T} {E} {D} (Err e) contents file draft now after name is path put = put

-- ---- files at their places

put_more : (files : List Built) (file : Built) (held : Held) → put_all (files ++ file ∷ []) held ≡ put_at file.name file.bytes (put_all files held)
put_more [] file held = refl
put_more (first ∷ files) file held = put_more files file (put_at first.name first.bytes held)

-- the files that are left are as they were
pub rest_same : {D : Type 0} (all files : List (Written D)) (i : ℕ) (new : Written D) → drop i files ≡ drop i all → drop (i + 1) (set files i new) ≡ drop (i + 1) all
rest_same {D} all files i new rest =
    drop-set-lt (i + 1) files i new (omega arith) ∙ sym (drop-drop 1 i files) ∙ ap (λ (l : List (Written D)). drop 1 l) rest ∙ drop-drop 1 i all

heads_same : {X : Type 0} (x y : X) (xs ys : List X) → x ∷ xs ≡ y ∷ ys → x ≡ y
heads_same x y xs ys e = cc

in_rest : {D : Type 0} (all files : List (Written D)) (i : ℕ) → i < length files → drop i files ≡ drop i all → i < length all
in_rest {D} all files i h rest =
    let size : length (drop i files) ≡ length (drop i all) = ap (λ (l : List (Written D)). length l) rest in
    omega (arith, length-drop i files, length-drop i all, size)

at_rest : {D : Type 0} (all files : List (Written D)) (i : ℕ) (d : Written D) → i < length files → drop i files ≡ drop i all → get_or files i d ≡ get_or all i d
at_rest {D} all files i d h rest =
    heads_same _ _ (drop (i + 1) files) (drop (i + 1) all) (sym (drop_more files i d h) ∙ rest ∙ drop_more all i d (in_rest all files i h rest))

-- a file more is at its place
pub put_next : {D : Type 0} (contents : D → Option (List ℕ)) (all files : List (Written D)) (i : ℕ) (d : Written D) (before : Held) (now after : Option Held)
    → i < length files → drop i files ≡ drop i all → AllByRecursion (IsDrafted contents) all
    → (IsDrafted contents (get_or files i d) → after ≡ option_map (put_at (string_bytes (get_or files i d).path) (get_or files i d).bytes.items) now)
    → now ≡ Some (put_all (map written_as (take i all)) before) → after ≡ Some (put_all (map written_as (take (i + 1) all)) before)
put_next {D} contents all files i d before now after h rest drafted put so_far =
    let inside = in_rest all files i h rest in
    let file = get_or files i d in
    let same : get_or all i d ≡ file = sym (at_rest all files i d h rest) in
    let more : take (i + 1) all ≡ take i all ++ file ∷ [] = take_more all i d inside ∙ ap (λ (f : Written D). take i all ++ f ∷ []) same in
    let one : IsDrafted contents file = subst (IsDrafted contents) same (all_at (IsDrafted contents) all i d inside drafted) in
    put one ∙ ap (λ (o : Option Held). option_map (put_at (string_bytes file.path) file.bytes.items) o) so_far
    ∙ ap (λ (h : Held). Some h) (sym (put_more (map written_as (take i all)) (written_as file) before))
    ∙ ap (λ (files : List Built). Some (put_all files before)) (sym (map-append written_as (take i all) (file ∷ [])))
    ∙ ap (λ (files : List (Written D)). Some (put_all (map written_as files) before)) (sym more)

pub put_whole : {D : Type 0} (all files : List (Written D)) (i : ℕ) (before : Held) (now : Option Held) → length all ≤ i
    → now ≡ Some (put_all (map written_as (take i all)) before) → now ≡ Some (put_all (map written_as all) before)
put_whole {D} all files i before now h so_far = so_far ∙ ap (λ (fs : List (Written D)). Some (put_all (map written_as fs) before)) (take_all i all h)

-- the first of them are at their places
pub put_first : {D : Type 0} (all : List (Written D)) (i : ℕ) (before : Held) (now after : Option Held)
    → now ≡ Some (put_all (map written_as (take i all)) before) → KeepsFilesOnly now after → PutsFirst (map written_as all) before after
put_first {D} all i before now after so_far kept = record {
  count = i;
  are_put = kept ∙ ap (λ (o : Option Held). option_map files_of o) so_far ∙ ap (λ (fs : List Built). Some (put_all fs before).files) (sym (take-map written_as i all));
}

-- ---- how it ends

pub puts_done : (files : List Built) (result : Status) (before : Held) (after : Option Held) → result ≡ statuses.Done → after ≡ Some (put_all files before) → Puts files result before after
puts_done files result before after is put = record {
  done = λ e. put;
  failed = λ not. absurd (not is);
  kept = λ not other. absurd (not is);
}

pub puts_failed : (files : List Built) (result : Status) (before : Held) (now after : Option Held) → result ≡ statuses.WriteFailed → PutsFirst files before now → KeepsFilesOnly now after → Puts files result before after
puts_failed files result before now after is first kept = record {
  done = λ e. absurd (let no = sym is ∙ e in cc);
  failed = λ not. record { count = first.count; are_put = kept ∙ first.are_put };
  kept = λ not other. absurd (other is);
}

pub puts_nothing : (files : List Built) (before : Held) (after : Option Held) → KeepsAllFiles before after → PutsFirst files before after
puts_nothing files before after kept = record { count = 0; are_put = kept }
