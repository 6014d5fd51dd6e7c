-- Lemmas on files that are checked.
use Rattle.std.proofs.Common.{◌≡◌, ◌≢◌, ◌⊎◌, inl, inr, ℕ, Bool, true, false, if◌then◌else◌, is_ok, Result, Ok, Err, OnOk, is_some, List, [], ◌∷◌, ◌++◌, map, get_or, take, length, ◌+◌, ◌<◌, ◌≤◌, Option, Some, None, option_map, refl, ap, sym, subst, ◌∙◌, arith}
use Rattle.std.specs.Prelude.{IfErr}
use Rattle.std.specs.List.{AllByRecursion}
use Rattle.std.proofs.lemmas.List.{map-append, length-map, take_more, take_all}
use denote.Ref.{Bor}
use Rattle.memory_window.specs.declared.regions.Region.{Region}
use Rattle.ground_files.specs.declared.verb_status.Status.{Status}
use Rattle.ground_files.specs.declared.verb_status.Status.TheVariants as statuses
use Rattle.fsw_outside.specs.Files.{Stored}
use Rattle.ground_files.specs.Workspaces.{Held, KeepsFiles, is_dash, input_bytes, input_taken, inputs_taken, settled_at, files_of, input_of}
use Rattle.ground_files.proofs.InputLemmas.{taken_append, all_taken_files}
use Rattle.ground_files.specs.Verbs.{KeepsAllFiles}
use Rattle.load_books.specs.Books.{is_book_text}
use Rattle.ground_checks.specs.Loading.{AreFaultless}
use Rattle.ground_checks.specs.declared.checking.Check.{Check}
use Rattle.ground_checks.specs.Maps.{IsMaplessBook}
use Rattle.ground_checks.specs.Checked.{StaysTold, names_of, inputs_read, IsTaken, IsInputRefused, AreTaken, IsAnyRefused, IsBookRead, IsAnyBook, is_of_files, Looked, Checked, IsMapNamed, IsBookNamed, IsMaplessNamed, ChecksFiles}

-- ---- inputs that are read

read_more : (names : List (List ℕ)) (name : List ℕ) (held : Held) → inputs_read (names ++ name ∷ []) held ≡ inputs_read names held ++ input_bytes name (inputs_taken names held) ∷ []
read_more [] name held = refl
read_more (first ∷ names) name held = ap (λ (more : List (Option (List ℕ))). input_bytes first held ∷ more) (read_more names name (input_taken first held))

-- what is read of inputs depends on the files and on standard input alone
read_same : (names : List (List ℕ)) (files : List Stored) (input one other : List ℕ)
    → inputs_read names (record { files = files; input = input; output = one }) ≡ inputs_read names (record { files = files; input = input; output = other })
read_same [] files input one other = refl
read_same (name ∷ names) files input one other =
    ap (λ (more : List (Option (List ℕ))). input_bytes name (record { files = files; input = input; output = one }) ∷ more) (read_same names files (if is_dash name then [] else input) one other)

-- ---- what is found in them

all_more : (regions : Option (List Region)) (read : List (Option (List ℕ))) (input : Option (List ℕ)) → AreTaken regions read → IsTaken regions input → AreTaken regions (read ++ input ∷ [])
all_more regions [] input all one = (one, tt)
all_more regions (first ∷ read) input all one = (all.0, all_more regions read input all.1 one)

any_first : (regions : Option (List Region)) (read more : List (Option (List ℕ))) → IsAnyRefused regions read → IsAnyRefused regions (read ++ more)
any_first regions [] more any = absurd any
any_first regions (first ∷ read) more (inl one) = inl one
any_first regions (first ∷ read) more (inr any) = inr (any_first regions read more any)

any_last : (regions : Option (List Region)) (read : List (Option (List ℕ))) (input : Option (List ℕ)) → IsInputRefused regions input → IsAnyRefused regions (read ++ input ∷ [])
any_last regions [] input one = inl one
any_last regions (first ∷ read) input one = inr (any_last regions read input one)

book_first : (read more : List (Option (List ℕ))) → IsAnyBook read → IsAnyBook (read ++ more)
book_first [] more any = absurd any
book_first (first ∷ read) more (inl one) = inl one
book_first (first ∷ read) more (inr any) = inr (book_first read more any)

book_last : (read : List (Option (List ℕ))) (input : Option (List ℕ)) → IsBookRead input → IsAnyBook (read ++ input ∷ [])
book_last [] input one = inl one
book_last (first ∷ read) input one = inr (book_last read input one)

-- ---- statuses

not_both : {P : Type 0} (b : Bool) → b ≡ true → b ≡ false → P
not_both b one other = let wrong : ⊥ = cc in absurd wrong

is_done : (status : Status) → (status ≡ statuses.Done) ⊎ (status ≢ statuses.Done)
is_done statuses.Done = inl refl
is_done statuses.WordsRefused = inr (λ e. absurd (cc))
is_done statuses.FileRefused = inr (λ e. absurd (cc))
is_done statuses.ScenarioRefused = inr (λ e. absurd (cc))
is_done statuses.ReadFailed = inr (λ e. absurd (cc))
is_done statuses.WriteFailed = inr (λ e. absurd (cc))
is_done statuses.NoMemory = inr (λ e. absurd (cc))
is_done statuses.Unwanted = inr (λ e. absurd (cc))

-- the first of two statuses of files
pub of_files : (status one new : Status) → is_of_files status ≡ true → is_of_files one ≡ true → (status ≡ statuses.Done → new ≡ one) → (status ≢ statuses.Done → new ≡ status) → is_of_files new ≡ true
of_files status one new first second goes stays = elim (is_done status) [
  | inl was ↦ ap is_of_files (goes was) ∙ second
  | inr not ↦ ap is_of_files (stays not) ∙ first
]

-- a book was asked for its map
pub mapless_book : {K : Type 0} (result : Result K Status) (path read text : List ℕ) (old : Option Held)
    → IfErr result (λ status. (status ≡ statuses.FileRefused) ⊎ ((status ≡ statuses.ScenarioRefused) × IsMaplessBook text) ⊎ (status ≡ statuses.NoMemory))
    → ((before : Held) → old ≡ Some before → input_bytes path before ≡ Some read) → text ≡ read
    → IfErr result (λ status. status ≡ statuses.ScenarioRefused → (before : Held) → old ≡ Some before → IsMaplessNamed path before)
mapless_book (Ok known) path read text old ends reads same = tt
mapless_book (Err status) path read text old (inl refused) reads same = λ is before holds. absurd (cc)
mapless_book (Err status) path read text old (inr (inl mapless)) reads same = λ is before holds. record { text = text; is_read = reads before holds ∙ ap Some (sym same); is_mapless = inr mapless.1 }
mapless_book (Err status) path read text old (inr (inr memory)) reads same = λ is before holds. absurd (cc)

-- no more were seen than are named
pub seen_few : {A : Type 0} (files : List (Bor (List ℕ))) (view items old : List A) → view ≡ items → old ≡ [] → length items ≤ length old + length files → length view ≤ length (names_of files)
seen_few files view items old same none few = omega (arith, ap length same, ap length none, length-map files (λ (name : Bor (List ℕ)). name.now))

-- ---- files that are looked at

-- a file more
pub looked_more : (regions : Option (List Region)) (first status one new : Status) (names : List (List ℕ)) (name : List ℕ) (before : Held) (now after : Option Held)
    → Looked regions first status names before now → after ≡ option_map (input_taken name) now
    → (one ≡ statuses.Done → (held : Held) → now ≡ Some held → IsTaken regions (input_bytes name held))
    → (one ≡ statuses.FileRefused → (held : Held) → now ≡ Some held → IsInputRefused regions (input_bytes name held))
    → (one ≡ statuses.WordsRefused → (held : Held) → now ≡ Some held → IsBookRead (input_bytes name held)) → is_of_files one ≡ true
    → (status ≡ statuses.Done → new ≡ one) → (status ≢ statuses.Done → new ≡ status)
    → Looked regions first new (names ++ name ∷ []) before after
looked_more regions first status one new names name before now after l moved taken refused booked plain goes stays =
    let held = inputs_taken names before in
    let behind : inputs_read names before ++ input_bytes name held ∷ [] ≡ inputs_read (names ++ name ∷ []) before = sym (read_more names name before) in
    record {
      held = moved ∙ ap (λ (o : Option Held). option_map (input_taken name) o) l.held ∙ ap (λ (h : Held). Some h) (sym (taken_append names name before));
      done = λ e. elim (is_done status) [
        | inl was ↦ let d = l.done was in (d.0, subst (AreTaken regions) behind (all_more regions _ _ d.1 (taken (sym (goes was) ∙ e) held l.held)))
        | inr not ↦ absurd (not (sym (stays not) ∙ e))
      ];
      refused = λ e. elim (is_done status) [
        | inl was ↦ inr ((l.done was).0, subst (IsAnyRefused regions) behind (any_last regions (inputs_read names before) _ (refused (sym (goes was) ∙ e) held l.held)))
        | inr not ↦ elim (l.refused (sym (stays not) ∙ e)) [
          | inl same ↦ inl same
          | inr some ↦ inr (some.0, subst (IsAnyRefused regions) behind (any_first regions _ _ some.1))
        ]
      ];
      words = λ e. elim (is_done status) [
        | inl was ↦ inr (subst IsAnyBook behind (book_last (inputs_read names before) _ (booked (sym (goes was) ∙ e) held l.held)))
        | inr not ↦ elim (l.words (sym (stays not) ∙ e)) [
          | inl same ↦ inl same
          | inr some ↦ inr (subst IsAnyBook behind (book_first _ _ some))
        ]
      ];
      earlier = λ e. elim (is_done status) [
        | inl was ↦ not_both (is_of_files new) (ap is_of_files (goes was) ∙ plain) e
        | inr not ↦ l.earlier (ap is_of_files (sym (stays not)) ∙ e) ∙ sym (stays not)
      ];
    }

-- the file at this place
pub looked_next : (regions : Option (List Region)) (first status one new : Status) (files : List (Bor (List ℕ))) (i : ℕ) (d : Bor (List ℕ)) (before : Held) (now after : Option Held)
    → i < length files → Looked regions first status (names_of (take i files)) before now → after ≡ option_map (input_taken (get_or files i d).now) now
    → (one ≡ statuses.Done → (held : Held) → now ≡ Some held → IsTaken regions (input_bytes (get_or files i d).now held))
    → (one ≡ statuses.FileRefused → (held : Held) → now ≡ Some held → IsInputRefused regions (input_bytes (get_or files i d).now held))
    → (one ≡ statuses.WordsRefused → (held : Held) → now ≡ Some held → IsBookRead (input_bytes (get_or files i d).now held)) → is_of_files one ≡ true
    → (status ≡ statuses.Done → new ≡ one) → (status ≢ statuses.Done → new ≡ status)
    → Looked regions first new (names_of (take (i + 1) files)) before after
looked_next regions first status one new files i d before now after h l moved taken refused booked plain goes stays =
    let named : names_of (take i files) ++ (get_or files i d).now ∷ [] ≡ names_of (take (i + 1) files) =
    sym (ap names_of (take_more files i d h) ∙ map-append (λ (name : Bor (List ℕ)). name.now) (take i files) (get_or files i d ∷ [])) in
    subst (λ (names : List (List ℕ)). Looked regions first new names before after) named
    (looked_more regions first status one new (names_of (take i files)) (get_or files i d).now before now after l moved taken refused booked plain goes stays)

pub looked_all : (regions : Option (List Region)) (first status : Status) (files : List (Bor (List ℕ))) (i : ℕ) (before : Held) (now : Option Held)
    → length files ≤ i → Looked regions first status (names_of (take i files)) before now → Looked regions first status (names_of files) before now
looked_all regions first status files i before now h l = subst (λ (fs : List (Bor (List ℕ))). Looked regions first status (names_of fs) before now) (take_all i files h) l

-- no file is another
pub looked_kept : (regions : Option (List Region)) (first status : Status) (names : List (List ℕ)) (before : Held) (now : Option Held) → Looked regions first status names before now → KeepsAllFiles before now
looked_kept regions first status names before now l = ap (λ (o : Option Held). option_map files_of o) l.held ∙ ap (λ (files : List Stored). Some files) (all_taken_files names before)

-- what was done kept the files
pub kept_then : (before : Held) (act : Held → Held) (now after : Option Held) → after ≡ option_map act now → ((held : Held) → (act held).files ≡ held.files) → KeepsAllFiles before now → KeepsAllFiles before after
kept_then before act None after moved keeps kept = absurd (cc)
kept_then before act (Some held) after moved keeps kept = ap (λ (o : Option Held). option_map files_of o) moved ∙ ap (λ (files : List Stored). Some files) (keeps held) ∙ kept

-- ---- standard output

kept_at : (before : Held) (after : Option Held) (bytes : List ℕ) → after ≡ Some (settled_at (45 ∷ []) bytes true before) → KeepsFiles (Some before) after
kept_at before after bytes e = record {
  files = ap (λ (o : Option Held). option_map files_of o) e;
  input = ap (λ (o : Option Held). option_map input_of o) e;
}

pub stream_dropped : (before : Held) (begun after : Option Held) → begun ≡ Some before → KeepsFiles begun after → KeepsFiles (Some before) after
stream_dropped before begun after was kept = subst (λ (o : Option Held). KeepsFiles o after) was kept

-- lines were written to standard output
pub stream_put : {T E : Type 0} (settled : Result T E) (before : Held) (begun after : Option Held) (empty last : Option (List ℕ)) → begun ≡ Some before → empty ≡ Some [] → StaysTold empty last
    → OnOk settled ((bytes : List ℕ) → last ≡ Some bytes → after ≡ option_map (settled_at (45 ∷ []) bytes true) begun)
    → (is_ok settled ≡ false → KeepsFiles begun after) → KeepsFiles (Some before) after
stream_put (Ok done) before begun after empty None was none stays put dropped = absurd (let told = stays (ap (λ (o : Option (List ℕ)). is_some o) none) in cc)
stream_put (Ok done) before begun after empty (Some bytes) was none stays put dropped =
    kept_at before after bytes (put bytes refl ∙ ap (option_map (settled_at (45 ∷ []) bytes true)) was)
stream_put (Err e) before begun after empty last was none stays put dropped = stream_dropped before begun after was (dropped refl)

-- ---- whole checks

-- the order was told behind files that were looked at
pub checked_ends : (regions : Option (List Region)) (first status result : Status) (names : List (List ℕ)) (count : ℕ) (before : Held) (now after : Option Held)
    → Looked regions first status names before now → (result ≡ statuses.Done → status ≡ statuses.Done) → (result ≡ statuses.FileRefused → status ≡ statuses.FileRefused)
    → (result ≡ statuses.WordsRefused → (status ≡ statuses.WordsRefused) ⊎ (100 < count)) → count ≤ length names → (is_of_files result ≡ false → status ≡ result)
    → ((held : Held) → now ≡ Some held → KeepsAllFiles held after) → Checked regions first names result before after
checked_ends regions first status result names count before now after l done refused words few earlier kept = record {
  kept = kept (inputs_taken names before) l.held ∙ ap (λ (files : List Stored). Some files) (all_taken_files names before);
  done = λ e. l.done (done e);
  refused = λ e. l.refused (refused e);
  words = λ e. elim (words e) [
    | inl was ↦ elim (l.words was) [
      | inl first ↦ inl first
      | inr book ↦ inr (inr book)
    ]
    | inr many ↦ inr (inl (omega arith))
  ];
  earlier = λ e. let same = earlier e in l.earlier (ap is_of_files same ∙ e) ∙ same;
}

read_alike : (names : List (List ℕ)) (one other : Held) → one.files ≡ other.files → one.input ≡ other.input → inputs_read names one ≡ inputs_read names other
read_alike names one other files input =
    ap (λ (f : List Stored). inputs_read names (record { files = f; input = one.input; output = one.output })) files
    ∙ ap (λ (i : List ℕ). inputs_read names (record { files = other.files; input = i; output = one.output })) input
    ∙ read_same names other.files other.input one.output other.output

some_same : {X : Type 0} (x y : X) → Some x ≡ Some y → x ≡ y
some_same x y e = cc

-- the regions were told before the files were looked at
pub checked_behind : (regions : Option (List Region)) (first was result : Status) (names : List (List ℕ)) (before : Held) (now after : Option Held)
    → KeepsFiles (Some before) now → was ≡ statuses.Done → (first ≡ statuses.Done) ⊎ (first ≡ statuses.WriteFailed)
    → ((held : Held) → now ≡ Some held → Checked regions first names result held after) → Checked regions was names result before after
checked_behind regions first was result names before None after k done told c = absurd (let none = k.files in cc)
checked_behind regions first was result names before (Some held) after k done told c =
    let checked = c held refl in
    let alike : inputs_read names held ≡ inputs_read names before = read_alike names held before (some_same _ _ k.files) (some_same _ _ k.input) in
    elim told [
      | inl is ↦ record {
        kept = checked.kept ∙ k.files;
        done = λ e. (done, subst (AreTaken regions) alike (checked.done e).1);
        refused = λ e. elim (checked.refused e) [
          | inl other ↦ absurd (cc)
          | inr some ↦ inr (done, subst (IsAnyRefused regions) alike some.1)
        ];
        words = λ e. elim (checked.words e) [
          | inl other ↦ absurd (cc)
          | inr (inl many) ↦ inr (inl many)
          | inr (inr book) ↦ inr (inr (subst IsAnyBook alike book))
        ];
        earlier = λ e. done ∙ sym is ∙ checked.earlier e;
      }
      | inr is ↦ record {
        kept = checked.kept ∙ k.files;
        done = λ e. absurd (let d = (checked.done e).0 in cc);
        refused = λ e. elim (checked.refused e) [
          | inl other ↦ absurd (cc)
          | inr some ↦ absurd (let d = some.0 in cc)
        ];
        words = λ e. elim (checked.words e) [
          | inl other ↦ absurd (cc)
          | inr (inl many) ↦ inr (inl many)
          | inr (inr book) ↦ inr (inr (subst IsAnyBook alike book))
        ];
        earlier = λ e. not_both (is_of_files result) (ap is_of_files (sym (checked.earlier e) ∙ is)) e;
      }
    ]

-- ---- what is asked for

few_names : (files : List (Bor (List ℕ))) → 100 < length (names_of files) → 100 < length files
few_names files many = rw (length-map files (λ (name : Bor (List ℕ)). name.now)) at many

none_asked : (files : Bor (List (Bor (List ℕ)))) (result : Status) (before : Held) (after : Option Held) → Checked None statuses.Done (names_of files.now) result before after
    → ChecksFiles (record { files = files; map = None }) result before after
none_asked files result before after c = record {
  kept = c.kept;
  done = λ e. (None, refl, (c.done e).1);
  refused = λ e. elim (c.refused e) [
    | inl other ↦ absurd (cc)
    | inr some ↦ inr (None, refl, some.1)
  ];
  words = λ e. elim (c.words e) [
    | inl other ↦ absurd (cc)
    | inr (inl many) ↦ inl (few_names files.now many)
    | inr (inr book) ↦ inr book
  ];
  scenario = λ e. absurd (let d = c.earlier (ap is_of_files e) in cc);
  unjudged = λ e. absurd (let d = c.earlier (ap is_of_files e) in cc);
}

pub checks_plain : (check : Check) (result : Status) (before : Held) (after : Option Held) → check.map ≡ None → Checked None statuses.Done (names_of check.files.now) result before after
    → ChecksFiles check result before after
checks_plain check result before after asked c =
    subst (λ (m : Option (Bor (List ℕ))). ChecksFiles (record { files = check.files; map = m }) result before after) (sym asked) (none_asked check.files result before after c)

some_asked : (files : Bor (List (Bor (List ℕ)))) (name : Bor (List ℕ)) (known : List Region) (result : Status) (before : Held) (after : Option Held)
    → IsMapNamed name.now before known → Checked (Some known) statuses.Done (names_of files.now) result (input_taken name.now before) after
    → ChecksFiles (record { files = files; map = Some name }) result before after
some_asked files name known result before after named c = record {
  kept = c.kept;
  done = λ e. (Some known, named, (c.done e).1);
  refused = λ e. elim (c.refused e) [
    | inl other ↦ absurd (cc)
    | inr some ↦ inr (Some known, named, some.1)
  ];
  words = λ e. elim (c.words e) [
    | inl other ↦ absurd (cc)
    | inr (inl many) ↦ inl (few_names files.now many)
    | inr (inr book) ↦ inr book
  ];
  scenario = λ e. absurd (let d = c.earlier (ap is_of_files e) in cc);
  unjudged = λ e. absurd (let d = c.earlier (ap is_of_files e) in cc);
}

-- the map is known
pub checks_mapped : (check : Check) (name : Bor (List ℕ)) (known : List Region) (result : Status) (before : Held) (now after : Option Held) → check.map ≡ Some name
    → IsMapNamed name.now before known → now ≡ Some (input_taken name.now before)
    → ((held : Held) → now ≡ Some held → Checked (Some known) statuses.Done (names_of check.files.now) result held after) → ChecksFiles check result before after
checks_mapped check name known result before now after asked named taken c =
    subst (λ (m : Option (Bor (List ℕ))). ChecksFiles (record { files = check.files; map = m }) result before after) (sym asked)
    (some_asked check.files name known result before after named (c (input_taken name.now before) taken))

not_asked : (files : Bor (List (Bor (List ℕ)))) (name : Bor (List ℕ)) (first result : Status) (before : Held) (after : Option Held)
    → first ≢ statuses.Done → (first ≡ statuses.FileRefused → IsBookNamed name.now before) → (first ≡ statuses.ScenarioRefused → IsMaplessNamed name.now before) → (first ≢ statuses.WordsRefused) × (first ≢ statuses.Unwanted) → Checked None first (names_of files.now) result (input_taken name.now before) after
    → ChecksFiles (record { files = files; map = Some name }) result before after
not_asked files name first result before after not book mapless never c = record {
  kept = c.kept;
  done = λ e. absurd (not (c.done e).0);
  refused = λ e. elim (c.refused e) [
    | inl refused ↦ inl (book refused)
    | inr some ↦ absurd (not some.0)
  ];
  words = λ e. elim (c.words e) [
    | inl other ↦ absurd (never.0 other)
    | inr (inl many) ↦ inl (few_names files.now many)
    | inr (inr book) ↦ inr book
  ];
  scenario = λ e. mapless (c.earlier (ap is_of_files e) ∙ e);
  unjudged = λ e. never.1 (c.earlier (ap is_of_files e) ∙ e);
}

-- the map isn't known
pub checks_unmapped : (check : Check) (name : Bor (List ℕ)) (first result : Status) (before : Held) (now after : Option Held) → check.map ≡ Some name
    → first ≢ statuses.Done → (first ≡ statuses.FileRefused → IsBookNamed name.now before) → (first ≡ statuses.ScenarioRefused → IsMaplessNamed name.now before) → (first ≢ statuses.WordsRefused) × (first ≢ statuses.Unwanted) → now ≡ Some (input_taken name.now before)
    → ((held : Held) → now ≡ Some held → Checked None first (names_of check.files.now) result held after) → ChecksFiles check result before after
checks_unmapped check name first result before now after asked not book mapless never taken c =
    subst (λ (m : Option (Bor (List ℕ))). ChecksFiles (record { files = check.files; map = m }) result before after) (sym asked)
    (not_asked check.files name first result before after not book mapless never (c (input_taken name.now before) taken))

-- ---- files that are no books

pub taken_faultless : (regions : Option (List Region)) (files : List (List ℕ)) → AllByRecursion (λ (file : List ℕ). is_book_text file ≡ false) files
    → AreTaken regions (map (λ (file : List ℕ). Some file) files) → AreFaultless regions files
taken_faultless regions [] others taken = tt
taken_faultless regions (file ∷ files) others taken = (taken.0 others.0, taken_faultless regions files others.1 taken.1)
