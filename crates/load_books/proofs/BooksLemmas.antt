-- Lemmas on whole books.
use Rattle.std.proofs.Common.{◌≡◌, ℕ, false, List, [], ◌∷◌, Option, Some, None, refl, ap, sym, subst, ◌∙◌}
use Rattle.std.specs.Prelude.{codes, Result, Ok, Err}
use Rattle.table_texts.specs.Lines.{Numbered, kept_of}
use Rattle.load_books.specs.declared.fault.BookReason.TheVariants as reasons
use Rattle.load_books.specs.declared.fault.BookFault.{BookFault}
use Rattle.load_books.specs.declared.fault.BookFault.TheVariants as faults
use Rattle.load_books.specs.declared.fault.BookError.{BookError}
use Rattle.load_books.specs.declared.fault.BookError.TheVariants as errors
use Rattle.load_books.specs.declared.forms.BookForms.{BookForms}
use Rattle.load_books.specs.declared.reading.Book.{Book}
use Rattle.load_books.specs.Cuts.{Part, cut_of, begins}
use Rattle.load_books.specs.Contents.{BookText, no_parts, all_added, GivesParts}
use Rattle.load_books.specs.Books.{Head, head_on, name_alone, named_head, head_said, BookMade, planned, of_parts, book_said, GivesBook}

-- ---- the lines in front of the parts

pub head_none : (lines : List Numbered) → lines ≡ [] → head_said lines ≡ Err (faults.Line 1 reasons.Book)
unfolding head_said
head_none lines e = rw e refl

pub head_other : (lines more : List Numbered) (m : ℕ) (ws : List (List ℕ)) → lines ≡ record { number = m; words = ws } ∷ more → begins (codes "book") ws ≡ false → head_said lines ≡ Err (faults.Line m reasons.Book)
unfolding head_said
head_other lines more m ws e other = rw e (rw other refl)

head_begun : (lines more : List Numbered) (m : ℕ) (ws vs : List (List ℕ)) → lines ≡ record { number = m; words = ws } ∷ more → ws ≡ codes "book" ∷ vs → head_said lines ≡ named_head m (name_alone vs) more
unfolding head_said
head_begun lines more m ws vs e is = rw e (rw is refl)

pub head_nameless : (lines more : List Numbered) (m : ℕ) (ws vs : List (List ℕ)) → lines ≡ record { number = m; words = ws } ∷ more → ws ≡ codes "book" ∷ vs → name_alone vs ≡ None → head_said lines ≡ Err (faults.Line m reasons.Book)
head_nameless lines more m ws vs e is none = head_begun lines more m ws vs e is ∙ ap (λ (n : Option (List ℕ)). named_head m n more) none

pub head_found : (lines more : List Numbered) (m : ℕ) (ws vs : List (List ℕ)) (name : List ℕ) → lines ≡ record { number = m; words = ws } ∷ more → ws ≡ codes "book" ∷ vs → name_alone vs ≡ Some name → head_said lines ≡ named_head m (Some name) more
head_found lines more m ws vs name e is some = head_begun lines more m ws vs e is ∙ ap (λ (n : Option (List ℕ)). named_head m n more) some

pub head_alone : (lines more : List Numbered) (m : ℕ) (ws vs : List (List ℕ)) (name : List ℕ) → lines ≡ record { number = m; words = ws } ∷ more → ws ≡ codes "book" ∷ vs → name_alone vs ≡ Some name → more ≡ [] → head_said lines ≡ Ok (head_on m name)
head_alone lines more m ws vs name e is some none = head_found lines more m ws vs name e is some ∙ ap (λ (ls : List Numbered). named_head m (Some name) ls) none

pub head_followed : (lines more rest : List Numbered) (m n : ℕ) (ws vs us : List (List ℕ)) (name : List ℕ) → lines ≡ record { number = m; words = ws } ∷ more → ws ≡ codes "book" ∷ vs → name_alone vs ≡ Some name → more ≡ record { number = n; words = us } ∷ rest → head_said lines ≡ Err (faults.Line n reasons.Part)
head_followed lines more rest m n ws vs us name e is some other = head_found lines more m ws vs name e is some ∙ ap (λ (ls : List Numbered). named_head m (Some name) ls) other

-- ---- whole books

book_is : (f : BookForms) (text front : List ℕ) (parts : List Part) → (cut_of 1 text).front ≡ front → (cut_of 1 text).parts ≡ parts → book_said f text ≡ of_parts f (head_said (kept_of 1 front)) (all_added no_parts parts)
unfolding book_said
book_is f text front parts e is = rw (e, is) refl

pub book_headless : (f : BookForms) (text front : List ℕ) (parts : List Part) (fault : BookFault) → (cut_of 1 text).front ≡ front → (cut_of 1 text).parts ≡ parts → head_said (kept_of 1 front) ≡ Err fault → book_said f text ≡ Err fault
book_headless f text front parts fault e is head = book_is f text front parts e is ∙ ap (λ (r : Result Head BookFault). of_parts f r (all_added no_parts parts)) head

book_headed : (f : BookForms) (text front : List ℕ) (parts : List Part) (head : Head) → (cut_of 1 text).front ≡ front → (cut_of 1 text).parts ≡ parts → head_said (kept_of 1 front) ≡ Ok head → book_said f text ≡ of_parts f (Ok head) (all_added no_parts parts)
book_headed f text front parts head e is said = book_is f text front parts e is ∙ ap (λ (r : Result Head BookFault). of_parts f r (all_added no_parts parts)) said

pub book_made : (f : BookForms) (text front : List ℕ) (parts : List Part) (head : Head) (b : BookText) (r : Result Book BookError) → (cut_of 1 text).front ≡ front → (cut_of 1 text).parts ≡ parts → head_said (kept_of 1 front) ≡ Ok head → all_added no_parts parts ≡ Ok b → GivesBook (planned f head b) r → GivesBook (book_said f text) r
book_made f text front parts head b r e is said added given =
    subst (λ (s : Result BookMade BookFault). GivesBook s r) (sym (book_headed f text front parts head e is said ∙ ap (of_parts f (Ok head)) added)) given

pub book_refused : (f : BookForms) (text front : List ℕ) (parts : List Part) (head : Head) (x : BookError) → (cut_of 1 text).front ≡ front → (cut_of 1 text).parts ≡ parts → head_said (kept_of 1 front) ≡ Ok head → GivesParts (all_added no_parts parts) (Err x) → GivesBook (book_said f text) (Err x)
book_refused f text front parts head (errors.Memory m) e is said given = tt
book_refused f text front parts head (errors.Book fault) e is said given = book_headed f text front parts head e is said ∙ ap (of_parts f (Ok head)) given
