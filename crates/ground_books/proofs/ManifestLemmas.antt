-- Lemmas on manifests.
use Rattle.std.proofs.Common.{◌≡◌, ℕ, zero, suc, ◌+◌, ◌<◌, ◌≤◌, List, [], ◌∷◌, ◌++◌, length, drop, map, get_or, refl, ap, sym, ◌∙◌, append_assoc, append-nil, arith}
use Rattle.load_books.specs.declared.files.BookFile.{BookFile}
use Rattle.load_books.specs.Files.{FileMade, file_made}
use Rattle.load_books.specs.Manifests.{kind_word}
use Rattle.ground_books.specs.Manifests.{ending_of, entry, entries}

-- five texts that were appended one behind the other
pub five_put : (old a b c d e one two three four five : List ℕ) → one ≡ old ++ a → two ≡ one ++ b → three ≡ two ++ c → four ≡ three ++ d → five ≡ four ++ e → five ≡ old ++ (a ++ (b ++ (c ++ (d ++ e))))
five_put old a b c d e one two three four five e1 e2 e3 e4 e5 =
    e5 ∙ ap (λ (t : List ℕ). t ++ e) (e4 ∙ ap (λ (t : List ℕ). t ++ d) (e3 ∙ ap (λ (t : List ℕ). t ++ c) (e2 ∙ ap (λ (t : List ℕ). t ++ b) e1)))
    ∙ append_assoc (((old ++ a) ++ b) ++ c) d e ∙ append_assoc ((old ++ a) ++ b) c (d ++ e) ∙ append_assoc (old ++ a) b (c ++ (d ++ e)) ∙ append_assoc old a (b ++ (c ++ (d ++ e)))

-- a name, its ending and the end of the line
pub name_put : (old name ending last one two three : List ℕ) → one ≡ old ++ 32 ∷ name → two ≡ one ++ ending → three ≡ two ++ last → three ≡ old ++ ((32 ∷ (name ++ ending)) ++ last)
name_put old name ending last one two three e1 e2 e3 =
    e3 ∙ ap (λ (t : List ℕ). t ++ last) (e2 ∙ ap (λ (t : List ℕ). t ++ ending) e1 ∙ append_assoc old (32 ∷ name) ending)
    ∙ append_assoc old (32 ∷ (name ++ ending)) last

entries_cons : (m : FileMade) (more : List FileMade) → entries (m ∷ more) ≡ entry (kind_word m.kind) m.name (ending_of m.kind) m.bytes ++ entries more
unfolding entries
entries_cons m more = refl

entries_nil : entries [] ≡ []
unfolding entries
entries_nil = refl

entries_next : (fs : List BookFile) (i : ℕ) (d : BookFile) → i < length fs → entries (map file_made (drop i fs)) ≡ entry (kind_word (get_or fs i d).kind) (get_or fs i d).name.now (ending_of (get_or fs i d).kind) (get_or fs i d).bytes.items ++ entries (map file_made (drop (suc i) fs))
entries_next [] i d h = absurd (omega (arith, h))
entries_next (f ∷ fs) zero d h = entries_cons (file_made f) (map file_made fs)
entries_next (f ∷ fs) (suc i) d h = entries_next fs i d (omega (arith, h))

-- a line was put
pub entry_put : (fs : List BookFile) (i : ℕ) (d f : BookFile) (first old new : List ℕ) → i < length fs → f ≡ get_or fs i d → new ≡ old ++ entry (kind_word f.kind) f.name.now (ending_of f.kind) f.bytes.items → first ++ entries (map file_made fs) ≡ old ++ entries (map file_made (drop i fs)) → first ++ entries (map file_made fs) ≡ new ++ entries (map file_made (drop (i + 1) fs))
entry_put fs i d f first old new h is put so_far =
    let one : i + 1 ≡ suc i = omega arith in
    let line = entry (kind_word f.kind) f.name.now (ending_of f.kind) f.bytes.items in
    let rest = entries (map file_made (drop (suc i) fs)) in
    so_far
    ∙ ap (λ (t : List ℕ). old ++ t) (entries_next fs i d h ∙ ap (λ (g : BookFile). entry (kind_word g.kind) g.name.now (ending_of g.kind) g.bytes.items ++ rest) (sym is))
    ∙ sym (append_assoc old line rest)
    ∙ ap (λ (t : List ℕ). t ++ rest) (sym put)
    ∙ ap (λ (k : ℕ). new ++ entries (map file_made (drop k fs))) (sym one)

nothing_left : (fs : List BookFile) (i : ℕ) → length fs ≤ i → drop i fs ≡ []
nothing_left [] zero h = refl
nothing_left [] (suc i) h = refl
nothing_left (f ∷ fs) zero h = absurd (omega (arith, h))
nothing_left (f ∷ fs) (suc i) h = nothing_left fs i (omega (arith, h))

-- all lines were put
pub entries_end : (fs : List BookFile) (i : ℕ) (first old : List ℕ) → length fs ≤ i → first ++ entries (map file_made fs) ≡ old ++ entries (map file_made (drop i fs)) → old ≡ first ++ entries (map file_made fs)
entries_end fs i first old h so_far =
    sym (so_far ∙ ap (λ (gs : List BookFile). old ++ entries (map file_made gs)) (nothing_left fs i h) ∙ ap (λ (t : List ℕ). old ++ t) entries_nil ∙ append-nil old)
