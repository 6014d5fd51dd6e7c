-- Lemmas on the files that are built.
use Rattle.std.proofs.Common.{◌≡◌, ℕ, List, [], ◌∷◌, ◌++◌, length, map, ap, sym, ◌∙◌, append_assoc, refl, arith}
use Rattle.std.specs.Prelude.{codes}
use Rattle.std.proofs.lemmas.List.{map-append}
use Rattle.load_books.specs.declared.files.BookFile.{BookFile}
use Rattle.load_books.specs.Files.{FileMade, file_made}
use Rattle.load_books.specs.Books.{BookMade}
use Rattle.ground_books.specs.Manifests.{manifest_said}
use Rattle.ground_books.specs.Built.{Built, named, file_built, built_said}

-- a file behind those that were built
pub built_more : (first old new : List Built) (fs : List BookFile) (f : BookFile) → old ≡ first ++ map file_built (map file_made fs) → new ≡ old ++ file_built (file_made f) ∷ [] → new ≡ first ++ map file_built (map file_made (fs ++ f ∷ []))
built_more first old new fs f so_far put =
    put ∙ ap (λ (t : List Built). t ++ file_built (file_made f) ∷ []) so_far
    ∙ append_assoc first (map file_built (map file_made fs)) (file_built (file_made f) ∷ [])
    ∙ ap (λ (t : List Built). first ++ t) (sym (ap (λ (t : List FileMade). map file_built t) (map-append file_made fs (f ∷ [])) ∙ map-append file_built (map file_made fs) (file_made f ∷ [])))

pub nothing_left : {X : Type 0} (l : List X) → length l ≡ 0 → l ≡ []
nothing_left [] h = refl
nothing_left (x ∷ xs) h = absurd (omega arith)

-- the files of the parts, the scenario and the manifest, one behind the other
pub built_whole : (b : BookMade) (none one two three : List Built) (sn mn text : List ℕ) → none ≡ [] → one ≡ none ++ map file_built b.files → two ≡ one ++ named sn b.scenario ∷ [] → three ≡ two ++ named mn text ∷ []
    → sn ≡ b.name ++ codes ".scenario" → mn ≡ b.name ++ codes ".manifest" → text ≡ manifest_said b → three ≡ built_said b
built_whole b none one two three sn mn text e0 e1 e2 e3 es em et =
    let parts = map file_built b.files in
    e3 ∙ ap (λ (t : List Built). t ++ named mn text ∷ []) (e2 ∙ ap (λ (t : List Built). t ++ named sn b.scenario ∷ []) (e1 ∙ ap (λ (t : List Built). t ++ parts) e0))
    ∙ append_assoc parts (named sn b.scenario ∷ []) (named mn text ∷ [])
    ∙ ap (λ (n : List ℕ). parts ++ (named n b.scenario ∷ named mn text ∷ [])) es
    ∙ ap (λ (n : List ℕ). parts ++ (named (b.name ++ codes ".scenario") b.scenario ∷ named n text ∷ [])) em
    ∙ ap (λ (t : List ℕ). parts ++ (named (b.name ++ codes ".scenario") b.scenario ∷ named (b.name ++ codes ".manifest") t ∷ [])) et
