-- A run of bytes is taken out of the block and put back, and seen through a `&`. Assumes `Logic`.
use mathlib.Core.Path.{◌≡◌, refl, sym, ap, subst, ◌∙◌}
use Prim.Native.Nat.{ℕ, zero, suc, ◌+◌, ◌≤◌}
use native.Mathlib.Omega.{arith}
use mathlib.Core.List.{List, [], ◌∷◌, ◌++◌}
use lib.ListN.{length, take, drop, take-append-drop, length-take, length-drop}
use lib.Seq.{drop-drop}
use seplogic.Ra.Ura.{Ura}
use base.Fraction.{full_share}
use base.Logic.{ent, sep, via, snd∗, mono_r, id⊢}
use base.Fml.{Lft, Fml, fsep}
use types.Logic.{Logic, sem}
use types.Kit.{‵, ◌⊛◌, ◌$◌, ◌∵◌, !, qed, by, move, keep, use1, use2, split, rewrite, fsplit, fjoin, done}
use denote.Builtin.{u8}
use denote.Memory.{shared_of}
use denote.RawPtr.Bytes.{bytes, bytes_cut, bytes_glue}
use denote.Slice.{elements_shared}

module _ {M : Type 1} {𝓤 : Ura M} (𝓛 : Logic 𝓤) (b o : ℕ) (xs : List ℕ) (from len : ℕ) where
  -- the bytes before the run and those behind it
  abbrev pub Around : Fml
  Around = fsep (bytes full_share (take from xs) b o) (bytes full_share (drop (from + len) xs) b (len + (from + o)))

  before : from + len ≤ length xs → o + length (take from xs) ≡ from + o
  before le = omega (arith, length-take from xs)

  pub run_out : from + len ≤ length xs → ent 𝓤 (sem 𝓛 (bytes full_share xs b o)) (sep 𝓤 (sem 𝓛 (bytes full_share (take len (drop from xs)) b (from + o))) (sem 𝓛 Around))
  run_out le =
      let run = take len (drop from xs) in let rest = drop (from + len) xs in
      let behind : from + o + length run ≡ len + (from + o) = omega (arith, length-take len (drop from xs), length-drop from xs) in
      qed 𝓛 (‵ (bytes full_share xs b o) ∷ []) ∵
      rewrite ! 0 (λ (l : List ℕ). ‵ (bytes full_share l b o)) (sym (take-append-drop from xs) ∙ ap (λ l. take from xs ++ l) (sym (take-append-drop len (drop from xs)) ∙ ap (λ l. run ++ l) (drop-drop len from xs))) refl $
      use1 𝓛 (‵ (bytes full_share (take from xs) b o) ⊛ ‵ (bytes full_share (run ++ rest) b (o + length (take from xs)))) (bytes_cut 𝓛 full_share (take from xs) (run ++ rest) b o) $ split ! $ move ! (1 ∷ []) $
      rewrite ! 0 (λ (k : ℕ). ‵ (bytes full_share (run ++ rest) b k)) (before le) refl $
      use1 𝓛 (‵ (bytes full_share run b (from + o)) ⊛ ‵ (bytes full_share rest b (from + o + length run))) (bytes_cut 𝓛 full_share run rest b (from + o)) $ split ! $
      rewrite ! 1 (λ (k : ℕ). ‵ (bytes full_share rest b k)) behind refl $ move ! (2 ∷ 1 ∷ []) $ fjoin ! $ move ! (1 ∷ []) $ done !

  pub run_in : from + len ≤ length xs → (ws : List ℕ) → length ws ≡ len
      → ent 𝓤 (sep 𝓤 (sem 𝓛 (bytes full_share ws b (from + o))) (sem 𝓛 Around)) (sem 𝓛 (bytes full_share (take from xs ++ (ws ++ drop (from + len) xs)) b o))
  run_in le ws same =
      let rest = drop (from + len) xs in
      let behind : len + (from + o) ≡ from + o + length ws = omega arith in
      qed 𝓛 (‵ (bytes full_share ws b (from + o)) ∷ ‵ Around ∷ []) ∵ move ! (1 ∷ []) $ fsplit ! $
      rewrite ! 1 (λ (k : ℕ). ‵ (bytes full_share rest b k)) behind refl $ move ! (2 ∷ 1 ∷ []) $
      use2 𝓛 (‵ (bytes full_share (ws ++ rest) b (from + o))) (bytes_glue 𝓛 full_share ws rest b (from + o)) $
      rewrite ! 0 (λ (k : ℕ). ‵ (bytes full_share (ws ++ rest) b k)) (sym (before le)) refl $ move ! (1 ∷ 0 ∷ []) $
      use2 𝓛 (‵ (bytes full_share (take from xs ++ (ws ++ rest)) b o)) (bytes_glue 𝓛 full_share (take from xs) (ws ++ rest) b o) $ done !

module _ {M : Type 1} {𝓤 : Ura M} (𝓛 : Logic 𝓤) (b : ℕ) (κ : Lft) where
  abbrev Seen : ℕ → List ℕ → Fml
  Seen o xs = elements_shared u8 xs b o κ

  from_on : (xs : List ℕ) (i o at : ℕ) → i ≤ length xs → at ≡ i + o → ent 𝓤 (sem 𝓛 (Seen o xs)) (sem 𝓛 (Seen at (drop i xs)))
  from_on xs zero o at le e = let same : o ≡ at = omega arith in subst (λ k. ent 𝓤 (sem 𝓛 (Seen o xs)) (sem 𝓛 (Seen k xs))) same (id⊢ 𝓤 _)
  from_on [] (suc i) o at le e = absurd (omega arith)
  from_on (x ∷ xs) (suc i) o at le e =
      via 𝓤 (sem 𝓛 (Seen (o + 1) xs)) (snd∗ 𝓤 (sem 𝓛 (shared_of u8 x b o κ)) (sem 𝓛 (Seen (o + 1) xs))) (from_on xs i (o + 1) at (omega arith) (omega arith))

  up_to : (xs rest : List ℕ) (o : ℕ) → ent 𝓤 (sem 𝓛 (Seen o (xs ++ rest))) (sem 𝓛 (Seen o xs))
  up_to [] rest o = qed 𝓛 (‵ (Seen o rest) ∷ []) ∵ keep ! [] $ done !
  up_to (x ∷ xs) rest o = mono_r 𝓤 (sem 𝓛 (shared_of u8 x b o κ)) (up_to xs rest (o + 1))

  pub run_seen : (o : ℕ) (xs : List ℕ) (from len : ℕ) → from ≤ length xs → ent 𝓤 (sem 𝓛 (Seen o xs)) (sem 𝓛 (Seen (from + o) (take len (drop from xs))))
  run_seen o xs from len le =
      let ys = drop from xs in
      qed 𝓛 (‵ (Seen o xs) ∷ []) ∵ use1 𝓛 (‵ (Seen (from + o) ys)) (from_on xs from o (from + o) le refl) $
      rewrite ! 0 (λ (l : List ℕ). ‵ (Seen (from + o) l)) (sym (take-append-drop len ys)) refl $ by ! (up_to (take len ys) (drop len ys) (from + o))
