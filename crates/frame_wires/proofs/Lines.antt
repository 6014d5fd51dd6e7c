-- Lines that are put behind those that wait, one after another.
use Rattle.std.proofs.Common.{◌≡◌, ℕ, ◌+◌, ◌<◌, List, [], ◌∷◌, ◌++◌, length, take, drop, get_or, Option, refl, sym, ◌∙◌, ap, subst, append-nil}
use Rattle.std.specs.Borrow.{Bor}
use Rattle.std.specs.Prelude.{Ok, Err}
use Rattle.std.proofs.lemmas.List.{take-append-drop}
use Rattle.std.proofs.lemmas.Grind.{flat_map-append}
use Rattle.std.specs.List.{flat_map}
use Rattle.histories.proofs.Fronts.{flat_map_front}
use Rattle.packet_log.specs.Blocks.{Waiting, Puts}
use Rattle.packet_log.proofs.Blocks.{puts_whole, puts_then, puts_part}

-- nothing is put
pub nothing_put : {E : Type 0} (block : Waiting) (held : Option (List ℕ)) → Puts {E = E} (Ok tt) [] block block held held
nothing_put block held = puts_whole block block [] held (ap (λ (bytes : List ℕ). let b : Waiting = record { bytes = bytes; taken = block.taken; ends = block.ends } in b) (sym (append-nil block.bytes)))

-- all lines, as those up to one, that one, and those behind it
parts : {A : Type 0} (line : A → List ℕ) (xs : List A) (i : ℕ) (x : A) → i < length xs → x ≡ get_or xs i x
    → (flat_map line (take i xs) ++ line x) ++ flat_map line (drop (i + 1) xs) ≡ flat_map line xs
parts line xs i x within is =
    ap (λ (bytes : List ℕ). bytes ++ flat_map line (drop (i + 1) xs)) (sym (flat_map_front line xs i x within is))
    ∙ sym (flat_map-append line (take (i + 1) xs) (drop (i + 1) xs)) ∙ ap (flat_map line) (take-append-drop (i + 1) xs)

module _ {A E : Type 0} (line : A → List ℕ) (xs : List A) (i : ℕ) (x : A) (within : i < length xs) (is : x ≡ get_or xs i x) (text : List ℕ) (same : text ≡ line x) (old middle new : Waiting) (start between end : Option (List ℕ))
    (front : Puts {E = E} (Ok tt) (flat_map line (take i xs)) old middle start between) where
  -- one line more was put
  pub lines_more : Puts {E = E} (Ok tt) text middle new between end → Puts {E = E} (Ok tt) (flat_map line (take (i + 1) xs)) old new start end
  lines_more more =
      subst (λ (bytes : List ℕ). Puts {E = E} (Ok tt) bytes old new start end) (ap (λ (bytes : List ℕ). flat_map line (take i xs) ++ bytes) same ∙ sym (flat_map_front line xs i x within is))
      (puts_then (Ok tt) (flat_map line (take i xs)) text old middle new start between end front more)

  -- a part of one line more was put
  pub lines_cut : (error : E) → Puts {E = E} (Err error) text middle new between end → Puts {E = E} (Err error) (flat_map line xs) old new start end
  lines_cut error more =
      subst (λ (bytes : List ℕ). Puts {E = E} (Err error) bytes old new start end) (ap (λ (bytes : List ℕ). (flat_map line (take i xs) ++ bytes) ++ flat_map line (drop (i + 1) xs)) same ∙ parts line xs i x within is)
      (puts_part error (flat_map line (take i xs) ++ text) (flat_map line (drop (i + 1) xs)) old new start end (puts_then (Err error) (flat_map line (take i xs)) text old middle new start between end front more))

-- the lines of lists of items
pub in_lists : {A : Type 0} (line : A → List ℕ) (lists : List (Bor (List A))) → flat_map line (flat_map (λ (list : Bor (List A)). list.now) lists) ≡ flat_map (λ (list : Bor (List A)). flat_map line list.now) lists
in_lists line [] = refl
in_lists line (list ∷ lists) = flat_map-append line list.now (flat_map (λ (list : Bor (List _)). list.now) lists) ∙ ap (λ (more : List ℕ). flat_map line list.now ++ more) (in_lists line lists)
