-- Memory is whole at its start, and stays whole.
use Rattle.std.proofs.Common.{◌≡◌, ℕ, zero, suc, ◌+◌, ◌≤◌, Bool, List, [], ◌∷◌, length, take, drop, map, All, None, refl, sym, ap, subst, ◌∙◌, arith, length-drop, length-take, length-set}
use Rattle.std.specs.Prelude.{nat_eq, if◌then◌else◌}
use Rattle.std.proofs.lemmas.List.{length-map, length-replicate}
use Rattle.std.proofs.lemmas.List.Sums.{sum_by-cons}
use Rattle.memory_block.specs.Zeros.{zeros}
use Rattle.memory_window.specs.declared.operations.MemOp.{MemOp}
use Rattle.memory_window.specs.declared.operations.MemOp.TheVariants.{Poke, Fill, Bytes, FromFile, Protect}
use Rattle.memory_window.specs.declared.regions.Region.{Region}
use Rattle.memory_window.specs.Regions.{is_eeprom, map_fault_of, total_of}
use Rattle.memory_window.specs.Operations.{protect, protected_by}
use Rattle.memory_window.specs.Landing.{land, landed}
use Rattle.memory_window.specs.Memory.{Area, Memory, cut, changed, start_memory, upset_at}
use Rattle.memory_window.specs.Reading.{IsFilled, IsWhole}
use Rattle.memory_window.proofs.Areas.{length-each_from, regions-changed, regions-cut}
use Rattle.memory_window.proofs.Maps.{map-facts}
use Rattle.memory_window.proofs.ReadLaws.{change}

all-more : (r : Area) (areas : List Area) → IsFilled r → All IsFilled areas → All IsFilled (r ∷ areas)
all-more r areas here behind zero d within = here
all-more r areas here behind (suc k) d within = behind k d (omega arith)

-- the areas of a block as large as the regions together
pub cut-filled : (regions : List Region) (block : List ℕ) → total_of regions ≡ length block → All IsFilled (cut regions block)
cut-filled [] block whole = λ k d within. absurd (omega arith)
cut-filled (r ∷ regions) block whole =
    let sum : total_of (r ∷ regions) ≡ r.len + total_of regions = sum_by-cons (λ (s : Region). s.len) r regions in
    all-more (record { region = r; bytes = take r.len block }) (cut regions (drop r.len block)) (omega (arith, length-take r.len block)) (cut-filled regions (drop r.len block) (omega (arith, length-drop r.len block)))

pub cut-length : (regions : List Region) (block : List ℕ) → length (cut regions block) ≡ length regions
cut-length regions block = sym (length-map (cut regions block) (λ (r : Area). r.region)) ∙ ap length (regions-cut regions block)

-- memory of a map, from one block
pub cut-whole : (regions : List Region) (block : List ℕ) (guarded : List Bool) → map_fault_of regions ≡ None → total_of regions ≡ length block → length guarded ≡ length regions → IsWhole (record { areas = cut regions block; guarded = guarded })
cut-whole regions block guarded ok whole flagged = record {
  map = ap map_fault_of (regions-cut regions block) ∙ ok;
  filled = cut-filled regions block whole;
  flagged = flagged ∙ sym (cut-length regions block);
}

-- what a block shows whose flags, eight, are cut at the number of regions
pub shown-whole : (regions : List Region) (block : List ℕ) (guarded : List Bool) (m : Memory) → ◌≡◌ {A = Memory} (record { areas = cut regions block; guarded = take (length regions) guarded }) m
    → (map_fault_of regions ≡ None) × (length guarded ≡ 8) × (total_of regions ≡ length block) → IsWhole m
shown-whole regions block guarded m is facts =
    let few : length regions ≤ 8 = (map-facts regions facts.0).few in
    subst IsWhole is (cut-whole regions block (take (length regions) guarded) facts.0 facts.2 (omega (arith, length-take (length regions) guarded)))

pub start-whole : (regions : List Region) → map_fault_of regions ≡ None → IsWhole (start_memory regions)
unfolding zeros
start-whole regions ok = cut-whole regions (zeros (total_of regions)) (map (λ r. is_eeprom r.kind) regions) ok (sym (length-replicate (total_of regions) 0)) (length-map regions (λ (r : Region). is_eeprom r.kind))

-- areas stay filled where their bytes are changed
changed-filled : (f : ℕ → ℕ → ℕ) (areas : List Area) → All IsFilled areas → All IsFilled (changed f areas)
changed-filled f [] all k d within = absurd (omega arith)
changed-filled f (r ∷ areas) all zero d within = length-each_from f r.region.start r.bytes ∙ all 0 r (omega arith)
changed-filled f (r ∷ areas) all (suc k) d within = changed-filled f areas (λ j e lt. all (suc j) e (omega arith)) k d (omega arith)

changed-whole : (f : ℕ → ℕ → ℕ) (m : Memory) (guarded : List Bool) → length guarded ≡ length m.guarded → IsWhole m → IsWhole (record { areas = changed f m.areas; guarded = guarded })
changed-whole f m guarded same whole = record {
  map = ap map_fault_of (regions-changed f m.areas) ∙ whole.map;
  filled = changed-filled f m.areas whole.filled;
  flagged = same ∙ whole.flagged ∙ sym (length-map m.areas (change f));
}

protect-length : (op : MemOp) (flags : List Bool) → length (protect op flags) ≡ length flags
protect-length (Poke size at value) flags = refl
protect-length (Fill at len byte) flags = refl
protect-length (Bytes at part) flags = refl
protect-length (FromFile load at len) flags = refl
protect-length (Protect region on) flags = length-set flags _ on

protected-length : (ops : List MemOp) (flags : List Bool) → length (protected_by ops flags) ≡ length flags
protected-length [] flags = refl
protected-length (op ∷ ops) flags = protected-length ops (protect op flags) ∙ protect-length op flags

pub land-whole : (loads : List (ℕ × List ℕ)) (ops : List MemOp) (m : Memory) → IsWhole m → IsWhole (land loads ops m)
land-whole loads ops m whole = changed-whole (landed loads ops) m (protected_by ops m.guarded) (protected-length ops m.guarded) whole

pub upset-whole : (m : Memory) (at value : ℕ) → IsWhole m → IsWhole (upset_at m at value)
upset-whole m at value whole = changed-whole (λ (a x : ℕ). if nat_eq a at then value else x) m m.guarded refl whole
