-- Entries that a window gives.
use Rattle.std.proofs.Common.{◌≡◌, ℕ, ◌<◌, Bool, true, false, cond, not, ◌||◌, ltb, List, length, get_or, Option, Some, None, refl, sym, ap, subst, ◌∙◌, arith, inl, inr}
use Rattle.std.specs.List.{AllPass}
use Rattle.std.proofs.lemmas.List.{get_or_default}
use Rattle.std.proofs.lemmas.Bool.{cases_lt}
use Rattle.histories.proofs.Firsts.{none_fails}
use Rattle.memory_window.specs.declared.regions.Region.{Region}
use Rattle.std.specs.Prelude.{◌==◌}
use Rattle.memory_window.specs.Memory.{Memory, regions_of}
use Rattle.memory_window.proofs.Given.{read_given}
use Rattle.md_dwell.specs.Tables.{DwellTable, is_length}
use Rattle.md_dwell.specs.Reading.{bits_of, value_of}
use Rattle.md_dwell.specs.Given.{is_given, first_refused, TablesGiven, OrderGiven}
use Rattle.md_dwell.specs.Verdicts.{is_readable, own_refusal}
use Rattle.md_dwell.specs.declared.tables.DwellEntry.{DwellEntry}
use Rattle.md_dwell.specs.declared.verdicts.Refusal.{Refusal}
use Rattle.md_dwell.specs.declared.verdicts.Refusal.TheVariants.{Table, Entry, Length, Read}
use Rattle.md_dwell.specs.declared.instructions.Instruction.{Instruction}
use Rattle.md_dwell.specs.declared.instructions.Instruction.TheVariants.{Plain, Start, Stop, Jam}

-- whether an image gives an entry depends on its regions alone
pub readable_given : (image : Memory) (e : DwellEntry) → is_readable image e ≡ is_given (regions_of image.areas) e
unfolding is_readable value_of is_given
readable_given image e = ap (λ (b : Bool). (e.len == 0) || b) (read_given image (bits_of e.len) e.at)

last_of : (a b l readable : Bool) → cond {A = Option Refusal} a (Some Table) (cond {A = Option Refusal} b (Some Entry) (cond {A = Option Refusal} l (Some Length) (cond {A = Option Refusal} readable None (Some Read)))) ≡ None → readable ≡ true
last_of true b l readable none = cc
last_of false true l readable none = cc
last_of false false true readable none = cc
last_of false false false true none = refl
last_of false false false false none = cc

-- the entry of a jam that its own refusals let pass
pub order_given : (image : Memory) (order : Instruction) → own_refusal image order ≡ None → OrderGiven (regions_of image.areas) order
order_given image Plain passes = tt
order_given image (Start mask) passes = tt
order_given image (Stop mask) passes = tt
order_given image (Jam table number e) passes =
    sym (readable_given image e) ∙ last_of ((table == 0) || ltb 4 table) ((number == 0) || ltb 25 number) (not (is_length e.len)) (is_readable image e) passes

-- all entries are given where none is refused
pub none_refused : (regions : List Region) (entries : List DwellEntry) → first_refused regions entries ≡ None → AllPass (is_given regions) entries
unfolding first_refused
none_refused regions entries none = none_fails (is_given regions) entries 1 none

-- four tables whose entries are given
pub tables_given : (regions : List Region) (tables : List DwellTable) (a b c d : DwellTable) → length tables ≡ 4
    → AllPass (is_given regions) (get_or tables 0 a).entries → AllPass (is_given regions) (get_or tables 1 b).entries
    → AllPass (is_given regions) (get_or tables 2 c).entries → AllPass (is_given regions) (get_or tables 3 d).entries → TablesGiven regions tables
unfolding TablesGiven
tables_given regions tables a b c d long first second third fourth k e within = elim (cases_lt k 1) [
  | inl one ↦ at 0 a (omega arith) first (omega arith)
  | inr over_one ↦ elim (cases_lt k 2) [
    | inl two ↦ at 1 b (omega arith) second (omega arith)
    | inr over_two ↦ elim (cases_lt k 3) [
      | inl three ↦ at 2 c (omega arith) third (omega arith)
      | inr over_three ↦ at 3 d (omega arith) fourth (omega arith)
    ]
  ]
]
  where
    at : (j : ℕ) (x : DwellTable) → j < length tables → AllPass (is_given regions) (get_or tables j x).entries → j ≡ k → AllPass (is_given regions) (get_or tables k e).entries
    at j x inside holds is = subst (λ (i : ℕ). AllPass (is_given regions) (get_or tables i e).entries) is (subst (λ (t : DwellTable). AllPass (is_given regions) t.entries) (get_or_default tables j x e inside) holds)
