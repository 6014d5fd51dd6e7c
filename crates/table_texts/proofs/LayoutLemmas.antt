-- Lemmas on layouts.
use Rattle.std.proofs.Common.{◌≡◌, ℕ, ◌*◌, ◌<◌, ◌≤◌, ◌^◌, true, length, refl, arith, Some, Bool, ◌-◌, ◌&&◌, false}
use Rattle.std.specs.Prelude.{nat_lt, ◌==◌, nat_le}
use Rattle.std.proofs.lemmas.Bool.Decides.{nat_tests}
use Rattle.std.proofs.Math.Nat.{mul-le-mul_left}
use Rattle.row_forms.specs.Rows.{row_size, are_fields}
use Rattle.row_forms.proofs.TextLemmas.{and_both}
use Rattle.table_texts.specs.declared.layout.Layout.{Layout}
use Rattle.table_texts.specs.Entries.{fits, is_layout}
use Rattle.table_texts.specs.Fronts.{has_size, is_front}
use Rattle.table_texts.proofs.SequenceLemmas.{IsFront, front_is, size_is}

pub record IsLayout (l : Layout) : Type 0 where
  pub some : 0 < l.count
  pub few : l.count < 65536
  pub sized : 0 < l.size
  pub small : l.size < 65536
  pub short : length l.fields.now < 65536
  pub fields : are_fields l.fields.now ≡ true
  pub fits : fits l ≡ true

pub layout_is : (l : Layout) → is_layout l ≡ true → IsLayout l
unfolding is_layout
layout_is l e =
    let a = and_both _ (fits l) e in
    let b = and_both _ (are_fields l.fields.now) a.0 in
    let c = and_both _ (nat_lt (length l.fields.now) 65536) b.0 in
    let d = and_both _ (nat_lt l.size 65536) c.0 in
    let f = and_both _ (nat_lt 0 l.size) d.0 in
    let g = and_both (nat_lt 0 l.count) (nat_lt l.count 65536) f.0 in
    record {
      some = grind (arith, nat_tests, g);
      few = grind (arith, nat_tests, g);
      sized = grind (arith, nat_tests, f);
      small = grind (arith, nat_tests, d);
      short = grind (arith, nat_tests, c);
      fields = b.1;
      fits = a.1;
    }

fits_row : (l : Layout) (b : Bool) → (l.area == 0) ≡ b → b ≡ true → fits l ≡ true → has_size (row_size l.fields.now) l.size ≡ true
fits_row l true e f h = rw e at h
fits_row l false e f h = absurd (cc)

fits_area : (l : Layout) (b : Bool) → (l.area == 0) ≡ b → b ≡ false → fits l ≡ true → (nat_le l.area l.size && is_front l.fields.now (l.size - l.area)) ≡ true
fits_area l true e f h = absurd (cc)
fits_area l false e f h = rw e at h

-- the fields of entries without a telecommand
pub row_of : (l : Layout) → IsLayout l → (l.area == 0) ≡ true → row_size l.fields.now ≡ Some l.size
row_of l is none = size_is (row_size l.fields.now) l.size (fits_row l (l.area == 0) refl none is.fits)

-- the fields in front of a telecommand
pub record HasArea (l : Layout) : Type 0 where
  pub room : l.area ≤ l.size
  pub front : IsFront l.fields.now (l.size - l.area)

pub area_of : (l : Layout) → IsLayout l → (l.area == 0) ≡ false → HasArea l
area_of l is some =
    let both = and_both (nat_le l.area l.size) (is_front l.fields.now (l.size - l.area)) (fits_area l (l.area == 0) refl some is.fits) in
    record { room = grind (arith, nat_tests, both); front = front_is l.fields.now (l.size - l.area) both.1 }

-- so many entries have few bytes
pub gap_room : (k n s : ℕ) → k ≤ n → n < 65536 → s < 65536 → k * s < 2 ^ 64
gap_room k n s a b c = let h : k * s ≤ k * 65536 = mul-le-mul_left k (omega arith) in omega (arith, h)
