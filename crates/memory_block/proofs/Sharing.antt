-- A `&` to the bytes is made where one to a byte is. Assumes `Logic`.
use Prim.Native.Nat.{ℕ, ◌+◌, ◌^◌}
use mathlib.Core.List.{List}
use lib.ListN.{length}
use seplogic.Ra.Ura.{Ura}
use base.Fraction.{full_share}
use base.Fml.{Lft, ffalse, fsep, flt, froom}
use mir.Syntax.{w8}
use types.Logic.{Logic}
use denote.Builtin.{u8}
use denote.Copied.{uint_Copied}
use denote.Memory.{shared_of}
use denote.Plain.{uint_row_laws}
use denote.RawPtr.{Ptr, block_ptr, null_ptr}
use denote.RawPtr.Bytes.{bytes}
use denote.Shares.{shares_each}
use denote.Sharing.{ShrLaws, said}
use denote.SharingLaws.{beside_shr_laws, said_shr_laws}
use denote.Slice.{elements_shared, elements_shr_laws}
use denote.Struct.Lending.{Lends, Lends-both, Lends-first, Lends-said, Lends-false}
use Rattle.memory_block.specs.Ownership.{block_of, bytes_own, bytes_lent}

pub bytes_lent_laws : (p : Ptr) (xs : List ℕ) (n : ℕ) → ShrLaws (bytes_lent p xs n)
bytes_lent_laws (block_ptr b o) xs n = beside_shr_laws _ _ (said_shr_laws (flt (length xs + n) (2 ^ 63)) tt) (elements_shr_laws u8 (uint_row_laws w8) xs b o)
bytes_lent_laws null_ptr xs n = said_shr_laws ffalse tt

module _ {M : Type 1} {𝓤 : Ura M} (𝓛 : Logic 𝓤) (l : Lft) where
  Lends-run : (xs : List ℕ) (b o : ℕ) → Lends 𝓛 (bytes full_share xs b o) (elements_shared u8 xs b o) l
  Lends-run xs b o κ ts inc sp = shares_each 𝓛 u8 (shared_of u8) l ((uint_Copied 𝓛 w8).shares full_share l) xs κ ts b o inc sp

  pub Lends-bytes : (p : Ptr) (xs : List ℕ) (n : ℕ) → Lends 𝓛 (bytes_own p xs n) (bytes_lent p xs n) l
  Lends-bytes (block_ptr b o) xs n =
      let fits = flt (length xs + n) (2 ^ 63) in let run = bytes full_share xs b o in let room = froom (block_of n) b (o + length xs) in
      Lends-both 𝓛 fits (fsep run room) (said fits) (elements_shared u8 xs b o) l (Lends-said 𝓛 fits tt l) (Lends-first 𝓛 run room (elements_shared u8 xs b o) l (Lends-run xs b o))
  Lends-bytes null_ptr xs n = Lends-false 𝓛 (said ffalse) l
