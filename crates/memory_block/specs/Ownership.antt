-- What the owner of a block's bytes and the right to free the block own and lend.
use Rattle.std.specs.Prelude.{ℕ, ◌+◌, ◌^◌, List, length}
use base.Fraction.{full_share}
use base.Fml.{Lft, Fml, ffalse, fsep, flt, froom}
use mir.Syntax.{Ty, ty_int, ty_array, w8}
use denote.Builtin.{u8}
use denote.Slice.{elements_shared}
use denote.Sharing.{said, beside}
use denote.RawPtr.{Ptr, block_ptr, null_ptr}
use denote.RawPtr.Bytes.{bytes}

-- a block of n bytes, as the machine sees it
abbrev pub block_of : ℕ → Ty
block_of n = ty_array (ty_int w8) n

-- the bytes xs that lie at a pointer, and behind them n places that hold nothing yet
abbrev pub bytes_own : Ptr → List ℕ → ℕ → Fml
bytes_own (block_ptr b o) xs n = fsep (flt (length xs + n) (2 ^ 63)) (fsep (bytes full_share xs b o) (froom (block_of n) b (o + length xs)))
bytes_own null_ptr xs n = ffalse

-- what a `&` to the bytes may read for as long as it lives
abbrev pub bytes_lent : Ptr → List ℕ → ℕ → Lft → Fml
bytes_lent (block_ptr b o) xs n = beside (said (flt (length xs + n) (2 ^ 63))) (elements_shared u8 xs b o)
bytes_lent null_ptr xs n = said ffalse

-- the allocator's token for a block of n bytes at a pointer
abbrev pub deed_owns : (Ty → Ptr → Fml) → Ptr → ℕ → Fml
deed_owns token p n = token (block_of n) p
