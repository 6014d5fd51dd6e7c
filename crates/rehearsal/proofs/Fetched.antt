-- How much of a file was read.
use Rattle.std.proofs.Common.{◌≡◌, ℕ, ◌≤◌, List, ◌++◌, length, refl, sym, ◌∙◌, ap}
use Rattle.rehearsal.specs.declared.files.Unread.{Unread}
use Rattle.rehearsal.specs.declared.files.Unread.TheVariants as unread
use Rattle.rehearsal.specs.Files.{IsPart, IsUnread}

-- reading stopped before the file's end
pub stopped : (why : Unread) (bytes start middle after : List ℕ) → (why ≡ unread.TooLong → ⊥) → length bytes ≤ 65700 → start ≡ bytes ++ middle → (why ≡ unread.Failed → after ≡ middle) → IsUnread why start after
stopped unread.Failed bytes start middle after short few parts same = (length bytes, few, record { front = bytes; parts = parts ∙ ap (λ (rest : List ℕ). bytes ++ rest) (sym (same refl)); size = refl })
stopped unread.TooLong bytes start middle after short few parts same = absurd (short refl)
stopped unread.NoMemory bytes start middle after short few parts same = tt

-- 65,701 bytes were read
pub too_long : (bytes start after : List ℕ) → length bytes ≡ 65701 → start ≡ bytes ++ after → IsPart 65701 start after
too_long bytes start after size parts = record { front = bytes; parts = parts; size = size }
