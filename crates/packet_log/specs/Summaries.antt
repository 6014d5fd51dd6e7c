-- The summary of a log.
use Rattle.std.specs.Prelude.{◌≡◌, ℕ, List, ◌++◌, Some, codes, decimal, refl}
use Rattle.std.proofs.Common.{sym, ◌∙◌}
use Rattle.packet_forms.specs.Numbers.{be16_bytes}
use Rattle.fsw_outside.specs.Tally.{Tally, tally_of}
use Rattle.packet_forms.specs.Hex.{hex}
use Rattle.packet_log.specs.declared.summary.Sums.{Sums}

-- the tally that is kept
abbrev pub tally_in : Sums → Tally
tally_in s = record { lines = s.lines; bytes = s.bytes; crc = s.crc }

-- the four lines: how many frames, lines and bytes there were, and the check of the bytes in four hexadecimal digits
unfoldable pub summary_text : ℕ → Tally → List ℕ
summary_text frames t =
    codes "frames " ++ decimal frames ++ codes "\nlines " ++ decimal t.lines ++ codes "\nbytes " ++ decimal t.bytes ++ codes "\ncrc " ++ hex (be16_bytes t.crc) ++ codes "\n"

-- what a summary tells of its tally is the tally of what it tells
pub kept_tally : (log : List ℕ) (kept t : Tally) → kept ≡ tally_of log → Some kept ≡ Some t → (bytes : List ℕ) × (Some log ≡ Some bytes) × (t ≡ tally_of bytes)
kept_tally log kept t is tells = let same : kept ≡ t = cc in (log, refl, sym same ∙ is)
