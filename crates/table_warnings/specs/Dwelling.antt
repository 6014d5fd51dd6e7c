-- The list of a dwell table: its entries before the first of length 0.
use Rattle.std.specs.Prelude.{ℕ, zero, suc, ◌+◌, ◌*◌, ◌==◌, Bool, if◌then◌else◌, List}
use Rattle.packet_forms.specs.Numbers.{be16_at}

-- the delays of the list from a place on together, where so many entries are left
unfoldable pub delays_from : List ℕ → ℕ → ℕ → ℕ
delays_from payload place zero = 0
delays_from payload place (suc left) =
    if be16_at payload (4 + 8 * place) == 0 then 0 else be16_at payload (6 + 8 * place) + delays_from payload (place + 1) left

-- whether all delays of the list are 0
unfoldable pub has_no_delay : List ℕ → Bool
has_no_delay payload = delays_from payload 0 25 == 0
