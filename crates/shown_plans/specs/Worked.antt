-- A scenario, its lines as a plan's scenario has them, and its plan, written by hand.
use Rattle.std.specs.Prelude.{ℕ, List, codes}

unfoldable pub scenario : List ℕ
scenario = codes "# A byte is asked for.\nepoch 1000\n\n  region  RAM 0x1000 256\nstart\nsend 1888c000000602330800001080\napp NAV 1\ntick\ntick\nhold  MM\ntick\nend"

unfoldable pub plain_scenario : List ℕ
plain_scenario = codes "epoch 1000\nregion RAM 0x1000 256\nstart\nsend 1888C000000602330800001080\napp NAV 1\ntick\ntick\nhold MM\ntick\nend\n"

unfoldable pub plan : List ℕ
plan = codes "epoch 1000\nregion RAM 0x1000 256\nstart\nsend mm.peek width=8 address=0x00001080\napp NAV 1\nframe 2\nhold MM\nframe 3\nend\n"
