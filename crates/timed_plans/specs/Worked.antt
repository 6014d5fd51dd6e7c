-- A plan and the scenario that it is, written by hand.
use Rattle.std.specs.Prelude.{ℕ, List, codes}

-- items in any order of time, spans, repeated items, holds and counters
unfoldable pub plan : List ℕ
plan = codes "# NAV hangs for two seconds.\nepoch 1000\nregion  RAM 0x1000 256\nstart\nevery 2s from +0:00:00 to +0:00:05\nsend mm.peek width=8 address=0x1080\nfrom 1000 to 1002\ncounter NAV counts\nfrom 1002 to 1004\ncounter NAV stays\nat 1003\nhold MM for 2\nfrom 1004 to 1006\ncounter NAV = 7\nat +0:00:01\nupset 0x1080 0x5A\nsend 1888c000000602330800001080\nend at +0:00:06\n"

unfoldable pub scenario : List ℕ
scenario = codes "epoch 1000\nregion RAM 0x1000 256\nstart\nsend 1888C000000602330800001080\napp NAV 1\ntick\napp NAV 2\nupset 0x1080 0x5A\nsend 1888C000000602330800001080\ntick\nsend 1888C000000602330800001080\napp NAV 2\ntick\napp NAV 2\nhold MM\ntick\nsend 1888C000000602330800001080\nhold MM\napp NAV 7\ntick\napp NAV 7\ntick\nend\n"

-- dates and times of day
unfoldable pub dated_plan : List ℕ
dated_plan = codes "epoch 1000 is 2026-11-29T18:00:00Z\nregion RAM 0x1000 256\nstart\nat 2026-11-29T18:00:01Z\nhold MM\nfrom 18:00:02 to 18:00:04\nhold CS\nat +0:00:04\nsend sc.jump_ats time=18:03:05\nend at 2026-11-29T18:00:06Z\n"

unfoldable pub dated_scenario : List ℕ
dated_scenario = codes "epoch 1000\nregion RAM 0x1000 256\nstart\ntick\nhold MM\ntick\nhold CS\ntick\nhold CS\ntick\nsend 18A9C00000050927000004A1\ntick\ntick\nend\n"
