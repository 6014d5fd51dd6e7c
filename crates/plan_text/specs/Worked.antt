-- A plan and the scenario that it is, written by hand.
use Rattle.std.specs.Prelude.{ℕ, List, codes}
use Rattle.plan_text.specs.declared.stage.Stage.{Stage}
use Rattle.plan_text.specs.declared.stage.Stage.TheVariants as stages

unfoldable pub plan : List ℕ
plan = codes "# A byte is asked for.\nepoch 1000\n  region  RAM 0x1000 256\nstart\nupset 0x1080 0x5A\nsend mm.peek width=8 address=0x1080\nat +0:00:02\nhold MM\ntick\napp NAV 7\nsend 1888c000000602330800001080\nat 1004\nframe 4\nactivate 2\nend at +0:00:06\n"

unfoldable pub scenario : List ℕ
scenario = codes "epoch 1000\nregion RAM 0x1000 256\nstart\nupset 0x1080 0x5A\nsend 1888C000000602330800001080\ntick\ntick\nhold MM\ntick\napp NAV 7\nsend 1888C000000602330800001080\ntick\nactivate 2\ntick\ntick\nend\n"

-- so many items of the frame of this number have come
abbrev pub at_frame : ℕ → ℕ → Stage
at_frame frame items = stages.Frames (record { epoch = 5; frame = frame; items = items })
