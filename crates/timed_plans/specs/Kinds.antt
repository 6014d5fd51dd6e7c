-- The first word of a line.
use Rattle.std.specs.Prelude.{ℕ, if◌then◌else◌, List, codes, Option, Some, None}
use Rattle.std.specs.Str.{bytes_eq}
use Rattle.timed_plans.specs.declared.kind.LineKind.{LineKind}
use Rattle.timed_plans.specs.declared.kind.LineKind.TheVariants as kinds

-- what a word begins
unfoldable pub kind_of : List ℕ → Option LineKind
kind_of word =
    if bytes_eq word (codes "epoch") then Some kinds.Epoch
    else if bytes_eq word (codes "region") then Some kinds.Region
    else if bytes_eq word (codes "start") then Some kinds.Start
    else if bytes_eq word (codes "send") then Some kinds.Send
    else if bytes_eq word (codes "app") then Some kinds.Item
    else if bytes_eq word (codes "upset") then Some kinds.Item
    else if bytes_eq word (codes "activate") then Some kinds.Item
    else if bytes_eq word (codes "hold") then Some kinds.Hold
    else if bytes_eq word (codes "counter") then Some kinds.Counter
    else if bytes_eq word (codes "frame") then Some kinds.Frame
    else if bytes_eq word (codes "at") then Some kinds.At
    else if bytes_eq word (codes "from") then Some kinds.From
    else if bytes_eq word (codes "every") then Some kinds.Every
    else if bytes_eq word (codes "tick") then Some kinds.Tick
    else if bytes_eq word (codes "end") then Some kinds.End
    else None
