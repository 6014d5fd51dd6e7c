-- The first word of a plan's line.
use Rattle.std.specs.Prelude.{ℕ, if◌then◌else◌, List, codes, Option, Some, None}
use Rattle.std.specs.Str.{bytes_eq}
use Rattle.plan_text.specs.declared.verb.Verb.{Verb}
use Rattle.plan_text.specs.declared.verb.Verb.TheVariants as verbs

-- what a word begins
unfoldable pub verb_of : List ℕ → Option Verb
verb_of word =
    if bytes_eq word (codes "epoch") then Some verbs.Epoch
    else if bytes_eq word (codes "region") then Some verbs.Region
    else if bytes_eq word (codes "start") then Some verbs.Start
    else if bytes_eq word (codes "send") then Some verbs.Send
    else if bytes_eq word (codes "app") then Some verbs.Item
    else if bytes_eq word (codes "upset") then Some verbs.Item
    else if bytes_eq word (codes "hold") then Some verbs.Item
    else if bytes_eq word (codes "activate") then Some verbs.Item
    else if bytes_eq word (codes "frame") then Some verbs.Frame
    else if bytes_eq word (codes "at") then Some verbs.At
    else if bytes_eq word (codes "tick") then Some verbs.Tick
    else if bytes_eq word (codes "end") then Some verbs.End
    else None
