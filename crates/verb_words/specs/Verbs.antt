-- The verbs by their names.
use Rattle.std.specs.Prelude.{ℕ, List, Option, Some, None, if◌then◌else◌, bytes_eq, codes}
use Rattle.verb_words.specs.declared.verbs.Verb.{Verb}
use Rattle.verb_words.specs.declared.verbs.Verb.TheVariants as verbs

-- the verb of a name
unfoldable pub verb_named : List ℕ → Option Verb
verb_named name = if bytes_eq name (codes "table") then Some verbs.Table
    else if bytes_eq name (codes "scenario") then Some verbs.Scenario
    else if bytes_eq name (codes "build") then Some verbs.Build
    else if bytes_eq name (codes "check") then Some verbs.Check
    else if bytes_eq name (codes "show") then Some verbs.Show
    else if bytes_eq name (codes "run") then Some verbs.Run
    else if bytes_eq name (codes "words") then Some verbs.Words
    else if bytes_eq name (codes "csv") then Some verbs.Csv
    else if bytes_eq name (codes "pcap") then Some verbs.Pcap
    else if bytes_eq name (codes "diff") then Some verbs.Diff
    else if bytes_eq name (codes "completions") then Some verbs.Completions
    else if bytes_eq name (codes "man") then Some verbs.Man
    else None
