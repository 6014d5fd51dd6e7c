-- The line by which a report is told.
use Rattle.std.specs.Prelude.{◌≡◌, ℕ, ◌<◌, List, [], ◌++◌, codes, decimal}
use Rattle.fsw_outside.specs.Written.{AppendsPart}
use Rattle.rehearsal.specs.declared.report.Report.{Report}
use Rattle.rehearsal.specs.declared.report.Status.{Status}
use Rattle.rehearsal.specs.declared.report.Status.TheVariants as statuses

-- what each status says
abbrev pub line_by : Status → Report → List ℕ
line_by statuses.Done report = []
line_by statuses.WordsRefused report = codes "vigil: words refused\n"
line_by statuses.FileRefused report =
    codes "vigil: file " ++ decimal report.file ++ codes " refused, reason " ++ decimal report.reason ++ codes ", entry " ++ decimal report.line ++ codes "\n"
line_by statuses.ScenarioRefused report = codes "vigil: scenario refused at line " ++ decimal report.line ++ codes ", reason " ++ decimal report.reason ++ codes "\n"
line_by statuses.ReadFailed report = codes "vigil: read failed on file " ++ decimal report.file ++ codes "\n"
line_by statuses.WriteFailed report = codes "vigil: write failed\n"
line_by statuses.NoMemory report = codes "vigil: out of memory\n"

-- the line of a report; none where all went well
unfoldable pub error_line : Report → List ℕ
error_line report = line_by report.status report

-- a text was told, or a proper first part of it where the count of faults rose
pub record Tells (before now : ℕ) (text old new : List ℕ) : Type 0 where
  pub whole : now ≡ before → new ≡ old ++ text
  pub part : before < now → AppendsPart text old new
