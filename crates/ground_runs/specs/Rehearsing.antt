-- What a rehearsal promises whose report is told by nothing but what is answered.
use Rattle.std.specs.Prelude.{ℕ, None}
use Rattle.rehearsal.specs.Promise.{SinkUse}

-- an error output of which nothing is told
abbrev pub silent : SinkUse ℕ
silent = record { old = 0; new = 0; held_before = None; held_now = None; faults_before = 0; faults_now = 0 }
