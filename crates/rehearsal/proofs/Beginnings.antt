-- How a scenario's reading begins.
use Rattle.std.proofs.Common.{◌≡◌, ℕ, ◌+◌, ◌<◌, ◌≤◌, Bool, false, List, [], ◌∷◌, ◌++◌, length, refl, sym, ◌∙◌, ap, subst, append-nil, arith, Option, Some, None, Err, IsTrue}
use Rattle.std.specs.Prelude.{slice_index}
use Rattle.fsw_outside.specs.Files.{Stored, Content, file_named}
use Rattle.memory_window.specs.declared.regions.Region.{Region}
use Rattle.scenario.specs.declared.reader.Reader.{Reader}
use Rattle.scenario.specs.Texts.{Text, Given, Head, Open, reading, read_bytes, read}
use Rattle.scenario.specs.Standing.{Stands}
use Rattle.subjects.specs.Plans.{Simulated}
use Rattle.rehearsal.specs.Fed.{Fed, nothing_read}
use Rattle.rehearsal.specs.Text.{Holds, IsRead}
use Rattle.rehearsal.specs.declared.text.Next.{Next}
use Rattle.rehearsal.specs.declared.text.Next.TheVariants as nexts
use Rattle.rehearsal.specs.declared.report.Status.TheVariants as statuses
use Rattle.rehearsal.specs.declared.report.Report.{Report}
use Rattle.rehearsal.specs.Run.{Begins}
use Rattle.rehearsal.specs.Outcome.{frames_of, setup_of, refused_read, fault_report, log_in, IsText, IsTextOf, ReadsAhead, Outcome}
use Rattle.rehearsal.proofs.Outcomes.{log_in_none, whole_of, is_closed, parts_whole, refused_append}
use Rattle.frame_exec.specs.Runs.{Setup}
use Rattle.frame_exec.specs.Tables.{tables_fault, first_said, region_fault, Opens}
use Rattle.active_tables.specs.declared.giving.OpenFault.{OpenFault}
use Rattle.active_tables.specs.declared.giving.OpenFault.TheVariants as faults
use Rattle.active_tables.specs.declared.loading.TablesFault.{TablesFault}
use Rattle.packet_log.specs.Blocks.{empty_block}
use Rattle.frame_exec.specs.Following.{Follows}
use Rattle.frame_exec.specs.Standing.{waiting_in}
use Rattle.frame_exec.specs.declared.bench.Bench.{Bench}

-- a text of which nothing was read
abbrev pub unread : Text
unread = record { bytes = []; closed = false }

-- the reader stands for it
pub begins : (reader : Reader) (f : Fed) → Stands reader unread [] → f ≡ nothing_read → Holds reader f unread []
begins reader f stands is = rw is (record { stands = stands; closed = refl; nothing = λ _. refl; total = refl; few = omega arith })

-- nothing of the file was read
pub read_none : (f : Fed) (start : Content) → f ≡ nothing_read → IsRead unread f.pending start start
read_none f start is = rw is (record { same = record { files = refl; openings = refl; name = refl }; parts = refl; ended = λ other. cc })

-- no frames are given before the header
pub no_frames : (got : List Given) → got ≡ [] → 0 ≡ length (frames_of got)
unfolding frames_of
no_frames got none = rw none refl

-- and no log is written
pub no_log : (files : List (List ℕ)) (crowd : Option (List Simulated)) (got : List Given) (held : List ℕ) → got ≡ [] → held ≡ held ++ log_in files crowd got
unfolding frames_of
no_log files crowd got held none = rw none (sym (ap (λ (log : List ℕ). held ++ log) (log_in_none files crowd [] refl) ∙ append-nil held))

-- what the header says, once it was given
pub header_setup : (files : List (List ℕ)) (item : Given) (epoch : ℕ) (regions : List Region) (rest : List Given) → item ∷ [] ≡ Head epoch regions ∷ rest → setup_of files (item ∷ []) ≡ record { epoch = epoch; regions = regions; files = files }
unfolding setup_of
header_setup files item epoch regions rest is =
    let same : item ≡ Head epoch regions = cc in
    rw same refl

-- and what it refuses
pub header_refuses : (files : List (List ℕ)) (item : Given) (epoch : ℕ) (regions : List Region) (rest : List Given) → item ∷ [] ≡ Head epoch regions ∷ rest → refused_read files (item ∷ []) ≡ region_fault regions files
unfolding refused_read
header_refuses files item epoch regions rest is =
    let same : item ≡ Head epoch regions = cc in
    rw same refl

-- what it refuses the whole text refuses
pub header_refuses_whole : (files : List (List ℕ)) (item : Given) (rest more all whole : List Given) → all ≡ (item ∷ []) ++ rest → whole ≡ all ++ more → refused_read files whole ≡ refused_read files (item ∷ [])
header_refuses_whole files item rest more all whole first grown =
    let some : 0 < length (item ∷ []) = omega arith in
    ap (refused_read files) (parts_whole (item ∷ []) rest more all whole first grown) ∙ refused_append files (item ∷ []) (rest ++ more) some

-- the map refuses the read of an entry
pub read_refused : (files : List (List ℕ)) (crowd : Option (List Simulated)) (report : Report) (whole : Text) (file entry : ℕ) (held : List ℕ) → report ≡ record { status = statuses.FileRefused; file = file; line = entry; reason = 10; frames = 0 }
    → refused_read files (reading whole).items ≡ Some (file, entry) → Outcome report files crowd whole held held
read_refused files crowd report whole file entry held is refused = rw is (record { is = refused; reason = refl; frames = refl }, refl)

-- no frame is given with it
pub header_alone : (item : Given) (epoch : ℕ) (regions : List Region) (rest : List Given) → item ∷ [] ≡ Head epoch regions ∷ rest → frames_of (item ∷ []) ≡ []
unfolding frames_of
header_alone item epoch regions rest is =
    let same : item ≡ Head epoch regions = cc in
    rw same refl

-- memory ran out before the first frame
pub out_of_memory : (files : List (List ℕ)) (crowd : Option (List Simulated)) (report : Report) (whole : Text) (held : List ℕ) → report ≡ record { status = statuses.NoMemory; file = 0; line = 0; reason = 0; frames = 0 } → Outcome report files crowd whole held held
out_of_memory files crowd report whole held is = rw is (record { file = refl; line = refl; reason = refl }, refl, refl)

-- a text of which nothing was read gives nothing, and is open
pub nothing_reads : reading unread ≡ record { items = []; ending = Open; stops = [] }
unfolding reading read_bytes read
nothing_reads = refl

-- the bench that was opened begins to run the frames of the text
pub opened : (files : List (List ℕ)) (bench : Bench) (item : Given) (epoch : ℕ) (regions : List Region) (rest : List Given) → Follows bench (record { epoch = epoch; regions = regions; files = files }) [] []
    → waiting_in bench ≡ empty_block → item ∷ [] ≡ Head epoch regions ∷ rest → region_fault regions files ≡ None → Begins bench files (item ∷ [])
opened files bench item epoch regions rest follows waits head given = record {
  waits = waits;
  follows = subst (λ (setup : Setup). Follows bench setup [] []) (sym (header_setup files item epoch regions rest head)) follows;
  given = header_refuses files item epoch regions rest head ∙ given;
  none = header_alone item epoch regions rest head;
  some = omega arith;
}

-- no file is open, and so nothing was handed out
pub none_handed_out : (is_open : Bool) (before faults : ℕ) (file : Option (List ℕ)) (rest : List ℕ) → is_open ≡ false
    → IsText is_open before faults file rest (whole_of unread [] (is_closed rest before faults))
none_handed_out is_open before faults file rest shut = record { front = λ opened. cc; nothing = λ _. refl; closed = refl }

-- the bytes of an open file that were handed out
pub handed_out : (is_open : Bool) (before faults : ℕ) (file : Option (List ℕ)) (start after : Content) (whole : Text) → IsTrue is_open → file ≡ Some start.rest
    → IsTextOf before faults start after whole → IsText is_open before faults file after.rest whole
handed_out is_open before faults file start after whole opened is of = record {
  front = λ _. is ∙ ap (λ (bytes : List ℕ). Some bytes) of.parts;
  nothing = λ shut. cc;
  closed = of.closed;
}

-- the same text, of the file of the same name and since the same count of faults
pub text_by : (is_open : Bool) (before start faults : ℕ) (stored files : List Stored) (name word : List ℕ) (rest : List ℕ) (text : Text) → start ≡ before → files ≡ stored → word ≡ name
    → IsText is_open start faults (file_named files word) rest text → IsText is_open before faults (file_named stored name) rest text
text_by is_open before start faults stored files name word rest text a b c is = rw (← a, ← b, ← c) is

-- there are files where a table of theirs isn't in order
pub some_faulty : (files : List (List ℕ)) (fault : TablesFault) → tables_fault files ≡ Some fault → 0 < length files
unfolding tables_fault first_said
some_faulty [] fault is = let wrong : ⊥ = cc in absurd wrong
some_faulty (file ∷ files) fault is = omega arith

-- a bench isn't opened
pub not_opened : (files : List (List ℕ)) (crowd : Option (List Simulated)) (report : Report) (whole : Text) (fault : OpenFault) (refused : Option (ℕ × ℕ)) (held : List ℕ) → report ≡ fault_report fault → Opens {B = Bench} refused (Err fault)
    → refused_read files (reading whole).items ≡ refused → Outcome report files crowd whole held held
not_opened files crowd report whole (faults.Region file entry) refused held is opens all = read_refused files crowd report whole file entry held is (all ∙ opens)
not_opened files crowd report whole faults.NoMemory refused held is opens all = out_of_memory files crowd report whole held is

-- at most a piece was read past the header's end
pub not_opened_ahead : (report : Report) (whole : Text) (fault : OpenFault) → report ≡ fault_report fault → length whole.bytes ≤ slice_index (reading whole).stops 0 + 4096 → ReadsAhead report whole
not_opened_ahead report whole (faults.Region file entry) is few = rw is few
not_opened_ahead report whole faults.NoMemory is few = rw is few

-- a header is no want of bytes
pub header_is_there : ◌≡◌ {A = Next} nexts.Header nexts.Dry → ⊥
header_is_there is = cc
