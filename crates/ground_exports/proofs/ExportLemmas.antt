-- Lemmas on what is made of a log in a workspace.
use Rattle.std.proofs.Common.{◌≡◌, ℕ, Bool, true, false, List, [], Option, Some, None, Result, Ok, Err, refl, ap, sym, ◌∙◌, subst}
use Rattle.std.specs.Prelude.{IfOk, OnOk, MatchResult, option_map, is_ok, ◌&&◌}
use Rattle.std.specs.Io.KnownBytes.{Appends}
use Rattle.ground_files.specs.Workspaces.{Held, input_bytes, input_taken, settled_at, files_of, KeepsFiles}
use Rattle.ground_files.specs.Verbs.{KeepsAllFiles}
use Rattle.ground_files.specs.declared.verb_status.Status.{Status}
use Rattle.ground_files.specs.declared.verb_status.Status.TheVariants as statuses
use Rattle.ground_logs.specs.Making.{IsMadeOf}
use Rattle.ground_logs.specs.Told.{IsSentence}
use Rattle.ground_exports.specs.Records.{IsCaptureOf}
use Rattle.ground_exports.specs.Rows.{AreRowsOf}
use Rattle.ground_exports.specs.Exports.{IsExportOf, IsExportOfInput, MakesExport, IsExported, known_epoch}
use Rattle.ground_exports.specs.declared.exporting.Export.{Export}
use Rattle.ground_exports.specs.declared.exporting.Export.TheVariants as exports
use Rattle.ground_exports.specs.declared.exporting.Exported.{Exported}

-- what was made of a source was made of the input that was opened
pub export_read : {E : Type 0} (result : Result Bool E) (asked : Exported) (held : Option Held) (remaining before after : Option (List ℕ))
    → ((now : Held) → held ≡ Some now → (bytes : List ℕ) × (input_bytes asked.file.now now ≡ Some bytes) × (remaining ≡ Some bytes))
    → IfOk result (λ whole. (text : List ℕ) → remaining ≡ Some text → IsExportOf asked.export asked.epoch text whole before after)
    → IfOk result (λ whole. (now : Held) → held ≡ Some now → IsExportOfInput asked now whole before after)
export_read (Ok whole) asked held remaining before after opens made =
    λ now is. let opened = opens now is in record { read = opened.0; is_input = opened.1; is_export = made opened.0 opened.2 }
export_read (Err fault) asked held remaining before after opens made = tt

-- bytes that were appended to none are all that there are
all_there_is : (after : Option (List ℕ)) (bytes : List ℕ) → Appends (Some []) after bytes → after ≡ Some bytes
all_there_is None bytes h = absurd h
all_there_is (Some all) bytes h = ap Some h

-- what was written of a log where nothing stood is known
written : (export : Export) (epoch : Option ℕ) (read : List ℕ) (whole : Bool) (after : Option (List ℕ)) → IsExportOf export epoch read whole (Some []) after
    → (made : List ℕ) × (after ≡ Some made)
written exports.Words epoch read whole after h =
    let m : IsMadeOf (IsSentence epoch) read whole (Some []) after = h in (m.bytes, all_there_is after m.bytes m.written)
written exports.Rows epoch read whole after h =
    let m : AreRowsOf read whole (Some []) after = h in (_, all_there_is after _ m.written)
written exports.Capture epoch read whole after h =
    let m : IsCaptureOf (known_epoch epoch) read whole (Some []) after = h in (_, all_there_is after _ m.written)

-- an output that isn't kept leaves the files that there were
files_stay : (before now : Held) (old new : Option Held) → old ≡ Some now → now.files ≡ before.files → KeepsFiles old new → KeepsAllFiles before new
files_stay before now old new is same keeps = keeps.files ∙ ap (option_map files_of) is ∙ ap Some same

-- an export that was made and settled is in its place
settled_well : (asked : Exported) (whole : Bool) (before : Held) (old new : Option Held) (empty after : Option (List ℕ))
    → old ≡ Some (input_taken asked.file.now before) → empty ≡ Some [] → IsExportOfInput asked before whole empty after
    → ((bytes : List ℕ) → after ≡ Some bytes → new ≡ option_map (settled_at asked.output.now bytes true) old)
    → MakesExport asked whole before new
settled_well asked whole before old new empty after is none made settles =
    let export : IsExportOf asked.export asked.epoch made.read whole (Some []) after =
    subst (λ e. IsExportOf asked.export asked.epoch made.read whole e after) none made.is_export in
    let all = written asked.export asked.epoch made.read whole after export in
    record {
      read = made.read;
      made = all.0;
      is_input = made.is_input;
      is_made = subst (λ a. IsExportOf asked.export asked.epoch made.read whole (Some []) a) all.1 export;
      is_put = settles all.0 all.1 ∙ ap (option_map (settled_at asked.output.now all.0 true)) is;
    }

said_of : {F : Type 0} (made : Result Bool F) (said whole : Bool) (P : Bool → Type 0) → made ≡ Ok said → said ≡ whole → IfOk made P → P whole
said_of (Ok is_log) said whole P is same holds = let e : is_log ≡ whole = cc in subst P e holds
said_of (Err fault) said whole P is same holds = let wrong : ⊥ = cc in absurd wrong

kept_as : {F : Type 0} (made : Result Bool F) (said kept : Bool) → made ≡ Ok said → kept ≡ is_ok made → kept ≡ true
kept_as (Ok is_log) said kept is same = same
kept_as (Err fault) said kept is same = let wrong : ⊥ = cc in absurd wrong

-- the end of an export that was made, by how its output settled
ends_by : {T E : Type 0} (settled : Result T E) (asked : Exported) (whole : Bool) (ending status : Status) (before : Held) (read new : Option Held)
    (empty after : Option (List ℕ))
    → ((now : Option Held) → MakesExport asked whole before now → IsExported asked ending before now)
    → read ≡ Some (input_taken asked.file.now before) → empty ≡ Some [] → IsExportOfInput asked before whole empty after
    → OnOk settled ((bytes : List ℕ) → after ≡ Some bytes → new ≡ option_map (settled_at asked.output.now bytes true) read)
    → ((true && is_ok settled) ≡ false → KeepsFiles read new)
    → MatchResult settled (λ done. status ≡ ending) (λ error. status ≡ statuses.WriteFailed)
    → IsExported asked status before new
ends_by (Ok done) asked whole ending status before read new empty after says is none made settles drops ends =
    subst (λ (s : Status). IsExported asked s before new) (sym ends) (says new (settled_well asked whole before read new empty after is none made settles))
ends_by (Err error) asked whole ending status before read new empty after says is none made settles drops ends =
    subst (λ (s : Status). IsExported asked s before new) (sym ends) (files_stay before (input_taken asked.file.now before) read new is refl (drops refl))

pub export_ends : {T E F : Type 0} (made : Result Bool F) (settled : Result T E) (asked : Exported) (said whole kept : Bool) (ending status : Status) (before : Held)
    (old begun read new : Option Held) (empty after : Option (List ℕ))
    → ((now : Option Held) → MakesExport asked whole before now → IsExported asked ending before now)
    → made ≡ Ok said → said ≡ whole → kept ≡ is_ok made → old ≡ Some before → begun ≡ old → read ≡ option_map (input_taken asked.file.now) begun
    → ((now : Held) → old ≡ Some now → empty ≡ Some [])
    → IfOk made (λ is_log. (now : Held) → begun ≡ Some now → IsExportOfInput asked now is_log empty after)
    → OnOk settled ((bytes : List ℕ) → after ≡ Some bytes → new ≡ option_map (settled_at asked.output.now bytes kept) read)
    → ((kept && is_ok settled) ≡ false → KeepsFiles read new)
    → MatchResult settled (λ done. status ≡ ending) (λ error. status ≡ statuses.WriteFailed)
    → IsExported asked status before new
export_ends made settled asked said whole kept ending status before old begun read new empty after says is same keeps told begins reads none makes settles drops ends =
    let is_kept = kept_as made said kept is keeps in
    let held = reads ∙ ap (option_map (input_taken asked.file.now)) (begins ∙ told) in
    let made_of = said_of made said whole (λ (is_log : Bool). (now : Held) → begun ≡ Some now → IsExportOfInput asked now is_log empty after) is same makes in
    ends_by settled asked whole ending status before read new empty after says held (none before told) (made_of before (begins ∙ told))
    (subst (λ (k : Bool). OnOk settled ((bytes : List ℕ) → after ≡ Some bytes → new ≡ option_map (settled_at asked.output.now bytes k) read)) is_kept settles)
    (subst (λ (k : Bool). (k && is_ok settled) ≡ false → KeepsFiles read new) is_kept drops) ends
