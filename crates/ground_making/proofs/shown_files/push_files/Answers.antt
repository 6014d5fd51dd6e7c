use Rattle.std.proofs.Common.{List, ℕ, map, take, ap, sym, ◌∙◌, arith, Bor}
use Rattle.std.specs.Prelude.{option_map}
use Rattle.ground_files.specs.Workspaces.{files_of}
use Rattle.ground_making.specs.MadeFiles.{asked_by}
use Rattle.ground_making.proofs.VerbLemmas.{taken_files, taken_all_files, names_more, held_more, texts_more, cause_more}
use Rattle.ground_making.proofs.shown_files.push_files.Goals as goal

pub returns-in_err-one-clause-files : goal.returns-in_err-one-clause-files
returns-in_err-one-clause-files g c =
    ap (option_map files_of) c.push_file.ensures.held ∙ taken_files c.one.result.file.now (g.W.Workspace.held c.files.workspace)
    ∙ taken_all_files (map (λ (file : Bor (List ℕ)). file.now) (take c.files.file-index c.args.shown.now.files.now)) (g.W.Workspace.held c.args.workspace.now)
    (g.W.Workspace.held c.files.workspace) c.files.invariant.held

pub files-preserved : goal.files-preserved
files-preserved g c = record {
  held = held_more c.args.shown.now (asked_by c.one.result) _ _ _ _ _ _ c.one.ensures (names_more c.args.shown.now.files.now c.files.file-index _ (omega arith))
      c.files.invariant.held c.push_file.ensures.held;
  texts = λ done before was.
      texts_more c.args.shown.now (asked_by c.one.result) _ _ _ _ _ before _ _ _ c.one.ensures
      (names_more c.args.shown.now.files.now c.files.file-index _ (omega arith)) c.files.invariant.held was
      (c.files.invariant.texts (c.earlier-status.ensures.done done) before was) (c.in_ok-one.ensures.text (sym (c.earlier-status.ensures.other (c.earlier-status.ensures.done done)) ∙ done));
  cause = λ before was.
      cause_more c.args.shown.now (asked_by c.one.result) _ _ _ _ _ before _ _ _ c.one.ensures
      (names_more c.args.shown.now.files.now c.files.file-index _ (omega arith)) c.files.invariant.held was
      c.earlier-status.ensures.one c.earlier-status.ensures.other (c.files.invariant.cause before was) c.in_ok-one.ensures.cause;
}
