use Rattle.std.proofs.Common.{ℕ, List, [], ◌∷◌, take, get_or, refl, sym, subst, arith, take_all}
use Rattle.std.proofs.lemmas.List.{get_or_default, length-take}
use Rattle.histories.proofs.Fronts.{front_more}
use Rattle.frame_exec.specs.Stages.{Activates}
use Rattle.frame_exec.proofs.Naming.{activates_none, activates_more}
use Rattle.frame_exec.proofs.bench.Bench.activate_all.Goals as goal

pub files-init : goal.files-init
files-init c = record { named = activates_none c.args.self.now c.requires.none; ready = c.requires.ready }

pub name_file-requires-clause-room : goal.name_file-requires-clause-room
name_file-requires-clause-room c =
    let told = c.files.invariant.named.many in
    let front = length-take c.files.file-index c.args.files.now in
    omega (arith, told, front, c.files-test.true, c.requires.few)

pub name_file-requires-clause-time : goal.name_file-requires-clause-time
name_file-requires-clause-time c =
    let goes = c.files.invariant.named.goes in
    omega (arith, goes.epoch, goes.number, c.requires.time)

pub files-preserved : goal.files-preserved
files-preserved c =
    let i = c.files.file-index in
    let files = c.args.files.now in
    let file = get_or files i 0 in
    record {
      named = subst (λ (ns : List ℕ). Activates ns [] c.args.self.now c.name_file.new.self) (sym (front_more files i file c.files-test.true (get_or_default files i 0 file c.files-test.true)))
          (activates_more c.args.self.now c.files.self c.name_file.new.self (take i files) (file ∷ []) [] _ refl c.files.invariant.named c.name_file.ensures.activates);
      ready = c.name_file.ensures.ready;
    }

pub returns-clause-activates : goal.returns-clause-activates
returns-clause-activates c = subst (λ (ns : List ℕ). Activates ns [] c.args.self.now c.files.self) (take_all c.files.file-index c.args.files.now c.files-test.false) c.files.invariant.named
