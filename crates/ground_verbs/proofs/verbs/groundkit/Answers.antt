use Rattle.std.proofs.Common.{inl, inr, refl, Option, None, ℕ, List, map, string_bytes, subst}
use Rattle.clap.specs.Simple.{app_of}
use Rattle.clap.specs.Values.{kind_of}
use Rattle.clap.specs.Walk.{Row, Text}
use Rattle.clap.specs.declared.error.kind.ErrorKind.TheVariants as kinds
use Rattle.rehearsal.specs.Promise.{shelf_use}
use Rattle.ground_verbs.specs.Followed.{DoesAny}
use Rattle.ground_verbs.proofs.FoundLemmas.{found_as_said, no_fault, some_fault}
use Rattle.ground_verbs.proofs.verbs.groundkit.Goals as goal

pub returns-in_default : goal.returns-in_default
returns-in_default g c = λ before is. (None, inl (record { kind = kinds.OutOfMemory; is_fault = inl refl; is_status = inl c.tell_no_memory.ensures; same = is }))

pub returns-in-Ok-try_get_matches_from : goal.returns-in-Ok-try_get_matches_from
returns-in-Ok-try_get_matches_from g c = λ before is.
    let words : List (List ℕ) = map string_bytes c.args.words.now in
    let found = c.in-Ok-try_get_matches_from.found in
    let none = no_fault c.in-Ok.ensures.0 (app_of c.in-Ok.command) words c.in-Ok.ensures.1 c.in-Ok-try_get_matches_from.ensures.kinds in
    let verb = found_as_said c.in-Ok.ensures.0 (app_of c.in-Ok.command) words found c.in-Ok.ensures.1 c.in-Ok-try_get_matches_from.ensures.matches in (
      c.in-Ok.ensures.0,
      inr (
        none,
        subst
            (λ (said : Option (Text × List Row)). DoesAny (shelf_use g.S.Shelf.told g.S.Shelf.is_open g.S.Shelf.faults g.S.Shelf.mark c.args.shelf) said c.follow.result before (g.W.Workspace.held c.follow.new.workspace))
            verb (c.follow.ensures before is),
      ),
    )

pub returns-in-Err : goal.returns-in-Err
returns-in-Err g c = λ before is.
    let words : List (List ℕ) = map string_bytes c.args.words.now in
    let fault = some_fault c.in-Ok.ensures.0 (app_of c.in-Ok.command) words (kind_of c.in-Err.error) c.in-Ok.ensures.1 c.in-Err.ensures.kinds in
    (c.in-Ok.ensures.0, inl (record { kind = kind_of c.in-Err.error; is_fault = fault; is_status = c.tell_words.ensures; same = is }))
