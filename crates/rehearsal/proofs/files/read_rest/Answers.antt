use Rattle.std.proofs.Common.{◌∙◌, arith}
use Rattle.fsw_outside.specs.TellingLaws.{told_then}
use Rattle.rehearsal.proofs.Fetched.{stopped}
use Rattle.rehearsal.proofs.files.read_rest.Goals as goal

pub returns-in-Err-clause-content : goal.returns-in-Err-clause-content
returns-in-Err-clause-content g c =
    told_then c.pieces.invariant.read c.in-Err.ensures.content (λ before middle after first second. (
      record { files = second.0.files ∙ first.0.files; openings = second.0.openings ∙ first.0.openings; name = second.0.name ∙ first.0.name },
      stopped c.in-Err.why c.pieces.bytes.items before.rest middle.rest after.rest c.in-Err.ensures.short (omega (arith, c.len.ensures, c.pieces-test.true)) first.1 second.1,
    ))
