use Rattle.std.proofs.Common.{arith, subst, List}
use Rattle.fsw_outside.specs.MemShelf.{content_of}
use Rattle.fsw_outside.specs.Memory.{IsPlaceOf}
use Rattle.fsw_outside.proofs.Shelves.{by_two_counts, open_succeeds, open_fails}
use Rattle.fsw_outside.specs.declared.mem_shelf.StoredFile.{StoredFile}
use Rattle.fsw_outside.proofs.mem_shelf.MemShelfShelf.open.Goals as goal

pub returns-in-Some-clause-content : goal.returns-in-Some-clause-content
returns-in-Some-clause-content c =
    let self = c.args.self.now in
    let found = c.file_place-self in
    let searched = subst (λ (files : List StoredFile). IsPlaceOf files c.args.name.now found.result) c.deref.ensures.value found.ensures in
    by_two_counts self.faults self.openings self.faults c.saturating_add-self.result (content_of self) _ _ (λ _. omega arith) (λ _. omega arith)
    (λ _ low. open_succeeds self.files.items c.args.name.now found.result c.in-Some.file self.reading self.openings c.saturating_add-self.result self.last c.in-Some.is searched (omega arith))

pub returns-in_default-clause-content : goal.returns-in_default-clause-content
returns-in_default-clause-content c =
    let self = c.args.self.now in
    let found = c.file_place-self in
    let searched = subst (λ (files : List StoredFile). IsPlaceOf files c.args.name.now found.result) c.deref.ensures.value found.ensures in
    by_two_counts self.faults self.openings c.saturating_add-self-in_default.result c.saturating_add-self.result (content_of self) _ _ (λ _. omega arith) (λ _. omega arith)
    (λ _ low. open_fails self.files.items c.args.name.now found.result _ self.reading self.openings c.saturating_add-self.result self.last searched (omega arith))
