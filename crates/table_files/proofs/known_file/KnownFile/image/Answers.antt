use Rattle.std.proofs.Common.{◌≡◌, List, ℕ, Some, drop, sym, ap, subst, ◌∙◌}
use Rattle.table_files.specs.Headers.{kind_of_file, address_of_file, IsTableFile, IsLoadFile}
use Rattle.table_files.proofs.Accepted.{long, table_file, load_file, loaded_where, tabled_where}
use Rattle.table_files.proofs.known_file.KnownFile.image.Goals as goal

pub load_in-at-requires : goal.load_in-at-requires
load_in-at-requires c = rw c.deref-in-None.ensures.value (long c.self.inside.bytes.items c.self.invariant.accepted)

pub returns-in-Some : goal.returns-in-Some
returns-in-Some c =
    let file : List ℕ = c.self.inside.bytes.items in
    let kind : kind_of_file file ≡ Some c.in-Some.kind = sym c.self.invariant.kind_is ∙ c.in-Some.is in
    subst (λ (f : List ℕ). IsTableFile f c.in-Some.kind c.behind.result.now) c.self.view_is
    (table_file file c.in-Some.kind c.behind.result.now c.self.invariant.accepted (tabled_where file c.in-Some.kind kind) kind (c.behind.ensures ∙ ap (λ (f : List ℕ). drop 116 f) c.deref.ensures.value))

pub returns-in-None : goal.returns-in-None
returns-in-None c =
    let file : List ℕ = c.self.inside.bytes.items in
    let load = loaded_where file c.self.invariant.accepted (sym c.self.invariant.kind_is ∙ c.in-None.is) in
    subst (λ (f : List ℕ). IsLoadFile f c.load_in-at.result.0 c.load_in-at.result.1.now) c.self.view_is
    (load_file file c.load_in-at.result.0 c.load_in-at.result.1.now c.self.invariant.accepted load
    (c.load_in-at.ensures.at ∙ ap address_of_file c.deref-in-None.ensures.value) (c.load_in-at.ensures.bytes ∙ ap (λ (f : List ℕ). drop 80 f) c.deref-in-None.ensures.value))
