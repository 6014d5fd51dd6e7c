use Rattle.std.proofs.Common.{ℕ, List, length, ap, ◌∙◌}
use Rattle.load_texts.proofs.HeaderLemmas.{header_is, sixty_row}
use Rattle.load_texts.proofs.FileLemmas.{sixty}
use Rattle.load_texts.proofs.headers.show_words.Goals as goal

pub show_row-requires : goal.show_row-requires
show_row-requires c =
    let is = c.deref-2.ensures.value ∙ c.in_ok-put_row.ensures in
    sixty_row c.args.fields.now _ (header_is _ c.requires.fields) (ap (λ (xs : List ℕ). length xs) is ∙ sixty c.args.file.now c.requires.long)
