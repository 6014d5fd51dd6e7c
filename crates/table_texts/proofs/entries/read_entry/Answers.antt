use Rattle.std.proofs.Common.{ℕ, List, ap, sym, ◌∙◌}
use Rattle.std.specs.Prelude.{Result}
use Rattle.std.specs.Str.{bytes_eq}
use Rattle.row_forms.specs.Words.{words}
use Rattle.table_texts.specs.declared.fault.LineFault.{LineFault}
use Rattle.table_texts.specs.Entries.{at_row, placed_behind}
use Rattle.table_texts.proofs.EntryLemmas.{entry_none, entry_raw, entry_row}
use Rattle.table_texts.proofs.entries.read_entry.Goals as goal

pub returns-in_default-clause-said : goal.returns-in_default-clause-said
returns-in_default-clause-said c = ap (placed_behind c.args.out.now.items) (entry_none c.args.form.now.epoch c.args.form.now.commands.now c.args.form.now.layout c.args.place _ c.in_default.ensures.words)

pub returns-then-eq-clause-said : goal.returns-then-eq-clause-said
returns-then-eq-clause-said c =
    let raw = ap (λ (xs : List ℕ). bytes_eq c.in-Some.word.now xs) (sym c.as_slice.ensures) ∙ sym c.eq.ensures ∙ c.if-eq.true in
    rw (entry_raw c.args.form.now.epoch c.args.form.now.commands.now c.args.form.now.layout c.args.place _ _ _ c.in-Some.ensures.words raw) c.read_raw.ensures.said

pub returns-in-Ok-clause-said : goal.returns-in-Ok-clause-said
returns-in-Ok-clause-said c =
    let raw = ap (λ (xs : List ℕ). bytes_eq c.in-Some.word.now xs) (sym c.as_slice.ensures) ∙ sym c.eq.ensures ∙ c.if-eq.false in
    let row = entry_row c.args.form.now.epoch c.args.form.now.commands.now c.args.form.now.layout c.args.place _ _ _ c.in-Some.ensures.words raw in
    rw (row, ← c.in-Ok.ensures.said) c.read_placed.ensures.said

pub returns-in-Err-clause-said : goal.returns-in-Err-clause-said
returns-in-Err-clause-said c =
    let raw = ap (λ (xs : List ℕ). bytes_eq c.in-Some.word.now xs) (sym c.as_slice.ensures) ∙ sym c.eq.ensures ∙ c.if-eq.false in
    let row = entry_row c.args.form.now.epoch c.args.form.now.commands.now c.args.form.now.layout c.args.place _ _ _ c.in-Some.ensures.words raw in
    ap (placed_behind c.args.out.now.items) (row ∙ ap (λ (r : Result ℕ LineFault). at_row c.args.form.now.epoch c.args.form.now.commands.now c.args.form.now.layout c.args.place r (words c.in-Some.rest.now)) (sym c.in-Err.ensures.said))
