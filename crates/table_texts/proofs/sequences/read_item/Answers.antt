use Rattle.std.proofs.Common.{ℕ, List, ap, sym, ◌∙◌}
use Rattle.std.specs.Str.{bytes_eq}
use Rattle.row_forms.specs.Rows.{with_front}
use Rattle.table_texts.proofs.SequenceLemmas.{item_none, item_command, item_raw, item_other, front_is}
use Rattle.table_texts.proofs.sequences.read_item.Goals as goal

pub returns-in_default : goal.returns-in_default
returns-in_default c = ap (with_front c.args.out.now.items) (item_none c.args.form.now.epoch c.args.form.now.commands.now c.args.form.now.fields.now _ c.in_default.ensures.words)

pub returns-then-eq : goal.returns-then-eq
returns-then-eq c =
    let is = ap (λ (xs : List ℕ). bytes_eq c.in-Some.word.now xs) (sym c.as_slice.ensures) ∙ sym c.eq.ensures ∙ c.if-eq.true in
    rw (item_command c.args.form.now.epoch c.args.form.now.commands.now c.args.form.now.fields.now _ _ _ c.in-Some.ensures.words is) c.read_stored.ensures

pub returns-then-eq-2 : goal.returns-then-eq-2
returns-then-eq-2 c =
    let first = ap (λ (xs : List ℕ). bytes_eq c.in-Some.word.now xs) (sym c.as_slice.ensures) ∙ sym c.eq.ensures ∙ c.if-eq.false in
    let is = ap (λ (xs : List ℕ). bytes_eq c.in-Some.word.now xs) (sym c.as_slice-2.ensures) ∙ sym c.eq-2.ensures ∙ c.if-eq-2.true in
    rw (item_raw c.args.form.now.epoch c.args.form.now.commands.now c.args.form.now.fields.now _ _ _ c.in-Some.ensures.words first is) c.read_raw.ensures

pub returns : goal.returns
returns c =
    let first = ap (λ (xs : List ℕ). bytes_eq c.in-Some.word.now xs) (sym c.as_slice.ensures) ∙ sym c.eq.ensures ∙ c.if-eq.false in
    let other = ap (λ (xs : List ℕ). bytes_eq c.in-Some.word.now xs) (sym c.as_slice-2.ensures) ∙ sym c.eq-2.ensures ∙ c.if-eq-2.false in
    ap (with_front c.args.out.now.items) (item_other c.args.form.now.epoch c.args.form.now.commands.now c.args.form.now.fields.now _ _ _ c.in-Some.ensures.words first other)

pub read_stored-requires-clause-few : goal.read_stored-requires-clause-few
read_stored-requires-clause-few c = (front_is _ _ c.requires.front).few
