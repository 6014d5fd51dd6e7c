use Rattle.std.proofs.Common.{List, ℕ, refl, sym, ap, ◌∙◌, arith}
use Rattle.table_files.specs.Kinds.{is_padded, rts_tables}
use Rattle.table_files.proofs.Names.{sequence_here, sequence_later, sequences_end}
use Rattle.table_files.proofs.kinds.sequence_kind.Goals as goal

pub numbers-init : goal.numbers-init
unfolding rts_tables
numbers-init c = refl

pub numbers-preserved : goal.numbers-preserved
numbers-preserved c =
    c.numbers.invariant
    ∙ sequence_later c.args.field.now c.numbers.n c.numbers-test.true (ap (λ (name : List ℕ). is_padded name c.args.field.now) (sym c.rts_name.ensures) ∙ sym c.is_padded.ensures ∙ c.if-is_padded.false)

pub returns-then-is_padded : goal.returns-then-is_padded
returns-then-is_padded c =
    sym (c.numbers.invariant
    ∙ sequence_here c.args.field.now c.numbers.n c.numbers-test.true (ap (λ (name : List ℕ). is_padded name c.args.field.now) (sym c.rts_name.ensures) ∙ sym c.is_padded.ensures ∙ c.if-is_padded.true))

pub returns : goal.returns
returns c = sym (c.numbers.invariant ∙ sequences_end c.args.field.now c.numbers.n (omega arith))
