use Rattle.std.proofs.Common.{◌≡◌, ◌+◌, sym, ◌∙◌, arith}
use Rattle.std.specs.Prelude.{◌*◌}
use Rattle.packet_forms.specs.Numbers.{be16_at}
use Rattle.table_warnings.proofs.WarningLemmas.{no_entries, list_ends, list_goes_on}
use Rattle.table_warnings.proofs.dwelling.+delays_from.Goals as goal

pub returns-then-left-eq0-clause-value : goal.returns-then-left-eq0-clause-value
returns-then-left-eq0-clause-value t c = no_entries c.args.payload.now c.args.place c.args.left c.if-left-eq0.true

pub returns-then-be16-eq0-clause-value : goal.returns-then-be16-eq0-clause-value
returns-then-be16-eq0-clause-value t c = list_ends c.args.payload.now c.args.place c.args.left (omega arith) (sym c.be16.ensures ∙ c.if-be16-eq0.true)

pub returns-clause-value : goal.returns-clause-value
returns-clause-value t c =
    let goes = list_goes_on c.args.payload.now c.args.place c.args.left (omega arith) (λ e. c.if-be16-eq0.false (c.be16.ensures ∙ e)) in
    let delay : c.from.result ≡ be16_at c.args.payload.now (6 + 8 * c.args.place) = c.from.ensures ∙ c.be16-2.ensures in
    let more = c.delays_from.ensures.value in
    omega (arith, goes, delay, more)
