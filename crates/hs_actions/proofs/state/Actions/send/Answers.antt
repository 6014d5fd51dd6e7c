use Rattle.std.proofs.Common.{◌≡◌, ℕ, ◌+◌, ◌-◌, get_or, refl, ap, ◌∙◌, arith}
use Rattle.hs_tables.specs.Actions.{entry_of, blank_row}
use Rattle.hs_actions.proofs.Paths.{stands_not, goes_no_entry, goes_cooling, goes_sent, stands_sent}
use Rattle.hs_actions.proofs.state.Actions.send.Goals as goal

pub returns-in_default-clause-stands : goal.returns-in_default-clause-stands
returns-in_default-clause-stands c = λ past a is now stood.
    let acts = c.args.acts.now in
    let self = c.args.self.now in
    let back : c.from.result + 1 - 1 ≡ c.args.place = omega arith in
    let found = c.entry.ensures ∙ ap (λ (n : ℕ). entry_of (get_or acts n blank_row)) back in
    stands_not acts past self a (goes_no_entry acts past self a c.args.place c.entry.result is found c.in_default.is) stood

pub returns-in_default-clause-went : goal.returns-in_default-clause-went
returns-in_default-clause-went c = λ past a is now stood.
    let acts = c.args.acts.now in
    let back : c.from.result + 1 - 1 ≡ c.args.place = omega arith in
    let found = c.entry.ensures ∙ ap (λ (n : ℕ). entry_of (get_or acts n blank_row)) back in
    goes_no_entry acts past c.args.self.now a c.args.place c.entry.result is found c.in_default.is

pub returns-then-self-place-ne0-clause-stands : goal.returns-then-self-place-ne0-clause-stands
returns-then-self-place-ne0-clause-stands c = λ past a is now stood.
    let acts = c.args.acts.now in
    let self = c.args.self.now in
    stands_not acts past self a (goes_cooling acts past self a c.args.place is now c.requires (omega arith) stood) stood

pub returns-then-self-place-ne0-clause-went : goal.returns-then-self-place-ne0-clause-went
returns-then-self-place-ne0-clause-went c = λ past a is now stood.
    goes_cooling c.args.acts.now past c.args.self.now a c.args.place is now c.requires (omega arith) stood

pub returns-clause-stands : goal.returns-clause-stands
returns-clause-stands c = λ past a is now stood.
    let acts = c.args.acts.now in
    let self = c.args.self.now in
    let back : c.from.result + 1 - 1 ≡ c.args.place = omega arith in
    let found = c.entry.ensures ∙ ap (λ (n : ℕ). entry_of (get_or acts n blank_row)) back in
    let over : get_or self.cooldowns c.args.place 0 ≡ 0 = omega arith in
    stands_sent acts past self a _ c.args.place c.in-Some.entry.cooldown c.entry.result c.in-Some.entry is now c.requires (omega arith) found c.in-Some.is refl over refl refl refl refl stood

pub returns-clause-went : goal.returns-clause-went
returns-clause-went c = λ past a is now stood.
    let acts = c.args.acts.now in
    let self = c.args.self.now in
    let back : c.from.result + 1 - 1 ≡ c.args.place = omega arith in
    let found = c.entry.ensures ∙ ap (λ (n : ℕ). entry_of (get_or acts n blank_row)) back in
    let over : get_or self.cooldowns c.args.place 0 ≡ 0 = omega arith in
    goes_sent acts past self a c.args.place c.entry.result c.in-Some.entry is now c.requires found c.in-Some.is over stood
