use Rattle.std.proofs.Common.{◌≡◌, ◌∙◌, ◌++◌, ℕ, List, [], take, ap, sym, arith}
use Rattle.std.proofs.lemmas.List.{take-take}
use Rattle.scenario.proofs.line_buffer.LineBuffer.append_front.Goals as goal

pub returns-then-bytes-ge-NEAR : goal.returns-then-bytes-ge-NEAR
returns-then-bytes-ge-NEAR c =
    let near : take c.args.count c.place_near.new.places ≡ take c.args.count c.args.bytes.now =
    sym (take-take c.args.count 64 c.place_near.new.places (omega arith))
    ∙ ap (take c.args.count) c.place_near.ensures.near
    ∙ take-take c.args.count 64 c.args.bytes.now (omega arith) in
    let empty : [] ≡ c.args.self.now = cc in
    near ∙ ap (λ (xs : List ℕ). xs ++ take c.args.count c.args.bytes.now) empty
