use Rattle.std.proofs.Common.{◌≡◌, ◌∙◌, ◌<◌, ℕ, List, length, take, get_or, refl, sym, ap, subst}
use Rattle.std.proofs.lemmas.List.{length-take-le, get_or-take}
use Rattle.std.proofs.Math.Seq.{take-set-lt}
use Rattle.bus_pipes.specs.Held.{Held, with_item}
use Rattle.bus_pipes.proofs.reserved.ReservedList.item_mut.Goals as goal

pub returns : goal.returns
returns g c =
    let held = c.self.inside in
    let X = g.row.T.Denot in
    let shown : take held.count held.places.items ≡ c.args.self.now.items = ap (λ (h : Held X). h.items) c.self.view_is in
    let size : length (take held.count held.places.items) ≡ held.count = length-take-le held.count held.places.items c.self.invariant.0 in
    let within : c.args.at < held.count = subst (λ (n : ℕ). c.args.at < n) (ap (length {A = X}) (sym shown) ∙ size) c.requires in (
      (
        refl,
        λ w. ap (λ (items : List X). (let x : Held X = record { items = items; room = held.room } in x)) (take-set-lt held.count held.places.items c.args.at w within) ∙ ap (λ (h : Held X). with_item h c.args.at w) c.self.view_is,
      ),
      record {
        writes_back = tt;
        value =
            c.index_mut.ensures.value ∙ sym (get_or-take held.count held.places.items c.args.at c.index_mut.result.now within)
            ∙ ap (λ (items : List X). get_or items c.args.at c.index_mut.result.now) shown;
      },
    )
