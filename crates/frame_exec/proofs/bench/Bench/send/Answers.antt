use Rattle.std.proofs.Common.{◌≡◌, ◌==◌, true, ℕ, List, [], ◌∷◌, ◌++◌, arith, length, refl, sym, ◌∙◌, ap, subst, append-nil}
use Rattle.std.proofs.lemmas.Bool.Decides.{nat_tests}
use Rattle.std.specs.List.{flat_map, list_any}
use Rattle.bus_pipes.specs.Delivery.{after_offers, drops_from}
use Rattle.bus_pipes.specs.declared.names.Out.{Out}
use Rattle.bus_pipes.proofs.Deliveries.{after_offers_none, drops_none}
use Rattle.packet_log.specs.Sent.{makes}
use Rattle.packet_log.specs.Standing.{Stands as LogStands}
use Rattle.frame_wires.specs.Sending.{packet_in, is_reset, sent_of}
use Rattle.frame_exec.specs.Parts.{items_in, given_in}
use Rattle.app_suite.specs.Wakes.{joined}
use Rattle.frame_wires.proofs.Offers.{offers_nothing}
use Rattle.frame_wires.proofs.Stamping.{sent_none}
use Rattle.frame_exec.proofs.bench.Bench.send.Goals as goal

-- nothing was told, and no application gave anything
nothing_in : (told : List Out) (given : List (List Out)) → true ≡ (length told == 0) → joined given ≡ [] → joined (told ∷ given) ≡ []
nothing_in [] given none gave = gave
nothing_in (item ∷ told) given none gave = absurd (grind (arith, nat_tests))

-- neither the frame nor an application gave anything
pub returns-then-is_empty-2-clause-sends : goal.returns-then-is_empty-2-clause-sends
returns-then-is_empty-2-clause-sends c =
    let old = c.args.self.now in
    let none : joined (items_in old.apps) ≡ [] = nothing_in old.apps.activations.items (given_in old.apps) (sym c.if-is_empty.true ∙ c.is_empty.ensures) (c.requires.none (c.is_nothing.ensures c.if-is_nothing.true)) in
    let offered : c.args.input.now.sends ++ flat_map packet_in (joined (items_in old.apps)) ≡ [] =
    offers_nothing c.args.input.now.sends (joined (items_in old.apps)) (c.if-is_empty-2.ensures ∙ ap (λ (packets : List (List ℕ)). length packets == 0) c.sends.ensures.value) none in
    record {
      run = record { lines = refl; epoch = refl; number = refl; failed = refl; tables = refl };
      apps = record { hs = refl; cs = refl; sc = refl; mm = refl; md = refl; lc = refl };
      sent = λ made stands. none ∙ sym (ap (sent_of made) none ∙ sent_none made);
      made = λ made stands.
          subst (λ (items : List Out). LogStands (made ++ flat_map makes items) old.wires.log) (sym none) (subst (λ (packets : List (List ℕ)). LogStands packets old.wires.log) (sym (append-nil made)) stands);
      resets = sym (ap (list_any is_reset) none);
      pipes = sym (ap (after_offers old.wires.bus) offered ∙ after_offers_none old.wires.bus);
      drops = c.clear.ensures.none ∙ sym (ap (drops_from old.wires.bus) offered ∙ drops_none old.wires.bus);
      memory = refl;
    }
