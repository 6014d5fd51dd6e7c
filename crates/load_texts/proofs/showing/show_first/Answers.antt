use Rattle.std.proofs.Common.{◌++◌, ℕ, List, take, ap, ◌∙◌}
use Rattle.packet_forms.specs.Hex.{hex}
use Rattle.load_texts.proofs.LoadedLemmas.{four_put}
use Rattle.load_texts.proofs.showing.show_first.Goals as goal

pub returns : goal.returns
returns c =
    four_put c.args.out.now.items c.extend_from_slice.new.self.items c.push_hex.new.out.items c.show_words.new.out.items c.push.new.self.items _ _ _ _
    c.in_ok-extend_from_slice.ensures.items
    (c.in_ok-push_hex.ensures ∙ ap (λ (xs : List ℕ). c.extend_from_slice.new.self.items ++ hex xs) (c.front.ensures ∙ ap (λ (xs : List ℕ). take 4 xs) c.behind.ensures))
    c.in_ok-show_words.ensures
    c.in_ok-push.ensures.items
