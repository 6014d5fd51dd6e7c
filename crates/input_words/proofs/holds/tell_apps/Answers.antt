use Rattle.input_words.proofs.HoldLemmas.{holds_joined}
use Rattle.input_words.proofs.holds.tell_apps.Goals as goal

pub returns : goal.returns
returns c =
    holds_joined c.args.time c.args.before.now c.args.now.now c.args.out.now.items
    c.tell_app.new.out.items c.tell_app-2.new.out.items c.tell_app-3.new.out.items c.tell_app-4.new.out.items c.tell_app-5.new.out.items
    c.in_ok-tell_app.ensures c.in_ok-tell_app-2.ensures c.in_ok-tell_app-3.ensures c.in_ok-tell_app-4.ensures c.in_ok-tell_app-5.ensures
