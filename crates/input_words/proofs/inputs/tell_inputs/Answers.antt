use Rattle.input_words.proofs.InputLemmas.{inputs_joined}
use Rattle.input_words.proofs.inputs.tell_inputs.Goals as goal

pub returns : goal.returns
returns c =
    inputs_joined c.args.vocabulary.now c.args.files.now c.args.time c.args.input.now c.upsets.result.now c.activations.result.now c.sends.result.now
    c.args.out.now.items c.tell_upsets.new.out.items c.tell_activations.new.out.items c.tell_packets.new.out.items
    c.upsets.ensures.value c.activations.ensures.value c.sends.ensures.value
    c.in_ok-tell_upsets.ensures c.in_ok-tell_activations.ensures c.in_ok-tell_packets.ensures
