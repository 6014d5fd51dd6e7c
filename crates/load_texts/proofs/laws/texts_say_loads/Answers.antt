use Rattle.load_texts.proofs.TakenLemmas.{texts_say}
use Rattle.load_texts.proofs.AddressLemmas.{address_is}
use Rattle.load_texts.proofs.laws.texts_say_loads.Goals as goal

pub returns : goal.returns
returns c = record { load = texts_say; address = address_is }
