use Rattle.ground_faults.proofs.HeaderMapLemmas.{map_is}
use Rattle.ground_faults.proofs.header_maps.scenario_map.Goals as goal

pub returns-in-Ok-read_header-clause-said : goal.returns-in-Ok-read_header-clause-said
returns-in-Ok-read_header-clause-said c =
    let h = c.in-Ok-read_header.ensures.given in
    let is = c.header.ensures (record { bytes = h.front; closed = h.closed }) h.gave h.stands h.some_items in
    map_is _ c.args.text.now _ _ is.0 h is.1
