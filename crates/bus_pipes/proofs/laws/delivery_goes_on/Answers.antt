use Rattle.bus_pipes.proofs.Deliveries as laws
use Rattle.bus_pipes.proofs.laws.delivery_goes_on.Goals as goal

pub returns : goal.returns
returns c = record {
  kept_none = laws.after_offers_none;
  kept_more = laws.after_offers_more;
  kept_both = laws.after_offers_both;
  drops_none = laws.drops_none;
  drops_more = laws.drops_more;
  drops_both = laws.drops_both;
  drops_few = laws.drops_few;
}
