use Rattle.std.proofs.Common.{sym, ap, ◌∙◌}
use Rattle.bus_pipes.specs.Pipes.{PipeState, count_of_id}
use Rattle.bus_pipes.proofs.Deliveries.{count_of_both}
use Rattle.bus_pipes.proofs.pipe.Pipe.count.Goals as goal

pub returns : goal.returns
returns c =
    rw (c.count_of_id.ensures.count, c.count_of_id-2.ensures.count)
    (sym (count_of_both c.args.id c.as_slices.result.0.now c.as_slices.result.1.now) ∙ ap (count_of_id c.args.id) c.as_slices.ensures
    ∙ ap (λ (pipe : PipeState). count_of_id c.args.id pipe.packets) c.self.view_is)
