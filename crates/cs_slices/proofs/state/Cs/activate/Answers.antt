use Rattle.std.proofs.Common.{◌++◌, ◌∷◌, [], List, refl, subst}
use Rattle.cs_slices.specs.declared.segments.Segment.{Segment}
use Rattle.cs_slices.specs.Tables.{pair_of, table_named, with_table}
use Rattle.cs_slices.specs.Happenings.Happening.{Renewed}
use Rattle.cs_slices.specs.Histories.{activation_of, tables_after, happened_of}
use Rattle.cs_slices.specs.State.{DutyStands, Stands}
use Rattle.cs_slices.proofs.Histories.{stands_activated}
use Rattle.cs_slices.proofs.state.Cs.activate.Goals as goal

pub returns : goal.returns
unfolding Stands
returns c = record {
  stands = λ tables history stood.
      let a = activation_of c.args.table (table_named c.args.table (pair_of c.args.eeprom.now c.args.memory.now)) in
      stands_activated tables history a c.args.self.now _ stood refl
      (subst (λ (rows : List Segment). DutyStands (with_table c.args.table rows (tables_after tables history)) (happened_of tables history ++ Renewed c.args.table ∷ []) c.renew.new.self) c.table_named.ensures
      (c.renew.ensures (tables_after tables history) (happened_of tables history) stood.duty));
}
