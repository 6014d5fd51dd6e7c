use Rattle.std.proofs.Common.{[], option_map, sym, ◌∙◌, ap}
use Rattle.active_tables.specs.declared.giving.EntryPlace.{EntryPlace}
use Rattle.frame_exec.proofs.Behind.{standing_follows}
use Rattle.active_tables.proofs.GivenTables.{given_loaded}
use Rattle.frame_exec.proofs.bench.Bench.open.Goals as goal

pub begin-requires : goal.begin-requires
begin-requires c =
    let none = sym c.refused_place.ensures ∙ ap (option_map (λ (place : EntryPlace). (place.file, place.entry))) c.in_default.is in
    record { workers = c.requires.workers; given = given_loaded c.args.header.now.map c.args.files.now c.args.tables c.requires.loaded none }

pub returns-in-Ok-clause-follows : goal.returns-in-Ok-clause-follows
returns-in-Ok-clause-follows c = standing_follows c.in-Ok.bench _ [] (c.in-Ok.ensures _ c.requires.loaded)
