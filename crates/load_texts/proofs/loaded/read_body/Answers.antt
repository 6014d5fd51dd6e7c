use Rattle.load_texts.proofs.LoadedLemmas.{body_none, body_lines, named_body, body_gives}
use Rattle.load_texts.proofs.loaded.read_body.Goals as goal

pub returns-in-Some-behind_path : goal.returns-in-Some-behind_path
returns-in-Some-behind_path c =
    body_gives c.args.named.now c.args.line _ c.args.out.now.items _ _ c.read_named.result
    (named_body c.args.named.now c.args.line _ _ _ c.in-Some-behind_path.ensures.0.0 _ _ c.in-Some.ensures.line c.in-Some-behind_path.ensures.0.1 c.in-Some-behind_path.ensures.1) c.read_named.ensures

pub returns-in-None-behind_path : goal.returns-in-None-behind_path
returns-in-None-behind_path c =
    body_gives c.args.named.now c.args.line _ c.args.out.now.items _ _ c.read_lines.result (body_lines c.args.named.now c.args.line _ _ _ _ c.in-Some.ensures.line c.in-None-behind_path.ensures) c.read_lines.ensures

pub returns-in-None : goal.returns-in-None
returns-in-None c =
    body_gives c.args.named.now c.args.line _ c.args.out.now.items _ _ c.read_lines-in-None.result (body_none c.args.named.now c.args.line _ c.in-None.ensures.line) c.read_lines-in-None.ensures
