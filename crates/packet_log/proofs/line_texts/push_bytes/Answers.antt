use Rattle.std.proofs.Common.{◌∙◌, ap, arith, ◌++◌}
use Rattle.std.proofs.lemmas.List.{take_all}
use Rattle.packet_forms.specs.Hex.{hex}
use Rattle.packet_log.proofs.HexTexts.{hex_behind, hex_more}
use Rattle.packet_log.proofs.line_texts.push_bytes.Goals as goal

pub bytes-init : goal.bytes-init
bytes-init c = record { value = hex_behind c.args.line.now.bytes c.args.bytes.now; size = omega arith }

pub push_byte-requires : goal.push_byte-requires
push_byte-requires c = omega (arith, c.requires, c.bytes.invariant.size, c.bytes-test.true)

pub bytes-preserved : goal.bytes-preserved
bytes-preserved c = record {
  value = c.push_byte.ensures.value ∙ hex_more c.args.line.now.bytes c.args.bytes.now c.bytes.line.bytes c.bytes.byte-index c.bytes-test.true c.bytes.invariant.value;
  size = omega (arith, c.push_byte.ensures.size, c.bytes.invariant.size);
}

pub returns-clause-value : goal.returns-clause-value
returns-clause-value c = c.bytes.invariant.value ∙ ap (λ xs. c.args.line.now.bytes ++ hex xs) (take_all c.bytes.byte-index c.args.bytes.now c.bytes-test.false)

pub returns-clause-size : goal.returns-clause-size
returns-clause-size c = omega (arith, c.bytes.invariant.size, c.bytes-test.false, c.bytes.auto.byte-index-end)
