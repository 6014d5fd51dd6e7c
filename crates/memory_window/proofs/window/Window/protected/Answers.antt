use Rattle.std.proofs.Common.{arith, Some, None, ◌-◌, get_or, false, sym, ap, ◌∙◌, Bool, if◌then◌else◌, Option}
use Rattle.memory_window.proofs.Parts.{flag-is}
use Rattle.memory_window.proofs.window.Window.protected.Goals as goal

pub returns-then-is_eeprom : goal.returns-then-is_eeprom
returns-then-is_eeprom c =
    let flag : Option Bool = Some (get_or c.args.self.flags.now (c.args.region - 1) false) in
    sym (flag-is c.args.self.regions.now c.args.self.flags.now c.args.self.block.now c.args.region (c.args.region - 1) (omega arith) (omega arith) (omega (arith, c.args.self.bounded.0, c.args.self.bounded.1))
    ∙ ap (λ (b : Bool). if b then flag else None) (sym c.is_eeprom.ensures ∙ c.if-is_eeprom.true))

pub returns-else-is_eeprom : goal.returns-else-is_eeprom
returns-else-is_eeprom c =
    let flag : Option Bool = Some (get_or c.args.self.flags.now (c.args.region - 1) false) in
    sym (flag-is c.args.self.regions.now c.args.self.flags.now c.args.self.block.now c.args.region (c.args.region - 1) (omega arith) (omega arith) (omega (arith, c.args.self.bounded.0, c.args.self.bounded.1))
    ∙ ap (λ (b : Bool). if b then flag else None) (sym c.is_eeprom.ensures ∙ c.if-is_eeprom.false))
