use Rattle.cs_slices.proofs.Tallying.{none_from, judged_first, found_first, judged_same, found_same, judged_eeprom, judged_memory, found_other}
use Rattle.cs_slices.proofs.tally.Tally.judge.Goals as goal

pub returns-in_default-clause-stands : goal.returns-in_default-clause-stands
returns-in_default-clause-stands c = λ happened s stood same ends is. judged_first happened s c.args.self.now c.args.place c.args.check stood c.requires same ends is (none_from _ c.in_default.not-Some)

pub returns-in_default-clause-found : goal.returns-in_default-clause-found
returns-in_default-clause-found c = λ happened s stood same ends is. found_first happened s c.args.self.now c.args.place c.args.check stood c.requires same ends is (none_from _ c.in_default.not-Some)

pub returns-then-base-check-clause-stands : goal.returns-then-base-check-clause-stands
returns-then-base-check-clause-stands c = λ happened s stood same ends is. judged_same happened s c.args.self.now c.args.place c.args.check stood c.requires same ends is c.in-Some.base c.in-Some.is c.if-base-check.true

pub returns-then-base-check-clause-found : goal.returns-then-base-check-clause-found
returns-then-base-check-clause-found c = λ happened s stood same ends is. found_same happened s c.args.self.now c.args.place c.args.check stood c.requires same ends is c.in-Some.base c.in-Some.is c.if-base-check.true

pub returns-then-place-lt16-clause-stands : goal.returns-then-place-lt16-clause-stands
returns-then-place-lt16-clause-stands c = λ happened s stood same ends is. judged_eeprom happened s c.args.self.now c.args.place c.args.check stood c.requires same ends is c.in-Some.base c.in-Some.is c.if-base-check.false c.if-place-lt16.true

pub returns-then-place-lt16-clause-found : goal.returns-then-place-lt16-clause-found
returns-then-place-lt16-clause-found c = λ happened s stood same ends is. found_other happened s c.args.self.now c.args.place c.args.check stood c.requires same ends is c.in-Some.base c.in-Some.is c.if-base-check.false

pub returns-else-place-lt16-clause-stands : goal.returns-else-place-lt16-clause-stands
returns-else-place-lt16-clause-stands c = λ happened s stood same ends is. judged_memory happened s c.args.self.now c.args.place c.args.check stood c.requires same ends is c.in-Some.base c.in-Some.is c.if-base-check.false c.if-place-lt16.false

pub returns-else-place-lt16-clause-found : goal.returns-else-place-lt16-clause-found
returns-else-place-lt16-clause-found c = λ happened s stood same ends is. found_other happened s c.args.self.now c.args.place c.args.check stood c.requires same ends is c.in-Some.base c.in-Some.is c.if-base-check.false
