-- Which applications are held in a frame.
use Rattle.std.specs.Prelude.{◌≡◌, List}
use Rattle.std.specs.List.{list_any}
use Rattle.scenario.specs.declared.frame.App.{App}
use Rattle.scenario.specs.declared.frame.App.TheVariants as names
use Rattle.frame_wires.specs.Sending.{is_same}
use Rattle.app_suite.specs.declared.holds.Holds.{Holds}

-- the applications of a list are held, and no others
pub record AreHeld (held : List App) (holds : Holds) : Type 0 where
  pub hs : holds.hs ≡ list_any (is_same names.Hs) held
  pub cs : holds.cs ≡ list_any (is_same names.Cs) held
  pub sc : holds.sc ≡ list_any (is_same names.Sc) held
  pub mm : holds.mm ≡ list_any (is_same names.Mm) held
  pub md : holds.md ≡ list_any (is_same names.Md) held
