-- What the kinds of frames lack.
use Rattle.std.specs.Prelude.{◌≡◌, []}
use Rattle.scenario.specs.FrameLists.{Frame}
use Rattle.frame_exec.specs.declared.kind.FrameKind.{FrameKind}
use Rattle.frame_exec.specs.declared.kind.FrameKind.TheVariants.{OnlySends, Plain, Holds, NamesTables}

-- a frame of this kind doesn't have what no frame of the kind has
abbrev pub IsOfKind : FrameKind → Frame → Type 0
IsOfKind OnlySends frame = (frame.upsets ≡ []) × (frame.held ≡ []) × (frame.activations ≡ [])
IsOfKind Plain frame = (frame.held ≡ []) × (frame.activations ≡ [])
IsOfKind Holds frame = frame.activations ≡ []
IsOfKind NamesTables frame = Unit {0}
