-- Subjects in boxes.
use Rattle.std.specs.declared.dyn_box.DynBox.{DynBox}

-- what a box holds
abbrev pub held_in : {X Z : Type 0} {F : X → Type 0} (b : DynBox X Z F) → F b.vtable
held_in b = b.value
