-- A list copied to another of the same length; the other stays where the lengths differ.
use Rattle.std.specs.Prelude.{List, eqb, length}
use Rattle.trellis.specs.Lists.{pick}

abbrev pub copied_to : {A : Type 0} → List A → List A → List A
copied_to s d = pick (eqb (length s) (length d)) s d
