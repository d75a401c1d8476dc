-- For the crate's own private functions, and no part of what a reader must believe.
use Rattle.std.specs.Prelude.{ℕ, Bool, true, false, List, [], ◌∷◌}
use Prim.Native.Char.{code}

-- what stands before a field of a line: nothing before the first, a space before any other
unfoldable pub gap : Bool → List ℕ
gap true = []
gap false = code " " ∷ []
