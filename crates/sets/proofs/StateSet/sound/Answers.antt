-- `sound` meets its contract: no member from N up is to be within the set of the states below N; from 256 up nothing is asked.
use mathlib.Core.Path.{◌∙◌}
use native.Mathlib.Omega.{arith}
use Rattle.sets.proofs.Within.{sound-full}
use Rattle.sets.proofs.StateSet.sound.Goals as goal

pub returns : goal.returns
returns c = c.within.ensures ∙ rw c.below.ensures (sound-full _ (omega arith) _)
