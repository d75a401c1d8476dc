-- `with` meets its contract: one bit set in the word of s; a number from 256 up adds nothing.
use borrow.Author.Rules.{rules}
use Prim.Native.Nat.{◌%◌}
use native.Mathlib.Omega.{arith}
use Rattle.sets.proofs.Words.{proper_words, one_shl, with-words, with_nothing}
use Rattle.sets.proofs.StateSet.with.Goals as goal

pub returns-then-s-lt256 : goal.returns-then-s-lt256
returns-then-s-lt256 c =
    rw (one_shl (c.args.s % 64) (omega arith))
    (with-words c.args.self.words c.args.s (proper_words _ (search rules) (λ j. search rules)) (search rules))

pub returns-else-s-lt256 : goal.returns-else-s-lt256
returns-else-s-lt256 c = with_nothing c.args.self.words c.args.s (proper_words _ (search rules) (λ j. search rules)) (search rules)
