-- `without` meets its contract: one bit cleared in the word of s; a number from 256 up is no member.
use borrow.Author.Rules.{rules}
use Prim.Native.Nat.{◌%◌}
use native.Mathlib.Omega.{arith}
use Rattle.sets.proofs.Words.{proper_words, one_shl, without-words, without-nothing}
use Rattle.sets.proofs.StateSet.without.Goals as goal

pub returns-then-s-lt256 : goal.returns-then-s-lt256
returns-then-s-lt256 c =
    rw (one_shl (c.args.s % 64) (omega arith))
    (without-words c.args.self.words c.args.s (proper_words _ (search rules) (λ j. search rules)) (search rules))

pub returns-else-s-lt256 : goal.returns-else-s-lt256
returns-else-s-lt256 c = without-nothing c.args.self.words c.args.s (proper_words _ (search rules) (λ j. search rules)) (search rules)
