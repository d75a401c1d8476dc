-- `count` meets its contract: the ones of the four words, at most 64 each.
use borrow.Author.Rules.{rules}
use native.Mathlib.Omega.{arith}
use Prim.Native.Nat.{ℕ, ◌≤◌}
use lib.Count.{ones, ones-le}
use lib.ListN.{get_or}
use mathlib.Core.List.{List}
use mir.Val.{Fits}
use mir.Syntax.{w64}
use Rattle.sets.proofs.Words.{proper_words, count-words}
use Rattle.sets.proofs.StateSet.count.Goals as goal

-- no word has more than 64
le64 : (x : List ℕ) → ((j : ℕ) → Fits w64 (get_or x j 0)) → (j : ℕ) → ones (get_or x j 0) ≤ 64
le64 x fits j = ones-le 64 _ (fits j).fits

pub overflow_add-n : goal.overflow_add-n
overflow_add-n c = let l = le64 c.args.self.words (λ j. search rules) in omega (arith, l 0, l 1)

pub overflow_add-n-2 : goal.overflow_add-n-2
overflow_add-n-2 c = let l = le64 c.args.self.words (λ j. search rules) in omega (arith, l 0, l 1, l 2)

pub overflow_add-n-3 : goal.overflow_add-n-3
overflow_add-n-3 c = let l = le64 c.args.self.words (λ j. search rules) in omega (arith, l 0, l 1, l 2, l 3)

pub overflow_cast-result : goal.overflow_cast-result
overflow_cast-result c = let l = le64 c.args.self.words (λ j. search rules) in omega (arith, l 0, l 1, l 2, l 3)

pub returns : goal.returns
returns c = count-words c.args.self.words (proper_words _ (search rules) (λ j. search rules))
