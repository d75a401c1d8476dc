-- `member` meets its contract: the bit of s in its word; no number from 256 up is a member.
use borrow.Author.Rules.{rules}
use mathlib.Core.Path.{sym}
use Rattle.sets.proofs.Words.{proper_words, member-code}
use Rattle.sets.proofs.Members.{proper_past}
use native.Mathlib.Omega.{arith}
use Rattle.sets.proofs.StateSet.member.Goals as goal

pub returns-then-s-lt256 : goal.returns-then-s-lt256
returns-then-s-lt256 c = member-code c.args.self.words c.args.s

pub returns-else-s-lt256 : goal.returns-else-s-lt256
returns-else-s-lt256 c = sym (proper_past 256 (omega arith) (proper_words _ (search rules) (λ j. search rules)) c.args.s (search rules))
