-- What a call that lists promises of its answer and of the output.
use Rattle.std.specs.Prelude.{ℕ, cond, List, ◌++◌, ◌≡◌, leb, length, drop, Result}
use Rattle.answers.specs.Answer.{Answer, refused, given}
use Rattle.answers.specs.Refusals.{short_output}
use Rattle.answers.specs.Said.{said}
use Rattle.answers.specs.declared.Refusal.{Refusal}

-- the answer for a listing that is wanted in an output: its length, or refusal 12 for a shorter output
unfoldable pub answered : Answer (List ℕ) → List ℕ → Answer ℕ
answered (refused n) out = refused n
answered (given bytes) out = cond (leb (length bytes) (length out)) (given (length bytes)) (refused short_output)

-- the output later: the listing, and what stood past it; untouched where the call is refused
unfoldable pub written : Answer (List ℕ) → List ℕ → List ℕ
written (refused n) out = out
written (given bytes) out = cond (leb (length bytes) (length out)) (bytes ++ drop (length bytes) out) out

-- what a call promises of its answer and of the output
pub record Lists (wanted : Answer (List ℕ)) (out : List ℕ) (r : Result ℕ Refusal) (later : List ℕ) : Type 0 where
  pub answer : said r ≡ answered wanted out
  pub output : later ≡ written wanted out
