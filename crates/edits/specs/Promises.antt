-- What the calls on two tables promise: the refusal, in the order of document 02, and what both tables hold then.
use Rattle.std.specs.Prelude.{ℕ, Bool, not, cond, List, [], ◌∷◌, ◌++◌, ◌≡◌, eqb, ltb, length}
use Rattle.answers.specs.Refusals.{no_refusal, out_of_range, no_such_state, wrong_length, not_sound, tables_disagree, nothing_to_edit}
use Rattle.answers.specs.Refusals.{Test, ◌unless◌, first_failing}
use Rattle.sets.specs.Sets.{Set, sound, in_range}
use Rattle.rules.specs.Second.{second_of, alike, agree}
use Rattle.rules.specs.Table.{leads, sound_rows, with_move}

-- 7, 2, 13: both tables are 1,024 words; N is in range; the rows of the move table are sound
unfoldable pub lent_tests : ℕ → List ℕ → List ℕ → List Test
lent_tests N rows second =
    wrong_length unless eqb (length rows) 1024
    ∷ wrong_length unless eqb (length second) 1024
    ∷ out_of_range unless in_range N
    ∷ not_sound unless sound_rows N rows
    ∷ []

-- .. then 14 and 4
unfoldable pub into_refusal : ℕ → List ℕ → List ℕ → ℕ → ℕ
into_refusal N rows second t =
    first_failing
    (lent_tests N rows second ++
    (tables_disagree unless agree rows second
    ∷ no_such_state unless ltb t N
    ∷ []))

-- .. then 14, 4 for either state, and 15: a move to add is not there, one to remove is
unfoldable pub edit_refusal : ℕ → List ℕ → List ℕ → ℕ → ℕ → Bool → ℕ
edit_refusal N rows second s t there =
    first_failing
    (lent_tests N rows second ++
    (tables_disagree unless agree rows second
    ∷ no_such_state unless ltb s N
    ∷ no_such_state unless ltb t N
    ∷ nothing_to_edit unless alike (leads rows s t) (not there)
    ∷ []))

-- .. then 13 for the set, as for g, and 14
unfoldable pub g_refusal : ℕ → List ℕ → List ℕ → Set → ℕ
g_refusal N rows second x =
    first_failing
    (lent_tests N rows second ++
    (not_sound unless sound N x
    ∷ tables_disagree unless agree rows second
    ∷ []))

-- the second table made: all its words, whatever they were
pub record SecondPromise (N : ℕ) (rows second second' : List ℕ) (r : ℕ) : Type 0 where
  pub answer : r ≡ first_failing (lent_tests N rows second)
  pub second_is : second' ≡ cond (eqb (first_failing (lent_tests N rows second)) no_refusal) (second_of rows) second

-- a move from s to t added, or removed: both tables in step, or both as they were
pub record EditPromise (N : ℕ) (rows rows' second second' : List ℕ) (s t : ℕ) (there : Bool) (r : ℕ) : Type 0 where
  pub answer : r ≡ edit_refusal N rows second s t there
  pub rows_are : rows' ≡ cond (eqb (edit_refusal N rows second s t there) no_refusal) (with_move rows s t there) rows
  pub second_is : second' ≡ cond (eqb (edit_refusal N rows second s t there) no_refusal) (with_move second t s there) second
