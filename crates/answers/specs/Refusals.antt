-- The refusal numbers of documents 01 and 02, each named once, and the order in which they are looked for. Code has the same names as constants.
use Rattle.std.specs.Prelude.{ℕ, Bool, false, ◌||◌, cond, List, [], ◌∷◌, eqb}

-- the call was taken: no refusal
abbrev pub no_refusal : ℕ
no_refusal = 0

-- the file ends inside a count or entry
abbrev pub cut_short : ℕ
cut_short = 1

-- a count, or N given to a call, is out of range; or more than 4,096 moves are to be written
abbrev pub out_of_range : ℕ
out_of_range = 2

-- an angle or mode is out of range
abbrev pub bad_label : ℕ
bad_label = 3

-- a state number is N or more
abbrev pub no_such_state : ℕ
no_such_state = 4

-- numbers or pairs do not rise strictly
abbrev pub not_rising : ℕ
not_rising = 5

-- there are bytes after the last section
abbrev pub extra_bytes : ℕ
extra_bytes = 6

-- a lent buffer has the wrong length
abbrev pub wrong_length : ℕ
wrong_length = 7

-- the run buffer fails the entry check
abbrev pub fails_entry : ℕ
fails_entry = 8

-- the rule does not allow the proposal
abbrev pub not_allowed : ℕ
not_allowed = 9

-- the run has concluded already
abbrev pub already_concluded : ℕ
already_concluded = 10

-- Unfold is due and n is 258
abbrev pub no_room : ℕ
no_room = 11

-- the output is shorter than the file to be written
abbrev pub short_output : ℕ
short_output = 12

-- the table, a set given to f or g, or the places from N up are not sound
abbrev pub not_sound : ℕ
not_sound = 13

-- the move table and the second table disagree
abbrev pub tables_disagree : ℕ
tables_disagree = 14

-- the move to add is there, or the one to remove is not
abbrev pub nothing_to_edit : ℕ
nothing_to_edit = 15

-- ---- which of them
-- a test, and the number of the refusal where it fails
pub record Test : Type 0 where
  pub number : ℕ
  pub passes : Bool

infix 70 ◌unless◌
abbrev pub ◌unless◌ : ℕ → Bool → Test
n unless b = record { number = n; passes = b }

-- the number of the first test that fails, 0 where all pass
unfoldable pub first_failing : List Test → ℕ
first_failing [] = no_refusal
first_failing (t ∷ ts) = cond t.passes (first_failing ts) t.number

-- a number is one of a list
unfoldable pub one_of : List ℕ → ℕ → Bool
one_of [] k = false
one_of (n ∷ ns) k = eqb k n || one_of ns k
