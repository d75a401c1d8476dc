-- For the crate's own private functions, and no part of what a reader must believe: what they ask for and hand on.
use Rattle.std.specs.Prelude.{ℕ, ◌+◌, ◌-◌, ◌*◌, ◌≤◌, Bool, true, List, ◌≡◌, ℤ, length, Result, Ok, Err}
use Rattle.answers.specs.Said.{number_of}
use Rattle.answers.specs.declared.Refusal.{Refusal}
use Rattle.moves.specs.Models.{Control}
use Rattle.sets.specs.Lists.{tabulate}
use Rattle.sets.specs.Sets.{Set, member}
use Rattle.tables.specs.Lists.{passing}
use Rattle.tables.specs.Format.{Kind, state, number, move, Section, states, numbers, moves, Contents}
use Rattle.tables.specs.Format.{Taken, refused_at, taken, and_then, entries, contents, entries_bytes, section_bytes}
use Rattle.tables.specs.Control.{state_number, is_move, sized}
use Rattle.tables.specs.Said.{said_as}
use Rattle.tables.specs.declared.Fault.{Fault}
use Rattle.tables.specs.declared.entry.Section as named
use Rattle.tables.specs.declared.entry.Section.TheVariants as by_name
use Rattle.tables.specs.declared.counts.Counts.{Counts}

-- the angles and the modes have a place for each of 256 states
pub record Lengths (c : Control) : Type 0 where
  pub angle_places : length c.angles ≡ 256
  pub mode_places : length c.modes ≡ 256

-- and N is no more than the places
pub record SizeIn (c : Control) : Type 0 where
  pub lengths : Lengths c
  pub few : c.table.size ≤ 256

-- ---- taking
-- a section by its name
abbrev pub section_named : named.Section → ℕ → Section
section_named by_name.States N = states
section_named by_name.Starts N = numbers N
section_named by_name.Safe N = numbers N
section_named by_name.Moves N = moves N

-- the number that stands at a place, or the refusal
abbrev pub said_at : ℕ → Result ℕ Refusal → Taken ℕ
said_at at (Ok v) = taken v
said_at at (Err r) = refused_at (number_of r) at

-- .. with its byte offset
abbrev pub said_number : Result ℕ Fault → Taken ℕ
said_number = said_as (λ v. v)

-- how many entries, and the place past them
unfoldable pub entries_step : Kind → List ℕ → ℕ → ℕ → Taken (ℕ × ℕ)
entries_step K b at k = and_then (entries K b at 0 k) (λ vs. taken (length vs, at + length vs * K.width))

-- ---- the counts of a file
-- those of a file that was taken; a refusal's number and the byte offset
abbrev pub said_counts : Result Counts Fault → Taken (ℕ × ℕ × ℕ × ℕ)
said_counts = said_as (λ c. (c.size, c.starts, c.safe, c.moves))

-- those of contents, and of a file
abbrev pub counts_of : Contents → ℕ × ℕ × ℕ × ℕ
counts_of l = (length l.states, length l.starts, length l.safe, length l.moves)

unfoldable pub counts_read : List ℕ → Taken (ℕ × ℕ × ℕ × ℕ)
counts_read b = and_then (contents b) (λ l. taken (counts_of l))

-- ---- filling
-- the numbers of k entries from a place on
unfoldable pub values : Kind → List ℕ → ℕ → ℕ → List ℕ
values K b at k = tabulate k (λ i. K.value b (at + i * K.width))

-- k entries of some bytes from a place on lie in the file, and the list to be filled from them has its length
pub record ToFill {A : Type 0} (b : List ℕ) (at k bytes : ℕ) (list : List A) (places : ℕ) : Type 0 where
  pub within : at + k * bytes ≤ length b
  pub long : length list ≡ places

-- a file of these counts that was taken, and buffers of their lengths
pub record Fillable (b : List ℕ) (c : Counts) (rows : List ℕ) (angles : List ℤ) (modes : List ℕ) : Type 0 where
  pub counted : counts_read b ≡ taken (c.size, c.starts, c.safe, c.moves)
  pub lengths : sized rows angles modes ≡ true
  pub within : 2 + c.size * 3 + 2 + c.starts * 2 + 2 + c.safe * 2 + 2 + c.moves * 4 ≤ length b
  pub few_states : c.size ≤ 256
  pub few_moves : c.moves ≤ 4096
  pub row_places : length rows ≡ 1024
  pub angle_places : length angles ≡ 256
  pub mode_places : length modes ≡ 256

-- ---- writing
-- a number is `base` plus a member of x
unfoldable pub member_from : ℕ → Set → ℕ → Bool
member_from base x v = member x (v - base)

-- `base` plus each member of x
abbrev pub members_from : ℕ → Set → List ℕ
members_from base x = passing (member_from base x) base 256

-- the entries of the states
abbrev pub state_bytes : Control → List ℕ
state_bytes c = entries_bytes state (tabulate c.table.size (state_number c.angles c.modes))

-- the section of the members of x
abbrev pub set_bytes : Set → List ℕ
set_bytes x = section_bytes (number 0) (passing (member x) 0 256)

-- the section of the moves
abbrev pub move_bytes : List ℕ → List ℕ
move_bytes rows = section_bytes (move 0) (passing (is_move rows) 0 16777216)
