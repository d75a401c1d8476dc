-- The round trip of demand 2, of what `read` and `write` promise: a table written out reads back the same, and a file read in writes out
-- the same bytes. proofs/Round.antt proves it.
use Rattle.std.specs.Prelude.{ℕ, ◌^◌, ◌≤◌, ◌<◌, true, List, ◌≡◌, ℤ, length, get_or, take, Result, Ok}
use Rattle.answers.specs.Answer.{given}
use Rattle.answers.specs.declared.Refusal.{Refusal}
use Rattle.moves.specs.Models.{Control, on, control}
use Rattle.rules.specs.Table.{move_count}
use Rattle.sets.specs.Sets.{Proper}
use Rattle.tables.specs.Control.{sized}
use Rattle.tables.specs.Format.{taken}
use Rattle.tables.specs.Said.{said_reading, Read, said_written, Wrote}
use Rattle.tables.specs.declared.Fault.{Fault}
use Rattle.tables.specs.declared.Reading.{Reading}

-- a list of bytes, as a lent file always is
pub record Bytes (b : List ℕ) : Type 0 where
  pub byte : (i : ℕ) → get_or b i 0 < 256

-- a table of 64-bit words, as a lent one always is
pub record Held (c : Control) : Type 0 where
  pub starts : Proper 256 c.table.starts
  pub safe : Proper 256 c.table.safe
  pub rows : (i : ℕ) → get_or c.table.rows i 0 < 2 ^ 64

-- what `read` answers of a table, and leaves in the buffers
pub record ReadsAs (c : Control) (r : Result Reading Fault) (rows : List ℕ) (angles : List ℤ) (modes : List ℕ) : Type 0 where
  pub answer : said_reading r ≡ taken (c.table.size, c.table.starts, c.table.safe, move_count c.table.rows)
  pub filled_rows : rows ≡ c.table.rows
  pub filled_angles : angles ≡ c.angles
  pub filled_modes : modes ≡ c.modes

pub record RoundTrip : Type 0 where
  -- what `write` has written, `read` reads back, into any buffers of the right lengths
  pub write_then_read : (c : Control) (out out' : List ℕ) (w : Result ℕ Refusal) (n : ℕ) (rows : List ℕ) (angles : List ℤ) (modes : List ℕ)
      (r : Result Reading Fault) (rows' : List ℕ) (angles' : List ℤ) (modes' : List ℕ) → Held c → Wrote c out w out' → said_written w ≡ given n
      → sized rows angles modes ≡ true → Read (take n out') rows angles modes r rows' angles' modes' → ReadsAs c r rows' angles' modes'
  -- what `read` has read, `write` writes out as the same bytes, where there is room
  pub read_then_write : (file rows : List ℕ) (angles : List ℤ) (modes : List ℕ) (r : Reading) (rows' : List ℕ) (angles' : List ℤ) (modes' : List ℕ)
      (out out' : List ℕ) (w : Result ℕ Refusal) → Bytes file → Read file rows angles modes (Ok r) rows' angles' modes'
      → length file ≤ length out → Wrote (control (on r.model rows') angles' modes') out w out'
      → (said_written w ≡ given (length file)) × (take (length file) out' ≡ file)
