-- What the program `check` lists of a file, as document 01 says: the file's refusal, or the verdict of the run on its table.
use Rattle.std.specs.Prelude.{ℕ, List, []}
use Rattle.rules.specs.Demands.{bound}
use Rattle.rules.specs.Rules.{fresh, Standing, safe, reached, unfinished, no_room}
use Rattle.rules.specs.Runs.{Ran, run}
use Rattle.rules.specs.ShownWalk.{shown_walk}
use Rattle.rules.specs.Table.{Table}
use Rattle.moves.specs.Models.{Control}
use Rattle.listings.specs.Listing.{safe_listing, reached_listing}
use Rattle.checks.specs.File.{file_listing}

-- a fresh run without hints, budget 2·N·N + 2·N
abbrev pub searched : Table → Ran
searched t = run t (bound t.size) [] (fresh t)

-- the listing of how a run stands; the last two never come (proofs/Ends.antt, `check_ends`)
unfoldable pub verdict_listing : Control → Ran → Standing → List ℕ
verdict_listing c o (safe j) = safe_listing c.table j o.rules (o.state.x j)
verdict_listing c o reached = reached_listing c o.rules (shown_walk c.table o.state)
verdict_listing c o unfinished = []
verdict_listing c o no_room = []

-- the listing of a table
unfoldable pub table_listing : Control → List ℕ
table_listing c = verdict_listing c (searched c.table) (searched c.table).standing

-- the listing of a file
abbrev pub check_listing : List ℕ → List ℕ
check_listing = file_listing table_listing
