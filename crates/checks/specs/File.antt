-- What a program that reads a file lists of it: the file's refusal, or what it lists of the table that the file says.
use Rattle.std.specs.Prelude.{ℕ, List}
use Rattle.moves.specs.Models.{Control}
use Rattle.tables.specs.Control.{control_of}
use Rattle.tables.specs.Format.{Contents, Taken, refused_at, taken, contents}
use Rattle.listings.specs.Listing.{refused_listing}

-- of what was read, given what is listed of a table
unfoldable pub read_listing : (Control → List ℕ) → Taken Contents → List ℕ
read_listing ofTable (refused_at number offset) = refused_listing number offset
read_listing ofTable (taken l) = ofTable (control_of l)

-- of a file
unfoldable pub file_listing : (Control → List ℕ) → List ℕ → List ℕ
file_listing ofTable file = read_listing ofTable (contents file)
