-- `check` meets its contract: the file is read, and its refusal listed or its table searched.
use borrow.Author.Rules.{rules}
use Rattle.checks.specs.Check.{table_listing}
use Rattle.checks.proofs.Readings.{refused_file, read-sought, read-file}
use Rattle.checks.proofs.check.Goals as goal

-- the file is bytes
pub search-requires : goal.search-requires
search-requires c = read-sought (record { byte = λ i. (c.type_inv.file i).fits }) (rw c.in-Ok.is at c.read.ensures)

pub returns-in-Ok : goal.returns-in-Ok
returns-in-Ok c =
    read-file (record { byte = λ i. (c.type_inv.file i).fits }) (rw c.in-Ok.is at c.read.ensures) table_listing c.search.ensures

pub returns-in-Err : goal.returns-in-Err
returns-in-Err c =
    refused_file (rw c.in-Err.is at c.read.ensures) (search rules) (search rules) (search rules) table_listing c.from.ensures c.refused.ensures
