-- What calls are lent, as definitions have it: a model and the rows of a move table are a table; with angles and modes, a control table.
use Rattle.std.specs.Prelude.{List, ℕ, ℤ}
use Rattle.rules.specs.Table.{Table, table}
use Rattle.moves.specs.declared.Model.{Model}
use Rattle.moves.specs.declared.Table as lent_table
use Rattle.moves.specs.declared.Control as lent_control

abbrev pub on : Model → List ℕ → Table
on m rows = table m.size m.starts.words m.safe.words rows

-- a table as the code has it
abbrev pub as_table : lent_table.Table → Table
as_table t = on t.model t.moves.now

-- `angles` and `modes` have a place for each of 256 states
pub record Control : Type 0 where
  pub table : Table
  pub angles : List ℤ
  pub modes : List ℕ

abbrev pub control : Table → List ℤ → List ℕ → Control
control t angles modes = record { table = t; angles = angles; modes = modes }

-- a control table as the code has it
abbrev pub as_control : lent_control.Control → Control
as_control c = control (as_table c.table) c.angles.now c.modes.now
