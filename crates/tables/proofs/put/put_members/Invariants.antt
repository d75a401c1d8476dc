-- `put::put_members` meets its contract. The invariant: the entries of the members below s are appended.
use Prim.Native.Nat.{◌*◌}
use Rattle.outputs.specs.Appends.{Appends}
use Rattle.tables.specs.Format.{entries_bytes}
use Rattle.tables.specs.Inner.{section_named}
use Rattle.tables.proofs.Putting.{members_up_to}
use Rattle.tables.proofs.put.put_members.Given as goal

abbrev pub invariant-loop-s : goal.invariant-loop-s
invariant-loop-s l = Appends l.initial.out (entries_bytes (section_named l.section 0).kind (members_up_to (l.from * 65536) l.x.words l.s)) l.out
