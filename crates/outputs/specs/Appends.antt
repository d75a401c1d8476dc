-- What the calls of an output promise: bytes appended to it.
--
-- A place counts the bytes before it, and the last place of all counts more than any output holds, so counting goes on past the
-- output's end and never wraps.
use Rattle.std.specs.Prelude.{ℕ, ◌+◌, ◌≤◌, min, List, ◌≡◌, length}
use Rattle.std.proofs.lemmas.List.Edits.{sets}
use Rattle.outputs.specs.declared.Output.{Output}

-- the largest usize
abbrev pub last_place : ℕ
last_place = 0xffff_ffff_ffff_ffff

-- what is so of any output
pub record Fits (o : Output) : Type 0 where
  pub output : length o.out.now ≤ last_place
  pub place : o.at ≤ last_place

-- bytes are put from the output's place on, as far as it goes, and its place is the one after them
pub record Appends (o : Output) (bytes : List ℕ) (later : Output) : Type 0 where
  pub same_reference : later.out.ghost_name ≡ o.out.ghost_name
  pub output : Fits o → later.out.now ≡ sets o.out.now o.at bytes
  pub place : Fits o → later.at ≡ min (o.at + length bytes) last_place
