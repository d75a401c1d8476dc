-- What `read` answers and leaves in buffers of the right lengths: a refusal, or a table to be searched. Its listing is that of the file,
-- whatever is listed of a table.
use Prim.Native.Nat.{ℕ}
use mathlib.Core.List.{List}
use mathlib.Core.Path.{◌≡◌, sym, ap, ◌∙◌}
use lib.IntN.{ℤ}
use lib.ListN.{length}
use borrow.Author.Tests.{eq-eqb}
use Rattle.std.specs.Prelude.{Result, Ok, Err}
use Rattle.answers.specs.Answer.{given}
use Rattle.answers.specs.Said.{number_of}
use Rattle.answers.specs.declared.Refusal.{Refusal}
use Rattle.sets.proofs.Lists.{length-tabulate}
use Rattle.sets.proofs.Range.{in-range}
use Rattle.moves.specs.Models.{Control, on, control}
use Rattle.tables.proofs.Files.{contents-is}
use Rattle.tables.specs.RoundTrip.{Bytes}
use Rattle.tables.proofs.Round.{read-proper, read-refuses, read-contents}
use Rattle.tables.proofs.Filling.{length-rows}
use Rattle.tables.specs.Control.{angles_of_entries, modes_of_entries, control_of, sized, reading}
use Rattle.tables.specs.Format.{Contents, taken, contents}
use Rattle.tables.specs.Said.{Read}
use Rattle.tables.specs.declared.Fault.{Fault}
use Rattle.tables.specs.declared.Reading.{Reading}
use Rattle.listings.specs.Listing.{refused_listing}
use Rattle.listings.specs.Said.{Lists}
use Rattle.checks.specs.File.{read_listing, file_listing}
use Rattle.checks.specs.Inner.{Sought}

-- the table of a file that was read can be searched
contents-sought : (file : List ℕ) (l : Contents) → Bytes file → contents file ≡ taken l → Sought (control_of l)
unfolding control_of angles_of_entries modes_of_entries
contents-sought file l B e =
    let f = contents-is file l e in
    record {
      range = in-range (length l.states) f.states.least f.states.most;
      rows = length-rows l.moves;
      sound = (read-proper file B l e).sound;
      angles = length-tabulate _ _;
      modes = length-tabulate _ _;
    }

-- what buffers of the right lengths held does not matter
reading-is : (file rows : List ℕ) (angles : List ℤ) (modes : List ℕ) → length rows ≡ 1024 → length angles ≡ 256 → length modes ≡ 256
    → reading file rows angles modes ≡ contents file
unfolding reading sized
reading-is file rows angles modes many turned moded =
    rw (eq-eqb (length rows) 1024 many, eq-eqb (length angles) 256 turned, eq-eqb (length modes) 256 moded)

module _ {file rows : List ℕ} {angles : List ℤ} {modes : List ℕ} {rows' : List ℕ} {angles' : List ℤ} {modes' : List ℕ} where
  -- a refused file is listed as such
  pub refused_file : {f : Fault} → Read file rows angles modes (Err f) rows' angles' modes' → length rows ≡ 1024 → length angles ≡ 256
      → length modes ≡ 256 → (ofTable : Control → List ℕ) {out out' : List ℕ} {n : ℕ} {l : Result ℕ Refusal} → n ≡ number_of f.refusal
      → Lists (given (refused_listing n f.offset)) out l out' → Lists (given (file_listing ofTable file)) out l out'
  unfolding file_listing read_listing
  refused_file p many turned moded ofTable e w =
      rw (sym (reading-is file rows angles modes many turned moded) ∙ (read-refuses file p).0) (rw e at w)

  module _ {r : Reading} (B : Bytes file) (p : Read file rows angles modes (Ok r) rows' angles' modes') where
    -- the table that `read` answers and leaves in the buffers
    abbrev found : Control
    found = control (on r.model rows') angles' modes'

    -- it can be searched
    pub read-sought : Sought found
    read-sought = let (l, e, c) = read-contents file B p in rw c (contents-sought file l B e)

    -- and its listing is that of the file
    pub read-file : (ofTable : Control → List ℕ) {out out' : List ℕ} {l : Result ℕ Refusal} → Lists (given (ofTable found)) out l out'
        → Lists (given (file_listing ofTable file)) out l out'
    unfolding file_listing read_listing
    read-file ofTable w =
        let (l, e, c) = read-contents file B p in
        let same : ofTable found ≡ read_listing ofTable (contents file) = ap ofTable c ∙ sym (ap (read_listing ofTable) e) in
        rw same at w
