-- What code over a run buffer may rely on: the records that the contracts of private functions cite, and how they are come by.
use Prim.Native.Nat.{ℕ, ◌≤◌}
use mathlib.Core.Bool.{true}
use mathlib.Core.List.{List}
use mathlib.Core.Path.{◌≡◌, sym, ap, ◌∙◌}
use lib.ListN.{length, get_or}
use Rattle.rules.proofs.Buffer.{encode-length}
use Rattle.rules.proofs.Held.{Fit}
use Rattle.rules.specs.Buffer.{decode, encode}
use Rattle.rules.specs.Table.{Table, sound_table, sound_rows}
use Rattle.sets.proofs.Members.{proper_sound}
use Rattle.sets.proofs.Tests.{and-true}
use Rattle.sets.specs.Sets.{Proper}

-- a sound table of at most 256 states
pub record Good (t : Table) : Type 0 where
  pub big : t.size ≤ 256
  pub rows : sound_rows t.size t.rows ≡ true
  pub starts : Proper t.size t.starts
  pub safe : Proper t.size t.safe

-- a buffer whose n (word 0) and k (word 1) are in range, so that x_0 .. x_(n-1) and y_k .. y_(n-1) have their places
pub record Spans (b : List ℕ) : Type 0 where
  pub long : length b ≡ 2066
  pub two : 2 ≤ get_or b 0 0
  pub room : get_or b 0 0 ≤ 258
  pub pos : 1 ≤ get_or b 1 0
  pub le : get_or b 1 0 ≤ get_or b 0 0

-- .. which is the words of a state, and nothing else
pub record Holds (b : List ℕ) : Type 0 where
  pub spans : Spans b
  pub same : encode (decode b) ≡ b

-- a sound table, and a buffer that passes the entry check
pub record Ready (t : Table) (b : List ℕ) : Type 0 where
  pub spans : Spans b
  pub good : Good t
  pub fit : Fit t b

pub good_by : (t : Table) → t.size ≤ 256 → Proper 256 t.starts → Proper 256 t.safe → sound_table t ≡ true → Good t
unfolding sound_table
good_by t big i p e =
    let h = and-true _ _ e in
    let k = and-true _ _ h.1 in
    record {
      big = big;
      rows = k.1;
      starts = proper_sound t.size big _ i h.0;
      safe = proper_sound t.size big _ p k.0;
    }

pub ready_by : {t : Table} {b : List ℕ} → Good t → Fit t b → Ready t b
unfolding decode
ready_by {t} {b} good fit =
    record {
      spans =
          record {
            long = ap length (sym fit.held.same) ∙ encode-length (decode b);
            two = fit.inv.two;
            room = fit.held.cap;
            pos = fit.inv.pos;
            le = fit.inv.le;
          };
      good = good;
      fit = fit;
    }

pub ready_holds : {t : Table} {b : List ℕ} → Ready t b → Holds b
ready_holds r = record { spans = r.spans; same = r.fit.held.same }
