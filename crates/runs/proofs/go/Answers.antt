-- `go` meets its contract: the rules are run, and the reason written.
use Prim.Native.Nat.{ℕ}
use Rattle.runs.proofs.Answers.{ended_ready, ended_stands, run-answers}
use Rattle.runs.proofs.go.Goals as goal

-- there is always room for the rule due
pub returns-in_err-ran : goal.returns-in_err-ran
returns-in_err-ran c = absurd c.in_err-ran.ensures

pub finish-requires : goal.finish-requires
finish-requires c =
    let words = λ (i : ℕ). (c.type_inv.hints i).fits in
    record {
      ready = ended_ready _ _ c.requires.0 _ _ words _ _ c.in_ok-ran.ensures;
      stands = ended_stands _ _ c.requires.0 _ _ words _ _ c.in_ok-ran.ensures;
      set_four = c.requires.1;
      walk_256 = c.requires.2;
    }

pub returns : goal.returns
returns c =
    let words = λ (i : ℕ). (c.type_inv.hints i).fits in
    run-answers _ _ c.requires.0 _ _ words _ _ c.in_ok-ran.ensures _ _ _ _ _ c.finish.ensures
