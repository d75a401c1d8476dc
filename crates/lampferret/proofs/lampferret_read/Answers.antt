-- `lampferret_read` meets its contract: what `read` promises, and where each part of its answer is put.
use mathlib.Core.Path.{refl}
use borrow.Author.Rules.{rules}
use Rattle.std.specs.Prelude.{Ok, Err}
use Rattle.lampferret.proofs.lampferret_read.Goals as goal

pub returns-in-Ok : goal.returns-in-Ok
returns-in-Ok c =
    record {
      reading = Ok c.in-Ok.reading;
      promised = search rules;
      answer = refl;
      starts_are = c.words_of-start_words.ensures;
      safe_are = c.words_of-safe_words.ensures;
      counts_are = refl;
      offset_is = refl;
    }

pub returns-in-Err : goal.returns-in-Err
returns-in-Err c =
    record {
      reading = Err c.in-Err.fault;
      promised = search rules;
      answer = c.from.ensures;
      starts_are = refl;
      safe_are = refl;
      counts_are = refl;
      offset_is = refl;
    }
