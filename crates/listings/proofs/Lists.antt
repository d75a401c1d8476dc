-- What a call that lists promises: of a refusal, and of a listing that was measured in no output at all and then put into one that holds it.
use Prim.Native.Nat.{ℕ, zero, suc, ◌+◌, ◌*◌, ◌≤◌, ◌<◌, ◌^◌}
use native.Mathlib.Omega.{arith}
use mathlib.Core.Path.{◌≡◌, refl, sym, ◌∙◌}
use mathlib.Core.List.{List, []}
use lib.ListN.{length}
use lib.Seq.{sets-eq}
use borrow.Author.Tests.{le-leb, lt-leb}
use Rattle.std.specs.Prelude.{Result, Ok, Err}
use Rattle.answers.specs.Answer.{given, unless_refused}
use Rattle.answers.specs.Said.{number_of}
use Rattle.answers.proofs.Said.{some_number}
use Rattle.answers.specs.declared.Refusal.{Refusal}
use Rattle.answers.specs.declared.Refusal.TheVariants.{ShortOutput}
use Rattle.outputs.specs.Appends.{Appends}
use Rattle.outputs.specs.declared.Output.{Output}
use Rattle.outputs.proofs.Puts.{Fresh, fresh_fits}
use Rattle.listings.specs.Said.{answered, written, Lists}

-- there is nothing to list where there is a refusal
pub lists_refused : (bytes out : List ℕ) (r : Refusal) (m : ℕ) → number_of r ≡ m → Lists (unless_refused m bytes) out (Err r) out
unfolding answered written unless_refused
lists_refused bytes out r zero e = absurd (some_number r e)
lists_refused bytes out r (suc m) e = record { answer = rw e refl; output = refl }

-- and where there is none the listing is wanted
pub lists-taken :
    (bytes out later : List ℕ) (m : ℕ) (r : Result ℕ Refusal) → 0 ≡ m → Lists (given bytes) out r later → Lists (unless_refused m bytes) out r later
unfolding unless_refused
lists-taken bytes out later m r e p = rw (sym e) p

module _ (out : List ℕ) {bytes : List ℕ} {n : ℕ} {none none' : Output} (room : length out * 1 < 2 ^ 63) (empty : Fresh [] none)
    (measured : Appends none bytes none') (is : n ≡ none'.at) where
  -- the output is too short
  pub lists_short : length out < n → Lists (given bytes) out (Err ShortOutput) out
  unfolding answered written
  lists_short h =
      let e = lt-leb (length bytes) (length out) (omega (arith, measured.place (fresh_fits (omega arith) empty), empty.place)) in
      record { answer = rw e; output = rw e }

  -- the output holds the listing
  pub lists_whole : {o later : Output} {last : List ℕ} → n ≤ length out → Fresh out o → Appends o bytes later → last ≡ later.out.now
      → Lists (given bytes) out (Ok n) last
  unfolding answered written
  lists_whole h f p q =
      let m : n ≡ length bytes = omega (arith, measured.place (fresh_fits (omega arith) empty), empty.place) in
      let e = le-leb (length bytes) (length out) (omega arith) in
      let z : 0 + length bytes ≡ length bytes = omega arith in
      let put = p.output (fresh_fits (omega arith) f) ∙ rw (f.output, f.place) (sets-eq bytes out 0 (omega arith) ∙ rw z) in
      record { answer = rw (e, m); output = rw e (q ∙ put) }
