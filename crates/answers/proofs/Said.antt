-- What a Result says determines it: no number is that of two refusals, and none is 0. The two ways out of a call: its Err, and its Ok.
use Prim.Native.Nat.{ℕ, zero, suc}
use native.Mathlib.Omega.{arith}
use mathlib.Core.Logic.{◌≢◌}
use mathlib.Core.List.{[], ◌∷◌}
use mathlib.Core.Path.{◌≡◌, refl, sym, ap, ◌∙◌}
use lib.ListN.{get_or}
use Rattle.std.specs.Prelude.{Result, Ok, Err}
use Rattle.answers.specs.Answer.{Answer, refused, given, unless_refused}
use Rattle.answers.specs.Said.{number_of, said, said_as, refusal_of}
use Rattle.answers.specs.declared.Refusal.{Refusal}
use Rattle.answers.specs.declared.Refusal.TheVariants.{CutShort, OutOfRange, BadLabel, NoSuchState, NotRising, ExtraBytes, WrongLength, FailsEntry}
use Rattle.answers.specs.declared.Refusal.TheVariants.{NotAllowed, AlreadyConcluded, NoRoom, ShortOutput, NotSound, TablesDisagree, NothingToEdit}

-- the refusal of a number, the first for a number of none
unfoldable of_number : ℕ → Refusal
of_number n =
    get_or
    (CutShort ∷ CutShort ∷ OutOfRange ∷ BadLabel ∷ NoSuchState ∷ NotRising ∷ ExtraBytes ∷ WrongLength
    ∷ FailsEntry ∷ NotAllowed ∷ AlreadyConcluded ∷ NoRoom ∷ ShortOutput ∷ NotSound ∷ TablesDisagree ∷ NothingToEdit ∷ [])
    n CutShort

back : (r : Refusal) → of_number (number_of r) ≡ r
unfolding of_number
back CutShort = refl
back OutOfRange = refl
back BadLabel = refl
back NoSuchState = refl
back NotRising = refl
back ExtraBytes = refl
back WrongLength = refl
back FailsEntry = refl
back NotAllowed = refl
back AlreadyConcluded = refl
back NoRoom = refl
back ShortOutput = refl
back NotSound = refl
back TablesDisagree = refl
back NothingToEdit = refl

pub number_once : (a b : Refusal) → number_of a ≡ number_of b → a ≡ b
number_once a b e = sym (back a) ∙ ap of_number e ∙ back b

pub some_number : (r : Refusal) → number_of r ≢ 0
some_number CutShort e = omega arith
some_number OutOfRange e = omega arith
some_number BadLabel e = omega arith
some_number NoSuchState e = omega arith
some_number NotRising e = omega arith
some_number ExtraBytes e = omega arith
some_number WrongLength e = omega arith
some_number FailsEntry e = omega arith
some_number NotAllowed e = omega arith
some_number AlreadyConcluded e = omega arith
some_number NoRoom e = omega arith
some_number ShortOutput e = omega arith
some_number NotSound e = omega arith
some_number TablesDisagree e = omega arith
some_number NothingToEdit e = omega arith

-- ---- the two ways out of a call that answers a value unless there is a refusal, 0 for none
pub refused_with : {A : Type 0} (a : A) (n : ℕ) → n ≢ 0 → refused n ≡ unless_refused n a
unfolding unless_refused
refused_with a zero h = absurd (h refl)
refused_with a (suc n) h = refl

module _ {A : Type 0} (a : A) (no : ℕ) where
  pub err_said : (r : Refusal) → number_of r ≡ no → refused (number_of r) ≡ unless_refused no a
  err_said r e = rw e (refused_with a no (λ z. some_number r (e ∙ z)))

  pub ok_said : (b : A) → 0 ≡ no → b ≡ a → given b ≡ unless_refused no a
  unfolding unless_refused
  ok_said b e q = rw (sym e) (ap given q)

-- ---- what was said determines the answer
abbrev value : {A : Type 0} → A → Answer A → A
value a (given b) = b
value a (refused n) = a

abbrev number : {A : Type 0} → Answer A → ℕ
number (given b) = 0
number (refused n) = n

-- .. where the words of a definition determine the value
pub said_as_once : {A B : Type 0} (f : A → B) → ((a b : A) → f a ≡ f b → a ≡ b) → (r s : Result A Refusal) → said_as f r ≡ said_as f s → r ≡ s
said_as_once f one (Ok a) (Ok b) e = ap Ok (one a b (ap (value (f a)) e))
said_as_once f one (Ok a) (Err s) e = absurd (some_number s (sym (ap number e)))
said_as_once f one (Err r) (Ok b) e = absurd (some_number r (ap number e))
said_as_once f one (Err r) (Err s) e = ap Err (number_once r s (ap number e))

pub said_once : {A : Type 0} (r s : Result A Refusal) → said r ≡ said s → r ≡ s
said_once (Ok a) (Ok b) e = ap Ok (ap (value a) e)
said_once (Ok a) (Err s) e = absurd (some_number s (sym (ap number e)))
said_once (Err r) (Ok b) e = absurd (some_number r (ap number e))
said_once (Err r) (Err s) e = ap Err (number_once r s (ap number e))

pub refusal_once : (r s : Result (Unit {0}) Refusal) → refusal_of r ≡ refusal_of s → r ≡ s
refusal_once (Ok a) (Ok b) e = refl
refusal_once (Ok a) (Err s) e = absurd (some_number s (sym e))
refusal_once (Err r) (Ok b) e = absurd (some_number r e)
refusal_once (Err r) (Err s) e = ap Err (number_once r s e)
