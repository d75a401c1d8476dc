-- A fresh run buffer: zeros, then the words of the fresh state.
use Prim.Native.Nat.{ℕ, zero, suc, ◌<◌}
use native.Mathlib.Omega.{arith}
use mathlib.Core.List.{List}
use mathlib.Core.Logic.{◌≢◌}
use mathlib.Core.Path.{◌≡◌, refl, sym, ap, ◌∙◌}
use borrow.Author.Tests.{eq-eqb, ne_eqb}
use Rattle.std.specs.Prelude.{Ok, Err}
use Rattle.answers.proofs.Order.{refuses_other}
use Rattle.answers.proofs.Values.{no_value}
use Rattle.answers.specs.Answer.{given, refused, unless_refused}
use Rattle.answers.specs.Refusals.{first_failing}
use Rattle.answers.specs.Said.{number_of}
use Rattle.answers.specs.declared.Refusal.{Refusal}
use lib.ListN.{length, get_or, set, replicate, length-replicate, get_or-replicate}
use lib.Seq.{sets, ext_get_or}
use Rattle.rules.proofs.Buffer.{at_x, at_y, encode-n, encode-k, encode-length}
use Rattle.rules.specs.Buffer.{encode}
use Rattle.rules.specs.Rules.{put, fresh_of}
use Rattle.runs.proofs.Stores.{set-n, set-k, place, put-x, Place, first, second, in_x, in_y}
use Rattle.runs.specs.Promises.{fresh_refusal, FreshPromise}
use Rattle.runs.specs.Inner.{nothing}
use Rattle.sets.specs.Said.{Answers}
use Rattle.sets.specs.Sets.{Set, empty, full, size_refusal}
use Rattle.sets.specs.declared.StateSet.{StateSet}

no_word : (q : ℕ) → get_or empty q 0 ≡ 0
unfolding empty
no_word zero = refl
no_word (suc zero) = refl
no_word (suc (suc zero)) = refl
no_word (suc (suc (suc zero))) = refl
no_word (suc (suc (suc (suc q)))) = refl

nothing_is : (b : List ℕ) → length b ≡ 2066 → ((i : ℕ) → i < 2066 → get_or b i 0 ≡ 0) → b ≡ encode nothing
nothing_is b len h = ext_get_or 0 b (encode nothing) (len ∙ sym (encode-length nothing)) (λ i l. h i (omega arith) ∙ sym (at i (place i (omega arith))))
  where
    at : (i : ℕ) → Place i → get_or (encode nothing) i 0 ≡ 0
    at i first = encode-n nothing
    at i second = encode-k nothing
    at i (in_x a c w la lc e) = at_x nothing a c i la lc e ∙ no_word c
    at i (in_y a c w la lc e) = at_y nothing a c i la lc e ∙ no_word c

pub zeros : encode nothing ≡ replicate 2066 0
zeros = sym (nothing_is (replicate 2066 0) (length-replicate {A = ℕ} 2066 0) (λ i l. get_or-replicate {A = ℕ} 2066 i 0 0 l))

fresh-is : (N : ℕ) (b1 b2 b3 b4 : List ℕ) (v : Set) → length v ≡ 4 → v ≡ full N → b1 ≡ encode nothing → b2 ≡ sets b1 6 v → b3 ≡ set b2 0 2 → b4 ≡ set b3 1 2
    → b4 ≡ encode (fresh_of N)
unfolding fresh_of
fresh-is N b1 b2 b3 b4 v four ev e1 e2 e3 e4 =
    e4 ∙ ap (λ (c : List ℕ). set c 1 2)
    (e3 ∙ ap (λ (c : List ℕ). set c 0 2) (e2 ∙ ap (λ (c : List ℕ). sets c 6 v) e1 ∙ put-x nothing 1 v four (omega arith)) ∙ set-n _ _) ∙ set-k _ _
    ∙ ap (λ (w : Set). encode (record { n = 2; k = 2; x = put (λ j. empty) 1 w; y = λ j. empty })) ev

-- what `full` answered
said-err : (n m : ℕ) (a : Set) → refused m ≡ unless_refused n a → (m ≡ n) × (n ≢ 0)
unfolding unless_refused
said-err zero m a e = no_value e
said-err (suc n) m a e = let q : m ≡ suc n = cc in (q, λ z. omega arith)

said-ok : (n : ℕ) (a w : Set) → given w ≡ unless_refused n a → (0 ≡ n) × (w ≡ a)
unfolding unless_refused
said-ok zero a w e = (refl, cc)
said-ok (suc n) a w e = no_value (sym e)

-- ---- the three returns of `fresh`
module _ (N : ℕ) (b : List ℕ) where
  fresh-refused : (n : ℕ) → n ≡ fresh_refusal N b → n ≢ 0 → FreshPromise N b b n
  fresh-refused n e h = record { answer = e; buffer = rw (← e, ne_eqb n 0 h) }

  pub fresh-7 : (length b ≡ 2066 → ⊥) → FreshPromise N b b 7
  unfolding fresh_refusal
  fresh-7 h = fresh-refused 7 (refuses_other _ _ _ _ h) (λ e. omega arith)

  module _ (len : length b ≡ 2066) where
    -- what is left to test is N
    range-left : fresh_refusal N b ≡ size_refusal N
    unfolding fresh_refusal first_failing size_refusal
    range-left = rw (eq-eqb (length b) 2066 len)

    pub fresh-err : (e : Refusal) → Answers (size_refusal N) (full N) (Err e) → FreshPromise N b b (number_of e)
    fresh-err e a = let (q, h) = said-err _ _ _ a.answer in fresh-refused _ (q ∙ sym range-left) (λ z. h (sym q ∙ z))

    pub fresh-ok : (v : StateSet) → Answers (size_refusal N) (full N) (Ok v) → length v.words ≡ 4 → (b1 b2 : List ℕ)
        → b1 ≡ replicate (length b) 0 → b2 ≡ sets b1 6 v.words → FreshPromise N b (set (set b2 0 2) 1 2) 0
    fresh-ok v a four b1 b2 e1 e2 =
        let (z, ev) = said-ok _ _ _ a.answer in
        let taken : 0 ≡ fresh_refusal N b = z ∙ sym range-left in
        record {
          answer = taken;
          buffer = rw (← taken) (fresh-is N b1 b2 _ _ v.words four ev (e1 ∙ ap (λ n. replicate n 0) len ∙ sym zeros) e2 refl refl);
        }
