-- States that a buffer holds: sets of four words with nothing from N up, and the empty set where none is held.
use Prim.Native.Nat.{ℕ, ◌-◌, ◌≤◌}
use native.Mathlib.Omega.{arith}
use mathlib.Core.Bool.{Bool, true, false, cond}
use mathlib.Core.List.{List, [], ◌∷◌}
use mathlib.Core.Logic.{inl, inr}
use mathlib.Core.Path.{◌≡◌, refl, ◌∙◌}
use lib.Dec.{leb, eqb}
use Rattle.rules.proofs.Ends.{run-ind}
use Rattle.rules.proofs.Invariant.{put_same, put_other, cut_high, Invariant}
use Rattle.rules.proofs.Keep.{due-is, Due, is_unfold, is_candidate, is_decide, is_conflict}
use Rattle.rules.specs.Buffer.{Normal}
use Rattle.rules.specs.Rules.{put, cut, fresh, fresh_of, due, allowed, house, fire, State, Rule, Unfold, Candidate, Decide, Conflict}
use Rattle.rules.specs.Runs.{pick, stop, asks, offered, after, will_do, choose, next, run}
use Rattle.rules.specs.Table.{backward, f, g, Table}
use Rattle.sets.proofs.Members.{proper_of, proper_empty, proper_sound}
use Rattle.sets.proofs.Tests.{and-true, lt_or_ge}
use Rattle.sets.specs.Sets.{Set, empty, full, sound, meet, Proper}

-- hints of four words each
abbrev pub Words : List Set → Type 0
Words [] = Unit {0}
Words (z ∷ hs) = Proper 256 z × Words hs

-- a property of the sets put
put_all : (Q : Set → Type 0) (x : ℕ → Set) (i : ℕ) (v : Set) → Q v → ((j : ℕ) → Q (x j)) → (j : ℕ) → Q (put x i v j)
unfolding put
put_all Q x i v qv q j = go (eqb j i)
  where
    go : (b : Bool) → Q (cond b v (x j))
    go true = qv
    go false = q j

module _ (t : Table) (big : t.size ≤ 256) where
  proper_full : Proper t.size (full t.size)
  unfolding full
  proper_full = proper_of t.size big _

  proper_back : (x : Set) → Proper t.size (g t x)
  unfolding backward
  proper_back x = proper_of t.size big _

  proper_meet : (x y : Set) → Proper t.size (meet t.size x y)
  unfolding meet
  proper_meet x y = proper_of t.size big _

  proper_cut : (x : ℕ → Set) (k : ℕ) (z : Set) → ((j : ℕ) → Proper t.size (x j)) → (j : ℕ) → Proper t.size (cut t.size x k z j)
  unfolding cut
  proper_cut x k z h j = go (leb j k)
    where
      go : (b : Bool) → Proper t.size (cond b (meet t.size (x j) z) (x j))
      go true = proper_meet (x j) z
      go false = h j

  pub fresh-normal : Normal t.size (fresh t)
  unfolding fresh_of
  fresh-normal =
      record {
        proper_x = put_all (Proper t.size) (λ _. empty) 1 (full t.size) proper_full (λ j. proper_empty t.size big);
        proper_y = λ j. proper_empty t.size big;
        x_end = λ j l. put_other (λ _. empty) 1 (full t.size) j (omega arith);
        y_end = λ j l. refl;
        y_low = λ j l. refl;
      }

  pub fire-normal : (r : Rule) (s : State) (z : Set) → Invariant t s → Normal t.size s → Due t s r → Proper t.size z
      → Normal t.size (fire t.size r s z)
  unfolding fire
  fire-normal Unfold s z v m (is_unfold p h) o =
      record {
        proper_x = put_all (Proper t.size) s.x s.n (full t.size) proper_full m.proper_x;
        proper_y = m.proper_y;
        x_end = λ j l. put_other s.x s.n (full t.size) j (omega arith) ∙ m.x_end j (omega arith);
        y_end = λ j l. m.y_end j (omega arith);
        y_low = λ j l. elim (lt_or_ge j s.n) [ inl a ↦ m.y_low j (omega arith) | inr a ↦ m.y_end j a ];
      }
  fire-normal Candidate s z v m (is_candidate p h) o =
      record {
        proper_x = m.proper_x;
        proper_y = put_all (Proper t.size) s.y (s.n - 1) z o m.proper_y;
        x_end = m.x_end;
        y_end = λ j l. put_other s.y (s.n - 1) z j (omega (arith, v.two)) ∙ m.y_end j l;
        y_low = λ j l. put_other s.y (s.n - 1) z j (omega arith) ∙ m.y_low j (omega arith);
      }
  fire-normal Decide s z v m (is_decide p h) o =
      record {
        proper_x = m.proper_x;
        proper_y = put_all (Proper t.size) s.y (s.k - 1) z o m.proper_y;
        x_end = m.x_end;
        y_end = λ j l. put_other s.y (s.k - 1) z j (omega (arith, v.pos, v.le)) ∙ m.y_end j l;
        y_low = λ j l. put_other s.y (s.k - 1) z j (omega arith) ∙ m.y_low j (omega arith);
      }
  fire-normal Conflict s z v m (is_conflict p h) o =
      record {
        proper_x = proper_cut s.x s.k z m.proper_x;
        proper_y = put_all (Proper t.size) s.y s.k empty (proper_empty t.size big) m.proper_y;
        x_end = λ j l. cut_high t.size s.x s.k z j (omega (arith, v.le)) ∙ m.x_end j l;
        y_end = λ j l. put_other s.y s.k empty j (omega (arith, v.le)) ∙ m.y_end j l;
        y_low = λ j l. elim (lt_or_ge j s.k) [
          | inl a ↦ put_other s.y s.k empty j (omega arith) ∙ m.y_low j a
          | inr a ↦ let q : j ≡ s.k = omega arith in rw (q, put_same)
        ];
      }

  -- the sets that a run chooses, and the hints that it leaves
  proper_pick : (b : Bool) (hs : List Set) (ok : Set → Bool) (h : Set) → ((z : Set) → ok z ≡ true → sound t.size z ≡ true)
      → Words hs → Proper t.size h → Proper t.size (pick b hs ok h).set × Words (pick b hs ok h).left
  unfolding pick offered
  proper_pick false hs ok h f w o = (o, w)
  proper_pick true [] ok h f w o = (o, tt)
  proper_pick true (z ∷ hs) ok h f w o = go (ok z) refl
    where
      go : (b : Bool) → ok z ≡ b → Proper t.size (offered b z h hs).set × Words (offered b z h hs).left
      go true e = (proper_sound t.size big z w.0 (f z e), w.1)
      go false e = (o, w.1)

  module _ (proper-safe : Proper t.size t.safe) where
    proper_house : (r : Rule) (s : State) → Normal t.size s → Proper t.size (house t r s)
    unfolding house
    proper_house Unfold s m = proper_empty t.size big
    proper_house Candidate s m = proper-safe
    proper_house Decide s m = proper_back (s.y s.k)
    proper_house Conflict s m = m.proper_y s.k

    pub proper_choice : (hs : List Set) (s : State) → Words hs → Normal t.size s → Proper t.size (choose t hs s).set × Words (choose t hs s).left
    unfolding choose will_do
    proper_choice hs s w m =
        proper_pick (asks (due t s)) hs (will_do t s) (house t (due t s) s)
        (λ z e. (and-true (sound t.size z) (allowed t (due t s) s z) e).0) w (proper_house (due t s) s m)

    pub next-normal : (hs : List Set) (s : State) → Words hs → Invariant t s → Normal t.size s → Normal t.size (next t (choose t hs s) s)
    unfolding next
    next-normal hs s w v m = fire-normal (due t s) s _ v m (due-is t s) (proper_choice hs s w m).0

    pub run_normal : (b : ℕ) (hs : List Set) (s : State) → Invariant t s → Words hs → Normal t.size s → Normal t.size (run t b hs s).state
    unfolding stop after
    run_normal = run-ind t big (λ b hs s o. Words hs → Normal t.size s → Normal t.size o.state) (λ b hs s v d w m. m)
        (λ b hs s o v p q w m. q (proper_choice hs s w m).1 (next-normal hs s w v m))
