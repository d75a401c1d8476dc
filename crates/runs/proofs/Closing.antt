-- Where the conclusion is looked for: everywhere at first, and after a rule only where that rule can have made one.
use Prim.Native.Nat.{ℕ, suc, ◌+◌, ◌-◌, ◌*◌, ◌≤◌, ◌<◌}
use native.Mathlib.Omega.{arith}
use mathlib.Core.Bool.{Bool, true, false, ◌&&◌}
use mathlib.Core.List.{List}
use mathlib.Core.Logic.{inl, inr}
use mathlib.Core.Path.{◌≡◌, refl, sym, ap, ◌∙◌}
use lib.ListN.{get_or}
use Rattle.rules.proofs.Invariant.{Open, open_up, put_other, cut_low, cut_high}
use Rattle.rules.proofs.Keep.{chain}
use Rattle.rules.proofs.Reading.{x_is, n_is, k_is, closes-256}
use Rattle.rules.proofs.Ready.{Spans, Ready}
use Rattle.rules.specs.Buffer.{decode, Normal}
use Rattle.rules.specs.Rules.{State, state, closes, fire, after_unfold, after_conflict}
use Rattle.rules.specs.Table.{Table}
use Rattle.runs.specs.Inner.{Fireable, Closing, Looks, Parted, Climbs, Untouched}
use Rattle.runs.specs.Said.{as_rule}
use Rattle.runs.specs.declared.Rule as code
use Rattle.sets.proofs.Members.{member-meet, proper_of, proper_ext, proper_up}
use Rattle.sets.proofs.Tests.{same_or}
use Rattle.sets.proofs.Within.{Within, Beyond, within-true, within-false, is_within, within-trans, within-256, meet-256}
use Rattle.sets.specs.Sets.{Set, Proper, meet, member, within, quad}

-- ---- what a table and a buffer that passes the entry check give
pub climbs_by : (t : Table) (b : List ℕ) → Ready t b → Climbs (decode b)
climbs_by t b v =
    let m = v.fit.held.norm in
    record {
      proper = λ j. proper_up t.size v.good.big (m.proper_x j);
      up = λ j i h l. is_within 256 _ _
          (within-256 t.size v.good.big _ _ (m.proper_x j) ∙ within-true t.size (chain t (decode b) v.fit.inv j i h l));
    }

pub parted-by : (t : Table) (b : List ℕ) (N : ℕ) → Ready t b → N ≡ t.size → Open t (decode b) → Parted N (decode b)
parted-by t b N v e o = rw e (record { at = open_up t (decode b) o })

-- ---- everywhere
pub looks_all : (b : List ℕ) (hi : ℕ) → Spans b → hi ≡ get_or b 0 0 - 1 → Looks b 0 hi
looks_all b hi v e =
    record {
      spans = v;
      closing =
          record {
            low = λ j l. absurd (omega arith);
            high = λ j l m. absurd (omega (arith, n_is b));
            rise = omega arith;
            end = omega (arith, n_is b, v.two);
          };
      rise = omega arith;
      end = omega (arith, v.two);
    }

-- in a buffer that holds the state s
pub looks_next : (t : Table) (b : List ℕ) (s : State) (lo hi : ℕ) → Ready t b → decode b ≡ s → Closing t.size s lo hi → Looks b lo hi
looks_next t b s lo hi v e c =
    record {
      spans = v.spans;
      closing =
          record {
            low = λ j l. wide j ∙ here.low j l;
            high = λ j l m. wide j ∙ here.high j l m;
            rise = here.rise;
            end = here.end;
          };
      rise = here.rise;
      end = omega (arith, n_is b, here.end);
    }
  where
    here : Closing t.size (decode b) lo hi
    here = rw e c

    wide : (j : ℕ) → closes 256 (decode b) j ≡ closes t.size (decode b) j
    wide j = ap (λ p. p j) (closes-256 t.size v.good.big (decode b) v.fit.held.norm)

-- ---- after a rule
module _ (N : ℕ) (big : N ≤ 256) (s : State) (z : Set) (p : Parted N s) where
  parts : (j : ℕ) → suc j < s.n → within N (s.x (suc j)) (s.x j) ≡ false
  parts j l = within-false N (p.at j l)

  -- what lies beyond y lies beyond less than y
  beyond_meet : {x y : Set} → Beyond N x y → within N x (meet N y z) ≡ false
  beyond_meet {x} {y} w =
      within-false N
      (record {
        who = w.who;
        below = w.below;
        is = w.is;
        not = member-meet N big y z w.who w.below ∙ ap (λ (b : Bool). b && member z w.who) w.not;
      })

  -- Unfold changes x_n alone
  below_unfold : (j : ℕ) → j < s.n - 1 → closes N (after_unfold N s) j ≡ false
  unfolding closes
  below_unfold j l =
      rw (put_other s.x s.n _ (suc j) (λ (q : suc j ≡ s.n). omega arith), put_other s.x s.n _ j (λ (q : j ≡ s.n). omega arith))
      (parts j (omega arith))

  -- Conflict leaves the x above x_k, and takes from x_k
  above_conflict : (j : ℕ) → s.k ≤ j → suc j < s.n → closes N (after_conflict N s z) j ≡ false
  unfolding closes
  above_conflict j h l =
      elim (same_or j s.k) [
        | inl q ↦ rw (cut_high N s.x s.k z (suc j) (omega arith), cut_low N s.x s.k z j (omega arith)) (beyond_meet (p.at j l))
        | inr q ↦ rw (cut_high N s.x s.k z (suc j) (omega arith), cut_high N s.x s.k z j (omega (arith, q))) (parts j l)
      ]

  -- .. and those that are within z already
  below_conflict : Normal N s → s.k < s.n → (m : ℕ) → Untouched s z m → (j : ℕ) → suc j < m → closes N (after_conflict N s z) j ≡ false
  unfolding closes
  below_conflict norm k m u j l =
      rw (
        cut_low N s.x s.k z (suc j) (omega (arith, u.le)),
        cut_low N s.x s.k z j (omega (arith, u.le)),
        as_it_is (suc j) l,
        as_it_is j (omega arith),
      )
      (parts j (omega (arith, u.le)))
    where
      as_it_is : (i : ℕ) → i < m → meet N (s.x i) z ≡ s.x i
      as_it_is i h = sym (meet-256 N big (s.x i) z (norm.proper_x i)) ∙ u.at i h

-- as the code names the places; m is how many x Conflict leaves as they are
module _ (N : ℕ) (b : List ℕ) (rule : code.Rule) (z : Set) (f : Fireable N b rule) (p : Parted N (decode b)) where
  pub closing_unfold : rule ≡ code.TheVariants.Unfold → Closing N (fire N (as_rule rule) (decode b) z) (get_or b 0 0 - 1) (get_or b 0 0)
  unfolding fire as_rule
  closing_unfold e =
      rw e
      (record {
        low = λ j l. below_unfold N f.big (decode b) z p j (omega (arith, n_is b));
        high = λ j l m. absurd (omega (arith, n_is b));
        rise = omega arith;
        end = omega (arith, n_is b);
      })

  -- Candidate and Decide change no x
  still : (k : ℕ) (y : ℕ → Set) → Closing N (state (decode b).n k (decode b).x y) 0 0
  unfolding closes
  still k y =
      record {
        low = λ j l. absurd (omega arith);
        high = λ j l m. parts N f.big (decode b) z p j m;
        rise = omega arith;
        end = omega (arith, n_is b, f.holds.spans.two);
      }

  pub closing_candidate : rule ≡ code.TheVariants.Candidate → Closing N (fire N (as_rule rule) (decode b) z) 0 0
  unfolding fire as_rule
  closing_candidate e = rw e (still _ _)

  pub closing_decide : rule ≡ code.TheVariants.Decide → Closing N (fire N (as_rule rule) (decode b) z) 0 0
  unfolding fire as_rule
  closing_decide e = rw e (still _ _)

  module _ (e : rule ≡ code.TheVariants.Conflict) (m : ℕ) (u : Untouched (decode b) z m) where
    held : (decode b).k < (decode b).n
    held = omega (arith, f.held e, n_is b, k_is b)

    pub closing_conflict : (a : ℕ) → a ≡ m - 1 → Closing N (fire N (as_rule rule) (decode b) z) a (get_or b 1 0)
    unfolding fire as_rule
    closing_conflict a q =
        rw e
        (record {
          low = λ j l. below_conflict N f.big (decode b) z p f.norm held m u j (omega arith);
          high = λ j l h. above_conflict N f.big (decode b) z p j (omega (arith, k_is b)) h;
          rise = omega (arith, u.le, k_is b);
          end = omega (arith, held, k_is b);
        })

-- ---- which x Conflict leaves as they are
meet-kept : (x z : Set) → Proper 256 x → Within 256 x z → meet 256 x z ≡ x
unfolding meet
meet-kept x z h w =
    proper_ext 256 (omega arith) (proper_of 256 (omega arith) _) h (λ a l. member-meet 256 (omega arith) x z a l ∙ both (member x a) (member z a) (w.at a l))
  where
    both : (a b : Bool) → (a ≡ true → b ≡ true) → (a && b) ≡ a
    both true b h = h refl
    both false b h = refl

-- x_(k-1) was found to be within z, and the x below it are within x_(k-1)
pub untouched_by : (b : List ℕ) (z x : Set) (r : Bool) → Climbs (decode b) → Spans b → x ≡ quad b (2 + 4 * (get_or b 1 0 - 1)) → r ≡ within 256 x z
    → r ≡ true → Untouched (decode b) z (get_or b 1 0)
untouched_by b z x r c v ex e y =
    let dx : x ≡ (decode b).x (get_or b 1 0 - 1) = ex ∙ x_is b (get_or b 1 0 - 1) _ refl (omega (arith, v.pos, v.le)) in
    let inside : within 256 ((decode b).x (get_or b 1 0 - 1)) z ≡ true = rw dx at (sym e ∙ y) in
    record {
      le = omega (arith, k_is b);
      at = λ j l. meet-kept _ z (c.proper j)
          (within-trans 256 (c.up j (get_or b 1 0 - 1) (omega arith) (omega (arith, n_is b, v.pos, v.le))) (is_within 256 _ z inside));
    }
