-- Stores into the words of a state: each rule's stores make the words of the next state.
use Prim.Native.Nat.{ℕ, zero, suc, ◌+◌, ◌-◌, ◌*◌, ◌≤◌, ◌<◌, ◌/◌, ◌%◌}
use native.Mathlib.Omega.{arith}
use mathlib.Core.Bool.{cond}
use mathlib.Core.List.{List, [], ◌∷◌}
use mathlib.Core.Logic.{◌⊎◌, inl, inr}
use mathlib.Core.Path.{◌≡◌, refl, sym, ap, ◌∙◌, fun_ext}
use borrow.Author.Tests.{lt-ltb}
use lib.Dec.{ltb}
use lib.ListN.{length, get_or, set}
use lib.Seq.{sets, length-sets, ext_get_or}
use Rattle.rules.proofs.Buffer.{at_x, at_y, encode-n, encode-k, encode-length}
use Rattle.rules.proofs.Invariant.{put_same, put_other, cut_low, cut_high}
use Rattle.rules.specs.Buffer.{encode, decode}
use Rattle.rules.proofs.Reading.{n_is, k_is}
use Rattle.rules.proofs.Ready.{Holds}
use Rattle.runs.specs.Inner.{Untouched, after_above}
use Rattle.sets.proofs.Lists.{sets_before, sets_after, sets_at}
use Rattle.sets.proofs.Members.{proper_length, proper_of}
use Rattle.rules.specs.Rules.{put, cut, after_unfold, after_conflict, State}
use Rattle.sets.proofs.Tests.{passes, fails, leb-says, lt_or_ge, same_or}
use Rattle.sets.proofs.Words.{four_of}
use Rattle.sets.specs.Sets.{Set, empty, full, meet, quad}

-- reading outside of what was stored, and in it
pub get_or-sets_out : (vs l : List ℕ) (i k : ℕ) → (k < i) ⊎ (i + length vs ≤ k) → get_or (sets l i vs) k 0 ≡ get_or l k 0
get_or-sets_out vs l i k h = elim h [ inl a ↦ sets_before 0 vs l i k a | inr b ↦ sets_after 0 vs l i k b ]

pub get_or-sets_in : (vs l : List ℕ) (i k : ℕ) → k < length vs → i + length vs ≤ length l → get_or (sets l i vs) (i + k) 0 ≡ get_or vs k 0
get_or-sets_in vs l i k h m = sets_at 0 vs l i k h (omega arith)

-- a state with one number or one list of sets changed
abbrev pub with_n : State → ℕ → State
with_n s n = record { n = n; k = s.k; x = s.x; y = s.y }

abbrev pub with_k : State → ℕ → State
with_k s k = record { n = s.n; k = k; x = s.x; y = s.y }

abbrev pub with_x : State → (ℕ → Set) → State
with_x s x = record { n = s.n; k = s.k; x = x; y = s.y }

abbrev pub with_y : State → (ℕ → Set) → State
with_y s y = record { n = s.n; k = s.k; x = s.x; y = y }

pub set-n : (s : State) (m : ℕ) → set (encode s) 0 m ≡ encode (with_n s m)
unfolding encode
set-n s m = refl

pub set-k : (s : State) (m : ℕ) → set (encode s) 1 m ≡ encode (with_k s m)
unfolding encode
set-k s m = refl

-- where a place of the buffer lies
pub data Place : ℕ → Type 0 where
  first : Place 0
  second : Place 1
  in_x : (j c i : ℕ) → j < 258 → c < 4 → i ≡ 2 + 4 * j + c → Place i
  in_y : (j c i : ℕ) → j < 258 → c < 4 → i ≡ 1034 + 4 * j + c → Place i

pub place : (i : ℕ) → i < 2066 → Place i
place zero l = first
place (suc zero) l = second
place (suc (suc i)) l =
    elim (lt_or_ge i 1032) [
      | inl h ↦ in_x (i / 4) (i % 4) (suc (suc i)) (omega arith) (omega arith) (omega arith)
      | inr h ↦ let w : ℕ = i - 1032 in in_y ((i - 1032) / 4) ((i - 1032) % 4) (suc (suc i)) (omega arith) (omega arith) (omega arith)
    ]

module _ (s : State) (j : ℕ) (v : Set) (four : length v ≡ 4) (l : j < 258) where
  pub put-x : sets (encode s) (2 + 4 * j) v ≡ encode (with_x s (put s.x j v))
  put-x = ext_get_or 0 _ _ (length-sets (encode s) (2 + 4 * j) v ∙ encode-length s ∙ sym (encode-length (with_x s (put s.x j v))))
      (λ i h. at i (place i (omega (arith, length-sets (encode s) (2 + 4 * j) v, encode-length s))))
    where
      at : (i : ℕ) → Place i → get_or (sets (encode s) (2 + 4 * j) v) i 0 ≡ get_or (encode (with_x s (put s.x j v))) i 0
      at i first = get_or-sets_out v (encode s) (2 + 4 * j) 0 (inl (omega arith)) ∙ encode-n s ∙ sym (encode-n (with_x s (put s.x j v)))
      at i second = get_or-sets_out v (encode s) (2 + 4 * j) 1 (inl (omega arith)) ∙ encode-k s ∙ sym (encode-k (with_x s (put s.x j v)))
      at i (in_y a c w la lc e) = get_or-sets_out v (encode s) (2 + 4 * j) i (inr (omega arith)) ∙ at_y s a c i la lc e
          ∙ sym (at_y (with_x s (put s.x j v)) a c i la lc e)
      at i (in_x a c w la lc e) =
          elim (same_or a j) [
            | inl q ↦ let e' : i ≡ 2 + 4 * j + c = omega arith in
                let d : get_or (put s.x j v a) c 0 ≡ get_or v c 0 = rw (q, put_same) in
                ap (λ (w : ℕ). get_or (sets (encode s) (2 + 4 * j) v) w 0) e'
                ∙ get_or-sets_in v (encode s) (2 + 4 * j) c (omega arith) (omega (arith, encode-length s))
                ∙ sym (at_x (with_x s (put s.x j v)) a c i la lc e ∙ d)
            | inr n ↦ get_or-sets_out v (encode s) (2 + 4 * j) i
                (elim (lt_or_ge a j) [ inl h ↦ inl (omega arith) | inr h ↦ inr (let d : j < a = omega (arith, n) in omega arith) ])
                ∙ at_x s a c i la lc e ∙ sym (at_x (with_x s (put s.x j v)) a c i la lc e ∙ ap (λ (w : Set). get_or w c 0) (put_other s.x j v a n))
          ]

  pub put-y : sets (encode s) (1034 + 4 * j) v ≡ encode (with_y s (put s.y j v))
  put-y = ext_get_or 0 _ _ (length-sets (encode s) (1034 + 4 * j) v ∙ encode-length s ∙ sym (encode-length (with_y s (put s.y j v))))
      (λ i h. at i (place i (omega (arith, length-sets (encode s) (1034 + 4 * j) v, encode-length s))))
    where
      at : (i : ℕ) → Place i → get_or (sets (encode s) (1034 + 4 * j) v) i 0 ≡ get_or (encode (with_y s (put s.y j v))) i 0
      at i first = get_or-sets_out v (encode s) (1034 + 4 * j) 0 (inl (omega arith)) ∙ encode-n s ∙ sym (encode-n (with_y s (put s.y j v)))
      at i second = get_or-sets_out v (encode s) (1034 + 4 * j) 1 (inl (omega arith)) ∙ encode-k s ∙ sym (encode-k (with_y s (put s.y j v)))
      at i (in_x a c w la lc e) = get_or-sets_out v (encode s) (1034 + 4 * j) i (inl (omega arith)) ∙ at_x s a c i la lc e
          ∙ sym (at_x (with_y s (put s.y j v)) a c i la lc e)
      at i (in_y a c w la lc e) =
          elim (same_or a j) [
            | inl q ↦ let e' : i ≡ 1034 + 4 * j + c = omega arith in
                let d : get_or (put s.y j v a) c 0 ≡ get_or v c 0 = rw (q, put_same) in
                ap (λ (w : ℕ). get_or (sets (encode s) (1034 + 4 * j) v) w 0) e'
                ∙ get_or-sets_in v (encode s) (1034 + 4 * j) c (omega arith) (omega (arith, encode-length s))
                ∙ sym (at_y (with_y s (put s.y j v)) a c i la lc e ∙ d)
            | inr n ↦ get_or-sets_out v (encode s) (1034 + 4 * j) i
                (elim (lt_or_ge a j) [ inl h ↦ inl (omega arith) | inr h ↦ inr (let d : j < a = omega (arith, n) in omega arith) ])
                ∙ at_y s a c i la lc e ∙ sym (at_y (with_y s (put s.y j v)) a c i la lc e ∙ ap (λ (w : Set). get_or w c 0) (put_other s.y j v a n))
          ]

-- reading a set of four words held-back
pub quad-four : (s : State) (j : ℕ) → j < 258 → length (s.x j) ≡ 4 → quad (encode s) (2 + 4 * j) ≡ s.x j
unfolding quad
quad-four s j l e =
    rw (
      at_x s j 0 (2 + 4 * j) l (omega arith) (omega arith),
      at_x s j 1 (2 + 4 * j + 1) l (omega arith) (omega arith),
      at_x s j 2 (2 + 4 * j + 2) l
          (omega arith) (omega arith),
      at_x s j 3 (2 + 4 * j + 3) l (omega arith) (omega arith),
    )
    (sym (four_of (s.x j) e))

-- ---- the rules' stores
module _ (b : List ℕ) (h : Holds b) where
  same : b ≡ encode (decode b)
  same = sym h.same

  pub fired_unfold : (N : ℕ) (v : Set) (b1 : List ℕ) → get_or b 0 0 < 258 → length v ≡ 4 → v ≡ full N → b1 ≡ sets b (2 + 4 * get_or b 0 0) v
      → set (set b1 0 (get_or b 0 0 + 1)) 1 (get_or b 0 0 + 1) ≡ encode (after_unfold N (decode b))
  fired_unfold N v b1 l four ev e1 =
      let d1 : b1 ≡ encode (with_x (decode b) (put (decode b).x (get_or b 0 0) v)) =
      e1 ∙ ap (λ c. sets c (2 + 4 * get_or b 0 0) v) same ∙ put-x (decode b) (get_or b 0 0) v four l in
      ap (λ c. set c 1 (get_or b 0 0 + 1)) (ap (λ c. set c 0 (get_or b 0 0 + 1)) d1 ∙ set-n _ _) ∙ set-k _ _ ∙ rw (ev, n_is b)

  pub fired_above : (i : ℕ) (z : Set) (b1 : List ℕ) → i ≤ 258 → 0 < i → length z ≡ 4 → b1 ≡ sets b (1034 + 4 * (i - 1)) z
      → set b1 1 (i - 1) ≡ encode (after_above (decode b) i z)
  fired_above i z b1 room pos four e1 =
      let d1 : b1 ≡ encode (with_y (decode b) (put (decode b).y (i - 1) z)) =
      e1 ∙ ap (λ c. sets c (1034 + 4 * (i - 1)) z) same ∙ put-y (decode b) (i - 1) z four (omega arith) in
      ap (λ c. set c 1 (i - 1)) d1 ∙ set-k _ _

-- every set below m met with z: what the loop of Conflict has made
unfoldable pub cut_to : ℕ → (ℕ → Set) → ℕ → Set → ℕ → Set
cut_to N x m z j = cond (ltb j m) (meet N (x j) z) (x j)

module _ (N : ℕ) (x : ℕ → Set) (z : Set) where
  cut_below : (m j : ℕ) → j < m → cut_to N x m z j ≡ meet N (x j) z
  unfolding cut_to
  cut_below m j l = rw (passes (leb-says (suc j) m) (λ h. omega arith))

  pub cut-above : (m j : ℕ) → m ≤ j → cut_to N x m z j ≡ x j
  unfolding cut_to
  cut-above m j l = rw (fails (leb-says (suc j) m) (λ h. omega arith))

  cut-from : (m : ℕ) → ((j : ℕ) → j < m → meet N (x j) z ≡ x j) → cut_to N x m z ≡ x
  cut-from m h = fun_ext (λ j. elim (lt_or_ge j m) [ inl l ↦ cut_below m j l ∙ h j l | inr l ↦ cut-above m j l ])

  pub cut-more : (m : ℕ) → put (cut_to N x m z) m (meet N (x m) z) ≡ cut_to N x (m + 1) z
  cut-more m = fun_ext go
    where
      go : (j : ℕ) → put (cut_to N x m z) m (meet N (x m) z) j ≡ cut_to N x (m + 1) z j
      go j = elim (same_or j m) [
        | inl q ↦ rw q (put_same _ m _ ∙ sym (cut_below (m + 1) m (omega arith)))
        | inr n ↦ put_other _ m _ j n ∙ elim (lt_or_ge j m) [
          | inl l ↦ cut_below m j l ∙ sym (cut_below (m + 1) j (omega arith))
          | inr l ↦ cut-above m j l ∙ sym (cut-above (m + 1) j (let d : m < j = omega (arith, n) in omega arith))
        ]
      ]

  pub cut_all : (k : ℕ) → cut_to N x (k + 1) z ≡ cut N x k z
  cut_all k = fun_ext go
    where
      go : (j : ℕ) → cut_to N x (k + 1) z j ≡ cut N x k z j
      go j = elim (lt_or_ge j (k + 1)) [
        | inl l ↦ cut_below (k + 1) j l ∙ sym (cut_low N x k z j (omega arith))
        | inr l ↦ cut-above (k + 1) j l ∙ sym (cut_high N x k z j (omega arith))
      ]

-- the state in the buffer while Conflict's loop stands at m
unfoldable pub midway : ℕ → List ℕ → Set → ℕ → State
midway N b z m = with_x (decode b) (cut_to N (decode b).x m z)

-- Conflict's loop: the buffer holds the state in which the sets below j are met with z
pub record Cutting (b : List ℕ) (z : Set) (m : ℕ) (buf : List ℕ) (j : ℕ) : Type 0 where
  pub in-range : j ≤ m
  pub holds : buf ≡ encode (midway 256 b z j)
  pub long : length buf ≡ 2066

module _ (b : List ℕ) (h : Holds b) (z : Set) where
  pub cut-begins : (m low : ℕ) → Untouched (decode b) z low → m ≡ get_or b 1 0 + 1 → Cutting b z m b low
  unfolding midway
  cut-begins m low u em =
      record {
        in-range = omega (arith, u.le, k_is b);
        holds = sym h.same ∙ rw (cut-from 256 (decode b).x z low u.at);
        long = h.spans.long;
      }

  four_x : (m j : ℕ) → j < get_or b 0 0 → length ((decode b).x j) ≡ 4
  unfolding decode quad
  four_x m j l = rw (lt-ltb j (get_or b 0 0) l)

  mid_read : (c : List ℕ) (j : ℕ) → c ≡ encode (midway 256 b z j) → j < get_or b 0 0 → quad c (2 + 4 * j) ≡ (decode b).x j
  unfolding midway
  mid_read c j e l =
      let above = cut-above 256 (decode b).x z j j (omega arith) in
      rw e (quad-four (midway 256 b z j) j (omega (arith, h.spans.room)) (rw above (four_x j j l)) ∙ above)

  pub cut-goes : (m : ℕ) (c d : List ℕ) (j : ℕ) (x w : Set) → Cutting b z m c j → j < m → m ≤ get_or b 0 0
      → x ≡ quad c (2 + 4 * j) → w ≡ meet 256 x z → d ≡ sets c (2 + 4 * j) w → Cutting b z m d (j + 1)
  unfolding midway meet
  cut-goes m c d j x w v l room ex ew ed =
      let four : length w ≡ 4 = ap length ew ∙ proper_length 256 _ (proper_of 256 (omega arith) _) in
      let dw : w ≡ meet 256 ((decode b).x j) z = ew ∙ ap (λ q. meet 256 q z) (ex ∙ mid_read c j v.holds (omega arith)) in
      record {
        in-range = omega arith;
        holds =
            ed ∙ ap (λ q. sets q (2 + 4 * j) w) v.holds ∙ put-x (midway 256 b z j) j w four (omega (arith, h.spans.room))
            ∙ ap (λ q. encode (with_x (decode b) q)) (ap (put (cut_to 256 (decode b).x j z) j) dw ∙ cut-more 256 (decode b).x z j);
        long = ap length ed ∙ length-sets c (2 + 4 * j) w ∙ v.long;
      }

  pub cut-ends : (m : ℕ) (c b1 : List ℕ) (j : ℕ) → Cutting b z m c j → m ≡ get_or b 1 0 + 1 → m ≤ j → get_or b 1 0 < get_or b 0 0
      → b1 ≡ sets c (1034 + 4 * get_or b 1 0) (0 ∷ 0 ∷ 0 ∷ 0 ∷ []) → set b1 1 (get_or b 1 0 + 1) ≡ encode (after_conflict 256 (decode b) z)
  unfolding midway empty
  cut-ends m c b1 j v em l k e1 =
      let q : j ≡ get_or b 1 0 + 1 = omega (arith, v.in-range) in
      let e : c ≡ encode (midway 256 b z (get_or b 1 0 + 1)) = rw q at v.holds in
      ap (λ c. set c 1 (get_or b 1 0 + 1))
      (e1 ∙ ap (λ c. sets c (1034 + 4 * get_or b 1 0) (0 ∷ 0 ∷ 0 ∷ 0 ∷ [])) e
      ∙ put-y (midway 256 b z (get_or b 1 0 + 1)) (get_or b 1 0) (0 ∷ 0 ∷ 0 ∷ 0 ∷ []) refl (omega (arith, h.spans.room)))
      ∙ set-k _ _ ∙ rw (cut_all, k_is b)
