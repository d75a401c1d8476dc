-- The words of a state: where each set stands, and that they hold the state they were made of.
use Prim.Native.Nat.{ℕ, suc, ◌+◌, ◌*◌, ◌≤◌, ◌<◌, ◌/◌, ◌%◌}
use native.Mathlib.Omega.{arith}
use mathlib.Core.Bool.{Bool, ◌&&◌, cond}
use mathlib.Core.List.{[], ◌∷◌}
use mathlib.Core.Path.{◌≡◌, refl, sym, ◌∙◌, fun_ext}
use lib.Dec.{ltb, leb}
use lib.ListN.{length, get_or, length-append, get_or-append}
use lib.Seq.{get_or-append-add}
use Rattle.rules.specs.Buffer.{flat, encode, decode, Normal}
use Rattle.rules.specs.Rules.{State}
use Rattle.sets.proofs.Lists.{length-tabulate, tabulate-at}
use Rattle.sets.proofs.Members.{proper_length}
use Rattle.sets.proofs.Tests.{leb-says, Says, pass, fail}
use Rattle.sets.proofs.Words.{four_of}
use Rattle.sets.specs.Sets.{Set, empty, quad, Proper}

flat-length : (x : ℕ → Set) → length (flat x) ≡ 1032
unfolding flat
flat-length x = length-tabulate 1032 (λ i. get_or (x (i / 4)) (i % 4) 0)

flat-at : (x : ℕ → Set) (j c : ℕ) → j < 258 → c < 4 → get_or (flat x) (4 * j + c) 0 ≡ get_or (x j) c 0
unfolding flat
flat-at x j c l h =
    let q : (4 * j + c) / 4 ≡ j = omega arith in
    let r : (4 * j + c) % 4 ≡ c = omega arith in
    tabulate-at 1032 (λ i. get_or (x (i / 4)) (i % 4) 0) 0 (4 * j + c) (omega arith) ∙ rw (q, r)

module _ (s : State) where
  pub at_x : (j c i : ℕ) → j < 258 → c < 4 → i ≡ 2 + 4 * j + c → get_or (encode s) i 0 ≡ get_or (s.x j) c 0
  unfolding encode
  at_x j c i l h e =
      let e' : i ≡ suc (suc (4 * j + c)) = omega arith in
      rw (e', get_or-append (flat s.x) (flat s.y) 0 (4 * j + c) (rw (flat-length s.x) (omega arith))) (flat-at s.x j c l h)

  pub at_y : (j c i : ℕ) → j < 258 → c < 4 → i ≡ 1034 + 4 * j + c → get_or (encode s) i 0 ≡ get_or (s.y j) c 0
  unfolding encode
  at_y j c i l h e =
      let e' : i ≡ suc (suc (length (flat s.x) + (4 * j + c))) = omega (arith, flat-length s.x) in
      rw (e', get_or-append-add (flat s.x) (flat s.y) (4 * j + c) 0) (flat-at s.y j c l h)

  pub encode-n : get_or (encode s) 0 0 ≡ s.n
  unfolding encode
  encode-n = refl

  pub encode-k : get_or (encode s) 1 0 ≡ s.k
  unfolding encode
  encode-k = refl

  pub encode-length : length (encode s) ≡ 2066
  unfolding encode
  encode-length = rw length-append (omega (arith, flat-length s.x, flat-length s.y))

four_words : (N : ℕ) (x : Set) → Proper N x → get_or x 0 0 ∷ get_or x 1 0 ∷ get_or x 2 0 ∷ get_or x 3 0 ∷ [] ≡ x
four_words N x h = sym (four_of x (proper_length N x h))

module _ (N : ℕ) (s : State) (m : Normal N s) (big : s.n ≤ 258) where
  pub quad-x : (j : ℕ) → j < 258 → quad (encode s) (2 + 4 * j) ≡ s.x j
  unfolding quad
  quad-x j l =
      let word : (c i : ℕ) → c < 4 → i ≡ 2 + (4 * j + c) → get_or (encode s) i 0 ≡ get_or (s.x j) c 0 = λ c i h e. at_x s j c i l h (omega arith) in
      rw (
        word 0 (2 + 4 * j) (omega arith) (omega arith),
        word 1 (2 + 4 * j + 1) (omega arith) (omega arith),
        word 2 (2 + 4 * j + 2) (omega arith) (omega arith),
        word 3 (2 + 4 * j + 3) (omega arith) (omega arith),
      )
      (four_words N (s.x j) (m.proper_x j))

  pub quad-y : (j : ℕ) → j < 258 → quad (encode s) (1034 + 4 * j) ≡ s.y j
  unfolding quad
  quad-y j l =
      let word : (c i : ℕ) → c < 4 → i ≡ 1034 + (4 * j + c) → get_or (encode s) i 0 ≡ get_or (s.y j) c 0 = λ c i h e. at_y s j c i l h (omega arith) in
      rw (
        word 0 (1034 + 4 * j) (omega arith) (omega arith),
        word 1 (1034 + 4 * j + 1) (omega arith) (omega arith),
        word 2 (1034 + 4 * j + 2) (omega arith) (omega arith),
        word 3 (1034 + 4 * j + 3) (omega arith) (omega arith),
      )
      (four_words N (s.y j) (m.proper_y j))

  -- a buffer holds the state that it was made of
  pub decode-encode : decode (encode s) ≡ s
  unfolding decode
  decode-encode = λ i. record { n = encode-n s i; k = encode-k s i; x = fun_ext same_x i; y = fun_ext same_y i }
    where
      same_x : (j : ℕ) → cond (ltb j (get_or (encode s) 0 0)) (quad (encode s) (2 + 4 * j)) empty ≡ s.x j
      same_x j = rw (encode-n s) (go (leb-says (suc j) s.n))
        where
          go : {b : Bool} → Says (j < s.n) (s.n < suc j) b → cond b (quad (encode s) (2 + 4 * j)) empty ≡ s.x j
          go (pass h) = quad-x j (omega arith)
          go (fail h) = sym (m.x_end j (omega arith))

      same_y : (j : ℕ) → cond (leb (get_or (encode s) 1 0) j && ltb j (get_or (encode s) 0 0)) (quad (encode s) (1034 + 4 * j)) empty ≡ s.y j
      same_y j = rw (encode-n s, encode-k s) (go (leb-says s.k j) (leb-says (suc j) s.n))
        where
          go : {b c : Bool} → Says (s.k ≤ j) (j < s.k) b → Says (j < s.n) (s.n < suc j) c → cond (b && c) (quad (encode s) (1034 + 4 * j)) empty ≡ s.y j
          go (pass h) (pass h') = quad-y j (omega arith)
          go (pass h) (fail h') = sym (m.y_end j (omega arith))
          go (fail h) c = sym (m.y_low j h)
