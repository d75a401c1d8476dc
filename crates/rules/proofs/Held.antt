-- A buffer that passes the entry check is the words of one state, which every rule and run keeps.
use Prim.Native.Nat.{ℕ, zero, suc, ◌+◌, ◌-◌, ◌*◌, ◌≤◌, ◌<◌, ◌/◌, ◌%◌, ◌^◌}
use native.Mathlib.Omega.{arith}
use mathlib.Core.Bool.{Bool, true, false, ◌&&◌, ◌||◌, cond, true≢false, and-false}
use mathlib.Core.List.{List}
use mathlib.Core.Logic.{inl, inr}
use mathlib.Core.Path.{◌≡◌, refl, sym, ap, ◌∙◌}
use borrow.Author.Tests.{le-ltb, lt-leb, ltb-true}
use lib.Dec.{ltb, leb}
use lib.ListN.{length, get_or}
use lib.Seq.{ext_get_or}
use Rattle.rules.proofs.Buffer.{at_x, at_y, encode-n, encode-k, encode-length, quad-x, quad-y, decode-encode}
use Rattle.rules.proofs.Entry.{each-true, true_each, held-true, true_held, ranges-say, entry-inv, inv_entry}
use Rattle.rules.proofs.Invariant.{Invariant}
use Rattle.rules.specs.Buffer.{encode, decode, clear_x, clear_y, unused, sound_x, sound_y, conditions, entry_tests, entry_check, Normal}
use Rattle.rules.specs.Rules.{State}
use Rattle.rules.specs.Table.{Table}
use Rattle.sets.proofs.Members.{proper_four, proper_empty, proper_past, proper_sound}
use Rattle.sets.proofs.Search.{all-says, all_true}
use Rattle.sets.proofs.Tests.{passed, failed, passes, which, and-true, implies, leb-says, lt_or_ge, Says, pass, fail}
use Rattle.sets.proofs.Words.{quad_at}
use Rattle.sets.specs.Sets.{Set, member, pack, word_of, set_of, empty, sound, quad, Proper}

-- the buffer is the words of the state that it holds
pub record Held (N : ℕ) (b : List ℕ) : Type 0 where
  pub norm : Normal N (decode b)
  pub same : encode (decode b) ≡ b
  pub cap : (decode b).n ≤ 258

pub record Fit (t : Table) (b : List ℕ) : Type 0 where
  pub held : Held t.size b
  pub inv : Invariant t (decode b)

none_proper : (x : Set) → Proper 256 x → sound 0 x ≡ true → x ≡ empty
unfolding set_of word_of pack empty
none_proper x h e = sym (proper_sound 0 (omega arith) x h e).is

module _ (t : Table) (big : t.size ≤ 256) (b : List ℕ) (len : length b ≡ 2066) (words : (i : ℕ) → get_or b i 0 < 2 ^ 64)
    (clear : unused b ≡ true) (sx : sound_x t.size (decode b) (decode b).n ≡ true) (sy : sound_y t.size (decode b) ≡ true) where
  four : (i : ℕ) → Proper 256 (quad b i)
  unfolding quad
  four i = proper_four _ _ _ _ (words i) (words (i + 1)) (words (i + 2)) (words (i + 3))

  kept_by : (x : Set) (c : Bool) → (c || sound 0 x) ≡ true → (c ≡ true → sound t.size x ≡ true) → sound (cond c t.size 0) x ≡ true
  kept_by x true e h = h refl
  kept_by x false e h = e

  proper_at : (c : Bool) (i : ℕ) → sound (cond c t.size 0) (quad b i) ≡ true → Proper t.size (quad b i)
  proper_at true i e = proper_sound t.size big _ (four i) e
  proper_at false i e = rw (none_proper _ (four i) e) (proper_empty t.size big)

  none_at : (c : Bool) (i : ℕ) → c ≡ false → sound (cond c t.size 0) (quad b i) ≡ true → quad b i ≡ empty
  none_at c i q e = none_proper _ (four i) (rw q at e)

  -- a place in use holds no members from N up, and one not in use none
  x_kept : (j : ℕ) → j < 258 → sound (cond (ltb j (get_or b 0 0)) t.size 0) (quad b (2 + 4 * j)) ≡ true
  unfolding unused clear_x decode
  x_kept j l =
      kept_by _ (ltb j (get_or b 0 0)) (passed (all-says 258 (clear_x b)) (each-true _ clear).0 j l)
      (λ e. let low : j < get_or b 0 0 = ltb-true j (get_or b 0 0) e in rw e at (passed (all-says _ _) sx j low))

  y_kept : (j : ℕ) → j < 258 → sound (cond (leb (get_or b 1 0) j && ltb j (get_or b 0 0)) t.size 0) (quad b (1034 + 4 * j)) ≡ true
  unfolding unused clear_y decode
  y_kept j l =
      kept_by _ (leb (get_or b 1 0) j && ltb j (get_or b 0 0)) (passed (all-says 258 (clear_y b)) (each-true _ clear).1.0 j l)
      (λ e.
      let in_use = and-true (leb (get_or b 1 0) j) (ltb j (get_or b 0 0)) e in
      let low : j < get_or b 0 0 = ltb-true j (get_or b 0 0) in_use.1 in
      rw e at (held-true _ _ _ (passed (all-says _ _) sy j low) (passed (leb-says (get_or b 1 0) j) in_use.0)))

  -- the places are what `decode` reads
  slot_x : (j : ℕ) → j < 258 → (decode b).x j ≡ quad b (2 + 4 * j)
  unfolding decode
  slot_x j l = elim (which (ltb j (get_or b 0 0))) [
    | inl e ↦ rw e
    | inr e ↦ rw e (sym (none_at (ltb j (get_or b 0 0)) (2 + 4 * j) e (x_kept j l)))
  ]

  slot_y : (j : ℕ) → j < 258 → (decode b).y j ≡ quad b (1034 + 4 * j)
  unfolding decode
  slot_y j l = elim (which (leb (get_or b 1 0) j && ltb j (get_or b 0 0))) [
    | inl e ↦ rw e
    | inr e ↦ rw e (sym (none_at (leb (get_or b 1 0) j && ltb j (get_or b 0 0)) (1034 + 4 * j) e (y_kept j l)))
  ]

  pub held_same : encode (decode b) ≡ b
  unfolding decode
  held_same = ext_get_or 0 (encode (decode b)) b (encode-length (decode b) ∙ sym len) (λ i l. at i (omega (arith, encode-length (decode b))))
    where
      at : (i : ℕ) → i < 2066 → get_or (encode (decode b)) i 0 ≡ get_or b i 0
      at zero l = encode-n (decode b)
      at (suc zero) l = encode-k (decode b)
      at (suc (suc i)) l =
          elim (lt_or_ge i 1032) [
            | inl h ↦ at_x (decode b) (i / 4) (i % 4) (suc (suc i)) (omega arith) (omega arith) (omega arith)
                ∙ ap (λ (z : Set). get_or z (i % 4) 0) (slot_x (i / 4) (omega arith)) ∙ quad_at b (2 + 4 * (i / 4)) (i % 4) (omega arith)
                ∙ (let e : 2 + 4 * (i / 4) + i % 4 ≡ suc (suc i) = omega arith in ap (λ (q : ℕ). get_or b q 0) e)
            | inr h ↦ let w : ℕ = i - 1032 in
                at_y (decode b) ((i - 1032) / 4) ((i - 1032) % 4) (suc (suc i)) (omega arith) (omega arith) (omega arith)
                ∙ ap (λ (z : Set). get_or z ((i - 1032) % 4) 0) (slot_y ((i - 1032) / 4) (omega arith))
                ∙ quad_at b (1034 + 4 * ((i - 1032) / 4)) ((i - 1032) % 4) (omega arith)
                ∙ (let e : 1034 + 4 * ((i - 1032) / 4) + (i - 1032) % 4 ≡ suc (suc i) = omega arith in ap (λ (q : ℕ). get_or b q 0) e)
          ]

  module _ (cap : (decode b).n ≤ 258) where
    pub held-normal : Normal t.size (decode b)
    unfolding decode
    held-normal =
        record {
          proper_x = λ j. in_use (ltb j (get_or b 0 0)) (2 + 4 * j) (λ e. x_kept j (let h : j < get_or b 0 0 = ltb-true j (get_or b 0 0) e in omega arith));
          proper_y = λ j. in_use (leb (get_or b 1 0) j && ltb j (get_or b 0 0)) (1034 + 4 * j)
              (λ e. y_kept j
              (let h : j < get_or b 0 0 = ltb-true j (get_or b 0 0) (and-true (leb (get_or b 1 0) j) (ltb j (get_or b 0 0)) e).1 in omega arith));
          x_end = λ j l. rw (le-ltb j (get_or b 0 0) l);
          y_end = λ j l. rw (le-ltb j (get_or b 0 0) l, and-false);
          y_low = λ j l. rw (lt-leb (get_or b 1 0) j l);
        }
      where
        in_use : (c : Bool) (i : ℕ) → (c ≡ true → sound (cond c t.size 0) (quad b i) ≡ true) → Proper t.size (cond c (quad b i) empty)
        in_use true i h = proper_at true i (h refl)
        in_use false i h = proper_empty t.size big

    pub held_by : Held t.size b
    held_by = record { norm = held-normal; same = held_same; cap = cap }

-- a buffer that passes
pub fit_by : (t : Table) → t.size ≤ 256 → (b : List ℕ) → length b ≡ 2066 → ((i : ℕ) → get_or b i 0 < 2 ^ 64) → entry_check t b ≡ true → Fit t b
unfolding entry_check
fit_by t big b len words ok =
    let (in-ranges, (clear, (sx, (sy, (is-chain, (are-obstacles, _)))))) = each-true (entry_tests t b (decode b)) ok in
    let (_, cap, _, _) = ranges-say t.size (decode b) in-ranges in
    record {
      held = held_by t big b len words clear sx sy (omega arith);
      inv = entry-inv t (decode b) (true_each (conditions t (decode b)) (in-ranges, (is-chain, (are-obstacles, tt))));
    }

-- a state that the rules keep makes a buffer that fits
module _ (t : Table) (big : t.size ≤ 256) (s : State) (v : Invariant t s) (m : Normal t.size s) where
  pub held_back : decode (encode s) ≡ s
  held_back = decode-encode t.size s m (omega (arith, v.cap))

  pub fit_of : Fit t (encode s)
  fit_of =
      record {
        held = record { norm = rw held_back m; same = rw held_back; cap = rw held_back (omega (arith, v.cap)) };
        inv = rw held_back v;
      }

-- a state that the rules keep makes a buffer that passes
module _ (t : Table) (big : t.size ≤ 256) (s : State) (v : Invariant t s) (m : Normal t.size s) where
  room : s.n ≤ 258
  room = omega (arith, v.cap)

  sound-of : (N : ℕ) → N ≤ 256 → (x : Set) → Proper N x → sound N x ≡ true
  unfolding sound
  sound-of N le x h = all_true (λ i l. elim (lt_or_ge i N) [
    | inl a ↦ implies (member x i) (leb (suc i) N) (λ e. passes (leb-says (suc i) N) (λ l'. omega arith))
    | inr a ↦ rw (proper_past N le h i a)
  ])

  -- a place not in use
  clear_at : (c : Bool) (x : Set) → (c ≡ false → x ≡ empty) → (c || sound 0 x) ≡ true
  clear_at true x h = refl
  clear_at false x h = rw (h refl) (sound-of 0 (omega arith) empty (proper_empty 0 (omega arith)))

  gone_x : (j : ℕ) → ltb j s.n ≡ false → s.x j ≡ empty
  gone_x j e = m.x_end j (let h : s.n < suc j = failed (leb-says (suc j) s.n) e in omega arith)

  gone_y : (j : ℕ) → (leb s.k j && ltb j s.n) ≡ false → s.y j ≡ empty
  gone_y j e = go (leb-says s.k j) (leb-says (suc j) s.n) e
    where
      go : {c d : Bool} → Says (s.k ≤ j) (j < s.k) c → Says (suc j ≤ s.n) (s.n < suc j) d → (c && d) ≡ false → s.y j ≡ empty
      go (fail h) d q = m.y_low j h
      go (pass h) (fail k) q = m.y_end j (omega arith)
      go (pass h) (pass k) q = absurd (true≢false q)

  clear-x : (j : ℕ) → j < 258 → clear_x (encode s) j ≡ true
  unfolding clear_x
  clear-x j l = rw (encode-n s, quad-x t.size s m room j l) (clear_at (ltb j s.n) (s.x j) (gone_x j))

  clear-y : (j : ℕ) → j < 258 → clear_y (encode s) j ≡ true
  unfolding clear_y
  clear-y j l = rw (encode-n s, encode-k s, quad-y t.size s m room j l) (clear_at (leb s.k j && ltb j s.n) (s.y j) (gone_y j))

  clears : unused (encode s) ≡ true
  unfolding unused
  clears = true_each _ (all_true clear-x, (all_true clear-y, tt))

  sound-x : sound_x t.size s s.n ≡ true
  sound-x = all_true (λ j l. sound-of t.size big (s.x j) (m.proper_x j))

  sound-y : sound_y t.size s ≡ true
  sound-y = all_true (λ j l. true_held _ _ _ (λ h. sound-of t.size big (s.y j) (m.proper_y j)))

  pub kept-accepts : entry_check t (encode s) ≡ true
  unfolding entry_check
  kept-accepts =
      rw (held_back t big s v m)
      (let (in-ranges, (is-chain, (are-obstacles, _))) = each-true (conditions t s) (inv_entry t s v) in
      true_each (entry_tests t (encode s) s) (in-ranges, (clears, (sound-x, (sound-y, (is-chain, (are-obstacles, tt)))))))
