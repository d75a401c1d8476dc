-- What taking an entry, entries and a section comes to, case by case, as the code meets the cases.
use Prim.Native.Nat.{ℕ, suc, ◌+◌, ◌-◌, ◌*◌, ◌/◌, ◌%◌, ◌≤◌, ◌<◌}
use native.Mathlib.Omega.{arith}
use mathlib.Core.Path.{◌≡◌, refl, sym, ap, ◌∙◌}
use mathlib.Core.Logic.{◌⊎◌, inl, inr, ◌≢◌}
use mathlib.Core.Bool.{Bool, true, false, not, ◌&&◌, ◌||◌}
use mathlib.Core.List.{List}
use borrow.Author.Tests.{lt-ltb, le-ltb, le-leb, lt-leb, ne_eqb, leb-true, leb-false}
use lib.Dec.{leb, ltb}
use lib.IntN.{ℤ}
use lib.ListN.{length, get_or}
use lib.Signed.{mag}
use mir.Syntax.{w16}
use mir.Val.{to_z, of_z}
use mir.ValLaws.{to_z-of_z}
use Rattle.tables.specs.Format.{bits16, signed, Kind, count, state_entry, state, number, move_entry, move, Section, numbers}
use Rattle.tables.specs.Format.{section_number, Taken, refused_at, taken, and_then, entry, entries, section, past}
use Rattle.tables.specs.Said.{said, section_step}
use Rattle.tables.specs.declared.Fault.{Fault}
use Rattle.tables.specs.declared.Taken as code
use Rattle.tables.specs.Inner.{said_number, entries_step}
use Rattle.answers.specs.Said.{number_of}
use Rattle.std.specs.Prelude.{Result, Ok, Err, IsErrAnd}
use Rattle.turns.specs.Turn.{is_angle}
use Rattle.tables.proofs.Sections.{Entry, entry-is}

-- ---- one thing after another
pub then_ext : {A B : Type 0} (x : Taken A) (f g : A → Taken B) → ((a : A) → f a ≡ g a) → and_then x f ≡ and_then x g
unfolding and_then
then_ext (refused_at k at) f g h = refl
then_ext (taken a) f g h = h a

pub then_then : {A B C : Type 0} (x : Taken A) (f : A → Taken B) (g : B → Taken C) → and_then (and_then x f) g ≡ and_then x (λ a. and_then (f a) g)
unfolding and_then
then_then (refused_at k at) f g = refl
then_then (taken a) f g = refl

-- what was taken, and its number and place
pub same_taken : {A : Type 0} {x y : A} → taken x ≡ taken y → x ≡ y
same_taken e = cc

pub taken_both : (a b c d : ℕ) → ◌≡◌ {A = Taken (ℕ × ℕ)} (taken (a, b)) (taken (c, d)) → (a ≡ c) × (b ≡ d)
taken_both a b c d e = let q = same_taken e in (λ i. (q i).0, λ i. (q i).1)

-- what a `?` hands on
pub err_is : {A E : Type 0} {r : Result A E} {f : E} → IsErrAnd r (λ e. e ≡ f) → r ≡ Err f
err_is {A} {E} {r} {f} h = go r h
  where
    go : (r : Result A E) → IsErrAnd r (λ e. e ≡ f) → r ≡ Err f
    go (Ok a) h = absurd h
    go (Err e) h = ap Err h

-- ---- room for some bytes: r is what the code's test answers
pub has_room : (m n : ℕ) (r : Bool) → r ≡ leb m n → r ≡ true → m ≤ n
has_room m n r e h = leb-true m n (sym e ∙ h)

has_none : (m n : ℕ) (r : Bool) → r ≡ leb m n → r ≡ false → n < m
has_none m n r e h = leb-false m n (sym e ∙ h)

-- ---- either of two tests
or_left : (x y : Bool) → x ≡ true → (x || y) ≡ true
or_left x y e = rw e

or_right : (x y : Bool) → y ≡ true → (x || y) ≡ true
or_right true y e = refl
or_right false y e = e

pub or-neither : (x y : Bool) → x ≡ false → y ≡ false → (x || y) ≡ false
or-neither x y e f = rw (e, f)

-- ---- the four cases of an entry
module _ (K : Kind) (b : List ℕ) (at low : ℕ) where
  pub entry-short : length b < at + K.width → refused_at 1 at ≡ entry K b at low
  unfolding entry
  entry-short h = rw (lt-ltb _ _ h)

  module _ (h : at + K.width ≤ length b) where
    pub entry-bad : K.bad (K.value b at) ≡ true → refused_at K.refusal at ≡ entry K b at low
    unfolding entry
    entry-bad e = rw (le-ltb _ _ h, e)

    module _ (e : K.bad (K.value b at) ≡ false) where
      pub entry-falls : K.rises ≡ true → K.value b at < low → refused_at 5 at ≡ entry K b at low
      unfolding entry
      entry-falls r l = rw (le-ltb _ _ h, e, r, lt-ltb _ _ l)

      pub entry-taken : (K.rises && ltb (K.value b at) low) ≡ false → taken (K.value b at) ≡ entry K b at low
      unfolding entry
      entry-taken l = rw (le-ltb _ _ h, e, l)

-- an entry of number v that is taken
number_taken : (K : Kind) (b : List ℕ) (at low v : ℕ) → v ≡ K.value b at → at + K.width ≤ length b → K.bad (K.value b at) ≡ false
    → (K.rises && ltb (K.value b at) low) ≡ false → taken v ≡ entry K b at low
number_taken K b at low v e h k l = rw e (entry-taken K b at low h k l)

-- ---- the cases as code meets them: r is what `has` answers
-- a count v
module _ (low high : ℕ) (b : List ℕ) (at : ℕ) (r : Bool) (e : r ≡ leb (at + 2) (length b)) where
  abbrev C : Kind
  C = count low high

  pub count-short : r ≡ false → refused_at 1 at ≡ entry C b at 0
  count-short h = entry-short C b at 0 (has_none _ _ r e h)

  module _ (h : r ≡ true) (u v : ℕ) (s : u ≡ bits16 b at) (q : v ≡ u) where
    pub count-out : (v < low) ⊎ ((low ≤ v) × (high < v)) → refused_at 2 at ≡ entry C b at 0
    count-out l = entry-bad C b at 0 (has_room _ _ r e h) (elim l [
      | inl a ↦ or_left _ _ (lt-ltb (bits16 b at) low (omega arith))
      | inr a ↦ or_right (ltb (bits16 b at) low) _ (lt-ltb high (bits16 b at) (omega (arith, a.1)))
    ])

    pub count-taken : low ≤ v → v ≤ high → taken v ≡ entry C b at 0
    count-taken l m =
        let least = le-ltb (bits16 b at) low (omega arith) in
        let most = le-ltb high (bits16 b at) (omega arith) in
        number_taken C b at 0 v (q ∙ s) (has_room _ _ r e h) (or-neither _ _ least most) refl

-- a state, of its angle's bits u and its mode m; z is the angle
module _ (b : List ℕ) (at : ℕ) (r : Bool) (e : r ≡ leb (at + 3) (length b)) where
  pub state-short : r ≡ false → refused_at 1 at ≡ entry state b at 0
  state-short h = entry-short state b at 0 (has_none _ _ r e h)

  module _ (h : r ≡ true) (z : ℤ) (ok : mag z < 32768) (ez : z ≡ signed (bits16 b at)) (a : Bool) (ea : a ≡ is_angle (to_z w16 (of_z w16 z)))
      (small : get_or b (at + 2) 0 < 256) where
    bad : state.bad (state_entry b at) ≡ (not a || leb 16 (get_or b (at + 2) 0))
    unfolding state_entry
    bad =
        let m = get_or b (at + 2) 0 in
        let angle : is_angle (signed (bits16 b at)) ≡ a = sym (ea ∙ ap is_angle (to_z-of_z w16 z (record { sfits = ok }) ∙ ez)) in
        let upper : (bits16 b at * 256 + m) / 256 ≡ bits16 b at = omega arith in
        let lower : (bits16 b at * 256 + m) % 256 ≡ m = omega arith in
        rw (upper, lower, angle)

    pub state-out : (a ≡ false) ⊎ ((a ≡ true) × (16 ≤ get_or b (at + 2) 0)) → refused_at 3 at ≡ entry state b at 0
    state-out l = entry-bad state b at 0 (has_room _ _ r e h) (bad ∙ elim l [
      | inl f ↦ or_left (not a) _ (ap not f)
      | inr f ↦ or_right (not a) _ (le-leb 16 _ f.1)
    ])

    pub state-taken : a ≡ true → get_or b (at + 2) 0 < 16 → (u v m : ℕ) → u ≡ bits16 b at → v ≡ u → m ≡ get_or b (at + 2) 0
        → taken (v * 256 + m) ≡ entry state b at 0
    unfolding state_entry
    state-taken q l u v m su sv sm =
        number_taken state b at 0 (v * 256 + m) (rw (sm, sv, su)) (has_room _ _ r e h)
        (bad ∙ or-neither (not a) _ (ap not q) (lt-leb 16 _ l)) refl

-- a state number v
module _ (N : ℕ) (b : List ℕ) (at low : ℕ) (r : Bool) (e : r ≡ leb (at + 2) (length b)) where
  pub number_short : r ≡ false → refused_at 1 at ≡ entry (number N) b at low
  number_short h = entry-short (number N) b at low (has_none _ _ r e h)

  module _ (h : r ≡ true) (u v : ℕ) (s : u ≡ bits16 b at) (q : v ≡ u) where
    pub number-no_state : N ≤ v → refused_at 4 at ≡ entry (number N) b at low
    number-no_state l = entry-bad (number N) b at low (has_room _ _ r e h) (le-leb N (bits16 b at) (omega arith))

    module _ (l : v < N) where
      good : leb N (bits16 b at) ≡ false
      good = lt-leb N (bits16 b at) (omega arith)

      pub number-falls : v < low → refused_at 5 at ≡ entry (number N) b at low
      number-falls f = entry-falls (number N) b at low (has_room _ _ r e h) good refl (omega arith)

      pub number-taken : low ≤ v → taken v ≡ entry (number N) b at low
      number-taken f = number_taken (number N) b at low v (q ∙ s) (has_room _ _ r e h) good (le-ltb (bits16 b at) low (omega arith))

-- a move from u to v
module _ (N : ℕ) (b : List ℕ) (at low : ℕ) (r : Bool) (e : r ≡ leb (at + 4) (length b)) where
  pub move-short : r ≡ false → refused_at 1 at ≡ entry (move N) b at low
  move-short h = entry-short (move N) b at low (has_none _ _ r e h)

  module _ (h : r ≡ true) (x y u v : ℕ) (sx : x ≡ bits16 b at) (sy : y ≡ bits16 b (at + 2)) (small : y < 65536) (su : u ≡ x) (sv : v ≡ y) where
    from-to : u * 65536 + v ≡ move_entry b at
    unfolding move_entry
    from-to = rw (su, sv, sx, sy)

    which_bad : (move N).bad (move_entry b at) ≡ (leb N u || leb N v)
    which_bad =
        let upper : (u * 65536 + v) / 65536 ≡ u = omega arith in
        let lower : (u * 65536 + v) % 65536 ≡ v = omega arith in
        rw (← from-to, upper, lower)

    pub move-no_state : (N ≤ u) ⊎ ((u < N) × (N ≤ v)) → refused_at 4 at ≡ entry (move N) b at low
    move-no_state l = entry-bad (move N) b at low (has_room _ _ r e h) (which_bad ∙ elim l [
      | inl a ↦ or_left (leb N u) _ (le-leb N u a)
      | inr a ↦ or_right (leb N u) _ (le-leb N v a.1)
    ])

    module _ (l : u < N) (m : v < N) where
      both-good : (move N).bad (move_entry b at) ≡ false
      both-good = which_bad ∙ or-neither (leb N u) _ (lt-leb N u l) (lt-leb N v m)

      pub move-falls : u * 65536 + v < low → refused_at 5 at ≡ entry (move N) b at low
      move-falls f = entry-falls (move N) b at low (has_room _ _ r e h) both-good refl (omega (arith, from-to))

      pub move_taken : low ≤ u * 65536 + v → taken (u * 65536 + v) ≡ entry (move N) b at low
      move_taken f =
          number_taken (move N) b at low (u * 65536 + v) from-to (has_room _ _ r e h) both-good (le-ltb (move_entry b at) low (omega (arith, from-to)))

-- an entry that was taken has room, and is what stands there: s is what taking it gives
module _ (K : Kind) (b : List ℕ) (at low : ℕ) (s : Result ℕ Fault) (e : said_number s ≡ entry K b at low) (n : ℕ) (q : s ≡ Ok n) where
  found : Entry K b at low n
  found = entry-is K b at low n (sym e ∙ ap said_number q)

  pub found-room : at + K.width ≤ length b
  found-room = found.room

-- a number that is neither 1 nor 4 is as 2
pub number_other : (i N : ℕ) → i ≢ 1 → i ≢ 4 → numbers N ≡ section_number i N
unfolding section_number
number_other i N n m = rw (ne_eqb i 1 n, ne_eqb i 4 m)

-- ---- entries, as a loop takes them
-- what taking the k entries that are left comes to, after i entries
unfoldable pub left : Kind → List ℕ → ℕ → ℕ → ℕ → ℕ → Taken (ℕ × ℕ)
left K b at low k i = and_then (entries K b at low k) (λ vs. taken (i + length vs, at + length vs * K.width))

module _ (K : Kind) (b : List ℕ) (at : ℕ) where
  pub left-all : (k : ℕ) → entries_step K b at k ≡ left K b at 0 (k - 0) 0
  unfolding entries_step left
  left-all k =
      let e : k - 0 ≡ k = omega arith in
      rw e (then_ext (entries K b at 0 k) _ _ (λ vs. let f : 0 + length vs ≡ length vs = omega arith in rw f))

  pub left-go : (low k i v : ℕ) → i < k → entry K b at low ≡ taken v → left K b at low (k - i) i ≡ left K b (at + K.width) (v + 1) (k - (i + 1)) (i + 1)
  unfolding left entries and_then
  left-go low k i v l e =
      let m : k - i ≡ suc (k - (i + 1)) = omega arith in
      let n : v + 1 ≡ suc v = omega arith in
      rw (m, e, n) (then_then (entries K b (at + K.width) (suc v) (k - (i + 1))) _ _ ∙ then_ext (entries K b (at + K.width) (suc v) (k - (i + 1))) _ _ (λ vs.
      let x : i + suc (length vs) ≡ i + 1 + length vs = omega arith in
      let y : at + suc (length vs) * K.width ≡ at + K.width + length vs * K.width = omega arith in
      rw (x, y)))

  pub left-stop : (low k i r a : ℕ) → i < k → entry K b at low ≡ refused_at r a → left K b at low (k - i) i ≡ refused_at r a
  unfolding left entries and_then
  left-stop low k i r a l e =
      let m : k - i ≡ suc (k - (i + 1)) = omega arith in
      rw (m, e)

  pub left-none : (low k i : ℕ) → i ≡ k → left K b at low (k - i) i ≡ taken (k, at)
  unfolding left entries and_then
  left-none low k i e =
      let m : k - i ≡ 0 = omega arith in
      let f : i + 0 ≡ k = omega arith in
      let g : at + 0 * K.width ≡ at = omega arith in
      rw (m, f, g)

-- the loop of `entries` at entry i: what is left to take comes to what the whole does
pub record Entering (K : Kind) (b : List ℕ) (start k at low i : ℕ) : Type 0 where
  pub in-range : i ≤ k
  pub leaves : entries_step K b start k ≡ left K b at low (k - i) i

module _ (K : Kind) (b : List ℕ) (start k : ℕ) where
  pub enter_begins : Entering K b start k start 0 0
  enter_begins = record { in-range = omega arith; leaves = left-all K b start k }

  -- s is what taking an entry gives, w the width of the kind
  module _ (at low i : ℕ) (v : Entering K b start k at low i) (l : i < k) (s : Result ℕ Fault) (e : said_number s ≡ entry K b at low) where
    pub enter_goes : (n w : ℕ) → s ≡ Ok n → w ≡ K.width → Entering K b start k (at + w) (n + 1) (i + 1)
    enter_goes n w q x =
        record { in-range = omega arith; leaves = rw x (v.leaves ∙ left-go K b at low k i n l (sym e ∙ ap said_number q)) }

    pub enter_stops : (f : Fault) → s ≡ Err f → refused_at (number_of f.refusal) f.offset ≡ entries_step K b start k
    enter_stops f q = sym (v.leaves ∙ left-stop K b at low k i _ _ l (sym e ∙ ap said_number q))

  pub enter_ends : (at low i : ℕ) → Entering K b start k at low i → k ≤ i → taken (k, at) ≡ entries_step K b start k
  enter_ends at low i v l = sym (v.leaves ∙ left-none K b at low k i (omega (arith, v.in-range)))

-- ---- a section: its count, then its entries. c is what taking the count gives
module _ (S : Section) (b : List ℕ) (at low high : ℕ) (l : low ≡ S.least) (h : high ≡ S.most) (c : Result ℕ Fault)
    (e : said_number c ≡ entry (count low high) b at 0) where
  counted : entry (count S.least S.most) b at 0 ≡ said_number c
  counted = sym (rw (l, h) at e)

  pub section-goes : (k : ℕ) → c ≡ Ok k → (t : Result code.Taken Fault) → said t ≡ entries_step S.kind b (at + 2) k → said t ≡ section_step S b at
  unfolding entries_step section_step section past and_then
  section-goes k q t p = p ∙ rw (counted, q)

  pub section-stops : (f : Fault) → c ≡ Err f → refused_at (number_of f.refusal) f.offset ≡ section_step S b at
  unfolding section_step section and_then
  section-stops f q = rw (counted, q)

module _ (S : Section) (b : List ℕ) (at : ℕ) where
  -- what a section that was taken is
  pub record Took (k next : ℕ) : Type 0 where
    pub values : List ℕ
    pub is : section S b at ≡ taken values
    pub many : k ≡ length values
    pub place : next ≡ past S.kind at values

  pub took : (k next : ℕ) → section_step S b at ≡ taken (k, next) → Took k next
  unfolding section_step and_then
  took k next e = go (section S b at) refl e
    where
      go : (x : Taken (List ℕ)) → section S b at ≡ x → and_then {B = ℕ × ℕ} x (λ vs. taken (length vs, past S.kind at vs)) ≡ taken (k, next) → Took k next
      go (refused_at r a) p q = cc
      go (taken vs) p q =
          let (many, place) = taken_both (length vs) (past S.kind at vs) k next q in
          record { values = vs; is = p; many = sym many; place = sym place }

  pub not-took : (r a : ℕ) → section_step S b at ≡ refused_at r a → section S b at ≡ refused_at r a
  unfolding section_step and_then
  not-took r a e = go (section S b at) e
    where
      go : (x : Taken (List ℕ)) → and_then {B = ℕ × ℕ} x (λ vs. taken (length vs, past S.kind at vs)) ≡ refused_at r a → x ≡ refused_at r a
      go (refused_at r' a') q = cc
      go (taken vs) q = cc

-- the same as code meets it: s is what taking the section gives
module _ (S : Section) (b : List ℕ) (at : ℕ) (s : Result code.Taken Fault) (e : said s ≡ section_step S b at) where
  pub took_it : (t : code.Taken) → s ≡ Ok t → Took S b at t.number t.next
  took_it t q = took S b at t.number t.next (sym e ∙ ap said q)

  pub refused_it : (f : Fault) → s ≡ Err f → section S b at ≡ refused_at (number_of f.refusal) f.offset
  refused_it f q = not-took S b at _ _ (sym e ∙ ap said q)
