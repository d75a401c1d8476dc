-- The second table: what agreement says, what an edit of both tables leaves, and g worked out from the second.
use Prim.Native.Nat.{ℕ, ◌≤◌, ◌<◌}
use native.Mathlib.Omega.{arith}
use mathlib.Core.Bool.{Bool, true, false, not, ◌&&◌, ◌||◌, cond, and_comm}
use mathlib.Core.List.{List}
use mathlib.Core.Path.{◌≡◌, refl, sym, ap, ap₂, ◌∙◌}
use borrow.Author.Tests.{eq-eqb, eqb-true, ltb-true, lt-ltb}
use lib.Dec.{eqb, ltb}
use lib.ListN.{length}
use Rattle.rules.specs.Second.{into, second_of, alike, agree, leading_out, backward_by_second, Agreed, Edited, SecondLaws}
use Rattle.rules.specs.Table.{row, leads, with_move, sound_row, sound_rows, backward}
use Rattle.rules.proofs.Rows.{length-rows_of, row_of, words_of, leads-with, length-with, words_with, same_moves}
use Rattle.sets.proofs.Members.{proper_of, proper_length, member_of, member-full, set-ext}
use Rattle.sets.proofs.Search.{all-says, all_true, any-ext}
use Rattle.sets.proofs.Tests.{passed, implies, implied, and-true}
use Rattle.sets.specs.Search.{any, all}
use Rattle.sets.specs.Sets.{Set, Words, member, sound, minus}

-- ---- agreement, move by move
pub alike-says : (a b : Bool) → alike a b ≡ true → a ≡ b
unfolding alike
alike-says true b e = sym e
alike-says false true e = e
alike-says false false e = refl

pub alike_same : (a b : Bool) → a ≡ b → alike a b ≡ true
unfolding alike
alike_same true b e = sym e
alike_same false b e = rw (← e)

pub agreed_at : (rows second : List ℕ) → agree rows second ≡ true → (s t : ℕ) → s < 256 → t < 256 → leads rows s t ≡ leads second t s
unfolding agree
agreed_at rows second e s t l m =
    alike-says (leads rows s t) (leads second t s)
    (passed (all-says 256 (λ t. alike (leads rows s t) (leads second t s)))
    (passed (all-says 256 (λ s. all 256 (λ t. alike (leads rows s t) (leads second t s)))) e s l) t m)

pub agree_of : (rows second : List ℕ) → ((s t : ℕ) → s < 256 → t < 256 → leads rows s t ≡ leads second t s) → agree rows second ≡ true
unfolding agree
agree_of rows second h = all_true (λ s l. all_true (λ t m. alike_same (leads rows s t) (leads second t s) (h s t l m)))

-- ---- the second table made of the first
into-length : (rows : List ℕ) (t : ℕ) → length (into rows t) ≡ 4
unfolding into
into-length rows t = proper_length 256 _ (proper_of 256 (omega arith) (λ s. leads rows s t))

second_row : (rows : List ℕ) (t : ℕ) → t < 256 → row (second_of rows) t ≡ into rows t
unfolding second_of
second_row rows t m = row_of (into rows) t m (into-length rows t)

pub leads-second : (rows : List ℕ) (t s : ℕ) → t < 256 → s < 256 → leads (second_of rows) t s ≡ leads rows s t
unfolding leads into
leads-second rows t s m l =
    ap (λ (x : Set). member x s) (second_row rows t m) ∙ member_of 256 (omega arith) (λ s. member (row rows s) t) s l

pub second_length : (rows : List ℕ) → length (second_of rows) ≡ 1024
unfolding second_of
second_length rows = length-rows_of (into rows)

pub second_words : (rows : List ℕ) → Words (second_of rows)
unfolding second_of into
second_words rows = words_of (λ t s. leads rows s t)

second_agrees : (rows : List ℕ) → agree rows (second_of rows) ≡ true
second_agrees rows = agree_of rows (second_of rows) (λ s t l m. sym (leads-second rows t s m l))

-- .. and there is no other that agrees
agrees_second : (rows second : List ℕ) → length second ≡ 1024 → Words second → agree rows second ≡ true → second ≡ second_of rows
agrees_second rows second long w e =
    same_moves second (second_of rows) long (second_length rows) w (second_words rows)
    (λ t s m l. sym (agreed_at rows second e s t l m) ∙ sym (leads-second rows t s m l))

-- ---- soundness, by moves: every move up to 255 goes from a state to a state
pub record Between (N : ℕ) (rows : List ℕ) : Type 0 where
  pub at : (s t : ℕ) → s < 256 → t < 256 → leads rows s t ≡ true → (s < N) × (t < N)

row-says : (N s : ℕ) (x : Set) (c : Bool) → ltb s N ≡ c → sound (cond c N 0) x ≡ true → (t : ℕ) → t < 256 → member x t ≡ true → (s < N) × (t < N)
unfolding sound
row-says N s x true q e t l m =
    (ltb-true s N q, ltb-true t N (implied (member x t) (ltb t N) (passed (all-says 256 (λ t. not (member x t) || ltb t N)) e t l) m))
row-says N s x false q e t l m =
    let z : t < 0 = ltb-true t 0 (implied (member x t) (ltb t 0) (passed (all-says 256 (λ t. not (member x t) || ltb t 0)) e t l) m) in
    absurd (omega arith)

pub sound-between : (N : ℕ) (rows : List ℕ) → sound_rows N rows ≡ true → Between N rows
unfolding sound_rows sound_row leads
sound-between N rows e =
    record { at = λ s t h l m. row-says N s (row rows s) (ltb s N) refl (passed (all-says 256 (sound_row N rows)) e s h) t l m }

between-sound : (N : ℕ) (rows : List ℕ) → Between N rows → sound_rows N rows ≡ true
unfolding sound_rows sound_row leads sound
between-sound N rows v = all_true (λ s h. all_true (λ t l. implies (member (row rows s) t) _ (λ m. go s t (v.at s t h l m))))
  where
    go : (s t : ℕ) → (s < N) × (t < N) → ltb t (cond (ltb s N) N 0) ≡ true
    go s t p = rw (lt-ltb s N p.0) (lt-ltb t N p.1)

second_sound : (N : ℕ) (rows second : List ℕ) → agree rows second ≡ true → sound_rows N rows ≡ true → sound_rows N second ≡ true
second_sound N rows second a e =
    between-sound N second (record {
      at = λ t s l h m. let p = (sound-between N rows e).at s t h l (agreed_at rows second a s t h l ∙ m) in (p.1, p.0);
    })

-- ---- g from the second table: a state leads out where one of its moves ends outside x
not-implies : (a b : Bool) → (not b && a) ≡ not (not a || b)
not-implies true true = refl
not-implies true false = refl
not-implies false true = refl
not-implies false false = refl

some_not_all : (n : ℕ) (p q : ℕ → Bool) → ((i : ℕ) → i < n → p i ≡ not (q i)) → not (any n p) ≡ all n q
unfolding all
some_not_all n p q h = ap not (any-ext n p (λ i. not (q i)) h)

pub second_g : (N : ℕ) → N ≤ 256 → (rows second : List ℕ) → agree rows second ≡ true → (x : Set) → backward_by_second N second x ≡ backward N rows x
unfolding backward_by_second minus backward leading_out
second_g N big rows second a x = set-ext N _ _ (λ s l.
    ap₂ (λ (c d : Bool). c && not d) (member-full N big s ∙ lt-ltb s N l) (member_of N big (λ s. any N (λ t. not (member x t) && leads second t s)) s l)
    ∙ some_not_all N _ _ (λ t m.
    ap (λ (c : Bool). not (member x t) && c) (sym (agreed_at rows second a s t (omega arith) (omega arith))) ∙ not-implies (leads rows s t) (member x t)))

pub agreed : (rows second : List ℕ) → length second ≡ 1024 → Words second → agree rows second ≡ true → Agreed rows second
agreed rows second long w a = record {
  row_is = λ t m. ap (λ (l : List ℕ). row l t) (agrees_second rows second long w a) ∙ second_row rows t m;
  is = agrees_second rows second long w a;
  sound = λ N e. second_sound N rows second a e;
  same_g = λ N big x. second_g N big rows second a x;
}

-- ---- an edit of both tables
module _ (N : ℕ) (big : N ≤ 256) (rows second : List ℕ) (s t : ℕ) (there : Bool) (rows_long : length rows ≡ 1024) (second_long : length second ≡ 1024)
    (rows_fit : Words rows) (second_fits : Words second) (agrees : agree rows second ≡ true) (sound-rows : sound_rows N rows ≡ true)
    (from : s < N) (to : t < N) where
  abbrev R : List ℕ
  R = with_move rows s t there

  abbrev S : List ℕ
  S = with_move second t s there

  in_rows : (a b : ℕ) → b < 256 → leads R a b ≡ cond (eqb a s && eqb b t) there (leads rows a b)
  in_rows a b l = leads-with rows s t there rows_long (omega arith) a b l

  in_second : (a b : ℕ) → a < 256 → leads S b a ≡ cond (eqb a s && eqb b t) there (leads second b a)
  in_second a b l =
      leads-with second t s there second_long (omega arith) b a l
      ∙ ap (λ (c : Bool). cond c there (leads second b a)) (and_comm (eqb b t) (eqb a s))

  edit_agrees : agree R S ≡ true
  edit_agrees = agree_of R S (λ a b l m.
      in_rows a b m ∙ ap (cond (eqb a s && eqb b t) there) (agreed_at rows second agrees a b l m) ∙ sym (in_second a b l))

  edit_sound : sound_rows N R ≡ true
  edit_sound = between-sound N R (record { at = λ a b l m e. go a b l m _ refl (sym (in_rows a b m) ∙ e) })
    where
      go : (a b : ℕ) → a < 256 → b < 256 → (c : Bool) → (eqb a s && eqb b t) ≡ c → cond c there (leads rows a b) ≡ true → (a < N) × (b < N)
      go a b l m false q e = (sound-between N rows sound-rows).at a b l m e
      go a b l m true q e =
          let both = and-true (eqb a s) (eqb b t) q in
          let f : a ≡ s = eqb-true a s both.0 in
          let g : b ≡ t = eqb-true b t both.1 in
          (omega arith, omega arith)

  -- the opposite edit of one table, whichever it is
  undo : (l : List ℕ) (a b : ℕ) → length l ≡ 1024 → Words l → a < 256 → b < 256 → leads l a b ≡ not there
      → with_move (with_move l a b there) a b (not there) ≡ l
  undo l a b long w la lb was =
      same_moves _ l (length-with _ a b (not there) ∙ length-with l a b there ∙ long) long (words_with _ a b (not there) (words_with l a b there w)) w
      (λ v u lv lu.
      leads-with (with_move l a b there) a b (not there) (length-with l a b there ∙ long) la v u lu
      ∙ ap (cond (eqb v a && eqb u b) (not there)) (leads-with l a b there long la v u lu)
      ∙ back v u (eqb v a && eqb u b) refl)
    where
      back : (v u : ℕ) (c : Bool) → (eqb v a && eqb u b) ≡ c → cond c (not there) (cond c there (leads l v u)) ≡ leads l v u
      back v u false q = refl
      back v u true q =
          let both = and-true (eqb v a) (eqb u b) q in
          rw (eqb-true v a both.0, eqb-true u b both.1) (sym was)

  edit_done : Edited N rows second s t there
  edit_done = record {
    this = (in_rows s t (omega arith) ∙ rw (eq-eqb s s refl, eq-eqb t t refl), in_second s t (omega arith) ∙ rw (eq-eqb s s refl, eq-eqb t t refl));
    other = λ a b l m q. (in_rows a b m ∙ rw q, in_second a b l ∙ rw q);
    lengths = (length-with rows s t there ∙ rows_long, length-with second t s there ∙ second_long);
    words = (words_with rows s t there rows_fit, words_with second t s there second_fits);
    agrees = edit_agrees;
    sound = edit_sound;
    undone = λ was. (
      undo rows s t rows_long rows_fit (omega arith) (omega arith) was,
      undo second t s second_long second_fits (omega arith) (omega arith) (sym (agreed_at rows second agrees s t (omega arith) (omega arith)) ∙ was),
    );
  }

pub second_laws : SecondLaws
second_laws = record {
  made = second_agrees;
  agreed = agreed;
  edited = λ N rows second s t there big lr ls wr ws a e from to. edit_done N big rows second s t there lr ls wr ws a e from to;
}
