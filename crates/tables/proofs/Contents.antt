-- A control table and the contents of its file: each gives the other back, and good contents are those of a sound table.
use Prim.Native.Nat.{ℕ, zero, suc, ◌+◌, ◌-◌, ◌*◌, ◌/◌, ◌%◌, ◌≤◌, ◌<◌}
use native.Mathlib.Omega.{arith}
use mathlib.Core.Path.{◌≡◌, refl, sym, ap, ap₂, ◌∙◌}
use mathlib.Core.Logic.{inl, inr}
use mathlib.Core.Bool.{Bool, true, false, not, ◌&&◌, ◌||◌, cond, false≢true}
use mathlib.Core.List.{List, [], ◌∷◌}
use borrow.Author.Tests.{eq-eqb, eqb-true, lt-ltb, le-ltb, ltb-true, leb-false, lt-leb, ltb-false, not-false}
use lib.Dec.{eqb, leb, ltb}
use lib.IntN.{ℤ, pos, negsuc}
use lib.ListN.{length, get_or, length-append, get_or-eq_default}
use Rattle.rules.specs.Table.{row, leads, sound_row, sound_rows, sound_table, rows_of}
use Rattle.sets.specs.Sets.{Set, member, set_of, sound, quad, Proper}
use Rattle.sets.proofs.Members.{proper_four, member_of, set-ext}
use Rattle.sets.proofs.Search.{all-says}
use Rattle.sets.proofs.Tests.{passed, passes, clash, which, never, and-true, and_intro, implied, not-implied, lt_or_ge}
use Rattle.sets.proofs.Words.{quad_at}
use Rattle.turns.specs.Turn.{is_angle}
use Rattle.turns.proofs.Ints.{plus, minus}
use Rattle.turns.proofs.Laws.{within}
use Rattle.sets.specs.Lists.{tabulate}
use Rattle.moves.specs.Models.{Control}
use Rattle.sets.proofs.Lists.{length-tabulate, tabulate-at, tabulate-past, is_tabulate}
use Rattle.tables.specs.RoundTrip.{Held}
use Rattle.tables.specs.Lists.{passing, among}
use Rattle.tables.specs.Format.{signed, unsigned, Kind, state, number, move, Contents}
use Rattle.tables.specs.Control.{set_of_entries, row_of_entries, rows_of_entries, angles_of_entries, modes_of_entries, control_of}
use Rattle.tables.specs.Control.{state_number, is_move, contents_of, is_zero, sized, clear_at, clear_past, label_at, labelled}
use Rattle.tables.proofs.Back.{Fine, none, one, move-good, Good}
use Rattle.tables.proofs.Files.{sized_rows, sized-angles, sized-modes}
use Rattle.tables.proofs.Filling.{row_is, length-rows}
use Rattle.tables.proofs.Lists.{passing-add, passing-ext, passing-nothing, passing-among, among-passing, Rising, stop, next, length-passing}
use Rattle.tables.proofs.Signed.{signed_back, unsigned_back, unsigned_small}
use Rattle.tables.proofs.Putting.{row-past, move-is}
use Rattle.tables.proofs.Sections.{neither}
use Rattle.tables.proofs.Writing.{Writable}

-- ---- what is known of the numbers of a good list
module _ (K : Kind) (top : ℕ) where
  pub fine_at : (low : ℕ) (vs : List ℕ) → Fine K top low vs → (i : ℕ) → i < length vs
      → (get_or vs i 0 < top) × (K.bad (get_or vs i 0) ≡ false)
  fine_at low [] none i l = absurd (omega arith)
  fine_at low (v ∷ vs) (one t b r f) zero l = (t, b)
  fine_at low (v ∷ vs) (one t b r f) (suc i) l = fine_at (suc v) vs f i (omega arith)

  -- a number that is refused is not among them
  pub fine_among : (low : ℕ) (vs : List ℕ) → Fine K top low vs → (v : ℕ) → among vs v ≡ true → K.bad v ≡ false
  unfolding among
  fine_among low [] none v e = absurd (false≢true e)
  fine_among low (w ∷ ws) (one t b r f) v e = go (eqb v w) refl e (fine_among (suc w) ws f v)
    where
      go : (t : Bool) → eqb v w ≡ t → (t || among ws v) ≡ true → (among ws v ≡ true → K.bad v ≡ false) → K.bad v ≡ false
      go true q p h = ap K.bad (eqb-true v w q) ∙ b
      go false q p h = h p

  -- the numbers that pass a test, where those are good
  pub fine_passing : (p : ℕ → Bool) (k from low : ℕ) → low ≤ from → ((v : ℕ) → v < from + k → p v ≡ true → (v < top) × (K.bad v ≡ false))
      → Fine K top low (passing p from k)
  unfolding passing
  fine_passing p zero from low l h = none
  fine_passing p (suc k) from low l h =
      go (p from) refl
      (fine_passing p k (suc from) (suc from) (omega arith) (λ v m. h v (omega arith)))
      (fine_passing p k (suc from) low (omega arith) (λ v m. h v (omega arith)))
    where
      and_none : (a b : Bool) → b ≡ false → (a && b) ≡ false
      and_none true b e = e
      and_none false b e = refl

      go : (t : Bool) → p from ≡ t → Fine K top (suc from) (passing p (suc from) k) → Fine K top low (passing p (suc from) k)
          → Fine K top low (cond t (from ∷ passing p (suc from) k) (passing p (suc from) k))
      go true e f g = let w = h from (omega arith) e in one w.0 w.1 (and_none K.rises (ltb from low) (le-ltb from low l)) f
      go false e f g = g

  -- a list made place by place, where the kind does not rise
  pub fine_tabulate : K.rises ≡ false → (n low : ℕ) (h : ℕ → ℕ) → ((i : ℕ) → i < n → (h i < top) × (K.bad (h i) ≡ false))
      → Fine K top low (tabulate n h)
  unfolding tabulate
  fine_tabulate e zero low h f = none
  fine_tabulate e (suc n) low h f =
      let (small, good) = f 0 (omega arith) in
      one {low = low} small good (rw e) (fine_tabulate e n (suc (h 0)) (λ i. h (suc i)) (λ i l. f (suc i) (omega arith)))

  -- numbers that rise, below a bound
  pub fine_rises : K.rises ≡ true → (n low : ℕ) (vs : List ℕ) → ((v : ℕ) → K.bad v ≡ false → v < n) → Fine K top low vs → Rising n low vs
  fine_rises e n low [] h none = stop
  fine_rises e n low (v ∷ vs) h (one t b r f) = next {low = low} {v = v} (ltb-false v low (rw e at r)) (h v b) (fine_rises e n (suc v) vs h f)

-- ---- good moves, from the move table of them
module _ (N : ℕ) (few : N ≤ 256) (ms : List ℕ) (f : Fine (move N) 4294967296 0 ms) where
  is_move-among : (v : ℕ) → v < 16777216 → is_move (rows_of_entries ms) v ≡ among ms v
  unfolding is_move leads row_of_entries
  is_move-among v h =
      elim (lt_or_ge (v % 65536) 256) [
        | inl a ↦
            let e : v / 65536 * 65536 + v % 65536 ≡ v = omega arith in
            rw (row_is ms (v / 65536) (omega arith))
            (member_of 256 (omega arith) (λ u. among ms (v / 65536 * 65536 + u)) (v % 65536) a ∙ ap (among ms) e)
        | inr a ↦ row-past (rows_of_entries ms) (v / 65536) (v % 65536) a ∙ sym (never (among ms v) (λ q. none_past q a))
      ]
    where
      none_past : among ms v ≡ true → 256 ≤ v % 65536 → ⊥
      none_past q a =
          let (_, to) = move-good N v (fine_among (move N) 4294967296 0 ms f v q) in
          omega arith

  pub moves-back : (m : ℕ) → m ≡ 16777216 → passing (is_move (rows_of_entries ms)) 0 m ≡ ms
  moves-back m e =
      passing-ext (is_move (rows_of_entries ms)) (among ms) m 0 (λ i h. is_move-among (0 + i) (omega arith))
      ∙ passing-among m 0 m ms (omega arith)
      (fine_rises (move N) 4294967296 refl m 0 ms (λ v b. let w = move-good N v b in omega arith) f)

-- ---- good contents, from the table that they say
module _ (l : Contents) (g : Good l) where
  abbrev size : ℕ
  size = length l.states

  set_back : (vs : List ℕ) → Fine (number size) 65536 0 vs → passing (member (set_of_entries vs)) 0 256 ≡ vs
  unfolding set_of_entries
  set_back vs f =
      passing-ext (member (set_of 256 (among vs))) (among vs) 256 0 (λ i h. member_of 256 (omega arith) (among vs) (0 + i) (omega arith))
      ∙ passing-among 256 0 256 vs refl
      (fine_rises (number size) 65536 refl 256 0 vs (λ v b. let h = g.few in omega (arith, leb-false size v b)) f)

  state-back : (i : ℕ) → i < size → state_number (angles_of_entries l.states) (modes_of_entries l.states) i ≡ get_or l.states i 0
  unfolding state_number angles_of_entries modes_of_entries
  state-back i h =
      let k = g.few in
      let (small, _) = fine_at state 16777216 0 l.states g.states i h in
      let v = get_or l.states i 0 in
      let a = tabulate-at 256 (λ s. signed (get_or l.states s 0 / 256)) (pos 0) i (omega arith) in
      let m = tabulate-at 256 (λ s. get_or l.states s 0 % 256) 0 i (omega arith) in
      let u : unsigned (signed (v / 256)) ≡ v / 256 = signed_back (v / 256) (omega arith) in
      ap₂ (λ (z : ℤ) (y : ℕ). unsigned z * 256 + y) a m ∙ ap (λ (x : ℕ). x * 256 + v % 256) u ∙ omega arith

  pub contents-back : contents_of (control_of l) ≡ l
  unfolding contents_of control_of
  contents-back =
      let s : tabulate size (state_number (angles_of_entries l.states) (modes_of_entries l.states)) ≡ l.states =
      sym (is_tabulate 0 size _ l.states refl (λ i h. sym (state-back i h))) in
      λ j. record {
        states = s j;
        starts = set_back l.starts g.starts j;
        safe = set_back l.safe g.safe j;
        moves = moves-back size g.few l.moves g.moves (256 * 65536) refl j;
      }

  -- ---- and the table is sound
  set-sound : (vs : List ℕ) → Fine (number size) 65536 0 vs → sound size (set_of_entries vs) ≡ true
  unfolding sound set_of_entries
  set-sound vs f = passes (all-says 256 _) (λ w.
      let s = w.0 in
      let (in-set, past) = not-implied (member (set_of 256 (among vs)) s) (ltb s size) w.2 in
      let is_among = sym (member_of 256 (omega arith) (among vs) s w.1) ∙ in-set in
      clash (lt-ltb s size (leb-false size s (fine_among (number size) 65536 0 vs f s is_among))) past)

  row-sound : (s : ℕ) → s < 256 → sound_row size (rows_of_entries l.moves) s ≡ true
  unfolding sound_row sound row_of_entries
  row-sound s h = passes (all-says 256 _) (λ w.
      let u = w.0 in
      let (in_row, past) = not-implied (member (row (rows_of_entries l.moves) s) u) (ltb u (cond (ltb s size) size 0)) w.2 in
      let of_row = member_of 256 (omega arith) (λ u. among l.moves (s * 65536 + u)) u w.1 in
      let m : among l.moves (s * 65536 + u) ≡ true = sym (ap (λ (x : Set). member x u) (row_is l.moves s h) ∙ of_row) ∙ in_row in
      let (from, to) = move-good size (s * 65536 + u) (fine_among (move size) 4294967296 0 l.moves g.moves (s * 65536 + u) m) in
      let b : u < 256 = w.1 in
      let p : s < size = omega arith in
      let q : u < size = omega arith in
      clash (rw (lt-ltb s size p) (lt-ltb u size q)) past)

  pub sound_back : sound_table (control_of l).table ≡ true
  unfolding sound_table control_of sound_rows
  sound_back =
      let rows = passes (all-says 256 (sound_row size (rows_of_entries l.moves))) (λ w. clash (row-sound w.0 w.1) w.2) in
      and_intro (set-sound l.starts g.starts) (and_intro (set-sound l.safe g.safe) rows)

  -- places from N up are 0
  pub angle-past : (s : ℕ) → size ≤ s → s < 256 → get_or (angles_of_entries l.states) s (pos 0) ≡ pos 0
  unfolding angles_of_entries signed
  angle-past s h k =
      tabulate-at 256 (λ s. signed (get_or l.states s 0 / 256)) (pos 0) s k
      ∙ ap (λ (v : ℕ). signed (v / 256)) (get_or-eq_default l.states 0 h)

  pub mode-past : (s : ℕ) → size ≤ s → s < 256 → get_or (modes_of_entries l.states) s 0 ≡ 0
  unfolding modes_of_entries
  mode-past s h k =
      tabulate-at 256 (λ s. get_or l.states s 0 % 256) 0 s k
      ∙ ap (λ (v : ℕ). v % 256) (get_or-eq_default l.states 0 h)

  pub clear_back : clear_past size (angles_of_entries l.states) (modes_of_entries l.states) ≡ true
  unfolding clear_past clear_at is_zero
  clear_back = passes (all-says 256 _) (λ w. elim (lt_or_ge w.0 size) [
    | inl a ↦ clash (rw (lt-ltb w.0 size a)) w.2
    | inr a ↦ clash (rw (le-ltb w.0 size a, angle-past w.0 a w.1, mode-past w.0 a w.1)) w.2
  ])

  label-at : (s : ℕ) → s < size → label_at (angles_of_entries l.states) (modes_of_entries l.states) s ≡ true
  unfolding label_at angles_of_entries modes_of_entries
  label-at s h =
      let k = g.few in
      let (_, good) = fine_at state 16777216 0 l.states g.states s h in
      let v = get_or l.states s 0 in
      let (angle, mode) = neither (not (is_angle (signed (v / 256)))) (leb 16 (v % 256)) good in
      let a = tabulate-at 256 (λ s. signed (get_or l.states s 0 / 256)) (pos 0) s (omega arith) in
      let m = tabulate-at 256 (λ s. get_or l.states s 0 % 256) 0 s (omega arith) in
      and_intro (ap is_angle a ∙ not-false (is_angle (signed (v / 256))) angle)
      (ap (λ (m : ℕ). ltb m 16) m ∙ lt-ltb (v % 256) 16 (leb-false 16 (v % 256) mode))

  pub labels_back : labelled size (angles_of_entries l.states) (modes_of_entries l.states) ≡ true
  unfolding labelled
  labels_back = passes (all-says size _) (λ w. clash (label-at w.0 w.1) w.2)

  pub sized-back : sized (rows_of_entries l.moves) (angles_of_entries l.states) (modes_of_entries l.states) ≡ true
  unfolding sized angles_of_entries modes_of_entries
  sized-back =
      and_intro (eq-eqb _ 1024 (length-rows l.moves)) (and_intro (eq-eqb _ 256 (length-tabulate 256 _)) (eq-eqb _ 256 (length-tabulate 256 _)))

  -- the table of good contents can be written
  pub writable_back : Writable (control_of l)
  unfolding control_of
  writable_back = record {
    lengths_ok = sized-back;
    some = g.some;
    few = g.few;
    sound = sound_back;
    clear = clear_back;
    labels = labels_back;
    few_moves = rw (ap (λ (k : Contents). k.moves) contents-back) g.few_moves;
  }

-- ---- a table that can be written, from its contents
module _ (c : Control) (h : Held c) (w : Writable c) where
  abbrev N : ℕ
  N = c.table.size

  set_same : (x : Set) → Proper 256 x → set_of_entries (passing (member x) 0 256) ≡ x
  unfolding set_of_entries
  set_same x p = set-ext 256 _ (member x) (λ s l. among-passing (member x) 256 0 s (omega arith) (omega arith)) ∙ p.is

  row-proper : (s : ℕ) → Proper 256 (row c.table.rows s)
  unfolding quad
  row-proper s = proper_four _ _ _ _ (h.rows (4 * s)) (h.rows (4 * s + 1)) (h.rows (4 * s + 2)) (h.rows (4 * s + 3))

  row_same : (m s : ℕ) → m ≡ 16777216 → s < 256 → row_of_entries (passing (is_move c.table.rows) 0 m) s ≡ row c.table.rows s
  unfolding row_of_entries
  row_same m s e l =
      set-ext 256 _ (member (row c.table.rows s)) (λ u k.
      among-passing (is_move c.table.rows) m 0 (s * 65536 + u) (omega arith) (omega arith) ∙ move-is c.table.rows s u (omega arith))
      ∙ (row-proper s).is

  rows_same : (m : ℕ) → m ≡ 16777216 → rows_of_entries (passing (is_move c.table.rows) 0 m) ≡ c.table.rows
  unfolding rows_of_entries rows_of
  rows_same m e = sym (is_tabulate 0 1024 _ c.table.rows (sized_rows _ _ _ w.lengths_ok) (λ j l.
      let q : 4 * (j / 4) + j % 4 ≡ j = omega arith in
      sym (ap (λ (x : Set). get_or x (j % 4) 0) (row_same m (j / 4) e (omega arith))
      ∙ quad_at c.table.rows (4 * (j / 4)) (j % 4) (omega arith)
      ∙ ap (λ (i : ℕ). get_or c.table.rows i 0) q)))

  abbrev angle : ℕ → ℤ
  angle s = get_or c.angles s (pos 0)

  abbrev mode : ℕ → ℕ
  mode s = get_or c.modes s 0

  label : (s : ℕ) → s < N → (is_angle (angle s) ≡ true) × (mode s < 16)
  unfolding label_at labelled
  label s l =
      let (a, m) = and-true (is_angle (angle s)) (ltb (mode s) 16) (passed (all-says N (label_at c.angles c.modes)) w.labels s l) in
      (a, ltb-true (mode s) 16 m)

  -- an angle fits 16 bits
  angle-fits : (s : ℕ) → s < N → (minus (angle s) ≤ 32768) × (plus (angle s) < 32768)
  angle-fits s l = let r = within (angle s) (label s l).0 in bounds (angle s) r.low r.high
    where
      bounds : (z : ℤ) → minus z ≤ plus z + 180 → plus z < minus z + 180 → (minus z ≤ 32768) × (plus z < 32768)
      bounds (pos k) a b = (omega arith, omega arith)
      bounds (negsuc k) a b = (omega arith, omega arith)

  clear : (s : ℕ) → N ≤ s → s < 256 → (angle s ≡ pos 0) × (mode s ≡ 0)
  unfolding clear_past clear_at is_zero
  clear s l k =
      let e = passed (all-says 256 (clear_at N c.angles c.modes)) w.clear s k in
      let f = and-true (is_zero (angle s)) (eqb (mode s) 0) (rw (le-ltb s N l) at e) in
      (zero (angle s) f.0, eqb-true (mode s) 0 f.1)
    where
      zero : (z : ℤ) → is_zero z ≡ true → z ≡ pos 0
      zero (pos n) e = ap pos (eqb-true n 0 e)
      zero (negsuc n) e = absurd (false≢true e)

  -- a state's number
  abbrev number_of : ℕ → ℕ
  number_of = state_number c.angles c.modes

  small : (s : ℕ) → s < N → unsigned (angle s) < 65536
  small s l = let (low, high) = angle-fits s l in unsigned_small (angle s) low high

  number_small : (s : ℕ) → s < N → number_of s < 16777216
  unfolding state_number
  number_small s l = omega (arith, small s l, (label s l).1)

  state-angle : (s : ℕ) → s < N → signed (number_of s / 256) ≡ angle s
  unfolding state_number
  state-angle s l =
      let m = (label s l).1 in
      let (low, high) = angle-fits s l in
      let e : (unsigned (angle s) * 256 + mode s) / 256 ≡ unsigned (angle s) = omega arith in
      ap signed e ∙ unsigned_back (angle s) low high

  state-mode : (s : ℕ) → s < N → number_of s % 256 ≡ mode s
  unfolding state_number
  state-mode s l = let m = (label s l).1 in omega arith

  signed-zero : pos 0 ≡ signed (0 / 256)
  unfolding signed
  signed-zero = refl

  angles_same : angles_of_entries (tabulate N number_of) ≡ c.angles
  unfolding angles_of_entries
  angles_same = sym (is_tabulate (pos 0) 256 _ c.angles (sized-angles _ _ _ w.lengths_ok) (λ s k. elim (lt_or_ge s N) [
    | inl l ↦ sym (ap (λ (v : ℕ). signed (v / 256)) (tabulate-at N number_of 0 s l) ∙ state-angle s l)
    | inr l ↦ (clear s l k).0 ∙ signed-zero ∙ sym (ap (λ (v : ℕ). signed (v / 256)) (tabulate-past N number_of 0 s l))
  ]))

  modes_same : modes_of_entries (tabulate N number_of) ≡ c.modes
  unfolding modes_of_entries
  modes_same = sym (is_tabulate 0 256 _ c.modes (sized-modes _ _ _ w.lengths_ok) (λ s k. elim (lt_or_ge s N) [
    | inl l ↦ sym (ap (λ (v : ℕ). v % 256) (tabulate-at N number_of 0 s l) ∙ state-mode s l)
    | inr l ↦ (clear s l k).1 ∙ sym (ap (λ (v : ℕ). v % 256) (tabulate-past N number_of 0 s l))
  ]))

  pub control-back : control_of (contents_of c) ≡ c
  unfolding control_of contents_of
  control-back = λ j. record {
    table = record {
      size = length-tabulate N number_of j;
      starts = set_same c.table.starts h.starts j;
      safe = set_same c.table.safe h.safe j;
      rows = rows_same (256 * 65536) refl j;
    };
    angles = angles_same j;
    modes = modes_same j;
  }

  -- ---- and the contents are good
  sounds : (sound N c.table.starts ≡ true) × (sound N c.table.safe ≡ true) × (sound_rows N c.table.rows ≡ true)
  unfolding sound_table
  sounds =
      let (starts, others) = and-true (sound N c.table.starts) (sound N c.table.safe && sound_rows N c.table.rows) w.sound in
      let (safe, rows) = and-true (sound N c.table.safe) (sound_rows N c.table.rows) others in
      (starts, safe, rows)

  -- no member from N up
  below : (M : ℕ) (x : Set) → sound M x ≡ true → (s : ℕ) → s < 256 → member x s ≡ true → s < M
  unfolding sound
  below M x e s l m = ltb-true s M (implied (member x s) (ltb s M) (passed (all-says 256 (λ s. not (member x s) || ltb s M)) e s l) m)

  fine_set : (x : Set) → sound N x ≡ true → Fine (number N) 65536 0 (passing (member x) 0 256)
  fine_set x e =
      fine_passing (number N) 65536 (member x) 256 0 0 (omega arith) (λ v l m. (omega arith, lt-leb N v (below N x e v (omega arith) m)))

  few_members : (x : Set) → sound N x ≡ true → length (passing (member x) 0 256) ≤ N
  few_members x e =
      let d : N + (256 - N) ≡ 256 = (let f = w.few in omega arith) in
      let a = passing-add (member x) 0 N (256 - N) in
      let b = passing-nothing (member x) (256 - N) (0 + N) (λ i l. elim (which (member x (0 + N + i))) [
        | inl m ↦ absurd (omega (arith, below N x e (0 + N + i) (let f = w.few in omega arith) m))
        | inr m ↦ m
      ]) in
      let q = ap length (rw d at a) ∙ length-append (passing (member x) 0 N) _ in
      let r = ap length b in
      omega (arith, length-passing (member x) N 0)

  fine_move : (v : ℕ) → v < 16777216 → is_move c.table.rows v ≡ true → (v / 65536 < N) × (v % 65536 < N)
  unfolding is_move leads sound_rows sound_row
  fine_move v l e =
      let s = v / 65536 in
      let k = passed (all-says 256 (sound_row N c.table.rows)) sounds.2 s (omega arith) in
      elim (lt_or_ge (v % 65536) 256) [
        | inl a ↦ elim (lt_or_ge s N) [
          | inl b ↦ (b, below N (row c.table.rows s) (rw (lt-ltb s N b) at k) (v % 65536) a e)
          | inr b ↦ absurd (omega (arith, below 0 (row c.table.rows s) (rw (le-ltb s N b) at k) (v % 65536) a e))
        ]
        | inr a ↦ absurd (clash e (row-past c.table.rows s (v % 65536) a))
      ]

  pub good_contents : Good (contents_of c)
  unfolding contents_of
  good_contents =
      let t = length-tabulate N number_of in
      record {
        some = rw t w.some;
        few = rw t w.few;
        states = fine_tabulate state 16777216 refl N 0 number_of (λ s l. (number_small s l, state-good s l));
        few_starts = rw t (few_members c.table.starts sounds.0);
        starts = rw t (fine_set c.table.starts sounds.0);
        few_safe = rw t (few_members c.table.safe sounds.1);
        safe = rw t (fine_set c.table.safe sounds.1);
        few_moves = w.few_moves;
        moves = rw t (fine_passing (move N) 4294967296 (is_move c.table.rows) (256 * 65536) 0 0 (omega arith) (λ v l m.
            let f = fine_move v (omega arith) m in
            (omega arith, both (lt-leb N (v / 65536) f.0) (lt-leb N (v % 65536) f.1))));
      }
    where
      both : {a b : Bool} → a ≡ false → b ≡ false → (a || b) ≡ false
      both p q = rw (p, q)

      state-good : (s : ℕ) → s < N → state.bad (number_of s) ≡ false
      state-good s l = rw (state-angle s l, state-mode s l, (label s l).0) (lt-leb 16 (mode s) (label s l).1)
