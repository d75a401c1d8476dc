-- The listing of a table that was read is at most 5,424 bytes long: each number has few digits, each line few fields, a walk few states.
use Prim.Native.Nat.{ℕ, zero, suc, ◌+◌, ◌*◌, ◌^◌, ◌≤◌, ◌<◌}
use Prim.Native.Char.{code}
use Prim.Native.String.{String, char_at, count as letters}
use native.Mathlib.Nat.{mul-le-mul}
use native.Mathlib.Omega.{arith}
use mathlib.Core.Bool.{Bool, true, false, cond}
use mathlib.Core.List.{List, [], ◌∷◌, ◌++◌, map, map-append, append-nil}
use mathlib.Core.Path.{◌≡◌, refl, sym, ◌∙◌}
use lib.IntN.{ℤ, pos, negsuc, nat_abs}
use lib.ListN.{length, get_or, length-append}
use Rattle.answers.specs.Answer.{Answer, refused, given}
use Rattle.rules.proofs.Budget.{run-standing, run-keeps, run-most}
use Rattle.rules.proofs.Demands.{fresh-inv}
use Rattle.rules.proofs.Invariant.{Invariant}
use Rattle.rules.proofs.Meaning.{safe_at, reached_real, walk_length}
use Rattle.rules.specs.Demands.{bound, Ended, ended_safe, ended_reached}
use Rattle.rules.specs.Rules.{fresh, conclusion, Standing, safe, reached}
use Rattle.rules.specs.Runs.{Ran}
use Rattle.rules.specs.ShownWalk.{shown_walk}
use Rattle.rules.specs.Table.{Table, move_count}
use Rattle.rules.specs.Walks.{LeadsToBad, arrived, onward}
use Rattle.moves.specs.Models.{Control}
use Rattle.sets.proofs.Count.{count-max}
use Rattle.sets.specs.Sets.{Set, member, count}
use Rattle.turns.proofs.Degrees.{in_degrees}
use Rattle.turns.proofs.Laws.{within}
use Rattle.turns.specs.Turn.{is_angle, turn_of}
use Rattle.std.proofs.lemmas.Fmt.{length-decimal-le_wide}
use Rattle.listings.proofs.Text.{decimal-wide}
use Rattle.listings.specs.Listing.{refused_listing, model_line, safe_line, members_below, members_line, safe_listing}
use Rattle.listings.specs.Listing.{reached_line, shown, state_at, angle_at, turn_at, state_line, reached_listing}
use Rattle.listings.specs.Text.{appended, text, decimal, signed_decimal, spaced, parted, line}
use Rattle.checks.specs.Check.{searched, verdict_listing, table_listing}
use Rattle.checks.proofs.Ends.{few_states, searched-ends}

-- ---- texts
-- a number below 10^(k+1) has at most k+1 digits
decimal-short : (k n : ℕ) → n < 10 ^ suc k → n < 10 ^ 64 → length (decimal n) ≤ suc k
decimal-short k n h small = rw (← decimal-wide n small) (length-decimal-le_wide (suc k) n (omega arith) h small)

-- an angle or a turn has at most three digits and a sign
signed-short : (z : ℤ) → nat_abs z ≤ 180 → length (signed_decimal z) ≤ 4
unfolding signed_decimal
signed-short (pos n) h = omega (arith, decimal-short 2 n (omega arith) (omega arith))
signed-short (negsuc n) h = omega (arith, decimal-short 2 (suc n) (omega arith) (omega arith))

angle-size : (z : ℤ) → is_angle z ≡ true → nat_abs z ≤ 180
angle-size (pos n) e = omega (arith, within (pos n) e)
angle-size (negsuc n) e = omega (arith, within (negsuc n) e)

-- the bytes of fields, and one more for each: a space or the newline
abbrev total : List (List ℕ) → ℕ
total [] = 0
total (f ∷ fs) = suc (length f) + total fs

total-append : (fs gs : List (List ℕ)) → total (fs ++ gs) ≡ total fs + total gs
total-append [] gs = omega arith
total-append (f ∷ fs) gs = omega (arith, total-append fs gs)

spaced-length : (front : List ℕ) (fs : List (List ℕ)) → length (spaced front fs) ≡ length front + total fs
unfolding spaced
spaced-length front [] = omega arith
spaced-length front (f ∷ fs) = omega (arith, spaced-length (front ++ code " " ∷ f) fs, length-append front (code " " ∷ f))

-- a line of some fields has so many bytes
line-length : (f : List ℕ) (fs : List (List ℕ)) → length (line (f ∷ fs)) ≡ total (f ∷ fs)
unfolding line parted
line-length f fs = rw length-append (omega (arith, spaced-length f fs))

-- and any line at most one more, the newline of a blank one
line-most : (fs : List (List ℕ)) → length (line fs) ≤ suc (total fs)
unfolding line parted
line-most [] = omega arith
line-most (f ∷ fs) = omega (arith, line-length f fs)

-- n texts of at most k bytes each
appended-length : (n k : ℕ) (f : ℕ → List ℕ) → ((i : ℕ) → i < n → length (f i) ≤ k) → length (appended n f) ≤ n * k
unfolding appended
appended-length zero k f h = omega arith
appended-length (suc n) k f h = rw length-append (omega (arith, h n (omega arith), appended-length n k f (λ i l. h i (omega arith))))

-- a text has a byte for each letter
text-length : (t : String) → length (text t) ≤ letters t
unfolding text
text-length t = omega (arith, appended-length (letters t) 1 (λ i. code (char_at t i) ∷ []) (λ i l. omega arith))

-- ---- lines
-- the line of a refused file
pub refused_length : (number offset : ℕ) → number < 100 → offset < 10 ^ 20 → length (refused_listing number offset) ≤ 35
unfolding refused_listing
refused_length number offset h k =
    omega (
      arith,
      line-length (text "refused") (decimal number ∷ text "at" ∷ decimal offset ∷ []),
      text-length "refused",
      text-length "at",
      decimal-short 1 number (omega arith) (omega arith),
      decimal-short 19 offset k (omega (arith, k)),
    )

-- a count of members has at most three digits
count-short : (x : Set) → length (decimal (count 256 x)) ≤ 3
count-short x = decimal-short 2 (count 256 x) (omega (arith, count-max 256 x)) (omega (arith, count-max 256 x))

-- line 1
model_length : (t : Table) → t.size ≤ 256 → move_count t.rows ≤ 4096 → length (model_line t) ≤ 23
unfolding model_line
model_length t h k =
    let counts = decimal (count 256 t.starts) ∷ decimal (count 256 t.safe) ∷ decimal (move_count t.rows) ∷ [] in
    omega (
      arith,
      line-length (text "model") (decimal t.size ∷ counts),
      text-length "model",
      decimal-short 2 t.size (omega arith) (omega arith),
      count-short t.starts,
      count-short t.safe,
      decimal-short 3 (move_count t.rows) (omega arith) (omega arith),
    )

-- line 2 of a safe run
safe_length : (j rules : ℕ) (x : Set) → j < 1000 → rules < 1000000 → length (safe_line j rules x) ≤ 34
unfolding safe_line
safe_length j rules x h k =
    omega (
      arith,
      line-length (text "safe") (decimal j ∷ text "rules" ∷ decimal rules ∷ text "members" ∷ decimal (count 256 x) ∷ []),
      text-length "safe",
      text-length "rules",
      text-length "members",
      decimal-short 2 j (omega arith) (omega arith),
      decimal-short 5 rules (omega arith) (omega arith),
      count-short x,
    )

-- line 2 of a reached run
reached_length : (states rules : ℕ) → states < 1000 → rules < 1000000 → length (reached_line states rules) ≤ 25
unfolding reached_line
reached_length states rules h k =
    omega (
      arith,
      line-length (text "reached") (decimal states ∷ text "rules" ∷ decimal rules ∷ []),
      text-length "reached",
      text-length "rules",
      decimal-short 2 states (omega arith) (omega arith),
      decimal-short 5 rules (omega arith) (omega arith),
    )

-- each member has at most three digits and a space
one_more :
    (ns : List ℕ) (n : ℕ) (b : Bool) → length (decimal n) ≤ 3
    → total (map decimal (ns ++ cond b (n ∷ []) [])) ≤ total (map decimal ns) + 4
one_more ns n true h = rw (map-append decimal ns (n ∷ []), total-append (map decimal ns) (decimal n ∷ [])) (omega arith)
one_more ns n false h = rw append-nil (omega arith)

members_total : (n : ℕ) (x : Set) → n ≤ 1000 → total (map decimal (members_below n x)) ≤ n * 4
unfolding members_below appended
members_total zero x h = omega arith
members_total (suc n) x h =
    omega (arith, members_total n x (omega arith), one_more (members_below n x) n (member x n) (decimal-short 2 n (omega arith) (omega arith)))

-- the last line of a safe run
members_length : (x : Set) → length (members_line x) ≤ 1025
unfolding members_line
members_length x = omega (arith, line-most (map decimal (members_below 256 x)), members_total 256 x (omega arith))

-- a turn shown lies in -180 to 180
shown-size : (a b : ℤ) → nat_abs (shown (turn_of a b)) ≤ 180
unfolding shown
shown-size a b = go (turn_of a b) (in_degrees a b).range
  where
    go : (t : Answer ℤ) → ((z : ℤ) → t ≡ given z → nat_abs z ≤ 180) → nat_abs (shown t) ≤ 180
    go (given z) h = h z refl
    go (refused k) h = omega arith

turn_size : (walk : List ℕ) (angles : List ℤ) (i : ℕ) → nat_abs (turn_at walk angles i) ≤ 180
unfolding turn_at
turn_size walk angles zero = omega arith
turn_size walk angles (suc i) = shown-size (angle_at walk angles i) (angle_at walk angles (suc i))

-- the line of a state of a walk
state-length :
    (walk : List ℕ) (angles : List ℤ) (modes : List ℕ) (i : ℕ) → i < 256 → state_at walk i < 256 → is_angle (angle_at walk angles i) ≡ true
    → get_or modes (state_at walk i) 0 < 16 → length (state_line walk angles modes i) ≤ 21
unfolding state_line
state-length walk angles modes i h s a m =
    let labels = signed_decimal (angle_at walk angles i) ∷ decimal (get_or modes (state_at walk i) 0) ∷ signed_decimal (turn_at walk angles i) ∷ [] in
    omega (
      arith,
      line-length (decimal (i + 1)) (decimal (state_at walk i) ∷ labels),
      decimal-short 2 (i + 1) (omega arith) (omega arith),
      decimal-short 2 (state_at walk i) (omega arith) (omega arith),
      signed-short (angle_at walk angles i) (angle-size (angle_at walk angles i) a),
      decimal-short 1 (get_or modes (state_at walk i) 0) (omega arith) (omega arith),
      signed-short (turn_at walk angles i) (turn_size walk angles i),
    )

-- ---- listings
-- of a safe run
safe-short :
    (t : Table) (j rules : ℕ) (x : Set) → t.size ≤ 256 → move_count t.rows ≤ 4096 → j < 1000 → rules < 1000000
    → length (safe_listing t j rules x) ≤ 1082
unfolding safe_listing
safe-short t j rules x a b c d =
    rw (length-append, length-append) (omega (arith, model_length t a b, safe_length j rules x c d, members_length x))

-- of a reached run: at most 256 lines of states
reached_short :
    (c : Control) (rules : ℕ) (w : List ℕ) → c.table.size ≤ 256 → move_count c.table.rows ≤ 4096 → rules < 1000000 → length w ≤ 256
    → ((i : ℕ) → i < length w → length (state_line w c.angles c.modes i) ≤ 21) → length (reached_listing c rules w) ≤ 5424
unfolding reached_listing
reached_short c rules w a b d e h =
    let states = appended-length (length w) 21 (state_line w c.angles c.modes) h in
    rw (length-append, length-append) (omega (arith, model_length c.table a b, reached_length (length w) rules (omega arith) d, states))

-- ---- the verdict on a table
-- the states of a walk are states of the table
leads-states : (t : Table) {s : ℕ} {w : List ℕ} → LeadsToBad t s w → (i : ℕ) → i < length w → get_or w i 0 < t.size
leads-states t (arrived b) zero l = b.below
leads-states t (arrived b) (suc i) l = absurd (omega arith)
leads-states t (onward l e r) zero h = l
leads-states t (onward l e r) (suc i) h = leads-states t r i (omega arith)

-- 2·N·N + 2·N is at most 131,584
bound-few : (N : ℕ) → N ≤ 256 → bound N ≤ 131584
bound-few N h = let m : N * N ≤ 256 * 256 = mul-le-mul h h in omega arith

-- the search fires few rules, its j is small, and its walk has few states, all of the table
module _ (t : Table) (big : t.size ≤ 256) where
  few_rules : (searched t).rules ≤ 131584
  few_rules = omega (arith, run-most t big (bound t.size) [] (fresh t) (fresh-inv t big), bound-few t.size big)

  kept : Invariant t (searched t).state
  kept = run-keeps t big (bound t.size) [] (fresh t) (fresh-inv t big)

  stands : (r : Standing) → (searched t).standing ≡ r → conclusion t (searched t).state ≡ r
  stands r e = sym (run-standing t big (bound t.size) [] (fresh t) (fresh-inv t big)) ∙ e

  few_steps : (j : ℕ) → (searched t).standing ≡ safe j → j ≤ 256
  few_steps j e = omega (arith, (safe_at t (searched t).state j (stands (safe j) e)).lt, kept.cap)

  few_walked : (searched t).standing ≡ reached → length (shown_walk t (searched t).state) ≤ 256
  few_walked e = omega (arith, walk_length t big (searched t).state, few_states t big e)

  walked-states :
      (searched t).standing ≡ reached → (i : ℕ) → i < length (shown_walk t (searched t).state)
      → get_or (shown_walk t (searched t).state) i 0 < t.size
  walked-states e = leads-states t (reached_real t big (searched t).state kept (stands reached e)).moves

-- a table whose listing is short: at most 256 states, each with an angle and a mode, and at most 4,096 moves
pub record Small (c : Control) : Type 0 where
  pub size : c.table.size ≤ 256
  pub moves : move_count c.table.rows ≤ 4096
  pub angles : (s : ℕ) → s < c.table.size → is_angle (get_or c.angles s (pos 0)) ≡ true
  pub modes : (s : ℕ) → s < c.table.size → get_or c.modes s 0 < 16

module _ (c : Control) (small : Small c) where
  abbrev o : Ran
  o = searched c.table

  abbrev w : List ℕ
  w = shown_walk c.table o.state

  safe_fits : (j : ℕ) → o.standing ≡ safe j → length (verdict_listing c o (safe j)) ≤ 5424
  unfolding verdict_listing
  safe_fits j e =
      let few = few_steps c.table small.size j e in
      let fired = few_rules c.table small.size in
      omega (arith, safe-short c.table j o.rules (o.state.x j) small.size small.moves (omega arith) (omega arith))

  -- the line of a state of the walk, which is a state of the table
  line-fits : o.standing ≡ reached → (i : ℕ) → i < length w → length (state_line w c.angles c.modes i) ≤ 21
  unfolding angle_at state_at
  line-fits e i l =
      let few = few_walked c.table small.size e in
      let below = walked-states c.table small.size e i l in
      state-length w c.angles c.modes i (omega arith) (omega (arith, small.size)) (small.angles (get_or w i 0) below)
      (small.modes (get_or w i 0) below)

  reached_fits : o.standing ≡ reached → length (verdict_listing c o reached) ≤ 5424
  unfolding verdict_listing
  reached_fits e =
      let fired = few_rules c.table small.size in
      reached_short c o.rules w small.size small.moves (omega arith) (few_walked c.table small.size e) (line-fits e)

  verdict_fits : (r : Standing) → o.standing ≡ r → Ended r → length (verdict_listing c o r) ≤ 5424
  verdict_fits r e (ended_safe j) = safe_fits j e
  verdict_fits r e ended_reached = reached_fits e

  pub table_fits : length (table_listing c) ≤ 5424
  unfolding table_listing
  table_fits = verdict_fits o.standing refl (searched-ends c.table small.size)
