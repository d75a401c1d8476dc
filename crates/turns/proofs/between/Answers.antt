-- `between` meets its contract: it tests the candidates in the definition's order, and an i16 holds each of them.
use native.Mathlib.Omega.{arith}
use mathlib.Core.Bool.{Bool, true, false}
use mathlib.Core.Path.{◌≡◌, sym, ◌∙◌, ap}
use lib.IntN.{ℤ, pos, ◌+ℤ◌, ◌-ℤ◌}
use mir.Syntax.{w16}
use mir.Val.{SFits, to_z, of_z}
use mir.ValLaws.{to_z-of_z}
use Rattle.turns.specs.Turn.{is_angle, is_short, half_turn, between}
use Rattle.turns.proofs.Ints.{add_is, sub_is, Inside, fits}
use Rattle.turns.proofs.Laws.{within}
use Rattle.turns.proofs.Picks.{picks_first, picks_second, picks-third, picks-none}
use Rattle.turns.proofs.between.Goals as goal

-- what the machine reads from the bits of z
abbrev read : ℤ → ℤ
read z = to_z w16 (of_z w16 z)

-- what a test of v told of w
told : (test : ℤ → Bool) {v w : ℤ} {r t : Bool} → v ≡ w → r ≡ test v → r ≡ t → test w ≡ t
told test q e h = ap test (sym q) ∙ sym e ∙ h

-- the candidates from angle a to angle b, as the machine works them out
module _ (a b : ℤ) (fa : SFits w16 a) (fb : SFits w16 b) (angle-a : is_angle a ≡ true) (angle-b : is_angle b ≡ true) where
  -- the difference of two angles is less than a full turn
  near : Inside 360 (b -ℤ a)
  near = omega (arith, within a angle-a, within b angle-b, sub_is b a)

  -- d is the local: the machine works it out from what it reads, and reads b - a from it
  abbrev d : ℤ
  d = read b -ℤ read a

  d-is : d ≡ b -ℤ a
  d-is = rw (to_z-of_z w16 a fa, to_z-of_z w16 b fb)

  d-fits : SFits w16 d
  d-fits = rw d-is (fits (b -ℤ a) (omega (arith, near)))

  read-d : read d ≡ b -ℤ a
  read-d = to_z-of_z w16 d d-fits ∙ d-is

  -- the same of a full turn more and a full turn less
  abbrev more : ℤ
  more = read d +ℤ pos 360

  abbrev less : ℤ
  less = read d -ℤ pos 360

  more-fits : SFits w16 more
  more-fits = rw read-d (fits (b -ℤ a +ℤ pos 360) (omega (arith, near, add_is (b -ℤ a) (pos 360))))

  less-fits : SFits w16 less
  less-fits = rw read-d (fits (b -ℤ a -ℤ pos 360) (omega (arith, near, sub_is (b -ℤ a) (pos 360))))

  read_more : read more ≡ b -ℤ a +ℤ pos 360
  read_more = to_z-of_z w16 more more-fits ∙ ap (λ z. z +ℤ pos 360) read-d

  read-less : read less ≡ b -ℤ a -ℤ pos 360
  read-less = to_z-of_z w16 less less-fits ∙ ap (λ z. z -ℤ pos 360) read-d

  -- what was tested and passed over, and the one that passed
  first : {r : Bool} → r ≡ is_short 360 (read d) → r ≡ true → read d ≡ between 360 a b
  first e h = read-d ∙ picks_first 360 a b (told (is_short 360) read-d e h)

  second : {r s : Bool} → r ≡ is_short 360 (read d) → r ≡ false → s ≡ is_short 360 (read more) → s ≡ true → read more ≡ between 360 a b
  second e h f k = read_more ∙ picks_second 360 a b (told (is_short 360) read-d e h) (told (is_short 360) read_more f k)

  module _
      {r s t : Bool} (e : r ≡ is_short 360 (read d)) (h : r ≡ false) (f : s ≡ is_short 360 (read more)) (k : s ≡ false)
      (g : t ≡ is_short 360 (read less)) where
    third : t ≡ true → read less ≡ between 360 a b
    third m = read-less ∙ picks-third 360 a b (told (is_short 360) read-d e h) (told (is_short 360) read_more f k) (told (is_short 360) read-less g m)

    half : {v : ℤ} → SFits w16 v → v ≡ half_turn 360 (read a) → t ≡ false → read v ≡ between 360 a b
    half fv q m =
        to_z-of_z w16 _ fv ∙ q ∙ ap (half_turn 360) (to_z-of_z w16 a fa)
        ∙ picks-none 360 a b (told (is_short 360) read-d e h) (told (is_short 360) read_more f k) (told (is_short 360) read-less g m)

pub returns-then-is_short : goal.returns-then-is_short
returns-then-is_short c =
    first c.args.a c.args.b c.ranges.a c.ranges.b c.requires.from c.requires.to c.is_short.ensures c.if-is_short.true

pub returns-then-is_short-2 : goal.returns-then-is_short-2
returns-then-is_short-2 c =
    second c.args.a c.args.b c.ranges.a c.ranges.b c.requires.from c.requires.to
    c.is_short.ensures c.if-is_short.false c.is_short-2.ensures c.if-is_short-2.true

pub returns-then-is_short-3 : goal.returns-then-is_short-3
returns-then-is_short-3 c =
    third c.args.a c.args.b c.ranges.a c.ranges.b c.requires.from c.requires.to
    c.is_short.ensures c.if-is_short.false c.is_short-2.ensures c.if-is_short-2.false c.is_short-3.ensures c.if-is_short-3.true

pub returns : goal.returns
returns c =
    half c.args.a c.args.b c.ranges.a c.ranges.b c.requires.from c.requires.to
    c.is_short.ensures c.if-is_short.false c.is_short-2.ensures c.if-is_short-2.false c.is_short-3.ensures
    (record { sfits = c.half_turn.type_inv }) c.half_turn.ensures c.if-is_short-3.false

pub overflow_sub-d : goal.overflow_sub-d
overflow_sub-d c = d-fits c.args.a c.args.b c.ranges.a c.ranges.b c.requires.from c.requires.to

pub overflow_add-more : goal.overflow_add-more
overflow_add-more c = more-fits c.args.a c.args.b c.ranges.a c.ranges.b c.requires.from c.requires.to

pub overflow_sub-less : goal.overflow_sub-less
overflow_sub-less c = less-fits c.args.a c.args.b c.ranges.a c.ranges.b c.requires.from c.requires.to
