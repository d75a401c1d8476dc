-- Between two angles the turn that a listing shows is the turn between them, in degrees.
use Prim.Native.Nat.{ℕ, suc}
use mathlib.Core.Bool.{true}
use mathlib.Core.Path.{◌≡◌}
use mathlib.Core.List.{List}
use lib.IntN.{ℤ}
use Rattle.turns.specs.Turn.{is_angle, between, turn_of}
use Rattle.listings.specs.Listing.{angle_at, shown, turn_at}

pub turn-shown :
    (walk : List ℕ) (angles : List ℤ) (i : ℕ) → is_angle (angle_at walk angles i) ≡ true → is_angle (angle_at walk angles (suc i)) ≡ true
    → turn_at walk angles (suc i) ≡ between 360 (angle_at walk angles i) (angle_at walk angles (suc i))
unfolding turn_at shown turn_of
turn-shown walk angles i a b = rw (a, b)
