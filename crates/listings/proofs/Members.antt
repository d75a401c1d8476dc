-- The members of a set, appended one after another as a loop over the states goes.
use Prim.Native.Nat.{ℕ, ◌+◌, ◌≤◌, ◌<◌}
use native.Mathlib.Numerals.{add-one}
use native.Mathlib.Omega.{arith}
use mathlib.Core.Bool.{Bool, true, false}
use mathlib.Core.Path.{◌≡◌, refl, sym, ◌∙◌}
use mathlib.Core.List.{List, [], ◌∷◌, ◌++◌, map, map-append, append-nil}
use Rattle.sets.specs.Sets.{Set, member}
use Rattle.listings.specs.Text.{appended, decimal, parted}
use Rattle.listings.specs.Listing.{members_below}
use Rattle.listings.specs.Inner.{gap}
use Rattle.outputs.specs.Appends.{Appends}
use Rattle.outputs.specs.declared.Output.{Output}
use Rattle.outputs.proofs.Puts.{appends_none, appends_then}
use Rattle.listings.proofs.Text.{is_none, some_more, parted-more}

-- the fields of the members below s
abbrev fields : Set → ℕ → List (List ℕ)
fields x s = map decimal (members_below s x)

-- one state more that is a member, and one that is none
fields_in : (x : Set) (s : ℕ) → member x s ≡ true → fields x (s + 1) ≡ fields x s ++ decimal s ∷ []
unfolding members_below appended
fields_in x s e = rw (add-one, e) (map-append decimal (members_below s x) (s ∷ []))

fields_out : (x : Set) (s : ℕ) → member x s ≡ false → fields x (s + 1) ≡ fields x s
unfolding members_below appended
fields_out x s e = rw (add-one, e, append-nil)

-- the members below s are appended, and whether the next is the first
pub record Below (x : Set) (o : Output) (s : ℕ) (later : Output) (first : Bool) : Type 0 where
  pub few : s ≤ 256
  pub none : first ≡ is_none (map decimal (members_below s x))
  pub appends : Appends o (parted (map decimal (members_below s x))) later

module _ (x : Set) (o : Output) where
  pub below_none : Below x o 0 o true
  unfolding parted members_below appended
  below_none = record { few = omega arith; none = refl; appends = appends_none o }

  module _ (s : ℕ) (later : Output) (first : Bool) (b : Below x o s later first) where
    -- r is whether s is a member
    pub below_in :
        (r : Bool) (later' : Output) → r ≡ member x s → r ≡ true → s < 256 → Appends later (gap first ++ decimal s) later'
        → Below x o (s + 1) later' false
    below_in r later' e y lt p =
        let more = fields_in x s (sym e ∙ y) in
        record {
          few = omega arith;
          none = rw more (sym (some_more (fields x s) (decimal s)));
          appends = rw (more, parted-more (fields x s) (decimal s), ← b.none) (appends_then b.appends p);
        }

    pub below_out : (r : Bool) → r ≡ member x s → r ≡ false → s < 256 → Below x o (s + 1) later first
    below_out r e y lt =
        let same = fields_out x s (sym e ∙ y) in
        record { few = omega arith; none = rw same b.none; appends = rw same b.appends }

    pub below_all : 256 ≤ s → Appends o (parted (map decimal (members_below 256 x))) later
    below_all h = let e : s ≡ 256 = omega (arith, b.few) in rw e at b.appends
