-- What the memo holds: nothing at first, and one set more with each g that is worked out.
use Prim.Native.Nat.{ℕ, ◌<◌}
use mathlib.Core.Bool.{Bool, true, not}
use mathlib.Core.List.{[], ◌∷◌}
use mathlib.Core.Logic.{◌≢◌}
use mathlib.Core.Path.{◌≡◌, refl, sym, ap, ◌∙◌}
use lib.Dec.{eqb}
use lib.ListN.{length, get_or, set, replicate}
use lib.Pointwise.{pointwise}
use Rattle.std.proofs.lemmas.List.Elements.{All-set, All-replicate}
use Rattle.std.specs.Cmp.Lexicographic.{same_text, other_text}
use Rattle.moves.proofs.Rows.{backward-is}
use Rattle.moves.specs.Wide.{backward256}
use Rattle.rules.proofs.Ready.{Good}
use Rattle.rules.specs.Table.{Table, g}
use Rattle.runs.specs.Inner.{Blank, Keeps, Remembers, Recalled}
use Rattle.runs.specs.declared.memo.Kept.{Kept}
use Rattle.runs.specs.declared.memo.Memo.{Memo}
use Rattle.sets.proofs.Tests.{not-true}
use Rattle.sets.specs.Sets.{Set, empty}
use Rattle.sets.specs.declared.StateSet.{StateSet}

-- an empty set keeps nothing
abbrev none : Kept
none = record { set = record { words = 0 ∷ 0 ∷ 0 ∷ 0 ∷ [] }; image = record { words = 0 ∷ 0 ∷ 0 ∷ 0 ∷ [] } }

pub blank : Blank (record { places = replicate 258 none })
unfolding empty
blank = λ t. All-replicate (Keeps t) 258 none (λ some. absurd (some refl))

-- the set of place d was found to be y, and is not empty
pub recall_hit : (t : Table) (m : Memo) (d : ℕ) (e : Kept) (y : Set) (q s : Bool) → Remembers t m → d < length m.places
    → q ≡ pointwise eqb (get_or m.places d e).set.words y → q ≡ true → s ≡ not (pointwise eqb y (0 ∷ 0 ∷ 0 ∷ 0 ∷ [])) → s ≡ true
    → Recalled t y (get_or m.places d e).image.words m
unfolding empty
recall_hit t m d e y q s r l eq found es some =
    let same : (get_or m.places d e).set.words ≡ y = same_text _ _ (sym found ∙ eq) in
    let other : y ≢ 0 ∷ 0 ∷ 0 ∷ 0 ∷ [] = other_text _ _ (sym (not-true _ (sym es ∙ some))) in
    record { is = r d e l (λ q. other (sym same ∙ q)) ∙ ap (g t) same; kept = r }

-- g of y was worked out, and is kept
pub recall_miss : (t : Table) (m : Memo) (d : ℕ) (y w : StateSet) → Remembers t m → Good t → w.words ≡ backward256 t.size t.rows y.words
    → Recalled t y.words w.words (record { places = set m.places d (record { set = y; image = w }) })
recall_miss t m d y w r good ew =
    let is : w.words ≡ g t y.words = ew ∙ backward-is t.size t.rows good.big good.rows y.words in
    record { is = is; kept = All-set (Keeps t) m.places d _ (λ _. is) r }
