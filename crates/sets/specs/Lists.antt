-- Lists made place by place.
use Rattle.std.specs.Prelude.{ℕ, zero, suc, List, [], ◌∷◌}

-- h 0, h 1, .. h (n - 1)
unfoldable pub tabulate : {A : Type 0} → ℕ → (ℕ → A) → List A
tabulate zero h = []
tabulate (suc n) h = h 0 ∷ tabulate n (λ i. h (suc i))
