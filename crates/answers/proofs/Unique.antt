-- A promise that says what an answer equals allows one answer. Each public call cites this law.
use mathlib.Core.Path.{◌≡◌, sym, ◌∙◌}

pub only {ℓ} : {A : Type ℓ} {promised a b : A} → a ≡ promised → b ≡ promised → a ≡ b
only p q = p ∙ sym q
