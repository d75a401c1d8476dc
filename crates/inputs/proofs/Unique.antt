-- What a call that no read failed answers of known bytes is one answer: any two that its promise allows have read the same bytes.
use Rattle.std.proofs.Common.{◌+◌, ◌≡◌, ℕ, ◌<◌, ◌≤◌, List, [], ◌++◌, inl, inr, Some, length, take, sym, ap, ◌∙◌, arith, length-take-le, le_antisymm}
use Rattle.std.proofs.lemmas.Bool.{cases_lt}
use Rattle.std.proofs.lemmas.List.{length-append, take_at}
use Rattle.std.specs.Io.KnownBytes.{Consumes, IsAtEnd}

-- what was read and what is left are as long as what there was
whole : (xs ys b : List ℕ) (n : ℕ) → n ≤ length b → xs ≡ take n b ++ ys → length xs ≡ n + length ys
whole xs ys b n within p = ap length p ∙ length-append (take n b) ys ∙ ap (λ k. k + length ys) (length-take-le n b within)

-- a call whose buffer has room has read no less than another
no_less : (xs ys zs b c : List ℕ) (n m : ℕ) → length b ≡ length c → n ≤ length b → m ≤ length c
    → xs ≡ take n b ++ ys → xs ≡ take m c ++ zs → (n < length b → ys ≡ []) → m ≤ n
no_less xs ys zs b c n m same in_b in_c p q end =
    elim (cases_lt n m) [
      | inl less ↦
          let none : length ys ≡ 0 = ap length (end (omega arith)) in
          let first = whole xs ys b n in_b p in
          let second = whole xs zs c m in_c q in
          omega arith
      | inr le ↦ le
    ]

-- the bytes that were read are the first of those that there were
front : (xs ys b : List ℕ) (n : ℕ) → n ≤ length b → xs ≡ take n b ++ ys → take n xs ≡ take n b
front xs ys b n within p = ap (take n) p ∙ take_at (take n b) ys n (length-take-le n b within)

pub read_full_once : (xs ys zs b c : List ℕ) (n m : ℕ) → length b ≡ length c → n ≤ length b → m ≤ length c
    → Consumes (Some xs) (Some ys) (take n b) → Consumes (Some xs) (Some zs) (take m c)
    → (n < length b → IsAtEnd (Some ys)) → (m < length c → IsAtEnd (Some zs))
    → (n ≡ m) × (take n b ≡ take m c)
read_full_once xs ys zs b c n m same in_b in_c p q end_b end_c =
    let e : n ≡ m = le_antisymm (no_less xs zs ys c b m n (sym same) in_c in_b q p end_c) (no_less xs ys zs b c n m same in_b in_c p q end_b) in
    (e, sym (front xs ys b n in_b p) ∙ ap (λ k. take k xs) e ∙ front xs zs c m in_c q)
