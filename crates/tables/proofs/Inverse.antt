-- Each kind of entry writes what it reads and reads what it writes.
use Prim.Native.Nat.{ℕ, ◌+◌, ◌*◌, ◌/◌, ◌%◌, ◌≤◌, ◌<◌}
use native.Mathlib.Nat.{not-suc-le-zero, zero-add}
use native.Mathlib.Omega.{arith}
use mathlib.Core.Path.{◌≡◌, refl, sym, ap, ap₂, ◌∙◌}
use mathlib.Core.List.{List, [], ◌∷◌, ◌++◌}
use lib.ListN.{length, get_or, drop}
use lib.Seq.{get_or-drop}
use Rattle.tables.specs.RoundTrip.{Bytes}
use Rattle.tables.specs.Format.{bits16, bytes16, Kind, count, state_entry, state, number, move_entry, move}

pub bytes_drop : (b : List ℕ) (n : ℕ) → Bytes b → Bytes (drop n b)
bytes_drop b n h = record { byte = λ i. rw get_or-drop (h.byte (n + i)) }

-- a kind's bytes and its value undo each other, for numbers below a bound
pub record Inverse (K : Kind) (top : ℕ) : Type 0 where
  pub some : 0 < K.width
  pub near : (b : List ℕ) (at : ℕ) → K.value b at ≡ K.value (drop at b) 0
  pub long : (v : ℕ) → length (K.bytes v) ≡ K.width
  pub back : (v : ℕ) (rest : List ℕ) → v < top → K.value (K.bytes v ++ rest) 0 ≡ v
  pub forth : (l : List ℕ) → K.width ≤ length l → Bytes l → K.bytes (K.value l 0) ++ drop K.width l ≡ l
  pub tops : (l : List ℕ) → Bytes l → K.value l 0 < top

-- the bytes of 16 bits
low_byte : (x y : ℕ) → x < 256 → (x + 256 * y) % 256 ≡ x
low_byte x y h = omega arith

high_byte : (x y : ℕ) → x < 256 → y < 256 → (x + 256 * y) / 256 % 256 ≡ y
high_byte x y h k =
    let e : (x + 256 * y) / 256 ≡ y = omega arith in
    let f : y % 256 ≡ y = omega arith in
    rw (e, f)

-- a byte, counted from its place
near : (b : List ℕ) (at i : ℕ) → get_or b (at + i) 0 ≡ get_or (drop at b) (0 + i) 0
near b at i = rw (zero-add i) (sym (get_or-drop at b i 0))

near0 : (b : List ℕ) (at : ℕ) → get_or b at 0 ≡ get_or (drop at b) 0 0
near0 b at = let e : at ≡ at + 0 = omega arith in ap (λ (j : ℕ). get_or b j 0) e ∙ sym (get_or-drop at b 0 0)

bits16-near : (b : List ℕ) (at : ℕ) → bits16 b at ≡ bits16 (drop at b) 0
unfolding bits16
bits16-near b at = ap₂ (λ (x y : ℕ). x + 256 * y) (near0 b at) (near b at 1)

bits16-back : (v : ℕ) (rest : List ℕ) → v < 65536 → bits16 (bytes16 v ++ rest) 0 ≡ v
unfolding bits16
bits16-back v rest h = omega arith

bits16-forth : (l : List ℕ) → 2 ≤ length l → Bytes l → bytes16 (bits16 l 0) ++ drop 2 l ≡ l
unfolding bits16
bits16-forth [] h B = absurd (not-suc-le-zero h)
bits16-forth (x ∷ []) h B = absurd (omega arith)
bits16-forth (x ∷ y ∷ l) h B =
    let p : x < 256 = B.byte 0 in
    let q : y < 256 = B.byte 1 in
    rw (low_byte x y p, high_byte x y p q)

bits16-tops : (l : List ℕ) → Bytes l → bits16 l 0 < 65536
unfolding bits16
bits16-tops l B = omega (arith, B.byte 0, B.byte (0 + 1))

pub count-inverse : (low high : ℕ) → Inverse (count low high) 65536
count-inverse low high = record {
  some = omega arith;
  near = bits16-near;
  long = λ v. refl;
  back = bits16-back;
  forth = bits16-forth;
  tops = bits16-tops;
}

pub number-inverse : (N : ℕ) → Inverse (number N) 65536
number-inverse N = record {
  some = omega arith;
  near = bits16-near;
  long = λ v. refl;
  back = bits16-back;
  forth = bits16-forth;
  tops = bits16-tops;
}

state-near : (b : List ℕ) (at : ℕ) → state_entry b at ≡ state_entry (drop at b) 0
unfolding state_entry
state-near b at = ap₂ (λ (x y : ℕ). x * 256 + y) (bits16-near b at) (near b at 2)

state-back : (v : ℕ) (rest : List ℕ) → v < 16777216 → state_entry (state.bytes v ++ rest) 0 ≡ v
unfolding state_entry bits16
state-back v rest h = omega arith

state-forth : (l : List ℕ) → 3 ≤ length l → Bytes l → state.bytes (state_entry l 0) ++ drop 3 l ≡ l
unfolding state_entry bits16
state-forth [] h B = absurd (not-suc-le-zero h)
state-forth (x ∷ []) h B = absurd (omega arith)
state-forth (x ∷ y ∷ []) h B = absurd (omega arith)
state-forth (x ∷ y ∷ z ∷ l) h B =
    let p : x < 256 = B.byte 0 in
    let q : y < 256 = B.byte 1 in
    let r : z < 256 = B.byte 2 in
    let e : ((x + 256 * y) * 256 + z) / 256 ≡ x + 256 * y = omega arith in
    let g : ((x + 256 * y) * 256 + z) % 256 ≡ z = omega arith in
    rw (e, low_byte x y p, high_byte x y p q, g)

state-tops : (l : List ℕ) → Bytes l → state_entry l 0 < 16777216
unfolding state_entry bits16
state-tops l B = omega (arith, B.byte 0, B.byte (0 + 1), B.byte (0 + 2))

pub state-inverse : Inverse state 16777216
state-inverse = record { some = omega arith; near = state-near; long = λ v. refl; back = state-back; forth = state-forth; tops = state-tops }

move-near : (b : List ℕ) (at : ℕ) → move_entry b at ≡ move_entry (drop at b) 0
unfolding move_entry bits16
move-near b at =
    let e : at + 2 + 1 ≡ at + 3 = omega arith in
    ap₂ (λ (x y : ℕ). x * 65536 + y) (ap₂ (λ (x y : ℕ). x + 256 * y) (near0 b at) (near b at 1))
    (ap₂ (λ (x y : ℕ). x + 256 * y) (near b at 2) (ap (λ (j : ℕ). get_or b j 0) e ∙ near b at 3))

move-back : (v : ℕ) (rest : List ℕ) → v < 4294967296 → move_entry ((move 0).bytes v ++ rest) 0 ≡ v
unfolding move_entry bits16
move-back v rest h = omega arith

move-forth : (l : List ℕ) → 4 ≤ length l → Bytes l → (move 0).bytes (move_entry l 0) ++ drop 4 l ≡ l
unfolding move_entry bits16
move-forth [] h B = absurd (not-suc-le-zero h)
move-forth (x ∷ []) h B = absurd (omega arith)
move-forth (x ∷ y ∷ []) h B = absurd (omega arith)
move-forth (x ∷ y ∷ z ∷ []) h B = absurd (omega arith)
move-forth (x ∷ y ∷ z ∷ w ∷ l) h B =
    let p : x < 256 = B.byte 0 in
    let q : y < 256 = B.byte 1 in
    let r : z < 256 = B.byte 2 in
    let s : w < 256 = B.byte 3 in
    let e : ((x + 256 * y) * 65536 + (z + 256 * w)) / 65536 ≡ x + 256 * y = omega arith in
    let f : ((x + 256 * y) * 65536 + (z + 256 * w)) % 65536 ≡ z + 256 * w = omega arith in
    rw (e, f, low_byte x y p, high_byte x y p q, low_byte z w r, high_byte z w r s)

move-tops : (l : List ℕ) → Bytes l → move_entry l 0 < 4294967296
unfolding move_entry bits16
move-tops l B = omega (arith, B.byte 0, B.byte (0 + 1), B.byte (0 + 2), B.byte (0 + 2 + 1))

pub move-inverse : (N : ℕ) → Inverse (move N) 4294967296
move-inverse N = record { some = omega arith; near = move-near; long = λ v. refl; back = move-back; forth = move-forth; tops = move-tops }
