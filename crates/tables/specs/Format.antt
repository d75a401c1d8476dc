-- The file, as document 01 has it: four sections, each after its 16-bit count, little-endian. Both reading and writing are defined from
-- the kinds of entries below. An entry is a number: a state is its angle's 16 bits times 256 plus its mode, a move is from times 65,536 plus to.
use Rattle.std.specs.Prelude.{ℕ, zero, suc, ◌+◌, ◌-◌, ◌*◌, ◌/◌, ◌%◌, Bool, true, false, not, ◌&&◌, ◌||◌, cond}
use Rattle.std.specs.Prelude.{List, [], ◌∷◌, ◌++◌, eqb, leb, ltb, ℤ, pos, negsuc, length, get_or}
use Rattle.answers.specs.Refusals.{cut_short, out_of_range, bad_label, no_such_state, not_rising, extra_bytes}
use Rattle.turns.specs.Turn.{is_angle}

-- ---- 16 bits
-- those at a place of a file, and those of a number below 65,536
unfoldable pub bits16 : List ℕ → ℕ → ℕ
bits16 b at = get_or b at 0 + 256 * get_or b (at + 1) 0

abbrev pub bytes16 : ℕ → List ℕ
bytes16 v = v % 256 ∷ v / 256 % 256 ∷ []

-- the integer that 16 bits are in two's complement, and the bits of an integer
unfoldable pub signed : ℕ → ℤ
signed u = cond (ltb u 32768) (pos u) (negsuc (65535 - u))

unfoldable pub unsigned : ℤ → ℕ
unsigned (pos n) = n
unsigned (negsuc n) = 65535 - n

-- ---- the kinds of entries
-- an entry's width in bytes, the number that stands at a place of a file, the bytes of a number, the numbers that are refused
-- and by which refusal, and whether the numbers of a section rise strictly
pub record Kind : Type 0 where
  pub width : ℕ
  pub value : List ℕ → ℕ → ℕ
  pub bytes : ℕ → List ℕ
  pub bad : ℕ → Bool
  pub refusal : ℕ
  pub rises : Bool

-- a count from low to high
abbrev pub count : ℕ → ℕ → Kind
count low high = record {
  width = 2;
  value = bits16;
  bytes = bytes16;
  bad = λ v. ltb v low || ltb high v;
  refusal = out_of_range;
  rises = false;
}

-- an angle and a mode
unfoldable pub state_entry : List ℕ → ℕ → ℕ
state_entry b at = bits16 b at * 256 + get_or b (at + 2) 0

abbrev pub state : Kind
state = record {
  width = 3;
  value = state_entry;
  bytes = λ v. bytes16 (v / 256) ++ (v % 256 ∷ []);
  bad = λ v. not (is_angle (signed (v / 256))) || leb 16 (v % 256);
  refusal = bad_label;
  rises = false;
}

-- a state number below N
abbrev pub number : ℕ → Kind
number N = record {
  width = 2;
  value = bits16;
  bytes = bytes16;
  bad = λ v. leb N v;
  refusal = no_such_state;
  rises = true;
}

-- from and to, two state numbers below N
unfoldable pub move_entry : List ℕ → ℕ → ℕ
move_entry b at = bits16 b at * 65536 + bits16 b (at + 2)

abbrev pub move : ℕ → Kind
move N = record {
  width = 4;
  value = move_entry;
  bytes = λ v. bytes16 (v / 65536) ++ bytes16 (v % 65536);
  bad = λ v. leb N (v / 65536) || leb N (v % 65536);
  refusal = no_such_state;
  rises = true;
}

-- ---- the sections: how many entries at least and at most, and their kind
pub record Section : Type 0 where
  pub least : ℕ
  pub most : ℕ
  pub kind : Kind

abbrev pub states : Section
states = record { least = 1; most = 256; kind = state }

abbrev pub numbers : ℕ → Section
numbers N = record { least = 0; most = N; kind = number N }

abbrev pub moves : ℕ → Section
moves N = record { least = 0; most = 4096; kind = move N }

-- by the section's number in document 01: 1 states, 2 starts, 3 safe states, 4 moves; any other number is as 2
unfoldable pub section_number : ℕ → ℕ → Section
section_number i N = cond (eqb i 1) states (cond (eqb i 4) (moves N) (numbers N))

-- what the four sections of a file hold
pub record Contents : Type 0 where
  pub states : List ℕ
  pub starts : List ℕ
  pub safe : List ℕ
  pub moves : List ℕ

-- ---- reading
-- what reading gives: a refusal's number and the byte offset, or what was taken
pub data Taken (A : Type 0) : Type 0 where
  refused_at : ℕ → ℕ → Taken A
  taken : A → Taken A

-- what is taken after something else; a refusal ends the reading
unfoldable pub and_then : {A B : Type 0} → Taken A → (A → Taken B) → Taken B
and_then (refused_at k at) next = refused_at k at
and_then (taken a) next = next a

-- the entry at a place, where the least number that rises is `low`
unfoldable pub entry : Kind → List ℕ → ℕ → ℕ → Taken ℕ
entry K b at low =
    cond (ltb (length b) (at + K.width)) (refused_at cut_short at)
    (cond (K.bad (K.value b at)) (refused_at K.refusal at)
    (cond (K.rises && ltb (K.value b at) low) (refused_at not_rising at)
    (taken (K.value b at))))

-- k entries from a place on
unfoldable pub entries : Kind → List ℕ → ℕ → ℕ → ℕ → Taken (List ℕ)
entries K b at low zero = taken []
entries K b at low (suc k) = and_then (entry K b at low) (λ v. and_then (entries K b (at + K.width) (suc v) k) (λ vs. taken (v ∷ vs)))

-- a count, and as many entries
unfoldable pub section : Section → List ℕ → ℕ → Taken (List ℕ)
section S b at = and_then (entry (count S.least S.most) b at 0) (λ k. entries S.kind b (at + 2) 0 k)

-- the place past a section
unfoldable pub past : Kind → ℕ → List ℕ → ℕ
past K at vs = at + 2 + length vs * K.width

-- the file ends where the last section does
unfoldable pub ending : List ℕ → ℕ → Contents → Taken Contents
ending b at l = cond (ltb at (length b)) (refused_at extra_bytes at) (taken l)

-- the places of the sections after the states, and the place past the file
abbrev pub at2 : List ℕ → ℕ
at2 ss = past state 0 ss

abbrev pub at3 : List ℕ → List ℕ → ℕ
at3 ss is = past (number 0) (at2 ss) is

abbrev pub at4 : List ℕ → List ℕ → List ℕ → ℕ
at4 ss is ps = past (number 0) (at3 ss is) ps

abbrev pub at5 : List ℕ → List ℕ → List ℕ → List ℕ → ℕ
at5 ss is ps ms = past (move 0) (at4 ss is ps) ms

-- the whole file
unfoldable pub contents : List ℕ → Taken Contents
contents b =
    and_then (section states b 0) (λ ss.
    and_then (section (numbers (length ss)) b (at2 ss)) (λ is.
    and_then (section (numbers (length ss)) b (at3 ss is)) (λ ps.
    and_then (section (moves (length ss)) b (at4 ss is ps)) (λ ms.
    ending b (at5 ss is ps ms) (record { states = ss; starts = is; safe = ps; moves = ms })))))

-- ---- writing
unfoldable pub entries_bytes : Kind → List ℕ → List ℕ
entries_bytes K [] = []
entries_bytes K (v ∷ vs) = K.bytes v ++ entries_bytes K vs

unfoldable pub section_bytes : Kind → List ℕ → List ℕ
section_bytes K vs = bytes16 (length vs) ++ entries_bytes K vs

unfoldable pub file_bytes : Contents → List ℕ
file_bytes l =
    section_bytes state l.states
    ++ (section_bytes (number 0) l.starts
    ++ (section_bytes (number 0) l.safe
    ++ section_bytes (move 0) l.moves))
