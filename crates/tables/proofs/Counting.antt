-- The counts of a whole file, section by section, as the code takes them: s₁ to s₄ are what taking the sections gives, t₁ to t₄ what was taken.
use Prim.Native.Nat.{ℕ, ◌≤◌, ◌<◌}
use mathlib.Core.List.{List}
use mathlib.Core.Path.{◌≡◌}
use borrow.Author.Tests.{lt-ltb, le-ltb}
use lib.ListN.{length}
use Rattle.std.specs.Prelude.{Result, Ok, Err}
use Rattle.answers.specs.Said.{number_of}
use Rattle.tables.specs.Format.{states, numbers, moves, number, move, section_number, refused_at, taken, and_then, past, ending, contents}
use Rattle.tables.specs.Said.{said, section_step}
use Rattle.tables.specs.Inner.{counts_read}
use Rattle.tables.specs.declared.Fault.{Fault}
use Rattle.tables.specs.declared.Taken as code
use Rattle.tables.proofs.Taking.{Took, took_it, refused_it}

-- a section by its number that was not taken, or was
abbrev Answered : Type 0
Answered = Result code.Taken Fault

module _ (b : List ℕ) (s₁ : Answered) (e₁ : said s₁ ≡ section_step (section_number 1 0) b 0) where
  pub stop-1 : (f : Fault) → s₁ ≡ Err f → refused_at (number_of f.refusal) f.offset ≡ counts_read b
  unfolding counts_read contents and_then section_number
  stop-1 f q = rw (refused_it states b 0 s₁ e₁ f q)

  module _ (t₁ : code.Taken) (q₁ : s₁ ≡ Ok t₁) (s₂ : Answered) (e₂ : said s₂ ≡ section_step (section_number 2 t₁.number) b t₁.next) where
    abbrev N : ℕ
    N = t₁.number

    k1 : Took states b 0 N t₁.next
    unfolding section_number
    k1 = took_it states b 0 s₁ e₁ t₁ q₁

    pub stop-2 : (f : Fault) → s₂ ≡ Err f → refused_at (number_of f.refusal) f.offset ≡ counts_read b
    unfolding counts_read contents and_then section_number
    stop-2 f q = rw (k1.is, ← k1.many, ← k1.place, refused_it (numbers N) b t₁.next s₂ e₂ f q)

    module _ (t₂ : code.Taken) (q₂ : s₂ ≡ Ok t₂) (s₃ : Answered) (e₃ : said s₃ ≡ section_step (section_number 3 N) b t₂.next) where
      k2 : Took (numbers N) b t₁.next t₂.number t₂.next
      unfolding section_number
      k2 = took_it (numbers N) b t₁.next s₂ e₂ t₂ q₂

      place3 : t₂.next ≡ past (number 0) t₁.next k2.values
      unfolding past
      place3 = k2.place

      pub stop-3 : (f : Fault) → s₃ ≡ Err f → refused_at (number_of f.refusal) f.offset ≡ counts_read b
      unfolding counts_read contents and_then section_number
      stop-3 f q = rw (k1.is, ← k1.many, ← k1.place, k2.is, ← place3, refused_it (numbers N) b t₂.next s₃ e₃ f q)

      module _ (t₃ : code.Taken) (q₃ : s₃ ≡ Ok t₃) (s₄ : Answered) (e₄ : said s₄ ≡ section_step (section_number 4 N) b t₃.next) where
        k3 : Took (numbers N) b t₂.next t₃.number t₃.next
        unfolding section_number
        k3 = took_it (numbers N) b t₂.next s₃ e₃ t₃ q₃

        place4 : t₃.next ≡ past (number 0) t₂.next k3.values
        unfolding past
        place4 = k3.place

        pub stop-4 : (f : Fault) → s₄ ≡ Err f → refused_at (number_of f.refusal) f.offset ≡ counts_read b
        unfolding counts_read contents and_then section_number
        stop-4 f q =
            rw (k1.is, ← k1.many, ← k1.place, k2.is, ← place3, k3.is, ← place4, refused_it (moves N) b t₃.next s₄ e₄ f q)

        module _ (t₄ : code.Taken) (q₄ : s₄ ≡ Ok t₄) where
          k4 : Took (moves N) b t₃.next t₄.number t₄.next
          unfolding section_number
          k4 = took_it (moves N) b t₃.next s₄ e₄ t₄ q₄

          place5 : t₄.next ≡ past (move 0) t₃.next k4.values
          unfolding past
          place5 = k4.place

          pub stop-5 : t₄.next < length b → refused_at 6 t₄.next ≡ counts_read b
          unfolding counts_read contents and_then ending
          stop-5 l =
              rw (k1.is, ← k1.many, ← k1.place, k2.is, ← place3, k3.is, ← place4, k4.is, ← place5, lt-ltb t₄.next (length b) l)

          pub all-taken : length b ≤ t₄.next → taken (N, t₂.number, t₃.number, t₄.number) ≡ counts_read b
          unfolding counts_read contents and_then ending
          all-taken l =
              rw (
                k1.is,
                ← k1.many,
                ← k1.place,
                k2.is,
                ← place3,
                k3.is,
                ← place4,
                k4.is,
                ← place5,
                le-ltb t₄.next (length b) l,
                ← k1.many,
                ← k2.many,
                ← k3.many,
                ← k4.many,
              )
