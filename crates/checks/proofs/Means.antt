-- The listing of a table says what the demands say of its run.
use Prim.Native.Nat.{ℕ, ◌≤◌}
use native.Mathlib.Omega.{arith}
use mathlib.Core.List.{List, [], ◌++◌, append_assoc}
use mathlib.Core.Logic.{◌⊎◌, inl, inr}
use mathlib.Core.Path.{◌≡◌, refl, sym, ap, ◌∙◌}
use lib.ListN.{length, get_or, drop}
use lib.Seq.{drop_at}
use Rattle.rules.proofs.Demands.{fresh-inv, counts, kept, demand_2, demand_3, shown-bad}
use Rattle.rules.proofs.Meaning.{closed_safe}
use Rattle.rules.specs.Demands.{bound, Course, Ended, ended_safe, ended_reached}
use Rattle.rules.specs.Rules.{fresh, Standing, safe}
use Rattle.rules.specs.ShownWalk.{shown_walk}
use Rattle.sets.specs.Sets.{Set}
use Rattle.moves.specs.Models.{Control}
use Rattle.tables.proofs.Files.{contents-is}
use Rattle.tables.specs.Control.{control_of}
use Rattle.listings.specs.Listing.{model_line, safe_line, members_line, safe_listing, reached_line, state_line, reached_listing}
use Rattle.listings.specs.Text.{appended, text, spaced, parted, line}
use Rattle.checks.proofs.Ends.{searched-ends}
use Rattle.checks.specs.Check.{searched, verdict_listing, table_listing}
use Rattle.checks.specs.File.{read_listing, file_listing}
use Rattle.checks.specs.Means.{ListsSafe, ListsReached, Means, CheckMeans}

-- the byte at which line 2 begins: the s of safe, the r of reached
safe-line : (j rules : ℕ) (x : Set) (rest : List ℕ) → get_or (safe_line j rules x ++ rest) 0 0 ≡ 115
unfolding safe_line line parted spaced text appended
safe-line j rules x rest = refl

reached-line : (states rules : ℕ) (rest : List ℕ) → get_or (reached_line states rules ++ rest) 0 0 ≡ 114
unfolding reached_line line parted spaced text appended
reached-line states rules rest = refl

second : (m l : List ℕ) → get_or (drop (length m) (m ++ l)) 0 0 ≡ get_or l 0 0
second m l = ap (λ (k : List ℕ). get_or k 0 0) (drop_at m l (length m) refl)

safe_byte : (c : Control) (j rules : ℕ) (x : Set) → get_or (drop (length (model_line c.table)) (safe_listing c.table j rules x)) 0 0 ≡ 115
unfolding safe_listing
safe_byte c j rules x =
    rw append_assoc (second (model_line c.table) (safe_line j rules x ++ members_line x) ∙ safe-line j rules x (members_line x))

reached_byte : (c : Control) (rules : ℕ) (walk : List ℕ) → get_or (drop (length (model_line c.table)) (reached_listing c rules walk)) 0 0 ≡ 114
unfolding reached_listing
reached_byte c rules walk =
    rw append_assoc (second (model_line c.table) (reached_line (length walk) rules ++ appended (length walk) (state_line walk c.angles c.modes))
    ∙ reached-line (length walk) rules _)

two-lines : (c : Control) (j rules : ℕ) (x : Set) (count : ℕ) (walk : List ℕ) → safe_listing c.table j rules x ≡ reached_listing c count walk → ⊥
two-lines c j rules x count walk e =
    let at-2 : List ℕ → ℕ = λ l. get_or (drop (length (model_line c.table)) l) 0 0 in
    let z : ◌≡◌ {A = ℕ} 115 114 = sym (safe_byte c j rules x) ∙ ap at-2 e ∙ reached_byte c count walk in
    omega arith

module _ (c : Control) (big : c.table.size ≤ 256) where
  -- it counts what any course of the published rules counts
  count : (k : Course c.table [] (fresh c.table)) → (searched c.table).rules ≡ k.rules
  count k = (counts c.table big (fresh c.table) (fresh-inv c.table big) [] (bound c.table.size) (searched-ends c.table big) k).0

  -- how it ends
  says : ListsSafe c (table_listing c) ⊎ ListsReached c (table_listing c)
  unfolding table_listing verdict_listing
  says = go (searched c.table).standing refl (searched-ends c.table big)
    where
      go : (r : Standing) → (searched c.table).standing ≡ r → Ended r → ListsSafe c (table_listing c) ⊎ ListsReached c (table_listing c)
      go r e (ended_safe j) =
          let x : Set = (searched c.table).state.x j in
          let w : List ℕ = shown_walk c.table (searched c.table).state in
          let its-set : (i : ℕ) → (searched c.table).standing ≡ safe i → x ≡ (searched c.table).state.x i =
          λ i q. ap (searched c.table).state.x (same_j q) in
          let d = demand_2 c.table big (fresh c.table) (kept c.table big).fresh_passes (bound c.table.size) [] x w its-set (λ q. refl) in
          inl (record { j = j; rules = (searched c.table).rules; set = x; is = rw (e, verdict_listing); counted = count; closed = d.safe_reason j e })
        where
          same_j : {i : ℕ} → (searched c.table).standing ≡ safe i → j ≡ i
          same_j q = cc
      go r e ended_reached =
          let w : List ℕ = shown_walk c.table (searched c.table).state in
          let no-set : (i : ℕ) → (searched c.table).standing ≡ safe i → [] ≡ (searched c.table).state.x i = λ i q. cc in
          let d = demand_2 c.table big (fresh c.table) (kept c.table big).fresh_passes (bound c.table.size) [] [] w no-set (λ q. refl) in
          let d' = demand_3 c.table big (fresh c.table) (kept c.table big).fresh_passes (bound c.table.size) [] [] w no-set (λ q. refl) in
          inr (record {
            rules = (searched c.table).rules;
            walk = w;
            is = rw (e, verdict_listing);
            counted = count;
            real = d.reached_walk e;
            fewest = d'.fewest e;
          })

  pub table-means : Means c (table_listing c)
  table-means =
      record {
        safe_exactly = (λ s b. closed_safe c.table s.closed b, λ n. elim says [ inl s ↦ s | inr r ↦ absurd (n (shown-bad c.table r.real)) ]);
        reached_exactly = (λ r. shown-bad c.table r.real, λ b. elim says [ inl s ↦ absurd (closed_safe c.table s.closed b) | inr r ↦ r ]);
        not_both = λ j rules x count walk p q. two-lines c j rules x count walk (sym p ∙ q);
      }

-- of a file that is taken
pub check_means : CheckMeans
unfolding file_listing read_listing control_of
check_means = record { means = λ file l e. rw e (table-means (control_of l) (contents-is file l e).states.most) }
