-- What a single rule leaves: a published step, and a buffer that passes the entry check again, whatever set is proposed.
use Prim.Native.Nat.{ℕ, zero, suc, ◌≤◌}
use mathlib.Core.Bool.{Bool, true, false, not, ◌&&◌, ◌||◌}
use mathlib.Core.List.{List}
use mathlib.Core.Path.{◌≡◌, refl, sym, ap, ◌∙◌}
use Rattle.std.specs.Prelude.{Result}
use Rattle.answers.proofs.Values.{no_value}
use Rattle.answers.specs.Answer.{Answer, refused, given}
use Rattle.answers.specs.declared.Refusal.{Refusal}
use Rattle.entries.proofs.Entered.{enters}
use Rattle.rules.proofs.Held.{held_back, kept-accepts}
use Rattle.rules.proofs.Invariant.{Invariant}
use Rattle.rules.proofs.Keep as keeping
use Rattle.rules.proofs.Keep.{due-is, allowed-ok, keep}
use Rattle.rules.proofs.Normal.{fire-normal}
use Rattle.rules.proofs.Published.{is_step}
use Rattle.rules.specs.Buffer.{encode, decode, Normal}
use Rattle.rules.specs.Rules.{conclusion, due, allowed, fire, State, Standing, safe, reached, unfinished, no_room, Rule, Unfold, Candidate, Decide, Conflict}
use Rattle.rules.specs.Runs.{asks, will_do, lacks_room}
use Rattle.rules.specs.Single.{Fired, takes, single}
use Rattle.rules.specs.Table.{Table}
use Rattle.runs.specs.Demands.{SingleDemand}
use Rattle.runs.specs.Promises.{single_answer, single_buffer, SinglePromise}
use Rattle.runs.specs.Said.{said_one}
use Rattle.runs.specs.declared.Rule as code
use Rattle.sets.proofs.Members.{proper_sound, proper_empty}
use Rattle.sets.proofs.Tests.{and-true}
use Rattle.sets.specs.Sets.{Set, empty, sound, Proper, Words}

-- a rule was fired: nothing was refused before, and the rules gave this
pub record Gave (n : ℕ) (a : Answer Fired) (rule : Rule) : Type 0 where
  pub none : n ≡ 0
  pub fired : Fired
  pub is : a ≡ given fired
  pub named : fired.rule ≡ rule

gave : (n : ℕ) (a : Answer Fired) (rule : Rule) → single_answer n a ≡ given rule → Gave n a rule
unfolding single_answer
gave zero (given f) rule e = record { none = refl; fired = f; is = refl; named = cc }
gave zero (refused k) rule e = no_value e
gave (suc n) a rule e = no_value e

module _ (t : Table) where
  -- what must hold where the rules give one
  pub record Given (s : State) (z : Set) (f : Fired) : Type 0 where
    pub still_open : conclusion t s ≡ unfinished
    pub taken : takes t s z ≡ true
    pub is : f ≡ record { rule = due t s; state = fire t.size (due t s) s z }

  single-due : (s : State) (z : Set) (f : Fired) → single t s z ≡ given f → Given s z f
  unfolding single
  single-due s z f e = go (conclusion t s) (lacks_room t s) (takes t s z) refl refl refl e
    where
      go : (c : Standing) (l k : Bool) → conclusion t s ≡ c → lacks_room t s ≡ l → takes t s z ≡ k → single t s z ≡ given f → Given s z f
      go (safe j) l k ec el ek e = no_value (rw (ec, single) at e)
      go reached l k ec el ek e = no_value (rw (ec, single) at e)
      go no_room l k ec el ek e = no_value (rw (ec, single) at e)
      go unfinished true k ec el ek e = no_value (rw (ec, el, single) at e)
      go unfinished false false ec el ek e = no_value (rw (ec, el, ek, single) at e)
      go unfinished false true ec el ek e =
          let q : given (record { rule = due t s; state = fire t.size (due t s) s z }) ≡ given f = rw (ec, el, ek, single) at e in
          record { still_open = ec; taken = ek; is = cc }

  -- a rule that asks takes a set with no members from N up that it allows; Unfold takes any, and allows any
  abbrev Takes : Rule → State → Set → Type 0
  Takes r s z = (not (asks r) || (sound t.size z && allowed t r s z)) ≡ true

  takes-due : (s : State) (z : Set) → takes t s z ≡ true → Takes (due t s) s z
  unfolding takes will_do
  takes-due s z e = e

  took_allowed : (r : Rule) (s : State) (z : Set) → Takes r s z → allowed t r s z ≡ true
  unfolding asks allowed
  took_allowed Unfold s z e = refl
  took_allowed Candidate s z e = (and-true (sound t.size z) _ e).1
  took_allowed Decide s z e = (and-true (sound t.size z) _ e).1
  took_allowed Conflict s z e = (and-true (sound t.size z) _ e).1

  -- the state after it holds no members from N up: Unfold puts nothing of the set proposed
  module _ (big : t.size ≤ 256) (s : State) (z : Set) (v : Invariant t s) (m : Normal t.size s) (own : Proper 256 z) where
    after-normal : (r : Rule) → keeping.Due t s r → Takes r s z → Normal t.size (fire t.size r s z)
    unfolding asks fire
    after-normal Unfold d e = fire-normal t big Unfold s empty v m d (proper_empty t.size big)
    after-normal Candidate d e = fire-normal t big Candidate s z v m d (proper_sound t.size big z own (and-true (sound t.size z) _ e).0)
    after-normal Decide d e = fire-normal t big Decide s z v m d (proper_sound t.size big z own (and-true (sound t.size z) _ e).0)
    after-normal Conflict d e = fire-normal t big Conflict s z v m d (proper_sound t.size big z own (and-true (sound t.size z) _ e).0)

-- a single rule that was fired, of a table and a set in words
pub single-demand : (t : Table) (z : Set) (b b' : List ℕ) (r : Result code.Rule Refusal) (rule : Rule) → Words b → Proper 256 t.starts → Proper 256 t.safe
    → Proper 256 z → SinglePromise t z b b' r → said_one r ≡ given rule → SingleDemand t z b b' rule
unfolding single_buffer
single-demand t z b b' r rule words is ps own p e =
    let g = gave _ _ rule (sym p.answer ∙ e) in
    let ready = enters t b words is ps g.none in
    let s = decode b in
    let d = single-due t s z g.fired g.is in
    let big = ready.good.big in
    let v = ready.fit.inv in
    let taken = takes-due t s z d.taken in
    let fine = took_allowed t (due t s) s z taken in
    let after : State = fire t.size (due t s) s z in
    let kept = keep t big (due t s) s z v d.still_open (due-is t s) (allowed-ok t (due t s) s z fine) in
    let normal = after-normal t big s z v ready.fit.held.norm own (due t s) (due-is t s) taken in
    let left : b' ≡ encode after = rw (g.none, g.is, d.is) at p.buffer in
    let held : decode b' ≡ after = rw left (held_back t big after kept normal) in
    let named : due t s ≡ rule = ap (λ f. f.rule) (sym d.is) ∙ g.named in
    record {
      published = rw (held, ← named) (is_step t big s z v d.still_open fine);
      enters = rw left (kept-accepts t big after kept normal);
    }
