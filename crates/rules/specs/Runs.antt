-- Hints and budget: what a rule takes of the hints, and a run of at most so many rules.
use Rattle.std.specs.Prelude.{ℕ, zero, suc, ◌+◌, Bool, true, false, not, ◌&&◌, List, [], ◌∷◌, eqb}
use Rattle.rules.specs.Rules.{no_room, conclusion, due, allowed, house, fire, State, Standing, Rule, safe, reached, unfinished, Unfold}
use Rattle.rules.specs.Rules.{Candidate, Decide, Conflict}
use Rattle.rules.specs.Table.{Table}
use Rattle.sets.specs.Sets.{Set, sound}

-- Candidate, Decide and Conflict take a hint
unfoldable pub asks : Rule → Bool
asks Unfold = false
asks Candidate = true
asks Decide = true
asks Conflict = true

-- Unfold wants one place more than there is
unfoldable pub lacks_room_for : Rule → ℕ → Bool
lacks_room_for rule n = not (asks rule) && eqb n 258

-- the set chosen, the hints left, and how many were taken and used
pub record Choice : Type 0 where
  pub set : Set
  pub left : List Set
  pub taken : ℕ
  pub used : ℕ

-- a hint that will do is used; any other is passed over
unfoldable pub offered : Bool → Set → Set → List Set → Choice
offered true hint house rest = record { set = hint; left = rest; taken = 1; used = 1 }
offered false hint house rest = record { set = house; left = rest; taken = 1; used = 0 }

-- the next hint, if the rule asks and any is left; else the house choice
unfoldable pub pick : Bool → List Set → (Set → Bool) → Set → Choice
pick false hints will house = record { set = house; left = hints; taken = 0; used = 0 }
pick true [] will house = record { set = house; left = []; taken = 0; used = 0 }
pick true (hint ∷ rest) will house = offered (will hint) hint house rest

-- what a run came to: how it stands, the rules fired, the hints taken, used and left, and the state that it leaves
pub record Ran : Type 0 where
  pub standing : Standing
  pub rules : ℕ
  pub taken : ℕ
  pub used : ℕ
  pub left : List Set
  pub state : State

-- nothing fired
unfoldable pub stop : Standing → List Set → State → Ran
stop r hints s = record { standing = r; rules = 0; taken = 0; used = 0; left = hints; state = s }

-- one rule, and then what followed
unfoldable pub after : Choice → Ran → Ran
after c o =
    record {
      standing = o.standing;
      rules = 1 + o.rules;
      taken = c.taken + o.taken;
      used = c.used + o.used;
      left = o.left;
      state = o.state;
    }

-- a run, and then one more from where it stopped, the numbers added
unfoldable pub followed_by : Ran → Ran → Ran
followed_by o p =
    record {
      standing = p.standing;
      rules = o.rules + p.rules;
      taken = o.taken + p.taken;
      used = o.used + p.used;
      left = p.left;
      state = p.state;
    }

module _ (t : Table) where
  -- no members from N up, and the rule due allows it
  unfoldable pub will_do : State → Set → Bool
  will_do s z = sound t.size z && allowed t (due t s) s z

  unfoldable pub choose : List Set → State → Choice
  choose hints s = pick (asks (due t s)) hints (will_do s) (house t (due t s) s)

  -- the rule due, fired with the set chosen
  unfoldable pub next : Choice → State → State
  next c s = fire t.size (due t s) s c.set

  -- Unfold is due and n is 258
  abbrev pub lacks_room : State → Bool
  lacks_room s = lacks_room_for (due t s) s.n

  -- at most b rules; the conclusion is tested before the budget
  unfoldable pub run : ℕ → List Set → State → Ran
  run zero hints s = stop (conclusion t s) hints s
  run (suc b) hints s =
      elim (conclusion t s) [
        | safe j ↦ stop (safe j) hints s
        | reached ↦ stop reached hints s
        | no_room ↦ stop no_room hints s
        | unfinished ↦ elim (lacks_room s) [
          | true ↦ stop no_room hints s
          | false ↦ after (choose hints s) (run b (choose hints s).left (next (choose hints s) s))
        ]
      ]
