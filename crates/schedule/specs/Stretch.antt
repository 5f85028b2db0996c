-- Lists of turns, cut into stretches. A turn is the number of the task that it names.
use Rattle.std.specs.Prelude.{◌≡◌, Bool, true, false, ◌&&◌, ◌||◌, ℕ, zero, suc, eqb, length}
use mathlib.Core.List.{List, [], ◌∷◌, flatten}

-- whether task p stands in the turns
abbrev pub stands : ℕ → List ℕ → Bool
stands p [] = false
stands p (t ∷ ts) = eqb p t || stands p ts

-- 01: a stretch "names every task if each of 0 to N − 1 stands in it"
unfoldable pub names_all : ℕ → List ℕ → Bool
names_all zero ts = true
names_all (suc p) ts = stands p ts && names_all p ts

-- each of these stretches names every task
abbrev pub EachNamesAll : ℕ → List (List ℕ) → Type 0
EachNamesAll n [] = Unit {0}
EachNamesAll n (s ∷ ss) = (names_all n s ≡ true) × EachNamesAll n ss

-- 01: turns "cut into" k stretches that each name every task; "these laid end to end are all the counted turns"
pub record CutInto (n k : ℕ) (ts : List ℕ) : Type 0 where
  pub stretches : List (List ℕ)
  pub number : length stretches ≡ k
  pub named : EachNamesAll n stretches
  pub whole : flatten stretches ≡ ts
