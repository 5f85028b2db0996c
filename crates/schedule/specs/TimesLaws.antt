-- Laws of how often a list of turns names a task.
use Rattle.std.specs.Prelude.{◌≡◌, ℕ, ◌+◌, eqb}
use Rattle.std.proofs.Math.Path.{refl}
use mathlib.Core.List.{List, [], ◌∷◌, ◌++◌}
use native.Mathlib.Omega.{arith}
use Rattle.bitset.specs.Choice.{pick}
use Rattle.schedule.specs.Times.{times}

module _ (q : ℕ) where
  pub times_none : times q [] ≡ 0
  unfolding times
  times_none = refl

  pub times_turn : (p : ℕ) (ps : List ℕ) → times q (p ∷ ps) ≡ pick (eqb p q) 1 0 + times q ps
  unfolding times
  times_turn p ps = refl

  pub times_append : (ps rs : List ℕ) → times q (ps ++ rs) ≡ times q ps + times q rs
  unfolding times
  times_append [] rs = omega arith
  times_append (p ∷ ps) rs = omega (arith, times_append ps rs)
