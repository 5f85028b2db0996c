-- The words of ready's promise: 02, P3: it "holds where no move tally is at its limit", of tasks 0 to N − 1.
use Rattle.std.specs.Prelude.{◌≢◌, ℕ, ◌<◌}
use Rattle.machine.specs.declared.State.{State}
use Rattle.machine.specs.Setters.{moves_at}

-- no move tally is at its limit
abbrev pub Roomy : State → Type 0
Roomy s = (q : ℕ) → q < s.n → moves_at s q ≢ 4000000000
