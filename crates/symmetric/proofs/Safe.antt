-- What demand 3 says of the counts.
use Rattle.std.specs.Prelude.{◌≡◌, ℕ, ◌+◌, ◌≤◌, ◌<◌}
use Rattle.std.proofs.Common.{arith}
use Rattle.machine.specs.declared.State.{State}
use Rattle.machine.specs.Setters.{task_at}
use Rattle.barrier.specs.Barrier.{Holds}
use Rattle.symmetric.specs.Invariant.{Inv}

-- Iq5: no two counts differ by more than one
pub close : (s : State) → Holds 0 Inv s → (q r : ℕ) → q < s.n → r < s.n → (task_at s q).count ≤ (task_at s r).count + 1
close s i q r hq hr = (i.inv.beside q r hq hr).near

-- Iq1: a task at its own work is never ahead
pub behind : (s : State) → Holds 0 Inv s → (q r : ℕ) → q < s.n → r < s.n → (task_at s q).line ≡ 11 → (task_at s q).count ≤ (task_at s r).count
behind s i q r hq hr l = (i.inv.beside q r hq hr).work (omega arith)
