-- Safety of the tree barrier (BC): the counts are those of two rounds at most, and a task at its own work is in the lower one.
use Rattle.std.specs.Prelude.{◌≡◌, ℕ, ◌+◌, ◌≤◌, ◌<◌}
use Rattle.std.proofs.Common.{arith}
use Rattle.machine.specs.declared.State.{State}
use Rattle.machine.specs.Setters.{task_at}
use Rattle.barrier.specs.Barrier.{Holds}
use Rattle.tree.specs.Invariant.{Inv}
use Rattle.tree.proofs.Stands.{is_mid, near}

pub close : (s : State) → Holds 3 Inv s → (q r : ℕ) → q < s.n → r < s.n → (task_at s q).count ≤ (task_at s r).count + 1
close s i q r hq hr = let g = i.inv.standing in omega (arith, near g q hq, near g r hr)

pub behind : (s : State) → Holds 3 Inv s → (q r : ℕ) → q < s.n → r < s.n → (task_at s q).line ≡ 11 → (task_at s q).count ≤ (task_at s r).count
behind s i q r hq hr e = let g = i.inv.standing in omega (arith, is_mid g q hq (omega arith), near g r hr)
