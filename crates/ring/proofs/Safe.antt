-- What the invariant says of the counts (001: the barrier condition).
use Rattle.std.specs.Prelude.{◌≡◌, ℕ, ◌+◌, ◌≤◌, ◌<◌}
use Rattle.std.proofs.Common.{arith}
use Rattle.machine.specs.declared.State.{State}
use Rattle.machine.specs.Setters.{task_at}
use Rattle.barrier.specs.Barrier.{Holds}
use Rattle.ring.specs.Invariant.{Inv}
use Rattle.ring.proofs.Places.{by_place, bounds, sent_on}

module _ (s : State) (i : Holds 2 Inv s) (q r : ℕ) (hq : q < s.n) (hr : r < s.n) where
  -- no two counts differ by more than one
  pub close : (task_at s q).count ≤ (task_at s r).count + 1
  close = omega (arith, bounds (i.inv.seen q hq), bounds (i.inv.seen r hr))

  -- A task at its own work is never ahead: it waits for the token; or it has sent the acknowledgement on, and everybody the token.
  pub behind : (task_at s q).line ≡ 11 → (task_at s q).count ≤ (task_at s r).count
  behind e =
      let other = i.inv.seen r hr in
      let least = bounds other in
      by_place (i.inv.seen q hq) ((task_at s q).count ≤ (task_at s r).count)
      (omega arith, omega arith, omega arith, omega arith, λ l h. omega (arith, sent_on other (omega arith)))
