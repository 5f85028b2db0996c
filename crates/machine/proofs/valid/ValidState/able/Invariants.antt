-- The answer is the answer of the tasks from q on.
use Rattle.std.proofs.Common.{◌≡◌, ◌-◌}
use Rattle.machine.specs.Ready.{ready_from}
use Rattle.machine.proofs.valid.ValidState.able.Given as goal

abbrev pub invariant-loop-q : goal.invariant-loop-q
invariant-loop-q l = ready_from l.self.state l.self.state.n 0 ≡ ready_from l.self.state (l.self.state.n - l.q) l.q
