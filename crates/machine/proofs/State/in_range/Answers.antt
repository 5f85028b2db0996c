-- The tests are those of the definition, in its order, and the arrays give the tallies' lengths.
use Rattle.std.proofs.Common.{length, eq-eqb, arith}
use Rattle.std.proofs.Math.Bool.{and-true}
use Rattle.machine.specs.Range.{state_ok}
use Rattle.machine.proofs.State.in_range.Goals as goal

pub returns : goal.returns
unfolding state_ok
returns c =
    let s = c.args.self.now in
    rw (
      c.shared_ok.ensures,
      c.shared.ensures,
      c.parents_ok.ensures,
      c.tasks_ok.ensures,
      eq-eqb (length s.moves) 64 (omega arith),
      eq-eqb (length s.waits) 64 (omega arith),
      and-true,
    )
