-- Past the word there is no digit, and within it a shift gives the digit.
use Rattle.std.proofs.Common.{ap, ℕ}
use Rattle.std.specs.Prelude.{eqb}
use Rattle.bitset.specs.SetLaws.{bit_high}
use Rattle.bitset.proofs.Words.{bit_shift}
use Rattle.bitset.proofs.member.Goals as goal

pub returns-then-task-ge64 : goal.returns-then-task-ge64
returns-then-task-ge64 c = rw (bit_high 64 c.args.list c.args.task c.ranges.list.fits c.if-task-ge64.true)

pub returns : goal.returns
returns c = ap (λ (x : ℕ). eqb x 1) (bit_shift c.args.list c.args.task)
