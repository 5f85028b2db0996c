-- `&` with every digit but one clears it.
use Rattle.std.proofs.Common.{sym}
use Rattle.bitset.specs.SetLaws.{bit_high, without_absent}
use Rattle.bitset.proofs.Words.{shifted, and_digit}
use Rattle.bitset.proofs.without.Goals as goal

pub returns-then-task-ge64 : goal.returns-then-task-ge64
returns-then-task-ge64 c =
    sym (without_absent c.args.list c.args.task (bit_high 64 c.args.list c.args.task c.ranges.list.fits c.if-task-ge64.true))

pub returns : goal.returns
returns c = rw (shifted c.args.task c.if-task-ge64.false) (and_digit 64 c.args.list c.args.task c.if-task-ge64.false c.ranges.list.fits)
