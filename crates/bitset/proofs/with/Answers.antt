-- `|` with one digit sets it.
use Rattle.std.proofs.Common.{lt-ltb}
use Rattle.bitset.proofs.Words.{shifted, or_digit}
use Rattle.bitset.proofs.with.Goals as goal

pub returns : goal.returns
returns c = rw (shifted c.args.task c.if-task-ge64.false, lt-ltb c.args.task 64 c.if-task-ge64.false) (or_digit c.args.list c.args.task)
