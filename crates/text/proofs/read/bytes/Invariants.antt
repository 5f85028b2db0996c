-- The buffer holds the bytes of the numbers passed, and after them what it held.
use Rattle.text.specs.Numbers.{byte_or}
use Rattle.text.specs.CopyLaws.{Copying}
use Rattle.text.proofs.read.bytes.Given as goal

abbrev pub invariant-loop-i : goal.invariant-loop-i
invariant-loop-i l = Copying (byte_or l.wide) l.numbers l.fn.buffer l.count l.buffer l.i
