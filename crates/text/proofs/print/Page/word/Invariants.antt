-- The bytes passed are printed.
use Rattle.std.proofs.Common.{take}
use Rattle.text.specs.Page.{Puts}
use Rattle.text.proofs.print.Page.word.Given as goal

abbrev pub invariant-loop-b : goal.invariant-loop-b
invariant-loop-b l = Puts (take l.b-index l.w) l.fn.self l.self
