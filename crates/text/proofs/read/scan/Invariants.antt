-- The numbers stored so far, and in front of those that the rest of the text holds, are the text's.
use Rattle.text.proofs.Scanning.{Scanning}
use Rattle.text.proofs.read.scan.Given as goal

abbrev pub invariant-loop-b : goal.invariant-loop-b
invariant-loop-b l = Scanning l.text l.fn.buffer l.buffer l.count l.digits l.value l.b-index
