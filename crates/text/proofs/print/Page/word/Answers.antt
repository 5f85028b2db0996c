use Rattle.std.proofs.lemmas.List.{take_more}
use Rattle.text.specs.PageLaws.{puts_then}
use Rattle.text.proofs.print.Page.word.Goals as goal

pub loop-b-preserved : goal.loop-b-preserved
loop-b-preserved c = rw (take_more c.args.w.now c.loop-b.b-index 0 c.loop-b-test.true) (puts_then c.loop-b.invariant c.byte.ensures)
