-- `rows` meets its contract: the rows of the tasks passed are printed.
use Rattle.text.specs.PageLaws.{puts_then, puts_none}
use Rattle.sheet_text.specs.Print.{rows_by}
use Rattle.sheet_text.specs.PrintLaws.{rows_more}
use Rattle.sheet_text.specs.Steps.{ran_row}
use Rattle.sheet_text.proofs.print.rows.Goals as goal

pub loop-q-init : goal.loop-q-init
unfolding rows_by
loop-q-init c = puts_none _

pub loop-q-preserved : goal.loop-q-preserved
loop-q-preserved c = rw (rows_more (ran_row c.args.ran) c.loop-q.q) (puts_then c.loop-q.invariant c.row.ensures)
