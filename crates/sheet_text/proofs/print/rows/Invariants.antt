-- The rows of the tasks passed are printed.
use Rattle.text.specs.Page.{Puts}
use Rattle.sheet_text.specs.Print.{rows_by}
use Rattle.sheet_text.specs.Steps.{ran_row}
use Rattle.sheet_text.proofs.print.rows.Given as goal

abbrev pub invariant-loop-q : goal.invariant-loop-q
invariant-loop-q l = Puts (rows_by (ran_row l.ran) l.q) l.fn.page l.page
