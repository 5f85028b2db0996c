-- `table` meets its contract: the heading, the rows, the passes and the least count one after the other.
use Rattle.text.specs.PageLaws.{puts_then}
use Rattle.sheet_text.specs.Print.{table_with}
use Rattle.sheet_text.proofs.print.table.Goals as goal

pub returns : goal.returns
unfolding table_with
returns c =
    rw (← c.least.ensures)
    (puts_then
    (puts_then
    (puts_then
    (puts_then (puts_then (puts_then c.word.ensures c.rows.ensures) c.word-2.ensures) c.spaced.ensures)
    c.word-3.ensures)
    c.spaced-2.ensures)
    c.byte.ensures)
