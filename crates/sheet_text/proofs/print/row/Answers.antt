-- `row` meets its contract: the columns one after the other.
use Rattle.text.specs.PageLaws.{puts_then}
use Rattle.sheet_text.specs.Print.{row_with}
use Rattle.sheet_text.proofs.print.row.Goals as goal

pub returns : goal.returns
unfolding row_with
returns c =
    puts_then
    (puts_then (puts_then (puts_then (puts_then c.number.ensures c.spaced.ensures) c.spaced-2.ensures) c.spaced-3.ensures) c.spaced-4.ensures)
    c.byte.ensures
