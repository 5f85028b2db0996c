-- By what is printed of a tenth of the number.
use Rattle.std.proofs.Common.{◌≡◌, ◌%◌, arith}
use Rattle.text.specs.DecimalLaws.{decimal_digit, decimal_more}
use Rattle.text.specs.PageLaws.{puts_then}
use Rattle.text.proofs.print.Page.+number.Goals as goal
use Rattle.text.proofs.print.Page.+number.Goals.{then-x-ge10, else-x-ge10}

pub returns : goal.returns
returns t c =
    elim c.if-x-ge10.branch [
      | then-x-ge10 w ↦ rw (decimal_more c.args.x (omega (arith, c.ranges.x)) w.if-x-ge10.true) (puts_then w.number.ensures (rw w.self-is at c.byte.ensures))
      | else-x-ge10 w ↦
          let e : c.args.x % 10 ≡ c.args.x = omega (arith, w.if-x-ge10.false) in
          rw (decimal_digit c.args.x (omega (arith, w.if-x-ge10.false))) (rw (w.self-is, e) at c.byte.ensures)
    ]
