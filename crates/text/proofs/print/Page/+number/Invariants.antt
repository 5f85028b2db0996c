use Rattle.text.proofs.print.Page.+number.Given as goal

-- what is printed first is a tenth of it
abbrev pub decreases-number : goal.decreases-number
decreases-number l = l.x
