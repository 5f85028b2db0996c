-- `sheet` meets its contract: what is printed on a blank page, which every sheet fits.
use Rattle.std.proofs.Common.{rules}
use Rattle.text.specs.PageLaws.{puts_blank}
use Rattle.sheet_text.specs.SheetLaws.{fits}
use Rattle.sheet_text.proofs.sheet.Goals as goal

pub returns : goal.returns
returns c = rw c.place-len.ensures (puts_blank 2048 c.new-page.ensures.value.0 c.new-page.ensures.value.1 c.print_text.ensures (fits c.args.text.now) (search rules))
