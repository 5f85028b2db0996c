-- `print_counted` meets its contract: the word, the number and the line feed one after the other.
use Rattle.text.specs.PageLaws.{puts_then}
use Rattle.playback_text.proofs.print_counted.Goals as goal

pub returns : goal.returns
returns c = puts_then (puts_then c.word.ensures c.spaced.ensures) c.byte.ensures
