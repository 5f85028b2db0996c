-- `keep` meets its contract: a refused run leaves the list.
use Rattle.std.proofs.Common.{◌≡◌, sym, ◌∙◌, true, false}
use Rattle.rows.specs.Rows.{is_refused}
use Rattle.tungwaff.specs.Entry.{kept_after}
use Rattle.tungwaff.proofs.keep.Goals as goal

pub returns-then-refused : goal.returns-then-refused
unfolding kept_after
returns-then-refused c =
    let refused : is_refused c.args.ran.now.ending ≡ true = sym c.refused.ensures ∙ c.if-refused.true in
    rw refused

pub returns : goal.returns
unfolding kept_after
returns c =
    let made : is_refused c.args.ran.now.ending ≡ false = sym c.refused.ensures ∙ c.if-refused.false in
    rw made c.save.ensures.list_after
