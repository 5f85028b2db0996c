-- The check, by its answers: an entry that the loop stops at is wrong, and one that it passes is right.
use Rattle.std.proofs.Common.{◌≡◌, refl, sym, ◌∙◌, arith}
use Rattle.parents.specs.Parents.{entries_ok}
use Rattle.parents.specs.ParentsLaws.{check_length, check_entry, check_all, entries_more}
use Rattle.parents.proofs.check.Goals as goal

pub returns-then-table-n : goal.returns-then-table-n
returns-then-table-n c = rw (check_length _ _ c.if-table-n.true, c.into.ensures)

pub loop-q-init : goal.loop-q-init
unfolding entries_ok
loop-q-init c = (c.if-table-n.false, refl)

pub returns-then-not-entry_ok : goal.returns-then-not-entry_ok
returns-then-not-entry_ok c = rw (
  check_entry _ _ c.loop-q.q c.loop-q.invariant.0 (omega (arith, c.loop-q.invariant.0)) (sym c.entry_ok.ensures ∙ c.if-not-entry_ok.true),
  c.into-then-not-entry_ok.ensures,
)

pub loop-q-preserved : goal.loop-q-preserved
loop-q-preserved c = (c.loop-q.invariant.0, entries_more _ _ c.loop-q.invariant.1 (sym c.entry_ok.ensures ∙ c.if-not-entry_ok.false))

pub returns : goal.returns
returns c =
    let e : c.loop-q.q ≡ c.args.n = omega (arith, c.loop-q.invariant.0, c.loop-q.auto.q-end) in
    rw (check_all _ _ c.loop-q.invariant.0 (rw e at c.loop-q.invariant.1))
