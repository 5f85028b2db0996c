-- A task that the loop passes is put on the list exactly if it is a child.
use Rattle.std.proofs.Common.{◌≡◌, ◌<◌, refl, sym, ap, ◌∙◌, ℕ, length, arith}
use Rattle.std.proofs.Math.Decide.{dec_lt}
use Rattle.bitset.specs.Set.{with_of}
use Rattle.parents.specs.Parents.{children_below, children_of}
use Rattle.parents.specs.ParentsLaws.{children_none, children_more, children_same}
use Rattle.parents.proofs.children.Goals as goal
use Rattle.parents.proofs.children.Goals.{then-table-r, else-table-r}

pub loop-r-init : goal.loop-r-init
loop-r-init c = (omega arith, λ _. refl, sym (children_none _ _ 1 (omega arith)))

pub loop-r-preserved : goal.loop-r-preserved
loop-r-preserved c =
    elim c.if-table-r.branch [
      | then-table-r w ↦ (
        omega arith,
        λ h. omega arith,
        w.list-is ∙ w.with-list.ensures ∙ ap (λ (l : ℕ). with_of l c.loop-r.r) c.loop-r.invariant.2
            ∙ children_more _ _ _ c.loop-r.invariant.0 w.if-table-r.true,
      )
      | else-table-r w ↦
          (omega arith, λ h. omega arith, w.list-is ∙ c.loop-r.invariant.2 ∙ children_same _ _ _ c.loop-r.invariant.0 w.if-table-r.false)
    ]

pub returns : goal.returns
returns c = go (dec_lt 1 (length c.args.table.now))
  where
    go : Dec (1 < length c.args.table.now) → c.loop-r.list ≡ children_of c.args.table.now c.args.task
    go (yes some) =
        let all : c.loop-r.r ≡ length c.args.table.now = omega (arith, c.loop-r.auto.r-end (omega arith)) in
        c.loop-r.invariant.2 ∙ ap (children_below c.args.table.now c.args.task) all
    go (no few) =
        c.loop-r.invariant.2 ∙ ap (children_below c.args.table.now c.args.task) (c.loop-r.invariant.1 (omega arith))
        ∙ children_none _ _ 1 (omega arith) ∙ sym (children_none _ _ _ (omega arith))
