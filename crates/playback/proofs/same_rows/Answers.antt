-- `same_rows`: at a line or an outcome that differs, and at the log's end.
use Rattle.std.proofs.Common.{rules, ◌∙◌, inl, inr}
use Rattle.playback.proofs.Comparing.{more, line_differs, outcome_differs, over, ended}
use Rattle.playback.proofs.same_rows.Goals as goal
use Rattle.playback.proofs.same_rows.Goals.{then-triple-row-via-then-triple-row, then-triple-row-via-else-triple-row+then-triple-row-2}

pub returns-then-triple-row : goal.returns-then-triple-row
returns-then-triple-row c =
    let w = c.loop-i.invariant in
    let steps = c.in-Some.ensures.steps in
    rw steps.1
    (elim c.then-triple-row.branch [
      | then-triple-row-via-then-triple-row b ↦
          line_differs w.4 c.in-Some.triple.now _ c.in-Some.row.now _ steps.0.0.1.0 (steps.0.0.1.1 ∙ w.2) steps.0.1.1.0 (steps.0.1.1.1 ∙ w.3)
          b.if-triple-row.true
      | then-triple-row-via-else-triple-row+then-triple-row-2 b ↦
          outcome_differs w.4 c.in-Some.triple.now _ c.in-Some.row.now _ steps.0.0.1.0 (steps.0.0.1.1 ∙ w.2) steps.0.1.1.0 (steps.0.1.1.1 ∙ w.3)
          b.if-triple-row-2.true
    ])

pub loop-i-preserved : goal.loop-i-preserved
loop-i-preserved c =
    let w = c.loop-i.invariant in
    let steps = c.in-Some.ensures.steps in
    let next =
    more w.4 c.in-Some.triple.now _ c.in-Some.row.now _ steps.0.0.1.0 (steps.0.0.1.1 ∙ w.2) steps.0.1.1.0 (steps.0.1.1.1 ∙ w.3)
    c.if-triple-row.false c.if-triple-row-2.false in
    (search rules, tt, steps.0.0.0 ∙ w.2, steps.0.1.0 ∙ w.3, rw steps.2 next)

pub returns : goal.returns
returns c =
    let w = c.loop-i.invariant in
    elim c.in-None.ensures.steps.0 [
      | inl none ↦ ended w.4 c.requires (rw w.2 at none.1.1.0)
      | inr none ↦ over w.4 (rw w.3 at none.1.1.0)
    ]
