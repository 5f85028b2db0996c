-- One count more makes of the least count what the next task does.
use Rattle.std.proofs.Common.{◌≡◌, sym, ap, ◌∙◌, List, ℕ, ◌-◌, get_or, arith, rules}
use Rattle.counts.specs.declared.Least.{Least}
use Rattle.counts.specs.Counts.{lowest, joined_of}
use Rattle.counts.specs.CountsLaws.{lowest_first, standing_none, standing_few, least_more}
use Rattle.counts.proofs.least_of.Goals as goal

-- the counts as a function of the task
abbrev at : List ℕ → ℕ → ℕ
at counts q = get_or counts q 0

pub loop-count-init : goal.loop-count-init
loop-count-init c =
    let f = at c.args.counts.now in
    let first : c.unwrap_or-first.result ≡ f 0 = search rules in
    rw (standing_none f (lowest f 0), lowest_first f, first)

pub joined-least-requires : goal.joined-least-requires
joined-least-requires c =
    let f = at c.args.counts.now in
    omega (arith, ap (λ (x : Least). x.tasks) c.loop-count.invariant, standing_few f c.loop-count.count-index (lowest f (c.loop-count.count-index - 1)), c.loop-count-test.true)

pub loop-count-preserved : goal.loop-count-preserved
loop-count-preserved c =
    let f = at c.args.counts.now in
    c.joined-least.ensures ∙ ap (λ (x : Least). joined_of x (f c.loop-count.count-index)) c.loop-count.invariant ∙ sym (least_more f c.loop-count.count-index)
