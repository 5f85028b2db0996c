-- `runner::store_count`: the least count after is what the law of a count that rises says.
use Rattle.std.proofs.Common.{◌≡◌, ℕ, ◌<◌, List, length, get_or, set, sym, subst, length-set, get_or-set_same, get_or-set_other}
use Rattle.counts.specs.Counts.{least_among, least_after}
use Rattle.counts.specs.CountsLaws.{KeptOrRaised, rise_least}
use Rattle.runner.proofs.store_count.Goals as goal

-- the counts as a function of the task
abbrev at : List ℕ → ℕ → ℕ
at counts q = get_or counts q 0

-- the least count once a count is stored
stored : (l : List ℕ) (p next : ℕ) → p < length l → KeptOrRaised (at l p) next
    → least_among (at (set l p next)) (length l) ≡ least_after (least_among (at l) (length l)) (at l p) next (at (set l p next)) (length l)
stored l p next h c =
    let same : at (set l p next) p ≡ next = get_or-set_same l p next 0 h in
    subst (λ (x : ℕ). least_among (at (set l p next)) (length l) ≡ least_after (least_among (at l) (length l)) (at l p) x (at (set l p next)) (length l))
    same
    (rise_least (at l) (at (set l p next)) (length l) p h (λ q ne. get_or-set_other l p q next 0 ne) (rw same c))

pub returns-clause-value : goal.returns-clause-value
returns-clause-value c =
    let l = c.args.counts.now in
    let p = c.args.task in
    let next = c.args.next in
    rw (c.after.ensures, c.requires.least_value, length-set l p next)
    (sym (stored l p next c.requires.task_in_bounds c.requires.kept_or_raised))
