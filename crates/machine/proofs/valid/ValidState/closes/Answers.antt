-- Where the count stays no round is closed, and else the counts' least tells.
use Rattle.std.proofs.Common.{◌≡◌, sym, ap, ◌∙◌, arith}
use Rattle.std.proofs.lemmas.List.{length-take-le}
use Rattle.counts.specs.declared.Least.{Least}
use Rattle.counts.specs.Counts.{least_among, closes_of}
use Rattle.machine.specs.Least.{count_of}
use Rattle.machine.specs.RangeLaws.{range}
use Rattle.machine.proofs.RoundLaws.{lent_there, lent_least}
use Rattle.machine.proofs.valid.ValidState.closes.Goals as goal

pub bounds-state-task : goal.bounds-state-task
bounds-state-task c = omega (arith, (range c.args.self.now.state c.args.self.now.valid).few)

-- the counts lent are there
pub slice_bounds-all-end : goal.slice_bounds-all-end
slice_bounds-all-end c =
    let s = c.args.self.now.state in
    lent_there s s.n (range s c.args.self.now.valid).few c.all_counts-all.result c.all_counts-all.ensures

pub slice_bounds-least_of-end : goal.slice_bounds-least_of-end
slice_bounds-least_of-end c =
    let s = c.args.self.now.state in
    sym (length-take-le _ _ (lent_there s s.n (range s c.args.self.now.valid).few c.all_counts-all.result c.all_counts-all.ensures))

pub returns : goal.returns
returns c =
    let s = c.args.self.now.state in
    let r = range s c.args.self.now.valid in
    let least : c.least_of-least.result ≡ least_among (count_of s) s.n
    = c.least_of-least.ensures ∙ lent_least s s.n r.few c.all_counts-all.result c.all_counts-all.ensures r.some in
    c.closes.ensures ∙ ap (λ (x : Least). closes_of x (count_of s c.args.task) c.args.next) least

pub offset_bounds-state-task : goal.offset_bounds-state-task
offset_bounds-state-task c = omega (arith, (range c.args.self.now.state c.args.self.now.valid).few)
