-- `runner::go`: the first turns are there, and so is the room for them.
use Rattle.std.proofs.Common.{◌≡◌, length, take, sym, arith}
use Rattle.std.proofs.Math.Seq.{length-take-le, get_or-take}
use Rattle.machine.specs.RangeLaws.{range}
use Rattle.machine.proofs.RoundLaws.{lent_there}
use Rattle.schedule.specs.PassesLaws.{all_known}
use Rattle.runner.proofs.Answers.{admitted, accepted_answer}
use Rattle.runner.proofs.go.Goals as goal

pub slice_bounds-parents-end : goal.slice_bounds-parents-end
slice_bounds-parents-end c = omega (arith, (range c.args.begin.state c.args.begin.valid).few)

pub slice_bounds-turns-end : goal.slice_bounds-turns-end
slice_bounds-turns-end c = sym (length-take-le _ _ (omega (arith, (range c.args.begin.state c.args.begin.valid).few)))

pub slice_bounds-counts-end : goal.slice_bounds-counts-end
slice_bounds-counts-end c =
    let s = c.args.begin.state in
    lent_there s s.n (range s c.args.begin.valid).few c.all_counts-counts.result c.all_counts-counts.ensures

pub slice_bounds-turns-end-3 : goal.slice_bounds-turns-end-3
slice_bounds-turns-end-3 c =
    let s = c.args.begin.state in
    sym (length-take-le _ _ (lent_there s s.n (range s c.args.begin.valid).few c.all_counts-counts.result c.all_counts-counts.ensures))

pub turns-requires-clause-schedule_value : goal.turns-requires-clause-schedule_value
turns-requires-clause-schedule_value c =
    let a = c.args in
    let all = (admitted a.begin.state a.schedule.now a.allowance (length a.log.now) a.begin.valid c.requires.admitted).known in
    let long : length (take c.min-count.result a.schedule.now) ≡ c.min-count.result = length-take-le _ _ (omega (arith, c.min-count.ensures)) in
    (all_known a.begin.state.n (take c.min-count.result a.schedule.now)).1
    (λ i h. rw (get_or-take c.min-count.result a.schedule.now i 0 (omega arith)) ((all_known a.begin.state.n a.schedule.now).0 all i (omega (arith, c.min-count.ensures))))

pub turns-requires-clause-schedule_len_bound : goal.turns-requires-clause-schedule_len_bound
turns-requires-clause-schedule_len_bound c =
    let a = c.args in
    let few = (admitted a.begin.state a.schedule.now a.allowance (length a.log.now) a.begin.valid c.requires.admitted).few in
    rw (length-take-le c.min-count.result a.schedule.now (omega (arith, c.min-count.ensures))) (omega (arith, c.min-count.ensures))

pub turns-requires-clause-log_len_bound : goal.turns-requires-clause-log_len_bound
turns-requires-clause-log_len_bound c =
    let a = c.args in
    let roomy = (admitted a.begin.state a.schedule.now a.allowance (length a.log.now) a.begin.valid c.requires.admitted).roomy in
    rw (length-take-le c.min-count.result a.schedule.now (omega (arith, c.min-count.ensures)), c.min-count.ensures) roomy

pub returns : goal.returns
returns c =
    let a = c.args in
    let r =
    accepted_answer a.begin.state a.schedule.now a.allowance a.log.now c.requires.admitted _ c.min-count.ensures _ c.ended-end.ensures
    _ _ c.turns.ensures.value c.turns.ensures.log_after in
    record { value = r.0; log_after = r.1 }
