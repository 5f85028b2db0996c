-- `runner::turns`: each goal is a law of the loop, at what the loop holds.
use Rattle.std.proofs.Common.{◌≡◌, refl, ◌∙◌, length, get_or, sym, ap, arith}
use Rattle.std.proofs.Math.Seq.{take-length}
use Rattle.machine.specs.Answers.{Outcome}
use Rattle.runner.specs.Run.{ending_by}
use Rattle.machine.proofs.TurnLaws.{stored, stored_is, stored_own}
use Rattle.runner.proofs.Going as at
use Rattle.runner.proofs.turns.Goals as goal
use Rattle.runner.proofs.turns.Goals.{then-writes, else-writes}

pub loop-i-init : goal.loop-i-init
loop-i-init c = at.going_none _ _ _ _ _ c.args.begin.valid c.requires.counts_value c.least_of-least.ensures

pub bounds-state-task : goal.bounds-state-task
bounds-state-task c = at.own_there (at.next_of c.loop-i.invariant c.requires.schedule_value (omega arith))

pub bounds-state-looked : goal.bounds-state-looked
bounds-state-looked c = at.seen_there (at.next_of c.loop-i.invariant c.requires.schedule_value (omega arith))

pub bounds-state-task-in-loop-i : goal.bounds-state-task-in-loop-i
bounds-state-task-in-loop-i c = at.own_there (at.next_of c.loop-i.invariant c.requires.schedule_value (omega arith))

pub bounds-state-task-in-loop-i-2 : goal.bounds-state-task-in-loop-i-2
bounds-state-task-in-loop-i-2 c = at.own_there (at.next_of c.loop-i.invariant c.requires.schedule_value (omega arith))

pub overflow_sub-least : goal.overflow_sub-least
overflow_sub-least c =
    at.least_up c.loop-i.invariant c.least_of-least.result.count
    (at.first_least c.args.begin.state c.args.counts.now c.least_of-least.result c.args.begin.valid c.requires.counts_value c.least_of-least.ensures)

pub report-requires : goal.report-requires
report-requires c = at.no_less c.loop-i.invariant

pub returns-in_default : goal.returns-in_default
returns-in_default c =
    let next = at.next_of c.loop-i.invariant c.requires.schedule_value (omega arith) in
    let does = at.effect_is c.loop-i.invariant c.args.table.now c.requires.table_value _ c.effect_of-effect.result c.effect_of-effect.ensures in
    let stop =
    at.stopped next c.effect_of-effect.result does c.args.end c.in_default.field-0 c.in_default.field-0 (length c.args.schedule.now) c.least_of-least.result.count
    (sym (c.of-outcome.ensures ∙ at.answer_is next c.effect_of-effect.result does c.closes-closed.result c.closes-closed.ensures) ∙ c.in_default.is)
    refl (omega arith)
    (at.first_least c.args.begin.state c.args.counts.now c.least_of-least.result c.args.begin.valid c.requires.counts_value c.least_of-least.ensures) in
    let ended = c.stopped_by-ended.ensures ∙ ap (λ (o : Outcome). ending_by o c.args.end) c.in_default.is in
    let value = rw ended at c.report.ensures ∙ stop.0 in
    record { value = rw (take-length c.args.schedule.now) at value; log_after = rw (take-length c.args.schedule.now) at stop.1 }

pub store_count-least-requires-clause-task_in_bounds : goal.store_count-least-requires-clause-task_in_bounds
store_count-least-requires-clause-task_in_bounds c = at.count_there (at.next_of c.loop-i.invariant c.requires.schedule_value (omega arith))

pub store_count-least-requires-clause-least_value : goal.store_count-least-requires-clause-least_value
store_count-least-requires-clause-least_value c = at.least_there (at.next_of c.loop-i.invariant c.requires.schedule_value (omega arith))

pub store_count-least-requires-clause-kept_or_raised : goal.store_count-least-requires-clause-kept_or_raised
store_count-least-requires-clause-kept_or_raised c =
    at.count_rises (at.next_of c.loop-i.invariant c.requires.schedule_value (omega arith)) c.effect_of-effect.result
    (at.effect_is c.loop-i.invariant c.args.table.now c.requires.table_value _ c.effect_of-effect.result c.effect_of-effect.ensures)

pub bounds-state-task-in-loop-i-3 : goal.bounds-state-task-in-loop-i-3
bounds-state-task-in-loop-i-3 c = at.own_there (at.next_of c.loop-i.invariant c.requires.schedule_value (omega arith))

pub bounds-state-task-in-loop-i-4 : goal.bounds-state-task-in-loop-i-4
bounds-state-task-in-loop-i-4 c = at.own_there (at.next_of c.loop-i.invariant c.requires.schedule_value (omega arith))

pub bounds-state-task-in-loop-i-5 : goal.bounds-state-task-in-loop-i-5
bounds-state-task-in-loop-i-5 c = at.own_there (at.next_of c.loop-i.invariant c.requires.schedule_value (omega arith))

pub bounds-state-place : goal.bounds-state-place
bounds-state-place c =
    rw c.place-place.ensures
    (at.place_there (at.next_of c.loop-i.invariant c.requires.schedule_value (omega arith)) c.effect_of-effect.result
    (at.effect_is c.loop-i.invariant c.args.table.now c.requires.table_value _ c.effect_of-effect.result c.effect_of-effect.ensures))

pub offset_bounds-state-place : goal.offset_bounds-state-place
offset_bounds-state-place c =
    let place =
    at.place_there (at.next_of c.loop-i.invariant c.requires.schedule_value (omega arith)) c.effect_of-effect.result
    (at.effect_is c.loop-i.invariant c.args.table.now c.requires.table_value _ c.effect_of-effect.result c.effect_of-effect.ensures) in
    omega (arith, c.place-place.ensures, place)

pub bounds-state-place-then-writes : goal.bounds-state-place-then-writes
bounds-state-place-then-writes c =
    rw c.place-place.ensures
    (at.place_there (at.next_of c.loop-i.invariant c.requires.schedule_value (omega arith)) c.effect_of-effect.result
    (at.effect_is c.loop-i.invariant c.args.table.now c.requires.table_value _ c.effect_of-effect.result c.effect_of-effect.ensures))

pub offset_bounds-state-place-then-writes : goal.offset_bounds-state-place-then-writes
offset_bounds-state-place-then-writes c =
    let place =
    at.place_there (at.next_of c.loop-i.invariant c.requires.schedule_value (omega arith)) c.effect_of-effect.result
    (at.effect_is c.loop-i.invariant c.args.table.now c.requires.table_value _ c.effect_of-effect.result c.effect_of-effect.ensures) in
    omega (arith, c.place-place.ensures, place)

pub loop-i-preserved : goal.loop-i-preserved
loop-i-preserved c =
    let next = at.next_of c.loop-i.invariant c.requires.schedule_value (omega arith) in
    let e = c.effect_of-effect.result in
    let does = at.effect_is c.loop-i.invariant c.args.table.now c.requires.table_value _ e c.effect_of-effect.ensures in
    let p = get_or c.args.schedule.now c.loop-i.i 0 in
    let stores : c.if-writes.state ≡ stored c.loop-i.state p e c.in-Ok.how =
    elim c.if-writes.branch [
      | then-writes w ↦
          w.state-is
          ∙ stored_is c.loop-i.state p e c.in-Ok.how _ _ _ _ _ c.number-moved.ensures w.arrivals.ensures w.sense.ensures w.place-place.ensures w.task.ensures
      | else-writes w ↦ w.state-is ∙ stored_own c.loop-i.state p e c.in-Ok.how _ c.number-moved.ensures (sym c.writes.ensures ∙ w.if-writes.false)
    ] in
    at.goes_on_lem next e does c.in-Ok.how
    (sym (c.of-outcome.ensures ∙ at.answer_is next e does c.closes-closed.result c.closes-closed.ensures) ∙ c.in-Ok.is)
    c.number-moved.result _ _ _ _ c.number-moved.ensures (omega arith)
    stores c.store_count-least.ensures.counts_after c.store_count-least.ensures.value c.write_row.ensures

pub overflow_sub-least-2 : goal.overflow_sub-least-2
overflow_sub-least-2 c =
    at.least_up c.loop-i.invariant c.least_of-least.result.count
    (at.first_least c.args.begin.state c.args.counts.now c.least_of-least.result c.args.begin.valid c.requires.counts_value c.least_of-least.ensures)

pub report-requires-2 : goal.report-requires-2
report-requires-2 c = at.no_less c.loop-i.invariant

pub returns : goal.returns
returns c =
    let done =
    at.finished c.loop-i.invariant c.args.end c.least_of-least.result.count (length c.args.schedule.now)
    (at.first_least c.args.begin.state c.args.counts.now c.least_of-least.result c.args.begin.valid c.requires.counts_value c.least_of-least.ensures)
    (omega arith) in
    record { value = rw (take-length c.args.schedule.now) at (c.report-2.ensures ∙ done.0); log_after = rw (take-length c.args.schedule.now) at done.1 }
