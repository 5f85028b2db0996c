-- A return for each answer, and what `count` tells of the schedule where it has counted.
use Rattle.std.proofs.Common.{◌≡◌, ◌∙◌, arith, rules}
use Rattle.std.specs.Prelude.{Err}
use Rattle.schedule.proofs.Answering.{told-count, refused, refused-3, refused-8, refused-9, refused-10, accepted, filled, count_below, count_above, count_within}
use Rattle.schedule.proofs.passes.Goals as goal

pub returns-then-n-lt1-clause-value : goal.returns-then-n-lt1-clause-value
returns-then-n-lt1-clause-value c =
    rw c.into.ensures (refused-3 c.args.n c.args.schedule.now c.args.pairs.now (count_below c.args.n c.if-n-lt1.true))

pub returns-then-n-lt1-clause-pairs_after : goal.returns-then-n-lt1-clause-pairs_after
returns-then-n-lt1-clause-pairs_after c =
    refused c.args.n c.args.schedule.now c.args.pairs.now _
    (refused-3 c.args.n c.args.schedule.now c.args.pairs.now (count_below c.args.n c.if-n-lt1.true))

pub returns-then-n-gt64-clause-value : goal.returns-then-n-gt64-clause-value
returns-then-n-gt64-clause-value c =
    rw c.into-then-n-gt64.ensures (refused-3 c.args.n c.args.schedule.now c.args.pairs.now (count_above c.args.n c.if-n-lt1.false c.if-n-gt64.true))

pub returns-then-n-gt64-clause-pairs_after : goal.returns-then-n-gt64-clause-pairs_after
returns-then-n-gt64-clause-pairs_after c =
    refused c.args.n c.args.schedule.now c.args.pairs.now _
    (refused-3 c.args.n c.args.schedule.now c.args.pairs.now (count_above c.args.n c.if-n-lt1.false c.if-n-gt64.true))

pub returns-then-schedule-gt65536-clause-value : goal.returns-then-schedule-gt65536-clause-value
returns-then-schedule-gt65536-clause-value c =
    rw c.into-then-schedule-gt65536.ensures
    (refused-8 c.args.n c.args.schedule.now c.args.pairs.now (count_within c.args.n c.if-n-lt1.false c.if-n-gt64.false) c.if-schedule-gt65536.true)

pub returns-then-schedule-gt65536-clause-pairs_after : goal.returns-then-schedule-gt65536-clause-pairs_after
returns-then-schedule-gt65536-clause-pairs_after c =
    refused c.args.n c.args.schedule.now c.args.pairs.now _
    (refused-8 c.args.n c.args.schedule.now c.args.pairs.now (count_within c.args.n c.if-n-lt1.false c.if-n-gt64.false) c.if-schedule-gt65536.true)

pub returns-in_err-k-clause-value : goal.returns-in_err-k-clause-value
returns-in_err-k-clause-value c =
    let same : c.from_residual.result ≡ Err c.in_err-k.field-0.0 = search rules in
    rw same
    (refused-9 c.args.n c.args.schedule.now c.args.pairs.now (count_within c.args.n c.if-n-lt1.false c.if-n-gt64.false) c.if-schedule-gt65536.false
    c.in_err-k.field-0.0 c.in_err-k.ensures)

pub returns-in_err-k-clause-pairs_after : goal.returns-in_err-k-clause-pairs_after
returns-in_err-k-clause-pairs_after c =
    refused c.args.n c.args.schedule.now c.args.pairs.now _
    (refused-9 c.args.n c.args.schedule.now c.args.pairs.now (count_within c.args.n c.if-n-lt1.false c.if-n-gt64.false) c.if-schedule-gt65536.false
    c.in_err-k.field-0.0 c.in_err-k.ensures)

pub returns-then-pairs-k-clause-value : goal.returns-then-pairs-k-clause-value
returns-then-pairs-k-clause-value c =
    rw c.into-then-pairs-k.ensures
    (refused-10 c.args.n c.args.schedule.now c.args.pairs.now (count_within c.args.n c.if-n-lt1.false c.if-n-gt64.false) c.if-schedule-gt65536.false
    c.in_ok-k.k c.in_ok-k.ensures c.if-pairs-k.true)

pub returns-then-pairs-k-clause-pairs_after : goal.returns-then-pairs-k-clause-pairs_after
returns-then-pairs-k-clause-pairs_after c =
    refused c.args.n c.args.schedule.now c.args.pairs.now _
    (refused-10 c.args.n c.args.schedule.now c.args.pairs.now (count_within c.args.n c.if-n-lt1.false c.if-n-gt64.false) c.if-schedule-gt65536.false
    c.in_ok-k.k c.in_ok-k.ensures c.if-pairs-k.true)

pub write-requires-clause-schedule_value : goal.write-requires-clause-schedule_value
write-requires-clause-schedule_value c =
    (told-count c.args.n c.args.schedule.now c.in_ok-k.k c.in_ok-k.ensures).0

pub write-requires-clause-schedule_in_bounds : goal.write-requires-clause-schedule_in_bounds
write-requires-clause-schedule_in_bounds c =
    omega (arith, (told-count c.args.n c.args.schedule.now c.in_ok-k.k c.in_ok-k.ensures).1, c.if-pairs-k.false)

pub returns-clause-value : goal.returns-clause-value
returns-clause-value c =
    accepted c.args.n c.args.schedule.now c.args.pairs.now (count_within c.args.n c.if-n-lt1.false c.if-n-gt64.false) c.if-schedule-gt65536.false
    c.in_ok-k.k c.in_ok-k.ensures c.if-pairs-k.false

pub returns-clause-pairs_after : goal.returns-clause-pairs_after
returns-clause-pairs_after c =
    c.write.ensures
    ∙ filled c.args.n c.args.schedule.now c.args.pairs.now c.in_ok-k.k
    (accepted c.args.n c.args.schedule.now c.args.pairs.now (count_within c.args.n c.if-n-lt1.false c.if-n-gt64.false) c.if-schedule-gt65536.false
    c.in_ok-k.k c.in_ok-k.ensures c.if-pairs-k.false)
