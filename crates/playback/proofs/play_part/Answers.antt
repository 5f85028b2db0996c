-- `play_part`: what the run of the known tasks has told, and, where a triple differs, the run of the turns before it.
use Rattle.std.proofs.Common.{ℕ, ◌*◌, ◌≤◌, length, replicate, sym, arith}
use Rattle.std.proofs.lemmas.List.{length-replicate}
use Rattle.std.proofs.Math.Seq.{length-take-le}
use Rattle.playback.proofs.Runs.{runs_of, turns_bound, all_same, some_same}
use Rattle.playback.proofs.play_part.Goals as goal

-- the log before the first run
wide : 8192 ≤ length (replicate {A = ℕ} 8192 0)
wide = omega (arith, length-replicate {A = ℕ} 8192 0)

pub overflow_mul-log : goal.overflow_mul-log
overflow_mul-log c =
    let k = c.known_tasks-known.ensures in
    let few = turns_bound c.args.begin.state c.args.trace.now _ _ _ _ c.args.begin.valid c.requires k.value k.tasks_after c.run-ran.ensures.value wide in
    omega arith

pub slice_bounds-log-end : goal.slice_bounds-log-end
slice_bounds-log-end c =
    let k = c.known_tasks-known.ensures in
    let few = turns_bound c.args.begin.state c.args.trace.now _ _ _ _ c.args.begin.valid c.requires k.value k.tasks_after c.run-ran.ensures.value wide in
    omega (arith, c.run-ran.auto.log, length-replicate {A = ℕ} 8192 0)

pub slice_bounds-same_rows-end : goal.slice_bounds-same_rows-end
slice_bounds-same_rows-end c =
    let k = c.known_tasks-known.ensures in
    let few = turns_bound c.args.begin.state c.args.trace.now _ _ _ _ c.args.begin.valid c.requires k.value k.tasks_after c.run-ran.ensures.value wide in
    sym (length-take-le _ c.run-ran.new.log (omega (arith, c.run-ran.auto.log, length-replicate {A = ℕ} 8192 0)))

pub same_rows-same-requires : goal.same_rows-same-requires
same_rows-same-requires c =
    let k = c.known_tasks-known.ensures in
    let few = turns_bound c.args.begin.state c.args.trace.now _ _ _ _ c.args.begin.valid c.requires k.value k.tasks_after c.run-ran.ensures.value wide in
    let there : 2 * c.run-ran.result.turns ≤ length c.run-ran.new.log = omega (arith, c.run-ran.auto.log, length-replicate {A = ℕ} 8192 0) in
    omega (arith, length-take-le (2 * c.run-ran.result.turns) c.run-ran.new.log there)

pub returns-then-same-made : goal.returns-then-same-made
returns-then-same-made c =
    let k = c.known_tasks-known in
    let runs = runs_of c.args.begin.state c.args.trace.now k.result _ k.ensures.value k.ensures.tasks_after c.run-ran.result _ _ c.run-ran.ensures.value c.run-ran.ensures.log_after wide in
    all_same runs c.args.begin.valid c.requires c.same_rows-same.result c.same_rows-same.ensures c.if-same-made.true

pub returns : goal.returns
returns c =
    let k = c.known_tasks-known in
    let runs = runs_of c.args.begin.state c.args.trace.now k.result _ k.ensures.value k.ensures.tasks_after c.run-ran.result _ _ c.run-ran.ensures.value c.run-ran.ensures.log_after wide in
    some_same runs c.args.begin.valid c.requires c.same_rows-same.result c.same_rows-same.ensures c.if-same-made.false
    _ k.ensures.tasks_after c.run-again.result c.run-ran.new.log c.run-again.ensures.value
    (omega (arith, c.run-ran.auto.log, length-replicate {A = ℕ} 8192 0))
