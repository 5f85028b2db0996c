-- `admitted`: the reasons one after the other, and then the fresh state.
use Rattle.std.proofs.Common.{sym, ◌∙◌}
use Rattle.std.proofs.lemmas.Result.{err_from_is_err_and}
use Rattle.machine.specs.Fresh.{inputs_of}
use Rattle.playback.proofs.Admitting.{refused_first, state_is, in_range, reason_is}
use Rattle.playback.proofs.admitted.Goals as goal

pub returns-in_err-fresh-clause-told : goal.returns-in_err-fresh-clause-told
returns-in_err-fresh-clause-told c =
    let a = c.args in
    let p = err_from_is_err_and c.from_residual.result c.from_residual.ensures.1 in
    rw (p.1, p.2)
    (sym (refused_first (inputs_of a.setup a.tables.parents.now a.tables.starts.now a.tables.works.now) a.trace.now c.fresh-fresh.result c.fresh-fresh.ensures _ c.in_err-fresh.was))

pub returns-in_err-trace_reason-clause-told : goal.returns-in_err-trace_reason-clause-told
returns-in_err-trace_reason-clause-told c =
    let a = c.args in
    let p = err_from_is_err_and c.from_residual-in_err-trace_reason.result c.from_residual-in_err-trace_reason.ensures.1 in
    rw (p.1, p.2, reason_is (inputs_of a.setup a.tables.parents.now a.tables.starts.now a.tables.works.now) a.trace.now c.fresh-fresh.result c.fresh-fresh.ensures c.in_ok-fresh.was)
    (sym c.in_err-trace_reason.was ∙ c.trace_reason.ensures)

pub invariant_of-result : goal.invariant_of-result
invariant_of-result c =
    let a = c.args in
    record { valid = in_range (inputs_of a.setup a.tables.parents.now a.tables.starts.now a.tables.works.now) a.trace.now c.fresh-fresh.result c.fresh-fresh.ensures c.in_ok-fresh.was }

pub returns : goal.returns
returns c =
    let a = c.args in
    let i = inputs_of a.setup a.tables.parents.now a.tables.starts.now a.tables.works.now in
    record {
      told = rw (reason_is i a.trace.now c.fresh-fresh.result c.fresh-fresh.ensures c.in_ok-fresh.was) (sym c.in_ok-trace_reason.was ∙ c.trace_reason.ensures);
      value = state_is i a.trace.now c.fresh-fresh.result c.fresh-fresh.ensures c.in_ok-fresh.was;
    }
