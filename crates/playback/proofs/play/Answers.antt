-- `play`: a trace that is played, and a play-back that is refused.
use Rattle.std.proofs.Common.{sym, ap, ◌∙◌}
use Rattle.reason.specs.Checked.{told_ok, told_err, told_some}
use Rattle.machine.specs.declared.State.{State}
use Rattle.machine.specs.Fresh.{inputs_of}
use Rattle.playback.specs.Playback.{triples_of, play_from, refused_play}
use Rattle.playback.specs.PlaybackLaws.{reason_trace, play_refused, play_accepted, trace_taken}
use Rattle.playback.specs.Claims.{fresh_first}
use Rattle.playback.proofs.play.Goals as goal

pub play_from-requires : goal.play_from-requires
play_from-requires c =
    let a = c.args in
    let i = inputs_of a.setup a.tables.parents.now a.tables.starts.now a.tables.works.now in
    let none = told_ok _ c.admitted.ensures.told c.in-Ok.is in
    let taken = trace_taken a.trace.now (sym (reason_trace i a.trace.now (fresh_first i a.trace.now none)) ∙ none) in
    record { trace_len_bound = taken.0; whole_triples = taken.1 }

pub returns-in-Ok : goal.returns-in-Ok
returns-in-Ok c =
    let a = c.args in
    c.play_from.ensures
    ∙ ap (λ (s : State). play_from s 0 (triples_of a.trace.now)) c.in-Ok.ensures.value
    ∙ sym (play_accepted (inputs_of a.setup a.tables.parents.now a.tables.starts.now a.tables.works.now) a.trace.now (told_ok _ c.admitted.ensures.told c.in-Ok.is))

pub returns-in-Err : goal.returns-in-Err
returns-in-Err c =
    let a = c.args in
    let k = told_err _ c.admitted.ensures.told c.in-Err.is in
    c.refused.ensures
    ∙ ap refused_play (sym k)
    ∙ sym (play_refused (inputs_of a.setup a.tables.parents.now a.tables.starts.now a.tables.works.now) a.trace.now (λ z. told_some _ c.admitted.ensures.told c.in-Err.is (sym k ∙ z)))
