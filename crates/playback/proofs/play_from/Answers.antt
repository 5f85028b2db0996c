-- `play_from`: the part that was played stops the trace, or it goes on from the part's end.
use Rattle.std.proofs.Common.{rules, sym, ◌∙◌}
use Rattle.playback.proofs.Playing.{stops, goes, over}
use Rattle.playback.proofs.play_from.Goals as goal

pub returns-then-part-piece : goal.returns-then-part-piece
returns-then-part-piece c =
    let w = c.loop-i.invariant in
    let steps = c.in-Some.ensures.steps in
    rw steps.1 (stops w.3 c.in-Some.piece.now _ steps.0.1.0 (rw w.2 at steps.0.1.1) c.play_part-part.result c.play_part-part.ensures c.if-part-piece.true)

pub loop-i-preserved : goal.loop-i-preserved
loop-i-preserved c =
    let w = c.loop-i.invariant in
    let steps = c.in-Some.ensures.steps in
    let next = goes w.3 c.in-Some.piece.now _ steps.0.1.0 (rw w.2 at steps.0.1.1) c.play_part-part.result c.play_part-part.ensures c.if-part-piece.false in
    (search rules, tt, steps.0.0 ∙ w.2, rw steps.2 next)

pub returns : goal.returns
returns c = sym (over c.loop-i.invariant.3 c.in-None.ensures.steps.0.1.0)
