-- `play_from`: what is left of the trace is played from the state reached.
use Rattle.std.specs.Prelude.{◌≡◌}
use Rattle.std.specs.Iterator.Adapters.{enumerate_source, enumerate_count}
use Rattle.std.specs.Slice.Iter.{chunks_rest, chunks_size}
use Rattle.playback.proofs.Playing.{Playing}
use Rattle.playback.proofs.play_from.Given as goal

abbrev pub invariant-loop-i : goal.invariant-loop-i
invariant-loop-i l =
    (goal.iterator-loop-i).can_next l.i-iterator
    × (goal.iterator-loop-i).is_finite l.i-iterator
    × (chunks_size (enumerate_source l.i-iterator) ≡ 12288)
    × Playing l.trace l.fn.begin.state l.state (enumerate_count l.i-iterator) (chunks_rest (enumerate_source l.i-iterator))
