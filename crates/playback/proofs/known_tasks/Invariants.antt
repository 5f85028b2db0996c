-- `known_tasks`: the tasks written so far are the trace's first.
use Rattle.std.specs.Prelude.{◌≡◌}
use Rattle.std.specs.Iterator.Adapters.{enumerate_source, enumerate_count}
use Rattle.std.specs.Slice.Iter.{chunks_exact_rest, chunks_exact_size}
use Rattle.playback.proofs.Gathering.{Gathering}
use Rattle.playback.proofs.known_tasks.Given as goal

abbrev pub invariant-loop-i : goal.invariant-loop-i
invariant-loop-i l =
    (goal.iterator-loop-i).can_next l.i-iterator
    × (goal.iterator-loop-i).is_finite l.i-iterator
    × (chunks_exact_size (enumerate_source l.i-iterator) ≡ 3)
    × Gathering l.n l.trace l.fn.tasks l.tasks (enumerate_count l.i-iterator) (chunks_exact_rest (enumerate_source l.i-iterator))
