-- `same_rows`: the triples passed have the log's bytes.
use Rattle.std.specs.Prelude.{◌≡◌}
use Rattle.std.specs.Iterator.Adapters.{enumerate_source, enumerate_count, zip_first, zip_second}
use Rattle.std.specs.Slice.Iter.{chunks_exact_rest, chunks_exact_size}
use Rattle.playback.proofs.Comparing.{Comparing}
use Rattle.playback.proofs.same_rows.Given as goal

abbrev pub invariant-loop-i : goal.invariant-loop-i
invariant-loop-i l =
    (goal.iterator-loop-i).can_next l.i-iterator
    × (goal.iterator-loop-i).is_finite l.i-iterator
    × (chunks_exact_size (zip_first (enumerate_source l.i-iterator)) ≡ 3)
    × (chunks_exact_size (zip_second (enumerate_source l.i-iterator)) ≡ 2)
    × Comparing l.trace l.log (enumerate_count l.i-iterator)
    (chunks_exact_rest (zip_first (enumerate_source l.i-iterator)))
    (chunks_exact_rest (zip_second (enumerate_source l.i-iterator)))
