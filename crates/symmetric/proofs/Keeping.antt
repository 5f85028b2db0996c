-- Every move keeps the invariant: line by line, by `Kept`.
use Rattle.std.specs.Prelude.{ℕ}
use Rattle.lines.specs.declared.Task.{Task}
use Rattle.lines.specs.declared.Effect.{Effect}
use Rattle.machine.specs.declared.State.{State}
use Rattle.machine.specs.Setters.{with_task}
use Rattle.machine.specs.Turn.{written}
use Rattle.barrier.specs.View.{view_of}
use Rattle.barrier.specs.Barrier.{Able, moved, Holds}
use Rattle.symmetric.specs.Invariant.{Inv}
use Rattle.symmetric.proofs.Lines.{by_line}
use Rattle.symmetric.proofs.Kept.{Keeps, kept, keep_11, keep_12, keep_13_none, keep_13_some, keep_14}

-- ---- the law

pub keeps : (s : State) (p : ℕ) → Holds 0 Inv s → Able s p → Inv (view_of (moved s p))
keeps s p i a =
    by_line Left s p i.valid i.kind a
    (λ l to left from most. put (keep_11 s i p a.0 l to left from most))
    (λ l. put (keep_12 s i p a.0 l))
    (λ l e. put (keep_13_none s i p a.0 l e))
    (λ k l e. put (keep_13_some s i p a.0 k l e))
    (λ l d. put (keep_14 s i p a.0 l d))
  where
    -- what is to be shown of a move
    Left : Effect → Type 0
    Left e = Inv (view_of (written e.write (with_task s p e.task)))

    put : {b : Task} → Keeps s p b → Inv (view_of (with_task s p b))
    put {b} k = kept s p b i a.0 k
