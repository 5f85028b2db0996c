-- Every move keeps the invariant: line by line, by `Kept`.
use Rattle.std.specs.Prelude.{ℕ}
use Rattle.machine.specs.declared.State.{State}
use Rattle.barrier.specs.View.{view_of}
use Rattle.barrier.specs.Barrier.{Able, moved, Holds}
use Rattle.ring.specs.Invariant.{Inv}
use Rattle.ring.proofs.Lines.{by_line}
use Rattle.ring.proofs.Kept.{After, line_11, line_12, line_13, line_14, line_15}

-- ---- the law

pub keeps : (s : State) (p : ℕ) → Holds 2 Inv s → Able s p → Inv (view_of (moved s p))
keeps s p i a =
    by_line (After s p) s p i.kind a
    (line_11 s p i a.0) (line_12 s p i a.0) (line_13 s p i a.0) (line_14 s p i a.0) (line_15 s p i a.0)
