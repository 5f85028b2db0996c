-- Every move keeps the invariant: line by line, by `Kept`.
use Rattle.std.specs.Prelude.{ℕ, ◌+◌, ◌<◌}
use Rattle.lines.specs.declared.Task.{Task}
use Rattle.setup.specs.Kinds.{has_sense}
use Rattle.setup.specs.RangeLaws.{below}
use Rattle.machine.specs.declared.State.{State}
use Rattle.machine.specs.Setters.{task_at, with_task}
use Rattle.machine.specs.Turn.{written}
use Rattle.machine.specs.RangeLaws.{range}
use Rattle.barrier.specs.View.{view_of}
use Rattle.barrier.specs.Barrier.{Able, moved, Holds}
use Rattle.barrier.specs.Puts.{Puts, stored}
use Rattle.increment.specs.Invariant.{Phase, Inv}
use Rattle.increment.proofs.Lines.{by_line}
use Rattle.increment.proofs.Kept.{line_11, line_12, line_13_butler, line_13_guest, line_14, line_15, line_16}

-- ---- every move

pub keeps : (s : State) (p : ℕ) → Holds 1 Inv s → Able s p → Inv (view_of (moved s p))
keeps s p i a =
    by_line (λ e. Inv (view_of (written e.write (with_task s p e.task)))) s p i.kind a
    (λ l to left from most. record { c = c; phase = line_11 phase h l from most puts })
    (λ l. record { c = c; phase = line_12 phase h l two puts })
    (λ l last. record { c = c; phase = line_13_butler phase h l last puts })
    (λ l more. record { c = c; phase = line_13_guest phase h l more puts })
    (λ l. record { c = c; phase = line_14 phase h l puts })
    (λ l. record { c = c + 1; phase = line_15 phase h l puts })
    (λ l turned. record { c = c; phase = line_16 phase h l turned puts })
  where
    h : p < s.n
    h = a.0

    c : ℕ
    c = i.inv.c

    phase : Phase s.n s.arrivals s.sense c (task_at s)
    phase = i.inv.phase

    two : s.sense < 2
    two = below (has_sense s.kind) 2 s.sense (rw i.kind) (range s i.valid).sense

    puts : {b : Task} → Puts (task_at s) p b (task_at (with_task s p b))
    puts {b} = stored s p b i.valid h
