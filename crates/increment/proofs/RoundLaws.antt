-- What the places of `Round` are: within a round, and a move takes its task on by one, past what it skips.
use Rattle.std.specs.Prelude.{◌≡◌, ◌≢◌, ℕ, ◌+◌, ◌*◌, ◌<◌, eqb}
use Rattle.std.proofs.Common.{arith, eq-eqb, ne_eqb}
use Rattle.bitset.specs.ChoiceLaws.{by_test}
use Rattle.lines.specs.declared.Task.{Task}
use Rattle.machine.specs.declared.State.{State}
use Rattle.machine.specs.Setters.{task_at}
use Rattle.machine.specs.Turn.{effect_of}
use Rattle.barrier.specs.View.{view_of}
use Rattle.barrier.specs.Barrier.{Able, Holds, Leads, times_done}
use Rattle.increment.specs.Invariant.{Inv}
use Rattle.increment.proofs.Lines.{by_line}
use Rattle.increment.specs.Round.{offset_of, skips}

offset_lt : (l : ℕ) → offset_of l < 5
offset_lt l =
    by_test (λ x. x < 5) (eqb l 14) (λ _. omega arith)
    (λ _. by_test (λ x. x < 5) (eqb l 11) (λ _. omega arith)
    (λ _. by_test (λ x. x < 5) (eqb l 12) (λ _. omega arith)
    (λ _. by_test (λ x. x < 5) (eqb l 13) (λ _. omega arith) (λ _. omega arith))))

pub within : (s : State) → Holds 1 Inv s → (q : ℕ) → q < s.n → offset_of (task_at s q).line < 5
within s i q h = offset_lt (task_at s q).line

-- how far a task that is t is
abbrev placed : Task → ℕ
placed t = t.count * 5 + offset_of t.line

module _ (s : State) (p : ℕ) (i : Holds 1 Inv s) (a : Able s p) where
  -- 13 counts the work, and the lines from 12 on lead there
  pub done : (task_at s p).line ≢ 11 → times_done 13 (effect_of s p).task ≡ times_done 13 (task_at s p)
  done off =
      by_line (λ e. times_done 13 e.task ≡ times_done 13 (task_at s p)) s p i.kind a
      (λ l. absurd (off l)) (λ l. rw l) (λ l last. rw l (omega arith)) (λ l more. rw l (omega arith)) (λ l. rw l) (λ l. rw l) (λ l _. rw l)

  -- a move that leads on takes the task on by one, and past what it skips
  pub own : Leads s p → placed (effect_of s p).task ≡ placed (task_at s p) + 1 + skips (view_of s) p
  own =
      by_line (λ e. ((task_at s p).line ≡ 11 → e.task.line ≡ 12) → placed e.task ≡ placed (task_at s p) + 1 + skips (view_of s) p) s p i.kind a
      (λ l to left from most on. rw (l, on l) (omega arith)) (λ l _. rw l (omega arith))
      (λ l last _. rw (l, eq-eqb (s.arrivals + 1) s.n last) (omega arith))
      (λ l more _. rw (l, ne_eqb (s.arrivals + 1) s.n more) (omega arith))
      (λ l _. rw l (omega arith)) (λ l _. rw l (omega arith)) (λ l _ _. rw l (omega arith))
