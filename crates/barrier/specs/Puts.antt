-- A task stored among the tasks, which are a function of their number: the one place where a case is split by which task it was.
use Rattle.std.specs.Prelude.{◌≡◌, ◌≢◌, ℕ, ◌<◌}
use Rattle.std.proofs.Math.Decide.{ℕ_discrete}
use Rattle.lines.specs.declared.Task.{Task}
use Rattle.machine.specs.declared.State.{State}
use Rattle.machine.specs.Setters.{task_at, with_task}
use Rattle.machine.specs.Range.{Valid}
use Rattle.machine.proofs.TurnLaws.{put_same, put_other}
use Rattle.machine.specs.RangeLaws.{range, present}

-- t' is t with b at p
pub record Puts (t : ℕ → Task) (p : ℕ) (b : Task) (t' : ℕ → Task) : Type 0 where
  pub same : t' p ≡ b
  pub other : (q : ℕ) → q ≢ p → t' q ≡ t q

-- what holds of b, and of each other task as it was, holds of every task
pub at_task : (P : Task → Type 0) {t t' : ℕ → Task} {p : ℕ} {b : Task} → Puts t p b t' → (q : ℕ) → (q ≡ p → P b) → (q ≢ p → P (t q)) → P (t' q)
at_task P {t} {t'} {p} u q f g = go (ℕ_discrete q p)
  where
    go : Dec (q ≡ p) → P (t' q)
    go (yes e) = rw (e, u.same) (f e)
    go (no ne) = rw (u.other q ne) (g ne)

-- a store in a state, at a task that is there
pub stored : (s : State) (p : ℕ) (b : Task) → Valid s → p < s.n → Puts (task_at s) p b (task_at (with_task s p b))
stored s p b ok h =
    record {
      same = put_same s p b (present s p ((range s ok).tasks p h).line_from);
      other = λ q ne. put_other s p q b ne;
    }
