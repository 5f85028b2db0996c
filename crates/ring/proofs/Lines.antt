-- What a move of the ring barrier is, line by line.
use Rattle.std.specs.Prelude.{◌≡◌, not, ◌≢◌, ℕ, eqb}
use Rattle.std.proofs.Common.{sym, subst, eqb-true}
use Rattle.std.proofs.lemmas.Bool.{eqb-false, not-true}
use Rattle.lines.specs.declared.Task.{Task}
use Rattle.lines.specs.declared.Effect.{Effect}
use Rattle.lines.specs.declared.Write.TheVariants.{Nothing, Toggle}
use Rattle.lines.specs.Setters.{with_line}
use Rattle.lines.specs.Common.{moves, raised}
use Rattle.lines.specs.Ring.{nz, next_task}
use Rattle.lines.specs.LineLaws.{by_ring}
use Rattle.machine.specs.declared.State.{State}
use Rattle.machine.specs.Setters.{task_at}
use Rattle.machine.specs.Turn.{effect_of}
use Rattle.machine.proofs.TurnLaws.{effect_2}
use Rattle.barrier.specs.Barrier.{Able}
use Rattle.barrier.specs.Lines.{Moving, no_wait, Worked, if_worked, if_awaited, if_counted}

-- what holds of each line's move holds of the effect of a task that can move
pub by_line : (P : Effect → Type 0) (s : State) (p : ℕ) → s.kind ≡ 2 → Able s p
    → ((task_at s p).line ≡ 11 → Worked P (task_at s p))
    → ((task_at s p).line ≡ 12 → (task_at s p).toggle ≡ nz p → P (moves (with_line (task_at s p) 13) Nothing))
    → ((task_at s p).line ≡ 13 → P (moves (with_line (raised (task_at s p)) 14) (Toggle (next_task s.n p) 1)))
    → ((task_at s p).line ≡ 14 → (task_at s p).toggle ≢ nz p → P (moves (with_line (task_at s p) 15) Nothing))
    → ((task_at s p).line ≡ 15 → P (moves (with_line (task_at s p) 11) (Toggle (next_task s.n p) 0)))
    → P (effect_of s p)
by_line P s p k a l11 l12 l13 l14 l15 =
    subst (Moving P) (sym (effect_2 s p k))
    (by_ring (Moving P) t.line t (λ _. no_wait P t) (λ l. if_worked P t l (l11 l)) s.n p
    (λ l. if_awaited P (eqb t.toggle (nz p)) t (λ b. l12 l (eqb-true t.toggle (nz p) b)))
    (λ l. if_counted P t (λ _. l13 l))
    (λ l. if_awaited P (not (eqb t.toggle (nz p))) t (λ b. l14 l (eqb-false t.toggle (nz p) (not-true _ b))))
    (λ l _. l15 l))
    a.1
  where
    t : Task
    t = task_at s p
