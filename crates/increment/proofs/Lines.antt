-- The moves of this barrier, line by line, each with its condition.
use Rattle.std.specs.Prelude.{◌≡◌, ◌≢◌, ℕ, ◌+◌, eqb, leb}
use Rattle.std.proofs.Common.{sym, subst, eqb-true}
use Rattle.std.proofs.lemmas.Bool.{eqb-false}
use Rattle.bitset.specs.ChoiceLaws.{by_test}
use Rattle.lines.specs.declared.Task.{Task}
use Rattle.lines.specs.declared.Effect.{Effect}
use Rattle.lines.specs.declared.Write.TheVariants.{Nothing, Arrivals, Sense}
use Rattle.lines.specs.Setters.{with_line, with_aim}
use Rattle.lines.specs.Common.{negated, moves, raised}
use Rattle.lines.specs.Increment.{increment13}
use Rattle.lines.specs.LineLaws.{by_increment}
use Rattle.machine.specs.declared.State.{State}
use Rattle.machine.specs.Setters.{task_at}
use Rattle.machine.specs.Turn.{effect_of}
use Rattle.machine.proofs.TurnLaws.{effect_1}
use Rattle.barrier.specs.Barrier.{Able}
use Rattle.barrier.specs.Lines.{Moving, no_wait, no_refusal, Worked, if_worked, if_awaited, if_counted}

-- what holds of each line's move holds of the effect of a task that can move
pub by_line : (P : Effect → Type 0) (s : State) (p : ℕ) → s.kind ≡ 1 → Able s p
    → (let t = task_at s p in
    (t.line ≡ 11 → Worked P t)
    → (t.line ≡ 12 → P (moves (with_line (with_aim t (negated s.sense)) 13) Nothing))
    → (t.line ≡ 13 → s.arrivals + 1 ≡ s.n → P (moves (with_line (raised t) 14) (Arrivals (s.arrivals + 1))))
    → (t.line ≡ 13 → s.arrivals + 1 ≢ s.n → P (moves (with_line (raised t) 16) (Arrivals (s.arrivals + 1))))
    → (t.line ≡ 14 → P (moves (with_line t 15) (Arrivals 0)))
    → (t.line ≡ 15 → P (moves (with_line t 11) (Sense t.aim)))
    → (t.line ≡ 16 → s.sense ≡ t.aim → P (moves (with_line t 11) Nothing))
    → P (effect_of s p))
by_line P s p k a m11 m12 butler guest m14 m15 m16 =
    subst (Moving P) (sym (effect_1 s p k))
    (by_increment (Moving P) t.line t (λ _. no_wait P t) (λ l. if_worked P t l (m11 l)) s.n s.arrivals s.sense
    (λ l _. m12 l) m13 (λ l _. m14 l) (λ l _. m15 l) (λ l. if_awaited P (eqb s.sense t.aim) t (λ b. m16 l (eqb-true s.sense t.aim b))))
    a.1
  where
    t : Task
    t = task_at s p

    m13 : t.line ≡ 13 → Moving P (increment13 s.n s.arrivals t)
    m13 l =
        by_test (Moving P) (leb s.n s.arrivals) (λ _. no_refusal P 7 t)
        (λ _. if_counted P t
        (λ _. by_test (λ x. P (moves (with_line (raised t) x) (Arrivals (s.arrivals + 1)))) (eqb (s.arrivals + 1) s.n)
        (λ b. butler l (eqb-true (s.arrivals + 1) s.n b)) (λ b. guest l (eqb-false (s.arrivals + 1) s.n b))))
