-- What the invariant forbids: counts further apart than one, own work ahead of another task (the barrier condition), and refusal 7.
use Rattle.std.specs.Prelude.{◌≡◌, ◌≢◌, ℕ, ◌+◌, ◌≤◌, ◌<◌, eqb, leb, ltb}
use Rattle.std.proofs.Common.{lt_of_not-le, arith, leb-true}
use Rattle.std.proofs.Math.Decide.{dec_le}
use Rattle.bitset.specs.ChoiceLaws.{by_test}
use Rattle.lines.specs.declared.Task.{Task}
use Rattle.lines.specs.declared.Effect.{Effect}
use Rattle.lines.specs.declared.Act.TheVariants.{Moves, Waits, Refuses}
use Rattle.lines.specs.Common.{max_count}
use Rattle.lines.specs.Increment.{increment13}
use Rattle.lines.specs.LineLaws.{by_increment}
use Rattle.machine.specs.declared.State.{State}
use Rattle.machine.specs.Setters.{task_at}
use Rattle.machine.specs.Turn.{effect_of, turn_of, reason_number}
use Rattle.machine.proofs.TurnLaws.{effect_1, turn_unknown}
use Rattle.machine.proofs.RefusalLaws.{seven_acts}
use Rattle.barrier.specs.Barrier.{Holds}
use Rattle.barrier.specs.Lines.{work_moves}
use Rattle.increment.specs.Invariant.{Inv}
use Rattle.increment.proofs.Phases.{near, early}

module _ (s : State) (i : Holds 1 Inv s) where
  -- no two counts differ by more than one
  pub close : (q r : ℕ) → q < s.n → r < s.n → (task_at s q).count ≤ (task_at s r).count + 1
  close q r hq hr = omega (arith, (near i.inv.phase q hq).high, (near i.inv.phase r hr).low)

  -- BC: a task at its own work is never ahead
  pub behind : (q r : ℕ) → q < s.n → r < s.n → (task_at s q).line ≡ 11 → (task_at s q).count ≤ (task_at s r).count
  behind q r hq hr l = omega (arith, (early i.inv.phase q hq (λ k m a. omega arith)).1, (near i.inv.phase r hr).low)

  -- no turn is refused 7: at line 13 arrivals is below N (Iz1)
  pub never_7 : (p : ℕ) → reason_number (turn_of s p).outcome ≢ 7
  never_7 p = go (dec_le s.n p)
    where
      No7 : Effect → Type 0
      No7 e = e.act ≢ Refuses 7

      t : Task
      t = task_at s p

      moved : Moves ≢ Refuses 7
      moved e = let z : ◌≡◌ {A = ℕ} 0 1 = cc in omega arith

      waited : Waits ≢ Refuses 7
      waited e = let z : ◌≡◌ {A = ℕ} 0 1 = cc in omega arith

      eleven : Refuses 11 ≢ Refuses 7
      eleven e = let z : ◌≡◌ {A = ℕ} 11 7 = cc in omega arith

      at_13 : p < s.n → t.line ≡ 13 → No7 (increment13 s.n s.arrivals t)
      at_13 h l =
          by_test No7 (leb s.n s.arrivals)
          (λ b. absurd (omega (arith, leb-true s.n s.arrivals b, (early i.inv.phase p h (λ k m a. omega arith)).0.few)))
          (λ _. by_test No7 (ltb t.count max_count) (λ _. moved) (λ _. eleven))

      line : p < s.n → No7 (effect_of s p)
      line h =
          rw (effect_1 s p i.kind)
          (by_increment No7 t.line t (λ _. waited) (λ _. rw (work_moves t) moved) s.n s.arrivals s.sense
          (λ _. moved) (at_13 h) (λ _. moved) (λ _. moved) (λ _. by_test No7 (eqb s.sense t.aim) (λ _. moved) (λ _. waited)))

      go : Dec (s.n ≤ p) → reason_number (turn_of s p).outcome ≢ 7
      go (yes h) = rw (turn_unknown s p i.valid h) (omega arith)
      go (no h) = λ e. line (lt_of_not-le h) (seven_acts s p i.valid (lt_of_not-le h) e)
