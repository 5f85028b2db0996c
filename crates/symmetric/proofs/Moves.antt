-- While the least count is below its limit, each task that has it can move.
use Rattle.std.specs.Prelude.{◌≡◌, refl, ℕ, ◌≤◌, ◌<◌, eqb}
use Rattle.std.proofs.Common.{arith, ne_eqb, lt-ltb}
use Rattle.bitset.specs.ChoiceLaws.{by_test}
use Rattle.lines.specs.declared.Task.{Task}
use Rattle.lines.specs.declared.Effect.{Effect}
use Rattle.lines.specs.declared.Act.TheVariants.{Moves}
use Rattle.lines.specs.Common.{max_count}
use Rattle.lines.specs.LineLaws.{by_symmetric}
use Rattle.machine.specs.declared.State.{State}
use Rattle.machine.specs.Setters.{task_at}
use Rattle.machine.specs.Turn.{effect_of}
use Rattle.machine.proofs.TurnLaws.{effect_0}
use Rattle.machine.specs.RangeLaws.{TaskIn, range}
use Rattle.machine.proofs.KeepLaws.{looked_known}
use Rattle.machine.specs.Least.{least}
use Rattle.machine.specs.LeastLaws.{least_le, least_attained}
use Rattle.barrier.specs.Barrier.{Able, Holds}
use Rattle.barrier.specs.Lines.{work_moves}
use Rattle.symmetric.specs.Invariant.{Inv}
use Rattle.symmetric.proofs.Tags.{ahead_tag}

-- a task with the least count moves at every line
least_moves : (s : State) (p : ℕ) → Holds 0 Inv s → p < s.n → ((r : ℕ) → r < s.n → (task_at s p).count ≤ (task_at s r).count) → (task_at s p).count < max_count
    → (effect_of s p).act ≡ Moves
least_moves s p i h lowest low =
    rw (effect_0 s p i.kind)
    (by_symmetric Acts t.line t (λ out. absurd (omega (arith, out mine.line_from, last))) (λ _. work_moves t) s.n s.modulus (task_at s t.looked).tag
    (λ l. rw (lt-ltb t.count max_count low))
    (λ l. by_test Acts (eqb t.list 0) (λ _. refl) (λ _. refl))
    (λ l. rw (ne_eqb (task_at s t.looked).tag t.old (ahead_tag s i p t.looked h known (omega arith) (lowest t.looked known)))))
  where
    t : Task
    t = task_at s p

    Acts : Effect → Type 0
    Acts e = e.act ≡ Moves

    mine : TaskIn s p t
    mine = (range s i.valid).tasks p h

    last : t.line ≤ 14
    last = rw i.kind at mine.line_to

    known : t.looked < s.n
    known = looked_known s p i.valid h

pub someone : (s : State) → Holds 0 Inv s → least s < max_count → (p : ℕ) × Able s p
someone s i low =
    let a = least_attained s (range s i.valid).some in
    (a.0, (a.1, least_moves s a.0 i a.1 (λ r hr. omega (arith, a.2, least_le s r hr)) (omega (arith, a.2))))
