-- While the least count is below its limit, the task that has the message can move (001, theorem 3).
use Rattle.std.specs.Prelude.{◌≡◌, refl, ◌≢◌, ℕ, ◌-◌, ◌≤◌, ◌<◌}
use Rattle.std.proofs.Math.Decide.{dec_lt}
use Rattle.std.proofs.Common.{arith, eq-eqb, ne_eqb, lt-ltb}
use Rattle.lines.specs.declared.Task.{Task}
use Rattle.lines.specs.declared.Effect.{Effect}
use Rattle.lines.specs.declared.Act.TheVariants.{Moves}
use Rattle.lines.specs.Common.{max_count}
use Rattle.lines.specs.Ring.{nz}
use Rattle.lines.specs.LineLaws.{by_ring}
use Rattle.machine.specs.declared.State.{State}
use Rattle.machine.specs.Setters.{task_at}
use Rattle.machine.proofs.TurnLaws.{effect_2}
use Rattle.machine.specs.RangeLaws.{TaskIn, range}
use Rattle.machine.specs.Least.{least}
use Rattle.machine.specs.LeastLaws.{least_attained}
use Rattle.barrier.specs.Barrier.{Able, Holds}
use Rattle.barrier.specs.Lines.{work_moves}
use Rattle.ring.specs.Invariant.{Inv}
use Rattle.ring.proofs.Places.{bounds}

-- the line of a task of this barrier moves: 12 with the token, 14 without it, 13 below the limit, and every other line
moves : (s : State) (p : ℕ) → Holds 2 Inv s → p < s.n → (let t = task_at s p in
    (t.line ≡ 12 → t.toggle ≡ nz p) → (t.line ≡ 13 → t.count < max_count) → (t.line ≡ 14 → t.toggle ≢ nz p) → Able s p)
moves s p i h at_12 at_13 at_14 = (
  h,
  rw (effect_2 s p i.kind)
      (by_ring Acts t.line t (λ out. absurd (omega (arith, out mine.line_from, last))) (λ _. work_moves t) s.n p
      (λ l. rw (eq-eqb t.toggle (nz p) (at_12 l))) (λ l. rw (lt-ltb t.count max_count (at_13 l))) (λ l. rw (ne_eqb t.toggle (nz p) (at_14 l))) (λ _. refl)),
)
  where
    t : Task
    t = task_at s p

    Acts : Effect → Type 0
    Acts e = e.act ≡ Moves

    mine : TaskIn s p t
    mine = (range s i.valid).tasks p h

    last : t.line ≤ 15
    last = rw i.kind at mine.line_to

pub someone : (s : State) → Holds 2 Inv s → least s < max_count → (p : ℕ) × Able s p
someone s i low = go (dec_lt loc s.n)
  where
    loc : ℕ
    loc = i.inv.loc

    c : ℕ
    c = i.inv.c

    -- c is at most the least count
    below : c < max_count
    below = let a = least_attained s (range s i.valid).some in omega (arith, a.2, bounds (i.inv.seen a.0 a.1))

    go : Dec (loc < s.n) → (p : ℕ) × Able s p
    go (yes l) =
        let t = (i.inv.seen loc l).token refl in
        (loc, moves s loc i l (λ _. t.toggled) (λ _. omega (arith, below)) (λ m. absurd (omega arith)))
    go (no l) =
        let h : loc - s.n < s.n = omega (arith, i.inv.below) in
        let t = (i.inv.seen (loc - s.n) h).answer (omega arith) in
        (loc - s.n, moves s (loc - s.n) i h (λ m. absurd (omega arith)) (λ m. absurd (omega arith)) (λ _. omega arith))
