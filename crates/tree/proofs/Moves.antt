-- Absence of deadlock (Theorem 4): while the least count is below its limit some task can move. Walk from the root: a Mid task at 14 looks at a child,
-- which is Mid (go on there: its number is greater) or Top (the task can move); every other Mid task can move.
use Rattle.std.specs.Prelude.{◌≡◌, refl, ◌⊎◌, ℕ, zero, suc, ◌+◌, ◌≤◌, ◌<◌, eqb}
use Rattle.std.proofs.Math.Bool.{or-true}
use Rattle.std.proofs.Common.{⊎_elim, arith, lt-ltb}
use Rattle.std.proofs.Math.Decide.{ℕ_discrete}
use Rattle.bitset.specs.ChoiceLaws.{by_test}
use Rattle.lines.specs.declared.Task.{Task}
use Rattle.lines.specs.declared.Effect.{Effect}
use Rattle.lines.specs.declared.Act.TheVariants.{Moves}
use Rattle.lines.specs.Common.{max_count}
use Rattle.lines.specs.LineLaws.{by_tree}
use Rattle.machine.specs.declared.State.{State}
use Rattle.machine.specs.Setters.{task_at}
use Rattle.machine.specs.Range.{table_of}
use Rattle.machine.proofs.TurnLaws.{effect_3}
use Rattle.machine.specs.RangeLaws.{TaskIn, range}
use Rattle.machine.specs.Least.{least}
use Rattle.machine.specs.LeastLaws.{least_attained}
use Rattle.barrier.specs.Barrier.{Able, Holds}
use Rattle.barrier.specs.Lines.{work_moves}
use Rattle.tree.specs.Invariant.{Mid, Top, Inv}
use Rattle.tree.proofs.TreeRange.{is_tree, list_child}
use Rattle.tree.proofs.Stands.{near}

module _ (s : State) (i : Holds 3 Inv s) (below : i.inv.round < max_count) where
  -- the line of a Mid task moves, at 14 if the flag that it looks at is up
  mid_moves : (p : ℕ) → p < s.n → Mid i.inv.round (task_at s p) → ((task_at s p).line ≡ 14 → (task_at s (task_at s p).looked).flag ≡ 1) → Able s p
  mid_moves p known m up = (
    known,
    rw (effect_3 s p i.kind)
        (by_tree Acts t.line t (λ out. absurd (omega (arith, out mine.line_from, last))) (λ _. work_moves t) (table_of s) p (task_at s t.looked).flag (λ _. refl)
        (λ _. by_test Acts (eqb t.list 0) (λ _. refl) (λ _. refl)) (λ l. rw (up l)) (λ _. rw (lt-ltb t.count max_count (omega arith)))
        (λ _. rw (m.flag, or-true (eqb p 0))) (λ _. refl) (λ _. by_test Acts (eqb t.list 0) (λ _. refl) (λ _. refl))),
  )
    where
      t : Task
      t = task_at s p

      Acts : Effect → Type 0
      Acts e = e.act ≡ Moves

      mine : TaskIn s p t
      mine = (range s i.valid).tasks p known

      last : t.line ≤ 18
      last = rw i.kind at mine.line_to

  -- a task at 14 looks at a higher task, which is Mid or Top
  looked : (p : ℕ) → p < s.n → (task_at s p).line ≡ 14
      → (p < (task_at s p).looked) × ((task_at s p).looked < s.n)
      × (Mid i.inv.round (task_at s (task_at s p).looked) ⊎ Top i.inv.round (task_at s (task_at s p).looked))
  looked p known e =
      let on = i.inv.standing.looks p known e in
      let child = list_child s i.valid i.kind p known (task_at s p).looked on in
      let lower = (is_tree s i.valid i.kind).lower (task_at s p).looked child.0 child.1 in
      (omega arith, child.1, rw (child.2, e, on) at (i.inv.standing.child (task_at s p).looked child.0 child.1))

  walk : (m p : ℕ) → s.n ≤ p + m → p < s.n → Mid i.inv.round (task_at s p) → (q : ℕ) × Able s q
  walk zero p l known mid = absurd (omega arith)
  walk (suc m) p l known mid = go (ℕ_discrete (task_at s p).line 14) (walk m (task_at s p).looked)
    where
      go : Dec ((task_at s p).line ≡ 14)
          → (s.n ≤ (task_at s p).looked + m → (task_at s p).looked < s.n → Mid i.inv.round (task_at s (task_at s p).looked) → (q : ℕ) × Able s q)
          → (q : ℕ) × Able s q
      go (no ne) on = (p, mid_moves p known mid (λ e. absurd (ne e)))
      go (yes e) on = let r = looked p known e in ⊎_elim (λ mid. on (omega arith) r.1 mid) (λ top. (p, mid_moves p known mid (λ _. top.flag))) r.2

pub someone : (s : State) → Holds 3 Inv s → least s < max_count → (p : ℕ) × Able s p
someone s i low =
    let some = (range s i.valid).some in
    let a = least_attained s some in
    walk s i (omega (arith, near i.inv.standing a.0 a.1, a.2)) s.n 0 (omega arith) some i.inv.standing.root
