-- How far a state is, for every barrier: the sum over the tasks q of count q * L q + offset q, and of the moves of its work beyond the first of each
-- round. A move raises it, and no other turn changes it.
use Rattle.std.specs.Prelude.{◌≡◌, refl, List, ◌≢◌, ◌⊎◌, ℕ, ◌+◌, ◌-◌, ◌*◌, ◌≤◌, ◌<◌, leb, ltb, take}
use Rattle.std.proofs.Common.{sym, ap, ◌∙◌, subst, inl, inr, le_trans, le_of_eq, lt_of_lt_of_le, mul-le-mul_right, arith, le-leb, ltb-true, ltb-false}
use Rattle.std.proofs.Math.Decide.{ℕ_discrete}
use Rattle.bitset.specs.ChoiceLaws.{by_test}
use Rattle.bitset.specs.Sum.{sum}
use Rattle.bitset.specs.SumLaws.{sum_le, sum_same, sum_lt, sum_raise, sum_mul}
use Rattle.lines.specs.declared.Task.{Task}
use Rattle.lines.specs.declared.Effect.{Effect}
use Rattle.lines.specs.declared.Write.TheVariants.{Nothing}
use Rattle.lines.specs.Setters.{with_line, with_toggle, with_flag, with_left}
use Rattle.lines.specs.Common.{moves}
use Rattle.machine.specs.declared.State.{State}
use Rattle.machine.specs.Setters.{task_at}
use Rattle.machine.specs.Range.{table_of}
use Rattle.machine.specs.Turn.{effect_of, turn_of, reason_number}
use Rattle.machine.proofs.TurnLaws.{Constants, constants_written, turn_constants, turn_work, effect_keeps, able_moves, moved_tallied}
use Rattle.machine.specs.RangeLaws.{TaskIn, range}
use Rattle.machine.specs.Least.{least}
use Rattle.machine.specs.LeastLaws.{least_le, least_attained}
use Rattle.barrier.specs.View.{View, view_of}
use Rattle.barrier.specs.Barrier.{Able, moved, Holds, uncounted, times_done, Barrier}
use Rattle.barrier.specs.Moves.{moved_able, by_move, own_after, other_after, able_view}

-- the parent table never changes
table_kept : (s s' : State) → Constants s s' → table_of s' ≡ table_of s
table_kept s s' k = ap (λ (n : ℕ). take n s'.parents) k.n ∙ ap (take s.n) k.parents

pub same_table : (s : State) (p : ℕ) → table_of (turn_of s p).state ≡ table_of s
same_table s p = table_kept s (turn_of s p).state (turn_constants s p)

module _ {kind : ℕ} (b : Barrier kind) where
  -- how far the task q, which is t, is, with one move of work in each round
  abbrev placed : ℕ → List ℕ → ℕ → Task → ℕ
  placed n table q t = t.count * b.L n table q + b.offset n table q t

  -- 02, P6: the moves of its work beyond the first of each round, and those that it has made at 11 since
  abbrev extra : Task → ℕ
  extra t = (t.work - 1) * times_done b.rise t + (t.work - t.left)

  -- the part of task q
  abbrev pub part : View → ℕ → ℕ
  part v q = placed v.n v.table q (v.task q) + extra (v.task q)

  abbrev pub Φ : State → ℕ
  Φ s = sum s.n (part (view_of s))

  -- the moves of a round of task q, and of all tasks together
  abbrev pub round : View → ℕ → ℕ
  round v q = b.L v.n v.table q + ((v.task q).work - 1)

  abbrev pub M : View → ℕ
  M v = sum v.n (round v)

  -- M never changes
  pub same_M : (s : State) (p : ℕ) → M (view_of (turn_of s p).state) ≡ M (view_of s)
  same_M s p =
      sum_same s'.n (round (view_of s')) (round (view_of s)) (λ q _. same q)
      ∙ ap (λ (k : ℕ). sum k (round (view_of s))) (turn_constants s p).n
    where
      s' : State
      s' = (turn_of s p).state

      same : (q : ℕ) → round (view_of s') q ≡ round (view_of s) q
      same q =
          ap (λ (k : ℕ). b.L k (table_of s') q + ((task_at s' q).work - 1)) (turn_constants s p).n
          ∙ ap (λ (table : List ℕ). b.L s.n table q + ((task_at s' q).work - 1)) (same_table s p)
          ∙ ap (λ (w : ℕ). b.L s.n (table_of s) q + (w - 1)) (turn_work s p q)

  module _ (s : State) (p : ℕ) (i : Holds kind b.Inv s) (a : Able s p) where
    -- how far a task is, in this state
    abbrev far : ℕ → Task → ℕ
    far q t = placed s.n (table_of s) q t + extra t

    -- ---- what a move makes of its own task

    abbrev t : Task
    t = task_at s p

    mine : TaskIn s p t
    mine = (range s i.valid).tasks p a.0

    -- a move that leads on, in the barrier's own places
    led : (e : Effect) → effect_of s p ≡ e → (t.line ≡ 11 → e.task.line ≡ 12)
        → placed s.n (table_of s) p e.task ≡ placed s.n (table_of s) p t + 1 + b.skips (view_of s) p
    led e eq =
        subst (λ (x : Effect). (t.line ≡ 11 → x.task.line ≡ 12) → placed s.n (table_of s) p x.task ≡ placed s.n (table_of s) p t + 1 + b.skips (view_of s) p)
        eq (b.own s p i a)

    -- at 11 a move more is made of the work, or its last one
    stays : 1 < t.left → far p t < far p (with_left t (t.left - 1))
    stays more = omega (arith, (b.apart s.n (table_of s) p t (t.left - 1)).2, mine.left_to_lem)

    goes : t.line ≡ 11 → t.left ≤ 1 → effect_of s p ≡ moves (with_left (with_line t 12) t.work) Nothing → far p t < far p (with_left (with_line t 12) t.work)
    goes l last eq =
        let one : uncounted b.rise 12 ≡ 1 = rw (le-leb 12 b.rise b.later) in
        let none : uncounted b.rise t.line ≡ 0 = rw l in
        rw (one, none) (omega (arith, led _ eq (λ _. refl), mine.left_from))

    -- at other lines the work is as it was
    worked : t.line ≢ 11 → extra (effect_of s p).task ≡ extra t
    worked ne = let k = effect_keeps s p in rw (k.length, k.left ne, b.done s p i a ne)

    own_on : far p t < far p (effect_of s p).task
    own_on = go (ℕ_discrete t.line 11)
      where
        On : Effect → Type 0
        On e = effect_of s p ≡ e → far p t < far p e.task

        go : Dec (t.line ≡ 11) → far p t < far p (effect_of s p).task
        go (yes l) =
            let is = (effect_keeps s p).own l a.1 in
            subst On (sym is)
            (by_test On (ltb 1 t.left) (λ more _. stays (ltb-true 1 t.left more)) (λ last eq. goes l (ltb-false 1 t.left last) eq)) refl
        go (no ne) = omega (arith, led (effect_of s p) refl (λ l. absurd (ne l)), worked ne)

    -- ---- and of all tasks

    -- N and the table are the same after a move
    same : Constants s (moved s p)
    same = constants_written (effect_of s p).write s p (effect_of s p).task

    after : (q : ℕ) → part (view_of (moved s p)) q ≡ far q (task_at (moved s p) q)
    after q =
        ap (λ (k : ℕ). placed k (table_of (moved s p)) q (task_at (moved s p) q) + extra (task_at (moved s p) q)) same.n
        ∙ ap (λ (table : List ℕ). placed s.n table q (task_at (moved s p) q) + extra (task_at (moved s p) q)) (table_kept s (moved s p) same)

    apart : (q : ℕ) (t : Task) (x : ℕ) → (far q (with_toggle t x) ≡ far q t) × (far q (with_flag t x) ≡ far q t)
    apart q t x =
        let o = b.apart s.n (table_of s) q t x in
        let m : ℕ → ℕ = λ k. t.count * b.L s.n (table_of s) q + k + extra t in
        (ap m o.0, ap m o.1)

    -- a move takes its own part on, and no other
    pub own : part (view_of s) p < part (view_of (moved s p)) p
    own = subst (λ (k : ℕ). part (view_of s) p < k) (sym (after p ∙ own_after (far p) (apart p) s p i.valid a)) own_on

    pub others : (q : ℕ) → q ≢ p → part (view_of (moved s p)) q ≡ part (view_of s) q
    others q ne = after q ∙ other_after (far q) (apart q) s p i.valid a q ne

    -- so it raises Φ
    further : Φ s < Φ (moved s p)
    further =
        subst (λ (k : ℕ). Φ s < sum k (part (view_of (moved s p)))) (sym same.n)
        (sum_raise s.n p (part (view_of s)) (part (view_of (moved s p))) a.0 own (λ q h ne. le_of_eq (sym (others q ne))))

  -- a turn raises Φ, or changes neither Φ nor who is able
  pub either : (s : State) (p : ℕ) → Holds kind b.Inv s
      → (Φ s < Φ (turn_of s p).state) ⊎ ((Φ (turn_of s p).state ≡ Φ s) × ((q : ℕ) → Able s q → Able (turn_of s p).state q))
  either s p i =
      by_move Left s p (λ e. inr (ap far e, λ q a. able_view s (turn_of s p).state q (turn_constants s p).kind e a))
      (λ c m e. inl (subst (λ (k : ℕ). Φ s < k) (sym (ap far e)) (further s p i (moved_able s p c m)))) refl
    where
      far : View → ℕ
      far v = sum v.n (part v)

      -- what is to be shown where the view after the turn is v
      Left : View → Type 0
      Left v = view_of (turn_of s p).state ≡ v
          → (Φ s < Φ (turn_of s p).state) ⊎ ((Φ (turn_of s p).state ≡ Φ s) × ((q : ℕ) → Able s q → Able (turn_of s p).state q))

  -- a turn of an able task raises it, unless it is refused 13
  pub raises : (s : State) (p : ℕ) → Holds kind b.Inv s → Able s p → reason_number (turn_of s p).outcome ≢ 13 → Φ s < Φ (turn_of s p).state
  raises s p i a not_13 =
      let m = able_moves s p i.valid a.0 a.1 not_13 in
      subst (λ (x : State). Φ s < Φ x) (sym (moved_tallied s p m.0 m.1)) (further s p i a)

  -- least * M ≤ Φ < (least + 2) * M
  above : (s : State) → Holds kind b.Inv s → least s * M (view_of s) ≤ Φ s
  above s i =
      le_trans (le_of_eq (sym (sum_mul s.n (least s) (round (view_of s)))))
      (sum_le s.n (λ q. least s * round (view_of s) q) (part (view_of s))
      (λ q h.
      let up = least_le s q h in
      omega (arith, mul-le-mul_right (b.L s.n (table_of s) q) up, mul-le-mul_right ((task_at s q).work - 1) up)))

  -- the work that is done, and what is made of the next, is at most a round's more than the count
  extra_le : (s : State) → Holds kind b.Inv s → (q : ℕ) → q < s.n → extra (task_at s q) ≤ ((task_at s q).count + 1) * ((task_at s q).work - 1)
  extra_le s i q h = go (ℕ_discrete t.line 11)
    where
      t : Task
      t = task_at s q

      once : uncounted b.rise t.line ≤ 1
      once = by_test (λ x. x ≤ 1) (leb 12 t.line) (λ _. by_test (λ x. x ≤ 1) (leb t.line b.rise) (λ _. omega arith) (λ _. omega arith)) (λ _. omega arith)

      go : Dec (t.line ≡ 11) → extra t ≤ (t.count + 1) * (t.work - 1)
      go (yes l) =
          let none : uncounted b.rise t.line ≡ 0 = rw l in
          rw none (omega (arith, ((range s i.valid).tasks q h).left_from))
      go (no ne) = omega (arith, i.left q h ne, mul-le-mul_right (t.work - 1) once)

  under : (s : State) → Holds kind b.Inv s → Φ s < (least s + 2) * M (view_of s)
  under s i =
      let some = (range s i.valid).some in
      let a = least_attained s some in
      lt_of_lt_of_le
      (sum_lt s.n (part (view_of s)) (λ q. (least s + 2) * round (view_of s) q) some
      (λ q h.
      let near : (task_at s q).count ≤ least s + 1 = omega (arith, a.2, b.close s i q a.0 h a.1) in
      omega (arith, b.within s i q h, extra_le s i q h, mul-le-mul_right (b.L s.n (table_of s) q) near, mul-le-mul_right ((task_at s q).work - 1) near)))
      (le_of_eq (sum_mul s.n (least s + 2) (round (view_of s))))

  -- so a state of the same M whose least count is no higher is less than 2 * M further
  pub near : (m : ℕ) (s s' : State) → Holds kind b.Inv s → Holds kind b.Inv s' → M (view_of s) ≡ m → M (view_of s') ≡ m
      → least s' ≤ least s → Φ s' < Φ s + 2 * m
  near m s s' i i' e e' l = omega (arith, rw e at (above s i), rw e' at (under s' i'), mul-le-mul_right m l)
