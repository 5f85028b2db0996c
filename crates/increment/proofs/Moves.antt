-- Who can move: while the tasks gather, any task with the least count; else the butler.
use Rattle.std.specs.Prelude.{◌≡◌, refl, ℕ, ◌+◌, ◌≤◌, ◌<◌}
use Rattle.std.proofs.Common.{le_of_suc-le-suc, lt_of_not-le, arith, eq-eqb, lt-ltb}
use Rattle.std.proofs.lemmas.Bool.{lt-leb}
use Rattle.bitset.specs.Sum.{sum}
use Rattle.bitset.specs.SumLaws.{sum_le, sum_const}
use Rattle.lines.specs.declared.Task.{Task}
use Rattle.lines.specs.declared.Effect.{Effect}
use Rattle.lines.specs.declared.Act.TheVariants.{Moves}
use Rattle.lines.specs.Common.{max_count}
use Rattle.lines.specs.LineLaws.{by_increment}
use Rattle.machine.specs.declared.State.{State}
use Rattle.machine.specs.Setters.{task_at}
use Rattle.machine.proofs.TurnLaws.{effect_1}
use Rattle.machine.specs.Least.{least}
use Rattle.machine.specs.LeastLaws.{least_le, least_attained}
use Rattle.machine.specs.RangeLaws.{TaskIn, range}
use Rattle.barrier.specs.Barrier.{Able, Holds}
use Rattle.barrier.specs.Lines.{work_moves}
use Rattle.increment.specs.Invariant.{Stage, outside, entering, leaving, guest, Gathering, Opening, Phase, gathering, full, cleared, Inv}

-- the line of a task of this barrier moves: 13 below both limits, 16 once the sense has turned, and every other line
module _ (s : State) (p : ℕ) (i : Holds 1 Inv s) (h : p < s.n) where
  moves : ((task_at s p).line ≡ 13 → (s.arrivals < s.n) × ((task_at s p).count < max_count)) → ((task_at s p).line ≡ 16 → s.sense ≡ (task_at s p).aim) → Able s p
  moves at_13 at_16 = (
    h,
    rw (effect_1 s p i.kind)
        (by_increment Acts t.line t (λ out. absurd (omega (arith, out mine.line_from, last))) (λ _. work_moves t) s.n s.arrivals s.sense (λ _. refl)
        (λ l. rw (lt-leb s.n s.arrivals (at_13 l).0, lt-ltb t.count max_count (at_13 l).1)) (λ _. refl) (λ _. refl)
        (λ l. rw (eq-eqb s.sense t.aim (at_16 l)))),
  )
    where
      t : Task
      t = task_at s p

      Acts : Effect → Type 0
      Acts e = e.act ≡ Moves

      mine : TaskIn s p t
      mine = (range s i.valid).tasks p h

      last : t.line ≤ 16
      last = rw i.kind at mine.line_to

  -- while the tasks gather, a task that is not ahead
  early_moves : (c : ℕ) → Stage s.sense c (task_at s p) → (task_at s p).count ≤ c → s.arrivals < s.n → (task_at s p).count < max_count → Able s p
  early_moves c (outside a b e) l few low = moves (λ m. absurd (omega arith)) (λ m. absurd (omega arith))
  early_moves c (entering m a e) l few low = moves (λ _. (few, low)) (λ n. absurd (omega arith))
  early_moves c (leaving m a e) l few low = moves (λ n. absurd (omega arith)) (λ _. omega arith)
  early_moves c (guest a) l few low = absurd (omega arith)

-- the least count is then at most c: were every count more, the sum would be
least_low : (s : State) (c : ℕ) → Gathering s.n s.arrivals s.sense c (task_at s) → least s ≤ c
least_low s c g = le_of_suc-le-suc (lt_of_not-le (λ l. omega (arith, g.few, g.total, sum_const s.n (c + 1), more l)))
  where
    more : c < least s → sum s.n (λ q. c + 1) ≤ sum s.n (λ q. (task_at s q).count)
    more l = sum_le s.n (λ q. c + 1) (λ q. (task_at s q).count) (λ q h. omega (arith, least_le s q h))

pub someone : (s : State) → Holds 1 Inv s → least s < max_count → (p : ℕ) × Able s p
someone s i low = go i.inv.c i.inv.phase
  where
    -- the butler, at 14 or 15
    opens : (b line c : ℕ) → 14 ≤ line → line ≤ 15 → Opening b line s.n s.sense c (task_at s) → (p : ℕ) × Able s p
    opens b line c from to o = (b, moves s b i o.known (λ l. absurd (omega (arith, o.butler.at))) (λ l. absurd (omega (arith, o.butler.at))))

    go : (c : ℕ) → Phase s.n s.arrivals s.sense c (task_at s) → (p : ℕ) × Able s p
    go c (gathering g) =
        let (q, h, e) = least_attained s (range s i.valid).some in
        (q, early_moves s q i h c (g.each q h) (omega (arith, least_low s c g)) g.few (omega arith))
    go c (full b e o) = opens b 14 c (omega arith) (omega arith) o
    go c (cleared b e o) = opens b 15 c (omega arith) (omega arith) o
