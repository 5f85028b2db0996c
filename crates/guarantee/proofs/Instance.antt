-- The four barriers as instances of the counting argument, over single turns.
use Rattle.std.specs.Prelude.{◌≡◌, refl, List, ◌≢◌, ◌⊎◌, ℕ, zero, suc, ◌+◌, ◌-◌, ◌*◌, ◌≤◌, ◌<◌}
use Rattle.std.proofs.Common.{◌∙◌, inl, inr, le_refl, arith}
use Rattle.bitset.specs.Sum.{sum}
use Rattle.bitset.specs.SumLaws.{sum_same, sum_add, sum_const}
use Rattle.lines.specs.Common.{max_count}
use Rattle.machine.specs.declared.State.{State}
use Rattle.machine.specs.Setters.{task_at}
use Rattle.machine.specs.Range.{table_of, Valid}
use Rattle.machine.specs.Turn.{turn_of}
use Rattle.machine.proofs.TurnLaws.{turn_constants}
use Rattle.machine.specs.RangeLaws.{range}
use Rattle.machine.specs.Least.{least}
use Rattle.machine.proofs.CountLaws.{turn_least}
use Rattle.barrier.specs.View.{view_of}
use Rattle.barrier.specs.Barrier.{Able, Holds, Barrier}
use Rattle.barrier.specs.Moves.{keeps_all}
use Rattle.barrier.specs.Place
use Rattle.schedule.specs.Stretch.{CutInto}
use Rattle.progress.specs.Counting.{Counting}
use Rattle.progress.specs.Progress.{progress}
use Rattle.symmetric.proofs.Symmetric.{symmetric}
use Rattle.increment.proofs.Increment.{increment}
use Rattle.ring.proofs.Ring.{ring}
use Rattle.tree.proofs.Tree.{tree}
use Rattle.tree.proofs.TreeRange.{is_tree}
use Rattle.tree.proofs.Total.{total}
use Rattle.bound.specs.Bound.{M₁, W, M}
use Rattle.guarantee.specs.Calls.{works_of}
use Rattle.barrier.specs.Work.{after_turns}
use Rattle.guarantee.proofs.Turns.{turned_to, Counts, after_turns_lem, AllCounted}

-- the barrier of a kind
unfoldable pub barrier_of : (kind : ℕ) → kind ≤ 3 → Barrier kind
barrier_of zero h = symmetric
barrier_of (suc zero) h = increment
barrier_of (suc (suc zero)) h = ring
barrier_of (suc (suc (suc zero))) h = tree
barrier_of (suc (suc (suc (suc k)))) h = absurd (omega arith)

-- the moves of a round in a state, all tasks together
abbrev pub moves_of : {kind : ℕ} → Barrier kind → State → ℕ
moves_of b s = Place.M b (view_of s)

module _ {kind : ℕ} (b : Barrier kind) (n m : ℕ) where
  -- the invariant, with N and M as they are
  record Fixed (s : State) : Type 0 where
    inv : Holds kind b.Inv s
    tasks : s.n ≡ n
    moves : moves_of b s ≡ m

  fixed_turn : (s : State) (p : ℕ) → Fixed s → Fixed (turn_of s p).state
  fixed_turn s p f =
      record {
        inv = keeps_all b s p f.inv;
        tasks = (turn_constants s p).n ∙ f.tasks;
        moves = Place.same_M b s p ∙ f.moves;
      }

  -- a task below N
  known : {p k : ℕ} → k ≡ n → p < k → p < n
  known e h = omega arith

  -- 02, P3: "a turn refused 13 isn't counted"
  not_13 : {r : ℕ} → (r ≡ 0) ⊎ (r ≡ 11) → r ≢ 13
  not_13 (inl e) = omega arith
  not_13 (inr e) = omega arith

  counting : Counting State n turned_to Counts
  counting =
      record {
        Inv = Fixed;
        least = least;
        limit = max_count;
        window = 2 * m;
        Φ = Place.Φ b;
        Able = Able;
        keeps = fixed_turn;
        moves = λ s p f a k. Place.raises b s p f.inv a (not_13 k);
        either = λ s p f. Place.either b s p f.inv;
        rises = λ s p f. turn_least s p (range s f.inv.valid).some;
        near = λ s s' f f' l. Place.near b m s s' f.inv f'.inv f.moves f'.moves l;
        someone = λ s f low. let a = b.someone s f.inv low in (a.0, known f.tasks a.1.0, a.1);
      }

-- the progress rule, for a barrier's M
pub rises : {kind : ℕ} (b : Barrier kind) (s : State) (ts : List ℕ) → Holds kind b.Inv s → least s < max_count → AllCounted s ts
    → CutInto s.n (2 * moves_of b s) ts → least s < least (after_turns s ts)
unfolding counting
rises b s ts i low counts cut =
    rw (← after_turns_lem s ts) (progress (counting b s.n (moves_of b s)) s ts (record { inv = i; tasks = refl; moves = refl }) low counts cut (le_refl (2 * moves_of b s)))

-- the moves of the work beyond the first of each task are W
paper_W : (s : State) → Valid s → sum s.n (λ q. (task_at s q).work - 1) ≡ W s.n (works_of s)
paper_W s ok =
    let each : (q : ℕ) → q < s.n → (task_at s q).work - 1 + 1 ≡ (task_at s q).work
    = λ q h. let mine = (range s ok).tasks q h in omega (arith, mine.left_from, mine.left_to_lem) in
    let all = sum_same s.n (λ q. (task_at s q).work - 1 + 1) (λ q. (task_at s q).work) each in
    omega (arith, all, sum_add s.n (λ q. (task_at s q).work - 1) (λ _. 1), sum_const s.n 1)

-- with one move of work, the moves of a round are the M that demand 3 gives
paper_M₁ : (kind : ℕ) (h : kind ≤ 3) (s : State) → Holds kind (barrier_of kind h).Inv s → sum s.n ((barrier_of kind h).L s.n (table_of s)) ≡ M₁ s.kind s.n
unfolding barrier_of
paper_M₁ zero h s i = sum_const s.n (2 * s.n + 3) ∙ rw i.kind
paper_M₁ (suc zero) h s i = rw i.kind (omega (arith, sum_const s.n 5))
paper_M₁ (suc (suc zero)) h s i = rw i.kind (omega (arith, sum_const s.n 5))
paper_M₁ (suc (suc (suc zero))) h s i = rw i.kind (total s.n (table_of s) (is_tree s i.valid i.kind) (range s i.valid).few)
paper_M₁ (suc (suc (suc (suc k)))) h s i = absurd (omega arith)

-- the moves of a round, all tasks together, are M: demand 3's, and what 02 (P6) adds
pub paper_M : (kind : ℕ) (h : kind ≤ 3) (s : State) → Holds kind (barrier_of kind h).Inv s → moves_of (barrier_of kind h) s ≡ M s.kind s.n (works_of s)
paper_M kind h s i =
    omega (arith, sum_add s.n ((barrier_of kind h).L s.n (table_of s)) (λ q. (task_at s q).work - 1), paper_M₁ kind h s i, paper_W s i.valid)
