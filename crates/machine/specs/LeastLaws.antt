-- Laws of the least count.
use Rattle.std.specs.Prelude.{◌≡◌, refl, ℕ, ◌-◌, ◌≤◌, ◌<◌}
use Rattle.std.proofs.Common.{arith}
use Rattle.counts.specs.CountsLaws.{lowest_le, lowest_attained}
use Rattle.machine.specs.declared.State.{State}
use Rattle.machine.specs.Setters.{task_at}
use Rattle.machine.specs.Least.{count_of, least_up_to, least}

-- no task has a lower count
pub least_le : (s : State) (q : ℕ) → q < s.n → least s ≤ (task_at s q).count
unfolding least
least_le s q h = lowest_le (count_of s) (s.n - 1) q (omega arith)

-- some task has it
pub least_attained : (s : State) → 0 < s.n → (q : ℕ) × (q < s.n) × (least s ≡ (task_at s q).count)
unfolding least
least_attained s h = let a = lowest_attained (count_of s) (s.n - 1) in (a.0, omega (arith, a.1), a.2)

-- it is told by N and the counts
pub least_same : (s s' : State) → s.n ≡ s'.n → 0 < s'.n → ((q : ℕ) → q < s'.n → (task_at s q).count ≡ (task_at s' q).count) → least s ≡ least s'
least_same s s' e h same =
    let a = least_attained s (omega arith) in
    let b = least_attained s' h in
    omega (arith, a.1, a.2, same a.0 (omega (arith, a.1)), least_le s' a.0 (omega (arith, a.1)), b.1, b.2, same b.0 b.1, least_le s b.0 (omega (arith, b.1)))

-- it is the lowest of the counts
pub least_is : (s : State) → least s ≡ least_up_to s (s.n - 1)
unfolding least
least_is s = refl
