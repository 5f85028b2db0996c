-- Laws of the bound: M by the kinds' classes, and how large its parts are.
use Rattle.std.specs.Prelude.{◌≡◌, refl, ◌≢◌, List, ℕ, zero, suc, ◌+◌, ◌-◌, ◌*◌, ◌≤◌, ◌<◌}
use Rattle.std.proofs.Common.{ap, mul-le-mul, arith}
use Rattle.bitset.specs.Sum.{sum}
use Rattle.bitset.specs.SumLaws.{sum_le, sum_same, sum_const}
use Rattle.setup.specs.Kinds.{last_kind}
use Rattle.setup.specs.Tables.{works_reason, work_of}
use Rattle.setup.specs.TablesLaws.{work_at}
use Rattle.bound.specs.Bound.{M₁, promised}

-- it is told by the kind, N and the work lengths of the tasks below N
pub promised_same : (kind n : ℕ) (f g : ℕ → ℕ) → ((q : ℕ) → q < n → f q ≡ g q) → promised kind n f ≡ promised kind n g
promised_same kind n f g same = ap (λ (w : ℕ). 2 * (M₁ kind n + (w - n))) (sum_same n f g same)

-- demand 3: 5N for the kinds but the symmetric one and the tree
pub five : (kind n : ℕ) → kind ≤ last_kind → kind ≢ 0 → kind ≢ 3 → M₁ kind n ≡ 5 * n
five zero n h z t = absurd (z refl)
five (suc zero) n h z t = refl
five (suc (suc zero)) n h z t = refl
five (suc (suc (suc zero))) n h z t = absurd (t refl)
five (suc (suc (suc (suc zero)))) n h z t = refl
five (suc (suc (suc (suc (suc k))))) n h z t = absurd (omega arith)

-- N(2N+3) is at most that of 64 tasks
pub square_few : (n : ℕ) → n ≤ 64 → n * (2 * n + 3) ≤ 8384
square_few n h = let two : 2 * n + 3 ≤ 131 = omega arith in mul-le-mul h two

-- each work length of an accepted table is 1 or more
pub works_some : (n : ℕ) (works : List ℕ) → works_reason n works ≡ 0 → n ≤ sum n (work_of works)
works_some n works e = omega (arith, sum_le n (λ _. 1) (work_of works) (λ q _. (work_at n works q e).0), sum_const n 1)
