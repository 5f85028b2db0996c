-- The moves of a round of all tasks together are 10N − 3, since every task but the root is a child exactly once.
use Rattle.std.specs.Prelude.{◌≡◌, refl, List, ◌≢◌, ℕ, zero, suc, ◌+◌, ◌-◌, ◌*◌, ◌≤◌, ◌<◌}
use Rattle.std.proofs.Common.{sym, ap, ◌∙◌, arith, add-one, le-ltb}
use Rattle.std.specs.Int.Count.{ones-ones}
use Rattle.bitset.specs.Set.{size_of}
use Rattle.bitset.specs.SetLaws.{with_size}
use Rattle.bitset.specs.Sum.{sum}
use Rattle.bitset.specs.SumLaws.{sum_same, sum_add, sum_mul, sum_const, sum_put}
use Rattle.parents.specs.Parents.{parent_of, IsTree, children_below}
use Rattle.parents.specs.ParentsLaws.{children_bit, children_none, children_more, children_same}
use Rattle.tree.specs.Round.{children, L}

-- the number of children of q among the tasks below m
abbrev among : List ℕ → ℕ → ℕ → ℕ
among table m q = size_of (children_below table q m)

module _ (n : ℕ) (table : List ℕ) (tree : IsTree table n) (few : n ≤ 64) where
  -- one task more is a child of its parent
  more_own : (r : ℕ) → 0 < r → r < n → among table (r + 1) (parent_of table r) ≡ among table r (parent_of table r) + 1
  more_own r pos h =
      rw (← children_more table (parent_of table r) r pos refl)
      (with_size (children_below table (parent_of table r) r) r (omega arith)
      (children_bit table (parent_of table r) r r (omega arith) ∙ rw (le-ltb r r (omega arith))))

  -- and of no other
  more_other : (r q : ℕ) → 0 < r → q ≢ parent_of table r → among table (r + 1) q ≡ among table r q
  more_other r q pos ne = ap size_of (sym (children_same table q r pos (λ e. ne (sym e))))

  more : (r : ℕ) → 0 < r → r < n → sum n (among table (r + 1)) ≡ sum n (among table r) + 1
  more r pos h =
      omega (
        arith,
        more_own r pos h,
        sum_put n (parent_of table r) (among table r) (among table (r + 1)) (omega (arith, tree.lower r pos h)) (λ q _ ne. sym (more_other r q pos ne)),
      )

  none : (m : ℕ) → m ≤ 1 → sum n (among table m) ≡ 0
  none m h = sum_same n (among table m) (λ q. 0) (λ q _. ap size_of (children_none table q m h) ∙ ones-ones 0) ∙ sum_const n 0 ∙ omega arith

  -- of the tasks below m each but the root is a child once
  children_sum : (m : ℕ) → m ≤ n → sum n (among table m) ≡ m - 1
  children_sum zero h = none 0 (omega arith)
  children_sum (suc zero) h = none 1 (omega arith)
  children_sum (suc (suc m)) h = omega (arith, rw add-one at (more (suc m) (omega arith) h), children_sum (suc m) (omega arith))

pub total : (n : ℕ) (table : List ℕ) → IsTree table n → n ≤ 64 → sum n (L n table) ≡ 10 * n - 3
total n table tree few =
    let all : sum n (children table) ≡ n - 1 = ap (λ (m : ℕ). sum n (among table m)) tree.long ∙ children_sum n table tree few n (omega arith) in
    sum_add n (λ q. 3 * children table q) (λ q. 7) ∙ omega (arith, sum_mul n 3 (children table), sum_const n 7)
