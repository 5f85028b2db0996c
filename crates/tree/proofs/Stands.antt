-- Where each task stands, by the invariant of the tree barrier.
use Rattle.std.specs.Prelude.{◌≡◌, List, ◌⊎◌, ℕ, zero, suc, ◌+◌, ◌≤◌, ◌<◌}
use Rattle.std.proofs.Common.{inl, inr, arith, ne_eqb}
use Rattle.std.proofs.Math.Decide.{ℕ_discrete}
use Rattle.parents.specs.Parents.{parent_of, IsTree}
use Rattle.lines.specs.declared.Task.{Task}
use Rattle.tree.specs.Invariant.{Mid, Low, Top, Want, mid_or_top, top, low, Meets, want, Standing}

-- Iq6: every task is Mid, Low or Top
abbrev Stands : ℕ → Task → Type 0
Stands c t = Mid c t ⊎ (Low c t ⊎ Top c t)

meets_stands : (c : ℕ) (t : Task) (w : Want) → Meets c t w → Stands c t
meets_stands c t mid_or_top (inl m) = inl m
meets_stands c t mid_or_top (inr h) = inr (inr h)
meets_stands c t top h = inr (inr h)
meets_stands c t low h = inr (inl h)

module _ {n : ℕ} {table : List ℕ} {c : ℕ} {t : ℕ → Task} (g : Standing n table c t) where
  stands : (q : ℕ) → q < n → Stands c (t q)
  stands zero h = inl g.root
  stands (suc q) h = meets_stands c (t (suc q)) (want c (t (parent_of table (suc q))) (suc q)) (g.child (suc q) (omega arith) h)

  -- Iq1: a task that doesn't wait at 16 with its flag up is Mid
  pub is_mid : (q : ℕ) → q < n → ((t q).line ≡ 16 → (t q).flag ≡ 0) → Mid c (t q)
  is_mid q h f = go (stands q h)
    where
      go : Stands c (t q) → Mid c (t q)
      go (inl m) = m
      go (inr (inl l)) = absurd (omega (arith, f l.line))
      go (inr (inr h)) = absurd (omega (arith, f h.line))

  -- Jq1: a count is the root's, or one more
  pub near : (q : ℕ) → q < n → (c ≤ (t q).count) × ((t q).count ≤ c + 1)
  near q h = go (stands q h)
    where
      go : Stands c (t q) → (c ≤ (t q).count) × ((t q).count ≤ c + 1)
      go (inl m) = omega arith
      go (inr (inl l)) = omega arith
      go (inr (inr h)) = omega arith

  -- Crit1, Crit2: with the root at 15 every other task is Top, by induction over the task, whose parent is a lower one
  pub all_top : IsTree table n → (t 0).line ≡ 15 → (m r : ℕ) → r ≤ m → 0 < r → r < n → Top c (t r)
  all_top tree e zero r l pos h = absurd (omega arith)
  all_top tree e (suc m) r l pos h = go (ℕ_discrete (parent_of table r) 0) (all_top tree e m (parent_of table r) (omega (arith, tree.lower r pos h)))
    where
      go : Dec (parent_of table r ≡ 0) → (0 < parent_of table r → parent_of table r < n → Top c (t (parent_of table r))) → Top c (t r)
      go (yes z) ih = rw (z, e) at (g.child r pos h)
      go (no ne) ih =
          let up = ih (omega arith) (omega (arith, tree.lower r pos h)) in
          rw (up.line, ne_eqb (t (parent_of table r)).count c (omega arith)) at (g.child r pos h)
