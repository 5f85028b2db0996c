-- The tasks' counts, as a function of the task's number: the lowest of them, and how many tasks stand at it.
use Rattle.std.specs.Prelude.{◌&&◌, not, ℕ, zero, suc, ◌+◌, ◌-◌, min, eqb, ltb}
use Rattle.bitset.specs.Choice.{pick}
use Rattle.counts.specs.declared.Least.{Least}

-- the lowest count of the tasks 0 to m
unfoldable pub lowest : (ℕ → ℕ) → ℕ → ℕ
lowest f zero = f zero
lowest f (suc m) = min (lowest f m) (f (suc m))

-- how many of the tasks 0 to n − 1 have the count c
unfoldable pub standing : (ℕ → ℕ) → ℕ → ℕ → ℕ
standing f zero c = 0
standing f (suc n) c = standing f n c + pick (eqb (f n) c) 1 0

-- 01: "the least count is the lowest of them", of the tasks 0 to n − 1, and how many of these stand at it
abbrev pub least_among : (ℕ → ℕ) → ℕ → Least
least_among f n = record { count = lowest f (n - 1); tasks = standing f n (lowest f (n - 1)) }

-- the same with one task more, which has this count
abbrev pub joined_of : Least → ℕ → Least
joined_of l count =
    pick (ltb count l.count) (record { count = count; tasks = 1 })
    (pick (eqb count l.count) (record { count = count; tasks = l.tasks + 1 }) l)

-- 1 if a task whose count goes from `count` to `next` takes the least count with it: it stood there, and no other did; else 0
abbrev pub closes_of : Least → ℕ → ℕ → ℕ
closes_of l count next = pick (not (eqb next count) && eqb count l.count && eqb l.tasks 1) 1 0

-- the least count once a task that stood at it has risen, and the counts of n tasks are f then: one task fewer stands at it, and where that
-- was the last, it is found anew
abbrev pub risen_of : Least → (ℕ → ℕ) → ℕ → Least
risen_of l f n = pick (ltb 1 l.tasks) (record { count = l.count; tasks = l.tasks - 1 }) (least_among f n)

-- the least count once a task's count has gone from `count` to `next`, and the counts of n tasks are f then
abbrev pub least_after : Least → ℕ → ℕ → (ℕ → ℕ) → ℕ → Least
least_after l count next f n = pick (not (eqb next count) && eqb count l.count) (risen_of l f n) l
