-- The invariant of the symmetric barrier: Iq1 to Iq5 of 001, section 2.1, and one clause more.
-- In range every line is 11, 12, 13 or 14, so `line ≤ 12` says 11 or 12, and `13 ≤ line` says 13 or 14. The tasks on a list are its digits 1.
use Rattle.std.specs.Prelude.{◌≡◌, ℕ, ◌+◌, ◌%◌, ◌≤◌, ◌<◌}
use Rattle.bitset.specs.Set.{bit}
use Rattle.lines.specs.declared.Task.{Task}
use Rattle.barrier.specs.View.{View}

-- what holds of each task t, where R is the modulus
pub record Alone (R : ℕ) (t : Task) : Type 0 where
  -- Iq3: at 13 and 14, tag = (old + 1) mod R
  pub old : 13 ≤ t.line → t.tag ≡ (t.old + 1) % R
  -- Iq4: tag = count mod R
  pub tag : t.tag ≡ t.count % R
  -- one more: at 14 the task looked at is on the list
  pub looked : t.line ≡ 14 → bit t.list t.looked ≡ 1

-- what holds of each task t and each task r, whose count is c
pub record Beside (t : Task) (r c : ℕ) : Type 0 where
  -- Iq1: at 11 and 12, t is not ahead of r
  pub work : t.line ≤ 12 → t.count ≤ c
  -- Iq2: at 13 and 14, r is on the list or t is not ahead of r
  pub seen : 13 ≤ t.line → bit t.list r ≡ 0 → t.count ≤ c
  -- Iq5: t is at most one ahead of r
  pub near : t.count ≤ c + 1

pub record Inv (v : View) : Type 0 where
  pub alone : (q : ℕ) → q < v.n → Alone v.modulus (v.task q)
  pub beside : (q r : ℕ) → q < v.n → r < v.n → Beside (v.task q) r (v.task r).count
