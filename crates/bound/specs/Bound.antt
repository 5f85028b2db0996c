-- The bound of demand 3, by kind, N and the work lengths: how many passes surely raise the least count. The theorem (`guarantee`) and the
-- call that tells the number (`limit`) both cite `promised`.
use Rattle.std.specs.Prelude.{List, ℕ, ◌+◌, ◌-◌, ◌*◌, eqb, Result}
use Rattle.bitset.specs.Choice.{pick}
use Rattle.bitset.specs.Sum.{sum}
use Rattle.reason.specs.Checked as checks
use Rattle.setup.specs.Tables.{work_of}
use Rattle.setup.specs.Reasons.{limit_reason}

-- demand 3: "M is N(2N+3) symmetric, 5N fetch-and-increment and ring, 10N − 3 tree": with one move of work in a round.
-- 02, P7: "M is as for kind 1", for kind 4.
abbrev pub M₁ : ℕ → ℕ → ℕ
M₁ kind n =
    pick (eqb kind 0) (n * (2 * n + 3))
    (pick (eqb kind 1) (5 * n)
    (pick (eqb kind 2) (5 * n)
    (pick (eqb kind 3) (10 * n - 3)
    (pick (eqb kind 4) (5 * n) 0))))

-- 02, P6: "the sum of all work lengths less N"
abbrev pub W : ℕ → (ℕ → ℕ) → ℕ
W n work = sum n work - n

-- "In the progress rule M grows by" it
abbrev pub M : ℕ → ℕ → (ℕ → ℕ) → ℕ
M kind n work = M₁ kind n + W n work

-- demand 3: "2 × M stretches that each name every task raise the least count"
abbrev pub promised : ℕ → ℕ → (ℕ → ℕ) → ℕ
promised kind n work = 2 * M kind n work

-- what a caller outside is told: 0 and the passes, or the reason that refused the call and 0
pub record Promised : Type 0 where
  pub reason : ℕ
  pub passes : ℕ

-- refused for the kind (2), N (3) and the work table (15); R and the other tables are not asked, since M has no part of them
abbrev pub limit_of : ℕ → ℕ → List ℕ → Promised
limit_of kind n works =
    record {
      reason = limit_reason kind n works;
      passes = pick (eqb (limit_reason kind n works) 0) (promised kind n (work_of works)) 0;
    }

-- the call's answer: the passes, or the reason
abbrev pub answered : Promised → Result ℕ ℕ
answered p = checks.answered p.passes p.reason
