-- The invariant of the fetch-and-increment barrier (001, section 2.2), without the note's ghost variables. There is a c such that
-- either the tasks gather, or all have arrived and one of them, the note's butler, opens the next round.
use Rattle.std.specs.Prelude.{◌≡◌, ◌≢◌, ℕ, ◌+◌, ◌*◌, ◌≤◌, ◌<◌}
use Rattle.bitset.specs.Sum.{sum}
use Rattle.lines.specs.declared.Task.{Task}
use Rattle.barrier.specs.View.{View}

-- aim ≠ sense, both being 0 or 1
abbrev pub Opposed : ℕ → ℕ → Type 0
Opposed aim sense = aim + sense ≡ 1

-- the task has counted this round, and the sense has not turned since: a guest at 16, the butler at 14 or 15
pub record Arrived (line sense c : ℕ) (t : Task) : Type 0 where
  pub at : t.line ≡ line
  -- Iq8
  pub aim : Opposed t.aim sense
  -- Jq3, Jq4, Jq5
  pub count : t.count ≡ c + 1

-- where a task is while the tasks gather: nobody is at 14 or 15 (Iq2)
pub data Stage (sense c : ℕ) (t : Task) : Type 0 where
  -- at 11 or 12 (Jq1)
  outside : 11 ≤ t.line → t.line ≤ 12 → t.count ≡ c → Stage sense c t
  -- at 13 (Iq9, Jq1)
  entering : t.line ≡ 13 → Opposed t.aim sense → t.count ≡ c → Stage sense c t
  -- at 16, free to go (Jq2)
  leaving : t.line ≡ 16 → t.aim ≡ sense → t.count ≡ c → Stage sense c t
  -- at 16, held (Iq5, Kq1)
  guest : Arrived 16 sense c t → Stage sense c t

-- (A) the tasks gather
pub record Gathering (n arrivals sense c : ℕ) (t : ℕ → Task) : Type 0 where
  -- Iz1, Kq2
  pub few : arrivals < n
  -- Iq4: arrivals is the number of guests
  pub total : sum n (λ q. (t q).count) ≡ n * c + arrivals
  pub each : (q : ℕ) → q < n → Stage sense c (t q)

-- (B) all have arrived (Iq6): the butler b is at `line`, and every other task is a guest
pub record Opening (b line n sense c : ℕ) (t : ℕ → Task) : Type 0 where
  pub known : b < n
  -- Iq1
  pub butler : Arrived line sense c (t b)
  -- Iq3
  pub others : (q : ℕ) → q < n → q ≢ b → Arrived 16 sense c (t q)

-- the butler is at 14 until it has cleared arrivals, and then at 15
pub data Phase (n arrivals sense c : ℕ) (t : ℕ → Task) : Type 0 where
  gathering : Gathering n arrivals sense c t → Phase n arrivals sense c t
  full : (b : ℕ) → arrivals ≡ n → Opening b 14 n sense c t → Phase n arrivals sense c t
  -- Iq7
  cleared : (b : ℕ) → arrivals ≡ 0 → Opening b 15 n sense c t → Phase n arrivals sense c t

-- the invariant; c is the least count while the tasks gather
pub record Inv (v : View) : Type 0 where
  pub c : ℕ
  pub phase : Phase v.n v.arrivals v.sense c v.task
