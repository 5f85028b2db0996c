-- Numbers of answers that no crate below gives: the reason that refused a call, the place of a run's ending, and what a turn did.
use Rattle.std.specs.Prelude.{◌≡◌, refl, ℕ, zero, suc, Result, Ok, Err}
use Rattle.reason.specs.Checked.{checked}
use Rattle.machine.specs.Answers.{Outcome}
use Rattle.machine.specs.Turn.{move_number, closed_number, reason_number}
use Rattle.runner.specs.declared.Ending.{Ending}
use Rattle.runner.specs.declared.Ending.TheVariants.{Done, Spent, Stopped, Refused}

-- the number of the reason that refused a call; 0 where nothing was refused
abbrev pub refused_reason : {A : Type 0} → Result A ℕ → ℕ
refused_reason (Ok a) = 0
refused_reason (Err k) = k

pub checked_back : (k : ℕ) → refused_reason (checked k) ≡ k
checked_back zero = refl
checked_back (suc k) = refl

pub refused_is : (o : Outcome) → refused_reason o ≡ reason_number o
refused_is (Ok how) = refl
refused_is (Err k) = refl

-- the place that an ending gives; 0 but for reason 9
abbrev pub ending_place : Ending → ℕ
ending_place Done = 0
ending_place Spent = 0
ending_place (Stopped k) = 0
ending_place (Refused r) = r.place

-- 1 if a turn moved, 0 if it waited or was refused
abbrev pub turn_number : Outcome → ℕ
turn_number (Ok how) = move_number how
turn_number (Err k) = 0

-- 1 if a turn closed a round, 0 if it did not or was refused
abbrev pub turn_closed : Outcome → ℕ
turn_closed (Ok how) = closed_number how
turn_closed (Err k) = 0
