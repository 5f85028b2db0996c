-- What a turn and ready answer besides the state. A refusal is seen as the number of its reason.
use Rattle.std.specs.Prelude.{ℕ, Result, Option}
use Rattle.machine.specs.declared.Move.{Move}

-- "moved .., waited .. or a refusal"
abbrev pub Outcome : Type 0
Outcome = Result Move ℕ

-- the task, or none
abbrev pub Ready : Type 0
Ready = Result (Option ℕ) ℕ
