-- The trace of a run: the turns that it makes, one by one, and where a refusal ends it (01, "Run").
use Rattle.std.specs.Prelude.{List, [], ◌∷◌, ◌++◌, map, ℕ, eqb, Ok, Err}
use Rattle.bitset.specs.Choice.{pick}
use Rattle.machine.specs.declared.State.{State}
use Rattle.machine.specs.declared.Move.{Move}
use Rattle.machine.specs.Answers.{Outcome}
use Rattle.machine.specs.Setters.{task_at}
use Rattle.machine.specs.Turn.{turn_of}

-- a turn that was made: its task, "the line before the turn", and whether it moved or waited
pub record Row : Type 0 where
  pub task : ℕ
  pub line : ℕ
  pub how : Move

-- what stopped the turns: nothing, or a turn of a task that was refused, with its reason
pub data Stop : Type 0 where
  nothing : Stop
  refusal : ℕ → ℕ → Stop

-- the turns made, the state after them, and what stopped them
pub record Trace : Type 0 where
  pub made : List Row
  pub state : State
  pub stop : Stop

-- one turn in front of a trace: "moved and waited go on, a refusal ends it"
abbrev pub turned : State → ℕ → Outcome → Trace → Trace
turned s p (Ok how) rest = record { made = record { task = p; line = (task_at s p).line; how = how } ∷ rest.made; state = rest.state; stop = rest.stop }
turned s p (Err k) rest = record { made = []; state = s; stop = refusal p k }

-- the trace of the turns ts from the state s
unfoldable pub trace_of : State → List ℕ → Trace
trace_of s [] = record { made = []; state = s; stop = nothing }
trace_of s (p ∷ ts) = let rest = trace_of (turn_of s p).state ts in turned s p (turn_of s p).outcome rest

-- 01, "What demand 3 means": of a run's tasks "none after one that the defined turn refuses, and that one only if it is refused 11"
abbrev pub counted_stop : Stop → List ℕ
counted_stop nothing = []
counted_stop (refusal p k) = pick (eqb k 11) (p ∷ []) []

abbrev pub counted_in : Trace → List ℕ
counted_in t = map (λ (r : Row). r.task) t.made ++ counted_stop t.stop
