-- The words of the claims on play-back: what it is for triples to agree, which is the first that does not, and a run woven into triples.
use Rattle.std.specs.Prelude.{◌≡◌, List, [], ◌∷◌, map, ℕ, ◌<◌, length, take, get_or, Ok}
use Rattle.machine.specs.declared.State.{State}
use Rattle.machine.specs.declared.Move.{Move}
use Rattle.machine.specs.Setters.{task_at}
use Rattle.machine.specs.Turn.{turn_of, move_number}
use Rattle.runner.specs.Trace.{trace_of}
use Rattle.runner.specs.Run.{run_of, log_after}
use Rattle.playback.specs.Playback.{Triple}

-- a triple equals what the defined turn of its task does in the state s: "task, line before, 1 moved or 0 waited"
pub record Performs (s : State) (t : Triple) : Type 0 where
  pub how : Move
  pub made : (turn_of s t.task).outcome ≡ Ok how
  pub line : t.line ≡ (task_at s t.task).line
  pub told : t.how ≡ move_number how

-- the tasks of triples, and the state that the first i of them lead to
abbrev pub tasks_of : List Triple → List ℕ
tasks_of ts = map (λ (t : Triple). t.task) ts

abbrev pub led_to : State → List Triple → ℕ → State
led_to s ts i = (trace_of s (tasks_of (take i ts))).state

-- the triple at a place; past the last one there is none, and this is not asked
abbrev pub triple_in : List Triple → ℕ → Triple
triple_in ts i = get_or ts i (record { task = 0; line = 0; how = 0 })

-- every triple equals what the defined turn does from the state that the triples before lead to
abbrev pub AllDo : State → List Triple → Type 0
AllDo s ts = (i : ℕ) → i < length ts → Performs (led_to s ts i) (triple_in ts i)

-- the triples before it do what their turns do, it does not, and the state is the one that those before lead to
pub record FirstAt (s : State) (ts : List Triple) (k : ℕ) (end : State) : Type 0 where
  pub within : k < length ts
  pub before : AllDo s (take k ts)
  pub other : Performs (led_to s ts k) (triple_in ts k) → ⊥
  pub state : end ≡ led_to s ts k

-- a schedule and a log, a task and its turn's two bytes at a time
unfoldable pub woven : List ℕ → List ℕ → List ℕ
woven [] log = []
woven (p ∷ ts) [] = []
woven (p ∷ ts) (line ∷ []) = []
woven (p ∷ ts) (line ∷ how ∷ log) = p ∷ line ∷ how ∷ woven ts log

-- the schedule of a run and the log after it, woven into triples, as far as the turns that it made
abbrev pub woven_run : State → List ℕ → ℕ → List ℕ → List ℕ
woven_run s schedule allowance log = woven (take (run_of s schedule allowance log).turns schedule) (log_after s schedule allowance log)
