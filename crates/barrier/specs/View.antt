-- A view of a state: what the laws of the barriers look at. The kind and the ranges are joined to it in `Barrier`; whatever else a state keeps
-- is outside of it, so that storing it keeps every invariant.
use Rattle.std.specs.Prelude.{List, ℕ}
use Rattle.lines.specs.declared.Task.{Task}
use Rattle.lines.specs.declared.Effect.{Effect}
use Rattle.lines.specs.Rule.{effect_from}
use Rattle.machine.specs.declared.State.{State}
use Rattle.machine.specs.Setters.{task_at}
use Rattle.machine.specs.Range.{table_of}

-- the tasks are a function of their number
pub record View : Type 0 where
  pub n : ℕ
  pub modulus : ℕ
  pub table : List ℕ
  pub arrivals : ℕ
  pub sense : ℕ
  pub task : ℕ → Task

abbrev pub view_of : State → View
view_of s = record { n = s.n; modulus = s.modulus; table = table_of s; arrivals = s.arrivals; sense = s.sense; task = task_at s }

-- what the line of the task p does, by the kind and the view alone
abbrev pub effect_at : ℕ → View → ℕ → Effect
effect_at kind v p =
    effect_from (record { kind = kind; n = v.n; modulus = v.modulus; arrivals = v.arrivals; sense = v.sense })
    v.table p (v.task p) (v.task (v.task p).looked)
