-- What a write makes of each word that it can reach: the arrivals, the sense, and the task that is written to.
use Rattle.std.specs.Prelude.{Bool, true, false, ℕ}
use Rattle.lines.specs.declared.Task.{Task}
use Rattle.lines.specs.declared.Write.{Write}
use Rattle.lines.specs.declared.Write.TheVariants.{Nothing, Arrivals, Sense, Toggle, Flag}
use Rattle.lines.specs.Setters.{with_toggle, with_flag}

-- whether anything is written
abbrev pub writes : Write → Bool
writes Nothing = false
writes (Arrivals x) = true
writes (Sense x) = true
writes (Toggle q x) = true
writes (Flag q x) = true

abbrev pub arrivals_after : Write → ℕ → ℕ
arrivals_after Nothing old = old
arrivals_after (Arrivals x) old = x
arrivals_after (Sense x) old = old
arrivals_after (Toggle q x) old = old
arrivals_after (Flag q x) old = old

abbrev pub sense_after : Write → ℕ → ℕ
sense_after Nothing old = old
sense_after (Arrivals x) old = old
sense_after (Sense x) old = x
sense_after (Toggle q x) old = old
sense_after (Flag q x) old = old

-- the task that is written to; the own one where none is
abbrev pub place_of : Write → ℕ → ℕ
place_of Nothing own = own
place_of (Arrivals x) own = own
place_of (Sense x) own = own
place_of (Toggle q x) own = q
place_of (Flag q x) own = q

abbrev pub task_after : Write → Task → Task
task_after Nothing t = t
task_after (Arrivals x) t = t
task_after (Sense x) t = t
task_after (Toggle q x) t = with_toggle t x
task_after (Flag q x) t = with_flag t x
