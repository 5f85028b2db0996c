-- What is proved of each barrier: the record of its laws.
use Rattle.std.specs.Prelude.{◌≡◌, List, ◌≢◌, ℕ, ◌+◌, ◌*◌, ◌≤◌, ◌<◌, leb}
use Rattle.bitset.specs.Choice.{pick}
use Rattle.lines.specs.declared.Task.{Task}
use Rattle.lines.specs.declared.Act.TheVariants.{Moves}
use Rattle.lines.specs.Setters.{with_toggle, with_flag, with_left}
use Rattle.lines.specs.Common.{max_count}
use Rattle.machine.specs.declared.State.{State}
use Rattle.machine.specs.Setters.{task_at}
use Rattle.machine.specs.Fresh.{Inputs, fresh_reason, fresh_state}
use Rattle.machine.specs.Range.{Valid, table_of}
use Rattle.machine.specs.Turn.{effect_of, moved_to}
use Rattle.machine.specs.Least.{least}
use Rattle.barrier.specs.View.{View, view_of}

-- a known task whose line can move
abbrev pub Able : State → ℕ → Type 0
Able s p = (p < s.n) × ((effect_of s p).act ≡ Moves)

-- what a move of p writes: its own task and its word. A turn that moves leaves this, with its tally.
abbrev pub moved : State → ℕ → State
moved s p = moved_to s p (effect_of s p).task (effect_of s p).write

-- 02, P6, for every barrier: a task off line 11 has all its moves left
abbrev pub AllLeft : View → Type 0
AllLeft v = (q : ℕ) → q < v.n → (v.task q).line ≢ 11 → (v.task q).left ≡ (v.task q).work

-- a state in range, of this kind, whose view has the invariant
pub record Holds (of : ℕ) (Inv : View → Type 0) (s : State) : Type 0 where
  pub valid : Valid s
  pub kind : s.kind ≡ of
  pub inv : Inv (view_of s)
  pub left : AllLeft (view_of s)

-- a move at 11 that is the last of the work, or a move at another line
abbrev pub Leads : State → ℕ → Type 0
Leads s p = (task_at s p).line ≡ 11 → (effect_of s p).task.line ≡ 12

-- 1 on the lines from 12 up to the one that raises the count: the work is done and not yet counted
abbrev pub uncounted : ℕ → ℕ → ℕ
uncounted rise line = pick (leb 12 line) (pick (leb line rise) 1 0) 0

-- how often a task has done its work
abbrev pub times_done : ℕ → Task → ℕ
times_done rise t = t.count + uncounted rise t.line

pub record Barrier (kind : ℕ) : Type 1 where
  -- the invariant: a fresh state has it, and every move keeps it
  pub Inv : View → Type 0
  pub fresh : (i : Inputs) → fresh_reason i ≡ 0 → i.kind ≡ kind → Inv (view_of (fresh_state i))
  pub keeps : (s : State) (p : ℕ) → Holds kind Inv s → Able s p → Inv (view_of (moved s p))
  -- no two counts differ by more than one
  pub close : (s : State) → Holds kind Inv s → (q r : ℕ) → q < s.n → r < s.n → (task_at s q).count ≤ (task_at s r).count + 1
  -- a task at its own work is never ahead
  pub behind : (s : State) → Holds kind Inv s → (q r : ℕ) → q < s.n → r < s.n → (task_at s q).line ≡ 11 → (task_at s q).count ≤ (task_at s r).count
  -- while the least count is below its limit, some task can move
  pub someone : (s : State) → Holds kind Inv s → least s < max_count → (p : ℕ) × Able s p
  -- the line that raises the count. How often a task has done its work changes at 11 alone: the lines from 12 up to the rise lead to it, and it counts the work
  pub rise : ℕ
  pub later : 12 ≤ rise
  pub done : (s : State) (p : ℕ) → Holds kind Inv s → Able s p → (task_at s p).line ≢ 11 → times_done rise (effect_of s p).task ≡ times_done rise (task_at s p)
  -- a round of task q, with one move of work, has L moves at most, by N and the table; the offset is how far q is in it, by the task itself
  -- but for its toggle and flag, which other tasks write, and the moves left
  pub L : ℕ → List ℕ → ℕ → ℕ
  pub offset : ℕ → List ℕ → ℕ → Task → ℕ
  pub apart : (n : ℕ) (table : List ℕ) (q : ℕ) (t : Task) (x : ℕ)
      → (offset n table q (with_toggle t x) ≡ offset n table q t) × (offset n table q (with_flag t x) ≡ offset n table q t)
      × (offset n table q (with_left t x) ≡ offset n table q t)
  pub within : (s : State) → Holds kind Inv s → (q : ℕ) → q < s.n → offset s.n (table_of s) q (task_at s q) < L s.n (table_of s) q
  -- a move that leads on takes its own task on by one, and past the places in the round that it skips
  pub skips : View → ℕ → ℕ
  pub own : (s : State) (p : ℕ) → Holds kind Inv s → Able s p → Leads s p
      → (effect_of s p).task.count * L s.n (table_of s) p + offset s.n (table_of s) p (effect_of s p).task
      ≡ (task_at s p).count * L s.n (table_of s) p + offset s.n (table_of s) p (task_at s p) + 1 + skips (view_of s) p
