-- The tallies (02, P3): how often each task has moved and waited since the fresh state.
use Rattle.std.specs.Prelude.{List, ℕ, ◌+◌, get_or, set}
use Rattle.machine.specs.declared.State.{State}
use Rattle.machine.specs.Setters.{with_moves, with_waits}

-- "Each task in the state gets both tallies, fresh 0, at most 4,000,000,000 each."
abbrev pub max_tally : ℕ
max_tally = 4000000000

-- the tallies with that of p raised by so many, and no other's
abbrev pub tallied : List ℕ → ℕ → ℕ → List ℕ
tallied tallies p more = set tallies p (get_or tallies p 0 + more)

-- "A moved turn also raises its task's move tally by one;
abbrev pub move_tallied : State → ℕ → State
move_tallied s p = with_moves s (tallied s.moves p 1)

-- in demand 2 a turn that waits now raises its task's wait tally by one and nothing else."
abbrev pub wait_tallied : State → ℕ → State
wait_tallied s p = with_waits s (tallied s.waits p 1)
