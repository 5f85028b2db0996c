use Rattle.std.proofs.Common.{◌≡◌, ◌&&◌, ℕ, ◌+◌, Bool, refl, add-one}
use Rattle.setup.specs.Range.{place_ok}
use Rattle.machine.specs.declared.State.{State}
use Rattle.machine.specs.Setters.{task_at, moves_at, waits_at}
use Rattle.machine.specs.Range.{shared_of, table_of, tally_ok, tasks_ok}
use Rattle.machine.proofs.State.tasks_ok.Goals as goal

-- one task more
one_more : (s : State) (q : ℕ) (ok place moves waits : Bool) → ok ≡ tasks_ok s q
    → place ≡ place_ok (shared_of s) (table_of s) q (task_at s q)
    → moves ≡ tally_ok s.n q (moves_at s q) → waits ≡ tally_ok s.n q (waits_at s q)
    → (ok && (place && (moves && waits))) ≡ tasks_ok s (q + 1)
unfolding tasks_ok
one_more s q ok place moves waits eo ep em ew = rw (add-one q, eo, ep, em, ew)

pub loop-q-init : goal.loop-q-init
unfolding tasks_ok
loop-q-init c = refl

pub loop-q-preserved : goal.loop-q-preserved
loop-q-preserved c =
    one_more c.args.self.now c.loop-q.q _ _ _ _ c.loop-q.invariant c.place_ok.ensures c.tally_ok.ensures c.tally_ok-in-loop-q.ensures
