-- Ready's promise: for a reached state with its least count below 1,000,000 it answers a task, neither none nor a refusal. 02, P3: it "holds where
-- no move tally is at its limit", of tasks 0 to N − 1.
use Rattle.std.specs.Prelude.{◌≡◌, refl, true, ◌≢◌, ℕ, ◌≤◌, ◌<◌, Ok, Some}
use Rattle.std.proofs.Common.{sym, ap, ◌∙◌, arith}
use Rattle.machine.specs.declared.State.{State}
use Rattle.machine.specs.Setters.{moves_at}
use Rattle.machine.specs.Tally.{max_tally}
use Rattle.machine.proofs.TallyLaws.{moves_limit}
use Rattle.machine.specs.Turn.{is_moved}
use Rattle.machine.proofs.TurnLaws.{turn_moves}
use Rattle.machine.specs.Ready.{ready_of, ready_reason, ready_number}
use Rattle.machine.proofs.ReadyLaws.{would_move, ready_task, ready_some}
use Rattle.machine.specs.RangeLaws.{range}
use Rattle.machine.specs.Least.{least}
use Rattle.centralized.proofs.Turns.{same_least}
use Rattle.guarantee.specs.Calls.{Reached}
use Rattle.guarantee.specs.Promise.{Roomy}
use Rattle.guarantee.proofs.Instance.{barrier_of}
use Rattle.guarantee.proofs.CountsDown.{same_ready}
use Rattle.guarantee.proofs.Reach.{Known, known_first, Stands, own, carried, stands, reached_valid}

-- for a state that has its barrier's invariant
of_known : (s : State) → Known s → least s < 1000000 → Roomy s → (p : ℕ) × ((ready_of s).ready ≡ Ok (Some p))
of_known s k low roomy =
    let able = (barrier_of k.kind k.low).someone s k.inv low in
    let room : moves_at s able.0 < max_tally = below (moves_limit s able.0 k.inv.valid able.1.0) (roomy able.0 able.1.0) in
    let moves : would_move s able.0 ≡ true = ap is_moved (turn_moves s able.0 k.inv.valid able.1.0 able.1.1 room) in
    ready_some s k.inv.valid able.0 able.1.0 moves
  where
    below : {x : ℕ} → x ≤ max_tally → x ≢ max_tally → x < max_tally
    below l ne = omega arith

pub promise : (s : State) → Reached s → least s < 1000000 → Roomy s → (p : ℕ) × ((ready_of s).ready ≡ Ok (Some p))
promise s reached = go (stands s reached)
  where
    go : Stands s → least s < 1000000 → Roomy s → (p : ℕ) × ((ready_of s).ready ≡ Ok (Some p))
    go (own k) = of_known s k
    go (carried s₁ pair) = λ low roomy.
        let c = pair.coupled in
        let found = of_known s₁ (known_first pair) (omega (arith, same_least c (range s pair.valid).some, low)) (rw (c.n, c.moves) roomy) in
        (found.0, sym (same_ready pair) ∙ found.1)

-- the same by the paper's numbers: no reason, and the number of a task that would move, the least
pub promise_numbers : (s : State) → Reached s → least s < 1000000 → Roomy s
    → (ready_reason (ready_of s).ready ≡ 0) × (ready_number (ready_of s).ready < s.n) × (would_move s (ready_number (ready_of s).ready) ≡ true)
promise_numbers s reached low roomy =
    let found = promise s reached low roomy in
    let first = (ready_task s (reached_valid s reached) found.0).0 found.1 in
    rw found.1 (refl, first.known, first.moves)
