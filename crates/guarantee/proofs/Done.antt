-- When no turn of a schedule is refused: from a reached state whose counts and tallies cannot come to their limits.
use Rattle.std.specs.Prelude.{◌≡◌, List, [], ◌∷◌, ℕ, suc, ◌+◌, ◌≤◌, ◌<◌, length, get_or, Ok, Err}
use Rattle.std.proofs.Common.{ap, le_of_eq, arith}
use Rattle.lines.specs.declared.Task.{Task}
use Rattle.lines.specs.Common.{max_count}
use Rattle.machine.specs.declared.State.{State}
use Rattle.machine.specs.Answers.{Outcome}
use Rattle.machine.specs.Setters.{task_at, moves_at, waits_at}
use Rattle.machine.specs.Fresh.{Inputs, fresh_state, fresh_task}
use Rattle.machine.specs.FreshLaws.{fresh_at, fresh_tally}
use Rattle.machine.specs.Turn.{turn_of}
use Rattle.machine.proofs.TurnLaws.{turn_constants}
use Rattle.machine.proofs.CountLaws.{turn_rises}
use Rattle.machine.proofs.RefusalLaws.{Goes, turn_goes}
use Rattle.machine.proofs.TallyLaws.{tallies_rise}
use Rattle.runner.specs.Trace.{nothing, turned, trace_of}
use Rattle.runner.specs.TraceLaws.{trace_none, trace_turn}
use Rattle.guarantee.specs.Calls.{turn, Reached, called}
use Rattle.guarantee.proofs.Reach.{reached_valid, reached_7}

-- the count and the tallies of each task are at most k
pub record Low (s : State) (k q : ℕ) : Type 0 where
  pub count : (task_at s q).count ≤ k
  pub moves : moves_at s q ≤ k
  pub waits : waits_at s q ≤ k

-- all are 0 in a fresh state
pub fresh_low : (i : Inputs) (q : ℕ) → q < i.n → Low (fresh_state i) 0 q
fresh_low i q h =
    let none = fresh_tally i q in
    record {
      count = le_of_eq (ap (λ (t : Task). t.count) (fresh_at i.n q (fresh_task i) h));
      moves = le_of_eq none.0;
      waits = le_of_eq none.1;
    }

low_turn : (s : State) (p k q : ℕ) → Low s k q → Low (turn_of s p).state (k + 1) q
low_turn s p k q low =
    let up = tallies_rise s p q in
    record {
      count = omega (arith, turn_rises s p q, low.count);
      moves = omega (arith, up.0, low.moves);
      waits = omega (arith, up.1, low.waits);
    }

-- where no count and no tally is above k, and k and the turns together are at most the counts' limit, no turn is refused
pub turns_done : (s : State) (ts : List ℕ) (k : ℕ) → Reached s → ((q : ℕ) → q < s.n → Low s k q) → k + length ts ≤ max_count
    → ((i : ℕ) → i < length ts → get_or ts i 0 < s.n) → (trace_of s ts).stop ≡ nothing
turns_done s [] k r low room known = rw (trace_none s)
turns_done s (p ∷ ts) k r low room known =
    rw (trace_turn s p ts)
    (go (turn_of s p).outcome
    (turn_goes s p (reached_valid s r) first (omega (arith, here.count)) (omega (arith, here.moves)) (omega (arith, here.waits)) (λ _. reached_7 s p r))
    (turns_done (turn_of s p).state ts (k + 1) (called s r (turn p))
    (λ q h. low_turn s p k q (low q (rw (turn_constants s p).n at h))) (omega arith)
    (λ i l. rw (turn_constants s p).n (known (suc i) (omega arith)))))
  where
    first : p < s.n
    first = known 0 (omega arith)

    here : Low s k p
    here = low p first

    go : (o : Outcome) → Goes o → (trace_of (turn_of s p).state ts).stop ≡ nothing → (turned s p o (trace_of (turn_of s p).state ts)).stop ≡ nothing
    go (Ok how) g e = e
    go (Err k) g e = absurd g
