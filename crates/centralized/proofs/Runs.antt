-- Coupled states answer every run alike, and are coupled after it.
use Rattle.std.specs.Prelude.{◌≡◌, refl, List, [], ◌∷◌, ℕ, Ok, Err}
use Rattle.machine.specs.declared.State.{State}
use Rattle.machine.specs.Answers.{Outcome}
use Rattle.machine.specs.Turn.{turn_of}
use Rattle.machine.proofs.TurnLaws.{turn_makes}
use Rattle.runner.specs.Trace.{Trace, turned, trace_of}
use Rattle.runner.specs.TraceLaws.{trace_none, trace_turn}
use Rattle.runner.specs.Run.{run_reason}
use Rattle.runner.specs.RunLaws.{run_alike}
use Rattle.centralized.specs.Coupling.{Pair}
use Rattle.centralized.proofs.Turns.{same_line, turns}

-- two traces with the same turns, the same stop, and coupled states after them
pub record Traced (t₁ t₄ : Trace) : Type 0 where
  pub made : t₁.made ≡ t₄.made
  pub stop : t₁.stop ≡ t₄.stop
  pub pair : Pair t₁.state t₄.state

pub traces : {s₁ s₄ : State} → Pair s₁ s₄ → (ts : List ℕ) → Traced (trace_of s₁ ts) (trace_of s₄ ts)
traces {s₁} {s₄} pair [] = rw (trace_none s₁, trace_none s₄) (record { made = refl; stop = refl; pair = pair })
traces {s₁} {s₄} pair (p ∷ ts) =
    let next = turns pair p in
    rw (trace_turn s₁ p ts, trace_turn s₄ p ts, next.0) (go (turn_of s₄ p).outcome refl (traces {s₁ = (turn_of s₁ p).state} {s₄ = (turn_of s₄ p).state} next.1 ts))
  where
    go : (o : Outcome) → (turn_of s₄ p).outcome ≡ o → Traced (trace_of (turn_of s₁ p).state ts) (trace_of (turn_of s₄ p).state ts)
        → Traced (turned s₁ p o (trace_of (turn_of s₁ p).state ts)) (turned s₄ p o (trace_of (turn_of s₄ p).state ts))
    go (Ok how) e r =
        record { made = rw (same_line pair.coupled p (turn_makes s₄ p how e).known, r.made); stop = r.stop; pair = r.pair }
    go (Err k) e r = record { made = refl; stop = refl; pair = pair }

-- a run is refused as a whole for the same reason
pub same_reason : {s₁ s₄ : State} → Pair s₁ s₄ → (schedule : List ℕ) (allowance room : ℕ) → run_reason s₁ schedule allowance room ≡ run_reason s₄ schedule allowance room
same_reason {s₁} {s₄} pair schedule allowance room = run_alike s₁ s₄ schedule allowance room pair.first.valid pair.valid pair.coupled.n
