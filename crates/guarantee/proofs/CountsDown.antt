-- 02's P7: kinds 1 and 4 show the same under every list of turns and runs, and in every play-back. The words stand in Answers.antt, and what demand 3 and
-- ready's promise need of it beside the claim.
use Rattle.std.specs.Prelude.{◌≡◌, refl, Bool, true, false, List, [], ◌∷◌, ℕ, suc, length, take, Ok, Err}
use Rattle.std.proofs.Common.{sym, ap, ◌∙◌, arith, ne_eqb}
use Rattle.std.proofs.Math.Decide.{ℕ_discrete}
use Rattle.bitset.specs.Choice.{pick}
use Rattle.machine.specs.declared.State.{State}
use Rattle.machine.specs.Answers.{Outcome}
use Rattle.machine.specs.Fresh.{Inputs, fresh_reason, fresh_state, zero_state, fresh_of}
use Rattle.machine.specs.FreshLaws.{fresh_accepted}
use Rattle.machine.specs.Turn.{turn_of}
use Rattle.machine.proofs.TurnLaws.{turn_makes}
use Rattle.machine.specs.Ready.{ready_from, ready_of}
use Rattle.machine.proofs.ReadyLaws.{ready_alike, ready_is}
use Rattle.bound.specs.BoundLaws.{promised_same}
use Rattle.runner.specs.Trace.{trace_of}
use Rattle.runner.specs.Run.{run_reason, run_of}
use Rattle.runner.specs.RunLaws.{run_accepts, run_refuses, log_accepts, log_refuses}
use Rattle.centralized.specs.Coupling.{Pair}
use Rattle.centralized.proofs.Fresh.{fresh_pair}
use Rattle.centralized.proofs.Turns.{same_line, same_count, same_work, turns}
use Rattle.centralized.proofs.Runs.{Traced, traces, same_reason}
use Rattle.playback.specs.declared.Verdict.TheVariants as verdict
use Rattle.playback.specs.declared.Played.{Played}
use Rattle.playback.specs.Playback.{Triple, triples_of, equals, does, play_from, trace_reason, play_reason, play_of}
use Rattle.playback.specs.PlaybackLaws.{reason_trace, play_refused, play_accepted, from_none, from_triple}
use Rattle.guarantee.specs.Calls.{Call, turn, run, after, after_all, counted_turn, counted, counted_all, works_of, promised_in}
use Rattle.guarantee.specs.Answers.{turned, answer, answers, Alike, Down, PlaysDown}

-- ---- a call of coupled states

pub record Same (s₁ s₄ : State) (c : Call) : Type 0 where
  pub answered : answer s₁ c ≡ answer s₄ c
  pub counting : counted s₁ c ≡ counted s₄ c
  pub pair : Pair (after s₁ c) (after s₄ c)

run_same : {s₁ s₄ : State} → Pair s₁ s₄ → (schedule : List ℕ) (allowance : ℕ) (log : List ℕ) → Same s₁ s₄ (run schedule allowance log)
run_same {s₁} {s₄} pair schedule allowance log = go (ℕ_discrete (run_reason s₄ schedule allowance (length log)) 0)
  where
    same : run_reason s₁ schedule allowance (length log) ≡ run_reason s₄ schedule allowance (length log)
    same = same_reason pair schedule allowance (length log)

    t : Traced (trace_of s₁ (take allowance schedule)) (trace_of s₄ (take allowance schedule))
    t = traces pair (take allowance schedule)

    -- the states that the runs return
    Paired : Type 0
    Paired = Pair (run_of s₁ schedule allowance log).state (run_of s₄ schedule allowance log).state

    go : Dec (run_reason s₄ schedule allowance (length log) ≡ 0) → Same s₁ s₄ (run schedule allowance log)
    go (yes e) =
        let r₁ = run_accepts s₁ schedule allowance log (same ∙ e) in
        let r₄ = run_accepts s₄ schedule allowance log e in
        let after : Paired = rw (r₁, r₄) t.pair in
        let logged₁ = log_accepts s₁ schedule allowance log (same ∙ e) in
        let logged₄ = log_accepts s₄ schedule allowance log e in
        record { answered = rw (r₁, r₄, logged₁, logged₄, t.made, t.stop); counting = rw (same, t.made, t.stop); pair = after }
    go (no ne) =
        let r₁ = run_refuses s₁ schedule allowance log (λ z. ne (sym same ∙ z)) in
        let r₄ = run_refuses s₄ schedule allowance log ne in
        let after : Paired = rw (r₁, r₄) pair in
        let logged₁ = log_refuses s₁ schedule allowance log (λ z. ne (sym same ∙ z)) in
        let logged₄ = log_refuses s₄ schedule allowance log ne in
        record { answered = rw (r₁, r₄, logged₁, logged₄, same, pair.coupled.n); counting = rw (same, ne_eqb _ 0 ne); pair = after }

pub call_same : {s₁ s₄ : State} → Pair s₁ s₄ → (c : Call) → Same s₁ s₄ c
call_same pair (turn p) =
    let next = turns pair p in
    record { answered = ap turned next.0; counting = ap (counted_turn p) next.0; pair = next.1 }
call_same pair (run schedule allowance log) = run_same pair schedule allowance log

-- ---- all calls

pub record SameAll (s₁ s₄ : State) (cs : List Call) : Type 0 where
  pub answered : answers s₁ cs ≡ answers s₄ cs
  pub counting : counted_all s₁ cs ≡ counted_all s₄ cs
  pub pair : Pair (after_all s₁ cs) (after_all s₄ cs)

pub calls_same : {s₁ s₄ : State} → Pair s₁ s₄ → (cs : List Call) → SameAll s₁ s₄ cs
unfolding answers counted_all after_all
calls_same {s₁ = s₁} {s₄ = s₄} pair [] = record { answered = refl; counting = refl; pair = pair }
calls_same {s₁ = s₁} {s₄ = s₄} pair (c ∷ cs) =
    let one = call_same pair c in
    let rest = calls_same {s₁ = after s₁ c} {s₄ = after s₄ c} one.pair cs in
    record { answered = rw (one.answered, rest.answered); counting = rw (one.counting, rest.counting); pair = rest.pair }

-- ---- what coupled states share

pair_alike : {s₁ s₄ : State} → Pair s₁ s₄ → Alike s₁ s₄
pair_alike pair =
    let c = pair.coupled in
    record {
      lines = same_line c;
      counts = same_count c;
      moves = c.moves;
      waits = c.waits;
      n = c.n;
      arrivals = c.arrivals;
      senses = c.sense;
      aims = λ q h. (c.tasks q h).aim;
    }

-- "M is as for kind 1."
pub same_promise : {s₁ s₄ : State} → Pair s₁ s₄ → promised_in s₁ ≡ promised_in s₄
same_promise {s₁} {s₄} pair =
    rw (pair.first.kind, pair.kind, pair.coupled.n) (promised_same 4 s₄.n (works_of s₁) (works_of s₄) (same_work pair.coupled))

-- ready answers alike
pub same_ready : {s₁ s₄ : State} → Pair s₁ s₄ → (ready_of s₁).ready ≡ (ready_of s₄).ready
same_ready {s₁} {s₄} pair =
    ready_is s₁ pair.first.valid ∙ ready_alike s₁ s₄ (λ p. (turns pair p).0) s₁.n 0 ∙ ap (λ (n : ℕ). ready_from s₄ n 0) pair.coupled.n ∙ sym (ready_is s₄ pair.valid)

-- ---- play-back of coupled states

-- a triple is what the turn does in both, or in neither
does_same : {s₁ s₄ : State} → Pair s₁ s₄ → (t : Triple) → does s₁ t ≡ does s₄ t
does_same {s₁} {s₄} pair t = ap (equals s₁ t) (turns pair t.task).0 ∙ go (turn_of s₄ t.task).outcome refl
  where
    go : (o : Outcome) → (turn_of s₄ t.task).outcome ≡ o → equals s₁ t o ≡ equals s₄ t o
    go (Ok how) e = rw (same_line pair.coupled t.task (turn_makes s₄ t.task how e).known)
    go (Err k) e = refl

-- the same verdict, and coupled states with it
abbrev PlaysSame : Played → Played → Type 0
PlaysSame r₁ r₄ = (r₁.verdict ≡ r₄.verdict) × Pair r₁.state r₄.state

plays_same : {s₁ s₄ : State} → Pair s₁ s₄ → (i : ℕ) (ts : List Triple) → PlaysSame (play_from s₁ i ts) (play_from s₄ i ts)
plays_same {s₁} {s₄} pair i [] = rw (from_none s₁ i, from_none s₄ i) (refl, pair)
plays_same {s₁} {s₄} pair i (t ∷ ts) =
    rw (from_triple s₁ i t ts, from_triple s₄ i t ts, does_same pair t) (go (does s₄ t) (plays_same {s₁ = (turn_of s₁ t.task).state} {s₄ = (turn_of s₄ t.task).state} (turns pair t.task).1 (suc i) ts))
  where
    go : (b : Bool) {r₁ r₄ : Played} → PlaysSame r₁ r₄
        → PlaysSame (pick b r₁ (record { state = s₁; verdict = Ok (verdict.Differs i) })) (pick b r₄ (record { state = s₄; verdict = Ok (verdict.Differs i) }))
    go true rest = rest
    go false rest = (refl, pair)

-- what refused play-backs return shows the same: it has no task
zeros_alike : Alike zero_state zero_state
zeros_alike =
    record {
      lines = λ q h. refl;
      counts = λ q h. refl;
      moves = refl;
      waits = refl;
      n = refl;
      arrivals = refl;
      senses = refl;
      aims = λ q h. absurd (omega arith);
    }

-- ---- the claim

module _ (i₁ i₄ : Inputs) (e₁ : fresh_reason i₁ ≡ 0) (e₄ : fresh_reason i₄ ≡ 0) (k₁ : i₁.kind ≡ 1) (k₄ : i₄.kind ≡ 4) (n : i₁.n ≡ i₄.n) (works : i₁.works ≡ i₄.works) where
  fresh_states : Pair (fresh_state i₁) (fresh_state i₄)
  fresh_states = fresh_pair i₁ i₄ e₁ e₄ k₁ k₄ n works

  pub counts_down_all : (cs : List Call) → Down (fresh_of i₁).state (fresh_of i₄).state cs
  counts_down_all cs =
      let all = calls_same fresh_states cs in
      rw (fresh_accepted i₁ e₁, fresh_accepted i₄ e₄)
      (record { answered = all.answered; alike = pair_alike all.pair; ready = same_ready all.pair; promise = same_promise all.pair })

  -- so every trace of the one is one of the other
  pub plays_down : (trace : List ℕ) → PlaysDown (play_of i₁ trace) (play_of i₄ trace)
  plays_down trace = go (ℕ_discrete (trace_reason trace) 0)
    where
      why₁ : play_reason i₁ trace ≡ trace_reason trace
      why₁ = reason_trace i₁ trace e₁

      why₄ : play_reason i₄ trace ≡ trace_reason trace
      why₄ = reason_trace i₄ trace e₄

      go : Dec (trace_reason trace ≡ 0) → PlaysDown (play_of i₁ trace) (play_of i₄ trace)
      go (yes z) =
          let all = plays_same fresh_states 0 (triples_of trace) in
          rw (play_accepted i₁ trace (why₁ ∙ z), play_accepted i₄ trace (why₄ ∙ z)) (record { verdict = all.0; alike = pair_alike all.1 })
      go (no ne) =
          rw (play_refused i₁ trace (λ z. ne (sym why₁ ∙ z)), play_refused i₄ trace (λ z. ne (sym why₄ ∙ z)), why₁, why₄)
          (record { verdict = refl; alike = zeros_alike })

-- equal answers, and states that show the same
pub counts_down : (i₁ i₄ : Inputs) → fresh_reason i₁ ≡ 0 → fresh_reason i₄ ≡ 0 → i₁.kind ≡ 1 → i₄.kind ≡ 4 → i₁.n ≡ i₄.n → i₁.works ≡ i₄.works
    → (cs : List Call)
    → (answers (fresh_of i₁).state cs ≡ answers (fresh_of i₄).state cs) × Alike (after_all (fresh_of i₁).state cs) (after_all (fresh_of i₄).state cs)
counts_down i₁ i₄ e₁ e₄ k₁ k₄ n works cs = let all = counts_down_all i₁ i₄ e₁ e₄ k₁ k₄ n works cs in (all.answered, all.alike)
