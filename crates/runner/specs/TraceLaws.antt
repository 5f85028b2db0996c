-- Laws of traces: what a trace has once more turns follow, what its turns keep, and where a refusal ends it.
use Rattle.std.specs.Prelude.{◌≡◌, refl, ℕ, suc, ◌≤◌, ◌<◌, min, length, take, get_or, Ok, Err}
use Rattle.std.proofs.Common.{sym, ap, ◌∙◌, arith, length-take}
use mathlib.Core.List.{List, [], ◌∷◌, ◌++◌, map, append-nil}
use Rattle.machine.specs.declared.State.{State}
use Rattle.machine.specs.declared.Move.{Move}
use Rattle.machine.specs.Answers.{Outcome}
use Rattle.machine.specs.Setters.{task_at}
use Rattle.machine.specs.Turn.{turn_of}
use Rattle.machine.proofs.TurnLaws.{turn_constants}
use Rattle.runner.specs.Trace.{Row, Stop, nothing, refusal, Trace, turned, trace_of, counted_stop}

-- a refusal is a stop
refusal_stops : (p k : ℕ) → refusal p k ≡ nothing → ⊥
refusal_stops p k e = let z : ◌≡◌ {A = ℕ} 0 1 = cc in omega arith

-- the trace of no turn, and one turn in front of a trace
pub trace_none : (s : State) → trace_of s [] ≡ record { made = []; state = s; stop = nothing }
unfolding trace_of
trace_none s = refl

pub trace_turn : (s : State) (p : ℕ) (ts : List ℕ) → trace_of s (p ∷ ts) ≡ turned s p (turn_of s p).outcome (trace_of (turn_of s p).state ts)
unfolding trace_of
trace_turn s p ts = refl

-- a trace with more turns after it: it goes on where nothing stopped it
abbrev pub on_from : Stop → Trace → Trace → Trace
on_from nothing t rest = record { made = t.made ++ rest.made; state = rest.state; stop = rest.stop }
on_from (refusal p k) t rest = t

abbrev pub goes_on : Trace → List ℕ → Trace
goes_on t us = on_from t.stop t (trace_of t.state us)

pub trace_append : (s : State) (ts us : List ℕ) → trace_of s (ts ++ us) ≡ goes_on (trace_of s ts) us
unfolding trace_of
trace_append s [] us = refl
trace_append s (p ∷ ts) us =
    ap (turned s p (turn_of s p).outcome) (trace_append (turn_of s p).state ts us) ∙ go (turn_of s p).outcome (trace_of (turn_of s p).state ts).stop
  where
    rest : Trace
    rest = trace_of (turn_of s p).state ts

    more : Trace
    more = trace_of rest.state us

    go : (o : Outcome) (e : Stop) → turned s p o (on_from e rest more) ≡ on_from (turned s p o (record { made = rest.made; state = rest.state; stop = e })).stop (turned s p o rest) (trace_of (turned s p o rest).state us)
    go (Ok how) nothing = refl
    go (Ok how) (refusal q k) = refl
    go (Err k) e = refl

-- one turn more, after turns that nothing stopped
module _ (s : State) (ts : List ℕ) (p : ℕ) (on : (trace_of s ts).stop ≡ nothing) where
  pub trace_made : (how : Move) → (turn_of (trace_of s ts).state p).outcome ≡ Ok how
      → trace_of s (ts ++ p ∷ []) ≡ record {
        made = (trace_of s ts).made ++ record { task = p; line = (task_at (trace_of s ts).state p).line; how = how } ∷ [];
        state = (turn_of (trace_of s ts).state p).state;
        stop = nothing;
      }
  unfolding trace_of
  trace_made how e = trace_append s ts (p ∷ []) ∙ rw (on, e)

  pub trace_stopped : (k : ℕ) (us : List ℕ) → (turn_of (trace_of s ts).state p).outcome ≡ Err k
      → trace_of s (ts ++ p ∷ us) ≡ record { made = (trace_of s ts).made; state = (trace_of s ts).state; stop = refusal p k }
  unfolding trace_of
  trace_stopped k us e = trace_append s ts (p ∷ us) ∙ rw (on, e, append-nil (trace_of s ts).made)

-- ---- the turns made

-- all of them where nothing stopped the turns, else those before the refusal, which are fewer
pub made_all : (s : State) (ts : List ℕ) → (trace_of s ts).stop ≡ nothing → length (trace_of s ts).made ≡ length ts
unfolding trace_of
made_all s [] = λ e. refl
made_all s (p ∷ ts) = go (turn_of s p).outcome (made_all (turn_of s p).state ts)
  where
    rest : Trace
    rest = trace_of (turn_of s p).state ts

    go : (o : Outcome) → (rest.stop ≡ nothing → length rest.made ≡ length ts) → (turned s p o rest).stop ≡ nothing
        → length (turned s p o rest).made ≡ suc (length ts)
    go (Ok how) ih e = ap suc (ih e)
    go (Err k) ih e = absurd (refusal_stops p k e)

pub made_few : (s : State) (ts : List ℕ) → length (trace_of s ts).made ≤ length ts
unfolding trace_of
made_few s [] = omega arith
made_few s (p ∷ ts) = go (turn_of s p).outcome (made_few (turn_of s p).state ts)
  where
    rest : Trace
    rest = trace_of (turn_of s p).state ts

    go : (o : Outcome) → length rest.made ≤ length ts → length (turned s p o rest).made ≤ suc (length ts)
    go (Ok how) ih = omega arith
    go (Err k) ih = omega arith

-- 01: "A run makes at most as many turns as its allowance": the smaller of allowance and length where no turn is refused
pub turns_made : (s : State) (schedule : List ℕ) (allowance : ℕ) → (trace_of s (take allowance schedule)).stop ≡ nothing
    → length (trace_of s (take allowance schedule)).made ≡ min allowance (length schedule)
turns_made s schedule allowance e = made_all s (take allowance schedule) e ∙ length-take allowance schedule

-- ---- what the turns keep

-- what every turn keeps, the turns of a trace keep
pub trace_keeps : (P : State → Type 0) → ((s : State) (p : ℕ) → P s → P (turn_of s p).state) → (s : State) (ts : List ℕ) → P s → P (trace_of s ts).state
unfolding trace_of
trace_keeps P k s [] h = h
trace_keeps P k s (p ∷ ts) h = go (turn_of s p).outcome (trace_keeps P k (turn_of s p).state ts (k s p h))
  where
    go : (o : Outcome) → P (trace_of (turn_of s p).state ts).state → P (turned s p o (trace_of (turn_of s p).state ts)).state
    go (Ok how) r = r
    go (Err k) r = h

-- so the number of tasks stays
pub trace_n : (s : State) (ts : List ℕ) → (trace_of s ts).state.n ≡ s.n
trace_n s ts = trace_keeps (λ x. x.n ≡ s.n) (λ x p e. (turn_constants x p).n ∙ e) s ts refl

-- ---- where a refusal ends it

-- the turns made are strictly fewer, and the turn at the next place is the one refused, in the state that they led to
pub record StoppedAt (t : Trace) (ts : List ℕ) (p k : ℕ) : Type 0 where
  pub fewer : length t.made < length ts
  pub named : get_or ts (length t.made) 0 ≡ p
  pub refused : (turn_of t.state p).outcome ≡ Err k

pub stopped_at : (s : State) (ts : List ℕ) (p k : ℕ) → (trace_of s ts).stop ≡ refusal p k → StoppedAt (trace_of s ts) ts p k
unfolding trace_of
stopped_at s [] p k e = absurd (refusal_stops p k (sym e))
stopped_at s (q ∷ ts) p k e = go (turn_of s q).outcome refl e (stopped_at (turn_of s q).state ts p k)
  where
    rest : Trace
    rest = trace_of (turn_of s q).state ts

    go : (o : Outcome) → (turn_of s q).outcome ≡ o → (turned s q o rest).stop ≡ refusal p k → (rest.stop ≡ refusal p k → StoppedAt rest ts p k)
        → StoppedAt (turned s q o rest) (q ∷ ts) p k
    go (Ok how) eq st ih = let r = ih st in record { fewer = omega arith; named = r.named; refused = r.refused }
    go (Err j) eq st ih =
        let a : q ≡ p = cc in
        let b : j ≡ k = cc in
        record { fewer = omega arith; named = a; refused = rw (← a, ← b) eq }

-- ---- whom the turns made name

-- the turns made are the first of the list, as many as were made
pub made_tasks : (s : State) (ts : List ℕ) → map (λ (r : Row). r.task) (trace_of s ts).made ≡ take (length (trace_of s ts).made) ts
unfolding trace_of
made_tasks s [] = refl
made_tasks s (p ∷ ts) = go (turn_of s p).outcome (made_tasks (turn_of s p).state ts)
  where
    rest : Trace
    rest = trace_of (turn_of s p).state ts

    go : (o : Outcome) → map (λ (r : Row). r.task) rest.made ≡ take (length rest.made) ts
        → map (λ (r : Row). r.task) (turned s p o rest).made ≡ take (length (turned s p o rest).made) (p ∷ ts)
    go (Ok how) ih = ap (λ (l : List ℕ). p ∷ l) ih
    go (Err k) ih = refl

-- they alone lead to the same state
pub trace_stays : (s : State) (ts : List ℕ) → (trace_of s (take (length (trace_of s ts).made) ts)).state ≡ (trace_of s ts).state
unfolding trace_of
trace_stays s [] = refl
trace_stays s (p ∷ ts) = go (turn_of s p).outcome refl (trace_stays (turn_of s p).state ts)
  where
    rest : Trace
    rest = trace_of (turn_of s p).state ts

    go : (o : Outcome) → (turn_of s p).outcome ≡ o → (trace_of (turn_of s p).state (take (length rest.made) ts)).state ≡ rest.state
        → (trace_of s (take (length (turned s p o rest).made) (p ∷ ts))).state ≡ (turned s p o rest).state
    go (Ok how) e ih = rw e ih
    go (Err k) e ih = refl

-- 02, P3: "In the progress rule a turn refused 13 isn't counted"
pub stop_13 : (p : ℕ) → counted_stop (refusal p 13) ≡ []
stop_13 p = refl
