-- Calls as single turns: the state after the calls is the state after their counted turns, one by one.
use Rattle.std.specs.Prelude.{◌≡◌, refl, Bool, true, false, List, [], ◌∷◌, ◌++◌, ◌⊎◌, ℕ, eqb, length, take, Ok, Err}
use Rattle.std.proofs.Common.{sym, ap, ◌∙◌, subst, append_assoc, inl, inr, eq-eqb, ne_eqb, eqb-true}
use Rattle.std.proofs.Math.Decide.{ℕ_discrete}
use Rattle.bitset.specs.Choice.{pick}
use Rattle.machine.specs.declared.State.{State}
use Rattle.machine.specs.Answers.{Outcome}
use Rattle.machine.specs.Turn.{turn_of, reason_number}
use Rattle.machine.proofs.TurnLaws.{refused_still, turn_constants}
use Rattle.barrier.specs.Work.{after_turns}
use Rattle.progress.specs.Counting.{AllCount}
use Rattle.progress.specs.Counting
use Rattle.runner.specs.Trace.{Trace, turned, trace_of, counted_in}
use Rattle.runner.specs.TraceLaws.{trace_none, trace_turn}
use Rattle.runner.specs.Run.{run_reason, run_of}
use Rattle.runner.specs.RunLaws.{run_accepts, run_refuses}
use Rattle.guarantee.specs.Calls.{Call, turn, run, after, after_all, counted_turn, counted_run, counted, counted_all}

-- the state that a turn returns
abbrev pub turned_to : State → ℕ → State
turned_to s p = (turn_of s p).state

-- a turn that counts is answered moved, waited or 11
abbrev pub Counts : State → ℕ → Type 0
Counts s p = (reason_number (turn_of s p).outcome ≡ 0) ⊎ (reason_number (turn_of s p).outcome ≡ 11)

-- the state after single turns, as the counting argument has it
pub after_turns_lem : (s : State) (ts : List ℕ) → Counting.after turned_to s ts ≡ after_turns s ts
after_turns_lem s [] = refl
after_turns_lem s (p ∷ ts) = after_turns_lem (turned_to s p) ts

abbrev pub AllCounted : State → List ℕ → Type 0
AllCounted s ts = AllCount turned_to Counts s ts

-- what a call's turns do: they count, and they lead to the state that it returns
pub record Leads (s : State) (ts : List ℕ) (s' : State) : Type 0 where
  pub to : after_turns s ts ≡ s'
  pub counts : AllCounted s ts

leads_append : (s : State) (ts us : List ℕ) (s' s'' : State) → Leads s ts s' → Leads s' us s'' → Leads s (ts ++ us) s''
leads_append s [] us s' s'' a b = subst (λ (x : State). Leads x us s'') (sym a.to) b
leads_append s (p ∷ ts) us s' s'' a b =
    let r = leads_append (turned_to s p) ts us s' s'' (record { to = a.to; counts = a.counts.1 }) b in
    record { to = r.to; counts = (a.counts.0, r.counts) }

-- no turn changes N
pub turns_n : (s : State) (ts : List ℕ) → (after_turns s ts).n ≡ s.n
turns_n s [] = refl
turns_n s (p ∷ ts) = turns_n (turned_to s p) ts ∙ (turn_constants s p).n

-- calls after others
pub after_append : (s : State) (cs ds : List Call) → after_all s (cs ++ ds) ≡ after_all (after_all s cs) ds
unfolding after_all
after_append s [] ds = refl
after_append s (c ∷ cs) ds = after_append (after s c) cs ds

pub counted_append : (s : State) (cs ds : List Call) → counted_all s (cs ++ ds) ≡ counted_all s cs ++ counted_all (after_all s cs) ds
unfolding counted_all after_all
counted_append s [] ds = refl
counted_append s (c ∷ cs) ds =
    ap (λ (l : List ℕ). counted s c ++ l) (counted_append (after s c) cs ds)
    ∙ sym (append_assoc (counted s c) (counted_all (after s c) cs) (counted_all (after_all (after s c) cs) ds))

-- a single turn
leads_turn : (s : State) (p : ℕ) → Leads s (counted_turn p (turn_of s p).outcome) (turn_of s p).state
leads_turn s p = go (turn_of s p).outcome refl
  where
    go : (o : Outcome) → (turn_of s p).outcome ≡ o → Leads s (counted_turn p o) (turn_of s p).state
    go (Ok m) e = record { to = refl; counts = (inl (ap reason_number e), tt) }
    go (Err k) e = stopped (eqb k 11) refl
      where
        stopped : (b : Bool) → eqb k 11 ≡ b → Leads s (pick b (p ∷ []) []) (turn_of s p).state
        stopped true q = record { to = refl; counts = (inr (ap reason_number e ∙ eqb-true k 11 q), tt) }
        stopped false q = record { to = sym (refused_still s p k e); counts = tt }

-- 02, P3: "In the progress rule a turn refused 13 isn't counted"; in a run it is not either (`stop_13` in runner)
pub uncounted_13 : (p : ℕ) → counted_turn p (Err 13) ≡ []
uncounted_13 p = refl

-- the turns of a trace
leads_trace : (s : State) (ts : List ℕ) → Leads s (counted_in (trace_of s ts)) (trace_of s ts).state
leads_trace s [] = rw (trace_none s) (record { to = refl; counts = tt })
leads_trace s (p ∷ ts) = rw (trace_turn s p ts) (go (turn_of s p).outcome refl (leads_trace (turn_of s p).state ts))
  where
    rest : Trace
    rest = trace_of (turn_of s p).state ts

    go : (o : Outcome) → (turn_of s p).outcome ≡ o → Leads (turn_of s p).state (counted_in rest) rest.state
        → Leads s (counted_in (turned s p o rest)) (turned s p o rest).state
    go (Ok m) e l = record { to = l.to; counts = (inl (ap reason_number e), l.counts) }
    go (Err k) e l = subst (λ (x : State). Leads s (counted_turn p (Err k)) x) (refused_still s p k e) (subst (λ (o : Outcome). Leads s (counted_turn p o) (turn_of s p).state) e (leads_turn s p))

-- a call
pub leads_call : (s : State) (c : Call) → Leads s (counted s c) (after s c)
leads_call s (turn p) = leads_turn s p
leads_call s (run schedule allowance log) = go (ℕ_discrete reason 0)
  where
    reason : ℕ
    reason = run_reason s schedule allowance (length log)

    go : Dec (reason ≡ 0) → Leads s (counted_run s schedule allowance log) (run_of s schedule allowance log).state
    go (yes e) = rw (eq-eqb reason 0 e, run_accepts s schedule allowance log e) (leads_trace s (take allowance schedule))
    go (no ne) = rw (ne_eqb reason 0 ne, run_refuses s schedule allowance log ne) (record { to = refl; counts = tt })

-- all calls
pub leads_all : (s : State) (cs : List Call) → Leads s (counted_all s cs) (after_all s cs)
unfolding counted_all after_all
leads_all s [] = record { to = refl; counts = tt }
leads_all s (c ∷ cs) = leads_append s (counted s c) (counted_all (after s c) cs) (after s c) (after_all (after s c) cs) (leads_call s c) (leads_all (after s c) cs)

pub calls_n : (s : State) (cs : List Call) → (after_all s cs).n ≡ s.n
calls_n s cs = ap (λ (x : State). x.n) (sym (leads_all s cs).to) ∙ turns_n s (counted_all s cs)
