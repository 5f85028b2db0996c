-- The claim of 02's P5 over lists of calls holds: their counted turns are turns, and the moves that the calls answer are those of their counted turns.
use Rattle.std.specs.Prelude.{◌≡◌, Bool, true, false, ◌&&◌, ℕ, ◌+◌, eqb, length, take, Ok, Err}
use Rattle.std.proofs.Math.Path.{refl, ap}
use Rattle.std.proofs.Common.{sym, ◌∙◌, subst, arith, eq-eqb, ne_eqb, eqb-true}
use mathlib.Core.List.{List, [], ◌∷◌, ◌++◌}
use Rattle.std.proofs.Math.Decide.{ℕ_discrete}
use Rattle.bitset.specs.Choice.{pick}
use Rattle.bitset.specs.ChoiceLaws.{by_test}
use Rattle.bitset.specs.Set.{size_of}
use Rattle.parents.specs.Parents.{children_of}
use Rattle.machine.specs.declared.State.{State}
use Rattle.machine.specs.declared.Move.{Move}
use Rattle.machine.specs.declared.Move.TheVariants.{Moved, Waited}
use Rattle.machine.specs.Answers.{Outcome}
use Rattle.machine.specs.Setters.{task_at}
use Rattle.machine.specs.Range.{table_of, Valid}
use Rattle.machine.specs.Turn.{turn_of, move_number, is_moved}
use Rattle.machine.proofs.TurnLaws.{turn_constants}
use Rattle.machine.proofs.KeepLaws.{turn_valid}
use Rattle.barrier.specs.Place.{same_table}
use Rattle.barrier.specs.Times.{move_at, times_at}
use Rattle.barrier.specs.Work.{after_turns}
use Rattle.tree.specs.Loop.{LoopMoves}
use Rattle.tree.proofs.LoopLaws.{loop}
use Rattle.runner.specs.Trace.{Trace, turned, trace_of, counted_in}
use Rattle.runner.specs.TraceLaws.{trace_none, trace_turn}
use Rattle.runner.specs.Run.{run_reason}
use Rattle.guarantee.specs.Calls.{Call, turn, run, after, counted_turn, counted, counted_all}
use Rattle.guarantee.proofs.Turns.{leads_call}
use Rattle.guarantee.specs.Loops.{rows_at, moved_in, moved_in_all, CallsLoop, WholeLoop}

-- ---- the moves of a list of calls

module _ (p line : ℕ) where
  times_append : (s : State) (ts us : List ℕ) → times_at p line s (ts ++ us) ≡ times_at p line s ts + times_at p line (after_turns s ts) us
  times_append s [] us = omega arith
  times_append s (q ∷ ts) us = omega (arith, times_append (turn_of s q).state ts us)

  -- a turn that is refused moves nobody
  still : (s : State) (q k : ℕ) → (turn_of s q).outcome ≡ Err k → move_at p line s q ≡ 0
  still s q k e = rw e

  -- nor does it where it counts
  still_counted : (s : State) (q k : ℕ) → (turn_of s q).outcome ≡ Err k → times_at p line s (counted_turn q (Err k)) ≡ 0
  still_counted s q k e = by_test (λ (ts : List ℕ). times_at p line s ts ≡ 0) (eqb k 11) (λ _. omega (arith, still s q k e)) (λ _. refl)

  -- a row of a turn that was made is a move of p there, or none
  row_move : (s : State) (q : ℕ) (how : Move) → (turn_of s q).outcome ≡ Ok how
      → pick (eqb (move_number how) 1 && (eqb q p && eqb (task_at s q).line line)) 1 0 ≡ move_at p line s q
  row_move s q how e =
      rw e (ap (λ (b : Bool). pick (eqb (move_number how) 1 && b) 1 0) (here (eqb q p) refl) ∙ ap (λ (b : Bool). pick (b && (eqb q p && eqb (task_at s p).line line)) 1 0) (by how))
    where
      here : (b : Bool) → eqb q p ≡ b → (b && eqb (task_at s q).line line) ≡ (b && eqb (task_at s p).line line)
      here true is = ap (λ (x : ℕ). eqb (task_at s x).line line) (eqb-true q p is)
      here false is = refl

      by : (how : Move) → eqb (move_number how) 1 ≡ is_moved (Ok how)
      by (Moved c) = refl
      by Waited = refl

  trace_moved : (s : State) (ts : List ℕ) → rows_at p line (trace_of s ts).made ≡ times_at p line s (counted_in (trace_of s ts))
  unfolding rows_at
  trace_moved s [] = rw (trace_none s)
  trace_moved s (q ∷ ts) = rw (trace_turn s q ts) (go (turn_of s q).outcome refl (trace_moved (turn_of s q).state ts))
    where
      rest : Trace
      rest = trace_of (turn_of s q).state ts

      go : (o : Outcome) → (turn_of s q).outcome ≡ o → rows_at p line rest.made ≡ times_at p line (turn_of s q).state (counted_in rest)
          → rows_at p line (turned s q o rest).made ≡ times_at p line s (counted_in (turned s q o rest))
      go (Ok how) e ih = omega (arith, row_move s q how e, ih)
      go (Err k) e ih = sym (still_counted s q k e)

  call_moved : (s : State) (c : Call) → moved_in p line s c ≡ times_at p line s (counted s c)
  call_moved s (turn q) = go (turn_of s q).outcome refl
    where
      go : (o : Outcome) → (turn_of s q).outcome ≡ o → move_at p line s q ≡ times_at p line s (counted_turn q o)
      go (Ok how) e = omega arith
      go (Err k) e = still s q k e ∙ sym (still_counted s q k e)
  call_moved s (run schedule allowance log) = go (ℕ_discrete reason 0)
    where
      reason : ℕ
      reason = run_reason s schedule allowance (length log)

      go : Dec (reason ≡ 0) → moved_in p line s (run schedule allowance log) ≡ times_at p line s (counted s (run schedule allowance log))
      go (yes e) = rw (eq-eqb reason 0 e) (trace_moved s (take allowance schedule))
      go (no ne) = rw (ne_eqb reason 0 ne)

  -- the moves that the calls answer are those of their counted turns
  pub calls_moved : (s : State) (cs : List Call) → moved_in_all p line s cs ≡ times_at p line s (counted_all s cs)
  unfolding moved_in_all counted_all
  calls_moved s [] = refl
  calls_moved s (c ∷ cs) =
      let next = ap (λ (x : State). times_at p line x (counted_all (after s c) cs)) (leads_call s c).to in
      omega (arith, call_moved s c, calls_moved (after s c) cs, times_append s (counted s c) (counted_all (after s c) cs), next)

-- ---- the claim

-- turns keep a state in range, its kind and its table
kept_turns : (s : State) (ts : List ℕ) → Valid s → Valid (after_turns s ts) × ((after_turns s ts).kind ≡ s.kind) × (table_of (after_turns s ts) ≡ table_of s)
kept_turns s [] ok = (ok, refl, refl)
kept_turns s (p ∷ ts) ok =
    let rest = kept_turns (turn_of s p).state ts (turn_valid s p ok) in
    (rest.0, rest.1 ∙ (turn_constants s p).kind, rest.2 ∙ same_table s p)

pub calls_loop : CallsLoop
calls_loop s ok kind cs before stretch rest cut p left back =
    let k = kept_turns s before ok in
    subst (λ (table : List ℕ). LoopMoves (size_of (children_of table p)) (λ line. times_at p line (after_turns s before) stretch)) k.2
    (loop (after_turns s before) k.0 (k.1 ∙ kind) p left stretch back)

pub whole_loop : WholeLoop
whole_loop s ok kind cs p left back =
    let m = loop s ok kind p left (counted_all s cs) back in
    record {
      at_12 = calls_moved p 12 s cs ∙ m.at_12;
      at_13 = calls_moved p 13 s cs ∙ m.at_13;
      at_14 = calls_moved p 14 s cs ∙ m.at_14;
      at_15 = calls_moved p 15 s cs ∙ m.at_15;
      at_16 = calls_moved p 16 s cs ∙ m.at_16;
      at_17 = calls_moved p 17 s cs ∙ m.at_17;
      at_18 = calls_moved p 18 s cs ∙ m.at_18;
    }
