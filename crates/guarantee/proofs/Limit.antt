-- What `limit` tells of a fresh state's inputs is what demand 3 promises from there on.
use Rattle.std.specs.Prelude.{◌≡◌, refl, List, [], ◌∷◌, ℕ, ◌<◌}
use Rattle.std.proofs.Common.{sym, ap, ◌∙◌}
use Rattle.schedule.specs.Stretch.{CutInto}
use Rattle.setup.specs.Tables.{work_of}
use Rattle.setup.specs.Reasons.{limit_reason}
use Rattle.setup.specs.ReasonsLaws.{limit_accepted}
use Rattle.machine.specs.declared.State.{State}
use Rattle.machine.specs.Fresh.{Inputs, fresh_reason, fresh_state, fresh_of}
use Rattle.machine.specs.FreshLaws.{accepted_inputs, fresh_accepted, fresh_work}
use Rattle.machine.specs.Turn.{turn_of}
use Rattle.machine.proofs.TurnLaws.{turn_constants, turn_work}
use Rattle.machine.specs.Least.{least}
use Rattle.bound.specs.Bound.{limit_of}
use Rattle.bound.specs.BoundLaws.{promised_same}
use Rattle.guarantee.specs.Calls.{Call, after_all, counted_all, Reached, fresh, called, after, works_of, promised_in}
use Rattle.barrier.specs.Work.{after_turns}
use Rattle.guarantee.proofs.Turns.{leads_all}
use Rattle.guarantee.proofs.Guarantee.{guarantee}

-- no turn changes the kind, N or a work length, so none changes the promise
turn_promise : (s : State) (p : ℕ) → promised_in (turn_of s p).state ≡ promised_in s
turn_promise s p =
    let c = turn_constants s p in
    rw (c.kind, c.n) (promised_same s.kind s.n (works_of (turn_of s p).state) (works_of s) (λ q _. turn_work s p q))

turns_promise : (s : State) (ts : List ℕ) → promised_in (after_turns s ts) ≡ promised_in s
turns_promise s [] = refl
turns_promise s (p ∷ ts) = turns_promise (turn_of s p).state ts ∙ turn_promise s p

pub calls_promise : (s : State) (cs : List Call) → promised_in (after_all s cs) ≡ promised_in s
calls_promise s cs = ap promised_in (sym (leads_all s cs).to) ∙ turns_promise s (counted_all s cs)

-- what is reached, and then called, is reached
reached_all : (s : State) → Reached s → (cs : List Call) → Reached (after_all s cs)
unfolding after_all
reached_all s r [] = r
reached_all s r (c ∷ cs) = reached_all (after s c) (called s r c) cs

-- the inputs of an accepted fresh state have a limit
module _ (i : Inputs) (e : fresh_reason i ≡ 0) where
  has_limit : limit_reason i.kind i.n i.works ≡ 0
  has_limit =
      let a = accepted_inputs i e in
      limit_accepted i.kind i.n i.works (record { known = a.kind; some = a.some; few = a.few }) a.works

  fresh_promise : (limit_of i.kind i.n i.works).passes ≡ promised_in (fresh_state i)
  fresh_promise = rw has_limit (promised_same i.kind i.n (work_of i.works) (works_of (fresh_state i)) (λ q h. sym (fresh_work i q h)))

  -- after any calls, `limit` tells what is promised there
  pub limit_tells : (cs : List Call) → (limit_of i.kind i.n i.works).passes ≡ promised_in (after_all (fresh_of i).state cs)
  limit_tells cs = fresh_promise ∙ sym (calls_promise (fresh_of i).state cs ∙ ap promised_in (fresh_accepted i e))

  -- so as many passes as it tells raise the least count, whatever calls were made before
  pub limit_raises : (before cs : List Call) → (let s = after_all (fresh_of i).state before in
      least s < 1000000 → CutInto s.n (limit_of i.kind i.n i.works).passes (counted_all s cs) → least s < least (after_all s cs))
  limit_raises before cs low cut =
      let s = after_all (fresh_of i).state before in
      (guarantee s (reached_all (fresh_of i).state (fresh i e) before) cs).2 low (rw (← limit_tells before) cut)
