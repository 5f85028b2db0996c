-- Laws of a session: after every list of calls, the list keeps the state that the same calls of the library lead to, which is a reached one; each call answers what that of the
-- library does; and as many passes as `limit` tells raise the least count in the list.
use Rattle.std.specs.Prelude.{◌≡◌, refl, Bool, true, false, ◌||◌, ◌≢◌, ℕ, ◌≤◌, ◌<◌, eqb, length, take, Ok, Err}
use Rattle.std.proofs.Math.Path.{sym, ap}
use Rattle.std.proofs.Common.{◌∙◌, subst, arith, length-append, length-take-le, ne_eqb}
use mathlib.Core.List.{List, [], ◌∷◌, ◌++◌, append-nil}
use Rattle.std.proofs.Math.Decide.{ℕ_discrete}
use Rattle.bitset.specs.Choice.{pick}
use Rattle.bitset.specs.ChoiceLaws.{by_test}
use Rattle.schedule.specs.Stretch.{CutInto}
use Rattle.machine.specs.declared.State.{State}
use Rattle.machine.specs.Answers.{Outcome, Ready}
use Rattle.machine.specs.declared.Turned.{Turned}
use Rattle.machine.specs.Fresh.{Inputs, fresh_reason, fresh_of}
use Rattle.machine.specs.FreshLaws.{fresh_reason_lem, fresh_accepted}
use Rattle.machine.specs.Least.{least}
use Rattle.machine.specs.Turn.{reason_number, turn_of}
use Rattle.machine.proofs.TurnLaws.{refused_still}
use Rattle.machine.proofs.RefusalLaws.{never_0}
use Rattle.machine.specs.Ready.{ready_of, ready_reason, ready_number}
use Rattle.bound.specs.Bound.{limit_of}
use Rattle.runner.specs.declared.Ran.{Ran}
use Rattle.runner.specs.Run.{run_of}
use Rattle.runner.specs.RunLaws.{run_refuses}
use Rattle.playback.specs.Playback.{play_of, verdict_reason}
use Rattle.playback.specs.PlaybackLaws.{play_unrefused}
use Rattle.rows.specs.Rows.{turn_room, task_room, is_refused, listed_of, listed_log, turn_rows_after, task_rows_after}
use Rattle.rows.specs.RowsLaws.{told_refused, listed_roomy, listed_short, short_turns, short_not_11}
use Rattle.snapshot.specs.Snapshot.{Loaded, size, saved_to, load_of}
use Rattle.snapshot.specs.RoundTrip.{saved_loads, saved_room, has_room, load_first}
use Rattle.numbers.specs.Numbers.{turn_number, turn_closed}
use Rattle.guarantee.specs.Calls as calls
use Rattle.guarantee.specs.Calls.{Call, after_all, counted_all, Reached, called}
use Rattle.guarantee.proofs.Turns.{after_append, counted_append, calls_n}
use Rattle.guarantee.proofs.Reach.{played_reached}
use Rattle.guarantee.proofs.Limit.{limit_raises}
use Rattle.guarantee.proofs.Pins.{all_none, all_turn, all_run, counted_none, counted_made, counted_11, uncounted, counted_run_lem}
use Rattle.tungwaff.specs.Entry.{fresh_into, fresh_list, kept_in, kept_after, turned_from, turn_list, numbers_of, turn_told, resume_told, rows_told, ready_told, kept_verdict, kept_played}
use Rattle.tungwaff.specs.EntryLaws.{turned_kept, ready_kept_lem, tasks_kept, rows_kept, tasks_left, rows_left, kept_refused, kept_made, turn_refused, turn_made, fresh_made, played_made}
use Rattle.session.specs.Session as words
use Rattle.session.specs.Session.{Step, turn, resume, rows, Visit, lent, list_after, list_after_all, list_after_visits, state_after, state_after_all, state_after_visits, Keeps, least_in, Answer, answer, answers, answer_in, answers_in, counted_turns, counted_by, counted_by_all, call_of, calls_of}
use Rattle.session.specs.Bytes.{reached_sized}

-- runs that are equal, with what they leave, answer alike
ran_alike : {r r' : Ran} {log log' numbers numbers' : List ℕ} → r ≡ r' → (log ≡ log') × (numbers ≡ numbers') → words.ran (numbers_of r) log numbers ≡ words.ran (numbers_of r') log' numbers'
ran_alike {r} {r'} {log} {log'} {numbers} {numbers'} e left =
    ap (λ (x : Ran). words.ran (numbers_of x) log numbers) e ∙ ap (λ (l : List ℕ). words.ran (numbers_of r') l numbers) left.0 ∙ ap (words.ran (numbers_of r') log') left.1

-- the state after a run, or where none is made
run_calls : (s : State) (schedule : List ℕ) (allowance : ℕ) (log : List ℕ) (ok : Bool)
    → after_all s (pick ok (calls.run schedule allowance log ∷ []) []) ≡ pick ok (run_of s schedule allowance log).state s
run_calls s schedule allowance log true = all_run s schedule allowance log [] ∙ all_none (run_of s schedule allowance log).state
run_calls s schedule allowance log false = all_none s

-- a reached state that is saved to a list with room is kept
saved_keeps : (list : List ℕ) (s : State) → size ≤ length list → Reached s → Keeps (saved_to s list) s
saved_keeps list s room r = record { room = saved_room s list room; loaded = saved_loads s list (reached_sized s r) room }

module _ (list : List ℕ) (s : State) (keeps : Keeps list s) (r : Reached s) where
  -- ---- a turn

  turned : (p : ℕ) → turned_from (kept_in list) p ≡ turn_of s p
  turned = turned_kept list s keeps.loaded

  why : (p : ℕ) → reason_number (turned_from (kept_in list) p).outcome ≡ reason_number (turn_of s p).outcome
  why p = ap (λ (t : Turned). reason_number t.outcome) (turned p)

  turn_keeps : (p : ℕ) → Keeps (turn_list list p) (turn_of s p).state
  turn_keeps p = go (turn_of s p).outcome refl (ℕ_discrete (reason_number (turn_of s p).outcome) 0)
    where
      -- a refusal leaves the state; no reason is 0
      still : (o : Outcome) → (turn_of s p).outcome ≡ o → reason_number o ≢ 0 → (turn_of s p).state ≡ s
      still (Ok how) e ne = absurd (ne refl)
      still (Err k) e ne = refused_still s p k e

      go : (o : Outcome) → (turn_of s p).outcome ≡ o → Dec (reason_number o ≡ 0) → Keeps (turn_list list p) (turn_of s p).state
      go o e (yes z) =
          let made = turn_made list p (why p ∙ ap reason_number e ∙ z) ∙ ap (λ (t : Turned). saved_to t.state list) (turned p) in
          subst (λ (l : List ℕ). Keeps l (turn_of s p).state) (sym made) (saved_keeps list (turn_of s p).state keeps.room (called s r (calls.turn p)))
      go o e (no ne) =
          let same = turn_refused list p (λ z. ne (sym (why p ∙ ap reason_number e) ∙ z)) in
          subst (λ (l : List ℕ). Keeps l (turn_of s p).state) (sym same) (subst (Keeps list) (sym (still o e ne)) keeps)

  -- ---- a run

  module _ (schedule : List ℕ) (allowance : ℕ) (log : List ℕ) where
    abbrev ran : Ran
    ran = run_of s schedule allowance log

    made_keeps : (refused : Bool) → is_refused ran.ending ≡ refused → Keeps (kept_after ran list) ran.state
    made_keeps true e =
        let ne = told_refused s schedule allowance log ran refl e in
        let same : ran.state ≡ s = ap (λ (x : Ran). x.state) (run_refuses s schedule allowance log ne) in
        subst (λ (l : List ℕ). Keeps l ran.state) (sym (kept_refused ran list e)) (subst (Keeps list) (sym same) keeps)
    made_keeps false e =
        subst (λ (l : List ℕ). Keeps l ran.state) (sym (kept_made ran list e)) (saved_keeps list ran.state keeps.room (called s r (calls.run schedule allowance log)))

    run_keeps : (ok : Bool) → Keeps (kept_after (listed_of s schedule allowance log ok) list) (pick ok ran.state s)
    run_keeps true =
        subst (λ (x : Ran). Keeps (kept_after x list) ran.state) (sym (listed_roomy s schedule allowance log)) (made_keeps (is_refused ran.ending) refl)
    run_keeps false =
        subst (λ (l : List ℕ). Keeps l s) (sym (kept_refused (listed_of s schedule allowance log false) list (listed_short s schedule allowance log))) keeps

  -- ---- a call

  abbrev loads : load_of list ≡ record { state = s; reason = 0 }
  loads = keeps.loaded

  pub step_keeps : (c : Step) → Keeps (list_after list c) (state_after s c)
  step_keeps (turn p) = turn_keeps p
  step_keeps (resume schedule allowance log tasks) =
      subst (λ (x : Ran). Keeps (kept_after x list) (state_after s (resume schedule allowance log tasks)))
      (sym (tasks_kept list s keeps.loaded schedule allowance log tasks))
      (run_keeps schedule allowance log (task_room s (length tasks)))
  step_keeps (rows schedule allowance log numbers) =
      subst (λ (x : Ran). Keeps (kept_after x list) (state_after s (rows schedule allowance log numbers)))
      (sym (rows_kept list s keeps.loaded schedule allowance log numbers))
      (run_keeps schedule allowance log (turn_room schedule allowance (length numbers)))

  -- it answers as the library's own call does
  pub step_answers : (c : Step) → answer list c ≡ answer_in s c
  step_answers (turn p) = ap (λ (t : Turned). let o = t.outcome in words.turned (reason_number o) (turn_number o) (turn_closed o)) (turned p)
  step_answers (resume schedule allowance log tasks) =
      ran_alike (tasks_kept list s loads schedule allowance log tasks) (tasks_left list s loads schedule allowance log tasks)
  step_answers (rows schedule allowance log numbers) =
      ran_alike (rows_kept list s loads schedule allowance log numbers) (rows_left list s loads schedule allowance log numbers)

  -- who is ready is asked of the list as of the state
  pub ready_answers : ready_told list ≡ record { reason = ready_reason (ready_of s).ready; task = ready_number (ready_of s).ready }
  ready_answers = ap (λ (x : Ready). record { reason = ready_reason x; task = ready_number x }) (ready_kept_lem list s loads)

  -- its counted turns, told by its numbers, are those of the call of demand 3
  turn_counted : (p : ℕ) → counted_by list (turn p) ≡ counted_all s (calls.turn p ∷ [])
  turn_counted p = ap counts (why p) ∙ go (turn_of s p).outcome refl
    where
      counts : ℕ → List ℕ
      counts reason = pick (eqb reason 0 || eqb reason 11) (p ∷ []) []

      go : (o : Outcome) → (turn_of s p).outcome ≡ o → counts (reason_number o) ≡ counted_all s (calls.turn p ∷ [])
      go (Ok how) e = sym (counted_made s p [] how e ∙ ap (λ (l : List ℕ). p ∷ l) (counted_none (turn_of s p).state))
      go (Err k) e = split (ℕ_discrete k 11)
        where
          split : Dec (k ≡ 11) → counts k ≡ counted_all s (calls.turn p ∷ [])
          split (yes is) = ap counts is ∙ sym (counted_11 s p [] (e ∙ ap Err is) ∙ ap (λ (l : List ℕ). p ∷ l) (counted_none s))
          split (no ne) = rw (ne_eqb k 0 (λ z. never_0 s p (e ∙ ap Err z)), ne_eqb k 11 ne) (sym (uncounted s p [] k ne e ∙ counted_none s))

  run_counted : (schedule : List ℕ) (allowance : ℕ) (log : List ℕ) (ok : Bool)
      → counted_turns (numbers_of (listed_of s schedule allowance log ok)) schedule ≡ counted_all s (pick ok (calls.run schedule allowance log ∷ []) [])
  run_counted schedule allowance log true =
      let ended = run_of s schedule allowance log in
      let counts = counted_turns (numbers_of ended) schedule in
      ap (λ (x : Ran). counted_turns (numbers_of x) schedule) (listed_roomy s schedule allowance log)
      ∙ sym (counted_run_lem s schedule allowance log [] ∙ ap (λ (l : List ℕ). counts ++ l) (counted_none ended.state) ∙ append-nil counts)
  run_counted schedule allowance log false =
      rw (short_turns s schedule allowance log, ne_eqb _ 11 (short_not_11 s schedule allowance log)) (sym (counted_none s))

  step_counted : (c : Step) → counted_by list c ≡ counted_all s (call_of s c)
  step_counted (turn p) = turn_counted p
  step_counted (resume schedule allowance log tasks) =
      ap (λ (x : Ran). counted_turns (numbers_of x) schedule) (tasks_kept list s loads schedule allowance log tasks) ∙ run_counted schedule allowance log (task_room s (length tasks))
  step_counted (rows schedule allowance log numbers) =
      ap (λ (x : Ran). counted_turns (numbers_of x) schedule) (rows_kept list s loads schedule allowance log numbers) ∙ run_counted schedule allowance log (turn_room schedule allowance (length numbers))

-- the state after it is that of the call of demand 3
step_calls : (s : State) (c : Step) → after_all s (call_of s c) ≡ state_after s c
step_calls s (turn p) = all_turn s p [] ∙ all_none (turn_of s p).state
step_calls s (resume schedule allowance log tasks) = run_calls s schedule allowance log (task_room s (length tasks))
step_calls s (rows schedule allowance log numbers) = run_calls s schedule allowance log (turn_room schedule allowance (length numbers))

-- and is a reached one
step_reached : (s : State) → Reached s → (c : Step) → Reached (state_after s c)
step_reached s r (turn p) = called s r (calls.turn p)
step_reached s r (resume schedule allowance log tasks) = by_test Reached (task_room s (length tasks)) (λ _. called s r (calls.run schedule allowance log)) (λ _. r)
step_reached s r (rows schedule allowance log numbers) = by_test Reached (turn_room schedule allowance (length numbers)) (λ _. called s r (calls.run schedule allowance log)) (λ _. r)

-- ---- a session

-- what a list keeps after every list of calls, and that it is reached
pub record Session (list : List ℕ) (s : State) : Type 0 where
  pub keeps : Keeps list s
  pub reached : Reached s

pub calls_keep : (list : List ℕ) (s : State) → Session list s → (cs : List Step) → Session (list_after_all list cs) (state_after_all s cs)
unfolding list_after_all state_after_all
calls_keep list s h [] = h
calls_keep list s h (c ∷ cs) =
    calls_keep (list_after list c) (state_after s c) (record { keeps = step_keeps list s h.keeps h.reached c; reached = step_reached s h.reached c }) cs

-- the least count in a list is that of the state that it keeps
least_kept : {list : List ℕ} {s : State} → Keeps list s → least_in list ≡ least s
least_kept k = ap (λ (l : Loaded). least l.state) k.loaded

-- what stands beyond the state's numbers has no part in it
lent_keeps : (list : List ℕ) (s : State) (v : Visit) → Keeps list s → Keeps (lent list v) s
lent_keeps list s v k =
    record {
      room = omega (arith, length-append (take size list) v.beyond, length-take-le size list k.room);
      loaded = load_first list v.beyond k.room ∙ k.loaded;
    }

-- a list that keeps a state, after some calls: what it keeps, what they have answered, and the same calls as demand 3 has them
record Led (list : List ℕ) (s : State) (vs : List Visit) : Type 0 where
  kept : Session (list_after_visits list vs) (state_after_visits s vs)
  answered : answers list vs ≡ answers_in s vs
  counting : counted_by_all list vs ≡ counted_all s (calls_of s vs)
  called_to : after_all s (calls_of s vs) ≡ state_after_visits s vs

-- one call, and then others
module _ (list : List ℕ) (s : State) (h : Session list s) (v : Visit) where
  abbrev here : List ℕ
  here = lent list v

  abbrev next : List ℕ
  next = list_after here v.step

  abbrev s' : State
  s' = state_after s v.step

  keeps : Keeps here s
  keeps = lent_keeps list s v h.keeps

  goes_on_lem : Session next s'
  goes_on_lem = record { keeps = step_keeps here s keeps h.reached v.step; reached = step_reached s h.reached v.step }

  led_by_one : (vs : List Visit) → Led next s' vs → Led list s (v ∷ vs)
  unfolding list_after_visits state_after_visits answers answers_in counted_by_all calls_of
  led_by_one vs rest =
      let call = call_of s v.step in
      let more = calls_of s' vs in
      let to = step_calls s v.step in
      record {
        kept = rest.kept;
        answered = ap (λ (a : Answer). a ∷ answers next vs) (step_answers here s keeps h.reached v.step) ∙ ap (λ (l : List Answer). answer_in s v.step ∷ l) rest.answered;
        counting =
            ap (λ (l : List ℕ). l ++ counted_by_all next vs) (step_counted here s keeps h.reached v.step)
            ∙ ap (λ (l : List ℕ). counted_all s call ++ l) rest.counting
            ∙ ap (λ (x : State). counted_all s call ++ counted_all x more) (sym to)
            ∙ sym (counted_append s call more);
        called_to = after_append s call more ∙ ap (λ (x : State). after_all x more) to ∙ rest.called_to;
      }

leads : (list : List ℕ) (s : State) → Session list s → (vs : List Visit) → Led list s vs
unfolding list_after_visits state_after_visits answers answers_in counted_by_all calls_of
leads list s h [] = record { kept = h; answered = refl; counting = sym (counted_none s); called_to = all_none s }
leads list s h (v ∷ vs) = led_by_one list s h v vs (leads (next list s h v) (s' list s h v) (goes_on_lem list s h v) vs)

-- ---- from a fresh state that was written to a list

module _ (i : Inputs) (list : List ℕ) (e : fresh_into i list ≡ 0) where
  abbrev first : List ℕ
  first = fresh_list i list

  begins : Session first (fresh_of i).state
  begins =
      let made = fresh_made i list e in
      let room : size ≤ length list = has_room list made.1 in
      let r = calls.fresh i (sym (fresh_reason_lem i) ∙ made.0) in
      record { keeps = subst (λ (l : List ℕ). Keeps l (fresh_of i).state) (sym made.2) (saved_keeps list (fresh_of i).state room r); reached = r }

  -- after every list of calls the list keeps the state that the same calls lead to from the fresh state, which is a reached one: demand 3 speaks of it
  pub session_visits : (vs : List Visit) → Session (list_after_visits first vs) (state_after_visits (fresh_of i).state vs)
  session_visits vs = (leads first (fresh_of i).state begins vs).kept

  -- and each call has answered what that of the library answers in the state that was kept
  pub session_answers : (vs : List Visit) → answers first vs ≡ answers_in (fresh_of i).state vs
  session_answers vs = (leads first (fresh_of i).state begins vs).answered

  -- so after any calls, as many passes as `limit` tells, of turns that count by the answers' numbers, raise the least count in the list
  pub session_raises : (before vs : List Visit) → (let l = list_after_visits first before in
      least_in l < 1000000 → CutInto i.n (limit_of i.kind i.n i.works).passes (counted_by_all l vs) → least_in l < least_in (list_after_visits l vs))
  session_raises before vs =
      let one = leads first (fresh_of i).state begins before in
      let s = state_after_visits (fresh_of i).state before in
      let two = leads (list_after_visits first before) s one.kept vs in
      let here = least_kept one.kept.keeps in
      let there = least_kept two.kept.keeps in
      let n : s.n ≡ i.n = ap (λ (x : State). x.n) (sym one.called_to) ∙ calls_n (fresh_of i).state (calls_of (fresh_of i).state before) ∙ ap (λ (x : State). x.n) (fresh_accepted i accepted) in
      let raises : Raises s vs = subst (λ (x : State). RaisesFrom x (calls_of s vs)) one.called_to (limit_raises i accepted (calls_of (fresh_of i).state before) (calls_of s vs)) in
      λ low cut.
      let raised = raises (omega (arith, low, here)) (subst (λ (k : ℕ). CutInto k (limit_of i.kind i.n i.works).passes (counted_all s (calls_of s vs))) (sym n) (rw two.counting at cut)) in
      omega (arith, raised, here, there, ap least two.called_to)
    where
      accepted : fresh_reason i ≡ 0
      accepted = sym (fresh_reason_lem i) ∙ (fresh_made i list e).0

      RaisesFrom : State → List Call → Type 0
      RaisesFrom x cs = least x < 1000000 → CutInto x.n (limit_of i.kind i.n i.works).passes (counted_all x cs) → least x < least (after_all x cs)

      Raises : State → List Visit → Type 0
      Raises s vs = RaisesFrom s (calls_of s vs)

-- and where each call is lent the whole list that the one before it left
pub session : (i : Inputs) (list : List ℕ) → fresh_into i list ≡ 0 → (cs : List Step) → Session (list_after_all (fresh_list i list) cs) (state_after_all (fresh_of i).state cs)
session i list e cs = calls_keep (fresh_list i list) (fresh_of i).state (begins i list e) cs

-- ---- from a play-back whose state was written to a list

-- so the session may go on from there: 02, P4's end state, or the one before the triple that differs
pub played_session : (i : Inputs) (trace list : List ℕ) → verdict_reason (kept_verdict (play_of i trace) list) ≡ 0
    → (vs : List Visit) → Session (list_after_visits (kept_played (play_of i trace) list) vs) (state_after_visits (play_of i trace).state vs)
played_session i trace list e vs =
    let made = played_made (play_of i trace) list e in
    let r = played_reached i trace (play_unrefused i trace made.0) in
    let s = (play_of i trace).state in
    (leads (kept_played (play_of i trace) list) s
    (record { keeps = subst (λ (l : List ℕ). Keeps l s) (sym made.2) (saved_keeps list s (has_room list made.1) r); reached = r }) vs).kept

-- ---- the words

-- Pins: what the words of a session say, a second time and without them. A list keeps one state
pub keeps_pin : (list : List ℕ) (s s' : State) → Keeps list s → Keeps list s' → s ≡ s'
keeps_pin list s s' k k' = ap (λ (l : Loaded). l.state) (sym k.loaded ∙ k'.loaded)

-- and each exported call answers, in every number and in what it leaves, as the library does in the state kept
module _ (list : List ℕ) (s : State) (k : Keeps list s) (r : Reached s) where
  pub turn_pin : (p : ℕ) → (let a = turn_told list p in let o = (turn_of s p).outcome in
      (a.reason ≡ reason_number o) × (a.moved ≡ turn_number o) × (a.closed ≡ turn_closed o))
  turn_pin p = let e = step_answers list s k r (turn p) in (cc, cc, cc)

  -- and a turn's answer among those of a session tells all three
  pub turn_answer_pin : (p : ℕ)
      → answer list (turn p) ≡ words.turned (reason_number (turn_of s p).outcome) (turn_number (turn_of s p).outcome) (turn_closed (turn_of s p).outcome)
  turn_answer_pin p = step_answers list s k r (turn p)

  module _ (schedule : List ℕ) (allowance : ℕ) (log : List ℕ) where
    pub resume_pin : (tasks : List ℕ) → (let a = resume_told list schedule allowance log tasks in let ok = task_room s (length tasks) in
        (a.numbers ≡ numbers_of (listed_of s schedule allowance log ok)) × (a.log ≡ listed_log s schedule allowance log ok) × (a.tasks ≡ task_rows_after s schedule allowance log tasks))
    resume_pin tasks = let e = step_answers list s k r (resume schedule allowance log tasks) in (cc, cc, cc)

    pub rows_pin : (numbers : List ℕ) → (let a = rows_told list schedule allowance log numbers in let ok = turn_room schedule allowance (length numbers) in
        (a.numbers ≡ numbers_of (listed_of s schedule allowance log ok)) × (a.log ≡ listed_log s schedule allowance log ok) × (a.rows ≡ turn_rows_after s schedule allowance log numbers))
    rows_pin numbers = let e = step_answers list s k r (rows schedule allowance log numbers) in (cc, cc, cc)
