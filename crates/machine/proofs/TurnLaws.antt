-- Laws of a turn over its definition: by cases, what it leaves as it was, what it never changes, and what it stores.
use Rattle.std.specs.Prelude.{◌≡◌, Bool, true, false, List, ◌≢◌, ◌⊎◌, ℕ, ◌+◌, ◌-◌, ◌≤◌, ◌<◌, eqb, ltb, length, get_or, set, Ok, Err}
use Rattle.std.proofs.Math.Path.{refl}
use Rattle.std.proofs.Common.{sym, ap, ◌∙◌, true≢false, inl, inr, arith, length-set, get_or-set_same, get_or-set_other, eq-eqb, ne_eqb, lt-ltb, le-ltb, ltb-true, ltb-false, eqb-true}
use Rattle.std.proofs.Math.Decide.{ℕ_discrete, dec_lt}
use Rattle.std.proofs.Math.Seq.{set_out}
use Rattle.std.proofs.lemmas.List.{set-get_or}
use Rattle.bitset.specs.Choice.{pick}
use Rattle.bitset.specs.ChoiceLaws.{by_test}
use Rattle.lines.specs.declared.Task.{Task}
use Rattle.lines.specs.declared.Effect.{Effect}
use Rattle.lines.specs.declared.Act.{Act}
use Rattle.lines.specs.declared.Act.TheVariants.{Moves, Waits, Refuses}
use Rattle.lines.specs.declared.Write.{Write}
use Rattle.lines.specs.declared.Write.TheVariants.{Nothing, Arrivals, Sense, Toggle, Flag}
use Rattle.lines.specs.Setters.{zero_task, with_toggle, with_flag}
use Rattle.lines.specs.Common.{moves}
use Rattle.lines.specs.Symmetric.{symmetric_line}
use Rattle.lines.specs.Increment.{increment_line}
use Rattle.lines.specs.Ring.{ring_line}
use Rattle.lines.specs.Tree.{tree_line}
use Rattle.lines.specs.Centralized.{centralized_line}
use Rattle.lines.specs.Rule.{effect_from}
use Rattle.lines.specs.Words.{writes, arrivals_after, sense_after, place_of, task_after}
use Rattle.lines.specs.CountingLaws.{DoesAt, does_at}
use Rattle.lines.specs.LineLaws.{Does, keeps, raises, stays, refused_7, refused_11, does, Kept, kept}
use Rattle.machine.specs.declared.State.{State}
use Rattle.machine.specs.declared.Move.{Move}
use Rattle.machine.specs.declared.Move.TheVariants.{Moved, Waited}
use Rattle.machine.specs.Answers.{Outcome}
use Rattle.machine.specs.declared.Turned.{Turned}
use Rattle.machine.specs.Setters.{task_at, moves_at, waits_at, with_task, with_tasks, with_arrivals, with_sense, with_moves, with_waits}
use Rattle.machine.specs.Tally.{max_tally, tallied, move_tallied, wait_tallied}
use Rattle.machine.specs.Range.{shared_of, table_of, check_state, Valid}
use Rattle.machine.specs.Least.{closed_by}
use Rattle.machine.specs.Turn.{effect_of, outcome_of, written, moved_to, answer_of, applied, step_of, refused_turn, turn_of, move_number, wait_number, reason_number}

-- ---- by cases

-- what holds of a refused turn and of a step holds of a turn
pub by_turn : (P : Turned → Type 0) (s : State) (p : ℕ) → ((k : ℕ) → P (refused_turn s k)) → (Valid s → p < s.n → P (step_of s p)) → P (turn_of s p)
unfolding turn_of
by_turn P s p refused stepped =
    by_test P (eqb (check_state s) 0)
    (λ ok. by_test P (ltb p s.n) (λ h. stepped (eqb-true (check_state s) 0 ok) (ltb-true p s.n h)) (λ h. refused 9))
    (λ bad. refused (check_state s))

-- for a state in range and a known task a turn is a step
pub turn_step : (s : State) (p : ℕ) → Valid s → p < s.n → turn_of s p ≡ step_of s p
unfolding turn_of
turn_step s p ok h = rw (eq-eqb (check_state s) 0 ok, lt-ltb p s.n h)

-- a state that is refused has no turn
pub turn_checked : (s : State) (p : ℕ) → check_state s ≢ 0 → turn_of s p ≡ refused_turn s (check_state s)
unfolding turn_of
turn_checked s p bad = rw (ne_eqb (check_state s) 0 bad)

-- a turn of no task is refused 9
pub turn_unknown : (s : State) (p : ℕ) → Valid s → s.n ≤ p → turn_of s p ≡ refused_turn s 9
unfolding turn_of
turn_unknown s p ok h = rw (eq-eqb (check_state s) 0 ok, le-ltb p s.n h)

-- the effect, as the rule gives it, and of each kind
module _ (s : State) (p : ℕ) where
  -- the task, and the one that it looks at
  abbrev own : Task
  own = task_at s p

  abbrev seen : Task
  seen = task_at s own.looked

  pub effect_rule : effect_of s p ≡ effect_from (shared_of s) (table_of s) p own seen
  unfolding effect_of
  effect_rule = refl

  pub effect_0 : s.kind ≡ 0 → effect_of s p ≡ symmetric_line own.line s.n s.modulus seen.tag own
  unfolding effect_of
  effect_0 k = rw k

  pub effect_1 : s.kind ≡ 1 → effect_of s p ≡ increment_line own.line s.n s.arrivals s.sense own
  unfolding effect_of
  effect_1 k = rw k

  pub effect_2 : s.kind ≡ 2 → effect_of s p ≡ ring_line own.line s.n p own
  unfolding effect_of
  effect_2 k = rw k

  pub effect_3 : s.kind ≡ 3 → effect_of s p ≡ tree_line own.line (table_of s) p seen.flag own
  unfolding effect_of
  effect_3 k = rw k

  pub effect_4 : s.kind ≡ 4 → effect_of s p ≡ centralized_line own.line s.n s.arrivals s.sense own
  unfolding effect_of
  effect_4 k = rw k

  -- what the line does, whatever the kind
  pub effect_does : Does (shared_of s) own (effect_of s p)
  unfolding effect_of
  effect_does = does (shared_of s) (table_of s) p own seen

  pub effect_does_at : DoesAt (shared_of s) own (effect_of s p)
  unfolding effect_of
  effect_does_at = does_at (shared_of s) (table_of s) p own seen

-- a turn that is made is a move or a wait, by its numbers: each is 1 at most, and both together are 1
pub move_le : (how : Move) → move_number how ≤ 1
move_le (Moved c) = omega arith
move_le Waited = omega arith

pub wait_le : (how : Move) → wait_number how ≤ 1
wait_le (Moved c) = omega arith
wait_le Waited = omega arith

pub move_or_wait : (b : Bool) (how : Move) → pick b (move_number how) 0 + pick b (wait_number how) 0 ≡ pick b 1 0
move_or_wait true (Moved c) = refl
move_or_wait true Waited = refl
move_or_wait false how = refl

wait_number_lem : (how : Move) → 1 - move_number how ≡ wait_number how
wait_number_lem (Moved c) = refl
wait_number_lem Waited = refl

-- ---- the answer

-- a step is what its effect makes of the state
pub step_state : (s : State) (p : ℕ)
    → (step_of s p).state ≡ applied (answer_of s p (effect_of s p)) s p (effect_of s p).task (effect_of s p).write
unfolding step_of
step_state s p = refl

pub step_outcome : (s : State) (p : ℕ) → (step_of s p).outcome ≡ answer_of s p (effect_of s p)
unfolding step_of
step_outcome s p = refl

pub turn_answer : (s : State) (p : ℕ) → Valid s → p < s.n → (turn_of s p).outcome ≡ answer_of s p (effect_of s p)
turn_answer s p ok h = ap (λ (r : Turned). r.outcome) (turn_step s p ok h) ∙ step_outcome s p

-- the line's own outcome of a turn that is made, and the tally that the turn raises
abbrev pub act_of : Move → Act
act_of (Moved c) = Moves
act_of Waited = Waits

abbrev pub raised_by : Move → ℕ → ℕ → ℕ
raised_by (Moved c) m w = m
raised_by Waited m w = w

-- a turn that is made is its line's own outcome, and has room in the tally that it raises
made_by : (a : Act) (closed m w : ℕ) (how : Move) → outcome_of a closed m w ≡ Ok how → (a ≡ act_of how) × (raised_by how m w < max_tally)
made_by Moves closed m w how e =
    by_test (λ o. o ≡ Ok how → (Moves ≡ act_of how) × (raised_by how m w < max_tally)) (ltb m max_tally)
    (λ room. moved how (ltb-true m max_tally room)) (λ _ q. let z : ◌≡◌ {A = ℕ} 0 1 = cc in absurd (omega arith)) e
  where
    moved : (h : Move) → m < max_tally → ◌≡◌ {A = Outcome} (Ok (Moved closed)) (Ok h) → (Moves ≡ act_of h) × (raised_by h m w < max_tally)
    moved (Moved c) room q = (refl, room)
    moved Waited room q = let z : ◌≡◌ {A = ℕ} 0 1 = cc in absurd (omega arith)
made_by Waits closed m w how e =
    by_test (λ o. o ≡ Ok how → (Waits ≡ act_of how) × (raised_by how m w < max_tally)) (ltb w max_tally)
    (λ room. waited how (ltb-true w max_tally room)) (λ _ q. let z : ◌≡◌ {A = ℕ} 0 1 = cc in absurd (omega arith)) e
  where
    waited : (h : Move) → w < max_tally → ◌≡◌ {A = Outcome} (Ok Waited) (Ok h) → (Waits ≡ act_of h) × (raised_by h m w < max_tally)
    waited (Moved c) room q = let z : ◌≡◌ {A = ℕ} 0 1 = cc in absurd (omega arith)
    waited Waited room q = (refl, room)
made_by (Refuses k) closed m w how e = let z : ◌≡◌ {A = ℕ} 0 1 = cc in absurd (omega arith)

-- the tally that a line's outcome would raise is at its limit
abbrev pub Full : Act → ℕ → ℕ → Type 0
Full Moves m w = max_tally ≤ m
Full Waits m w = max_tally ≤ w
Full (Refuses k) m w = ⊥

-- a turn that is refused is refused by its line, or for reason 13, a tally at its limit
refused_by : (a : Act) (closed m w k : ℕ) → outcome_of a closed m w ≡ Err k → (a ≡ Refuses k) ⊎ ((k ≡ 13) × Full a m w)
refused_by Moves closed m w k e =
    by_test (λ o. o ≡ Err k → (Moves ≡ Refuses k) ⊎ ((k ≡ 13) × Full Moves m w)) (ltb m max_tally)
    (λ _ q. let z : ◌≡◌ {A = ℕ} 0 1 = cc in absurd (omega arith)) (λ full q. let same : 13 ≡ k = cc in inr (sym same, ltb-false m max_tally full)) e
refused_by Waits closed m w k e =
    by_test (λ o. o ≡ Err k → (Waits ≡ Refuses k) ⊎ ((k ≡ 13) × Full Waits m w)) (ltb w max_tally)
    (λ _ q. let z : ◌≡◌ {A = ℕ} 0 1 = cc in absurd (omega arith)) (λ full q. let same : 13 ≡ k = cc in inr (sym same, ltb-false w max_tally full)) e
refused_by (Refuses j) closed m w k e = let same : j ≡ k = cc in inl (ap Refuses same)

-- a turn is answered moved where its line moves and its tally of moves is below the limit
pub turn_moves : (s : State) (p : ℕ) → Valid s → p < s.n → (effect_of s p).act ≡ Moves → moves_at s p < max_tally
    → (turn_of s p).outcome ≡ Ok (Moved (closed_by s (moved_to s p (effect_of s p).task (effect_of s p).write)))
turn_moves s p ok h e room = rw (turn_answer s p ok h, e, lt-ltb (moves_at s p) max_tally room)

-- what is known of a turn that is made
pub record Makes (s : State) (p : ℕ) (how : Move) : Type 0 where
  pub valid : Valid s
  pub known : p < s.n
  pub act : (effect_of s p).act ≡ act_of how
  pub room : raised_by how (moves_at s p) (waits_at s p) < max_tally

pub turn_makes : (s : State) (p : ℕ) (how : Move) → (turn_of s p).outcome ≡ Ok how → Makes s p how
turn_makes s p how =
    by_turn (λ r. r.outcome ≡ Ok how → Makes s p how) s p (λ k e. let z : ◌≡◌ {A = ℕ} 0 1 = cc in absurd (omega arith))
    (λ ok h e. let by = made_by (effect_of s p).act _ (moves_at s p) (waits_at s p) how (sym (step_outcome s p) ∙ e) in
    record { valid = ok; known = h; act = by.0; room = by.1 })

-- a refusal of a known task, in a state in range
pub refusal_acts : (s : State) (p k : ℕ) → Valid s → p < s.n → (turn_of s p).outcome ≡ Err k
    → ((effect_of s p).act ≡ Refuses k) ⊎ ((k ≡ 13) × Full (effect_of s p).act (moves_at s p) (waits_at s p))
refusal_acts s p k ok h e =
    refused_by (effect_of s p).act _ (moves_at s p) (waits_at s p) k (sym (turn_answer s p ok h) ∙ e)

-- a turn whose line moves is answered moved, unless it is refused 13
pub able_moves : (s : State) (p : ℕ) → Valid s → p < s.n → (effect_of s p).act ≡ Moves → reason_number (turn_of s p).outcome ≢ 13
    → (c : ℕ) × ((turn_of s p).outcome ≡ Ok (Moved c))
able_moves s p ok h act not_13 = go (turn_of s p).outcome refl
  where
    refused : (k : ℕ) → reason_number (turn_of s p).outcome ≡ k → ((effect_of s p).act ≡ Refuses k) ⊎ ((k ≡ 13) × Full (effect_of s p).act (moves_at s p) (waits_at s p)) → ⊥
    refused k e (inl a) = let z : ◌≡◌ {A = ℕ} 0 1 = cc in omega arith
    refused k e (inr w) = not_13 (e ∙ w.0)

    go : (o : Outcome) → (turn_of s p).outcome ≡ o → (c : ℕ) × (o ≡ Ok (Moved c))
    go (Ok (Moved c)) e = (c, refl)
    go (Ok Waited) e =
        let a = (turn_makes s p Waited e).act in
        let z : ◌≡◌ {A = ℕ} 0 1 = cc in
        absurd (omega arith)
    go (Err k) e = absurd (refused k (ap reason_number e) (refusal_acts s p k ok h e))

-- ---- what a turn leaves

-- the state after a turn, by what it answers
pub turn_applied : (s : State) (p : ℕ) → (turn_of s p).state ≡ applied (turn_of s p).outcome s p (effect_of s p).task (effect_of s p).write
turn_applied s p =
    by_turn (λ r. r.state ≡ applied r.outcome s p (effect_of s p).task (effect_of s p).write) s p (λ k. refl) (λ ok h. unfold step_of in refl)

module _ (s : State) (p : ℕ) where
  by_answer : (o : Outcome) → (turn_of s p).outcome ≡ o → (turn_of s p).state ≡ applied o s p (effect_of s p).task (effect_of s p).write
  by_answer o e = turn_applied s p ∙ ap (λ (x : Outcome). applied x s p (effect_of s p).task (effect_of s p).write) e

  -- a refused call "returns .. the state it got"
  pub refused_still : (k : ℕ) → (turn_of s p).outcome ≡ Err k → (turn_of s p).state ≡ s
  refused_still k e = by_answer (Err k) e

  -- 02, P3: "a turn that waits now raises its task's wait tally by one and nothing else"
  pub waited_tallied : (turn_of s p).outcome ≡ Ok Waited → (turn_of s p).state ≡ wait_tallied s p
  waited_tallied e = by_answer (Ok Waited) e

  -- a move stores its own task, and then writes its word; 02, P3: it "also raises its task's move tally by one"
  pub moved_tallied : (c : ℕ) → (turn_of s p).outcome ≡ Ok (Moved c) → (turn_of s p).state ≡ move_tallied (moved_to s p (effect_of s p).task (effect_of s p).write) p
  moved_tallied c e = by_answer (Ok (Moved c)) e

-- ---- what a turn stores, straight on

-- all that an effect has, stored whatever the outcome: the own task, the arrivals, the sense, and the task that is written to; and both tallies,
-- by what the turn did
abbrev pub stored : State → ℕ → Effect → Move → State
stored s p e how =
    let tasks = set s.tasks p e.task in
    record {
      kind = s.kind;
      n = s.n;
      modulus = s.modulus;
      arrivals = arrivals_after e.write s.arrivals;
      sense = sense_after e.write s.sense;
      parents = s.parents;
      moves = tallied s.moves p (move_number how);
      waits = tallied s.waits p (wait_number how);
      tasks = set tasks (place_of e.write p) (task_after e.write (get_or tasks (place_of e.write p) zero_task));
    }

-- the state after a turn's stores, one after the other, where both tallies are stored
pub stored_is : (state : State) (p : ℕ) (e : Effect) (how : Move) (byte arrivals sense place : ℕ) (there : Task)
    → byte ≡ move_number how
    → arrivals ≡ arrivals_after e.write state.arrivals → sense ≡ sense_after e.write state.sense → place ≡ place_of e.write p
    → there ≡ task_after e.write (get_or (set state.tasks p e.task) place zero_task)
    → record {
      kind = state.kind;
      n = state.n;
      modulus = state.modulus;
      arrivals = arrivals;
      sense = sense;
      parents = state.parents;
      moves = tallied state.moves p byte;
      waits = tallied state.waits p (1 - byte);
      tasks = set (set state.tasks p e.task) place there;
    }
    ≡ stored state p e how
stored_is state p e how byte arrivals sense place there eb ea es ep et = rw (eb, wait_number_lem how, et, ep, ea, es)

-- a tally that is raised by 0 stays
tallied_0 : (l : List ℕ) (p : ℕ) → tallied l p 0 ≡ l
tallied_0 l p = let same : get_or l p 0 + 0 ≡ get_or l p 0 = omega arith in ap (set l p) same ∙ set-get_or l p 0

-- a state with the tallies of s after a turn
abbrev pub with_tallies : State → State → ℕ → Move → State
with_tallies x s p how = with_waits (with_moves x (tallied s.moves p (move_number how))) (tallied s.waits p (wait_number how))

-- a move stores all but the tallies
stored_move : (w : Write) (s : State) (p : ℕ) (u : Task) (how : Move)
    → with_tallies (written w (with_task s p u)) s p how ≡ stored s p (moves u w) how
stored_move Nothing s p u how =
    ap (λ (ts : List Task). with_tasks (with_tallies s s p how) ts)
    (sym (set-get_or (set s.tasks p u) p zero_task))
stored_move (Arrivals x) s p u how =
    ap (λ (ts : List Task). with_arrivals (with_tasks (with_tallies s s p how) ts) x)
    (sym (set-get_or (set s.tasks p u) p zero_task))
stored_move (Sense x) s p u how =
    ap (λ (ts : List Task). with_sense (with_tasks (with_tallies s s p how) ts) x)
    (sym (set-get_or (set s.tasks p u) p zero_task))
stored_move (Toggle q x) s p u how = refl
stored_move (Flag q x) s p u how = refl

pub stored_moved : (s : State) (p : ℕ) (e : Effect) (how : Move)
    → stored s p e how
    ≡ with_tallies (moved_to s p e.task e.write) s p how
stored_moved s p e how = sym (stored_move e.write s p e.task how)

-- where the effect writes nothing, storing its own task and the tallies is all
pub stored_own : (s : State) (p : ℕ) (e : Effect) (how : Move) (byte : ℕ) → byte ≡ move_number how → writes e.write ≡ false
    → with_task (with_waits (with_moves s (tallied s.moves p byte)) (tallied s.waits p (1 - byte))) p e.task ≡ stored s p e how
stored_own s p e how byte eb none = rw (eb, wait_number_lem how) (go e.write none)
  where
    go : (w : Write) → writes w ≡ false
        → with_task (with_tallies s s p how) p e.task
        ≡ stored s p (record { act = e.act; task = e.task; write = w }) how
    go Nothing none = stored_move Nothing s p e.task how
    go (Arrivals x) none = absurd (true≢false none)
    go (Sense x) none = absurd (true≢false none)
    go (Toggle q x) none = absurd (true≢false none)
    go (Flag q x) none = absurd (true≢false none)

-- writing leaves the tallies
pub written_tallies : (w : Write) (s : State) (p : ℕ) (t : Task) → ((written w (with_task s p t)).moves ≡ s.moves) × ((written w (with_task s p t)).waits ≡ s.waits)
written_tallies Nothing s p t = (refl, refl)
written_tallies (Arrivals x) s p t = (refl, refl)
written_tallies (Sense x) s p t = (refl, refl)
written_tallies (Toggle q x) s p t = (refl, refl)
written_tallies (Flag q x) s p t = (refl, refl)

-- what the outcome of a turn that is made leaves: all that its effect has, stored. A wait's effect has the task that stood there, and writes
-- nothing.
applied_stored : (s : State) (p : ℕ) (e : Effect) → Does (shared_of s) (task_at s p) e → (how : Move) → e.act ≡ act_of how
    → applied (Ok how) s p e.task e.write ≡ stored s p e how
applied_stored s p e d (Moved c) act =
    ap (λ (l : List ℕ). with_moves moved (tallied l p 1)) (written_tallies e.write s p e.task).0
    ∙ ap (with_waits (with_moves moved (tallied s.moves p 1))) ((written_tallies e.write s p e.task).1 ∙ sym (tallied_0 s.waits p))
    ∙ sym (stored_moved s p e (Moved c))
  where
    moved : State
    moved = moved_to s p e.task e.write
applied_stored s p _ (keeps c) Waited act = let z : ◌≡◌ {A = ℕ} 0 1 = cc in absurd (omega arith)
applied_stored s p _ (raises l c) Waited act = let z : ◌≡◌ {A = ℕ} 0 1 = cc in absurd (omega arith)
applied_stored s p _ stays Waited act =
    ap (λ (l : List ℕ). with_moves (wait_tallied s p) l) (sym (tallied_0 s.moves p))
    ∙ ap (λ (ts : List Task). with_tasks (with_waits (with_moves s (tallied s.moves p 0)) (tallied s.waits p 1)) ts)
    (sym (set-get_or (set s.tasks p (task_at s p)) p zero_task ∙ set-get_or s.tasks p zero_task))
applied_stored s p _ (refused_7 k) Waited act = let z : ◌≡◌ {A = ℕ} 0 1 = cc in absurd (omega arith)
applied_stored s p _ (refused_11 l) Waited act = let z : ◌≡◌ {A = ℕ} 0 1 = cc in absurd (omega arith)

-- a turn that is made stores all that its effect has
pub step_made : (s : State) (p : ℕ) (how : Move) → answer_of s p (effect_of s p) ≡ Ok how
    → step_of s p ≡ record { state = stored s p (effect_of s p) how; outcome = Ok how }
unfolding step_of
step_made s p how made =
    ap (λ (o : Outcome). record { state = applied o s p (effect_of s p).task (effect_of s p).write; outcome = o }) made
    ∙ ap (λ (x : State). record { state = x; outcome = Ok how })
    (applied_stored s p (effect_of s p) (effect_does s p) how (made_by (effect_of s p).act _ (moves_at s p) (waits_at s p) how made).0)

-- a turn that is refused leaves the state
pub step_refused : (s : State) (p k : ℕ) → answer_of s p (effect_of s p) ≡ Err k → step_of s p ≡ refused_turn s k
unfolding step_of
step_refused s p k e = rw e

-- the two for a turn: what it is, by its line's outcome
module _ (s : State) (p : ℕ) (ok : Valid s) (h : p < s.n) where
  pub turn_made : (how : Move) → answer_of s p (effect_of s p) ≡ Ok how → turn_of s p ≡ record { state = stored s p (effect_of s p) how; outcome = Ok how }
  turn_made how e = turn_step s p ok h ∙ step_made s p how e

  pub turn_refused : (k : ℕ) → answer_of s p (effect_of s p) ≡ Err k → turn_of s p ≡ refused_turn s k
  turn_refused k e = turn_step s p ok h ∙ step_refused s p k e

-- ---- what a turn never changes

-- kind, N, R and parents never change
pub record Constants (s s' : State) : Type 0 where
  pub kind : s'.kind ≡ s.kind
  pub n : s'.n ≡ s.n
  pub modulus : s'.modulus ≡ s.modulus
  pub parents : s'.parents ≡ s.parents

-- what a move writes
pub constants_written : (w : Write) (s : State) (p : ℕ) (t : Task) → Constants s (written w (with_task s p t))
constants_written Nothing s p t = record { kind = refl; n = refl; modulus = refl; parents = refl }
constants_written (Arrivals x) s p t = record { kind = refl; n = refl; modulus = refl; parents = refl }
constants_written (Sense x) s p t = record { kind = refl; n = refl; modulus = refl; parents = refl }
constants_written (Toggle q x) s p t = record { kind = refl; n = refl; modulus = refl; parents = refl }
constants_written (Flag q x) s p t = record { kind = refl; n = refl; modulus = refl; parents = refl }

-- so N is the same once a move is stored
pub moved_n : (s : State) (p : ℕ) (t : Task) (w : Write) → (moved_to s p t w).n ≡ s.n
moved_n s p t w = (constants_written w s p t).n

constants_applied : (o : Outcome) (s : State) (p : ℕ) (t : Task) (w : Write) → Constants s (applied o s p t w)
constants_applied (Ok (Moved c)) s p t w =
    let k = constants_written w s p t in
    record { kind = k.kind; n = k.n; modulus = k.modulus; parents = k.parents }
constants_applied (Ok Waited) s p t w = record { kind = refl; n = refl; modulus = refl; parents = refl }
constants_applied (Err k) s p t w = record { kind = refl; n = refl; modulus = refl; parents = refl }

pub turn_constants : (s : State) (p : ℕ) → Constants s (turn_of s p).state
turn_constants s p = rw (turn_applied s p) (constants_applied (turn_of s p).outcome s p (effect_of s p).task (effect_of s p).write)

-- ---- the tasks after a store

pub put_same : (s : State) (p : ℕ) (t : Task) → p < length s.tasks → task_at (with_task s p t) p ≡ t
put_same s p t h = get_or-set_same s.tasks p t zero_task h

pub put_other : (s : State) (p q : ℕ) (t : Task) → q ≢ p → task_at (with_task s p t) q ≡ task_at s q
put_other s p q t ne = get_or-set_other s.tasks p q t zero_task ne

-- a field of the tasks, or what is made of some, after a store
module _ {A : Type 0} (f : Task → A) where
  -- a store that leaves the field of its own task leaves every task's
  pub put_field : (s : State) (p q : ℕ) (t : Task) → f t ≡ f (task_at s p) → f (task_at (with_task s p t) q) ≡ f (task_at s q)
  put_field s p q t e = go (ℕ_discrete q p) (dec_lt p (length s.tasks))
    where
      go : Dec (q ≡ p) → Dec (p < length s.tasks) → f (task_at (with_task s p t) q) ≡ f (task_at s q)
      go (yes eq) (yes h) = rw (eq, put_same s p t h) e
      go (yes eq) (no h) = ap (λ (ts : List Task). f (get_or ts q zero_task)) (set_out s.tasks p t (omega arith))
      go (no ne) h = ap f (put_other s p q t ne)

  -- a field that is neither toggle nor flag
  module _ (apart : (t : Task) (x : ℕ) → (f (with_toggle t x) ≡ f t) × (f (with_flag t x) ≡ f t)) where
    -- writing a shared word leaves it
    pub written_field : (w : Write) (s : State) (q : ℕ) → f (task_at (written w s) q) ≡ f (task_at s q)
    written_field Nothing s q = refl
    written_field (Arrivals x) s q = refl
    written_field (Sense x) s q = refl
    written_field (Toggle p x) s q = put_field s p q (with_toggle (task_at s p) x) (apart (task_at s p) x).0
    written_field (Flag p x) s q = put_field s p q (with_flag (task_at s p) x) (apart (task_at s p) x).1

    -- after a move the own task has the field of the task stored, and every other the one it had
    pub own_field : (w : Write) (s : State) (p : ℕ) (t : Task) → p < length s.tasks → f (task_at (written w (with_task s p t)) p) ≡ f t
    own_field w s p t h = written_field w (with_task s p t) p ∙ ap f (put_same s p t h)

    pub other_field : (w : Write) (s : State) (p q : ℕ) (t : Task) → q ≢ p → f (task_at (written w (with_task s p t)) q) ≡ f (task_at s q)
    other_field w s p q t ne = written_field w (with_task s p t) q ∙ ap f (put_other s p q t ne)

-- ---- what a task keeps

-- a field that is neither toggle nor flag, and that the task stored has as the own task had it
kept_applied : (f : Task → ℕ) → ((t : Task) (x : ℕ) → (f (with_toggle t x) ≡ f t) × (f (with_flag t x) ≡ f t)) → (o : Outcome) (s : State) (p q : ℕ) (t : Task) (w : Write)
    → f t ≡ f (task_at s p) → f (task_at (applied o s p t w) q) ≡ f (task_at s q)
kept_applied f apart (Ok (Moved c)) s p q t w e = written_field f apart w (with_task s p t) q ∙ put_field f s p q t e
kept_applied f apart (Ok Waited) s p q t w e = refl
kept_applied f apart (Err k) s p q t w e = refl

-- what a line keeps of its task, and what it does at 11
pub effect_keeps : (s : State) (p : ℕ) → Kept (task_at s p) (effect_of s p)
unfolding effect_of
effect_keeps s p = kept (shared_of s) (table_of s) p (task_at s p) (task_at s (task_at s p).looked)

-- 02, P1: each task keeps its start, whatever turn is made
pub turn_start : (s : State) (p q : ℕ) → (task_at (turn_of s p).state q).start ≡ (task_at s q).start
turn_start s p q =
    rw (turn_applied s p) (kept_applied (λ t. t.start) (λ t x. (refl, refl)) (turn_of s p).outcome s p q (effect_of s p).task (effect_of s p).write (effect_keeps s p).start)

-- 02, P6: and its work length
pub turn_work : (s : State) (p q : ℕ) → (task_at (turn_of s p).state q).work ≡ (task_at s q).work
turn_work s p q =
    rw (turn_applied s p) (kept_applied (λ t. t.work) (λ t x. (refl, refl)) (turn_of s p).outcome s p q (effect_of s p).task (effect_of s p).write (effect_keeps s p).length)

-- ---- how many tasks there are

length_written : (w : Write) (s : State) (p : ℕ) (t : Task) → length (written w (with_task s p t)).tasks ≡ length s.tasks
length_written Nothing s p t = length-set s.tasks p t
length_written (Arrivals x) s p t = length-set s.tasks p t
length_written (Sense x) s p t = length-set s.tasks p t
length_written (Toggle q x) s p t = length-set (set s.tasks p t) q _ ∙ length-set s.tasks p t
length_written (Flag q x) s p t = length-set (set s.tasks p t) q _ ∙ length-set s.tasks p t

length_applied : (o : Outcome) (s : State) (p : ℕ) (t : Task) (w : Write) → length (applied o s p t w).tasks ≡ length s.tasks
length_applied (Ok (Moved closed)) s p t w = length_written w s p t
length_applied (Ok Waited) s p t w = refl
length_applied (Err k) s p t w = refl

-- no turn changes that
pub turn_length : (s : State) (p : ℕ) → length (turn_of s p).state.tasks ≡ length s.tasks
turn_length s p = rw (turn_applied s p) (length_applied (turn_of s p).outcome s p (effect_of s p).task (effect_of s p).write)
