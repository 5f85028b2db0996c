-- The loop of a run, after i turns that nothing stopped: the state and the log are those of the trace so far, and the counts and the least of them
-- are the state's.
use mathlib.Core.Path.{◌≡◌, refl, sym, ap, ◌∙◌, subst}
use mathlib.Core.Bool.{true}
use mathlib.Core.List.{List, [], ◌∷◌, ◌++◌, append-nil, append_assoc}
use Prim.Native.Nat.{ℕ, suc, ◌+◌, ◌-◌, ◌*◌, ◌≤◌, ◌<◌}
use native.Mathlib.Decide.{ℕ_discrete}
use native.Mathlib.Numerals.{add-one}
use native.Mathlib.Omega.{arith}
use lib.ListN.{length, get_or, take, drop, set, length-append, length-drop, length-set}
use lib.Seq.{get_or-take, length-take-le, get_or-set_same, get_or-set_other, take-suc, take_at, drop_at, take-length, drop-length, drop-drop, take-add, drop-cons}
use borrow.Rule.Slice.PartMut.{put_mid}
use Rattle.lines.specs.declared.Effect.{Effect}
use Rattle.lines.specs.Rule.{effect_from}
use Rattle.lines.specs.Words.{place_of}
use Rattle.counts.specs.declared.Least.{Least}
use Rattle.counts.specs.Counts.{lowest, least_among, closes_of}
use Rattle.counts.specs.CountsLaws.{KeptOrRaised, least_same}
use Rattle.machine.specs.declared.State.{State}
use Rattle.machine.specs.declared.Move.{Move}
use Rattle.machine.specs.declared.Turned.{Turned}
use Rattle.std.specs.Prelude.{Ok, Err}
use Rattle.machine.specs.Setters.{task_at, moves_at, waits_at}
use Rattle.machine.specs.Tally.{max_tally}
use Rattle.machine.proofs.TallyLaws.{moves_limit, waits_limit}
use Rattle.machine.specs.Range.{shared_of, Valid, table_of}
use Rattle.machine.specs.Least.{count_of, counts_of, closed_by}
use Rattle.machine.specs.Least as count
use Rattle.machine.specs.LeastLaws.{least_is}
use Rattle.machine.proofs.CountLaws.{kept_or_raised}
use Rattle.machine.proofs.RoundLaws.{lent_there, closed_is, own_made, other_made}
use Rattle.machine.specs.Turn.{effect_of, outcome_of, moved_to, answer_of, turn_of, move_number}
use Rattle.machine.proofs.TurnLaws.{effect_rule, stored, turn_made, turn_refused, turn_constants}
use Rattle.machine.proofs.KeepLaws.{turn_valid, looked_known, place_known}
use Rattle.machine.specs.RangeLaws.{range}
use Rattle.bitset.specs.Table.{table}
use Rattle.bitset.specs.TableLaws.{table_at, table_same}
use Rattle.schedule.specs.Passes.{all_tasks}
use Rattle.schedule.specs.PassesLaws.{all_known}
use Rattle.runner.specs.Trace.{Row, Trace, nothing, refusal, trace_of}
use Rattle.runner.specs.TraceLaws.{trace_made, trace_stopped}
use Rattle.runner.specs.RunLaws.{length_log, log_more, trace_rounds, trace_tallies}
use Rattle.runner.specs.declared.Ending.{Ending}
use Rattle.runner.specs.declared.Ending.TheVariants.{Stopped}
use Rattle.runner.specs.Rise.{NoLess, rise_of}
use Rattle.runner.specs.Run.{ran_of, moves_in, waits_in, rounds_in, log_of, logged_of}

-- the counts of the n tasks of a state, in a list
pub record Mirrors (n : ℕ) (counts : List ℕ) (state : State) : Type 0 where
  pub long : length counts ≡ n
  pub at : (q : ℕ) → q < n → get_or counts q 0 ≡ count_of state q

-- the least of them
mirrors_least : {n : ℕ} {counts : List ℕ} {state : State} → Mirrors n counts state → 0 < n
    → least_among (λ q. get_or counts q 0) (length counts) ≡ least_among (count_of state) n
mirrors_least {n} {counts} {state} k some =
    rw k.long (least_same (count_of state) (λ q. get_or counts q 0) n some k.at)

-- what the loop carries besides the state
pub record Held : Type 0 where
  pub counts : List ℕ
  pub least : Least

pub record Going (s : State) (schedule log₀ : List ℕ) (i : ℕ) (state : State) (held : Held) (log : List ℕ) : Type 0 where
  pub on : (trace_of s (take i schedule)).stop ≡ nothing
  pub here : (trace_of s (take i schedule)).state ≡ state
  pub many : length (trace_of s (take i schedule)).made ≡ i
  pub logged : log ≡ logged_of (trace_of s (take i schedule)) log₀
  pub valid : Valid state
  pub tasks : state.n ≡ s.n
  pub parents : state.parents ≡ s.parents
  pub mirrors : Mirrors s.n held.counts state
  pub lowest : held.least ≡ least_among (count_of state) s.n

-- the counts as they are lent
mirrors_lent : (s : State) (counts : List ℕ) → Valid s → counts ≡ take s.n (counts_of s) → Mirrors s.n counts s
mirrors_lent s counts ok lent =
    let few = (range s ok).few in
    record {
      long = ap length lent ∙ length-take-le s.n (counts_of s) (lent_there s s.n few (counts_of s) refl);
      at = λ q h. ap (λ (l : List ℕ). get_or l q 0) lent ∙ get_or-take s.n (counts_of s) q 0 h ∙ table_at 64 (count_of s) q 0 (omega arith);
    }

-- before the first turn
pub going_none : (s : State) (schedule log₀ counts : List ℕ) (least : Least) → Valid s → counts ≡ take s.n (counts_of s)
    → least ≡ least_among (λ q. get_or counts q 0) (length counts)
    → Going s schedule log₀ 0 s (record { counts = counts; least = least }) log₀
unfolding trace_of log_of
going_none s schedule log₀ counts least ok lent e =
    record {
      on = refl;
      here = refl;
      many = refl;
      logged = refl;
      valid = ok;
      tasks = refl;
      parents = refl;
      mirrors = mirrors_lent s counts ok lent;
      lowest = e ∙ mirrors_least (mirrors_lent s counts ok lent) (range s ok).some;
    }

-- the least count before the first turn
pub first_least : (s : State) (counts : List ℕ) (least : Least) → Valid s → counts ≡ take s.n (counts_of s)
    → least ≡ least_among (λ q. get_or counts q 0) (length counts) → least.count ≡ count.least s
first_least s counts least ok lent e =
    ap (λ (l : Least). l.count) (going_none s [] [] counts least ok lent e).lowest ∙ sym (least_is s)

-- two bytes written to the tail of a log, as a part that was lent comes back
rowed : (before tail : List ℕ) (k x y : ℕ) → length before ≡ k → 2 ≤ length tail
    → put_mid k (length (before ++ tail) - k) (before ++ tail) (set (set (take (length (before ++ tail) - k) (drop k (before ++ tail))) 0 x) 1 y)
    ≡ before ++ x ∷ y ∷ drop 2 tail
rowed before tail k x y long two =
    let e : length (before ++ tail) - k ≡ length tail = omega (arith, length-append before tail) in
    rw (e, take_at before tail k long, drop_at before tail k long, take-length tail, drop-length tail) (ap (λ (l : List ℕ). before ++ l) (go tail two))
  where
    go : (l : List ℕ) → 2 ≤ length l → set (set l 0 x) 1 y ++ [] ≡ x ∷ y ∷ drop 2 l
    go [] h = absurd (omega arith)
    go (a ∷ []) h = absurd (omega arith)
    go (a ∷ b ∷ l) h = ap (λ (r : List ℕ). x ∷ y ∷ r) (append-nil l)

module _ {s : State} {schedule log₀ : List ℕ} {i : ℕ} {state : State} {held : Held} {log : List ℕ} (g : Going s schedule log₀ i state held log) where
  -- the trace so far
  abbrev so_far : Trace
  so_far = trace_of s (take i schedule)

  -- the log keeps its length
  pub going_long : 2 * i ≤ length log₀ → length log ≡ length log₀
  going_long h =
      let made : List Row = so_far.made in
      ap length g.logged
      ∙ omega (arith, length-append (log_of made) (drop (2 * length made) log₀), length_log made, length-drop (2 * length made) log₀, g.many)

  -- and so do the counts
  pub counts_long : (counts₀ : List ℕ) → Valid s → counts₀ ≡ take s.n (counts_of s) → length held.counts ≡ length counts₀
  counts_long counts₀ ok lent = g.mirrors.long ∙ sym (mirrors_lent s counts₀ ok lent).long

  -- no tally has fallen, and how far they have risen
  tallies : (q : ℕ) → (moves_at state q ≡ moves_at s q + moves_in so_far.made q) × (waits_at state q ≡ waits_at s q + waits_in so_far.made q)
  tallies q = rw g.here at (trace_tallies s (take i schedule) q)

  pub no_less : NoLess s.moves state.moves × NoLess s.waits state.waits
  no_less = (λ q h. omega (arith, (tallies q).0), λ q h. omega (arith, (tallies q).1))

  moves_now : rise_of s.moves state.moves ≡ table 64 (moves_in so_far.made)
  moves_now = table_same 64 (λ q. moves_at state q - moves_at s q) (moves_in so_far.made) (λ q h. omega (arith, (tallies q).0))

  waits_now : rise_of s.waits state.waits ≡ table 64 (waits_in so_far.made)
  waits_now = table_same 64 (λ q. waits_at state q - waits_at s q) (waits_in so_far.made) (λ q h. omega (arith, (tallies q).1))

  -- the least count now, and the rounds closed since the first turn
  now_least : held.least.count ≡ count.least s + rounds_in so_far.made
  now_least =
      ap (λ (l : Least). l.count) g.lowest ∙ ap (λ (k : ℕ). lowest (count_of state) (k - 1)) (sym g.tasks) ∙ sym (least_is state)
      ∙ ap count.least (sym g.here) ∙ trace_rounds s (take i schedule)

  pub least_up : (before : ℕ) → before ≡ count.least s → before ≤ held.least.count
  least_up before e = omega (arith, now_least)

  rounds_now : (before : ℕ) → before ≡ count.least s → held.least.count - before ≡ rounds_in so_far.made
  rounds_now before e = omega (arith, now_least)

  -- what the run answers where no turn is refused
  pub finished : (end : Ending) (before turns : ℕ) → before ≡ count.least s → i ≡ turns
      → (record { state = state; ending = end; turns = turns; rounds = held.least.count - before; moves = rise_of s.moves state.moves; waits = rise_of s.waits state.waits }
      ≡ ran_of (trace_of s (take turns schedule)) end)
      × (log ≡ logged_of (trace_of s (take turns schedule)) log₀)
  finished end before turns e all = rw (← all) (rw (g.on, g.here, g.many, rounds_now before e, moves_now, waits_now), g.logged)

  -- what a task does, by the table of the first state
  pub effect_is : (parents : List ℕ) → parents ≡ table_of s → (p : ℕ) (e : Effect)
      → e ≡ effect_from (shared_of state) parents p (task_at state p) (task_at state (task_at state p).looked) → e ≡ effect_of state p
  effect_is parents same p e does = does ∙ rw (effect_rule state p, same, g.tasks, g.parents)

-- and a turn is next, of a schedule that names tasks only
pub record Next (s : State) (schedule log₀ : List ℕ) (i : ℕ) (state : State) (held : Held) (log : List ℕ) : Type 0 where
  pub going : Going s schedule log₀ i state held log
  pub all : all_tasks s.n schedule ≡ true
  pub less : i < length schedule

pub next_of : {s : State} {schedule log₀ : List ℕ} {i : ℕ} {state : State} {held : Held} {log : List ℕ} → Going s schedule log₀ i state held log
    → all_tasks s.n schedule ≡ true → i < length schedule → Next s schedule log₀ i state held log
next_of g all less = record { going = g; all = all; less = less }

module _ {s : State} {schedule log₀ : List ℕ} {i : ℕ} {state : State} {held : Held} {log : List ℕ} (next : Next s schedule log₀ i state held log) where
  abbrev g : Going s schedule log₀ i state held log
  g = next.going

  -- the turn's task, and the turns made before it
  abbrev p : ℕ
  p = get_or schedule i 0

  abbrev rows : List Row
  rows = (trace_of s (take i schedule)).made

  -- the task is one of the state's, and so is the one that it looks at
  known : p < state.n
  known = rw g.tasks ((all_known s.n schedule).0 next.all i next.less)

  pub own_there : p < 64
  own_there = omega (arith, known, (range state g.valid).few)

  -- its tallies have room for one more
  pub moves_room : moves_at state p ≤ max_tally
  moves_room = moves_limit state p g.valid known

  pub waits_room : waits_at state p ≤ max_tally
  waits_room = waits_limit state p g.valid known

  pub seen_there : (task_at state p).looked < 64
  seen_there = omega (arith, looked_known state p g.valid known, (range state g.valid).few)

  -- its count is the one in the list
  pub count_there : p < length held.counts
  count_there = rw (g.mirrors.long, ← g.tasks) known

  own_count : get_or held.counts p 0 ≡ count_of state p
  own_count = g.mirrors.at p (rw (← g.tasks) known)

  pub least_there : held.least ≡ least_among (λ q. get_or held.counts q 0) (length held.counts)
  least_there = g.lowest ∙ sym (mirrors_least g.mirrors (rw (← g.tasks) (range state g.valid).some))

  module _ (e : Effect) (does : e ≡ effect_of state p) where
    -- what the turn answers, by whether it closes a round
    pub answer_is : (closed : ℕ) → closed ≡ closes_of held.least (task_at state p).count e.task.count
        → outcome_of e.act closed (moves_at state p) (waits_at state p) ≡ answer_of state p e
    answer_is closed c =
        ap (λ (x : ℕ). outcome_of e.act x (moves_at state p) (waits_at state p))
        (c ∙ ap (λ (l : Least). closes_of l (count_of state p) e.task.count) (g.lowest ∙ ap (least_among (count_of state)) (sym g.tasks))
        ∙ subst (λ (x : Effect). closes_of (least_among (count_of state) state.n) (count_of state p) x.task.count ≡ closed_by state (moved_to state p x.task x.write))
        (sym does) (closed_is state p g.valid known))

    -- its count stays or rises by one
    pub count_rises : KeptOrRaised (get_or held.counts p 0) e.task.count
    count_rises = rw (own_count, does) (kept_or_raised state p)

    -- the task that it writes to is there
    pub place_there : place_of e.write p < 64
    place_there = rw does (omega (arith, place_known state p g.valid known, (range state g.valid).few))

    -- what the run answers where it is refused
    pub stopped : (end : Ending) (k reason turns before : ℕ) → answer_of state p e ≡ Err k → reason ≡ k → i < turns → before ≡ count.least s
        → (record { state = state; ending = Stopped reason; turns = i; rounds = held.least.count - before; moves = rise_of s.moves state.moves; waits = rise_of s.waits state.waits }
        ≡ ran_of (trace_of s (take turns schedule)) end)
        × (log ≡ logged_of (trace_of s (take turns schedule)) log₀)
    stopped end k reason turns before refused q h first =
        (rw (stop, q, g.many, rounds_now g before first, moves_now g, waits_now g), rw stop g.logged)
      where
        us : List ℕ
        us = take (turns - i - 1) (drop (suc i) schedule)

        parts : take turns schedule ≡ take i schedule ++ p ∷ us
        parts =
            let e : i + suc (turns - i - 1) ≡ turns = omega arith in
            ap (λ (m : ℕ). take m schedule) (sym e) ∙ take-add i (suc (turns - i - 1)) schedule
            ∙ ap (λ (l : List ℕ). take i schedule ++ take (suc (turns - i - 1)) l) (drop-cons schedule i 0 next.less)

        answer : (turn_of state p).outcome ≡ Err k
        answer = ap (λ (r : Turned). r.outcome) (turn_refused state p g.valid known k (rw does at refused))

        stop : trace_of s (take turns schedule) ≡ record { made = rows; state = state; stop = refusal p k }
        stop =
            ap (trace_of s) parts
            ∙ subst (λ (x : State). trace_of s (take i schedule ++ p ∷ us) ≡ record { made = rows; state = x; stop = refusal p k })
            g.here (trace_stopped s (take i schedule) p g.on k us (rw g.here answer))

    -- what the loop holds after it where it is made
    module _ (how : Move) (made : answer_of state p e ≡ Ok how) where
      abbrev row : Row
      row = record { task = p; line = (task_at state p).line; how = how }

      turn : turn_of state p ≡ record { state = stored state p e how; outcome = Ok how }
      turn = rw does (turn_made state p g.valid known how (rw does at made))

      with_one : trace_of s (take (i + 1) schedule) ≡ record { made = rows ++ row ∷ []; state = (turn_of state p).state; stop = nothing }
      with_one =
          ap (trace_of s) (rw (add-one i, take-suc schedule i 0 next.less))
          ∙ subst (λ (x : State). trace_of s (take i schedule ++ p ∷ [])
          ≡ record { made = rows ++ record { task = p; line = (task_at x p).line; how = how } ∷ []; state = (turn_of x p).state; stop = nothing })
          g.here (trace_made s (take i schedule) p g.on how (rw g.here (ap (λ (r : Turned). r.outcome) turn)))

      logged_more : 2 * i + 2 ≤ length log₀
          → put_mid (2 * i) (length log - 2 * i) log (set (set (take (length log - 2 * i) (drop (2 * i) log)) 0 (task_at state p).line) 1 (move_number how))
          ≡ log_of (rows ++ row ∷ []) ++ drop (2 * length (rows ++ row ∷ [])) log₀
      logged_more room =
          let many : length rows ≡ i = g.many in
          let more : 2 * length (rows ++ row ∷ []) ≡ 2 * length rows + 2 = omega (arith, length-append rows (row ∷ [])) in
          ap (λ (l : List ℕ). put_mid (2 * i) (length l - 2 * i) l (set (set (take (length l - 2 * i) (drop (2 * i) l)) 0 (task_at state p).line) 1 (move_number how))) g.logged
          ∙ rowed (log_of rows) (drop (2 * length rows) log₀) (2 * i) (task_at state p).line (move_number how)
          (omega (arith, length_log rows)) (omega (arith, length-drop (2 * length rows) log₀))
          ∙ rw (drop-drop, more, log_more, append_assoc)

      -- the counts after it
      mirrors_more : Mirrors s.n (set held.counts p e.task.count) (turn_of state p).state
      mirrors_more =
          record {
            long = length-set held.counts p e.task.count ∙ g.mirrors.long;
            at = λ q h. at q h (ℕ_discrete q p);
          }
        where
          answer : (turn_of state p).outcome ≡ Ok how
          answer = ap (λ (r : Turned). r.outcome) turn

          at : (q : ℕ) → q < s.n → Dec (q ≡ p) → get_or (set held.counts p e.task.count) q 0 ≡ count_of (turn_of state p).state q
          at q h (yes same) =
              rw same
              (get_or-set_same held.counts p e.task.count 0 count_there ∙ ap (λ (x : Effect). x.task.count) does
              ∙ sym (own_made state p g.valid known how answer))
          at q h (no ne) =
              get_or-set_other held.counts p q e.task.count 0 ne ∙ g.mirrors.at q h ∙ sym (other_made state p g.valid known how answer q ne)

      pub goes_on_lem : (byte : ℕ) (state' : State) (counts' : List ℕ) (least' : Least) (tail : List ℕ) → byte ≡ move_number how → 2 * i + 2 ≤ length log₀
          → state' ≡ stored state p e how
          → counts' ≡ set held.counts p e.task.count
          → least' ≡ least_among (λ q. get_or counts' q 0) (length held.counts)
          → tail ≡ set (set (take (length log - 2 * i) (drop (2 * i) log)) 0 (task_at state p).line) 1 byte
          → Going s schedule log₀ (i + 1) state' (record { counts = counts'; least = least' }) (put_mid (2 * i) (length log - 2 * i) log tail)
      goes_on_lem byte state' counts' least' tail eb room es ec el et =
          rw (et, eb, es, ← ap (λ (r : Turned). r.state) turn)
          (record {
            on = ap (λ (t : Trace). t.stop) with_one;
            here = ap (λ (t : Trace). t.state) with_one;
            many = ap (λ (t : Trace). length t.made) with_one ∙ omega (arith, length-append rows (row ∷ []), g.many);
            logged = rw with_one (logged_more room);
            valid = turn_valid state p g.valid;
            tasks = (turn_constants state p).n ∙ g.tasks;
            parents = (turn_constants state p).parents ∙ g.parents;
            mirrors = after;
            lowest =
                el ∙ ap (least_among (λ q. get_or counts' q 0)) (g.mirrors.long ∙ sym after.long)
                ∙ mirrors_least after (rw (← g.tasks) (range state g.valid).some);
          })
        where
          after : Mirrors s.n counts' (turn_of state p).state
          after = rw ec mirrors_more
