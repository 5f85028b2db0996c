-- Laws of the steps of a play-back: it is what the run of the known tasks and its log tell.
use Rattle.std.specs.Prelude.{◌≡◌, Bool, ◌&&◌, List, [], ◌∷◌, ◌++◌, ◌≢◌, eqb, ltb, length, take, drop, get_or, Ok, Err}
use Rattle.std.proofs.Math.Path.{refl}
use Rattle.std.proofs.Common.{sym, ap, ◌∙◌, add-zero, take_at, drop-cons, length-drop}
use Rattle.std.proofs.Math.Bool.{true, false}
use Prim.Native.Nat.{ℕ, zero, suc, ◌+◌, ◌*◌, ◌/◌, ◌%◌, ◌≤◌, ◌<◌}
use native.Mathlib.Omega.{arith}
use Rattle.std.proofs.Math.Dec.{eqb-suc-suc, eqb-zero-suc}
use Rattle.std.proofs.Math.Seq.{take-length}
use borrow.Author.Tests.{ltb-true, ltb-false, lt-ltb, le-ltb, eq-eqb, ne_eqb}
use Rattle.bitset.specs.Choice.{pick}
use Rattle.bitset.specs.ChoiceLaws.{by_test}
use Rattle.schedule.specs.Passes.{all_tasks}
use Rattle.schedule.specs.PassesLaws.{all_known}
use Rattle.machine.specs.declared.State.{State}
use Rattle.machine.specs.Answers.{Outcome}
use Rattle.machine.specs.Setters.{task_at}
use Rattle.machine.specs.Range.{Valid}
use Rattle.machine.specs.Turn.{turn_of, move_number}
use Rattle.machine.proofs.TurnLaws.{turn_unknown, turn_constants}
use Rattle.machine.proofs.KeepLaws.{turn_valid}
use Rattle.runner.specs.Trace.{turned, trace_of}
use Rattle.runner.specs.TraceLaws.{trace_none, trace_turn, trace_stays, made_few}
use Rattle.runner.specs.Run.{log_of, run_reason, run_of, log_after}
use Rattle.runner.specs.RunLaws.{length_log, run_accepts, run_unrefused, log_none, log_row, log_accepts}
use Rattle.playback.specs.declared.Verdict.TheVariants as verdict
use Rattle.playback.specs.declared.Played.{Played}
use Rattle.playback.specs.declared.Part.{Part}
use Rattle.playback.specs.Playback.{Report, Triple, triples_of, equals, does, play_from}
use Rattle.playback.specs.Steps.{known_in, same_in, Reports}

-- ---- the report by a run

-- of `count` triples, of which the first k have the bytes of the log, where the tasks ps have been run
abbrev pub by_run : State → ℕ → ℕ → List ℕ → ℕ → Played
by_run s i count ps k =
    pick (eqb k count)
    (record { state = (trace_of s ps).state; verdict = Ok verdict.Agrees })
    (record { state = (trace_of s (take k ps)).state; verdict = Ok (verdict.Differs (i + k)) })

pub play_runs : (s : State) (i : ℕ) (ts : List Triple) → Valid s
    → play_from s i ts ≡ by_run s i (length ts) (known_in s.n ts) (same_in ts (log_of (trace_of s (known_in s.n ts)).made))
unfolding play_from known_in same_in
play_runs s i [] ok = rw (trace_none s)
play_runs s i (t ∷ ts) ok =
    go (rw (turn_constants s t.task).n at (play_runs (turn_of s t.task).state (suc i) ts (turn_valid s t.task ok))) (ltb t.task s.n) refl
  where
    next : State
    next = (turn_of s t.task).state

    rest : List ℕ
    rest = known_in s.n ts

    differs : Played
    differs = record { state = s; verdict = Ok (verdict.Differs i) }

    -- the same of the triples after the first
    Later : Type 0
    Later = play_from next (suc i) ts ≡ by_run next (suc i) (length ts) rest (same_in ts (log_of (trace_of next rest).made))

    -- nothing has the log's bytes
    none : (ps : List ℕ) → differs ≡ by_run s i (suc (length ts)) ps 0
    none ps = rw (eqb-zero-suc (length ts), trace_none s, add-zero i)

    by_outcome : Later → (o : Outcome) → (turn_of s t.task).outcome ≡ o
        → pick (equals s t o) (play_from next (suc i) ts) differs
        ≡ by_run s i (suc (length ts)) (t.task ∷ rest) (same_in (t ∷ ts) (log_of (turned s t.task o (trace_of next rest)).made))
    by_outcome later (Err k) e = rw log_none (none (t.task ∷ rest))
    by_outcome later (Ok how) e =
        rw (log_row (record { task = t.task; line = (task_at s t.task).line; how = how }) (trace_of next rest).made)
        (by_bytes (eqb t.line (task_at s t.task).line && eqb t.how (move_number how)))
      where
        k : ℕ
        k = same_in ts (log_of (trace_of next rest).made)

        by_bytes : (b : Bool) → pick b (play_from next (suc i) ts) differs ≡ by_run s i (suc (length ts)) (t.task ∷ rest) (pick b (suc k) 0)
        by_bytes false = none (t.task ∷ rest)
        by_bytes true =
            let more : suc i + k ≡ i + suc k = omega arith in
            later ∙ rw (eqb-suc-suc k (length ts), trace_turn s t.task rest, trace_turn s t.task (take k rest), e, more)

    go : Later → (b : Bool) → ltb t.task s.n ≡ b
        → pick (does s t) (play_from next (suc i) ts) differs
        ≡ by_run s i (suc (length ts)) (pick b (t.task ∷ rest) []) (same_in (t ∷ ts) (log_of (trace_of s (pick b (t.task ∷ rest) [])).made))
    go later true h =
        let first : same_in (t ∷ ts) (log_of (turned s t.task (turn_of s t.task).outcome (trace_of next rest)).made) ≡ same_in (t ∷ ts) (log_of (trace_of s (t.task ∷ rest)).made) = rw (trace_turn s t.task rest) in
        by_outcome later (turn_of s t.task).outcome refl ∙ ap (by_run s i (suc (length ts)) (t.task ∷ rest)) first
    go later false h =
        let unread : same_in (t ∷ ts) (log_of (trace_of s []).made) ≡ 0 = rw (trace_none s, log_none) in
        rw (turn_unknown s t.task ok (ltb-false t.task s.n h)) (none [] ∙ ap (by_run s i (suc (length ts)) []) (sym unread))

-- ---- the tasks that are run

pub known_few : (n : ℕ) (ts : List Triple) → length (known_in n ts) ≤ length ts
unfolding known_in
known_few n [] = omega arith
known_few n (t ∷ ts) =
    by_test (λ (ps : List ℕ). length ps ≤ suc (length ts)) (ltb t.task n) {x = t.task ∷ known_in n ts} {y = []} (λ _. omega (arith, known_few n ts)) (λ _. omega arith)

known_below : (n : ℕ) (ts : List Triple) (i : ℕ) → i < length (known_in n ts) → get_or (known_in n ts) i 0 < n
unfolding known_in
known_below n [] i = λ l. absurd (omega arith)
known_below n (t ∷ ts) i =
    by_test (λ (ps : List ℕ). i < length ps → get_or ps i 0 < n) (ltb t.task n) {x = t.task ∷ known_in n ts} {y = []}
    (λ h l. first i l (ltb-true t.task n h) (known_below n ts)) (λ _ l. absurd (omega arith))
  where
    first : (i : ℕ) → i < suc (length (known_in n ts)) → t.task < n → ((j : ℕ) → j < length (known_in n ts) → get_or (known_in n ts) j 0 < n)
        → get_or (t.task ∷ known_in n ts) i 0 < n
    first zero l h more = h
    first (suc i) l h more = more i (omega arith)

pub known_tasks : (n : ℕ) (ts : List Triple) → all_tasks n (known_in n ts) ≡ true
known_tasks n ts = (all_known n (known_in n ts)).1 (known_below n ts)

-- ---- the triples one by one

-- three bytes in front of others are a triple, and fewer than three are none
pub triples_split : (x rest : List ℕ) → length x ≡ 3
    → triples_of (x ++ rest) ≡ record { task = get_or x 0 0; line = get_or x 1 0; how = get_or x 2 0 } ∷ triples_of rest
unfolding triples_of
triples_split [] rest h = absurd (omega arith)
triples_split (a ∷ []) rest h = absurd (omega arith)
triples_split (a ∷ b ∷ []) rest h = absurd (omega arith)
triples_split (a ∷ b ∷ c ∷ []) rest h = refl
triples_split (a ∷ b ∷ c ∷ d ∷ x) rest h = absurd (omega arith)

pub short : (bs : List ℕ) → length bs < 3 → triples_of bs ≡ []
unfolding triples_of
short [] h = refl
short (a ∷ []) h = refl
short (a ∷ b ∷ []) h = refl
short (a ∷ b ∷ c ∷ bs) h = absurd (omega arith)

-- the triple at the place i of a trace
abbrev pub triple_at : List ℕ → ℕ → Triple
triple_at trace i = record { task = get_or trace (3 * i) 0; line = get_or trace (3 * i + 1) 0; how = get_or trace (3 * i + 2) 0 }

module _ (trace : List ℕ) (i : ℕ) where
  pub triples_next : 3 * i + 2 < length trace → triples_of (drop (3 * i) trace) ≡ triple_at trace i ∷ triples_of (drop (3 * (i + 1)) trace)
  unfolding triples_of
  triples_next l =
      let one : suc (3 * i) ≡ 3 * i + 1 = omega arith in
      let two : suc (3 * i + 1) ≡ 3 * i + 2 = omega arith in
      let three : suc (3 * i + 2) ≡ 3 * (i + 1) = omega arith in
      rw (drop-cons trace (3 * i) 0 (omega arith), one, drop-cons trace (3 * i + 1) 0 (omega arith), two, drop-cons trace (3 * i + 2) 0 l, three)

  pub triples_done : length trace ≤ 3 * i + 2 → triples_of (drop (3 * i) trace) ≡ []
  triples_done l = short (drop (3 * i) trace) (omega (arith, length-drop (3 * i) trace))

-- two bytes in front of others, by their places
pub row_next : (row after : List ℕ) → length row ≡ 2 → row ++ after ≡ get_or row 0 0 ∷ get_or row 1 0 ∷ after
row_next [] after h = absurd (omega arith)
row_next (a ∷ []) after h = absurd (omega arith)
row_next (a ∷ b ∷ []) after h = refl
row_next (a ∷ b ∷ c ∷ row) after h = absurd (omega arith)

pub length_triples : (trace : List ℕ) → length (triples_of trace) ≡ length trace / 3
unfolding triples_of
length_triples [] = omega arith
length_triples (a ∷ []) = omega arith
length_triples (a ∷ b ∷ []) = omega arith
length_triples (a ∷ b ∷ c ∷ bs) = omega (arith, length_triples bs)

-- ---- one triple more

module _ (n : ℕ) (t : Triple) (ts : List Triple) where
  pub known_more : t.task < n → known_in n (t ∷ ts) ≡ t.task ∷ known_in n ts
  unfolding known_in
  known_more h = rw (lt-ltb t.task n h)

  pub known_last : n ≤ t.task → known_in n (t ∷ ts) ≡ []
  unfolding known_in
  known_last h = rw (le-ltb t.task n h)

pub known_none : (n : ℕ) → known_in n [] ≡ []
unfolding known_in
known_none n = refl

module _ (t : Triple) (ts : List Triple) (line how : ℕ) (log : List ℕ) where
  pub same_more : t.line ≡ line → t.how ≡ how → same_in (t ∷ ts) (line ∷ how ∷ log) ≡ suc (same_in ts log)
  unfolding same_in
  same_more l h = rw (eq-eqb t.line line l, eq-eqb t.how how h)

  pub other_line : t.line ≢ line → same_in (t ∷ ts) (line ∷ how ∷ log) ≡ 0
  unfolding same_in
  other_line ne = rw (ne_eqb t.line line ne)

  pub other_outcome : t.how ≢ how → same_in (t ∷ ts) (line ∷ how ∷ log) ≡ 0
  unfolding same_in
  other_outcome ne = rw (ne_eqb t.how how ne) (go (eqb t.line line))
    where
      go : (b : Bool) → pick (b && false) (suc (same_in ts log)) 0 ≡ 0
      go true = refl
      go false = refl

-- no more than the log has
pub same_few : (ts : List Triple) (log : List ℕ) → 2 * same_in ts log ≤ length log
unfolding same_in
same_few [] log = omega arith
same_few (t ∷ ts) [] = omega arith
same_few (t ∷ ts) (a ∷ []) = omega arith
same_few (t ∷ ts) (a ∷ b ∷ log) =
    by_test (λ (k : ℕ). 2 * k ≤ suc (suc (length log))) (eqb t.line a && eqb t.how b) {x = suc (same_in ts log)} {y = 0} (λ _. omega (arith, same_few ts log)) (λ _. omega arith)

-- nothing is left of the log
pub same_done : (ts : List Triple) (log : List ℕ) → length log < 2 → same_in ts log ≡ 0
unfolding same_in
same_done [] log h = refl
same_done (t ∷ ts) [] h = refl
same_done (t ∷ ts) (a ∷ []) h = refl
same_done (t ∷ ts) (a ∷ b ∷ log) h = absurd (omega arith)

-- ---- the runs

-- a part of a trace that is played from a state in range, and the tasks of it that are run; the log has two bytes a triple
module _ (s : State) (trace : List ℕ) (ok : Valid s) (few : length trace ≤ 12288) where
  abbrev known : List ℕ
  known = known_in s.n (triples_of trace)

  pub known_fit : 3 * length known ≤ length trace
  known_fit = omega (arith, known_few s.n (triples_of trace), length_triples trace)

  module _ (log : List ℕ) (wide : 8192 ≤ length log) where
    -- nothing refuses a run of them
    unrefused : (allowance : ℕ) → run_reason s known allowance (length log) ≡ 0
    unrefused allowance =
        run_unrefused s known allowance (length log) ok (omega (arith, known_fit)) (known_tasks s.n (triples_of trace)) (omega (arith, known_fit))

    pub run_state : (allowance : ℕ) → (run_of s known allowance log).state ≡ (trace_of s (take allowance known)).state
    run_state allowance = rw (run_accepts s known allowance log (unrefused allowance))

    pub run_turns : (run_of s known (length known) log).turns ≡ length (trace_of s known).made
    run_turns = rw (run_accepts s known (length known) log (unrefused (length known)), take-length known)

    -- the log's bytes of the turns made
    pub run_log : take (2 * length (trace_of s known).made) (log_after s known (length known) log) ≡ log_of (trace_of s known).made
    run_log =
        rw (log_accepts s known (length known) log (unrefused (length known)), take-length known)
        (take_at (log_of (trace_of s known).made) (drop (2 * length (trace_of s known).made) log) (2 * length (trace_of s known).made) (length_log (trace_of s known).made))

    -- as many triples as the log has, or fewer, are what the turns do
    module _ (k : ℕ) (is : k ≡ same_in (triples_of trace) (log_of (trace_of s known).made)) where
      made_most : k ≤ length (trace_of s known).made
      made_most = omega (arith, is, same_few (triples_of trace) (log_of (trace_of s known).made), length_log (trace_of s known).made)

      known_most : length (trace_of s known).made ≤ length (triples_of trace)
      known_most = omega (arith, made_few s known, known_few s.n (triples_of trace))

      pub part_all : k ≡ length (trace_of s known).made → Reports s (triples_of trace) (record { same = k; state = (run_of s known (length known) log).state })
      part_all all = (
        omega (arith, made_most, known_most),
        λ i. play_runs s i (triples_of trace) ok ∙ rw (← is, all, trace_stays s known, run_state (length known), take-length known),
      )

      pub part_some : k ≢ length (trace_of s known).made → Reports s (triples_of trace) (record { same = k; state = (run_of s known k log).state })
      part_some ne =
          let less : k ≢ length (triples_of trace) = λ e. ne (omega (arith, made_most, known_most)) in
          (omega (arith, made_most, known_most), λ i. play_runs s i (triples_of trace) ok ∙ rw (← is, ne_eqb k (length (triples_of trace)) less, run_state k))

-- ---- part after part

-- what is reported of triples and then of those after them, which are asked only where the first agree
abbrev onward : Report → State → ℕ → List Triple → Played
onward (Ok verdict.Agrees) s i us = play_from s i us
onward (Ok (verdict.Differs k)) s i us = record { state = s; verdict = Ok (verdict.Differs k) }
onward (Err k) s i us = record { state = s; verdict = Err k }

play_append : (s : State) (i : ℕ) (ts us : List Triple) → play_from s i (ts ++ us) ≡ onward (play_from s i ts).verdict (play_from s i ts).state (i + length ts) us
unfolding play_from
play_append s i [] us = rw (add-zero i)
play_append s i (t ∷ ts) us = go (does s t) (play_append (turn_of s t.task).state (suc i) ts us)
  where
    rest : List Triple → Played
    rest vs = play_from (turn_of s t.task).state (suc i) vs

    differs : Played
    differs = record { state = s; verdict = Ok (verdict.Differs i) }

    go : (b : Bool) → rest (ts ++ us) ≡ onward (rest ts).verdict (rest ts).state (suc i + length ts) us
        → pick b (rest (ts ++ us)) differs ≡ onward (pick b (rest ts) differs).verdict (pick b (rest ts) differs).state (i + suc (length ts)) us
    go true ih = ih ∙ ap (λ (k : ℕ). onward (rest ts).verdict (rest ts).state k us) (omega arith)
    go false ih = refl

module _ (s : State) (i : ℕ) (ts us : List Triple) (r : Part) (reports : Reports s ts r) where
  pub part_on : r.same ≡ length ts → play_from s i (ts ++ us) ≡ play_from r.state (i + length ts) us
  part_on all =
      let is : play_from s i ts ≡ record { state = r.state; verdict = Ok verdict.Agrees } = reports.1 i ∙ rw (eq-eqb r.same (length ts) all) in
      play_append s i ts us ∙ ap (λ (p : Played). onward p.verdict p.state (i + length ts) us) is

  pub part_off : r.same ≢ length ts → play_from s i (ts ++ us) ≡ record { state = r.state; verdict = Ok (verdict.Differs (i + r.same)) }
  part_off ne =
      let is : play_from s i ts ≡ record { state = r.state; verdict = Ok (verdict.Differs (i + r.same)) } = reports.1 i ∙ rw (ne_eqb r.same (length ts) ne) in
      play_append s i ts us ∙ ap (λ (p : Played). onward p.verdict p.state (i + length ts) us) is

-- the triples of a trace that is cut at a triple
pub triples_append : (xs ys : List ℕ) → length xs % 3 ≡ 0 → triples_of (xs ++ ys) ≡ triples_of xs ++ triples_of ys
unfolding triples_of
triples_append [] ys h = refl
triples_append (a ∷ []) ys h = absurd (omega arith)
triples_append (a ∷ b ∷ []) ys h = absurd (omega arith)
triples_append (a ∷ b ∷ c ∷ xs) ys h = ap (λ (ts : List Triple). record { task = a; line = b; how = c } ∷ ts) (triples_append xs ys (omega arith))
