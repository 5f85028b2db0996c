-- Laws of play-back: of its reasons, of the triples that agree and the first that does not, of the run of their tasks, of cuts, and of runs woven into triples.
use Rattle.std.specs.Prelude.{◌≡◌, refl, true, false, List, [], ◌∷◌, ◌++◌, map, ◌≢◌, ◌↔◌, ℕ, zero, suc, ◌+◌, ◌*◌, ◌%◌, ◌≤◌, ◌<◌, min, eqb, leb, length, take, Ok, Err}
use Rattle.std.proofs.Common.{sym, ap, ◌∙◌, subst, true≢false, arith, length-take, take_all, take-take, get_or-take, eq-eqb, ne_eqb, le-leb, le-ltb, leb-true, eqb-true}
use Rattle.std.proofs.Math.Bool.{and-eq-true_iff}
use Rattle.std.proofs.Math.Decide.{ℕ_discrete}
use Rattle.std.proofs.lemmas.List.{length-map}
use Rattle.std.proofs.Math.ListN.{get_or-map}
use Rattle.bitset.specs.Choice.{pick}
use Rattle.bitset.specs.ChoiceLaws.{by_test}
use Rattle.schedule.specs.Passes.{max_turns, all_tasks}
use Rattle.schedule.specs.PassesLaws.{all_known}
use Rattle.machine.specs.declared.State.{State}
use Rattle.machine.specs.Answers.{Outcome}
use Rattle.machine.specs.Setters.{task_at}
use Rattle.machine.specs.Fresh.{Inputs, fresh_reason, fresh_state}
use Rattle.machine.specs.Range.{Valid}
use Rattle.machine.specs.Turn.{turn_of, move_number}
use Rattle.machine.proofs.TurnLaws.{move_le, turn_makes}
use Rattle.runner.specs.declared.Ending.TheVariants.{Done}
use Rattle.runner.specs.Trace.{Row, nothing, Trace, turned, trace_of}
use Rattle.runner.specs.TraceLaws.{trace_none, trace_turn, made_all, trace_n}
use Rattle.runner.specs.Run.{log_of, unstopped, ending_of, run_reason, run_of}
use Rattle.runner.specs.RunLaws.{run_accepts, run_unrefused, log_row}
use Rattle.playback.specs.declared.Verdict.TheVariants as verdict
use Rattle.playback.specs.declared.Played.{Played}
use Rattle.playback.specs.Agreement.{Performs, tasks_of, led_to, triple_in, AllDo, FirstAt, woven}
use Rattle.playback.specs.Playback.{Triple, Report, triples_of, equals, does, play_from, trace_reason, play_reason, refused_play, play_of, verdict_reason}

-- ---- the reasons

module _ (i : Inputs) (trace : List ℕ) where
  -- "The fresh state's checks come first"
  pub reason_fresh : fresh_reason i ≢ 0 → play_reason i trace ≡ fresh_reason i
  unfolding play_reason
  reason_fresh ne = rw (ne_eqb (fresh_reason i) 0 ne)

  pub reason_trace : fresh_reason i ≡ 0 → play_reason i trace ≡ trace_reason trace
  unfolding play_reason
  reason_trace e = rw (eq-eqb (fresh_reason i) 0 e)

  pub play_refused : play_reason i trace ≢ 0 → play_of i trace ≡ refused_play (play_reason i trace)
  unfolding play_of
  play_refused ne = rw (ne_eqb (play_reason i trace) 0 ne)

  pub play_accepted : play_reason i trace ≡ 0 → play_of i trace ≡ play_from (fresh_state i) 0 (triples_of trace)
  unfolding play_of
  play_accepted e = rw (eq-eqb (play_reason i trace) 0 e)

-- a play-back of which no reason is told is not refused
pub play_unrefused : (i : Inputs) (trace : List ℕ) → verdict_reason (play_of i trace).verdict ≡ 0 → play_reason i trace ≡ 0
play_unrefused i trace e = go (ℕ_discrete (play_reason i trace) 0)
  where
    go : Dec (play_reason i trace ≡ 0) → play_reason i trace ≡ 0
    go (yes z) = z
    go (no ne) = absurd (ne (sym (ap (λ (p : Played). verdict_reason p.verdict) (play_refused i trace ne)) ∙ e))

-- no triple, and one more
pub from_none : (s : State) (i : ℕ) → play_from s i [] ≡ record { state = s; verdict = Ok verdict.Agrees }
unfolding play_from
from_none s i = refl

pub from_triple : (s : State) (i : ℕ) (t : Triple) (ts : List Triple)
    → play_from s i (t ∷ ts) ≡ pick (does s t) (play_from (turn_of s t.task).state (suc i) ts) (record { state = s; verdict = Ok (verdict.Differs i) })
unfolding play_from
from_triple s i t ts = refl

-- a trace that no reason refuses
pub trace_taken : (trace : List ℕ) → trace_reason trace ≡ 0 → (length trace ≤ max_turns) × (length trace % 3 ≡ 0)
trace_taken trace =
    by_test (λ (k : ℕ). k ≡ 0 → (length trace ≤ max_turns) × (length trace % 3 ≡ 0)) (leb (length trace) max_turns)
    (λ short. by_test (λ (k : ℕ). k ≡ 0 → (length trace ≤ max_turns) × (length trace % 3 ≡ 0)) (eqb (length trace % 3) 0)
    (λ whole _. (leb-true (length trace) max_turns short, eqb-true (length trace % 3) 0 whole)) (λ _ z. absurd (omega arith)))
    (λ _ z. absurd (omega arith))

pub taken_trace : (trace : List ℕ) → length trace ≤ max_turns → length trace % 3 ≡ 0 → trace_reason trace ≡ 0
taken_trace trace short whole = rw (le-leb (length trace) max_turns short, eq-eqb (length trace % 3) 0 whole)

-- 65,535 bytes are taken, 65,536 are refused 14, and 65,537 are refused 8
pub at_65535 : (trace : List ℕ) → length trace ≡ 65535 → trace_reason trace ≡ 0
at_65535 trace e = rw e

pub at_65536 : (trace : List ℕ) → length trace ≡ 65536 → trace_reason trace ≡ 14
at_65536 trace e = rw e

pub at_65537 : (trace : List ℕ) → length trace ≡ 65537 → trace_reason trace ≡ 8
at_65537 trace e = rw e

-- ---- what agrees

does_true : (s : State) (t : Triple) → does s t ≡ true → Performs s t
does_true s t = go (turn_of s t.task).outcome refl
  where
    go : (o : Outcome) → (turn_of s t.task).outcome ≡ o → equals s t o ≡ true → Performs s t
    go (Ok how) e b =
        let both = (and-eq-true_iff (eqb t.line (task_at s t.task).line) (eqb t.how (move_number how))).0 b in
        record { how = how; made = e; line = eqb-true t.line (task_at s t.task).line both.0; told = eqb-true t.how (move_number how) both.1 }
    go (Err k) e b = absurd (true≢false (sym b))

true_does : (s : State) (t : Triple) → Performs s t → does s t ≡ true
true_does s t d = rw (d.made, eq-eqb t.line (task_at s t.task).line d.line, eq-eqb t.how (move_number d.how) d.told)

-- "A triple with an unknown task, an outcome above 1 or a turn that would be refused differs"
pub unknown_differs : (s : State) (t : Triple) → s.n ≤ t.task → Performs s t → ⊥
unknown_differs s t h d = omega (arith, (turn_makes s t.task d.how d.made).known)

pub outcome_differs : (s : State) (t : Triple) → 1 < t.how → Performs s t → ⊥
outcome_differs s t h d = omega (arith, d.told, move_le d.how)

pub refused_differs : (s : State) (t : Triple) (k : ℕ) → (turn_of s t.task).outcome ≡ Err k → Performs s t → ⊥
refused_differs s t k e d = let made = d.made in let z : ◌≡◌ {A = ℕ} 0 1 = cc in omega arith

-- past a triple that does, the others lead on from the state after its turn
pub led_on : (s : State) (t : Triple) (ts : List Triple) (i : ℕ) → Performs s t → led_to s (t ∷ ts) (suc i) ≡ led_to (turn_of s t.task).state ts i
led_on s t ts i d =
    ap (λ (r : Trace). r.state)
    (trace_turn s t.task (tasks_of (take i ts)) ∙ ap (λ (o : Outcome). turned s t.task o (trace_of (turn_of s t.task).state (tasks_of (take i ts)))) d.made)

pub led_none : (s : State) (ts : List Triple) → led_to s ts 0 ≡ s
led_none s ts = ap (λ (r : Trace). r.state) (trace_none s)

module _ (s : State) (t : Triple) (ts : List Triple) where
  pub first_does : AllDo s (t ∷ ts) → Performs s t
  first_does all = subst (λ (x : State). Performs x t) (led_none s (t ∷ ts)) (all 0 (omega arith))

  pub rest_do : AllDo s (t ∷ ts) → AllDo (turn_of s t.task).state ts
  rest_do all i l = subst (λ (x : State). Performs x (triple_in ts i)) (led_on s t ts i (first_does all)) (all (suc i) (omega arith))

  pub all_do : Performs s t → AllDo (turn_of s t.task).state ts → AllDo s (t ∷ ts)
  all_do d more zero l = subst (λ (x : State). Performs x t) (sym (led_none s (t ∷ ts))) d
  all_do d more (suc i) l = subst (λ (x : State). Performs x (triple_in ts i)) (sym (led_on s t ts i d)) (more i (omega arith))

-- to differ is not to agree
differs_agrees : (i : ℕ) → ◌≡◌ {A = Report} (Ok (verdict.Differs i)) (Ok verdict.Agrees) → ⊥
differs_agrees i e = let z : ◌≡◌ {A = ℕ} 0 1 = cc in omega arith

agrees_all : (s : State) (i : ℕ) (ts : List Triple) → (play_from s i ts).verdict ≡ Ok verdict.Agrees → AllDo s ts
unfolding play_from
agrees_all s i [] e = λ j l. absurd (omega arith)
agrees_all s i (t ∷ ts) e =
    by_test (λ (p : Played). p.verdict ≡ Ok verdict.Agrees → AllDo s (t ∷ ts)) (does s t)
    (λ d more. all_do s t ts (does_true s t d) (agrees_all (turn_of s t.task).state _ ts more)) (λ _ z. absurd (differs_agrees i z)) e

all_agrees : (s : State) (i : ℕ) (ts : List Triple) → AllDo s ts → (play_from s i ts).verdict ≡ Ok verdict.Agrees
unfolding play_from
all_agrees s i [] all = refl
all_agrees s i (t ∷ ts) all = rw (true_does s t (first_does s t ts all)) (all_agrees (turn_of s t.task).state _ ts (rest_do s t ts all))

-- 02: "Agreement is reported exactly if every triple equals what the defined turn does"
pub agrees_exactly : (s : State) (ts : List Triple) → ((play_from s 0 ts).verdict ≡ Ok verdict.Agrees) ↔ AllDo s ts
agrees_exactly s ts = (agrees_all s 0 ts, all_agrees s 0 ts)

-- the state is then that of the triples' tasks, and no turn of theirs is refused
abbrev Whole : State → List Triple → ℕ → Type 0
Whole s ts i = ((trace_of s (tasks_of ts)).stop ≡ nothing) × ((play_from s i ts).state ≡ (trace_of s (tasks_of ts)).state)

agrees_trace : (s : State) (i : ℕ) (ts : List Triple) → AllDo s ts → Whole s ts i
unfolding play_from
agrees_trace s i [] all = rw (trace_none s) (refl, refl)
agrees_trace s i (t ∷ ts) all =
    let d = first_does s t ts all in
    rw (true_does s t d, trace_turn s t.task (tasks_of ts), d.made) (agrees_trace (turn_of s t.task).state _ ts (rest_do s t ts all))

-- ---- the first that differs

first_later : (s : State) (t : Triple) (ts : List Triple) (k : ℕ) (end : State) → Performs s t → FirstAt (turn_of s t.task).state ts k end → FirstAt s (t ∷ ts) (suc k) end
first_later s t ts k end d f =
    record {
      within = omega (arith, f.within);
      before = all_do s t (take k ts) d f.before;
      other = λ x. f.other (subst (λ (y : State). Performs y (triple_in ts k)) (led_on s t ts k d) x);
      state = f.state ∙ sym (led_on s t ts k d);
    }

differs_from : (s : State) (i : ℕ) (ts : List Triple) (k : ℕ) → (play_from s i ts).verdict ≡ Ok (verdict.Differs k) → (j : ℕ) × ((k ≡ i + j) × FirstAt s ts j (play_from s i ts).state)
unfolding play_from
differs_from s i [] k e = absurd (differs_agrees k (sym e))
differs_from s i (t ∷ ts) k e =
    by_test (λ (p : Played). p.verdict ≡ Ok (verdict.Differs k) → (j : ℕ) × ((k ≡ i + j) × FirstAt s (t ∷ ts) j p.state)) (does s t)
    (λ d more. later _ d (differs_from (turn_of s t.task).state _ ts k more)) here e
  where
    later : (end : State) → does s t ≡ true → (j : ℕ) × ((k ≡ suc i + j) × FirstAt (turn_of s t.task).state ts j end) → (j : ℕ) × ((k ≡ i + j) × FirstAt s (t ∷ ts) j end)
    later end d w = (suc w.0, (omega (arith, w.1.0), first_later s t ts w.0 end (does_true s t d) w.1.1))

    here : does s t ≡ false → ◌≡◌ {A = Report} (Ok (verdict.Differs i)) (Ok (verdict.Differs k)) → (j : ℕ) × ((k ≡ i + j) × FirstAt s (t ∷ ts) j s)
    here other e =
        let same : i ≡ k = cc in (
          0,
          (
            omega arith,
            record {
              within = omega arith;
              before = λ j l. absurd (omega arith);
              other = λ x. true≢false (sym (true_does s t (subst (λ (y : State). Performs y t) (led_none s (t ∷ ts)) x)) ∙ other);
              state = sym (led_none s (t ∷ ts));
            },
          ),
        )

-- 02: "the index, from 0, of the first triple that differs, with the state before it"
pub differs_first : (s : State) (ts : List Triple) (k : ℕ) → (play_from s 0 ts).verdict ≡ Ok (verdict.Differs k) → FirstAt s ts k (play_from s 0 ts).state
differs_first s ts k e =
    let w = differs_from s 0 ts k e in
    let same : w.0 ≡ k = omega (arith, w.1.0) in
    subst (λ (j : ℕ). FirstAt s ts j (play_from s 0 ts).state) same w.1.1

-- what every turn keeps, a play-back keeps
pub play_keeps : (P : State → Type 0) → ((s : State) (p : ℕ) → P s → P (turn_of s p).state) → (s : State) (i : ℕ) (ts : List Triple) → P s → P (play_from s i ts).state
unfolding play_from
play_keeps P keeps s i [] h = h
play_keeps P keeps s i (t ∷ ts) h =
    by_test (λ (p : Played). P p.state) (does s t) (λ _. play_keeps P keeps (turn_of s t.task).state _ ts (keeps s t.task h)) (λ _. h)

-- ---- the run of the tasks

-- each of them is a task
tasks_known : (s : State) (ts : List Triple) → AllDo s ts → all_tasks s.n (tasks_of ts) ≡ true
tasks_known s ts all =
    (all_known s.n (tasks_of ts)).1
    (λ i l. let d = all i (rw (length-map ts (λ (t : Triple). t.task)) at l) in
    rw (get_or-map (λ (t : Triple). t.task) ts i (record { task = 0; line = 0; how = 0 }))
    (omega (arith, (turn_makes (led_to s ts i) (triple_in ts i).task d.how d.made).known, trace_n s (tasks_of (take i ts)))))

-- nothing refuses their run, which makes every turn, and leaves the state of the play-back
pub agrees_run : (s : State) (ts : List Triple) (log : List ℕ) → Valid s → length ts ≤ max_turns → 2 * length ts ≤ length log → AllDo s ts
    → (let r = run_of s (tasks_of ts) (length ts) log in (r.state ≡ (play_from s 0 ts).state) × ((r.ending ≡ Done) × (r.turns ≡ length ts)))
agrees_run s ts log ok few wide all = rw (run_accepts s (tasks_of ts) (length ts) log accepted, every, length-map ts (λ (t : Triple). t.task)) parts
  where
    accepted : run_reason s (tasks_of ts) (length ts) (length log) ≡ 0
    accepted =
        run_unrefused s (tasks_of ts) (length ts) (length log) ok (rw (length-map ts (λ (t : Triple). t.task)) few) (tasks_known s ts all) (rw (length-map ts (λ (t : Triple). t.task)) (omega arith))

    every : take (length ts) (tasks_of ts) ≡ tasks_of ts
    every = take_all (length ts) (tasks_of ts) (rw (length-map ts (λ (t : Triple). t.task)) (omega arith))

    t : Trace
    t = trace_of s (tasks_of ts)

    parts : (t.state ≡ (play_from s 0 ts).state) × ((ending_of t.stop (unstopped (length ts) (length ts)) ≡ Done) × (length t.made ≡ length ts))
    parts =
        let w = agrees_trace s 0 ts all in
        (sym w.1, (rw (w.0, le-ltb (length ts) (length ts) (omega arith)), made_all s (tasks_of ts) w.0 ∙ length-map ts (λ (t : Triple). t.task)))

-- ---- a trace that is cut

pub cut_does : (s : State) (ts : List Triple) (k : ℕ) → AllDo s ts → AllDo s (take k ts)
cut_does s ts k all i l =
    let h : i < min k (length ts) = rw (length-take k ts) at l in
    let led : led_to s (take k ts) i ≡ led_to s ts i = ap (λ (us : List Triple). (trace_of s (tasks_of us)).state) (take-take i k ts (omega arith)) in
    let here : triple_in (take k ts) i ≡ triple_in ts i = get_or-take k ts i (record { task = 0; line = 0; how = 0 }) (omega arith) in
    subst (Performs (led_to s (take k ts) i)) (sym here) (subst (λ (x : State). Performs x (triple_in ts i)) (sym led) (all i (omega arith)))

-- the triples of a trace that is cut at a triple
pub triples_take : (k : ℕ) (trace : List ℕ) → triples_of (take (3 * k) trace) ≡ take k (triples_of trace)
unfolding triples_of
triples_take zero trace = refl
triples_take (suc k) trace = let e : 3 * suc k ≡ suc (suc (suc (3 * k))) = omega arith in rw e (go trace (triples_take k))
  where
    go : (trace : List ℕ) → ((rest : List ℕ) → triples_of (take (3 * k) rest) ≡ take k (triples_of rest)) → triples_of (take (suc (suc (suc (3 * k)))) trace) ≡ take (suc k) (triples_of trace)
    go [] more = refl
    go (a ∷ []) more = refl
    go (a ∷ b ∷ []) more = refl
    go (a ∷ b ∷ c ∷ rest) more = ap (λ (ts : List Triple). record { task = a; line = b; how = c } ∷ ts) (more rest)

-- ---- a run, woven into triples

-- the triple of a turn that was made
abbrev pub row_triple : Row → Triple
row_triple r = record { task = r.task; line = r.line; how = move_number r.how }

abbrev pub row_task : Row → ℕ
row_task r = r.task

pub made_plays : (s : State) (i : ℕ) (ts : List ℕ) → play_from s i (map row_triple (trace_of s ts).made) ≡ record { state = (trace_of s ts).state; verdict = Ok verdict.Agrees }
unfolding play_from
made_plays s i [] = rw (trace_none s)
made_plays s i (p ∷ ts) = rw (trace_turn s p ts) (go (turn_of s p).outcome refl (made_plays (turn_of s p).state (suc i) ts))
  where
    rest : Trace
    rest = trace_of (turn_of s p).state ts

    go : (o : Outcome) → (turn_of s p).outcome ≡ o → play_from (turn_of s p).state (suc i) (map row_triple rest.made) ≡ record { state = rest.state; verdict = Ok verdict.Agrees }
        → play_from s i (map row_triple (turned s p o rest).made) ≡ record { state = (turned s p o rest).state; verdict = Ok verdict.Agrees }
    go (Ok how) e ih =
        let row : Triple = row_triple (record { task = p; line = (task_at s p).line; how = how }) in
        rw (true_does s row (record { how = how; made = e; line = refl; told = refl })) ih
    go (Err k) e ih = refl

pub woven_triples : (rows : List Row) (more : List ℕ) → triples_of (woven (map row_task rows) (log_of rows ++ more)) ≡ map row_triple rows
unfolding woven triples_of
woven_triples [] more = refl
woven_triples (r ∷ rows) more = rw (log_row r rows) (ap (λ (ts : List Triple). row_triple r ∷ ts) (woven_triples rows more))

pub woven_length : (rows : List Row) (more : List ℕ) → length (woven (map row_task rows) (log_of rows ++ more)) ≡ 3 * length rows
unfolding woven
woven_length [] more = refl
woven_length (r ∷ rows) more = rw (log_row r rows) (omega (arith, woven_length rows more))
