-- The range of a state, clause by clause: what a valid state has, and that a state which has it is valid.
use Rattle.std.specs.Prelude.{◌≡◌, refl, Bool, true, false, List, ◌⊎◌, ◌≢◌, ℕ, zero, suc, ◌+◌, ◌≤◌, ◌<◌, ltb, length, get_or}
use Rattle.std.proofs.Common.{sym, ap, subst, inl, inr, eq-or-lt_of_le, le_of_suc-le-suc, lt_of_not-le, arith, eq-eqb, lt-ltb, le-ltb, ltb-true, ltb-false, eqb-true}
use Rattle.std.proofs.Math.Bool.{and-eq-true_iff}
use Rattle.std.proofs.Math.ListN.{get_or-eq_default}
use Rattle.bitset.specs.Choice.{pick}
use Rattle.bitset.specs.ChoiceLaws.{by_test}
use Rattle.lines.specs.declared.Task.{Task}
use Rattle.lines.specs.Setters.{zero_task}
use Rattle.setup.specs.Kinds.{last_kind, has_sense, modulus_ok}
use Rattle.setup.specs.Range.{field_ok, task_zero, place_ok}
use Rattle.setup.specs.RangeLaws.{TaskRange, task_range, range_task, shared_range, range_shared}
use Rattle.machine.specs.declared.State.{State}
use Rattle.machine.specs.Setters.{task_at, moves_at, waits_at}
use Rattle.machine.specs.Range.{shared_of, table_of, tally_ok, each_ok, tasks_ok, parents_ok, state_ok, check_state, Valid}

-- ---- clause by clause

-- the range of the task t at q of the state s
abbrev pub TaskIn : State → ℕ → Task → Type 0
TaskIn s q t = TaskRange (shared_of s) (table_of s) q t

-- what is tested of the tallies: each is at most its limit, and 0 from N on
pub record Tallies (n : ℕ) (tallies : List ℕ) : Type 0 where
  pub long : length tallies ≡ 64
  pub each : (q : ℕ) → q < 64 → tally_ok n q (get_or tallies q 0) ≡ true

-- what state_ok tests
pub record InRange (s : State) : Type 0 where
  pub kind : s.kind ≤ last_kind
  pub some : 1 ≤ s.n
  pub few : s.n ≤ 64
  pub modulus : modulus_ok s.kind s.modulus ≡ true
  pub arrivals : field_ok (has_sense s.kind) (s.n + 1) s.arrivals ≡ true
  pub sense : field_ok (has_sense s.kind) 2 s.sense ≡ true
  pub parents : parents_ok s ≡ true
  pub tasks : (q : ℕ) → q < s.n → TaskIn s q (task_at s q)
  pub rest : (q : ℕ) → s.n ≤ q → q < 64 → task_zero (task_at s q) ≡ true
  pub moves : Tallies s.n s.moves
  pub waits : Tallies s.n s.waits

tasks_at : (s : State) (m q : ℕ) → tasks_ok s m ≡ true → q < m → each_ok s q ≡ true
unfolding tasks_ok
tasks_at s zero q e h = absurd (omega arith)
tasks_at s (suc m) q e h = go (eq-or-lt_of_le (le_of_suc-le-suc h)) ((and-eq-true_iff _ _).0 e) (tasks_at s m q)
  where
    go : (q ≡ m) ⊎ (q < m) → (tasks_ok s m ≡ true) × (each_ok s m ≡ true) → (tasks_ok s m ≡ true → q < m → each_ok s q ≡ true) → each_ok s q ≡ true
    go (inl e) both ih = subst (λ (r : ℕ). each_ok s r ≡ true) (sym e) both.1
    go (inr l) both ih = ih both.0 l

tasks_all : (s : State) (m : ℕ) → ((q : ℕ) → q < m → each_ok s q ≡ true) → tasks_ok s m ≡ true
unfolding tasks_ok
tasks_all s zero f = refl
tasks_all s (suc m) f = (and-eq-true_iff _ _).1 (tasks_all s m (λ q h. f q (omega arith)), f m (omega arith))

-- what is tested of task q, part by part
each_parts : (s : State) (q : ℕ) → each_ok s q ≡ true
    → (place_ok (shared_of s) (table_of s) q (task_at s q) ≡ true) × (tally_ok s.n q (moves_at s q) ≡ true) × (tally_ok s.n q (waits_at s q) ≡ true)
each_parts s q e =
    let both = (and-eq-true_iff _ _).0 e in
    let tallies = (and-eq-true_iff _ _).0 both.1 in
    (both.0, tallies.0, tallies.1)

-- a valid state is in range, clause by clause, and the other way round
pub range : (s : State) → Valid s → InRange s
unfolding check_state state_ok
range s e = go (state_ok s) refl e
  where
    go : (b : Bool) → state_ok s ≡ b → ◌≡◌ {A = ℕ} (pick b 0 7) 0 → InRange s
    go false _ z = absurd (omega arith)
    go true ok z =
        let e7 = (and-eq-true_iff _ _).0 ok in
        let e6 = (and-eq-true_iff _ _).0 e7.0 in
        let e5 = (and-eq-true_iff _ _).0 e6.0 in
        let shared = shared_range (shared_of s) e5.0 in
        let long = (and-eq-true_iff _ _).0 e7.1 in
        let at : (q : ℕ) → q < 64 → (place_ok (shared_of s) (table_of s) q (task_at s q) ≡ true) × (tally_ok s.n q (moves_at s q) ≡ true) × (tally_ok s.n q (waits_at s q) ≡ true)
        = λ q h. each_parts s q (tasks_at s 64 q e6.1 h) in
        record {
          kind = shared.kind;
          some = shared.some;
          few = shared.few;
          modulus = shared.modulus;
          arrivals = shared.arrivals;
          sense = shared.sense;
          parents = e5.1;
          tasks = λ q h. task_range (shared_of s) (table_of s) q (task_at s q) (rw (lt-ltb q s.n h) at (at q (omega arith)).0);
          rest = λ q h l. rw (le-ltb q s.n h) at (at q l).0;
          moves = record { long = eqb-true (length s.moves) 64 long.0; each = λ q h. (at q h).1 };
          waits = record { long = eqb-true (length s.waits) 64 long.1; each = λ q h. (at q h).2 };
        }

pub valid : (s : State) → InRange s → Valid s
unfolding check_state state_ok
valid s r =
    rw (
      range_shared (shared_of s) (record { kind = r.kind; some = r.some; few = r.few; modulus = r.modulus; arrivals = r.arrivals; sense = r.sense }),
      r.parents,
      tasks_all s 64 place,
      eq-eqb (length s.moves) 64 r.moves.long,
      eq-eqb (length s.waits) 64 r.waits.long,
    )
  where
    place : (q : ℕ) → q < 64 → each_ok s q ≡ true
    place q h =
        (and-eq-true_iff _ _).1 (
          by_test (λ b. b ≡ true) (ltb q s.n) (λ l. range_task (shared_of s) (table_of s) q (task_at s q) (r.tasks q (ltb-true q s.n l))) (λ l. r.rest q (ltb-false q s.n l) h),
          (and-eq-true_iff _ _).1 (r.moves.each q h, r.waits.each q h),
        )

-- what refuses a state is 7 and nothing else
pub check_not : (s : State) (k : ℕ) → k ≢ 0 → k ≢ 7 → check_state s ≢ k
unfolding check_state
check_not s k n0 n7 = by_test (λ (x : ℕ). x ≢ k) (state_ok s) (λ _ e. n0 (sym e)) (λ _ e. n7 (sym e))

-- so it is no 9, and a run's answer to it has no place
pub check_not_9 : (s : State) → check_state s ≢ 9
check_not_9 s = check_not s 9 (omega arith) (omega arith)

-- a task of 0 to N − 1 stands in the list of tasks: its line is not 0
pub present : (s : State) (q : ℕ) → 11 ≤ (task_at s q).line → q < length s.tasks
present s q h = lt_of_not-le (λ l. absurd (omega (arith, ap (λ (t : Task). t.line) (get_or-eq_default s.tasks zero_task {n = q} l))))
