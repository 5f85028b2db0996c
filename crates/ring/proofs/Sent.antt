-- How lines 13 and 15 send the message on: what each task is after their stores, and its stage then.
use Rattle.std.specs.Prelude.{◌≡◌, refl, ◌≢◌, ℕ, ◌+◌, ◌-◌, ◌≤◌, ◌<◌, ltb, length}
use Rattle.std.proofs.Common.{sym, ap, ◌∙◌, arith, lt-length-set, eq-eqb, ne_eqb, ltb-true, ltb-false}
use Rattle.std.proofs.Math.Decide.{ℕ_discrete}
use Rattle.bitset.specs.ChoiceLaws.{by_test}
use Rattle.lines.specs.declared.Task.{Task}
use Rattle.lines.specs.declared.Write.TheVariants.{Toggle}
use Rattle.lines.specs.Setters.{with_toggle}
use Rattle.lines.specs.Ring.{nz, next_task}
use Rattle.machine.specs.declared.State.{State}
use Rattle.machine.specs.Setters.{task_at, with_task}
use Rattle.machine.specs.Range.{Valid}
use Rattle.machine.specs.Turn.{written}
use Rattle.machine.proofs.TurnLaws.{put_same, put_other, put_field, own_field, other_field}
use Rattle.machine.specs.RangeLaws.{range, present}
use Rattle.ring.specs.Invariant.{Has, Seen}

-- ---- nz and the next task

pub nz_first : (q : ℕ) → q ≡ 0 → nz q ≡ 0
nz_first q e = rw (eq-eqb q 0 e)

pub nz_later : (q : ℕ) → 0 < q → nz q ≡ 1
nz_later q h = rw (ne_eqb q 0 (omega arith))

next_known : (n p : ℕ) → p < n → next_task n p < n
next_known n p h = by_test (λ x. x < n) (ltb (p + 1) n) (ltb-true (p + 1) n) (λ b. omega arith)

-- the next task of p is q exactly if the token sent on from p is at q, as the token or, where the ring ends, as the acknowledgement
module _ (n p q : ℕ) (hp : p < n) (hq : q < n) where
  next_token : p + 1 ≡ q → q ≡ next_task n p
  next_token e = by_test (λ x. q ≡ x) (ltb (p + 1) n) (λ b. omega arith) (λ b. omega (arith, ltb-false (p + 1) n b))

  next_answer : p + 1 ≡ q + n → q ≡ next_task n p
  next_answer e = by_test (λ x. q ≡ x) (ltb (p + 1) n) (λ b. omega (arith, ltb-true (p + 1) n b)) (λ b. omega arith)

  next_other : p + 1 ≢ q → p + 1 ≢ q + n → q ≢ next_task n p
  next_other ne na = by_test (λ x. q ≢ x) (ltb (p + 1) n) (λ b. omega arith) (λ b. omega (arith, ltb-false (p + 1) n b))

-- ---- what each task is after the stores

-- Task q, which was t and is t', after p went to a line with k more on its count, and then wrote x into the toggle of its next task, which may
-- be p itself (N = 1). It is q where the ring goes on from p to q, or ends with p and begins with q.
pub record Sent (n p line k x q : ℕ) (t t' : Task) : Type 0 where
  pub own : q ≡ p → (t'.line ≡ line) × (t'.count ≡ t.count + k)
  pub other : q ≢ p → (t'.line ≡ t.line) × (t'.count ≡ t.count)
  pub on : p + 1 ≡ q → t'.toggle ≡ x
  pub round : p + 1 ≡ q + n → t'.toggle ≡ x
  pub kept : p + 1 ≢ q → p + 1 ≢ q + n → t'.toggle ≡ t.toggle

pub sends : (s : State) (p q : ℕ) → Valid s → p < s.n → q < s.n
    → (b : Task) (k x : ℕ) → b.count ≡ (task_at s p).count + k → b.toggle ≡ (task_at s p).toggle
    → Sent s.n p b.line k x q (task_at s q) (task_at (written (Toggle (next_task s.n p) x) (with_task s p b)) q)
sends s p q ok hp hq b k x counted toggled =
    record {
      own = λ e. rw e (
        own_field (λ t. t.line) (λ t y. (refl, refl)) (Toggle next x) s p b (there p hp),
        own_field (λ t. t.count) (λ t y. (refl, refl)) (Toggle next x) s p b (there p hp) ∙ counted,
      );
      other = λ ne. (
        other_field (λ t. t.line) (λ t y. (refl, refl)) (Toggle next x) s p q b ne,
        other_field (λ t. t.count) (λ t y. (refl, refl)) (Toggle next x) s p q b ne,
      );
      on = λ e. wrote (next_token s.n p q hp hq e);
      round = λ e. wrote (next_answer s.n p q hp hq e);
      kept = λ ne na.
          ap (λ (t : Task). t.toggle) (put_other m next q (with_toggle (task_at m next) x) (next_other s.n p q hp hq ne na))
          ∙ put_field (λ t. t.toggle) s p q b toggled;
    }
  where
    next : ℕ
    next = next_task s.n p

    m : State
    m = with_task s p b

    there : (r : ℕ) → r < s.n → r < length s.tasks
    there r l = present s r ((range s ok).tasks r l).line_from

    wrote : q ≡ next → (task_at (written (Toggle next x) m) q).toggle ≡ x
    wrote e =
        rw e (ap (λ (t : Task). t.toggle)
        (put_same m next (with_toggle (task_at m next) x) (lt-length-set s.tasks p b (there next (next_known s.n p hp)))))

-- ---- the message goes on

module _ {n p c q : ℕ} {t t' : Task} (hp : p < n) (hq : q < n) where
  -- 13, by the task that has the token
  module _ (o : Seen n p c q t) (st : Sent n p 14 1 1 q t t') where
    pub token_on : Seen n (p + 1) c q t'
    token_on =
        record {
          before = λ l. omega (arith, o.before (omega arith), st.other (omega arith), st.kept (omega arith) (omega arith));
          token = λ l. omega (arith, o.before (omega arith), st.other (omega arith), st.on l, nz_later q (omega arith));
          between = λ l m. omega (arith, token_sent (omega arith), st.kept (omega arith) (omega arith));
          answer = λ l. omega (arith, token_sent (omega arith), st.round l, nz_first q (omega arith));
          past = λ l. absurd (omega arith);
        }
      where
        -- up to p every task has sent the token on
        token_sent : q ≤ p → (t.toggle ≡ nz q) × Has 14 14 t'.toggle (c + 1) t'
        token_sent l = go (ℕ_discrete q p)
          where
            go : Dec (q ≡ p) → (t.toggle ≡ nz q) × Has 14 14 t'.toggle (c + 1) t'
            go (yes e) = omega (arith, o.token (sym e), st.own e)
            go (no ne) = omega (arith, o.between (omega arith) (omega arith), st.other ne)

  -- 15, by the task that has the acknowledgement
  module _ (o : Seen n (p + n) c q t) (st : Sent n p 11 0 0 q t t') where
    -- up to p every task has sent the acknowledgement on
    answer_sent : q ≤ p → (t.toggle ≡ 1 - nz q) × Has 11 12 t'.toggle (c + 1) t'
    answer_sent l = go (ℕ_discrete q p)
      where
        go : Dec (q ≡ p) → (t.toggle ≡ 1 - nz q) × Has 11 12 t'.toggle (c + 1) t'
        go (yes e) = omega (arith, o.answer (omega arith), st.own e)
        go (no ne) = omega (arith, o.past (omega arith), st.other ne)

    pub answer_on : p + 1 < n → Seen n (p + n + 1) c q t'
    answer_on k =
        record {
          before = λ l. absurd (omega arith);
          token = λ l. absurd (omega arith);
          between = λ l m. omega (arith, o.between (omega arith) (omega arith), st.other (omega arith), st.kept (omega arith) (omega arith));
          answer = λ l. omega (arith, o.between (omega arith) (omega arith), st.other (omega arith), st.on (omega arith), nz_later q (omega arith));
          past = λ l. omega (arith, answer_sent (omega arith), st.kept (omega arith) (omega arith));
        }

    -- the round is whole: the message is the token again, at task 0
    pub answer_back : p + 1 ≡ n → Seen n 0 (c + 1) q t'
    answer_back k =
        record {
          before = λ l. omega (arith, answer_sent (omega arith), st.kept (omega arith) (omega arith));
          token = λ l. omega (arith, answer_sent (omega arith), st.round (omega arith), nz_first q (omega arith));
          between = λ l m. absurd (omega arith);
          answer = λ l. absurd (omega arith);
          past = λ l. absurd (omega arith);
        }
