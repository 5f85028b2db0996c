-- The invariant holds of a fresh state, and each line keeps it; so every move does.
use Rattle.std.specs.Prelude.{◌≡◌, refl, ◌≢◌, ℕ, ◌+◌, ◌<◌}
use Rattle.std.proofs.Math.Decide.{dec_lt}
use Rattle.std.proofs.Common.{arith}
use Rattle.lines.specs.declared.Task.{Task}
use Rattle.lines.specs.declared.Effect.{Effect}
use Rattle.lines.specs.declared.Write.TheVariants.{Nothing, Toggle}
use Rattle.lines.specs.Setters.{with_line, with_left}
use Rattle.lines.specs.Common.{moves, raised}
use Rattle.lines.specs.Ring.{nz, next_task}
use Rattle.machine.specs.declared.State.{State}
use Rattle.machine.specs.Setters.{task_at, with_task}
use Rattle.machine.specs.Fresh.{Inputs, fresh_reason, fresh_task, fresh_state}
use Rattle.machine.specs.Turn.{written}
use Rattle.machine.specs.FreshLaws.{accepted_inputs, fresh_at}
use Rattle.barrier.specs.View.{view_of}
use Rattle.barrier.specs.Barrier.{Holds}
use Rattle.barrier.specs.Lines.{Worked}
use Rattle.barrier.specs.Puts.{at_task, stored}
use Rattle.ring.specs.Invariant.{Seen, Inv}
use Rattle.ring.proofs.Places.{re_seen, token_at_13, answer_at_15}
use Rattle.ring.proofs.Sent.{nz_first, nz_later, Sent, sends, token_on, answer_on, answer_back}

-- ---- a fresh state: the token is at task 0

fresh_seen : (i : Inputs) (q : ℕ) → q < i.n → Seen i.n 0 0 q (task_at (fresh_state i) q)
fresh_seen i q h =
    rw (fresh_at i.n q (fresh_task i) h)
    (record {
      before = λ l. omega (arith, nz_later q l);
      token = λ l. omega (arith, nz_first q (omega arith));
      between = λ l m. absurd (omega arith);
      answer = λ l. absurd (omega arith);
      past = λ l. absurd (omega arith);
    })

pub fresh : (i : Inputs) → fresh_reason i ≡ 0 → i.kind ≡ 2 → Inv (view_of (fresh_state i))
fresh i e k = record { loc = 0; c = 0; below = omega (arith, (accepted_inputs i e).some); seen = fresh_seen i }

-- ---- the lines

-- the invariant, after the task p has made this move
abbrev pub After : State → ℕ → Effect → Type 0
After s p e = Inv (view_of (written e.write (with_task s p e.task)))

module _ (s : State) (p : ℕ) (i : Holds 2 Inv s) (h : p < s.n) where
  abbrev loc : ℕ
  loc = i.inv.loc

  abbrev c : ℕ
  c = i.inv.c

  -- a line that writes no toggle leaves the message where it is: only the stage of its own task is at stake
  keep : (b : Task) → Seen s.n loc c p b → After s p (moves b Nothing)
  keep b own =
      record {
        loc = loc;
        c = c;
        below = i.inv.below;
        seen = λ q l. at_task (Seen s.n loc c q) (stored s p b i.valid h) q (λ e. rw e own) (λ ne. i.inv.seen q l);
      }

  -- 11, the own work: 11 and 12 are in every stage that has 11 (Iq2)
  pub line_11 : (task_at s p).line ≡ 11 → Worked (After s p) (task_at s p)
  line_11 e to left from most = keep (with_left (with_line (task_at s p) to) left) (re_seen (i.inv.seen p h) (omega arith))

  -- 12 awaits toggle = nz: p has the token (Iq3)
  pub line_12 : (task_at s p).line ≡ 12 → (task_at s p).toggle ≡ nz p → After s p (moves (with_line (task_at s p) 13) Nothing)
  line_12 e toggled = keep (with_line (task_at s p) 13) (re_seen (i.inv.seen p h) (omega arith))

  -- 13: the token goes on; at stake are Iq1 of the next task, and Iq2 and Iq5 of p
  pub line_13 : (task_at s p).line ≡ 13 → After s p (moves (with_line (raised (task_at s p)) 14) (Toggle (next_task s.n p) 1))
  line_13 e =
      let here : loc ≡ p = token_at_13 (i.inv.seen p h) e in
      record {
        loc = p + 1;
        c = c;
        below = omega arith;
        seen = λ q l. token_on h l (rw here at (i.inv.seen q l)) (sends s p q i.valid h l (with_line (raised (task_at s p)) 14) 1 1 refl refl);
      }

  -- 14 awaits toggle ≠ nz: p has the acknowledgement (Iq4)
  pub line_14 : (task_at s p).line ≡ 14 → (task_at s p).toggle ≢ nz p → After s p (moves (with_line (task_at s p) 15) Nothing)
  line_14 e toggled = keep (with_line (task_at s p) 15) (re_seen (i.inv.seen p h) (omega arith))

  -- 15: the acknowledgement goes on, or back to task 0 as the token of the next round; at stake are Iq1 of the next task, Iq2 of p, and Iq6
  pub line_15 : (task_at s p).line ≡ 15 → After s p (moves (with_line (task_at s p) 11) (Toggle (next_task s.n p) 0))
  line_15 e = go (dec_lt (p + 1) s.n)
    where
      here : (q : ℕ) → q < s.n → Seen s.n (p + s.n) c q (task_at s q)
      here q l = rw (answer_at_15 (i.inv.seen p h) e) at (i.inv.seen q l)

      sent : (q : ℕ) → q < s.n → Sent s.n p 11 0 0 q (task_at s q)
          (task_at (written (Toggle (next_task s.n p) 0) (with_task s p (with_line (task_at s p) 11))) q)
      sent q l = sends s p q i.valid h l (with_line (task_at s p) 11) 0 0 (omega arith) refl

      go : Dec (p + 1 < s.n) → After s p (moves (with_line (task_at s p) 11) (Toggle (next_task s.n p) 0))
      go (yes k) = record { loc = p + s.n + 1; c = c; below = omega arith; seen = λ q l. answer_on h l (here q l) (sent q l) k }
      go (no k) = record { loc = 0; c = c + 1; below = omega arith; seen = λ q l. answer_back h l (here q l) (sent q l) (omega arith) }
