-- The message is at one of the five places of each task, and what follows from that.
use Rattle.std.specs.Prelude.{◌≡◌, ℕ, ◌+◌, ◌≤◌, ◌<◌}
use Rattle.std.proofs.Math.Decide.{ℕ_discrete, dec_lt}
use Rattle.std.proofs.Common.{arith}
use Rattle.lines.specs.declared.Task.{Task}
use Rattle.ring.specs.Invariant.{Waits, HasToken, Between, HasAnswer, Seen}

module _ {n loc c q : ℕ} {t : Task} (s : Seen n loc c q t) where
  -- what holds at each place holds
  pub by_place : (P : Type 0)
      → (loc < q → Waits q c t → P)
      × (loc ≡ q → HasToken q c t → P)
      × (q < loc → loc < q + n → Between q (c + 1) t → P)
      × (loc ≡ q + n → HasAnswer q (c + 1) t → P)
      × (q + n < loc → Waits q (c + 1) t → P)
      → P
  by_place P f = go (dec_lt loc q) (ℕ_discrete loc q) (dec_lt loc (q + n)) (ℕ_discrete loc (q + n))
    where
      go : Dec (loc < q) → Dec (loc ≡ q) → Dec (loc < q + n) → Dec (loc ≡ q + n) → P
      go (yes l) d e a = f.0 l (s.before l)
      go (no l) (yes d) e a = f.1 d (s.token d)
      go (no l) (no d) (yes e) a = let m : q < loc = omega arith in f.2 m e (s.between m e)
      go (no l) (no d) (no e) (yes a) = f.3 a (s.answer a)
      go (no l) (no d) (no e) (no a) = let m : q + n < loc = omega arith in f.4 m (s.past m)

  -- another task that is at each stage where t is
  pub re_seen : {t' : Task}
      → (Waits q c t → Waits q c t')
      × (HasToken q c t → HasToken q c t')
      × (Between q (c + 1) t → Between q (c + 1) t')
      × (HasAnswer q (c + 1) t → HasAnswer q (c + 1) t')
      × (Waits q (c + 1) t → Waits q (c + 1) t')
      → Seen n loc c q t'
  re_seen f =
      record {
        before = λ l. f.0 (s.before l);
        token = λ l. f.1 (s.token l);
        between = λ l m. f.2 (s.between l m);
        answer = λ l. f.3 (s.answer l);
        past = λ l. f.4 (s.past l);
      }

  -- Iq3
  pub token_at_13 : t.line ≡ 13 → loc ≡ q
  token_at_13 e = by_place (loc ≡ q) (omega arith)

  -- Iq4
  pub answer_at_15 : t.line ≡ 15 → loc ≡ q + n
  answer_at_15 e = by_place (loc ≡ q + n) (omega arith)

  -- Iq5: every count is c or one more, and it is one more where the token has been sent on
  pub bounds : (c ≤ t.count) × (t.count ≤ c + 1)
  bounds = by_place ((c ≤ t.count) × (t.count ≤ c + 1)) (omega arith)

  pub sent_on : q < loc → t.count ≡ c + 1
  sent_on l = by_place (t.count ≡ c + 1) (omega arith)
