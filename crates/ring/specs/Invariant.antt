-- The invariant of the ring barrier (001, section 2.3, Iq1 to Iq6).
-- A message goes round the ring twice in a round, first as the token and then as the acknowledgement. `loc` says where it is:
-- below N it is the token, at task `loc`; from N on it is the acknowledgement, at task `loc − N`. `c` is the number of rounds it has made.
use Rattle.std.specs.Prelude.{◌≡◌, ℕ, ◌+◌, ◌-◌, ◌≤◌, ◌<◌}
use Rattle.lines.specs.declared.Task.{Task}
use Rattle.lines.specs.Ring.{nz}
use Rattle.barrier.specs.View.{View}

-- a task at one of the lines l to h, with this toggle and this count
pub record Has (l h toggle count : ℕ) (t : Task) : Type 0 where
  pub from : l ≤ t.line
  pub to : t.line ≤ h
  pub toggled : t.toggle ≡ toggle
  pub counted : t.count ≡ count

-- The four stages of a task q, which is t and has count k: it waits for the token; it has the token; it has sent the token on and waits
-- for the acknowledgement; it has the acknowledgement.
-- Iq1: the toggle is nz q in the second and third, else 1 − nz q. Iq2: the lines are 14 and 15 in the third and fourth.
-- Iq3: line 13 is in the second alone. Iq4: line 15 is in the fourth alone.
abbrev pub Waits : ℕ → ℕ → Task → Type 0
Waits q k t = Has 11 12 (1 - nz q) k t

abbrev pub HasToken : ℕ → ℕ → Task → Type 0
HasToken q k t = Has 11 13 (nz q) k t

abbrev pub Between : ℕ → ℕ → Task → Type 0
Between q k t = Has 14 14 (nz q) k t

abbrev pub HasAnswer : ℕ → ℕ → Task → Type 0
HasAnswer q k t = Has 14 15 (1 - nz q) k t

-- The stage of task q, by the place of the message, which is before q, at q, between, at q again, or past it.
-- Iq5: the count is c + 1 if q < loc, else c. (The note has the count of N − 1 for c: that is c below N and c + 1 from N on.)
pub record Seen (n loc c q : ℕ) (t : Task) : Type 0 where
  pub before : loc < q → Waits q c t
  pub token : loc ≡ q → HasToken q c t
  pub between : q < loc → loc < q + n → Between q (c + 1) t
  pub answer : loc ≡ q + n → HasAnswer q (c + 1) t
  pub past : q + n < loc → Waits q (c + 1) t

-- the message is somewhere
pub record Inv (v : View) : Type 0 where
  pub loc : ℕ
  pub c : ℕ
  -- Iq6
  pub below : loc < v.n + v.n
  pub seen : (q : ℕ) → q < v.n → Seen v.n loc c q (v.task q)
