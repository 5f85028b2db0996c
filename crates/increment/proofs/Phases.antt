-- What a phase says of one task.
use Rattle.std.specs.Prelude.{◌≡◌, ℕ, ◌+◌, ◌≤◌, ◌<◌}
use Rattle.std.proofs.Math.Decide.{ℕ_discrete}
use Rattle.std.proofs.Common.{arith}
use Rattle.lines.specs.declared.Task.{Task}
use Rattle.increment.specs.Invariant.{Opposed, Arrived, Stage, outside, entering, leaving, guest, Gathering, Opening, Phase, gathering, full, cleared}

-- ---- by the stage

-- the count is c or c + 1
pub record Near (c count : ℕ) : Type 0 where
  pub low : c ≤ count
  pub high : count ≤ c + 1

near_stage : {sense c : ℕ} {t : Task} → Stage sense c t → Near c t.count
near_stage (outside a b e) = omega arith
near_stage (entering l a e) = omega arith
near_stage (leaving l a e) = omega arith
near_stage (guest a) = omega arith

-- a task that is ahead is a guest
pub ahead : {sense c : ℕ} {t : Task} → Stage sense c t → c < t.count → Arrived 16 sense c t
ahead (outside a b e) h = absurd (omega arith)
ahead (entering l a e) h = absurd (omega arith)
ahead (leaving l a e) h = absurd (omega arith)
ahead (guest a) h = a

-- a task that has not arrived
abbrev pub Early : ℕ → ℕ → Task → Type 0
Early sense c t = (l : ℕ) → 14 ≤ l → Arrived l sense c t → ⊥

early_stage : {sense c : ℕ} {t : Task} → Stage sense c t → Early sense c t → t.count ≡ c
early_stage (outside a b e) f = e
early_stage (entering l a e) f = e
early_stage (leaving l a e) f = e
early_stage (guest a) f = absurd (f 16 (omega arith) a)

-- a task at 13 aims at the other sense (Iq9)
pub aimed : {sense c : ℕ} {t : Task} → Stage sense c t → t.line ≡ 13 → Opposed t.aim sense
aimed (outside a b e) l = absurd (omega arith)
aimed (entering k a e) l = a
aimed (leaving k a e) l = absurd (omega arith)
aimed (guest a) l = absurd (omega arith)

-- nobody is at 14 or 15
stage_line : {sense c : ℕ} {t : Task} → Stage sense c t → 14 ≤ t.line → 16 ≤ t.line
stage_line (outside a b e) l = absurd (omega arith)
stage_line (entering k a e) l = absurd (omega arith)
stage_line (leaving k a e) l = omega arith
stage_line (guest a) l = omega arith

-- ---- by the phase

module _ {n sense c : ℕ} {t : ℕ → Task} where
  -- in an opening every task has arrived
  arrived : (b l : ℕ) → 14 ≤ l → Opening b l n sense c t → (q : ℕ) → q < n → (k : ℕ) × (14 ≤ k) × Arrived k sense c (t q)
  arrived b l h o q m = go (ℕ_discrete q b)
    where
      go : Dec (q ≡ b) → (k : ℕ) × (14 ≤ k) × Arrived k sense c (t q)
      go (yes e) = (l, h, rw e o.butler)
      go (no ne) = (16, omega arith, o.others q m ne)

  -- and a task that is not at 16 is the butler (Iq2)
  butler_is : (b l : ℕ) → Opening b l n sense c t → (q : ℕ) → q < n → (t q).line < 16 → q ≡ b
  butler_is b l o q h k = go (ℕ_discrete q b)
    where
      go : Dec (q ≡ b) → q ≡ b
      go (yes e) = e
      go (no ne) = absurd (omega (arith, (o.others q h ne).at))

module _ {n arrivals sense c : ℕ} {t : ℕ → Task} where
  pub near : Phase n arrivals sense c t → (q : ℕ) → q < n → Near c (t q).count
  near (gathering g) q h = near_stage (g.each q h)
  near (full b e o) q h = let a = arrived b 14 (omega arith) o q h in omega arith
  near (cleared b e o) q h = let a = arrived b 15 (omega arith) o q h in omega arith

  -- where some task has not arrived the tasks gather, and its count is c
  pub early : Phase n arrivals sense c t → (q : ℕ) → q < n → Early sense c (t q) → Gathering n arrivals sense c t × ((t q).count ≡ c)
  early (gathering g) q h f = (g, early_stage (g.each q h) f)
  early (full b e o) q h f = let a = arrived b 14 (omega arith) o q h in absurd (f a.0 a.1 a.2)
  early (cleared b e o) q h f = let a = arrived b 15 (omega arith) o q h in absurd (f a.0 a.1 a.2)

  -- a task at 14 or 15 is the butler, and at 15 arrivals is 0 (Iq7)
  pub at_butler : Phase n arrivals sense c t → (q : ℕ) → q < n → 14 ≤ (t q).line → (t q).line < 16 → (l : ℕ) × Opening q l n sense c t × (l ≡ 15 → arrivals ≡ 0)
  at_butler (gathering g) q h low high = absurd (omega (arith, stage_line (g.each q h) low))
  at_butler (full b e o) q h low high = (14, rw (butler_is b 14 o q h high) o, λ k. absurd (omega arith))
  at_butler (cleared b e o) q h low high = (15, rw (butler_is b 15 o q h high) o, λ k. e)
