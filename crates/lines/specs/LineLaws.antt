-- Laws of the lines: by cases over the kind and the line, and what every line does, whatever its barrier.
use Rattle.std.specs.Prelude.{◌≡◌, refl, Bool, ◌||◌, not, List, ◌≢◌, ◌⊎◌, ℕ, ◌+◌, ◌≤◌, ◌<◌, eqb, leb, ltb}
use Rattle.std.proofs.Common.{ap, inl, inr, arith}
use borrow.Author.Tests.{ltb-true, ltb-false, leb-true, leb-false, eqb-true, eqb-false}
use Rattle.bitset.specs.Choice.{pick}
use Rattle.bitset.specs.ChoiceLaws.{by_test, by_one_test}
use Rattle.lines.specs.declared.Task.{Task}
use Rattle.lines.specs.declared.Shared.{Shared}
use Rattle.lines.specs.declared.Effect.{Effect}
use Rattle.lines.specs.declared.Act.TheVariants.{Moves}
use Rattle.lines.specs.declared.Write.{Write}
use Rattle.lines.specs.Common.{max_count, moves, waits, refuses, counts, work}
use Rattle.lines.specs.Symmetric.{symmetric12, symmetric13, symmetric14, symmetric_line}
use Rattle.lines.specs.Increment.{increment12, increment13, increment14, increment15, increment16, increment_line}
use Rattle.lines.specs.Ring.{nz, ring12, ring13, ring14, ring15, ring_line}
use Rattle.lines.specs.Tree.{tree11, tree12, tree13, tree14, tree15, tree16, tree17, tree18, tree_gather, tree_meet, tree_release, tree_line}
use Rattle.lines.specs.Centralized.{centralized12, centralized13, centralized14, centralized15, centralized16, centralized_line}
use Rattle.lines.specs.Rule.{effect_from}

-- ---- by cases

-- what holds of each barrier's effect, under its kind, and of a wait, holds of the effect
pub by_kind : (P : Effect → Type 0) (s : Shared) (table : List ℕ) (p : ℕ) (own seen : Task)
    → (s.kind ≡ 0 → P (symmetric_line own.line s.n s.modulus seen.tag own))
    → (s.kind ≡ 1 → P (increment_line own.line s.n s.arrivals s.sense own))
    → (s.kind ≡ 2 → P (ring_line own.line s.n p own))
    → (s.kind ≡ 3 → P (tree_line own.line table p seen.flag own))
    → (s.kind ≡ 4 → P (centralized_line own.line s.n s.arrivals s.sense own))
    → P (waits own)
    → P (effect_from s table p own seen)
by_kind P s table p own seen symmetric increment ring tree centralized rest =
    of_kind 0 symmetric (of_kind 1 increment (of_kind 2 ring (of_kind 3 tree (of_kind 4 centralized rest))))
  where
    of_kind : (k : ℕ) {e f : Effect} → (s.kind ≡ k → P e) → P f → P (pick (eqb s.kind k) e f)
    of_kind k h g = by_test P (eqb s.kind k) (λ e. h (eqb-true s.kind k e)) (λ _. g)

-- what holds of each line of a barrier, and of a wait at a line that is none of them, holds of the barrier's effect
module _ (P : Effect → Type 0) (line : ℕ) (t : Task) where
  -- one more line, where the line is none of those before
  at_line : (l : ℕ) {e f : Effect} → (line ≡ l → P e) → ((11 ≤ line → l < line) → P f) → (11 ≤ line → l ≤ line) → P (pick (eqb line l) e f)
  at_line l h g from = by_test P (eqb line l) (λ e. h (eqb-true line l e)) (λ ne. g (λ k. omega (arith, from k, eqb-false line l ne)))

  pub by_symmetric : ((11 ≤ line → 14 < line) → P (waits t)) → (line ≡ 11 → P (work t)) → (n r tag : ℕ)
      → (line ≡ 12 → P (symmetric12 n r t)) → (line ≡ 13 → P (symmetric13 t)) → (line ≡ 14 → P (symmetric14 tag t))
      → P (symmetric_line line n r tag t)
  unfolding symmetric_line
  by_symmetric rest l11 n r tag l12 l13 l14 = at_line 11 l11 (at_line 12 l12 (at_line 13 l13 (at_line 14 l14 rest))) (λ h. h)

  pub by_increment : ((11 ≤ line → 16 < line) → P (waits t)) → (line ≡ 11 → P (work t)) → (n arrivals sense : ℕ)
      → (line ≡ 12 → P (increment12 sense t)) → (line ≡ 13 → P (increment13 n arrivals t)) → (line ≡ 14 → P (increment14 t))
      → (line ≡ 15 → P (increment15 t)) → (line ≡ 16 → P (increment16 sense t))
      → P (increment_line line n arrivals sense t)
  unfolding increment_line
  by_increment rest l11 n arrivals sense l12 l13 l14 l15 l16 =
      at_line 11 l11 (at_line 12 l12 (at_line 13 l13 (at_line 14 l14 (at_line 15 l15 (at_line 16 l16 rest))))) (λ h. h)

  pub by_ring : ((11 ≤ line → 15 < line) → P (waits t)) → (line ≡ 11 → P (work t)) → (n p : ℕ)
      → (line ≡ 12 → P (ring12 p t)) → (line ≡ 13 → P (ring13 n p t)) → (line ≡ 14 → P (ring14 p t)) → (line ≡ 15 → P (ring15 n p t))
      → P (ring_line line n p t)
  unfolding ring_line
  by_ring rest l11 n p l12 l13 l14 l15 = at_line 11 l11 (at_line 12 l12 (at_line 13 l13 (at_line 14 l14 (at_line 15 l15 rest)))) (λ h. h)

  pub by_tree : ((11 ≤ line → 18 < line) → P (waits t)) → (line ≡ 11 → P (tree11 t)) → (table : List ℕ) (p flag : ℕ)
      → (line ≡ 12 → P (tree12 table p t)) → (line ≡ 13 → P (tree13 t)) → (line ≡ 14 → P (tree14 flag t))
      → (line ≡ 15 → P (tree15 p t)) → (line ≡ 16 → P (tree16 p t)) → (line ≡ 17 → P (tree17 table p t)) → (line ≡ 18 → P (tree18 t))
      → P (tree_line line table p flag t)
  unfolding tree_gather tree_meet tree_release
  by_tree rest l11 table p flag l12 l13 l14 l15 l16 l17 l18 =
      by_test P (leb line 13)
      (λ a. at_line 11 l11 (at_line 12 l12 (at_line 13 l13 (λ h. rest (λ k. omega (arith, h k, leb-true line 13 a))))) (λ h. h))
      (λ a. by_test P (leb line 16)
      (λ b. at_line 14 l14 (at_line 15 l15 (at_line 16 l16 (λ h. rest (λ k. omega (arith, h k, leb-true line 16 b))))) (λ k. omega (arith, leb-false line 13 a)))
      (λ b. at_line 17 l17 (at_line 18 l18 rest) (λ k. omega (arith, leb-false line 16 b))))

  pub by_centralized : ((11 ≤ line → 16 < line) → P (waits t)) → (line ≡ 11 → P (work t)) → (n arrivals sense : ℕ)
      → (line ≡ 12 → P (centralized12 t)) → (line ≡ 13 → P (centralized13 arrivals t)) → (line ≡ 14 → P (centralized14 n t))
      → (line ≡ 15 → P (centralized15 t)) → (line ≡ 16 → P (centralized16 sense t))
      → P (centralized_line line n arrivals sense t)
  unfolding centralized_line
  by_centralized rest l11 n arrivals sense l12 l13 l14 l15 l16 =
      at_line 11 l11 (at_line 12 l12 (at_line 13 l13 (at_line 14 l14 (at_line 15 l15 (at_line 16 l16 rest))))) (λ h. h)

-- what holds of each line of kind 1 and the same of kind 4, and of waits, holds of the effects of the two
pub by_both : (P : Effect → Effect → Type 0) (line : ℕ) (u t : Task) (n a₁ a₄ sense : ℕ)
    → (line ≡ 11 → P (work u) (work t)) → (line ≡ 12 → P (increment12 sense u) (centralized12 t)) → (line ≡ 13 → P (increment13 n a₁ u) (centralized13 a₄ t))
    → (line ≡ 14 → P (increment14 u) (centralized14 n t)) → (line ≡ 15 → P (increment15 u) (centralized15 t)) → (line ≡ 16 → P (increment16 sense u) (centralized16 sense t))
    → P (waits u) (waits t)
    → P (increment_line line n a₁ sense u) (centralized_line line n a₄ sense t)
unfolding increment_line centralized_line
by_both P line u t n a₁ a₄ sense l11 l12 l13 l14 l15 l16 rest = at 11 l11 (at 12 l12 (at 13 l13 (at 14 l14 (at 15 l15 (at 16 l16 rest)))))
  where
    at : (l : ℕ) {x y e f : Effect} → (line ≡ l → P x e) → P y f → P (pick (eqb line l) x y) (pick (eqb line l) e f)
    at l h more = by_one_test P (eqb line l) (λ e. h (eqb-true line l e)) (λ _. more)

-- ---- what every line does

-- the kinds whose tasks arrive by a shared number
abbrev pub CountsArrivals : ℕ → Type 0
CountsArrivals kind = (kind ≡ 1) ⊎ (kind ≡ 4)

-- A line moves and keeps the count, moves and raises it by one from below its limit, waits, or is refused: 7 in the kinds 1 and 4 alone, and 11
-- at the limit alone. What waits or is refused leaves the task as it was and writes nothing.
pub data Does (s : Shared) (t : Task) : Effect → Type 0 where
  keeps : {u : Task} {w : Write} → u.count ≡ t.count → Does s t (moves u w)
  raises : {u : Task} {w : Write} → t.count < max_count → u.count ≡ t.count + 1 → Does s t (moves u w)
  stays : Does s t (waits t)
  refused_7 : CountsArrivals s.kind → Does s t (refuses 7 t)
  refused_11 : max_count ≤ t.count → Does s t (refuses 11 t)

pub does : (s : Shared) (table : List ℕ) (p : ℕ) (t seen : Task) → Does s t (effect_from s table p t seen)
does s table p t seen =
    by_kind D s table p t seen
    (λ _. by_symmetric D t.line t (λ _. stays) (λ _. worked) s.n s.modulus seen.tag
    (λ _. counted (λ l. raises l refl)) (λ _. either (eqb t.list 0) (keeps refl) (keeps refl)) (λ _. either (not (eqb seen.tag t.old)) (keeps refl) stays))
    (λ k. by_increment D t.line t (λ _. stays) (λ _. worked) s.n s.arrivals s.sense
    (λ _. keeps refl) (λ _. either (leb s.n s.arrivals) (refused_7 (inl k)) (counted (λ l. raises l refl))) (λ _. keeps refl) (λ _. keeps refl)
    (λ _. either (eqb s.sense t.aim) (keeps refl) stays))
    (λ _. by_ring D t.line t (λ _. stays) (λ _. worked) s.n p
    (λ _. either (eqb t.toggle (nz p)) (keeps refl) stays) (λ _. counted (λ l. raises l refl)) (λ _. either (not (eqb t.toggle (nz p))) (keeps refl) stays) (λ _. keeps refl))
    (λ _. by_tree D t.line t (λ _. stays) (λ _. worked) table p seen.flag
    (λ _. keeps refl) (λ _. either (eqb t.list 0) (keeps refl) (keeps refl)) (λ _. either (eqb seen.flag 1) (keeps refl) stays) (λ _. counted (λ l. raises l refl))
    (λ _. either (eqb p 0 || eqb t.flag 0) (keeps refl) stays) (λ _. keeps refl) (λ _. either (eqb t.list 0) (keeps refl) (keeps refl)))
    (λ k. by_centralized D t.line t (λ _. stays) (λ _. worked) s.n s.arrivals s.sense
    (λ _. keeps refl) (λ _. either (eqb s.arrivals 0) (refused_7 (inr k)) (counted (λ l. raises l refl))) (λ _. keeps refl) (λ _. keeps refl)
    (λ _. either (eqb s.sense t.own) (keeps refl) stays))
    stays
  where
    D : Effect → Type 0
    D e = Does s t e

    either : (b : Bool) {x y : Effect} → D x → D y → D (pick b x y)
    either b h g = by_test D b (λ _. h) (λ _. g)

    worked : D (work t)
    worked = either (ltb 1 t.left) (keeps refl) (keeps refl)

    counted : {e : Effect} → (t.count < max_count → D e) → D (counts t e)
    counted h =
        by_test D (ltb t.count max_count) (λ l. h (ltb-true t.count max_count l)) (λ l. refused_11 (ltb-false t.count max_count l))

-- Whatever its line does, a task keeps its start (02, P1) and its work length (P6). A move at 11 is own work, and no other line changes the moves left.
pub record Kept (t : Task) (e : Effect) : Type 0 where
  pub start : e.task.start ≡ t.start
  pub length : e.task.work ≡ t.work
  pub left : t.line ≢ 11 → e.task.left ≡ t.left
  pub own : t.line ≡ 11 → e.act ≡ Moves → e ≡ work t

pub kept : (s : Shared) (table : List ℕ) (p : ℕ) (t seen : Task) → Kept t (effect_from s table p t seen)
kept s table p t seen =
    by_kind K s table p t seen
    (λ _. by_symmetric K t.line t (λ _. waited) at_11 s.n s.modulus seen.tag
    (λ l. either (ltb t.count max_count) (off (omega arith) refl) (off (omega arith) refl)) (λ l. either (eqb t.list 0) (off (omega arith) refl) (off (omega arith) refl)) (λ l. either (not (eqb seen.tag t.old)) (off (omega arith) refl) (off (omega arith) refl)))
    (λ _. by_increment K t.line t (λ _. waited) at_11 s.n s.arrivals s.sense
    (λ l. off (omega arith) refl) (λ l. by_test K (leb s.n s.arrivals) (λ _. off (omega arith) refl) (λ _. either (ltb t.count max_count) (off (omega arith) refl) (off (omega arith) refl))) (λ l. off (omega arith) refl) (λ l. off (omega arith) refl)
    (λ l. either (eqb s.sense t.aim) (off (omega arith) refl) (off (omega arith) refl)))
    (λ _. by_ring K t.line t (λ _. waited) at_11 s.n p
    (λ l. either (eqb t.toggle (nz p)) (off (omega arith) refl) (off (omega arith) refl)) (λ l. either (ltb t.count max_count) (off (omega arith) refl) (off (omega arith) refl)) (λ l. either (not (eqb t.toggle (nz p))) (off (omega arith) refl) (off (omega arith) refl)) (λ l. off (omega arith) refl))
    (λ _. by_tree K t.line t (λ _. waited) at_11 table p seen.flag
    (λ l. off (omega arith) refl) (λ l. either (eqb t.list 0) (off (omega arith) refl) (off (omega arith) refl)) (λ l. either (eqb seen.flag 1) (off (omega arith) refl) (off (omega arith) refl)) (λ l. either (ltb t.count max_count) (off (omega arith) refl) (off (omega arith) refl))
    (λ l. either (eqb p 0 || eqb t.flag 0) (off (omega arith) refl) (off (omega arith) refl)) (λ l. off (omega arith) refl) (λ l. either (eqb t.list 0) (off (omega arith) refl) (off (omega arith) refl)))
    (λ _. by_centralized K t.line t (λ _. waited) at_11 s.n s.arrivals s.sense
    (λ l. off (omega arith) refl) (λ l. by_test K (eqb s.arrivals 0) (λ _. off (omega arith) refl) (λ _. either (ltb t.count max_count) (off (omega arith) refl) (off (omega arith) refl))) (λ l. off (omega arith) refl) (λ l. off (omega arith) refl)
    (λ l. either (eqb s.sense t.own) (off (omega arith) refl) (off (omega arith) refl)))
    waited
  where
    K : Effect → Type 0
    K e = Kept t e

    -- what is kept off 11
    outer : Task → ℕ × ℕ × ℕ
    outer x = (x.start, x.work, x.left)

    off : {e : Effect} → t.line ≢ 11 → outer e.task ≡ outer t → K e
    off ne h =
        record {
          start = ap (λ (x : ℕ × ℕ × ℕ). x.0) h;
          length = ap (λ (x : ℕ × ℕ × ℕ). x.1) h;
          left = λ _. ap (λ (x : ℕ × ℕ × ℕ). x.2) h;
          own = λ l. absurd (ne l);
        }

    either : (b : Bool) {x y : Effect} → K x → K y → K (pick b x y)
    either b h g = by_test K b (λ _. h) (λ _. g)

    waited : K (waits t)
    waited = record { start = refl; length = refl; left = λ _. refl; own = λ _ m. let z : ◌≡◌ {A = ℕ} 0 1 = cc in absurd (omega arith) }

    at_11 : t.line ≡ 11 → K (work t)
    at_11 l =
        record {
          start = by_test (λ (e : Effect). e.task.start ≡ t.start) (ltb 1 t.left) (λ _. refl) (λ _. refl);
          length = by_test (λ (e : Effect). e.task.work ≡ t.work) (ltb 1 t.left) (λ _. refl) (λ _. refl);
          left = λ ne. absurd (ne l);
          own = λ _ _. refl;
        }
