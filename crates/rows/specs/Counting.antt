-- Counts, told from a log: which line raises a task's count, and by how much a turn raises it.
use Rattle.std.specs.Prelude.{◌≡◌, refl, Bool, true, false, ◌&&◌, ◌||◌, not, List, ◌≢◌, ℕ, ◌+◌, eqb, leb, ltb, Ok}
use Rattle.std.proofs.Common.{ap, ◌∙◌, arith, eq-eqb, ne_eqb}
use Rattle.bitset.specs.Choice.{pick}
use Rattle.bitset.specs.ChoiceLaws.{by_test}
use Rattle.lines.specs.declared.Task.{Task}
use Rattle.lines.specs.declared.Shared.{Shared}
use Rattle.lines.specs.declared.Effect.{Effect}
use Rattle.lines.specs.declared.Write.{Write}
use Rattle.lines.specs.Common.{max_count, moves, waits, refuses, counts, work}
use Rattle.lines.specs.Ring.{nz}
use Rattle.lines.specs.Rule.{effect_from}
use Rattle.lines.specs.LineLaws.{by_kind, by_symmetric, by_increment, by_ring, by_tree, by_centralized}
use Rattle.machine.specs.declared.State.{State}
use Rattle.machine.specs.declared.Move.{Move}
use Rattle.machine.specs.declared.Move.TheVariants.{Moved, Waited}
use Rattle.machine.specs.Setters.{task_at}
use Rattle.machine.specs.Range.{shared_of, table_of}
use Rattle.machine.specs.Least.{count_of}
use Rattle.machine.specs.Turn.{effect_of, turn_of, move_number}
use Rattle.machine.proofs.TurnLaws.{effect_rule, act_of, turn_makes}
use Rattle.machine.proofs.RoundLaws.{own_made}

-- the line whose move raises the count: 12 for kind 0, 15 for kind 3, else 13
abbrev pub counting_line : ℕ → ℕ
counting_line kind = pick (eqb kind 0) 12 (pick (eqb kind 3) 15 13)

-- by how much a turn raises its task's count: 1 for a move at that line, else 0
abbrev pub rise_at : ℕ → ℕ → ℕ → ℕ
rise_at kind line moved = pick (eqb line (counting_line kind) && eqb moved 1) 1 0

-- ---- a count rises at the counting line alone

-- what a line of the task t does to its count, where c is the counting line: a move raises it by 1 there and keeps it elsewhere
data Counts (c : ℕ) (t : Task) : Effect → Type 0 where
  moved : {u : Task} {w : Write} → u.count ≡ t.count + pick (eqb t.line c) 1 0 → Counts c t (moves u w)
  waited : Counts c t (waits t)
  refused : {k : ℕ} → Counts c t (refuses k t)

module _ (c : ℕ) (t : Task) where
  -- at the counting line, and at another
  up : {u : Task} {w : Write} → t.line ≡ c → u.count ≡ t.count + 1 → Counts c t (moves u w)
  up l e = moved (e ∙ rw (eq-eqb t.line c l))

  off : {u : Task} {w : Write} → t.line ≢ c → u.count ≡ t.count → Counts c t (moves u w)
  off ne e = moved (e ∙ rw (ne_eqb t.line c ne) (omega arith))

  either : (b : Bool) {x y : Effect} → Counts c t x → Counts c t y → Counts c t (pick b x y)
  either b h g = by_test (Counts c t) b (λ _. h) (λ _. g)

  worked : t.line ≢ c → Counts c t (work t)
  worked ne = either (ltb 1 t.left) (off ne refl) (off ne refl)

  counted : {e : Effect} → Counts c t e → Counts c t (counts t e)
  counted h = either (ltb t.count max_count) h refused

line_counts : (s : Shared) (table : List ℕ) (p : ℕ) (t seen : Task) → Counts (counting_line s.kind) t (effect_from s table p t seen)
line_counts s table p t seen =
    by_kind (Counts (counting_line s.kind) t) s table p t seen
    (λ k. rw k
    (by_symmetric (Counts 12 t) t.line t (λ _. waited) (λ l. worked 12 t (omega arith)) s.n s.modulus seen.tag
    (λ l. counted 12 t (up 12 t l refl)) (λ l. either 12 t (eqb t.list 0) (off 12 t (omega arith) refl) (off 12 t (omega arith) refl))
    (λ l. either 12 t (not (eqb seen.tag t.old)) (off 12 t (omega arith) refl) waited)))
    (λ k. rw k
    (by_increment (Counts 13 t) t.line t (λ _. waited) (λ l. worked 13 t (omega arith)) s.n s.arrivals s.sense
    (λ l. off 13 t (omega arith) refl) (λ l. either 13 t (leb s.n s.arrivals) refused (counted 13 t (up 13 t l refl)))
    (λ l. off 13 t (omega arith) refl) (λ l. off 13 t (omega arith) refl)
    (λ l. either 13 t (eqb s.sense t.aim) (off 13 t (omega arith) refl) waited)))
    (λ k. rw k
    (by_ring (Counts 13 t) t.line t (λ _. waited) (λ l. worked 13 t (omega arith)) s.n p
    (λ l. either 13 t (eqb t.toggle (nz p)) (off 13 t (omega arith) refl) waited) (λ l. counted 13 t (up 13 t l refl))
    (λ l. either 13 t (not (eqb t.toggle (nz p))) (off 13 t (omega arith) refl) waited) (λ l. off 13 t (omega arith) refl)))
    (λ k. rw k
    (by_tree (Counts 15 t) t.line t (λ _. waited) (λ l. worked 15 t (omega arith)) table p seen.flag
    (λ l. off 15 t (omega arith) refl) (λ l. either 15 t (eqb t.list 0) (off 15 t (omega arith) refl) (off 15 t (omega arith) refl))
    (λ l. either 15 t (eqb seen.flag 1) (off 15 t (omega arith) refl) waited) (λ l. counted 15 t (up 15 t l refl))
    (λ l. either 15 t (eqb p 0 || eqb t.flag 0) (off 15 t (omega arith) refl) waited) (λ l. off 15 t (omega arith) refl)
    (λ l. either 15 t (eqb t.list 0) (off 15 t (omega arith) refl) (off 15 t (omega arith) refl))))
    (λ k. rw k
    (by_centralized (Counts 13 t) t.line t (λ _. waited) (λ l. worked 13 t (omega arith)) s.n s.arrivals s.sense
    (λ l. off 13 t (omega arith) refl) (λ l. either 13 t (eqb s.arrivals 0) refused (counted 13 t (up 13 t l refl)))
    (λ l. off 13 t (omega arith) refl) (λ l. off 13 t (omega arith) refl)
    (λ l. either 13 t (eqb s.sense t.own) (off 13 t (omega arith) refl) waited)))
    waited

-- so a turn that is made raises its task's count by 1 at a move of the counting line, and keeps it else
pub turn_counts : (s : State) (p : ℕ) (how : Move) → (turn_of s p).outcome ≡ Ok how
    → count_of (turn_of s p).state p ≡ count_of s p + rise_at s.kind (task_at s p).line (move_number how)
turn_counts s p how e =
    let m = turn_makes s p how e in
    own_made s p m.valid m.known how e
    ∙ go how (effect_of s p) m.act
    (rw (effect_rule s p) (line_counts (shared_of s) (table_of s) p (task_at s p) (task_at s (task_at s p).looked)))
  where
    c : ℕ
    c = counting_line s.kind

    at_move : (b : Bool) → ◌≡◌ {A = ℕ} (pick b 1 0) (pick (b && true) 1 0)
    at_move true = refl
    at_move false = refl

    at_wait : (b : Bool) → ◌≡◌ {A = ℕ} (pick (b && false) 1 0) 0
    at_wait true = refl
    at_wait false = refl

    go : (how : Move) (e : Effect) → e.act ≡ act_of how → Counts c (task_at s p) e
        → e.task.count ≡ count_of s p + rise_at s.kind (task_at s p).line (move_number how)
    go (Moved x) _ a (moved h) = h ∙ ap (λ (k : ℕ). count_of s p + k) (at_move (eqb (task_at s p).line c))
    go Waited _ a waited = omega (arith, at_wait (eqb (task_at s p).line c))
    go (Moved x) _ a waited = let z : ◌≡◌ {A = ℕ} 0 1 = cc in absurd (omega arith)
    go Waited _ a (moved h) = let z : ◌≡◌ {A = ℕ} 0 1 = cc in absurd (omega arith)
    go (Moved x) _ a refused = let z : ◌≡◌ {A = ℕ} 0 1 = cc in absurd (omega arith)
    go Waited _ a refused = let z : ◌≡◌ {A = ℕ} 0 1 = cc in absurd (omega arith)
