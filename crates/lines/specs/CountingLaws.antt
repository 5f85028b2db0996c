-- What every line does, told with the line: which one raises the count, and where a refusal is met.
use Rattle.std.specs.Prelude.{◌≡◌, refl, Bool, ◌||◌, not, List, ◌≢◌, ◌⊎◌, ℕ, ◌+◌, ◌≤◌, ◌<◌, eqb, leb, ltb}
use Rattle.std.proofs.Common.{sym, ap, ◌∙◌, inl, inr, arith}
use borrow.Author.Tests.{ltb-true, ltb-false, leb-true, eqb-true}
use Rattle.bitset.specs.Choice.{pick}
use Rattle.bitset.specs.ChoiceLaws.{by_test}
use Rattle.lines.specs.declared.Task.{Task}
use Rattle.lines.specs.declared.Shared.{Shared}
use Rattle.lines.specs.declared.Effect.{Effect}
use Rattle.lines.specs.declared.Write.{Write}
use Rattle.lines.specs.Common.{max_count, moves, waits, refuses, counts, work}
use Rattle.lines.specs.Ring.{nz}
use Rattle.lines.specs.Rule.{effect_from, counting_line}
use Rattle.lines.specs.LineLaws.{CountsArrivals, by_kind, by_symmetric, by_increment, by_ring, by_tree, by_centralized}

-- all tasks have arrived. 01, reason 7: "kind 1 with arrivals already N"; 02, P7: "kind 4 with arrivals 0"
abbrev pub AllArrived : Shared → Type 0
AllArrived s = ((s.kind ≡ 1) × (s.n ≤ s.arrivals)) ⊎ ((s.kind ≡ 4) × (s.arrivals ≡ 0))

-- where they have, the kind is one of those
pub arrived_counts : (s : Shared) → AllArrived s → CountsArrivals s.kind
arrived_counts s (inl all) = inl all.0
arrived_counts s (inr all) = inr all.0

-- A line moves and keeps the count, moves at the counting line and raises it by one from below its limit, waits, or is refused: reason 7 at line 13 where all have arrived, and
-- reason 11 at the counting line with the count at its limit. What waits or is refused leaves the task as it was and writes nothing.
pub data DoesAt (s : Shared) (t : Task) : Effect → Type 0 where
  keeps : {u : Task} {w : Write} → t.line ≢ counting_line s.kind → u.count ≡ t.count → DoesAt s t (moves u w)
  raises : {u : Task} {w : Write} → t.line ≡ counting_line s.kind → t.count < max_count → u.count ≡ t.count + 1 → DoesAt s t (moves u w)
  stays : DoesAt s t (waits t)
  refused_7 : t.line ≡ 13 → AllArrived s → DoesAt s t (refuses 7 t)
  refused_11 : t.line ≡ counting_line s.kind → max_count ≤ t.count → DoesAt s t (refuses 11 t)

module _ (s : Shared) (t : Task) where
  abbrev D : Effect → Type 0
  D e = DoesAt s t e

  either : (b : Bool) {x y : Effect} → D x → D y → D (pick b x y)
  either b h g = by_test D b (λ _. h) (λ _. g)

  -- where c is the counting line: a move at another line, own work, and a move at that line
  module _ (c : ℕ) (is : counting_line s.kind ≡ c) where
    off : {u : Task} {w : Write} → t.line ≢ c → u.count ≡ t.count → D (moves u w)
    off ne e = keeps (λ l. ne (l ∙ is)) e

    worked : t.line ≢ c → D (work t)
    worked ne = either (ltb 1 t.left) (off ne refl) (off ne refl)

    counted : {e : Effect} → t.line ≡ c → (t.count < max_count → D e) → D (counts t e)
    counted l h =
        by_test D (ltb t.count max_count) (λ low. h (ltb-true t.count max_count low)) (λ high. refused_11 (l ∙ sym is) (ltb-false t.count max_count high))

pub does_at : (s : Shared) (table : List ℕ) (p : ℕ) (t seen : Task) → DoesAt s t (effect_from s table p t seen)
does_at s table p t seen =
    by_kind (D s t) s table p t seen
    (λ k. let is : counting_line s.kind ≡ 12 = ap counting_line k in
    by_symmetric (D s t) t.line t (λ _. stays) (λ l. worked s t 12 is (omega arith)) s.n s.modulus seen.tag
    (λ l. counted s t 12 is l (λ low. raises (l ∙ sym is) low refl)) (λ l. either s t (eqb t.list 0) (off s t 12 is (omega arith) refl) (off s t 12 is (omega arith) refl))
    (λ l. either s t (not (eqb seen.tag t.old)) (off s t 12 is (omega arith) refl) stays))
    (λ k. let is : counting_line s.kind ≡ 13 = ap counting_line k in
    by_increment (D s t) t.line t (λ _. stays) (λ l. worked s t 13 is (omega arith)) s.n s.arrivals s.sense
    (λ l. off s t 13 is (omega arith) refl)
    (λ l. by_test (D s t) (leb s.n s.arrivals) (λ all. refused_7 l (inl (k, leb-true s.n s.arrivals all))) (λ _. counted s t 13 is l (λ low. raises (l ∙ sym is) low refl)))
    (λ l. off s t 13 is (omega arith) refl) (λ l. off s t 13 is (omega arith) refl)
    (λ l. either s t (eqb s.sense t.aim) (off s t 13 is (omega arith) refl) stays))
    (λ k. let is : counting_line s.kind ≡ 13 = ap counting_line k in
    by_ring (D s t) t.line t (λ _. stays) (λ l. worked s t 13 is (omega arith)) s.n p
    (λ l. either s t (eqb t.toggle (nz p)) (off s t 13 is (omega arith) refl) stays) (λ l. counted s t 13 is l (λ low. raises (l ∙ sym is) low refl))
    (λ l. either s t (not (eqb t.toggle (nz p))) (off s t 13 is (omega arith) refl) stays) (λ l. off s t 13 is (omega arith) refl))
    (λ k. let is : counting_line s.kind ≡ 15 = ap counting_line k in
    by_tree (D s t) t.line t (λ _. stays) (λ l. worked s t 15 is (omega arith)) table p seen.flag
    (λ l. off s t 15 is (omega arith) refl) (λ l. either s t (eqb t.list 0) (off s t 15 is (omega arith) refl) (off s t 15 is (omega arith) refl))
    (λ l. either s t (eqb seen.flag 1) (off s t 15 is (omega arith) refl) stays) (λ l. counted s t 15 is l (λ low. raises (l ∙ sym is) low refl))
    (λ l. either s t (eqb p 0 || eqb t.flag 0) (off s t 15 is (omega arith) refl) stays) (λ l. off s t 15 is (omega arith) refl)
    (λ l. either s t (eqb t.list 0) (off s t 15 is (omega arith) refl) (off s t 15 is (omega arith) refl)))
    (λ k. let is : counting_line s.kind ≡ 13 = ap counting_line k in
    by_centralized (D s t) t.line t (λ _. stays) (λ l. worked s t 13 is (omega arith)) s.n s.arrivals s.sense
    (λ l. off s t 13 is (omega arith) refl)
    (λ l. by_test (D s t) (eqb s.arrivals 0) (λ all. refused_7 l (inr (k, eqb-true s.arrivals 0 all))) (λ _. counted s t 13 is l (λ low. raises (l ∙ sym is) low refl)))
    (λ l. off s t 13 is (omega arith) refl) (λ l. off s t 13 is (omega arith) refl)
    (λ l. either s t (eqb s.sense t.own) (off s t 13 is (omega arith) refl) stays))
    stays
