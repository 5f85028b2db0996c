-- The invariant is kept: a fresh state has it, and every move keeps it.
use Rattle.std.specs.Prelude.{◌≡◌, refl, ◌≢◌, ℕ, ◌+◌, ◌*◌, ◌≤◌, ◌<◌, eqb}
use Rattle.std.proofs.Common.{arith, eqb-true}
use Rattle.std.proofs.lemmas.Bool.{eqb-false}
use Rattle.bitset.specs.ChoiceLaws.{by_test}
use Rattle.bitset.specs.Sum.{sum}
use Rattle.bitset.specs.SumLaws.{sum_same, sum_const, sum_put, sum_full}
use Rattle.lines.specs.declared.Task.{Task}
use Rattle.lines.specs.Setters.{with_line, with_aim, with_left}
use Rattle.lines.specs.Common.{raised}
use Rattle.lines.specs.Common.{negated}
use Rattle.machine.specs.Setters.{task_at}
use Rattle.machine.specs.Fresh.{Inputs, fresh_reason, fresh_task, fresh_state, fresh_arrivals}
use Rattle.machine.specs.FreshLaws.{fresh_at, accepted_inputs}
use Rattle.barrier.specs.View.{view_of}
use Rattle.barrier.specs.Puts.{Puts, at_task}
use Rattle.increment.specs.Invariant.{Opposed, Arrived, Stage, outside, entering, leaving, guest, Gathering, Opening, Phase, gathering, full, cleared, Inv}
use Rattle.increment.proofs.Phases.{near, ahead, aimed, early, at_butler}

-- ---- a fresh state

pub fresh : (i : Inputs) → fresh_reason i ≡ 0 → i.kind ≡ 1 → Inv (view_of (fresh_state i))
fresh i e k =
    record {
      c = 0;
      phase = gathering (record { few = omega (arith, none, (accepted_inputs i e).some); total = omega (arith, none, zeros, sum_const i.n 0); each = each });
    }
  where
    t : ℕ → Task
    t = task_at (fresh_state i)

    none : fresh_arrivals i.kind i.n ≡ 0
    none = rw k

    zeros : sum i.n (λ q. (t q).count) ≡ sum i.n (λ q. 0)
    zeros = sum_same i.n (λ q. (t q).count) (λ q. 0) (λ q h. rw (fresh_at i.n q (fresh_task i) h))

    each : (q : ℕ) → q < i.n → Stage (fresh_state i).sense 0 (t q)
    each q h = rw (fresh_at i.n q (fresh_task i) h) (outside (omega arith) (omega arith) refl)

-- ---- each line, with the clauses that it threatens

-- while the tasks gather, the task b stored at p
module _ {n arrivals sense c p : ℕ} {t t' : ℕ → Task} {b : Task} (g : Gathering n arrivals sense c t) (h : p < n) (u : Puts t p b t') where
  -- the sum of the counts changes as the task's count does
  total_put : sum n (λ q. (t' q).count) + (t p).count ≡ n * c + arrivals + b.count
  total_put =
      let put = sum_put n p (λ q. (t q).count) (λ q. (t' q).count) h (λ q k ne. rw (u.other q ne)) in
      omega (arith, g.total, rw u.same at put)

  -- they gather on, with a arrivals
  gather_on : (a : ℕ) → a < n → b.count + arrivals ≡ (t p).count + a → Stage sense c b → Gathering n a sense c t'
  gather_on a few e st =
      record {
        few = few;
        total = omega (arith, total_put);
        each = λ q k. at_task (Stage sense c) u q (λ _. st) (λ _. g.each q k);
      }

module _ {n arrivals sense c p : ℕ} {t t' : ℕ → Task} (phase : Phase n arrivals sense c t) (h : p < n) where
  -- 11: to 12 in the end. It threatens none.
  pub line_11 : (t p).line ≡ 11 → {to left : ℕ} → 11 ≤ to → to ≤ 12 → Puts t p (with_left (with_line (t p) to) left) t' → Phase n arrivals sense c t'
  line_11 l from most u =
      let (g, e) = early phase p h (λ k m a. omega arith) in
      gathering (gather_on g h u arrivals g.few refl (outside (omega arith) (omega arith) e))

  -- 12: "aim := not sense; to 13." Iq9: the new aim is not the sense.
  pub line_12 : (t p).line ≡ 12 → sense < 2 → Puts t p (with_line (with_aim (t p) (negated sense)) 13) t' → Phase n arrivals sense c t'
  line_12 l two u =
      let (g, e) = early phase p h (λ k m a. omega arith) in
      gathering (gather_on g h u arrivals g.few refl (entering refl opposed e))
    where
      opposed : Opposed (negated sense) sense
      opposed = by_test (λ x. Opposed x sense) (eqb sense 0) (λ e. omega (arith, eqb-true sense 0 e)) (λ e. omega (arith, eqb-false sense 0 e))

  -- 13, the last: "arrivals rises by 1 and the count by 1; to 14 if t = N − 1". Iq3 and Jq3: by the sum every other task has arrived (Iz2).
  pub line_13_butler : (t p).line ≡ 13 → arrivals + 1 ≡ n → Puts t p (with_line (raised (t p)) 14) t' → Phase n (arrivals + 1) sense c t'
  line_13_butler l last u = full p last (record { known = h; butler = rw u.same mine; others = others })
    where
      at_13 : Gathering n arrivals sense c t × ((t p).count ≡ c)
      at_13 = early phase p h (λ k m a. omega arith)

      g : Gathering n arrivals sense c t
      g = at_13.0

      mine : Arrived 14 sense c (with_line (raised (t p)) 14)
      mine = record { at = refl; aim = aimed (g.each p h) l; count = omega (arith, at_13.1) }

      all : (q : ℕ) → q < n → c + 1 ≤ (t' q).count
      all =
          sum_full n (c + 1) (λ q. (t' q).count)
          (λ q k. at_task (λ x. x.count ≤ c + 1) u q (λ _. omega (arith, at_13.1)) (λ _. (near phase q k).high))
          (omega (arith, total_put g h u, at_13.1))

      others : (q : ℕ) → q < n → q ≢ p → Arrived 16 sense c (t' q)
      others q k ne = rw (u.other q ne) (ahead (g.each q k) (omega (arith, rw (u.other q ne) at (all q k))))

  -- 13, not the last: "arrivals rises by 1 and the count by 1; .. to 16". Iq4; Iq8, since the task has aimed at the other sense (Iq9); Jq4.
  pub line_13_guest : (t p).line ≡ 13 → arrivals + 1 ≢ n → Puts t p (with_line (raised (t p)) 16) t' → Phase n (arrivals + 1) sense c t'
  line_13_guest l more u =
      let (g, e) = early phase p h (λ k m a. omega arith) in
      let o = aimed (g.each p h) l in
      gathering (gather_on g h u (arrivals + 1) (omega (arith, g.few)) (omega arith) (guest (record { at = refl; aim = o; count = omega arith })))

  -- 14: "arrivals := 0; to 15." Iq4: only the butler is here (Iq2).
  pub line_14 : (t p).line ≡ 14 → Puts t p (with_line (t p) 15) t' → Phase n 0 sense c t'
  line_14 l u =
      let o = (at_butler phase p h (omega arith) (omega arith)).1 in
      cleared p refl
      (record {
        known = h;
        butler = rw u.same (record { at = refl; aim = o.butler.aim; count = o.butler.count });
        others = λ q k ne. rw (u.other q ne) (o.others q k ne);
      })

  -- 15: "sense := aim; to 11." The next round begins. Iq4, since arrivals is 0 (Iq7); Iq9, since nobody is at 13 (Iq3); Jq1 and Jq2, by Jq3.
  pub line_15 : (t p).line ≡ 15 → Puts t p (with_line (t p) 11) t' → Phase n arrivals (t p).aim (c + 1) t'
  line_15 l u = gathering (record { few = omega (arith, z); total = omega (arith, z, sum_const n (c + 1), equal); each = each })
    where
      at_15 : (k : ℕ) × Opening p k n sense c t × (k ≡ 15 → arrivals ≡ 0)
      at_15 = at_butler phase p h (omega arith) (omega arith)

      o : Opening p at_15.0 n sense c t
      o = at_15.1

      z : arrivals ≡ 0
      z = at_15.2 (omega (arith, o.butler.at))

      equal : sum n (λ q. (t' q).count) ≡ sum n (λ q. c + 1)
      equal =
          sum_same n (λ q. (t' q).count) (λ q. c + 1)
          (λ q k. at_task (λ x. x.count ≡ c + 1) u q (λ _. o.butler.count) (λ ne. (o.others q k ne).count))

      each : (q : ℕ) → q < n → Stage (t p).aim (c + 1) (t' q)
      each q k =
          at_task (Stage (t p).aim (c + 1)) u q (λ _. outside (omega arith) (omega arith) o.butler.count)
          (λ ne. let a = o.others q k ne in let m = o.butler in leaving a.at (omega arith) a.count)

  -- 16: "await sense = aim; to 11." Iq3 and Jq1: the sense is its aim, so that it is no guest (Iq8), the tasks gather (Iq6), and its count is c (Jq2).
  pub line_16 : (t p).line ≡ 16 → sense ≡ (t p).aim → Puts t p (with_line (t p) 11) t' → Phase n arrivals sense c t'
  line_16 l turned u =
      let (g, e) = early phase p h (λ k m a. omega arith) in
      gathering (gather_on g h u arrivals g.few refl (outside (omega arith) (omega arith) e))
