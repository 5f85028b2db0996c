-- The invariant holds of a fresh state, and every move keeps it.
use Rattle.std.specs.Prelude.{◌≡◌, ◌≢◌, ℕ, ◌+◌, ◌%◌, ◌≤◌, ◌<◌}
use Rattle.std.proofs.Common.{sym, ◌∙◌, ap, subst, le_trans, le_of_suc-le-suc, lt_of_not-le, arith, ne_eqb}
use Rattle.std.proofs.Math.Nat.{mod-add-mod, zero-mod}
use Rattle.std.proofs.Math.Decide.{ℕ_discrete}
use Rattle.bitset.specs.Set.{bit, all_of, without_of}
use Rattle.bitset.specs.SetLaws.{bit_zero, all_member, without_other}
use Rattle.lines.specs.declared.Task.{Task}
use Rattle.lines.specs.Setters.{with_line, with_tag, with_old, with_list, with_looked, with_left}
use Rattle.lines.specs.Common.{raised}
use Rattle.lines.specs.Symmetric.{next_tag}
use Rattle.machine.specs.declared.State.{State}
use Rattle.machine.specs.Setters.{task_at, with_task}
use Rattle.machine.specs.Fresh.{Inputs, fresh_reason, fresh_state, fresh_task}
use Rattle.machine.specs.FreshLaws.{fresh_at}
use Rattle.machine.specs.RangeLaws.{InRange, range}
use Rattle.barrier.specs.View.{view_of}
use Rattle.barrier.specs.Barrier.{Holds}
use Rattle.barrier.specs.Puts.{Puts, at_task, stored}
use Rattle.symmetric.specs.Invariant.{Alone, Beside, Inv}
use Rattle.symmetric.proofs.Tags.{three, behind_tag}

-- ---- a fresh state

pub fresh : (i : Inputs) → fresh_reason i ≡ 0 → i.kind ≡ 0 → Inv (view_of (fresh_state i))
fresh i e k =
    record {
      alone = λ q h. subst (Alone i.modulus) (sym (fresh_at i.n q (fresh_task i) h)) (first q);
      beside = λ q r hq hr.
          subst (λ (t : Task). Beside t r (task_at (fresh_state i) r).count) (sym (fresh_at i.n q (fresh_task i) hq)) (omega arith);
    }
  where
    first : (q : ℕ) → Alone i.modulus (fresh_task i q)
    first q = record { old = omega arith; tag = sym (zero-mod i.modulus); looked = omega arith }

-- ---- storing a task

-- the task p may become b: its count does not fall, and the clauses hold of b
pub record Keeps (s : State) (p : ℕ) (b : Task) : Type 0 where
  no_less : (task_at s p).count ≤ b.count
  alone : Alone s.modulus b
  beside : (r : ℕ) → r < s.n → r ≢ p → Beside b r (task_at s r).count

-- what holds beside a count holds beside a larger one
beside_more : (t : Task) (r c d : ℕ) → c ≤ d → Beside t r c → Beside t r d
beside_more t r c d h o =
    record { work = λ l. le_trans (o.work l) h; seen = λ l z. le_trans (o.seen l z) h; near = omega arith }

pub kept : (s : State) (p : ℕ) (b : Task) → Holds 0 Inv s → p < s.n → Keeps s p b → Inv (view_of (with_task s p b))
kept s p b i h k =
    record {
      alone = λ q hq. at_task (Alone s.modulus) put q (λ _. k.alone) (λ _. i.inv.alone q hq);
      beside = λ q r hq hr.
          at_task (λ t. Beside t r (task_at (with_task s p b) r).count) put q
          (λ _. at_task (λ u. Beside b r u.count) put r (λ _. omega arith) (λ ne. k.beside r hr ne))
          (λ _. at_task (λ u. Beside (task_at s q) r u.count) put r
          (λ e. beside_more (task_at s q) r _ _ k.no_less (subst (λ (x : ℕ). Beside (task_at s q) r (task_at s x).count) e (i.inv.beside q r hq hr)))
          (λ _. i.inv.beside q r hq hr));
    }
  where
    put : Puts (task_at s) p b (task_at (with_task s p b))
    put = stored s p b i.valid h

-- ---- line by line, each with the clause that it threatens and the one that remedies it

module _ (s : State) (i : Holds 0 Inv s) (p : ℕ) (h : p < s.n) where
  in_range : InRange s
  in_range = range s i.valid

  mine : Alone s.modulus (task_at s p)
  mine = i.inv.alone p h

  -- 11 threatens none
  pub keep_11 : (task_at s p).line ≡ 11 → (to left : ℕ) → 11 ≤ to → to ≤ 12 → Keeps s p (with_left (with_line (task_at s p) to) left)
  keep_11 l to left from most =
      record {
        no_less = omega arith;
        alone = record { old = omega arith; tag = mine.tag; looked = omega arith };
        beside = λ r hr ne. let o = i.inv.beside p r h hr in record { work = λ _. o.work (omega arith); seen = omega arith; near = o.near };
      }

  -- 12 threatens Iq5; Iq1 remedies. Every task is on the list then, so Iq2 says nothing.
  pub keep_12 : (task_at s p).line ≡ 12
      → Keeps s p (with_line (with_list (raised (with_tag (with_old (task_at s p) (task_at s p).tag) (next_tag s.modulus (task_at s p).tag))) (all_of s.n)) 13)
  keep_12 l =
      record {
        no_less = omega arith;
        alone = record { old = λ _. next; tag = next ∙ ap (λ (x : ℕ). (x + 1) % s.modulus) mine.tag ∙ mod-add-mod (task_at s p).count s.modulus 1; looked = omega arith };
        beside = λ r hr ne.
            let o = i.inv.beside p r h hr in
            record { work = omega arith; seen = λ _ z. absurd (omega (arith, all_member s.n r in_range.few hr)); near = omega (arith, o.work (omega arith)) };
      }
    where
      next : next_tag s.modulus (task_at s p).tag ≡ ((task_at s p).tag + 1) % s.modulus
      next = rw (ne_eqb s.modulus 0 (omega (arith, three s i)))

  -- 13 with the empty list threatens Iq1; Iq2 remedies
  pub keep_13_none : (task_at s p).line ≡ 13 → (task_at s p).list ≡ 0 → Keeps s p (with_line (task_at s p) 11)
  keep_13_none l e =
      record {
        no_less = omega arith;
        alone = record { old = omega arith; tag = mine.tag; looked = omega arith };
        beside = λ r hr ne.
            let o = i.inv.beside p r h hr in
            record { work = λ _. o.seen (omega arith) (rw e (bit_zero r)); seen = omega arith; near = o.near };
      }

  -- 13 with the task k taken threatens only that the task looked at is on the list
  pub keep_13_some : (k : ℕ) → (task_at s p).line ≡ 13 → bit (task_at s p).list k ≡ 1 → Keeps s p (with_line (with_looked (task_at s p) k) 14)
  keep_13_some k l e =
      record {
        no_less = omega arith;
        alone = record { old = λ _. mine.old (omega arith); tag = mine.tag; looked = λ _. e };
        beside = λ r hr ne. let o = i.inv.beside p r h hr in record { work = omega arith; seen = λ _. o.seen (omega arith); near = o.near };
      }

  -- 14 threatens Iq2 for the task that it takes off; Iq345 remedies
  pub keep_14 : (task_at s p).line ≡ 14 → (task_at s (task_at s p).looked).tag ≢ (task_at s p).old
      → Keeps s p (with_line (with_list (task_at s p) (without_of (task_at s p).list (task_at s p).looked)) 13)
  keep_14 l d =
      record {
        no_less = omega arith;
        alone = record { old = λ _. mine.old (omega arith); tag = mine.tag; looked = omega arith };
        beside = λ r hr ne.
            record { work = omega arith; seen = λ _. seen r hr (ℕ_discrete r (task_at s p).looked); near = (i.inv.beside p r h hr).near };
      }
    where
      seen : (r : ℕ) → r < s.n → Dec (r ≡ (task_at s p).looked) → bit (without_of (task_at s p).list (task_at s p).looked) r ≡ 0
          → (task_at s p).count ≤ (task_at s r).count
      seen r hr (yes e) z = le_of_suc-le-suc (lt_of_not-le (λ b. d (rw (← e) (behind_tag s i p r h hr (omega arith) b))))
      seen r hr (no ne) z = (i.inv.beside p r h hr).seen (omega arith) (sym (without_other (task_at s p).list (task_at s p).looked r ne) ∙ z)
