-- A fresh state has the invariant of the tree barrier, and every move keeps it.
use Rattle.std.specs.Prelude.{◌≡◌, ℕ, ◌+◌, ◌≤◌, ◌<◌}
use Rattle.std.proofs.Common.{inl, arith, lt-length-set}
use Rattle.bitset.specs.Set.{bit, without_of}
use Rattle.parents.specs.Parents.{parent_of, IsTree}
use Rattle.lines.specs.declared.Task.{Task}
use Rattle.lines.specs.declared.Write.TheVariants.{Flag}
use Rattle.lines.specs.Setters.{with_list}
use Rattle.machine.specs.declared.State.{State}
use Rattle.machine.specs.Setters.{task_at, with_task}
use Rattle.machine.specs.Fresh.{Inputs, fresh_reason, fresh_task, fresh_state}
use Rattle.machine.specs.Range.{table_of}
use Rattle.machine.specs.Turn.{written}
use Rattle.machine.proofs.TurnLaws.{put_same, put_other}
use Rattle.machine.specs.RangeLaws.{range, present}
use Rattle.machine.specs.FreshLaws.{accepted_inputs, fresh_valid, fresh_at}
use Rattle.barrier.specs.View.{view_of}
use Rattle.barrier.specs.Barrier.{Able, moved, Holds}
use Rattle.barrier.specs.Puts.{Puts, stored}
use Rattle.tree.specs.Invariant.{Standing, Inv}
use Rattle.tree.proofs.TreeRange.{is_tree, list_child}
use Rattle.tree.proofs.Lines.{by_line}
use Rattle.tree.proofs.Steps.{line_11, line_12, line_13_none, line_13_some, line_14, line_15_root, line_15_other, line_16, line_17, line_18_none, line_18_some}

-- every task at 11, with its flag down and count 0
pub fresh : (i : Inputs) → fresh_reason i ≡ 0 → i.kind ≡ 3 → Inv (view_of (fresh_state i))
fresh i e k =
    record {
      round = 0;
      standing = record {
        root = rw (at 0 (accepted_inputs i e).some) (omega arith);
        looks = λ q h. rw (at q h) (omega arith);
        child = λ r pos h. rw (at (parent_of (table_of (fresh_state i)) r) (omega (arith, tree.lower r pos h)), at r h) (inl (omega arith));
      };
    }
  where
    tree : IsTree (table_of (fresh_state i)) i.n
    tree = is_tree (fresh_state i) (fresh_valid i e) k

    at : (q : ℕ) → q < i.n → task_at (fresh_state i) q ≡ fresh_task i q
    at q h = fresh_at i.n q (fresh_task i) h

pub keeps : (s : State) (p : ℕ) → Holds 3 Inv s → Able s p → Inv (view_of (moved s p))
keeps s p i able =
    by_line (λ e. Inv (view_of (written e.write (with_task s p e.task)))) s p i.valid i.kind able
    (λ l to left from most. now c (line_11 tree few g p known l to left from most))
    (λ l. now c (line_12 tree few g p known l))
    (λ l z. now c (line_13_none tree few g p known l z))
    (λ k l on. now c (line_13_some tree few g p known k l on))
    (λ l up. now c (line_14 tree few g p known l up))
    (λ l z. now (c + 1) (line_15_root tree few g p known l z))
    (λ l ne. now c (line_15_other tree few g p known l ne))
    (λ l w. now c (line_16 tree few g p known l w))
    (λ l. now c (line_17 tree few g p known l))
    (λ l z. now c (line_18_none tree few g p known l z))
    clears
  where
    tree : IsTree (table_of s) s.n
    tree = is_tree s i.valid i.kind

    few : s.n ≤ 64
    few = (range s i.valid).few

    c : ℕ
    c = i.inv.round

    g : Standing s.n (table_of s) c (task_at s)
    g = i.inv.standing

    known : p < s.n
    known = able.0

    now : (d : ℕ) {b : Task} → ((t' : ℕ → Task) → Puts (task_at s) p b t' → Standing s.n (table_of s) d t') → Inv (view_of (with_task s p b))
    now d {b} f = record { round = d; standing = f (task_at (with_task s p b)) (stored s p b i.valid known) }

    -- 18 stores twice: the own task, then the flag of the child k
    clears : (k : ℕ) → (task_at s p).line ≡ 18 → bit (task_at s p).list k ≡ 1
        → Inv (view_of (written (Flag k 0) (with_task s p (with_list (task_at s p) (without_of (task_at s p).list k)))))
    clears k l on =
        let b = with_list (task_at s p) (without_of (task_at s p).list k) in
        let child = list_child s i.valid i.kind p known k on in
        let there = present s k ((range s i.valid).tasks k child.1).line_from in
        record {
          round = c;
          standing = line_18_some tree few g p known k l on child (stored s p b i.valid known)
              (record { same = put_same (with_task s p b) k _ (lt-length-set s.tasks p b there); other = λ q ne. put_other (with_task s p b) k q _ ne });
        }
