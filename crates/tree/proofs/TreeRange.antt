-- What the range of a state says of a tree: of its table and its lists.
use Rattle.std.specs.Prelude.{◌≡◌, true, ◌≢◌, ℕ, ◌≤◌, ◌<◌}
use Rattle.std.proofs.Math.Bool.{and-eq-true_iff}
use Rattle.std.proofs.Common.{arith, eqb-true}
use Rattle.bitset.specs.Set.{bit, least_of, within_of, size_of}
use Rattle.bitset.specs.SetLaws.{bit_le, within_bit, within_lt, least_of_list, within_size}
use Rattle.parents.specs.Parents.{IsTree, parent_of, children_of}
use Rattle.parents.specs.ParentsLaws.{accepted, children_exactly}
use Rattle.machine.specs.declared.State.{State}
use Rattle.machine.specs.Setters.{task_at}
use Rattle.machine.specs.Range.{table_of, Valid}
use Rattle.machine.specs.RangeLaws.{range}

module _ (s : State) (ok : Valid s) (kind : s.kind ≡ 3) where
  pub is_tree : IsTree (table_of s) s.n
  is_tree = accepted (table_of s) s.n (eqb-true _ 0 ((and-eq-true_iff _ _).0 (rw kind at (range s ok).parents)).0)

  module _ (p : ℕ) (known : p < s.n) where
    -- Iq4: the list is within the children
    within : within_of (task_at s p).list (children_of (table_of s) p) ≡ true
    within = rw kind at ((range s ok).tasks p known).list

    pub list_child : (r : ℕ) → bit (task_at s p).list r ≡ 1 → (0 < r) × (r < s.n) × (parent_of (table_of s) r ≡ p)
    list_child r e =
        let long = is_tree.long in
        let few = (range s ok).few in
        let child : bit (children_of (table_of s) p) r ≡ 1
        = omega (arith, within_bit 64 (task_at s p).list (children_of (table_of s) p) r within, bit_le (children_of (table_of s) p) r) in
        let k = (children_exactly (table_of s) p r (omega arith)).0 child in
        (omega (arith, k.0), omega (arith, k.1), k.2)

    -- all that is used of the choice at 13 and 18: it is a task of the list
    pub chosen : (task_at s p).list ≢ 0 → bit (task_at s p).list (least_of (task_at s p).list) ≡ 1
    chosen ne = (least_of_list (task_at s p).list (omega arith) (within_lt 64 (task_at s p).list (children_of (table_of s) p) within)).0

    pub list_size : size_of (task_at s p).list ≤ size_of (children_of (table_of s) p)
    list_size = within_size 64 (task_at s p).list (children_of (table_of s) p) within
