-- After each line of the tree barrier the tasks stand as the invariant says: one lemma for each line and choice, in the order of `by_line`.
-- The tasks are a function t of their numbers here; `Kept` puts the lists of tasks away.
use Rattle.std.specs.Prelude.{◌≡◌, refl, List, ◌≢◌, ◌⊎◌, ℕ, ◌+◌, ◌≤◌, ◌<◌}
use Rattle.std.proofs.Common.{sym, ap, subst, inl, inr, arith, eq-eqb, ne_eqb, le-leb}
use Rattle.std.proofs.Math.Decide.{ℕ_discrete}
use Rattle.bitset.specs.Set.{bit, without_of}
use Rattle.bitset.specs.SetLaws.{bit_zero, without_same, without_other}
use Rattle.parents.specs.Parents.{parent_of, IsTree, children_of}
use Rattle.parents.specs.ParentsLaws.{children_exactly}
use Rattle.lines.specs.declared.Task.{Task}
use Rattle.lines.specs.Setters.{with_line, with_list, with_looked, with_flag, with_left}
use Rattle.lines.specs.Common.{raised}
use Rattle.barrier.specs.Puts.{Puts, at_task}
use Rattle.tree.specs.Invariant.{Mid, Low, Top, Want, mid_or_top, top, low, Meets, want, Standing}
use Rattle.tree.proofs.Stands.{is_mid, all_top}

-- a Mid task met its parent's wish only if that was Mid or Top, and so it may become either
from_mid : {c : ℕ} {a b : Task} → Mid c a → Mid c b ⊎ Top c b → (w : Want) → Meets c a w → Meets c b w
from_mid m to mid_or_top h = to
from_mid m to top h = absurd (omega arith)
from_mid m to low h = absurd (omega arith)

-- a task at 14 looks at a task of its list
abbrev pub Looks : Task → Type 0
Looks t = t.line ≡ 14 → bit t.list t.looked ≡ 1

module _ {n : ℕ} {table : List ℕ} (tree : IsTree table n) (few : n ≤ 64) {c : ℕ} {t : ℕ → Task} (g : Standing n table c t) (p : ℕ) (known : p < n) where
  -- with b stored for p the tasks stand, d the root's count
  abbrev Becomes : ℕ → Task → Type 0
  Becomes d b = (t' : ℕ → Task) → Puts t p b t' → Standing n table d t'

  -- ---- a task is stored

  -- p may become b: it stays what its parent asks, and its child r is what b asks
  abbrev AsChild : Task → Type 0
  AsChild b = (w : Want) → Meets c (t p) w → Meets c b w

  abbrev AsParent : Task → ℕ → Type 0
  AsParent b r = bit (children_of table p) r ≡ 1 → Meets c (t r) (want c (t p) r) → Meets c (t r) (want c b r)

  keep_child : {b : Task} {t' : ℕ → Task} → Puts t p b t' → AsChild b → (r : ℕ) → AsParent b r → 0 < r → r < n
      → Meets c (t' r) (want c (t' (parent_of table r)) r)
  keep_child {b} {t'} s m r a pos h = at_task (λ x. Meets c x (want c (t' (parent_of table r)) r)) s r as_child (λ _. as_parent)
    where
      asked : Meets c (t r) (want c (t (parent_of table r)) r)
      asked = g.child r pos h

      as_child : r ≡ p → Meets c b (want c (t' (parent_of table r)) r)
      as_child e =
          rw (s.other (parent_of table r) (omega (arith, tree.lower r pos h)))
          (m (want c (t (parent_of table r)) r) (subst (λ (x : ℕ). Meets c (t x) (want c (t (parent_of table r)) r)) e asked))

      listed : parent_of table r ≡ p → bit (children_of table p) r ≡ 1
      listed e = (children_exactly table p r (omega (arith, tree.long))).1 (omega arith, omega (arith, tree.long), e)

      as_parent : Meets c (t r) (want c (t' (parent_of table r)) r)
      as_parent = at_task (λ x. Meets c (t r) (want c x r)) s (parent_of table r) (λ e. a (listed e) (rw e at asked)) (λ _. asked)

  keep : {b : Task} → (p ≡ 0 → Mid c b) → AsChild b → Looks b → ((r : ℕ) → AsParent b r) → Becomes c b
  keep z m l a t' s =
      record {
        root = at_task (Mid c) s 0 (λ e. z (sym e)) (λ _. g.root);
        looks = λ q h. at_task Looks s q (λ _. l) (λ _. g.looks q h);
        child = λ r. keep_child s m r (a r);
      }

  -- most lines take a Mid task to a Mid task
  keep_mid : {b : Task} → ((t p).line ≡ 16 → (t p).flag ≡ 0) → (Mid c (t p) → Mid c b) → Looks b → ((r : ℕ) → AsParent b r) → Becomes c b
  keep_mid f m l a = let mid = is_mid g p known f in keep (λ _. m mid) (from_mid mid (inl (m mid))) l a

  -- ---- the lines, each with the clause that it threatens

  -- 12 asks of a child what 11 does
  pub line_11 : (t p).line ≡ 11 → (to left : ℕ) → 11 ≤ to → to ≤ 12 → Becomes c (with_left (with_line (t p) to) left)
  line_11 e to left from most = keep_mid (omega arith) (omega arith) (omega arith) (λ r k m. rw (le-leb to 12 most) (rw e at m))

  -- Iq5: every child is on the list
  pub line_12 : (t p).line ≡ 12 → Becomes c (with_line (with_list (t p) (children_of table p)) 13)
  line_12 e = keep_mid (omega arith) (omega arith) (omega arith) (λ r k m. rw k (rw e at m))

  -- Iq3: with no child on the list every one is Top, by Iq5
  pub line_13_none : (t p).line ≡ 13 → (t p).list ≡ 0 → Becomes c (with_line (t p) 15)
  line_13_none e z = keep_mid (omega arith) (omega arith) (omega arith) (λ r k m. rw (e, z, bit_zero r) at m)

  -- the task looked at: any on the list may be taken
  pub line_13_some : (k : ℕ) → (t p).line ≡ 13 → bit (t p).list k ≡ 1 → Becomes c (with_line (with_looked (t p) k) 14)
  line_13_some k e on = keep_mid (omega arith) (omega arith) (λ _. on) (λ r _ m. rw e at m)

  -- Iq5: the child taken off has its flag up, so that it is Top
  pub line_14 : (t p).line ≡ 14 → (t (t p).looked).flag ≡ 1
      → Becomes c (with_line (with_list (t p) (without_of (t p).list (t p).looked)) 13)
  line_14 e up = keep_mid (omega arith) (omega arith) (omega arith) (λ r k m. off r m (ℕ_discrete r (t p).looked))
    where
      is_top : Mid c (t (t p).looked) ⊎ Top c (t (t p).looked) → Top c (t (t p).looked)
      is_top (inl m) = absurd (omega arith)
      is_top (inr h) = h

      off : (r : ℕ) → Meets c (t r) (want c (t p) r) → Dec (r ≡ (t p).looked)
          → Meets c (t r) (want c (with_line (with_list (t p) (without_of (t p).list (t p).looked)) 13) r)
      off r m (yes q) = rw (q, without_same (t p).list (t p).looked) (is_top (rw (e, q, g.looks p known e) at m))
      off r m (no ne) = rw (without_other (t p).list (t p).looked r ne) (rw e at m)

  -- Iq8, Jq1: all the others are Top, by Crit1 and Crit2, and Low for the root's count as this line raises it
  pub line_15_root : (t p).line ≡ 15 → p ≡ 0 → Becomes (c + 1) (with_line (raised (t p)) 16)
  line_15_root e z t' s =
      record {
        root = rw puts.same (omega (arith, g.root));
        looks = λ q h. omega (arith, passed q h);
        child = now_low;
      }
    where
      puts : Puts t 0 (with_line (raised (t 0)) 16) t'
      puts = rw z at s

      above : (r : ℕ) → 0 < r → r < n → Top c (t r)
      above r = all_top g tree (rw z at e) r r (omega arith)

      -- every task is at 16 with the new count
      passed : (q : ℕ) → q < n → ((t' q).line ≡ 16) × ((t' q).count ≡ c + 1)
      passed q h = at_task (λ x. (x.line ≡ 16) × (x.count ≡ c + 1)) puts q (λ _. omega (arith, g.root)) (λ ne. omega (arith, above q (omega arith) h))

      now_low : (r : ℕ) → 0 < r → r < n → Meets (c + 1) (t' r) (want (c + 1) (t' (parent_of table r)) r)
      now_low r pos h =
          let up = passed (parent_of table r) (omega (arith, tree.lower r pos h)) in
          rw (up.0, eq-eqb (t' (parent_of table r)).count (c + 1) up.1, puts.other r (omega arith)) (omega (arith, above r pos h))

  -- Iq2: every child is Top, by Iq3
  pub line_15_other : (t p).line ≡ 15 → p ≢ 0 → Becomes c (with_line (raised (with_flag (t p) 1)) 16)
  line_15_other e ne =
      let mid = is_mid g p known (omega arith) in
      keep (λ z. absurd (ne z)) (from_mid mid (inr (omega arith))) (omega arith)
      (λ r k m. rw (ne_eqb ((t p).count + 1) c (omega arith)) (rw e at m))

  -- Iq8: the task is Mid, so that every child is Low
  pub line_16 : (t p).line ≡ 16 → (p ≡ 0) ⊎ ((t p).flag ≡ 0) → Becomes c (with_line (t p) 17)
  line_16 e w =
      let mid = is_mid g p known (λ _. down w) in
      keep_mid (λ _. mid.flag) (omega arith) (omega arith) (λ r k m. rw (e, eq-eqb (t p).count c mid.count) at m)
    where
      down : (p ≡ 0) ⊎ ((t p).flag ≡ 0) → (t p).flag ≡ 0
      down (inl z) = rw z g.root.flag
      down (inr f) = f

  -- Iq7: every child is Low, by Iq8
  pub line_17 : (t p).line ≡ 17 → Becomes c (with_line (with_list (t p) (children_of table p)) 18)
  line_17 e = keep_mid (omega arith) (omega arith) (omega arith) (λ r k m. rw k (rw e at m))

  -- Jq2: with no child on the list none is Low, by Jq3
  pub line_18_none : (t p).line ≡ 18 → (t p).list ≡ 0 → Becomes c (with_line (t p) 11)
  line_18_none e z = keep_mid (omega arith) (omega arith) (omega arith) (λ r k m. rw (e, z, bit_zero r) at m)

  -- Iq7, Jq3: the child k taken off was Low and is Mid; any on the list may be taken. u is what the first of the two stores leaves
  pub line_18_some : {u t' : ℕ → Task} (k : ℕ) → (t p).line ≡ 18 → bit (t p).list k ≡ 1 → (0 < k) × (k < n) × (parent_of table k ≡ p)
      → Puts t p (with_list (t p) (without_of (t p).list k)) u → Puts u k (with_flag (u k) 0) t' → Standing n table c t'
  line_18_some {u} {t'} k e on is_child s s' =
      record {
        root = rw (s'.other 0 (omega arith)) (at_task (Mid c) s 0 (λ _. mid_b) (λ _. g.root));
        looks = λ q h. at_task Looks s' q (λ _. looks_u k is_child.1) (λ _. looks_u q h);
        child = λ r pos h. rw (same_want (parent_of table r) r)
            (at_task (λ x. Meets c x (want c (u (parent_of table r)) r)) s' r (cleared r) (λ ne. uncleared r ne pos h));
      }
    where
      b : Task
      b = with_list (t p) (without_of (t p).list k)

      mid : Mid c (t p)
      mid = is_mid g p known (omega arith)

      mid_b : Mid c b
      mid_b = omega (arith, mid)

      low_k : Low c (t k)
      low_k = rw (is_child.2, e, on) at (g.child k is_child.0 is_child.1)

      looks_u : (q : ℕ) → q < n → Looks (u q)
      looks_u q h = at_task Looks s q (λ _. omega arith) (λ _. g.looks q h)

      -- a flag says nothing of what a task asks
      same_want : (q r : ℕ) → want c (t' q) r ≡ want c (u q) r
      same_want q r = at_task (λ x. want c x r ≡ want c (u q) r) s' q (λ q≡k. rw q≡k) (λ _. refl)

      cleared : (r : ℕ) → r ≡ k → Meets c (with_flag (u k) 0) (want c (u (parent_of table r)) r)
      cleared r r≡k =
          let same = s.other k (omega (arith, tree.lower k is_child.0 is_child.1)) in
          rw (r≡k, is_child.2, s.same, e, without_same (t p).list k) (inl (omega (arith, low_k, ap (λ (x : Task). x.count) same)))

      uncleared : (r : ℕ) → r ≢ k → 0 < r → r < n → Meets c (u r) (want c (u (parent_of table r)) r)
      uncleared r ne = keep_child s (from_mid mid (inl mid_b)) r (λ _ m. rw (e, without_other (t p).list k r ne) (rw e at m))
