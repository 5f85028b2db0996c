-- Laws of the tables: what the entries of one that is accepted are, and that numbers in place of the entries are answered alike.
use Rattle.std.specs.Prelude.{◌≡◌, Bool, true, false, ◌&&◌, eqb, leb, ltb, length, get_or, replicate}
use Rattle.std.proofs.Math.Path.{refl}
use Rattle.std.proofs.Common.{sym, ap, ◌∙◌, arith, ext_get_or, eq-eqb, ne_eqb, lt-ltb, ltb-true, le-leb, leb-true, eqb-true}
use Rattle.std.proofs.Math.Bool.{and-eq-true_iff, or-true}
use mathlib.Core.List.{List, [], ◌∷◌, map}
use Prim.Native.Nat.{ℕ, zero, suc, ◌≤◌, ◌<◌}
use Rattle.std.proofs.lemmas.List.{length-replicate, length-map}
use Rattle.std.proofs.Math.ListN.{get_or-map}
use Rattle.bitset.specs.Choice.{pick}
use Rattle.bitset.specs.ChoiceLaws.{by_test}
use Rattle.bitset.specs.TasksLaws.{StandIn}
use Rattle.parents.specs.Parents.{check_of}
use Rattle.parents.specs.ParentsLaws.{accepted, entries_below, check_alike}
use Rattle.setup.specs.Tables.{is_within, all_within, all_zero, parents_reason, starts_reason, is_work, all_work, works_reason, work_of}

-- ---- the entries of a table

module _ (low bound : ℕ) where
  pub within : (x : ℕ) → is_within low bound x ≡ true → (low ≤ x) × (x < bound)
  within x e = let both = (and-eq-true_iff (leb low x) (ltb x bound)).0 e in (leb-true low x both.0, ltb-true x bound both.1)

  pub is_within_lem : (x : ℕ) → low ≤ x → x < bound → is_within low bound x ≡ true
  is_within_lem x l h = rw (le-leb low x l, lt-ltb x bound h)

  -- an entry is within the bounds where all are, and past the table whatever stands there is
  within_at : (xs : List ℕ) (q d : ℕ) → is_within low bound d ≡ true → all_within low bound xs ≡ true → is_within low bound (get_or xs q d) ≡ true
  unfolding all_within
  within_at [] q d past e = past
  within_at (x ∷ xs) zero d past e = ((and-eq-true_iff (is_within low bound x) (all_within low bound xs)).0 e).0
  within_at (x ∷ xs) (suc q) d past e = within_at xs q d past ((and-eq-true_iff (is_within low bound x) (all_within low bound xs)).0 e).1

  -- equal entries within the bounds
  within_equal : (n x : ℕ) → is_within low bound x ≡ true → all_within low bound (replicate n x) ≡ true
  unfolding all_within
  within_equal zero x e = refl
  within_equal (suc n) x e = rw (e, within_equal n x e)

  -- numbers in place of the entries, within the bounds if those are
  within_alike : (f : ℕ → ℕ) → ((x : ℕ) → is_within low bound (f x) ≡ is_within low bound x) → (xs : List ℕ) → all_within low bound (map f xs) ≡ all_within low bound xs
  unfolding all_within
  within_alike f alike [] = refl
  within_alike f alike (x ∷ xs) = rw (alike x, within_alike f alike xs)

  -- and the same as those, where they are within
  within_same : (f : ℕ → ℕ) → ((x : ℕ) → is_within low bound x ≡ true → f x ≡ x) → (xs : List ℕ) → all_within low bound xs ≡ true → map f xs ≡ xs
  unfolding all_within
  within_same f same [] e = refl
  within_same f same (x ∷ xs) e =
      let both = (and-eq-true_iff (is_within low bound x) (all_within low bound xs)).0 e in
      rw (same x both.0, within_same f same xs both.1)

pub all_zeros : (n : ℕ) → all_zero (replicate n 0) ≡ true
all_zeros n = within_equal 0 1 n 0 refl

-- ---- a table that is accepted

-- parents are no more than 64
pub parents_fit : (kind n : ℕ) (parents : List ℕ) → n ≤ 64 → parents_reason kind n parents ≡ 0 → length parents ≤ 64
parents_fit kind n parents few = go (eqb kind 3) (eqb (length parents) 0) refl
  where
    go : (b z : Bool) → eqb (length parents) 0 ≡ z → pick b (check_of parents n) (pick z 0 5) ≡ 0 → length parents ≤ 64
    go true z ez e = omega (arith, (accepted parents n e).long)
    go false true ez e = omega (arith, eqb-true (length parents) 0 ez)
    go false false ez e = absurd (omega arith)

-- and tasks
pub parents_below : (kind n : ℕ) (parents : List ℕ) (q : ℕ) → 1 ≤ n → parents_reason kind n parents ≡ 0 → q < length parents → get_or parents q 0 < n
parents_below kind n parents q some e l =
    by_test (λ r. r ≡ 0 → get_or parents q 0 < n) (eqb kind 3) (λ _ t. entries_below parents n q t l)
    (λ _ t. absurd (omega (arith, rw (ne_eqb (length parents) 0 (λ z. omega arith)) at t))) e

-- another kind than the tree has none
pub no_parents : (kind n : ℕ) (parents : List ℕ) → eqb kind 3 ≡ false → parents_reason kind n parents ≡ 0 → parents ≡ []
no_parents kind n [] other e = refl
no_parents kind n (x ∷ xs) other e = absurd (omega (arith, rw (other, ne_eqb (length (x ∷ xs)) 0 (λ z. absurd (omega arith))) at e))

-- a start table that is given and accepted is the symmetric kind's, and its entries are tasks
pub starts_given : (kind n x : ℕ) (xs : List ℕ) → starts_reason kind n (x ∷ xs) ≡ 0 → (eqb kind 0 ≡ true) × (all_within 0 n (x ∷ xs) ≡ true)
starts_given kind n x xs e =
    by_test (λ r. r ≡ 0 → (eqb kind 0 ≡ true) × (all_within 0 n (x ∷ xs) ≡ true)) (eqb kind 0 && eqb (length (x ∷ xs)) n && all_within 0 n (x ∷ xs))
    (λ ok _.
    let all = (and-eq-true_iff (eqb kind 0 && eqb (length (x ∷ xs)) n) (all_within 0 n (x ∷ xs))).0 ok in
    (((and-eq-true_iff (eqb kind 0) (eqb (length (x ∷ xs)) n)).0 all.0).0, all.1))
    (λ _ z. absurd (omega arith))
    (rw (ne_eqb (length (x ∷ xs)) 0 (λ z. absurd (omega arith))) at e)

pub starts_below : (kind n : ℕ) (starts : List ℕ) (q : ℕ) → 1 ≤ n → starts_reason kind n starts ≡ 0 → get_or starts q 0 < n
starts_below kind n [] q some e = some
starts_below kind n (x ∷ xs) q some e =
    (within 0 n (get_or (x ∷ xs) q 0) (within_at 0 n (x ∷ xs) q 0 (is_within_lem 0 n 0 (omega arith) some) (starts_given kind n x xs e).1)).1

-- the entries of an accepted work table are work lengths
works_given : (n : ℕ) (works : List ℕ) → works_reason n works ≡ 0 → all_work works ≡ true
unfolding all_within
works_given n [] e = refl
works_given n (x ∷ xs) e =
    by_test (λ r. r ≡ 0 → all_work (x ∷ xs) ≡ true) (eqb (length (x ∷ xs)) n && all_work (x ∷ xs))
    (λ ok _. ((and-eq-true_iff (eqb (length (x ∷ xs)) n) (all_work (x ∷ xs))).0 ok).1)
    (λ _ z. absurd (omega arith))
    (rw (ne_eqb (length (x ∷ xs)) 0 (λ z. absurd (omega arith))) at e)

-- so each task has 1 or more, and as a byte at most 255
pub work_at : (n : ℕ) (works : List ℕ) (q : ℕ) → works_reason n works ≡ 0 → (1 ≤ work_of works q) × (work_of works q ≤ 255)
work_at n works q e =
    let mine = within 1 256 (work_of works q) (within_at 1 256 works q 1 refl (works_given n works e)) in
    (mine.0, omega (arith, mine.1))

-- 02, P6: "with no table all are 1": a table of ones is accepted, as none is
pub ones_reason : (n : ℕ) → works_reason n (replicate n 1) ≡ 0
ones_reason n = rw (length-replicate {A = ℕ} n 1, eq-eqb n n refl, within_equal 1 256 n 1 refl, or-true (eqb n 0))

-- ---- numbers in place of the entries

-- of tasks
module _ (f : ℕ → ℕ) (alike : StandIn f) (kind n : ℕ) (few : n ≤ 64) where
  pub parents_alike : (parents : List ℕ) → parents_reason kind n (map f parents) ≡ parents_reason kind n parents
  parents_alike parents =
      rw (check_alike f n alike.zeros (λ x q h. alike.below x q (omega arith)) parents (alike.same 0 (omega arith)), length-map parents f)

  pub starts_alike : (starts : List ℕ) → starts_reason kind n (map f starts) ≡ starts_reason kind n starts
  starts_alike starts = rw (length-map starts f, within_alike 0 n f tasks starts)
    where
      tasks : (x : ℕ) → is_within 0 n (f x) ≡ is_within 0 n x
      tasks x = rw (le-leb 0 (f x) (omega arith), le-leb 0 x (omega arith), alike.below x n few)

  same_list : (xs : List ℕ) → ((q : ℕ) → q < length xs → get_or xs q 0 < n) → map f xs ≡ xs
  same_list xs h =
      ext_get_or 0 (map f xs) xs (length-map xs f)
      (λ q l. ap (get_or (map f xs) q) (sym (alike.same 0 (omega arith))) ∙ get_or-map f xs q 0 ∙ alike.same (get_or xs q 0) (omega (arith, h q (rw length-map at l))))

  -- those of a table that is accepted are the same
  pub parents_own : (parents : List ℕ) → 1 ≤ n → parents_reason kind n parents ≡ 0 → map f parents ≡ parents
  parents_own parents some e = same_list parents (λ q l. parents_below kind n parents q some e l)

  pub starts_own : (starts : List ℕ) → 1 ≤ n → starts_reason kind n starts ≡ 0 → map f starts ≡ starts
  starts_own starts some e = same_list starts (λ q _. starts_below kind n starts q some e)

-- of work lengths: a number that is one stands for itself, and one that is none for none
module _ (f : ℕ → ℕ) (n : ℕ) where
  pub works_alike : ((x : ℕ) → is_work (f x) ≡ is_work x) → (works : List ℕ) → works_reason n (map f works) ≡ works_reason n works
  works_alike alike works = rw (length-map works f, within_alike 1 256 f alike works)

  pub works_own : ((x : ℕ) → is_work x ≡ true → f x ≡ x) → (works : List ℕ) → works_reason n works ≡ 0 → map f works ≡ works
  works_own same works e = within_same 1 256 f same works (works_given n works e)
