-- Laws of the shapes: what the highest power of two is, and that every shape is a table that the check accepts.
use Rattle.std.specs.Prelude.{◌≡◌, refl, Bool, true, false, List, [], ◌∷◌, ◌++◌, ◌⊎◌, ℕ, zero, suc, ◌+◌, ◌-◌, ◌*◌, ◌/◌, ◌%◌, ◌^◌, ◌≤◌, ◌<◌, eqb, length, get_or, set, drop}
use Rattle.std.proofs.Common.{sym, ap, ◌∙◌, inl, inr, pow-suc, mul_assoc, le_of_eq, le_of_lt, eq-or-lt_of_le, le_of_suc-le-suc, add-one, arith, length-append, pow_pos, drop-cons}
use Rattle.std.specs.Int.Count.{count_trailing_zeros, under}
use Rattle.std.proofs.Math.ListN.{get_or-append}
use Rattle.std.proofs.lemmas.List.{get_or_at, set_at}
use Rattle.std.proofs.Math.Seq.{append_snoc}
use borrow.Author.Tests.{eq-eqb, ne_eqb, le-leb, lt-leb}
use Rattle.bitset.specs.Choice.{pick}
use Rattle.bitset.specs.Tasks.{is_count}
use Rattle.parents.specs.Parents.{IsTree, check_of}
use Rattle.parents.specs.ParentsLaws.{accepts}
use Rattle.parents.specs.Shapes.{power_of, shape_parent, shape_table, shape_of, table_after}

-- a number is an odd multiple of 2 to its trailing zeros, so that is the highest power of two that divides it
pub power_highest : (w q : ℕ) → 0 < q → q < 2 ^ w → (d : ℕ) × (q ≡ (2 * d + 1) * 2 ^ count_trailing_zeros w q)
unfolding count_trailing_zeros
power_highest zero q p h = absurd (omega arith)
power_highest (suc w) q p h = go (q % 2) refl (λ pos. power_highest w (q / 2) pos (omega (arith, pow-suc 2 w)))
  where
    t : ℕ
    t = count_trailing_zeros w (q / 2)

    go : (b : ℕ) → q % 2 ≡ b → (0 < q / 2 → (d : ℕ) × (q / 2 ≡ (2 * d + 1) * 2 ^ t)) → (d : ℕ) × (q ≡ (2 * d + 1) * 2 ^ under b t)
    go zero e ih =
        let r = ih (omega arith) in
        let odd : ℕ = 2 * r.0 + 1 in
        (r.0, omega (arith, r.1, ap (λ (x : ℕ). odd * x) (pow-suc 2 t) ∙ sym (mul_assoc odd (2 ^ t) 2)))
    go (suc b) e ih = (q / 2, omega arith)

-- ---- the tables

pub shape_root : (shape : ℕ) → shape_parent shape 0 ≡ 0
shape_root shape = go (eqb shape 0) (eqb shape 1) (eqb shape 2)
  where
    go : (a b c : Bool) → pick a 0 (pick b 0 (pick c 0 (0 - power_of 0))) ≡ 0
    go true b c = refl
    go false true c = refl
    go false false true = refl
    go false false false = omega arith

pub shape_lower : (shape q : ℕ) → 0 < q → shape_parent shape q < q
shape_lower shape q h = go (eqb shape 0) (eqb shape 1) (eqb shape 2)
  where
    go : (a b c : Bool) → pick a 0 (pick b (q - 1) (pick c ((q - 1) / 2) (q - power_of q))) < q
    go true b c = h
    go false true c = omega arith
    go false false true = omega arith
    go false false false = omega (arith, pow_pos (count_trailing_zeros 64 q))

pub shape_le : (shape q : ℕ) → shape_parent shape q ≤ q
shape_le shape zero = le_of_eq (shape_root shape)
shape_le shape (suc q) = le_of_lt (shape_lower shape (suc q) (omega arith))

pub length_shape : (shape n : ℕ) → length (shape_table shape n) ≡ n
unfolding shape_table
length_shape shape zero = refl
length_shape shape (suc n) =
    omega (arith, length-append (shape_table shape n) (shape_parent shape n ∷ []), length_shape shape n)

shape_at : (shape n q : ℕ) → q < n → get_or (shape_table shape n) q 0 ≡ shape_parent shape q
unfolding shape_table
shape_at shape zero q h = absurd (omega arith)
shape_at shape (suc n) q h = go (eq-or-lt_of_le (le_of_suc-le-suc h)) (shape_at shape n q)
  where
    go : (q ≡ n) ⊎ (q < n) → (q < n → get_or (shape_table shape n) q 0 ≡ shape_parent shape q)
        → get_or (shape_table shape n ++ shape_parent shape n ∷ []) q 0 ≡ shape_parent shape q
    go (inl e) ih = rw e (get_or_at (shape_table shape n) (shape_parent shape n) [] 0 n (length_shape shape n))
    go (inr l) ih =
        get_or-append (shape_table shape n) (shape_parent shape n ∷ []) 0 q (rw (length_shape shape n) l) ∙ ih l

-- every shape is a tree, for one task or more
pub shape_tree : (shape n : ℕ) → 0 < n → IsTree (shape_table shape n) n
shape_tree shape n h =
    record {
      long = length_shape shape n;
      root = shape_at shape n 0 h ∙ shape_root shape;
      lower = λ q pos l. rw (shape_at shape n q l) (shape_lower shape q pos);
    }

pub shape_accepted : (shape n : ℕ) → 0 < n → check_of (shape_table shape n) n ≡ 0
shape_accepted shape n h = accepts (shape_table shape n) n (shape_tree shape n h)

-- ---- the call

-- one law for each answer
pub shape_unknown : (shape n room : ℕ) → 3 < shape → shape_of shape n room ≡ 2
unfolding shape_of
shape_unknown shape n room h = rw (lt-leb shape 3 h)

module _ (shape n room : ℕ) (known : shape ≤ 3) where
  pub shape_count : is_count n ≡ false → shape_of shape n room ≡ 3
  unfolding shape_of
  shape_count e = rw (le-leb shape 3 known, e)

  pub shape_short : is_count n ≡ true → room < n → shape_of shape n room ≡ 10
  unfolding shape_of
  shape_short e h = rw (le-leb shape 3 known, e, lt-leb n room h)

  pub shape_written : is_count n ≡ true → n ≤ room → shape_of shape n room ≡ 0
  unfolding shape_of
  shape_written e h = rw (le-leb shape 3 known, e, le-leb n room h)

-- what the call leaves in the table, by its answer
pub after_refused : (shape n k : ℕ) (table : List ℕ) → shape_of shape n (length table) ≡ suc k → table_after shape n table ≡ table
unfolding table_after
after_refused shape n k table e = rw (ne_eqb (shape_of shape n (length table)) 0 (omega arith))

pub after_written : (shape n : ℕ) (table : List ℕ) → shape_of shape n (length table) ≡ 0
    → table_after shape n table ≡ shape_table shape n ++ drop n table
unfolding table_after
after_written shape n table e = rw (eq-eqb (shape_of shape n (length table)) 0 e)

-- one more entry, at the end of those written
pub one_more : (shape q : ℕ) (table : List ℕ) → q < length table
    → set (shape_table shape q ++ drop q table) q (shape_parent shape q) ≡ shape_table shape (q + 1) ++ drop (q + 1) table
unfolding shape_table
one_more shape q table h =
    rw (add-one q, drop-cons table q 0 h, set_at (shape_table shape q) (get_or table q 0) (drop (suc q) table) (shape_parent shape q) q (length_shape shape q))
    (sym (append_snoc (shape_table shape q) (shape_parent shape q) (drop (suc q) table)))
