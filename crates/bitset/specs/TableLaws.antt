-- Laws of tables of values.
use Rattle.std.specs.Prelude.{◌≡◌, ◌≢◌, ◌⊎◌, length}
use Rattle.std.proofs.Math.Path.{refl, sym, ap}
use Rattle.std.proofs.Common.{◌∙◌, inl, inr, add-one, eq-or-lt_of_le, le_of_suc-le-suc, arith}
use mathlib.Core.List.{List, [], ◌∷◌, ◌++◌}
use Prim.Native.Nat.{ℕ, zero, suc, ◌+◌, ◌<◌}
use Rattle.std.proofs.Math.ListN.{get_or, set, length-append, get_or-append}
use Rattle.std.proofs.Math.Seq.{set-append_left, set_at}
use Rattle.std.proofs.lemmas.List.{get_or_at}
use Rattle.bitset.specs.Table.{table}

module _ {ℓ} {A : Type ℓ} where
  pub length_table : (n : ℕ) (f : ℕ → A) → length (table n f) ≡ n
  unfolding table
  length_table zero f = refl
  length_table (suc n) f = omega (arith, length-append (table n f) (f n ∷ []), length_table n f)

  pub table_at : (n : ℕ) (f : ℕ → A) (q : ℕ) (d : A) → q < n → get_or (table n f) q d ≡ f q
  unfolding table
  table_at zero f q d h = absurd (omega arith)
  table_at (suc n) f q d h = go (eq-or-lt_of_le (le_of_suc-le-suc h)) (table_at n f q d)
    where
      go : (q ≡ n) ⊎ (q < n) → (q < n → get_or (table n f) q d ≡ f q) → get_or (table n f ++ f n ∷ []) q d ≡ f q
      go (inl e) ih = rw e (get_or_at (table n f) (f n) [] d n (length_table n f))
      go (inr l) ih = get_or-append (table n f) (f n ∷ []) d q (rw (length_table n f) l) ∙ ih l

  -- two functions that agree below n have the same table
  pub table_same : (n : ℕ) (f g : ℕ → A) → ((q : ℕ) → q < n → f q ≡ g q) → table n f ≡ table n g
  unfolding table
  table_same zero f g h = refl
  table_same (suc n) f g h =
      ap (λ (l : List A). l ++ f n ∷ []) (table_same n f g (λ q l. h q (omega arith))) ∙ ap (λ (x : A). table n g ++ x ∷ []) (h n (omega arith))

  -- one value changed
  pub table_set : (n : ℕ) (f g : ℕ → A) (p : ℕ) → p < n → ((q : ℕ) → q ≢ p → g q ≡ f q) → set (table n f) p (g p) ≡ table n g
  unfolding table
  table_set zero f g p h o = absurd (omega arith)
  table_set (suc n) f g p h o = go (eq-or-lt_of_le (le_of_suc-le-suc h)) (λ l. table_set n f g p l o)
    where
      go : (p ≡ n) ⊎ (p < n) → (p < n → set (table n f) p (g p) ≡ table n g) → set (table n f ++ f n ∷ []) p (g p) ≡ table n g ++ g n ∷ []
      go (inl e) ih =
          rw (e, set_at (table n f) (f n) [] (g n) n (length_table n f))
          (ap (λ (l : List A). l ++ g n ∷ []) (table_same n f g (λ q l. sym (o q (omega arith)))))
      go (inr l) ih =
          set-append_left (table n f) (f n ∷ []) p (g p) (rw (length_table n f) l)
          ∙ ap (λ (xs : List A). xs ++ f n ∷ []) (ih l) ∙ ap (λ (x : A). table n g ++ x ∷ []) (sym (o n (omega arith)))

  -- no value
  pub table_none : (f : ℕ → A) → table 0 f ≡ []
  unfolding table
  table_none f = refl

  -- one value more
  pub table_more : (n : ℕ) (f : ℕ → A) → table (n + 1) f ≡ table n f ++ f n ∷ []
  unfolding table
  table_more n f = rw (add-one n)
