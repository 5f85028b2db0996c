-- Arrays that `array::from_fn` makes by a closure that changes nothing: what the calls ask, and the table that they give.
use Rattle.std.proofs.Common.{◌≡◌, refl, sym, ◌∙◌, subst, inl, inr, eq-or-lt_of_le, List, ◌⊎◌, ℕ, zero, suc, ◌+◌, ◌≤◌, ◌<◌, get_or, ext_get_or, arith}
use Rattle.std.specs.Fn.{Called}
use Rattle.std.specs.Iterator.{CallableAtEachTurn}
use Rattle.std.specs.Array.{index_steps, IsFromFnResult, IsFromFnResultFrom, IsMapOf}
use Rattle.std.proofs.lemmas.Fn.{serves_by}
use denote.Param.Members.{Mut}
use Rattle.bitset.specs.Table.{table}
use Rattle.bitset.specs.TableLaws.{length_table, table_at}

-- it may be called at each index, if it may be called as it is at each number below n
pub callable_below : {F : Type 0} {R : F → ℕ → F → Type 0} {Q : F → ℕ → Type 0} {f : F} (n : ℕ)
    → ((x : ℕ) (q : F) → R f x q → q ≡ f) → ((x : ℕ) → x < n → Q f x) → CallableAtEachTurn (index_steps n) R Q 0 f
callable_below {F} {R} {Q} {f} n same may =
    let J : List ℕ → F → Type 0 = λ _ q. q ≡ f in
    serves_by R J (λ xs q x v e r. same x v (subst (λ (p : F). R p x v) e r)) (index_steps n) Q 0 f refl
    (λ xs t q x u y s e. subst (λ (p : F). Q p x) (sym e) (may x (omega (arith, s))))

module _ {F B : Type 0} {g : Mut F (ℕ × Unit {0}) B} {f : F} (h : ℕ → B) (gives : (x : ℕ) (y : B) (q : F) → Called g f (x, tt) y q → (q ≡ f) × (y ≡ h x)) where
  each : (ys : List B) (d : B) (n i : ℕ) → IsFromFnResultFrom g f ys i n → (k : ℕ) → i ≤ k → k < i + n → get_or ys k d ≡ h k
  each ys d zero i e k low high = absurd (omega arith)
  each ys d (suc n) i (q, y, here, call, rest) k low high =
      go (eq-or-lt_of_le low) (each ys d n (i + 1) (subst (λ (p : F). IsFromFnResultFrom g p ys (i + 1) n) (gives i y q call).0 rest) k)
    where
      go : (i ≡ k) ⊎ (i < k) → (i + 1 ≤ k → k < i + 1 + n → get_or ys k d ≡ h k) → get_or ys k d ≡ h k
      go (inl e) ih = subst (λ (j : ℕ). get_or ys j d ≡ h j) e (here.1 d ∙ (gives i y q call).1)
      go (inr l) ih = ih (omega arith) (omega arith)

  pub table_from : {ys : List B} {n : ℕ} → B → IsFromFnResult g f ys n → ys ≡ table n h
  table_from {ys} {n} d made =
      ext_get_or d ys (table n h) (made.long ∙ sym (length_table n h))
      (λ i l. let here : i < n = omega (arith, made.long) in each ys d n 0 made.each i (omega arith) (omega arith) ∙ sym (table_at n h i d here))

-- the table that `map` of an array gives by a function
pub table_mapped : {F : Type 0} {g : Mut F (ℕ × Unit {0}) ℕ} {f : F} (h : ℕ → ℕ) (gives : (p q : F) (x y : ℕ) → Called g p (x, tt) y q → y ≡ h x)
    → {xs ys : List ℕ} {n : ℕ} → IsMapOf g f xs ys n → ys ≡ table n (λ q. h (get_or xs q 0))
table_mapped h gives {xs} {ys} {n} made =
    ext_get_or 0 ys (table n (λ q. h (get_or xs q 0))) (made.long ∙ sym (length_table n (λ q. h (get_or xs q 0))))
    (λ i l. let here : i < n = omega (arith, made.long) in
    let call = made.at i 0 0 here in
    gives call.0 call.1 (get_or xs i 0) (get_or ys i 0) call.2 ∙ sym (table_at n (λ q. h (get_or xs q 0)) i 0 here))
