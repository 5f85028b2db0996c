-- What a check answers, by the number of the first reason that applies: 0 where none does.
use Rattle.std.specs.Prelude.{◌≡◌, ℕ, zero, suc, ◌<◌, ◌≢◌, eqb, true, false, Result, Ok, Err, is_err}
use Rattle.std.proofs.Common.{refl, sym, ap, ◌∙◌, arith, ne_eqb}

abbrev pub checked : ℕ → Result Unit ℕ
checked zero = Ok tt
checked (suc k) = Err (suc k)

-- what a call answers that has a value where nothing is refused
abbrev pub answered : {A : Type 0} → A → ℕ → Result A ℕ
answered a zero = Ok a
answered a (suc k) = Err (suc k)

-- a call's answer without its value
abbrev pub unit_of : {A E : Type 0} → Result A E → Result Unit E
unit_of (Ok a) = Ok tt
unit_of (Err k) = Err k

pub checked_ok : {u : Unit} (k : ℕ) → checked k ≡ Ok u → k ≡ 0
checked_ok zero e = refl
checked_ok (suc k) e = cc

-- the reason that refused, which is none of number 0
pub checked_err : {e : ℕ} (k : ℕ) → checked k ≡ Err e → k ≡ e
checked_err zero p = cc
checked_err (suc k) p = cc

pub checked_positive : {e : ℕ} (k : ℕ) → checked k ≡ Err e → 0 < e
checked_positive {e = e} zero p = cc
checked_positive {e = e} (suc k) p = let q : suc k ≡ e = cc in omega arith

pub checked_refused : {e : ℕ} (k : ℕ) → checked k ≡ Err e → eqb k 0 ≡ false
checked_refused k p = ne_eqb k 0 (λ z. let some = checked_positive k p in let same = checked_err k p in omega arith)

-- by an answer that has a value, which was accepted, or was refused for the number that it has
pub told_ok : {A : Type 0} {r : Result A ℕ} {a : A} (k : ℕ) → unit_of r ≡ checked k → r ≡ Ok a → k ≡ 0
told_ok k e is = checked_ok k (sym e ∙ ap unit_of is)

pub told_err : {A : Type 0} {r : Result A ℕ} {n : ℕ} (k : ℕ) → unit_of r ≡ checked k → r ≡ Err n → k ≡ n
told_err k e is = checked_err k (sym e ∙ ap unit_of is)

pub told_some : {A : Type 0} {r : Result A ℕ} {n : ℕ} (k : ℕ) → unit_of r ≡ checked k → r ≡ Err n → n ≢ 0
told_some k e is = λ z. let some = checked_positive k (sym e ∙ ap unit_of is) in absurd (omega arith)

pub told_refused : {A : Type 0} {r : Result A ℕ} {n : ℕ} (k : ℕ) → unit_of r ≡ checked k → r ≡ Err n → eqb k 0 ≡ false
told_refused k e is = ne_eqb k 0 (λ z. let some = checked_positive k (sym e ∙ ap unit_of is) in let same = told_err k e is in omega arith)

-- and by whether it was refused
pub checked_fine : (k : ℕ) → is_err (checked k) ≡ false → k ≡ 0
checked_fine zero e = refl
checked_fine (suc k) e = cc

pub checked_bad : (k : ℕ) → is_err (checked k) ≡ true → eqb k 0 ≡ false
checked_bad zero e = cc
checked_bad (suc k) e = ne_eqb (suc k) 0 (λ z. absurd (omega arith))

-- an answer that has a value
pub answered_ok : {A : Type 0} {a b : A} (k : ℕ) → answered a k ≡ Ok b → (k ≡ 0) × (a ≡ b)
answered_ok zero e = (refl, cc)
answered_ok (suc k) e = cc

pub answered_err : {A : Type 0} {n : ℕ} (a : A) (k : ℕ) → answered a k ≡ Err n → (k ≡ n) × (k ≢ 0)
answered_err a zero e = cc
answered_err a (suc k) e = (cc, λ z. absurd (omega arith))
