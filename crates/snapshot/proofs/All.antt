-- What `all` tells of a range or of the front of a list, by the definitions, which ask the last number last.
use Rattle.std.proofs.Common.{◌≡◌, refl, ap, ◌∙◌, List, [], ◌∷◌, ◌++◌, ℕ, zero, suc, ◌+◌, ◌≤◌, Bool, true, ◌&&◌, leb, length, take, get_or, add-one, arith}
use Rattle.std.specs.List.{range_with_len, list_all}
use Rattle.std.proofs.lemmas.List.Folds.{list_all-append, list_all_more}
use Rattle.snapshot.specs.Snapshot.{most_in, fit_from, task_place, tasks_fit}

range_more : (a n : ℕ) → range_with_len a (suc n) ≡ range_with_len a n ++ ((a + n) ∷ [])
range_more a zero = let z : a + 0 ≡ a = omega arith in rw z
range_more a (suc n) = let next : a + 1 + n ≡ a + suc n = omega arith in ap (λ (xs : List ℕ). a ∷ xs) (range_more (a + 1) n ∙ rw next)

-- a test of the numbers below n, with the last one last
all_more : (test : ℕ → Bool) (n : ℕ) → list_all test (range_with_len 0 (suc n)) ≡ (list_all test (range_with_len 0 n) && test n)
all_more test n =
    let z : 0 + n ≡ n = omega arith in
    ap (list_all test) (range_more 0 n) ∙ list_all-append test (range_with_len 0 n) ((0 + n) ∷ []) ∙ rw z (last (test n) (list_all test (range_with_len 0 n)))
  where
    last : (b a : Bool) → (a && (b && true)) ≡ (a && b)
    last b a = elim b as (λ v. (a && (v && true)) ≡ (a && v)) [ Bool.true ↦ refl | Bool.false ↦ refl ]

pub all_numbers : (list : List ℕ) (place : ℕ) (most : ℕ → ℕ) (n : ℕ)
    → list_all (λ k. leb (get_or list (place + k) 0) (most k)) (range_with_len 0 n) ≡ fit_from list place most n
unfolding fit_from
all_numbers list place most zero = refl
all_numbers list place most (suc n) = all_more (λ k. leb (get_or list (place + k) 0) (most k)) n ∙ rw (all_numbers list place most n)

pub all_tasks : (list : List ℕ) (n : ℕ) → list_all (λ q. fit_from list (task_place q) most_in 15) (range_with_len 0 n) ≡ tasks_fit list n
unfolding tasks_fit
all_tasks list zero = refl
all_tasks list (suc n) = all_more (λ q. fit_from list (task_place q) most_in 15) n ∙ rw (all_tasks list n)

pub all_bytes : (list : List ℕ) (n : ℕ) → n ≤ length list → list_all (λ x. leb x 255) (take n list) ≡ fit_from list 0 (λ _. 255) n
unfolding fit_from
all_bytes list zero h = refl
all_bytes list (suc n) h =
    let z : 0 + n ≡ n = omega arith in
    rw (← add-one n, list_all_more (λ x. leb x 255) list n 0 (omega arith), all_bytes list n (omega arith), z)
