-- Laws of a state as numbers: what fits, and how the numbers are written one after the other.
use Rattle.std.specs.Prelude.{◌≡◌, refl, true, false, ◌&&◌, List, [], ◌++◌, ◌⊎◌, ℕ, zero, suc, ◌+◌, ◌*◌, ◌≤◌, ◌<◌, leb, length, get_or, take, drop}
use Rattle.std.proofs.Common.{sym, ap, ◌∙◌, append-nil, append_assoc, inl, inr, add-one, eq-or-lt_of_le, le_of_suc-le-suc, arith, length-append, length-drop, take-append-drop, take_at, length-take-le, drop-drop, le-leb, leb-true}
use Rattle.std.proofs.Math.Bool.{and-eq-true_iff}
use Rattle.std.proofs.Math.Seq.{paste, take-length, drop-append-add}
use Rattle.std.proofs.lemmas.Bool.{lt-leb}
use Rattle.bitset.specs.TableLaws.{length_table}
use Rattle.machine.specs.declared.State.{State}
use Rattle.machine.specs.Setters.{task_at, moves_at, waits_at}
use Rattle.machine.specs.Fresh.{zero_state}
use Rattle.snapshot.specs.Snapshot.{task_numbers, tasks_numbers, head_numbers, parent_numbers, numbers_of, size, task_place, state_from, most_in, fit_from, tasks_fit, fits, load_of}

-- ---- what fits

pub fit_none : (list : List ℕ) (place : ℕ) (most : ℕ → ℕ) → fit_from list place most 0 ≡ true
unfolding fit_from
fit_none list place most = refl

pub fit_more : (list : List ℕ) (place : ℕ) (most : ℕ → ℕ) (k : ℕ)
    → fit_from list place most (k + 1) ≡ (fit_from list place most k && leb (get_or list (place + k) 0) (most k))
unfolding fit_from
fit_more list place most k = rw (add-one k)

pub fit_at : (list : List ℕ) (place : ℕ) (most : ℕ → ℕ) (m : ℕ) → fit_from list place most m ≡ true
    → (k : ℕ) → k < m → get_or list (place + k) 0 ≤ most k
unfolding fit_from
fit_at list place most zero e k h = absurd (omega arith)
fit_at list place most (suc m) e k h =
    let both = (and-eq-true_iff (fit_from list place most m) (leb (get_or list (place + m) 0) (most m))).0 e in
    go (leb-true (get_or list (place + m) 0) (most m) both.1) (fit_at list place most m both.0 k) (eq-or-lt_of_le (le_of_suc-le-suc h))
  where
    go : get_or list (place + m) 0 ≤ most m → (k < m → get_or list (place + k) 0 ≤ most k) → (k ≡ m) ⊎ (k < m) → get_or list (place + k) 0 ≤ most k
    go last ih (inl s) = rw s last
    go last ih (inr l) = ih l

pub tasks_none : (list : List ℕ) → tasks_fit list 0 ≡ true
unfolding tasks_fit
tasks_none list = refl

pub tasks_more : (list : List ℕ) (q : ℕ) → tasks_fit list (q + 1) ≡ (tasks_fit list q && fit_from list (task_place q) most_in 15)
unfolding tasks_fit
tasks_more list q = rw (add-one q)

pub tasks_at : (list : List ℕ) (m : ℕ) → tasks_fit list m ≡ true → (q : ℕ) → q < m → fit_from list (task_place q) most_in 15 ≡ true
unfolding tasks_fit
tasks_at list zero e q h = absurd (omega arith)
tasks_at list (suc m) e q h =
    let both = (and-eq-true_iff (tasks_fit list m) (fit_from list (task_place m) most_in 15)).0 e in
    go both.1 (tasks_at list m both.0 q) (eq-or-lt_of_le (le_of_suc-le-suc h))
  where
    go : fit_from list (task_place m) most_in 15 ≡ true → (q < m → fit_from list (task_place q) most_in 15 ≡ true) → (q ≡ m) ⊎ (q < m)
        → fit_from list (task_place q) most_in 15 ≡ true
    go last ih (inl s) = rw s last
    go last ih (inr l) = ih l

-- ---- numbers written one after the other

pub numbers_none : (s : State) → tasks_numbers s 0 ≡ []
unfolding tasks_numbers
numbers_none s = refl

pub numbers_more : (s : State) (q : ℕ) → tasks_numbers s (q + 1) ≡ tasks_numbers s q ++ task_numbers (task_at s q) (moves_at s q) (waits_at s q)
unfolding tasks_numbers
numbers_more s q = rw (add-one q)

pub length_numbers : (s : State) (m : ℕ) → length (tasks_numbers s m) ≡ 15 * m
unfolding tasks_numbers
length_numbers s zero = refl
length_numbers s (suc q) =
    omega (arith, length-append (tasks_numbers s q) (task_numbers (task_at s q) (moves_at s q) (waits_at s q)), length_numbers s q)

-- what is written after xs, in a list whose first numbers are xs
pub paste_front : (xs ys list : List ℕ) (m : ℕ) → length xs ≡ m → paste (xs ++ drop m list) m ys (length ys) ≡ (xs ++ ys) ++ drop (m + length ys) list
paste_front xs ys list m long =
    rw (take_at xs (drop m list) m long, take-length ys, ← long, drop-append-add xs (drop (length xs) list) (length ys), drop-drop (length ys) (length xs) list)

-- the list once the numbers of the tasks below q are written to it
abbrev pub filled : State → List ℕ → ℕ → List ℕ
filled s list q = (take 69 list ++ tasks_numbers s q) ++ drop (69 + 15 * q) list

module _ (s : State) (list : List ℕ) (room : size ≤ length list) where
  front : (q : ℕ) → length (take 69 list ++ tasks_numbers s q) ≡ 69 + 15 * q
  front q = omega (arith, length-append (take 69 list) (tasks_numbers s q), length_numbers s q, length-take-le 69 list (omega arith))

  pub filled_none : list ≡ filled s list 0
  filled_none = rw (numbers_none s, append-nil (take 69 list)) (sym (take-append-drop 69 list))

  pub filled_length : (q : ℕ) → q ≤ 64 → length (filled s list q) ≡ length list
  filled_length q h =
      omega (arith, length-append (take 69 list ++ tasks_numbers s q) (drop (69 + 15 * q) list), front q, length-drop (69 + 15 * q) list)

  pub filled_more : (q : ℕ) → (let numbers = task_numbers (task_at s q) (moves_at s q) (waits_at s q) in
      paste (filled s list q) (69 + 15 * q) numbers (length numbers) ≡ filled s list (q + 1))
  filled_more q =
      let numbers = task_numbers (task_at s q) (moves_at s q) (waits_at s q) in
      let past : 69 + 15 * q + 15 ≡ 69 + 15 * (q + 1) = omega arith in
      paste_front (take 69 list ++ tasks_numbers s q) numbers list (69 + 15 * q) (front q)
      ∙ rw (numbers_more s q, ← past, append_assoc (take 69 list) (tasks_numbers s q) numbers)

-- ---- a state's numbers, in the three parts in which they are written

module _ (s : State) (list : List ℕ) where
  -- the list with the state's own numbers written to it, and then the parents
  abbrev pub headed : List ℕ
  headed = head_numbers s ++ drop 5 list

  abbrev pub tabled : List ℕ
  tabled = (head_numbers s ++ parent_numbers s) ++ drop 69 list

  pub write_head : paste list 0 (head_numbers s) 5 ≡ headed
  write_head = paste_front [] (head_numbers s) list 0 refl

  table_64 : length (parent_numbers s) ≡ 64
  table_64 = length_table 64 (λ q. get_or s.parents q 0)

  pub write_parents : paste headed 5 (parent_numbers s) (length (parent_numbers s)) ≡ tabled
  write_parents = paste_front (head_numbers s) (parent_numbers s) list 5 refl ∙ rw table_64

  pub before : length (head_numbers s ++ parent_numbers s) ≡ 69
  before = omega (arith, length-append (head_numbers s) (parent_numbers s), table_64)

  pub write_all : (take 69 tabled ++ tasks_numbers s 64) ++ drop size tabled ≡ numbers_of s ++ drop size list
  write_all =
      let past = drop-append-add (head_numbers s ++ parent_numbers s) (drop 69 list) 960 in
      let far : drop size tabled ≡ drop size list = rw before at past ∙ drop-drop 960 69 list in
      ap (λ (xs : List ℕ). (xs ++ tasks_numbers s 64) ++ drop size tabled) (take_at (head_numbers s ++ parent_numbers s) (drop 69 list) 69 before)
      ∙ ap (λ (xs : List ℕ). numbers_of s ++ xs) far

-- ---- what is loaded

module _ (list : List ℕ) where
  pub load_short : length list < size → load_of list ≡ record { state = zero_state; reason = 10 }
  unfolding load_of
  load_short h = rw (lt-leb size (length list) h)

  pub load_unfit : size ≤ length list → fits list ≡ false → load_of list ≡ record { state = zero_state; reason = 7 }
  unfolding load_of
  load_unfit h e = rw (le-leb size (length list) h, e)

  pub load_fits : size ≤ length list → fits list ≡ true → load_of list ≡ record { state = state_from list; reason = 0 }
  unfolding load_of
  load_fits h e = rw (le-leb size (length list) h, e)
