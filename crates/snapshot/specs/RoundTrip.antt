-- What is saved is loaded: a state that was written to a list is what the list keeps.
use Rattle.std.specs.Prelude.{◌≡◌, true, List, [], ◌++◌, ◌⊎◌, take, drop, eqb, leb}
use Rattle.std.proofs.Math.Path.{refl, ap, subst}
use Rattle.std.proofs.Common.{sym, ◌∙◌, inl, inr, eq-or-lt_of_le, le_of_suc-le-suc, arith, length-append, length-take-le, get_or-take, ext_get_or}
use Prim.Native.Nat.{ℕ, zero, suc, ◌+◌, ◌-◌, ◌*◌, ◌≤◌, ◌<◌}
use Rattle.std.proofs.Math.Decide.{dec_lt}
use Rattle.std.proofs.Math.ListN.{length, get_or, get_or-append}
use Rattle.std.proofs.Math.Seq.{get_or-append-add}
use borrow.Author.Tests.{le-leb, leb-true}
use Rattle.bitset.specs.Choice.{pick}
use Rattle.bitset.specs.ChoiceLaws.{by_test}
use Rattle.bitset.specs.Table.{table}
use Rattle.bitset.specs.TableLaws.{length_table, table_at, table_same}
use Rattle.lines.specs.Setters.{zero_task}
use Rattle.machine.specs.declared.State.{State}
use Rattle.machine.specs.Setters.{task_at, moves_at, waits_at}
use Rattle.machine.specs.Fresh.{zero_state}
use Rattle.snapshot.specs.Snapshot.{Loaded, task_numbers, tasks_numbers, head_numbers, parent_numbers, numbers_of, size, room_reason, saved_to, task_place, number_in, task_from, state_from, most_in, fit_from, tasks_fit, fits, load_reason, load_of}
use Rattle.snapshot.specs.SnapshotLaws.{length_numbers, load_fits}

-- what the types of a state's fields ensure: 64 entries in each array, and numbers that fit
pub record Sized (s : State) : Type 0 where
  pub parents : length s.parents ≡ 64
  pub moves : length s.moves ≡ 64
  pub waits : length s.waits ≡ 64
  pub tasks : length s.tasks ≡ 64
  pub fit : fits (numbers_of s) ≡ true

-- a list is the table of its entries
table_of : {A : Type 0} (n : ℕ) (xs : List A) (d : A) → length xs ≡ n → table n (λ q. get_or xs q d) ≡ xs
table_of n xs d long =
    ext_get_or d (table n (λ q. get_or xs q d)) xs (length_table n (λ q. get_or xs q d) ∙ sym long)
    (λ i h. table_at n (λ q. get_or xs q d) i d (rw (length_table n (λ q. get_or xs q d)) at h))

-- ---- lists that agree in the numbers of a state

module _ (l l' : List ℕ) (agree : (i : ℕ) → i < size → get_or l i 0 ≡ get_or l' i 0) where
  fit_same : (place : ℕ) (most : ℕ → ℕ) (m : ℕ) → place + m ≤ size → fit_from l place most m ≡ fit_from l' place most m
  unfolding fit_from
  fit_same place most zero h = refl
  fit_same place most (suc m) h = rw (agree (place + m) (omega arith), fit_same place most m (omega arith))

  tasks_same : (m : ℕ) → m ≤ 64 → tasks_fit l m ≡ tasks_fit l' m
  unfolding tasks_fit
  tasks_same zero h = refl
  tasks_same (suc m) h = rw (tasks_same m (omega arith), fit_same (task_place m) most_in 15 (omega arith))

  fits_same : fits l ≡ fits l'
  fits_same = rw (fit_same 0 (λ _. 255) 69 (omega arith), tasks_same 64 (omega arith))

  task_same : (q : ℕ) → q < 64 → task_from l (task_place q) ≡ task_from l' (task_place q)
  task_same q h =
      let at : (k : ℕ) → k < 15 → get_or l (task_place q + k) 0 ≡ get_or l' (task_place q + k) 0 = λ k m. agree (task_place q + k) (omega arith) in
      rw (agree (task_place q) (omega arith), at 1 (omega arith), at 2 (omega arith), at 3 (omega arith), at 4 (omega arith), at 5 (omega arith), at 6 (omega arith), at 7 (omega arith), at 8 (omega arith), at 9 (omega arith), at 12 (omega arith), at 13 (omega arith), at 14 (omega arith))

  state_same : state_from l ≡ state_from l'
  state_same =
      let tally : (k : ℕ) → k < 15 → table 64 (λ q. number_in l q k) ≡ table 64 (λ q. number_in l' q k)
      = λ k m. table_same 64 (λ q. number_in l q k) (λ q. number_in l' q k) (λ q h. agree (task_place q + k) (omega arith)) in
      let parents = table_same 64 (λ q. get_or l (5 + q) 0) (λ q. get_or l' (5 + q) 0) (λ q h. agree (5 + q) (omega arith)) in
      let tasks = table_same 64 (λ q. task_from l (task_place q)) (λ q. task_from l' (task_place q)) task_same in
      rw (agree 0 (omega arith), agree 1 (omega arith), agree 2 (omega arith), agree 3 (omega arith), agree 4 (omega arith), parents, tally 10 (omega arith), tally 11 (omega arith), tasks)

  -- the same is loaded from them
  pub load_same : size ≤ length l → size ≤ length l' → load_of l ≡ load_of l'
  unfolding load_of
  load_same room room' =
      let why : load_reason l ≡ load_reason l' = rw (le-leb size (length l) room, le-leb size (length l') room', fits_same) in
      ap (λ (k : ℕ). loaded k (state_from l)) why ∙ ap (loaded (load_reason l')) state_same
    where
      loaded : ℕ → State → Loaded
      loaded k x = record { state = pick (eqb k 0) x zero_state; reason = k }

-- so it is from a list that begins with the numbers of another
pub load_first : (list more : List ℕ) → size ≤ length list → load_of (take size list ++ more) ≡ load_of list
load_first list more room =
    let long = length-take-le size list room in
    load_same (take size list ++ more) list
    (λ i h. get_or-append (take size list) more 0 i (omega (arith, long)) ∙ get_or-take size list i 0 h)
    (omega (arith, long, length-append (take size list) more)) room

-- ---- what was saved

module _ (s : State) where
  -- the numbers of a task
  abbrev pub numbers : ℕ → List ℕ
  numbers q = task_numbers (task_at s q) (moves_at s q) (waits_at s q)

  -- number k of task q, among those of the tasks below m
  task_at_lem : (m q k : ℕ) → q < m → k < 15 → get_or (tasks_numbers s m) (15 * q + k) 0 ≡ get_or (numbers q) k 0
  unfolding tasks_numbers
  task_at_lem zero q k h l = absurd (omega arith)
  task_at_lem (suc m) q k h l = go (eq-or-lt_of_le (le_of_suc-le-suc h)) (task_at_lem m q k)
    where
      go : (q ≡ m) ⊎ (q < m) → (q < m → k < 15 → get_or (tasks_numbers s m) (15 * q + k) 0 ≡ get_or (numbers q) k 0)
          → get_or (tasks_numbers s m ++ numbers m) (15 * q + k) 0 ≡ get_or (numbers q) k 0
      go (inl e) ih =
          let at : 15 * m + k ≡ length (tasks_numbers s m) + k = omega (arith, length_numbers s m) in
          subst (λ (x : ℕ). get_or (tasks_numbers s m ++ numbers m) (15 * x + k) 0 ≡ get_or (numbers x) k 0) (sym e)
          (ap (λ (i : ℕ). get_or (tasks_numbers s m ++ numbers m) i 0) at ∙ get_or-append-add (tasks_numbers s m) (numbers m) k 0)
      go (inr b) ih = get_or-append (tasks_numbers s m) (numbers m) 0 (15 * q + k) (omega (arith, length_numbers s m)) ∙ ih b l

  abbrev front : List ℕ
  front = head_numbers s ++ parent_numbers s

  front_69 : length front ≡ 69
  front_69 = omega (arith, length-append (head_numbers s) (parent_numbers s), length_table 64 (λ q. get_or s.parents q 0))

  long : length (numbers_of s) ≡ size
  long = omega (arith, length-append front (tasks_numbers s 64), front_69, length_numbers s 64)

  -- ---- the list that the numbers begin

  module _ (rest : List ℕ) where
    abbrev list : List ℕ
    list = numbers_of s ++ rest

    number_at : (q k : ℕ) → q < 64 → k < 15 → number_in list q k ≡ get_or (numbers q) k 0
    number_at q k h l =
        let at : task_place q + k ≡ length front + (15 * q + k) = omega (arith, front_69) in
        get_or-append (numbers_of s) rest 0 (task_place q + k) (omega (arith, long))
        ∙ ap (λ (i : ℕ). get_or (numbers_of s) i 0) at ∙ get_or-append-add front (tasks_numbers s 64) (15 * q + k) 0 ∙ task_at_lem 64 q k h l

    parent_at : (q : ℕ) → q < 64 → get_or list (5 + q) 0 ≡ get_or s.parents q 0
    parent_at q h =
        get_or-append (numbers_of s) rest 0 (5 + q) (omega (arith, long))
        ∙ get_or-append front (tasks_numbers s 64) 0 (5 + q) (omega (arith, front_69))
        ∙ get_or-append-add (head_numbers s) (parent_numbers s) q 0 ∙ table_at 64 (λ q. get_or s.parents q 0) q 0 h

    task_from_lem : (q : ℕ) → q < 64 → task_from list (task_place q) ≡ task_at s q
    task_from_lem q h =
        let z : task_place q + 0 ≡ task_place q = omega arith in
        let at : (k : ℕ) → k < 15 → get_or list (task_place q + k) 0 ≡ get_or (numbers q) k 0 = λ k l. number_at q k h l in
        let first : get_or list (task_place q) 0 ≡ (task_at s q).line = rw z at (at 0 (omega arith)) in
        rw (first, at 1 (omega arith), at 2 (omega arith), at 3 (omega arith), at 4 (omega arith), at 5 (omega arith), at 6 (omega arith), at 7 (omega arith), at 8 (omega arith), at 9 (omega arith), at 12 (omega arith), at 13 (omega arith), at 14 (omega arith))

    state_from_lem : Sized s → state_from list ≡ s
    state_from_lem z =
        let parents : table 64 (λ q. get_or list (5 + q) 0) ≡ s.parents
        = table_same 64 (λ q. get_or list (5 + q) 0) (λ q. get_or s.parents q 0) parent_at ∙ table_of 64 s.parents 0 z.parents in
        let moves : table 64 (λ q. number_in list q 10) ≡ s.moves
        = table_same 64 (λ q. number_in list q 10) (moves_at s) (λ q h. number_at q 10 h (omega arith)) ∙ table_of 64 s.moves 0 z.moves in
        let waits : table 64 (λ q. number_in list q 11) ≡ s.waits
        = table_same 64 (λ q. number_in list q 11) (waits_at s) (λ q h. number_at q 11 h (omega arith)) ∙ table_of 64 s.waits 0 z.waits in
        let tasks : table 64 (λ q. task_from list (task_place q)) ≡ s.tasks
        = table_same 64 (λ q. task_from list (task_place q)) (task_at s) task_from_lem ∙ table_of 64 s.tasks zero_task z.tasks in
        rw (parents, moves, waits, tasks)

    -- what fits does so in the longer list too
    fits_append : fits list ≡ fits (numbers_of s)
    fits_append = fits_same list (numbers_of s) (λ i h. get_or-append (numbers_of s) rest 0 i (omega (arith, long)))

-- numbers that are each within what their field holds fit
fit_all : (list : List ℕ) (place : ℕ) (most : ℕ → ℕ) (m : ℕ) → ((k : ℕ) → k < m → get_or list (place + k) 0 ≤ most k) → fit_from list place most m ≡ true
unfolding fit_from
fit_all list place most zero h = refl
fit_all list place most (suc m) h =
    rw (fit_all list place most m (λ k l. h k (omega arith)), le-leb (get_or list (place + m) 0) (most m) (h m (omega arith)))

tasks_all : (list : List ℕ) (m : ℕ) → ((q : ℕ) → q < m → fit_from list (task_place q) most_in 15 ≡ true) → tasks_fit list m ≡ true
unfolding tasks_fit
tasks_all list zero h = refl
tasks_all list (suc m) h = rw (tasks_all list m (λ q l. h q (omega arith)), h m (omega arith))

module _ (s : State) (head : (k : ℕ) → k < 5 → get_or (head_numbers s) k 0 ≤ 255) (parents : (q : ℕ) → q < 64 → get_or s.parents q 0 ≤ 255)
    (tasks : (q k : ℕ) → q < 64 → k < 15 → get_or (numbers s q) k 0 ≤ most_in k) where
  head_at : (k : ℕ) → k < 69 → get_or (list s []) (0 + k) 0 ≤ 255
  head_at k h = go (dec_lt k 5)
    where
      z : 0 + k ≡ k
      z = omega arith

      go : Dec (k < 5) → get_or (list s []) (0 + k) 0 ≤ 255
      go (yes l) =
          let at = get_or-append (numbers_of s) [] 0 k (omega (arith, long s))
          ∙ get_or-append (front s) (tasks_numbers s 64) 0 k (omega (arith, front_69 s))
          ∙ get_or-append (head_numbers s) (parent_numbers s) 0 k l in
          rw (z, at) (head k l)
      go (no l) =
          let m : ℕ = k - 5 in
          let past : k ≡ 5 + m = omega arith in
          rw (z, past) (omega (arith, parent_at s [] m (omega arith), parents m (omega arith)))

  -- the numbers of such a state fit
  pub all_fit : fits (numbers_of s) ≡ true
  all_fit =
      sym (fits_append s [])
      ∙ rw (fit_all (list s []) 0 (λ _. 255) 69 head_at, tasks_all (list s []) 64 (λ q h. fit_all (list s []) (task_place q) most_in 15 (λ k l. omega (arith, number_at s [] q k h l, tasks q k h l))))

-- what was saved to a list with room is what the list keeps
pub saved_loads : (s : State) (list : List ℕ) → Sized s → size ≤ length list → load_of (saved_to s list) ≡ record { state = s; reason = 0 }
unfolding saved_to
saved_loads s list z room = rw (le-leb size (length list) room) (load ∙ ap loaded (state_from_lem s (drop size list) z))
  where
    loaded : State → Loaded
    loaded x = record { state = x; reason = 0 }

    load : load_of (numbers_of s ++ drop size list) ≡ loaded (state_from (numbers_of s ++ drop size list))
    load = load_fits (numbers_of s ++ drop size list) (omega (arith, length-append (numbers_of s) (drop size list), long s)) (fits_append s (drop size list) ∙ z.fit)

-- which has room still
pub saved_room : (s : State) (list : List ℕ) → size ≤ length list → size ≤ length (saved_to s list)
unfolding saved_to
saved_room s list room = rw (le-leb size (length list) room) (omega (arith, length-append (numbers_of s) (drop size list), long s))

-- a list that 10 doesn't refuse has room
pub has_room : (list : List ℕ) → room_reason list ≡ 0 → size ≤ length list
has_room list = by_test (λ x. x ≡ 0 → size ≤ length list) (leb size (length list)) (λ t _. leb-true size (length list) t) (λ _ z. absurd (omega arith))
