-- A state as a list of numbers, which a caller can keep: 1,029 of them, five of the state, 64 parents, and fifteen for each of 64 tasks.
use Rattle.std.specs.Prelude.{Bool, true, ◌&&◌, ◌||◌, List, [], ◌∷◌, ◌++◌, ℕ, zero, suc, ◌+◌, ◌*◌, eqb, leb, length, get_or, drop, Result}
use Rattle.bitset.specs.Choice.{pick}
use Rattle.bitset.specs.Table.{table}
use Rattle.reason.specs.Checked.{answered}
use Rattle.lines.specs.declared.Task.{Task}
use Rattle.machine.specs.declared.State.{State}
use Rattle.machine.specs.Setters.{task_at, moves_at, waits_at}
use Rattle.machine.specs.Fresh.{zero_state}

-- ---- from a state to its numbers

-- a task's numbers: "line count tag old list looked aim toggle flag", its start, its tallies of moves and waits, its work length, the moves
-- left and its own sense, each change's own at the end
abbrev pub task_numbers : Task → ℕ → ℕ → List ℕ
task_numbers t moves waits =
    t.line ∷ t.count ∷ t.tag ∷ t.old ∷ t.list ∷ t.looked ∷ t.aim ∷ t.toggle ∷ t.flag ∷ t.start ∷ moves ∷ waits ∷ t.work ∷ t.left ∷ t.own ∷ []

-- those of the tasks below m
unfoldable pub tasks_numbers : State → ℕ → List ℕ
tasks_numbers s zero = []
tasks_numbers s (suc q) = tasks_numbers s q ++ task_numbers (task_at s q) (moves_at s q) (waits_at s q)

-- "kind N R arrivals sense"
abbrev pub head_numbers : State → List ℕ
head_numbers s = s.kind ∷ s.n ∷ s.modulus ∷ s.arrivals ∷ s.sense ∷ []

-- "64 parents"
abbrev pub parent_numbers : State → List ℕ
parent_numbers s = table 64 (λ q. get_or s.parents q 0)

-- "kind N R arrivals sense, 64 parents, then for each task 0..63" its numbers
abbrev pub numbers_of : State → List ℕ
numbers_of s = (head_numbers s ++ parent_numbers s) ++ tasks_numbers s 64

-- how many they are
abbrev pub size : ℕ
size = 1029

-- 10: "A lent buffer is too short"
abbrev pub room_reason : List ℕ → ℕ
room_reason list = pick (leb size (length list)) 0 10

-- the list with a state's numbers written to it; what is beyond them, and a list that is too short, don't change
unfoldable pub saved_to : State → List ℕ → List ℕ
saved_to s list = pick (leb size (length list)) (numbers_of s ++ drop size list) list

-- ---- from numbers to the state

-- where the numbers of task q begin
abbrev pub task_place : ℕ → ℕ
task_place q = 69 + 15 * q

-- number k of task q
abbrev pub number_in : List ℕ → ℕ → ℕ → ℕ
number_in list q k = get_or list (task_place q + k) 0

-- the task whose numbers begin at the place
abbrev pub task_from : List ℕ → ℕ → Task
task_from list place =
    record {
      line = get_or list place 0;
      count = get_or list (place + 1) 0;
      tag = get_or list (place + 2) 0;
      old = get_or list (place + 3) 0;
      list = get_or list (place + 4) 0;
      looked = get_or list (place + 5) 0;
      aim = get_or list (place + 6) 0;
      toggle = get_or list (place + 7) 0;
      flag = get_or list (place + 8) 0;
      start = get_or list (place + 9) 0;
      work = get_or list (place + 12) 0;
      left = get_or list (place + 13) 0;
      own = get_or list (place + 14) 0;
    }

abbrev pub state_from : List ℕ → State
state_from list =
    record {
      kind = get_or list 0 0;
      n = get_or list 1 0;
      modulus = get_or list 2 0;
      arrivals = get_or list 3 0;
      sense = get_or list 4 0;
      parents = table 64 (λ q. get_or list (5 + q) 0);
      moves = table 64 (λ q. number_in list q 10);
      waits = table 64 (λ q. number_in list q 11);
      tasks = table 64 (λ q. task_from list (task_place q));
    }

-- the most that the field of a task's number k holds: `list` has 64 bits, `count` and the tallies 32, any other 8
abbrev pub most_in : ℕ → ℕ
most_in k = pick (eqb k 4) 18446744073709551615 (pick (eqb k 1 || eqb k 10 || eqb k 11) 4294967295 255)

-- whether m numbers of the list, from a place on, are within what their fields hold
unfoldable pub fit_from : List ℕ → ℕ → (ℕ → ℕ) → ℕ → Bool
fit_from list place most zero = true
fit_from list place most (suc k) = fit_from list place most k && leb (get_or list (place + k) 0) (most k)

-- the state's own numbers and the parents have 8 bits
abbrev pub head_fits : List ℕ → Bool
head_fits list = fit_from list 0 (λ _. 255) 69

-- those of the tasks below m
unfoldable pub tasks_fit : List ℕ → ℕ → Bool
tasks_fit list zero = true
tasks_fit list (suc q) = tasks_fit list q && fit_from list (task_place q) most_in 15

abbrev pub fits : List ℕ → Bool
fits list = head_fits list && tasks_fit list 64

-- 10 for a list that is too short; 7, "A field of the state is out of range", for a number that its field can't hold. Whether the fields are
-- in the range of 01 is for the call to say that gets the state.
abbrev pub load_reason : List ℕ → ℕ
load_reason list = pick (leb size (length list)) (pick (fits list) 0 7) 10

-- what a list is taken for: the state and 0, or the state whose fields are all 0 and the reason that refused the list
pub record Loaded : Type 0 where
  pub state : State
  pub reason : ℕ

unfoldable pub load_of : List ℕ → Loaded
load_of list =
    record {
      state = pick (eqb (load_reason list) 0) (state_from list) zero_state;
      reason = load_reason list;
    }

-- the same as the code answers it
abbrev pub load_answer : Loaded → Result State ℕ
load_answer l = answered l.state l.reason
