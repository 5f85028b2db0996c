-- The passes of a schedule, and what the call `passes` answers (01, "What else is asked of the library" and "Reasons").
use Rattle.std.specs.Prelude.{Bool, List, [], ◌∷◌, ◌++◌, ℕ, zero, suc, ◌+◌, ◌*◌, eqb, leb, ltb, length, drop, Result, Ok, Err}
use Rattle.bitset.specs.Choice.{pick}
use Rattle.bitset.specs.Tasks.{is_count}
use Rattle.reason.specs.declared.PlacedRefusal.{PlacedRefusal}
use Rattle.reason.specs.Placed.{placed}
use Rattle.schedule.specs.Stretch.{names_all}

-- "A pass ends at the first turn by which every task has been named since the pass began; the next begins there."
-- The passes of the turns still to come, where `since` are the turns since the pass began. "A tail that is no whole pass gets no pair."
unfoldable pub passes_from : ℕ → List ℕ → List ℕ → List (List ℕ)
passes_from n since [] = []
passes_from n since (t ∷ ts) =
    let now = since ++ t ∷ [] in
    let ended = now ∷ passes_from n [] ts in
    let on = passes_from n now ts in
    pick (names_all n now) ended on

abbrev pub passes_of : ℕ → List ℕ → List (List ℕ)
passes_of n ts = passes_from n [] ts

-- "Pairs of offset and length, sorted by offset", the first at the offset `at`
unfoldable pub pairs_from : ℕ → List (List ℕ) → List ℕ
pairs_from at [] = []
pairs_from at (p ∷ ps) = at ∷ length p ∷ pairs_from (at + length p) ps

-- 8: "A schedule has more than 65,536 turns"
abbrev pub max_turns : ℕ
max_turns = 65536

-- 9: the place of the first turn whose "task number is N or more"; the schedule's length if there is none
unfoldable pub unknown_at : ℕ → List ℕ → ℕ
unknown_at n [] = zero
unknown_at n (t ∷ ts) = pick (ltb t n) (suc (unknown_at n ts)) zero

-- whether every turn names a task
abbrev pub all_tasks : ℕ → List ℕ → Bool
all_tasks n ts = eqb (unknown_at n ts) (length ts)

-- the answer to a call that 3 and 8 let pass and whose pairs have room
unfoldable pub count_answer : ℕ → List ℕ → Result ℕ PlacedRefusal
count_answer n ts = pick (all_tasks n ts) (Ok (length (passes_of n ts))) (Err (placed 9 (unknown_at n ts)))

-- "Passes 3, 8, 9, 10"; 3: "N isn't 1 to 64"; 10: a "pair list under two numbers a pass". The list has `room` numbers.
unfoldable pub passes_answer : ℕ → List ℕ → ℕ → Result ℕ PlacedRefusal
passes_answer n ts room =
    pick (is_count n)
    (pick (leb (length ts) max_turns)
    (pick (all_tasks n ts)
    (pick (leb (2 * length (passes_of n ts)) room)
    (Ok (length (passes_of n ts)))
    (Err (placed 10 0)))
    (Err (placed 9 (unknown_at n ts))))
    (Err (placed 8 0)))
    (Err (placed 3 0))

-- the paper's numbers of an answer: the reason, 0 if accepted; the place of 9; the number of passes
abbrev pub passes_reason : Result ℕ PlacedRefusal → ℕ
passes_reason (Ok k) = 0
passes_reason (Err r) = r.refusal

abbrev pub passes_place : Result ℕ PlacedRefusal → ℕ
passes_place (Ok k) = 0
passes_place (Err r) = r.place

abbrev pub passes_count : Result ℕ PlacedRefusal → ℕ
passes_count (Ok k) = k
passes_count (Err r) = 0

-- the list with the pairs written to it. "Numbers after the last pair don't change"
abbrev pub with_pairs : ℕ → List ℕ → List ℕ → List ℕ
with_pairs n ts pairs = pairs_from 0 (passes_of n ts) ++ drop (2 * length (passes_of n ts)) pairs

-- the list after an answer; a refused call "writes to no buffer"
abbrev pub pairs_by : Result ℕ PlacedRefusal → ℕ → List ℕ → List ℕ → List ℕ
pairs_by (Ok k) n ts pairs = with_pairs n ts pairs
pairs_by (Err r) n ts pairs = pairs

unfoldable pub pairs_after : ℕ → List ℕ → List ℕ → List ℕ
pairs_after n ts pairs = pairs_by (passes_answer n ts (length pairs)) n ts pairs
