-- Laws of the fresh state: when it is refused, and that an accepted one is in range.
use Rattle.std.specs.Prelude.{◌≡◌, refl, true, false, ◌&&◌, ◌||◌, List, [], map, ℕ, zero, suc, ◌+◌, ◌-◌, ◌≤◌, ◌<◌, eqb, ltb, length, get_or, drop, replicate}
use Rattle.std.proofs.Common.{sym, ap, ◌∙◌, subst, arith, length-append, get_or-append-add, take_at, drop_at, eq-eqb, eqb-true}
use Rattle.std.proofs.Math.Bool.{or-true}
use Rattle.std.proofs.Math.Decide.{dec_lt}
use Rattle.std.proofs.lemmas.List.{get_or-replicate, length-replicate}
use Rattle.std.proofs.Math.ListN.{get_or-append}
use Rattle.bitset.specs.Table.{table}
use Rattle.bitset.specs.TableLaws.{length_table, table_at, table_same}
use Rattle.bitset.specs.TasksLaws.{StandIn}
use Rattle.bitset.specs.SetLaws.{within_bits, bit_zero}
use Rattle.bitset.specs.ChoiceLaws.{by_test}
use Rattle.parents.specs.Parents.{check_of}
use Rattle.parents.specs.ParentsLaws.{accepted}
use Rattle.lines.specs.declared.Task.{Task}
use Rattle.lines.specs.Setters.{zero_task}
use Rattle.setup.specs.Kinds.{last_kind, has_sense, modulus_ok}
use Rattle.setup.specs.Tables.{all_zero, parents_reason, starts_reason, is_work, works_reason, work_of}
use Rattle.setup.specs.TablesLaws.{all_zeros, parents_fit, parents_below, no_parents, work_at, ones_reason, starts_alike, parents_own, starts_own, works_alike, works_own}
use Rattle.setup.specs.Reasons.{first_reason, setup_reason}
use Rattle.setup.specs.ReasonsLaws.{Counted, AcceptedSetup, no_reason, first_same, accepted_setup, setup_accepted, setup_alike}
use Rattle.setup.specs.Range.{field_ok, list_room}
use Rattle.setup.specs.RangeLaws.{zero_ok, line_14, used, modulus_3, field_zero, start_ok}
use Rattle.machine.specs.Setters.{task_at, moves_at, waits_at}
use Rattle.machine.specs.Fresh.{Inputs, fresh_reason, fresh_task, fresh_tasks, padded, fresh_state, fresh_of}
use Rattle.machine.specs.Range.{shared_of, table_of, parents_ok, Valid}
use Rattle.machine.specs.RangeLaws.{TaskIn, Tallies, valid}

-- what an accepted fresh state is made from
pub record Accepted (i : Inputs) : Type 0 where
  pub kind : i.kind ≤ last_kind
  pub some : 1 ≤ i.n
  pub few : i.n ≤ 64
  pub modulus : modulus_ok i.kind i.modulus ≡ true
  pub parents : parents_reason i.kind i.n i.parents ≡ 0
  pub starts : starts_reason i.kind i.n i.starts ≡ 0
  pub works : works_reason i.n i.works ≡ 0

-- the reason of a fresh state, by its parts
pub reason_parts : (i : Inputs)
    → fresh_reason i
    ≡ first_reason (setup_reason i.kind i.n i.modulus i.parents) (first_reason (starts_reason i.kind i.n i.starts) (works_reason i.n i.works))
unfolding fresh_reason
reason_parts i = refl

-- a fresh state is accepted exactly if none of the reasons applies
pub accepted_inputs : (i : Inputs) → fresh_reason i ≡ 0 → Accepted i
unfolding fresh_reason
accepted_inputs i e =
    let none = no_reason (setup_reason i.kind i.n i.modulus i.parents) _ e in
    let a = accepted_setup i.kind i.n i.modulus i.parents none.0 in
    let rest = no_reason (starts_reason i.kind i.n i.starts) (works_reason i.n i.works) none.1 in
    record { kind = a.count.known; some = a.count.some; few = a.count.few; modulus = a.modulus; parents = a.table; starts = rest.0; works = rest.1 }

pub inputs_accepted : (i : Inputs) → Accepted i → fresh_reason i ≡ 0
unfolding fresh_reason
inputs_accepted i a =
    let count : Counted i.kind i.n = record { known = a.kind; some = a.some; few = a.few } in
    let setup : AcceptedSetup i.kind i.n i.modulus i.parents = record { count = count; modulus = a.modulus; table = a.parents } in
    rw (setup_accepted i.kind i.n i.modulus i.parents setup, a.starts) a.works

-- its parents fit the state's 64
pub parents_few : (i : Inputs) → Accepted i → length i.parents ≤ 64
parents_few i a = parents_fit i.kind i.n i.parents a.few a.parents

-- ---- an accepted one is in range

pub fresh_at : (n q : ℕ) (f : ℕ → Task) → q < n → get_or (fresh_tasks n f) q zero_task ≡ f q
fresh_at n q f h =
    get_or-append (table n f) (replicate (64 - n) zero_task) zero_task q (rw (length_table n f) h) ∙ table_at n f q zero_task h

zero_at : (n q : ℕ) (f : ℕ → Task) → n ≤ q → q < 64 → get_or (fresh_tasks n f) q zero_task ≡ zero_task
zero_at n q f h l =
    let e : q ≡ length (table n f) + (q - n) = omega (arith, length_table n f) in
    ap (λ (k : ℕ). get_or (fresh_tasks n f) k zero_task) e
    ∙ get_or-append-add (table n f) (replicate (64 - n) zero_task) (q - n) zero_task
    ∙ get_or-replicate (64 - n) (q - n) zero_task zero_task (omega arith)

fresh_range : (i : Inputs) (q : ℕ) → Accepted i → TaskIn (fresh_state i) q (fresh_task i q)
fresh_range i q a =
    record {
      line_from = omega arith;
      line_to = omega (arith, line_14 i.kind a.kind);
      count = omega arith;
      tag = field_zero (eqb i.kind 0) i.modulus tagged;
      old = field_zero (eqb i.kind 0) i.modulus tagged;
      looked = field_zero (eqb i.kind 0 || eqb i.kind 3) i.n (λ _. a.some);
      list = within_bits 64 0 (list_room (shared_of (fresh_state i)) (table_of (fresh_state i)) q) (omega arith) (λ k. omega (arith, bit_zero k));
      aim = field_zero (eqb i.kind 1) 2 (λ _. omega arith);
      toggle = field_zero (eqb i.kind 2) 2 (λ _. omega arith);
      flag = field_zero (eqb i.kind 3) 2 (λ _. omega arith);
      start = start_ok i.kind i.n i.starts q a.some a.starts;
      left_from = (work_at i.n i.works q a.works).0;
      left_to_lem = omega arith;
      own = by_test (λ b. b ≡ true) (eqb i.kind 4) (λ k. rw k) (λ k. rw k);
    }
  where
    tagged : eqb i.kind 0 ≡ true → 0 < i.modulus
    tagged e = omega (arith, modulus_3 i.modulus (rw (eqb-true i.kind 0 e) at a.modulus))

-- the parents of an accepted fresh state are its table, with 0 after it
fresh_parents : (i : Inputs) → Accepted i → parents_ok (fresh_state i) ≡ true
fresh_parents i a =
    by_test (λ b. b ≡ true) (eqb i.kind 3) tree other
  where
    zeros : ℕ → List ℕ
    zeros k = replicate k 0

    tree : eqb i.kind 3 ≡ true → eqb (check_of (table_of (fresh_state i)) i.n) 0 && all_zero (drop i.n (padded i.parents)) ≡ true
    tree k =
        let table : check_of i.parents i.n ≡ 0 = rw k at a.parents in
        let long = (accepted i.parents i.n table).long in
        rw (
          take_at i.parents (zeros (64 - length i.parents)) i.n long,
          drop_at i.parents (zeros (64 - length i.parents)) i.n long,
          table,
        )
        (all_zeros (64 - length i.parents))

    other : eqb i.kind 3 ≡ false → all_zero (padded i.parents) ≡ true
    other k = rw (no_parents i.kind i.n i.parents k a.parents) (all_zeros 64)

-- a list of equal numbers has that number everywhere, also past its end where it stands for what is not there
equal_at : (x n q : ℕ) → get_or (replicate n x) q x ≡ x
equal_at x zero q = refl
equal_at x (suc n) zero = refl
equal_at x (suc n) (suc q) = equal_at x n q

fresh_tallies : (n : ℕ) → Tallies n (replicate 64 0)
fresh_tallies n =
    record {
      long = refl;
      each = λ q h. rw (equal_at 0 64 q) (by_test (λ b. b ≡ true) (ltb q n) (λ _. refl) (λ _. refl));
    }

-- 02, P3: both tallies are "fresh 0"
pub fresh_tally : (i : Inputs) (q : ℕ) → (moves_at (fresh_state i) q ≡ 0) × (waits_at (fresh_state i) q ≡ 0)
fresh_tally i q = (equal_at 0 64 q, equal_at 0 64 q)

-- 01: "A fresh state is in range"
pub fresh_valid : (i : Inputs) → fresh_reason i ≡ 0 → Valid (fresh_state i)
fresh_valid i e =
    let a = accepted_inputs i e in
    valid (fresh_state i)
    (record {
      kind = a.kind;
      some = a.some;
      few = a.few;
      modulus = a.modulus;
      arrivals = by_test (λ x. field_ok (has_sense i.kind) (i.n + 1) x ≡ true) (eqb i.kind 4) (λ k. used (has_sense i.kind) (i.n + 1) i.n (rw (k, or-true)) (omega arith)) (λ _. field_zero (has_sense i.kind) (i.n + 1) (λ _. omega arith));
      sense = by_test (λ b. b ≡ true) (has_sense i.kind) (λ k. rw k) (λ k. rw k);
      parents = fresh_parents i a;
      tasks = λ q h. subst (TaskIn (fresh_state i) q) (sym (fresh_at i.n q (fresh_task i) h)) (fresh_range i q a);
      rest = λ q m l. rw (zero_at i.n q (fresh_task i) m l) zero_ok;
      moves = fresh_tallies i.n;
      waits = fresh_tallies i.n;
    })

-- what a call answers besides the state
pub fresh_reason_lem : (i : Inputs) → (fresh_of i).reason ≡ fresh_reason i
unfolding fresh_of
fresh_reason_lem i = refl

-- an accepted call gives the fresh state
pub fresh_accepted : (i : Inputs) → fresh_reason i ≡ 0 → (fresh_of i).state ≡ fresh_state i
unfolding fresh_of
fresh_accepted i e = rw (eq-eqb (fresh_reason i) 0 e)

-- a task that is there: its line, its work length, and the moves of it that are left, which are all
pub fresh_line : (i : Inputs) (q : ℕ) → q < i.n → (task_at (fresh_state i) q).line ≡ 11
fresh_line i q h = ap (λ (t : Task). t.line) (fresh_at i.n q (fresh_task i) h)

pub fresh_work : (i : Inputs) (q : ℕ) → q < i.n → (task_at (fresh_state i) q).work ≡ work_of i.works q
fresh_work i q h = ap (λ (t : Task). t.work) (fresh_at i.n q (fresh_task i) h)

pub fresh_left : (i : Inputs) (q : ℕ) → q < i.n → (task_at (fresh_state i) q).left ≡ (task_at (fresh_state i) q).work
fresh_left i q h = subst (λ (t : Task). t.left ≡ t.work) (sym (fresh_at i.n q (fresh_task i) h)) refl

-- ---- other numbers in the tables

-- the inputs with another number for each entry of a table of tasks; work lengths are no tasks
abbrev pub with_entries : (ℕ → ℕ) → Inputs → Inputs
with_entries f i = record { kind = i.kind; n = i.n; modulus = i.modulus; parents = map f i.parents; starts = map f i.starts; works = i.works }

-- numbers in place of the entries
module _ (f : ℕ → ℕ) (alike : StandIn f) where
  -- the tables are looked at only where N is 1 to 64, and are refused alike
  pub entries_reason : (i : Inputs) → fresh_reason (with_entries f i) ≡ fresh_reason i
  unfolding fresh_reason
  entries_reason i =
      rw (setup_alike f alike i.kind i.n i.modulus i.parents)
      (first_same (setup_reason i.kind i.n i.modulus i.parents)
      (first_reason (starts_reason i.kind i.n (map f i.starts)) (works_reason i.n i.works))
      (first_reason (starts_reason i.kind i.n i.starts) (works_reason i.n i.works))
      (λ none. let few = (accepted_setup i.kind i.n i.modulus i.parents none).count.few in rw (starts_alike f alike i.kind i.n few i.starts)))

  -- those that are accepted are the same
  pub entries_same : (i : Inputs) → fresh_reason i ≡ 0 → with_entries f i ≡ i
  entries_same i e =
      let a = accepted_inputs i e in
      rw (
        parents_own f alike i.kind i.n a.few i.parents a.some a.parents,
        starts_own f alike i.kind i.n a.few i.starts a.some a.starts,
      )

-- the inputs with this work table
abbrev pub with_table : Inputs → List ℕ → Inputs
with_table i works = record { kind = i.kind; n = i.n; modulus = i.modulus; parents = i.parents; starts = i.starts; works = works }

-- the inputs with another number for each work length
abbrev pub with_works : (ℕ → ℕ) → Inputs → Inputs
with_works f i = with_table i (map f i.works)

-- a number that is a work length stands for itself, and one that is none for none
module _ (f : ℕ → ℕ) (alike : (x : ℕ) → is_work (f x) ≡ is_work x) where
  pub works_reason_lem : (i : Inputs) → fresh_reason (with_works f i) ≡ fresh_reason i
  unfolding fresh_reason
  works_reason_lem i = rw (works_alike f i.n alike i.works)

  pub works_same : ((x : ℕ) → is_work x ≡ true → f x ≡ x) → (i : Inputs) → fresh_reason i ≡ 0 → with_works f i ≡ i
  works_same same i e = rw (works_own f i.n same i.works (accepted_inputs i e).works)

-- ---- a work table of ones

-- 02, P6: "with no table all are 1": a table of ones is answered as none is
pub ones_fresh : (i : Inputs) → fresh_of (with_table i (replicate i.n 1)) ≡ fresh_of (with_table i [])
unfolding fresh_of fresh_reason
ones_fresh i =
    rw (ones_reason i.n, table_same i.n (fresh_task (with_table i (replicate i.n 1))) (fresh_task (with_table i [])) (λ q _. rw (equal_at 1 i.n q)))

-- ---- what the types of a state's fields ensure, of a fresh state

zero_entry : (n q : ℕ) → get_or (replicate {A = ℕ} n 0) q 0 ≡ 0
zero_entry zero q = refl
zero_entry (suc n) zero = refl
zero_entry (suc n) (suc q) = zero_entry n q

-- its work lengths and its parents are bytes
pub fresh_bytes : (i : Inputs) → Accepted i → (q : ℕ) → (q < i.n → (task_at (fresh_state i) q).work ≤ 255) × (get_or (fresh_state i).parents q 0 ≤ 255)
fresh_bytes i a q = (
  λ h. rw (fresh_at i.n q (fresh_task i) h) (work_at i.n i.works q a.works).1,
  go (dec_lt q (length i.parents)),
)
  where
    go : Dec (q < length i.parents) → get_or (padded i.parents) q 0 ≤ 255
    go (yes h) =
        omega (arith, get_or-append i.parents (replicate (64 - length i.parents) 0) 0 q h, parents_below i.kind i.n i.parents q a.some a.parents h, a.few)
    go (no h) =
        let past : q ≡ length i.parents + (q - length i.parents) = omega arith in
        omega (arith, ap (λ (k : ℕ). get_or (padded i.parents) k 0) past, get_or-append-add i.parents (replicate (64 - length i.parents) 0) (q - length i.parents) 0, zero_entry (64 - length i.parents) (q - length i.parents))

-- how many parents and tasks it has
pub fresh_lengths : (i : Inputs) → Accepted i → (length (fresh_state i).parents ≡ 64) × (length (fresh_state i).tasks ≡ 64)
fresh_lengths i a = (
  omega (arith, length-append i.parents (replicate {A = ℕ} (64 - length i.parents) 0), length-replicate {A = ℕ} (64 - length i.parents) 0, parents_few i a),
  omega (arith, length-append (table i.n (fresh_task i)) (replicate (64 - i.n) zero_task), length_table i.n (fresh_task i), length-replicate (64 - i.n) zero_task, a.few),
)
