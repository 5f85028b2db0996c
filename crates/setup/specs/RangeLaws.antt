-- The range of a task, and of what all tasks share, clause by clause.
use Rattle.std.specs.Prelude.{◌≡◌, refl, Bool, true, false, ◌||◌, List, [], ◌∷◌, ℕ, ◌+◌, ◌≤◌, ◌<◌, eqb, leb, length}
use Rattle.std.proofs.Common.{◌∙◌, arith, lt-ltb, le-ltb, le-leb, ltb-true, leb-true, eqb-true}
use Rattle.std.proofs.Math.Bool.{and-eq-true_iff}
use Rattle.std.proofs.lemmas.Bool.{eqb-false}
use Rattle.bitset.specs.ChoiceLaws.{by_test}
use Rattle.bitset.specs.Set.{bit, within_of}
use Rattle.bitset.specs.SetLaws.{is_count_lem, bit_zero, all_past}
use Rattle.parents.specs.ParentsLaws.{children_bit}
use Rattle.lines.specs.declared.Task.{Task}
use Rattle.lines.specs.declared.Shared.{Shared}
use Rattle.lines.specs.Setters.{zero_task}
use Rattle.lines.specs.Common.{max_count}
use Rattle.setup.specs.Kinds.{last_kind, has_sense, modulus_ok, last_line}
use Rattle.setup.specs.Tables.{starts_reason, start_of}
use Rattle.setup.specs.TablesLaws.{starts_given, starts_below}
use Rattle.setup.specs.Range.{field_ok, list_room, task_ok, task_zero, shared_ok}

-- ---- a task

-- what task_ok tests
pub record TaskRange (w : Shared) (table : List ℕ) (q : ℕ) (t : Task) : Type 0 where
  pub line_from : 11 ≤ t.line
  pub line_to : t.line ≤ last_line w.kind
  pub count : t.count ≤ max_count
  pub tag : field_ok (eqb w.kind 0) w.modulus t.tag ≡ true
  pub old : field_ok (eqb w.kind 0) w.modulus t.old ≡ true
  pub looked : field_ok (eqb w.kind 0 || eqb w.kind 3) w.n t.looked ≡ true
  pub list : within_of t.list (list_room w table q) ≡ true
  pub aim : field_ok (eqb w.kind 1) 2 t.aim ≡ true
  pub toggle : field_ok (eqb w.kind 2) 2 t.toggle ≡ true
  pub flag : field_ok (eqb w.kind 3) 2 t.flag ≡ true
  pub start : field_ok (eqb w.kind 0) w.n t.start ≡ true
  pub left_from : 1 ≤ t.left
  pub left_to_lem : t.left ≤ t.work
  pub own : field_ok (eqb w.kind 4) 2 t.own ≡ true

pub task_range : (w : Shared) (table : List ℕ) (q : ℕ) (t : Task) → task_ok w table q t ≡ true → TaskRange w table q t
unfolding task_ok
task_range w table q t e =
    let e13 = (and-eq-true_iff _ _).0 e in
    let e12 = (and-eq-true_iff _ _).0 e13.0 in
    let e11 = (and-eq-true_iff _ _).0 e12.0 in
    let e10 = (and-eq-true_iff _ _).0 e11.0 in
    let e9 = (and-eq-true_iff _ _).0 e10.0 in
    let e8 = (and-eq-true_iff _ _).0 e9.0 in
    let e7 = (and-eq-true_iff _ _).0 e8.0 in
    let e6 = (and-eq-true_iff _ _).0 e7.0 in
    let e5 = (and-eq-true_iff _ _).0 e6.0 in
    let e4 = (and-eq-true_iff _ _).0 e5.0 in
    let e3 = (and-eq-true_iff _ _).0 e4.0 in
    let e2 = (and-eq-true_iff _ _).0 e3.0 in
    let e1 = (and-eq-true_iff _ _).0 e2.0 in
    record {
      line_from = leb-true 11 t.line e1.0;
      line_to = leb-true t.line (last_line w.kind) e1.1;
      count = leb-true t.count max_count e2.1;
      tag = e3.1;
      old = e4.1;
      looked = e5.1;
      list = e6.1;
      aim = e7.1;
      toggle = e8.1;
      flag = e9.1;
      start = e10.1;
      left_from = leb-true 1 t.left e11.1;
      left_to_lem = leb-true t.left t.work e12.1;
      own = e13.1;
    }

pub range_task : (w : Shared) (table : List ℕ) (q : ℕ) (t : Task) → TaskRange w table q t → task_ok w table q t ≡ true
unfolding task_ok
range_task w table q t r =
    rw (
      le-leb 11 t.line r.line_from,
      le-leb t.line (last_line w.kind) r.line_to,
      le-leb t.count max_count r.count,
      r.tag,
      r.old,
      r.looked,
      r.list,
      r.aim,
      r.toggle,
      r.flag,
      r.start,
      le-leb 1 t.left r.left_from,
      le-leb t.left t.work r.left_to_lem,
      r.own,
    )

-- what task_zero tests
pub record Zeros (t : Task) : Type 0 where
  pub line : t.line ≡ 0
  pub count : t.count ≡ 0
  pub tag : t.tag ≡ 0
  pub old : t.old ≡ 0
  pub list : t.list ≡ 0
  pub looked : t.looked ≡ 0
  pub aim : t.aim ≡ 0
  pub toggle : t.toggle ≡ 0
  pub flag : t.flag ≡ 0
  pub start : t.start ≡ 0
  pub work : t.work ≡ 0
  pub left : t.left ≡ 0
  pub own : t.own ≡ 0

pub zero_ok : task_zero zero_task ≡ true
unfolding task_zero
zero_ok = refl

pub zeros : (t : Task) → task_zero t ≡ true → Zeros t
unfolding task_zero
zeros t e =
    let e12 = (and-eq-true_iff _ (eqb t.own 0)).0 e in
    let e11 = (and-eq-true_iff _ (eqb t.left 0)).0 e12.0 in
    let e10 = (and-eq-true_iff _ (eqb t.work 0)).0 e11.0 in
    let e9 = (and-eq-true_iff _ (eqb t.start 0)).0 e10.0 in
    let e8 = (and-eq-true_iff _ (eqb t.flag 0)).0 e9.0 in
    let e7 = (and-eq-true_iff _ (eqb t.toggle 0)).0 e8.0 in
    let e6 = (and-eq-true_iff _ (eqb t.aim 0)).0 e7.0 in
    let e5 = (and-eq-true_iff _ (eqb t.looked 0)).0 e6.0 in
    let e4 = (and-eq-true_iff _ (eqb t.list 0)).0 e5.0 in
    let e3 = (and-eq-true_iff _ (eqb t.old 0)).0 e4.0 in
    let e2 = (and-eq-true_iff _ (eqb t.tag 0)).0 e3.0 in
    let e1 = (and-eq-true_iff (eqb t.line 0) (eqb t.count 0)).0 e2.0 in
    record {
      line = eqb-true t.line 0 e1.0;
      count = eqb-true t.count 0 e1.1;
      tag = eqb-true t.tag 0 e2.1;
      old = eqb-true t.old 0 e3.1;
      list = eqb-true t.list 0 e4.1;
      looked = eqb-true t.looked 0 e5.1;
      aim = eqb-true t.aim 0 e6.1;
      toggle = eqb-true t.toggle 0 e7.1;
      flag = eqb-true t.flag 0 e8.1;
      start = eqb-true t.start 0 e9.1;
      work = eqb-true t.work 0 e10.1;
      left = eqb-true t.left 0 e11.1;
      own = eqb-true t.own 0 e12.1;
    }

-- ---- what all tasks share

-- what shared_ok tests
pub record SharedRange (w : Shared) : Type 0 where
  pub kind : w.kind ≤ last_kind
  pub some : 1 ≤ w.n
  pub few : w.n ≤ 64
  pub modulus : modulus_ok w.kind w.modulus ≡ true
  pub arrivals : field_ok (has_sense w.kind) (w.n + 1) w.arrivals ≡ true
  pub sense : field_ok (has_sense w.kind) 2 w.sense ≡ true

pub shared_range : (w : Shared) → shared_ok w ≡ true → SharedRange w
unfolding shared_ok
shared_range w e =
    let e4 = (and-eq-true_iff _ _).0 e in
    let e3 = (and-eq-true_iff _ _).0 e4.0 in
    let e2 = (and-eq-true_iff _ _).0 e3.0 in
    let e1 = (and-eq-true_iff _ _).0 e2.0 in
    let n = is_count_lem w.n e1.1 in
    record { kind = leb-true w.kind last_kind e1.0; some = n.0; few = n.1; modulus = e2.1; arrivals = e3.1; sense = e4.1 }

pub range_shared : (w : Shared) → SharedRange w → shared_ok w ≡ true
unfolding shared_ok
range_shared w r =
    rw (le-leb w.kind last_kind r.kind, le-leb 1 w.n r.some, le-leb w.n 64 r.few, r.modulus, r.arrivals, r.sense)

-- ---- fields

-- a field that the kind uses is in range below its bound, and has it
pub used : (u : Bool) (bound x : ℕ) → u ≡ true → x < bound → field_ok u bound x ≡ true
used u bound x e h = rw (e, lt-ltb x bound h)

pub below : (u : Bool) (bound x : ℕ) → u ≡ true → field_ok u bound x ≡ true → x < bound
below u bound x e h = ltb-true x bound (rw e at h)

-- a field that is 0 is in range
pub field_zero : (u : Bool) (bound : ℕ) → (u ≡ true → 0 < bound) → field_ok u bound 0 ≡ true
field_zero u bound f = by_test (λ b. b ≡ true) u (λ e. lt-ltb 0 bound (f e)) (λ e. refl)

-- a field in range is below 256 where its bound is no more
pub field_byte : (u : Bool) (bound x : ℕ) → bound ≤ 256 → field_ok u bound x ≡ true → x ≤ 255
field_byte true bound x h e = omega (arith, ltb-true x bound e)
field_byte false bound x h e = omega (arith, eqb-true x 0 e)

-- every barrier has the lines 11 to 14
pub line_14 : (kind : ℕ) → kind ≤ last_kind → 14 ≤ last_line kind
line_14 kind known =
    by_test (λ x. 14 ≤ x) (eqb kind 0) (λ _. omega arith)
    (λ n0. by_test (λ x. 14 ≤ x) (eqb kind 1) (λ _. omega arith)
    (λ n1. by_test (λ x. 14 ≤ x) (eqb kind 2) (λ _. omega arith)
    (λ n2. by_test (λ x. 14 ≤ x) (eqb kind 3) (λ _. omega arith)
    (λ n3. by_test (λ x. 14 ≤ x) (eqb kind 4) (λ _. omega arith)
    (λ n4. absurd (omega (arith, eqb-false kind 0 n0, eqb-false kind 1 n1, eqb-false kind 2 n2, eqb-false kind 3 n3, eqb-false kind 4 n4)))))))

-- and none has a line above 18
pub line_18 : (kind : ℕ) → last_line kind ≤ 18
line_18 kind =
    by_test (λ x. x ≤ 18) (eqb kind 0) (λ _. omega arith)
    (λ _. by_test (λ x. x ≤ 18) (eqb kind 1) (λ _. omega arith)
    (λ _. by_test (λ x. x ≤ 18) (eqb kind 2) (λ _. omega arith)
    (λ _. by_test (λ x. x ≤ 18) (eqb kind 3) (λ _. omega arith)
    (λ _. by_test (λ x. x ≤ 18) (eqb kind 4) (λ _. omega arith) (λ _. omega arith)))))

-- R is 3 or more for the symmetric kind
pub modulus_3 : (r : ℕ) → modulus_ok 0 r ≡ true → 3 ≤ r
modulus_3 r e = leb-true 3 r ((and-eq-true_iff (leb 3 r) (leb r 255)).0 e).0

-- and at most 255 for every kind
pub modulus_byte : (kind r : ℕ) → modulus_ok kind r ≡ true → r ≤ 255
modulus_byte kind r =
    by_test (λ b. b ≡ true → r ≤ 255) (eqb kind 0)
    (λ _ e. leb-true r 255 ((and-eq-true_iff (leb 3 r) (leb r 255)).0 e).1) (λ _ e. omega (arith, eqb-true r 0 e))

-- the starts of an accepted table are in range
pub start_ok : (kind n : ℕ) (starts : List ℕ) (q : ℕ) → 1 ≤ n → starts_reason kind n starts ≡ 0 → field_ok (eqb kind 0) n (start_of starts q) ≡ true
start_ok kind n [] q some e = field_zero (eqb kind 0) n (λ _. some)
start_ok kind n (x ∷ xs) q some e =
    used (eqb kind 0) n (start_of (x ∷ xs) q) (starts_given kind n x xs e).0 (starts_below kind n (x ∷ xs) q some e)

-- no list holds a task of N or more
pub room_past : (w : Shared) (table : List ℕ) (q j : ℕ) → length table ≤ w.n → w.n ≤ 64 → w.n ≤ j → bit (list_room w table q) j ≡ 0
room_past w table q j short few h =
    by_test (λ x. bit x j ≡ 0) (eqb w.kind 0) (λ _. all_past w.n j h)
    (λ _. by_test (λ x. bit x j ≡ 0) (eqb w.kind 3)
    (λ _. children_bit table q (length table) j (omega arith) ∙ rw (le-ltb j (length table) (omega arith)))
    (λ _. bit_zero j))
