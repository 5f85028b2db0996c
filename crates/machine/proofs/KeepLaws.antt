-- Every turn keeps a state in range (01: "every turn keeps a state in range").
use Rattle.std.specs.Prelude.{◌≡◌, refl, Bool, true, ◌||◌, not, List, ◌≢◌, ℕ, ◌+◌, ◌-◌, ◌^◌, ◌≤◌, ◌<◌, eqb, leb, ltb, length, get_or, Ok, Err}
use Rattle.std.proofs.Common.{sym, ◌∙◌, subst, lt_of_not-le, mod-lt, arith, length-take, length-set, get_or-set_same, get_or-set_other, ne_eqb, lt-ltb, le-leb, ltb-true, leb-false, eqb-true}
use Rattle.std.proofs.Math.Decide.{ℕ_discrete, dec_lt}
use Rattle.std.proofs.Math.Seq.{set_out}
use Rattle.std.proofs.lemmas.Bool.{eqb-false}
use Rattle.bitset.specs.Choice.{pick}
use Rattle.bitset.specs.ChoiceLaws.{by_test}
use Rattle.bitset.specs.Set.{bit, within_of, all_of, least_of, first_from, without_of}
use Rattle.bitset.specs.SetLaws.{all_lt, least_of_list, first_member, within_lt, within_member, within_self, without_within}
use Rattle.parents.specs.Parents.{children_of}
use Rattle.parents.specs.ParentsLaws.{children_lt}
use Rattle.lines.specs.declared.Task.{Task}
use Rattle.setup.specs.Kinds.{has_sense, last_line}
use Rattle.setup.specs.Range.{field_ok, list_room, task_zero}
use Rattle.setup.specs.RangeLaws.{used, below, modulus_3, line_14, room_past}
use Rattle.machine.specs.declared.State.{State}
use Rattle.machine.specs.declared.Move.{Move}
use Rattle.machine.specs.declared.Move.TheVariants.{Moved, Waited}
use Rattle.machine.specs.Answers.{Outcome}
use Rattle.lines.specs.declared.Effect.{Effect}
use Rattle.lines.specs.declared.Act.{Act}
use Rattle.lines.specs.declared.Act.TheVariants.{Moves, Waits, Refuses}
use Rattle.lines.specs.declared.Write.{Write}
use Rattle.lines.specs.declared.Write.TheVariants.{Nothing, Arrivals, Sense, Toggle, Flag}
use Rattle.lines.specs.Setters.{with_line, with_tag, with_old, with_list, with_toggle, with_flag}
use Rattle.machine.specs.Setters.{task_at, with_task, with_arrivals, with_sense, with_moves, with_waits}
use Rattle.machine.specs.Tally.{max_tally, tallied}
use Rattle.machine.specs.Range.{shared_of, table_of, tally_ok, Valid}
use Rattle.lines.specs.Common.{max_count, negated, moves, awaits, work, raised, counts, choose, take_off}
use Rattle.lines.specs.Symmetric.{next_tag, symmetric_line}
use Rattle.lines.specs.Increment.{increment_line}
use Rattle.lines.specs.Ring.{nz, next_task, ring_line}
use Rattle.lines.specs.Tree.{tree_line}
use Rattle.lines.specs.Centralized.{centralized_line}
use Rattle.lines.specs.Words.{place_of}
use Rattle.lines.specs.LineLaws.{by_kind, by_symmetric, by_increment, by_ring, by_tree, by_centralized, Does, keeps, raises, stays, refused_7, refused_11}
use Rattle.machine.specs.Turn.{effect_of, written, moved_to, applied, turn_of}
use Rattle.machine.proofs.TurnLaws.{effect_does, Makes, turn_makes, turn_applied, written_tallies, moved_n, put_same, put_other}
use Rattle.machine.specs.RangeLaws.{TaskIn, Tallies, InRange, range, valid, present}

-- ---- storing keeps the range

keep_task : (s : State) (p : ℕ) (t : Task) → InRange s → p < s.n → TaskIn s p t → InRange (with_task s p t)
keep_task s p t r h tr =
    record {
      kind = r.kind;
      some = r.some;
      few = r.few;
      modulus = r.modulus;
      arrivals = r.arrivals;
      sense = r.sense;
      parents = r.parents;
      tasks = λ q l. at q l (ℕ_discrete q p);
      rest = λ q m l. subst (λ (x : Task). task_zero x ≡ true) (sym (put_other s p q t (omega arith))) (r.rest q m l);
      moves = r.moves;
      waits = r.waits;
    }
  where
    at : (q : ℕ) → q < s.n → Dec (q ≡ p) → TaskIn s q (task_at (with_task s p t) q)
    at q l (yes e) =
        subst (λ (x : ℕ). TaskIn s x (task_at (with_task s p t) x)) (sym e)
        (subst (TaskIn s p) (sym (put_same s p t (present s p (r.tasks p h).line_from))) tr)
    at q l (no ne) = subst (TaskIn s q) (sym (put_other s p q t ne)) (r.tasks q l)

-- what a line may write besides its own task
abbrev WriteOk : State → Write → Type 0
WriteOk s Nothing = Unit {0}
WriteOk s (Arrivals x) = field_ok (has_sense s.kind) (s.n + 1) x ≡ true
WriteOk s (Sense x) = field_ok (has_sense s.kind) 2 x ≡ true
WriteOk s (Toggle q x) = (q < s.n) × (field_ok (eqb s.kind 2) 2 x ≡ true)
WriteOk s (Flag q x) = (q < s.n) × (field_ok (eqb s.kind 3) 2 x ≡ true)

re_toggle : (s : State) (q : ℕ) (t : Task) (x : ℕ) → TaskIn s q t → field_ok (eqb s.kind 2) 2 x ≡ true → TaskIn s q (with_toggle t x)
re_toggle s q t x r h = search

re_flag : (s : State) (q : ℕ) (t : Task) (x : ℕ) → TaskIn s q t → field_ok (eqb s.kind 3) 2 x ≡ true → TaskIn s q (with_flag t x)
re_flag s q t x r h = search

re_arrivals : (s : State) (q : ℕ) (t : Task) (x : ℕ) → TaskIn s q t → TaskIn (with_arrivals s x) q t
re_arrivals s q t x r = search

re_sense : (s : State) (q : ℕ) (t : Task) (x : ℕ) → TaskIn s q t → TaskIn (with_sense s x) q t
re_sense s q t x r = search

keep_written : (w : Write) (s : State) → InRange s → WriteOk s w → InRange (written w s)
keep_written Nothing s r ok = r
keep_written (Arrivals x) s r ok =
    record {
      kind = r.kind;
      some = r.some;
      few = r.few;
      modulus = r.modulus;
      arrivals = ok;
      sense = r.sense;
      parents = r.parents;
      tasks = λ q l. re_arrivals s q (task_at s q) x (r.tasks q l);
      rest = r.rest;
      moves = r.moves;
      waits = r.waits;
    }
keep_written (Sense x) s r ok =
    record {
      kind = r.kind;
      some = r.some;
      few = r.few;
      modulus = r.modulus;
      arrivals = r.arrivals;
      sense = ok;
      parents = r.parents;
      tasks = λ q l. re_sense s q (task_at s q) x (r.tasks q l);
      rest = r.rest;
      moves = r.moves;
      waits = r.waits;
    }
keep_written (Toggle q x) s r ok = keep_task s q _ r ok.0 (re_toggle s q (task_at s q) x (r.tasks q ok.0) ok.1)
keep_written (Flag q x) s r ok = keep_task s q _ r ok.0 (re_flag s q (task_at s q) x (r.tasks q ok.0) ok.1)

-- ---- every line keeps the range

-- what a move leaves is in range; a wait and a refusal leave nothing
abbrev Good : State → ℕ → Act → Task → Write → Type 0
Good s p Moves t w = TaskIn s p t × WriteOk s w
Good s p Waits t w = Unit {0}
Good s p (Refuses k) t w = Unit {0}

abbrev GoodEffect : State → ℕ → Effect → Type 0
GoodEffect s p e = Good s p e.act e.task e.write

module _ (s : State) (p : ℕ) (r : InRange s) (h : p < s.n) where
  tr : TaskIn s p (task_at s p)
  tr = r.tasks p h

  list_lt : (task_at s p).list < 2 ^ 64
  list_lt = within_lt 64 (task_at s p).list (list_room (shared_of s) (table_of s) p) tr.list

  -- the least task of a list is on it
  least_listed : (task_at s p).list ≢ 0 → bit (task_at s p).list (least_of (task_at s p).list) ≡ 1
  least_listed ne = (least_of_list (task_at s p).list (omega arith) list_lt).0

  -- a task on a list is a task
  listed_known : (k : ℕ) → bit (task_at s p).list k ≡ 1 → k < s.n
  listed_known k e = lt_of_not-le (λ l. absurd (omega (arith, room_past (shared_of s) (table_of s) p k (omega (arith, length-take s.n s.parents)) r.few l, within_member 64 (task_at s p).list (list_room (shared_of s) (table_of s) p) k tr.list e)))

  -- the line alone
  to_line : (l : ℕ) → 11 ≤ l → l ≤ last_line s.kind → TaskIn s p (with_line (task_at s p) l)
  to_line l a b = let r = tr in search

  good_work : GoodEffect s p (work (task_at s p))
  good_work =
      let l14 = line_14 s.kind r.kind in
      let o = tr in
      by_test (GoodEffect s p) (ltb 1 (task_at s p).left) (λ more. let m = ltb-true 1 (task_at s p).left more in (search arith, tt)) (λ _. (search arith, tt))

  good_choose : (exit k : ℕ) → 11 ≤ exit → exit ≤ last_line s.kind → eqb s.kind 0 || eqb s.kind 3 ≡ true
      → ((task_at s p).list ≢ 0 → bit (task_at s p).list k ≡ 1) → GoodEffect s p (choose exit k (task_at s p))
  good_choose exit k a b u listed =
      by_test (GoodEffect s p) (eqb (task_at s p).list 0) (λ e. (to_line exit a b, tt))
      (λ e.
      let l14 = line_14 s.kind r.kind in
      let l = used (eqb s.kind 0 || eqb s.kind 3) s.n k u (listed_known k (listed (eqb-false (task_at s p).list 0 e))) in
      let o = tr in
      (search arith, tt))

  good_take_off : GoodEffect s p (take_off (task_at s p))
  good_take_off =
      let l14 = line_14 s.kind r.kind in
      let w = without_within 64 (task_at s p).list (list_room (shared_of s) (table_of s) p) (task_at s p).looked tr.list in
      let o = tr in
      (search arith, tt)

  -- the count rises only below its limit
  good_counts : (e : Effect) → ((task_at s p).count < max_count → GoodEffect s p e) → GoodEffect s p (counts (task_at s p) e)
  good_counts e f = by_test (GoodEffect s p) (ltb (task_at s p).count max_count) (λ l. f (ltb-true (task_at s p).count max_count l)) (λ l. tt)

  good_awaits : (b : Bool) (e : Effect) → GoodEffect s p e → GoodEffect s p (awaits b (task_at s p) e)
  good_awaits b e g = by_test (GoodEffect s p) b (λ _. g) (λ _. tt)

  good_symmetric : s.kind ≡ 0 → (tag : ℕ) → GoodEffect s p (symmetric_line (task_at s p).line s.n s.modulus tag (task_at s p))
  good_symmetric k tag =
      by_symmetric (GoodEffect s p) (task_at s p).line (task_at s p) (λ _. tt) (λ _. good_work) s.n s.modulus tag
      (λ _. good_counts _ line_12)
      (λ _. good_choose 11 (first_from (task_at s p).list (task_at s p).start) (omega arith) (omega (arith, line_14 s.kind r.kind)) (rw k)
      (first_member (task_at s p).list (task_at s p).start list_lt).1)
      (λ _. good_awaits (not (eqb tag (task_at s p).old)) (take_off (task_at s p)) good_take_off)
    where
      line_12 : (task_at s p).count < max_count → GoodEffect s p (moves (with_line (with_list (raised (with_tag (with_old (task_at s p) (task_at s p).tag) (next_tag s.modulus (task_at s p).tag))) (all_of s.n)) 13) Nothing)
      line_12 low =
          let l14 = line_14 s.kind r.kind in
          let three = modulus_3 s.modulus (rw k at r.modulus) in
          let next : next_tag s.modulus (task_at s p).tag < s.modulus
          = rw (ne_eqb s.modulus 0 (omega arith)) (mod-lt ((task_at s p).tag + 1) (omega arith)) in
          let g = used (eqb s.kind 0) s.modulus (next_tag s.modulus (task_at s p).tag) (rw k) next in
          let w : within_of (all_of s.n) (list_room (shared_of s) (table_of s) p) ≡ true = rw k (within_self 64 (all_of s.n) (all_lt s.n)) in
          let o = tr in
          (search arith, tt)

  -- the lines of the kinds that share arrivals and a sense
  module _ (l16 : last_line s.kind ≡ 16) (shares : has_sense s.kind ≡ true) where
    good_arrives : (last : Bool) (x : ℕ) → x ≤ s.n → GoodEffect s p (counts (task_at s p) (moves (with_line (raised (task_at s p)) (pick last 14 16)) (Arrivals x)))
    good_arrives last x few =
        good_counts (moves (with_line (raised (task_at s p)) (pick last 14 16)) (Arrivals x))
        (λ low. (
          by_test (λ l. TaskIn s p (with_line (raised (task_at s p)) l)) last (λ _. up low 14 (omega arith) (omega (arith, l16))) (λ _. up low 16 (omega arith) (omega (arith, l16))),
          used (has_sense s.kind) (s.n + 1) x shares (omega arith),
        ))
      where
        up : (task_at s p).count < max_count → (l : ℕ) → 11 ≤ l → l ≤ last_line s.kind → TaskIn s p (with_line (raised (task_at s p)) l)
        up low l a b = let o = tr in search arith

    good_resets : (x : ℕ) → x ≤ s.n → GoodEffect s p (moves (with_line (task_at s p) 15) (Arrivals x))
    good_resets x few = (to_line 15 (omega arith) (omega (arith, l16)), used (has_sense s.kind) (s.n + 1) x shares (omega arith))

    good_turns : (x : ℕ) → x < 2 → GoodEffect s p (moves (with_line (task_at s p) 11) (Sense x))
    good_turns x bit = (to_line 11 (omega arith) (omega (arith, l16)), used (has_sense s.kind) 2 x shares bit)

    good_leaves : (b : Bool) → GoodEffect s p (awaits b (task_at s p) (moves (with_line (task_at s p) 11) Nothing))
    good_leaves b = good_awaits b (moves (with_line (task_at s p) 11) Nothing) (to_line 11 (omega arith) (omega (arith, l16)), tt)

  negated_bit : (b : ℕ) → negated b < 2
  negated_bit b = by_test (λ x. x < 2) (eqb b 0) (λ _. omega arith) (λ _. omega arith)

  good_increment : s.kind ≡ 1 → GoodEffect s p (increment_line (task_at s p).line s.n s.arrivals s.sense (task_at s p))
  good_increment k =
      by_increment (GoodEffect s p) (task_at s p).line (task_at s p) (λ _. tt) (λ _. good_work) s.n s.arrivals s.sense
      (λ _. let a = used (eqb s.kind 1) 2 (negated s.sense) (rw k) (negated_bit s.sense) in let o = tr in let l = l16 in (search arith, tt))
      (λ _. by_test (GoodEffect s p) (leb s.n s.arrivals) (λ _. tt)
      (λ few. good_arrives l16 (rw k) (eqb (s.arrivals + 1) s.n) (s.arrivals + 1) (omega (arith, leb-false s.n s.arrivals few))))
      (λ _. good_resets l16 (rw k) 0 (omega arith))
      (λ _. good_turns l16 (rw k) (task_at s p).aim (below (eqb s.kind 1) 2 (task_at s p).aim (rw k) tr.aim))
      (λ _. good_leaves l16 (rw k) (eqb s.sense (task_at s p).aim))
    where
      l16 : last_line s.kind ≡ 16
      l16 = rw k

  good_centralized : s.kind ≡ 4 → GoodEffect s p (centralized_line (task_at s p).line s.n s.arrivals s.sense (task_at s p))
  good_centralized k =
      by_centralized (GoodEffect s p) (task_at s p).line (task_at s p) (λ _. tt) (λ _. good_work) s.n s.arrivals s.sense
      (λ _. let a = used (eqb s.kind 4) 2 (negated (task_at s p).own) (rw k) (negated_bit (task_at s p).own) in let o = tr in let l = l16 in (search arith, tt))
      (λ _. by_test (GoodEffect s p) (eqb s.arrivals 0) (λ _. tt)
      (λ _. good_arrives l16 (rw k) (eqb s.arrivals 1) (s.arrivals - 1)
      (omega (arith, below (has_sense s.kind) (s.n + 1) s.arrivals (rw k) r.arrivals))))
      (λ _. good_resets l16 (rw k) s.n (omega arith))
      (λ _. good_turns l16 (rw k) (task_at s p).own (below (eqb s.kind 4) 2 (task_at s p).own (rw k) tr.own))
      (λ _. good_leaves l16 (rw k) (eqb s.sense (task_at s p).own))
    where
      l16 : last_line s.kind ≡ 16
      l16 = rw k

  good_ring : s.kind ≡ 2 → GoodEffect s p (ring_line (task_at s p).line s.n p (task_at s p))
  good_ring k =
      by_ring (GoodEffect s p) (task_at s p).line (task_at s p) (λ _. tt) (λ _. good_work) s.n p
      (λ _. good_awaits (eqb (task_at s p).toggle (nz p)) (moves (with_line (task_at s p) 13) Nothing) (to_line 13 (omega arith) (omega (arith, l15)), tt))
      (λ _. good_counts (moves (with_line (raised (task_at s p)) 14) (Toggle (next_task s.n p) 1)) (λ low. (let o = tr in let l = l15 in search arith, (next, used (eqb s.kind 2) 2 1 (rw k) (omega arith)))))
      (λ _. good_awaits (not (eqb (task_at s p).toggle (nz p))) (moves (with_line (task_at s p) 15) Nothing) (to_line 15 (omega arith) (omega (arith, l15)), tt))
      (λ _. (to_line 11 (omega arith) (omega (arith, l15)), (next, used (eqb s.kind 2) 2 0 (rw k) (omega arith))))
    where
      l15 : last_line s.kind ≡ 15
      l15 = rw k

      next : next_task s.n p < s.n
      next = by_test (λ x. x < s.n) (ltb (p + 1) s.n) (λ l. ltb-true (p + 1) s.n l) (λ l. omega arith)

  good_tree : s.kind ≡ 3 → (flag : ℕ) → GoodEffect s p (tree_line (task_at s p).line (table_of s) p flag (task_at s p))
  good_tree k flag =
      by_tree (GoodEffect s p) (task_at s p).line (task_at s p) (λ _. tt) (λ _. good_work) (table_of s) p flag
      (λ _. (listed 13 (omega arith) (omega (arith, l18)), tt))
      (λ _. good_choose 15 (least_of (task_at s p).list) (omega arith) (omega (arith, l18)) (rw k) least_listed)
      (λ _. good_awaits (eqb flag 1) (take_off (task_at s p)) good_take_off)
      (λ _. good_counts (moves (with_line (raised (with_flag (task_at s p) (pick (eqb p 0) (task_at s p).flag 1))) 16) Nothing) (λ low. (let o = tr in let l = l18 in let f = flagged in search arith, tt)))
      (λ _. good_awaits (eqb p 0 || eqb (task_at s p).flag 0) (moves (with_line (task_at s p) 17) Nothing) (to_line 17 (omega arith) (omega (arith, l18)), tt))
      (λ _. (listed 18 (omega arith) (omega (arith, l18)), tt))
      (λ _. by_test (GoodEffect s p) (eqb (task_at s p).list 0) (λ _. (to_line 11 (omega arith) (omega (arith, l18)), tt))
      (λ e. (cleared, (listed_known (least_of (task_at s p).list) (least_listed (eqb-false (task_at s p).list 0 e)), used (eqb s.kind 3) 2 0 (rw k) (omega arith)))))
    where
      l18 : last_line s.kind ≡ 18
      l18 = rw k

      listed : (l : ℕ) → 11 ≤ l → l ≤ last_line s.kind → TaskIn s p (with_line (with_list (task_at s p) (children_of (table_of s) p)) l)
      listed l a b =
          let w : within_of (children_of (table_of s) p) (list_room (shared_of s) (table_of s) p) ≡ true
          = rw k (within_self 64 (children_of (table_of s) p) (children_lt (table_of s) p (length (table_of s)))) in
          let o = tr in
          search arith

      flagged : field_ok (eqb s.kind 3) 2 (pick (eqb p 0) (task_at s p).flag 1) ≡ true
      flagged = by_test (λ x. field_ok (eqb s.kind 3) 2 x ≡ true) (eqb p 0) (λ _. tr.flag) (λ _. used (eqb s.kind 3) 2 1 (rw k) (omega arith))

      cleared : TaskIn s p (with_list (task_at s p) (without_of (task_at s p).list (least_of (task_at s p).list)))
      cleared =
          let w = without_within 64 (task_at s p).list (list_room (shared_of s) (table_of s) p) (least_of (task_at s p).list) tr.list in
          let o = tr in
          search arith

  good_effect : GoodEffect s p (effect_of s p)
  unfolding effect_of
  good_effect =
      by_kind (GoodEffect s p) (shared_of s) (table_of s) p (task_at s p) (task_at s (task_at s p).looked)
      (λ k. good_symmetric k _) good_increment good_ring (λ k. good_tree k _) good_centralized tt

-- ---- the law

-- a state with a move stored is in range
keep_moved : (s : State) (p : ℕ) (t : Task) (w : Write) → InRange s → p < s.n → TaskIn s p t → WriteOk s w → InRange (written w (with_task s p t))
keep_moved s p t w r h tr ok = keep_written w (with_task s p t) (keep_task s p t r h tr) (write_ok w ok)
  where
    write_ok : (w : Write) → WriteOk s w → WriteOk (with_task s p t) w
    write_ok Nothing ok = ok
    write_ok (Arrivals x) ok = ok
    write_ok (Sense x) ok = ok
    write_ok (Toggle q x) ok = ok
    write_ok (Flag q x) ok = ok

-- a tally below its limit may rise by one
more_tallied : (n p : ℕ) (l : List ℕ) → Tallies n l → p < n → get_or l p 0 < max_tally → Tallies n (tallied l p 1)
more_tallied n p l r h room =
    record {
      long = length-set l p (get_or l p 0 + 1) ∙ r.long;
      each = λ q k. at q k (ℕ_discrete q p) (dec_lt p (length l));
    }
  where
    at : (q : ℕ) → q < 64 → Dec (q ≡ p) → Dec (p < length l) → tally_ok n q (get_or (tallied l p 1) q 0) ≡ true
    at q k (yes e) (yes there) = rw (e, get_or-set_same l p (get_or l p 0 + 1) 0 there, lt-ltb p n h) (le-leb (get_or l p 0 + 1) max_tally (omega arith))
    at q k (yes e) (no past) = rw (set_out l p (get_or l p 0 + 1) (omega arith)) (r.each q k)
    at q k (no ne) there = rw (get_or-set_other l p q (get_or l p 0 + 1) 0 ne) (r.each q k)

keep_tallies : (s : State) (x y : List ℕ) → InRange s → Tallies s.n x → Tallies s.n y → InRange (with_waits (with_moves s x) y)
keep_tallies s x y r mx wy =
    record {
      kind = r.kind;
      some = r.some;
      few = r.few;
      modulus = r.modulus;
      arrivals = r.arrivals;
      sense = r.sense;
      parents = r.parents;
      tasks = r.tasks;
      rest = r.rest;
      moves = mx;
      waits = wy;
    }

-- what a turn that is made leaves
keep_made : (s : State) (p : ℕ) (how : Move) → Makes s p how → InRange (applied (Ok how) s p (effect_of s p).task (effect_of s p).write)
keep_made s p (Moved c) m =
    let r = range s m.valid in
    let g : Good s p Moves (effect_of s p).task (effect_of s p).write = rw m.act at (good_effect s p r m.known) in
    let x = keep_moved s p (effect_of s p).task (effect_of s p).write r m.known g.0 g.1 in
    keep_tallies (moved_to s p (effect_of s p).task (effect_of s p).write) _ _ x
    (more_tallied _ p _ x.moves (rw (moved_n s p (effect_of s p).task (effect_of s p).write) m.known)
    (rw (written_tallies (effect_of s p).write s p (effect_of s p).task).0 m.room))
    x.waits
keep_made s p Waited m =
    let r = range s m.valid in
    keep_tallies s _ _ r r.moves (more_tallied s.n p s.waits r.waits m.known m.room)

pub turn_valid : (s : State) (p : ℕ) → Valid s → Valid (turn_of s p).state
turn_valid s p ok = rw (turn_applied s p) (go (turn_of s p).outcome refl)
  where
    go : (o : Outcome) → (turn_of s p).outcome ≡ o → Valid (applied o s p (effect_of s p).task (effect_of s p).write)
    go (Ok how) e = valid (applied (Ok how) s p (effect_of s p).task (effect_of s p).write) (keep_made s p how (turn_makes s p how e))
    go (Err k) e = ok

-- ---- the places that a turn reads and writes are tasks

pub looked_known : (s : State) (p : ℕ) → Valid s → p < s.n → (task_at s p).looked < s.n
looked_known s p ok h =
    by_test (λ b. b ≡ true → (task_at s p).looked < s.n) (eqb s.kind 0 || eqb s.kind 3)
    (λ _ e. ltb-true (task_at s p).looked s.n e) (λ _ e. omega (arith, eqb-true (task_at s p).looked 0 e))
    ((range s ok).tasks p h).looked

pub place_known : (s : State) (p : ℕ) → Valid s → p < s.n → place_of (effect_of s p).write p < s.n
place_known s p ok h = go (effect_of s p) (effect_does s p) (good_effect s p (range s ok) h)
  where
    at : (w : Write) → WriteOk s w → place_of w p < s.n
    at Nothing ok = h
    at (Arrivals x) ok = h
    at (Sense x) ok = h
    at (Toggle q x) ok = ok.0
    at (Flag q x) ok = ok.0

    go : (e : Effect) → Does (shared_of s) (task_at s p) e → GoodEffect s p e → place_of e.write p < s.n
    go _ (keeps {u} {w} c) g = at w g.1
    go _ (raises {u} {w} l c) g = at w g.1
    go _ stays g = h
    go _ (refused_7 k) g = h
    go _ (refused_11 l) g = h
