-- The loop over the turns of a run that were all made, after i of them: their rows are written, and the counts and the least of them are those of
-- the state that the turns lead to. That state is nowhere in the code: the log tells what became of it.
use mathlib.Core.Path.{◌≡◌, refl, sym, ap, ◌∙◌}
use mathlib.Core.List.{List, [], ◌∷◌, ◌++◌, append-nil, append_assoc}
use mathlib.Core.Bool.{◌&&◌, not}
use Prim.Native.Nat.{ℕ, suc, ◌+◌, ◌-◌, ◌*◌, ◌≤◌, ◌<◌}
use native.Mathlib.Numerals.{add-one}
use native.Mathlib.Omega.{arith}
use lib.Dec.{eqb, ltb}
use lib.ListN.{length, get_or, take, drop, set, length-append, length-drop, length-set, drop_of_length-le}
use lib.Seq.{paste, get_or-drop, drop-cons, drop-drop}
use Rattle.bitset.specs.Choice.{pick}
use Rattle.bitset.specs.TableLaws.{table_at, table_set}
use Rattle.counts.specs.declared.Least.{Least}
use Rattle.counts.specs.Counts.{lowest, least_among, least_after}
use Rattle.counts.specs.CountsLaws.{rise_least}
use Rattle.lines.specs.Common.{max_count}
use Rattle.machine.specs.declared.State.{State}
use Rattle.machine.specs.declared.Move.{Move}
use Rattle.machine.specs.Answers.{Outcome}
use Rattle.std.specs.Prelude.{Ok, Err}
use Rattle.machine.specs.Setters.{task_at}
use Rattle.machine.specs.Range.{Valid}
use Rattle.machine.specs.RangeLaws.{range}
use Rattle.machine.specs.Least.{count_of, counts_of, least}
use Rattle.machine.specs.LeastLaws.{least_is}
use Rattle.machine.specs.Turn.{turn_of, move_number, closed_number}
use Rattle.machine.proofs.TurnLaws.{turn_makes, turn_constants}
use Rattle.machine.proofs.CountLaws as count
use Rattle.machine.proofs.RoundLaws.{lent_there, lent_least, other_made, turn_round}
use Rattle.machine.proofs.KeepLaws.{turn_valid}
use Rattle.runner.specs.Trace.{nothing, Trace, turned, trace_of}
use Rattle.runner.specs.TraceLaws.{trace_turn}
use Rattle.runner.specs.Run.{log_of}
use Rattle.runner.specs.RunLaws.{log_row}
use Rattle.rows.specs.Rows.{turn_row, row_numbers}
use Rattle.rows.specs.RowsLaws.{rows_none, rows_turn}
use Rattle.rows.specs.Counting.{rise_at, turn_counts}
use Rattle.rows.proofs.Tail.{tail_more}

pub record Going (s : State) (ts log rows₀ : List ℕ) (i : ℕ) (counts : List ℕ) (low : Least) (rows : List ℕ) : Type 0 where
  -- the state after the turns passed, and their rows
  pub state : State
  pub done : List ℕ
  pub valid : Valid state
  pub kind : state.kind ≡ s.kind
  pub tasks : state.n ≡ s.n
  pub on : (trace_of state (drop i ts)).stop ≡ nothing
  pub logged : drop (2 * i) log ≡ log_of (trace_of state (drop i ts)).made
  pub whole : row_numbers s ts ≡ done ++ row_numbers state (drop i ts)
  pub long : length done ≡ 6 * i
  pub written : rows ≡ done ++ drop (6 * i) rows₀
  pub counted : counts ≡ counts_of state
  pub lowest : low ≡ least_among (count_of state) s.n

-- the least of the counts of a state, as they are lent
least_lent : (s : State) (counts : List ℕ) (n : ℕ) → Valid s → counts ≡ counts_of s → s.n ≡ n
    → least_among (λ q. get_or (take n counts) q 0) (length (take n counts)) ≡ least_among (count_of s) n
least_lent s counts n ok e same =
    let r = range s ok in
    lent_least s n (omega (arith, r.few)) counts e (omega (arith, r.some))

-- and so the least count
least_told : (s : State) (n : ℕ) (low : Least) → s.n ≡ n → low ≡ least_among (count_of s) n → low.count ≡ least s
least_told s n low same e = ap (λ (l : Least). l.count) e ∙ ap (λ (k : ℕ). lowest (count_of s) (k - 1)) (sym same) ∙ sym (least_is s)

-- before the first turn
pub going_none : (s : State) (ts log rows counts : List ℕ) (low : Least) → Valid s → (trace_of s ts).stop ≡ nothing → log ≡ log_of (trace_of s ts).made
    → counts ≡ counts_of s → low ≡ least_among (λ q. get_or (take s.n counts) q 0) (length (take s.n counts))
    → Going s ts log rows 0 counts low rows
going_none s ts log rows counts low ok on logged counted e =
    record {
      state = s;
      done = [];
      valid = ok;
      kind = refl;
      tasks = refl;
      on = on;
      logged = logged;
      whole = refl;
      long = refl;
      written = refl;
      counted = counted;
      lowest = e ∙ least_lent s counts s.n ok counted refl;
    }

module _ {s : State} {ts log rows₀ : List ℕ} {i : ℕ} {counts : List ℕ} {low : Least} {rows : List ℕ} (g : Going s ts log rows₀ i counts low rows) where
  -- the counts are there
  pub counts_there : s.n ≤ length counts
  counts_there = lent_there g.state s.n (omega (arith, (range g.state g.valid).few, g.tasks)) counts g.counted

  -- after the last turn
  pub finished : i ≡ length ts → rows ≡ row_numbers s ts ++ drop (6 * length ts) rows₀
  finished all =
      let none : drop i ts ≡ [] = drop_of_length-le ts {i = i} (omega arith) in
      let whole : row_numbers s ts ≡ g.done = g.whole ∙ rw (none, rows_none g.state) (append-nil g.done) in
      g.written ∙ rw (whole, all)

  -- a turn is next
  module _ (less : i < length ts) where
    -- its task, and the turns after it
    abbrev p : ℕ
    p = get_or ts i 0

    abbrev rest : List ℕ
    rest = drop (suc i) ts

    abbrev after : State
    after = (turn_of g.state p).state

    -- what its move or wait made
    record Next : Type 0 where
      pub how : Move
      pub made : (turn_of g.state p).outcome ≡ Ok how
      pub on : (trace_of after rest).stop ≡ nothing
      pub logged : drop (2 * i) log ≡ (task_at g.state p).line ∷ move_number how ∷ log_of (trace_of after rest).made
      pub whole : row_numbers s ts ≡ g.done ++ turn_row g.state p after (Ok how) (row_numbers after rest)

    next : Next
    next =
        let d = drop-cons ts i 0 less in
        go (turn_of g.state p).outcome refl
        (sym (ap (λ (t : Trace). t.stop) (ap (trace_of g.state) d ∙ trace_turn g.state p rest)) ∙ g.on)
        (g.logged ∙ ap (λ (t : Trace). log_of t.made) (ap (trace_of g.state) d ∙ trace_turn g.state p rest))
        (g.whole ∙ ap (λ (l : List ℕ). g.done ++ l) (ap (row_numbers g.state) d ∙ rows_turn g.state p rest))
      where
        go : (o : Outcome) → (turn_of g.state p).outcome ≡ o
            → (turned g.state p o (trace_of after rest)).stop ≡ nothing
            → drop (2 * i) log ≡ log_of (turned g.state p o (trace_of after rest)).made
            → row_numbers s ts ≡ g.done ++ turn_row g.state p after o (row_numbers after rest)
            → Next
        go (Ok how) e on logged whole =
            record { how = how; made = e; on = on; logged = logged ∙ log_row (record { task = p; line = (task_at g.state p).line; how = how }) (trace_of after rest).made; whole = whole }
        go (Err k) e on logged whole = let z : ◌≡◌ {A = ℕ} 0 1 = cc in absurd (omega arith)

    known : p < g.state.n
    known = (turn_makes g.state p next.how next.made).known

    pub task_there : p < 64
    task_there = omega (arith, known, (range g.state g.valid).few)

    -- its row of the log
    pub log_there : 2 * i + 1 < length log
    log_there = omega (arith, length-drop (2 * i) log, ap length next.logged)

    line_is : get_or log (2 * i) 0 ≡ (task_at g.state p).line
    line_is =
        let e : 2 * i ≡ 2 * i + 0 = omega arith in
        ap (λ (k : ℕ). get_or log k 0) e ∙ sym (get_or-drop (2 * i) log 0 0) ∙ ap (λ (l : List ℕ). get_or l 0 0) next.logged

    moved_is : get_or log (2 * i + 1) 0 ≡ move_number next.how
    moved_is = sym (get_or-drop (2 * i) log 1 0) ∙ ap (λ (l : List ℕ). get_or l 1 0) next.logged

    count_is : get_or counts p 0 ≡ count_of g.state p
    count_is = ap (λ (l : List ℕ). get_or l p 0) g.counted ∙ table_at 64 (count_of g.state) p 0 task_there

    -- the rise that the log tells
    module _ (up : ℕ) (rise : up ≡ rise_at s.kind (get_or log (2 * i) 0) (get_or log (2 * i + 1) 0)) where
      abbrev counts' : List ℕ
      counts' = set counts p (get_or counts p 0 + up)

      next_is : get_or counts p 0 + up ≡ count_of after p
      next_is =
          ap (λ (x : ℕ). x + up) count_is
          ∙ ap (λ (x : ℕ). count_of g.state p + x)
          (rise ∙ ap (λ (x : ℕ). rise_at s.kind x (get_or log (2 * i + 1) 0)) line_is
          ∙ ap (rise_at s.kind (task_at g.state p).line) moved_is
          ∙ ap (λ (x : ℕ). rise_at x (task_at g.state p).line (move_number next.how)) (sym g.kind))
          ∙ sym (turn_counts g.state p next.how next.made)

      counted_more : counts' ≡ counts_of after
      counted_more =
          ap (set counts p) next_is ∙ ap (λ (l : List ℕ). set l p (count_of after p)) g.counted
          ∙ table_set 64 (count_of g.state) (count_of after) p task_there
          (λ q ne. other_made g.state p g.valid known next.how next.made q ne)

      same_tasks : after.n ≡ s.n
      same_tasks = (turn_constants g.state p).n ∙ g.tasks

      -- it stays within its limit, and the counts are there still
      pub next_room : get_or counts p 0 + up ≤ max_count
      next_room = rw next_is ((range after (turn_valid g.state p g.valid)).tasks p (rw (turn_constants g.state p).n known)).count

      pub counts_there' : s.n ≤ length counts'
      counts_there' = rw (length-set counts p (get_or counts p 0 + up)) (counts_there)

      -- and the least count after it
      module _ (low' : Least) (e : low' ≡ least_after low (get_or counts p 0) (get_or counts p 0 + up) (λ q. get_or (take s.n counts') q 0) (length (take s.n counts'))) where
        lowest_more : low' ≡ least_among (count_of after) s.n
        lowest_more =
            e
            ∙ ap (λ (m : Least). pick (not (eqb (get_or counts p 0 + up) (get_or counts p 0)) && eqb (get_or counts p 0) low.count)
            (pick (ltb 1 low.tasks) (record { count = low.count; tasks = low.tasks - 1 }) m) low)
            (least_lent after counts' s.n (turn_valid g.state p g.valid) counted_more same_tasks)
            ∙ ap (λ (l : Least). least_after l (get_or counts p 0) (get_or counts p 0 + up) (count_of after) s.n) g.lowest
            ∙ ap (λ (x : ℕ). least_after (least_among (count_of g.state) s.n) (get_or counts p 0) x (count_of after) s.n) next_is
            ∙ ap (λ (x : ℕ). least_after (least_among (count_of g.state) s.n) x (count_of after p) (count_of after) s.n) count_is
            ∙ sym (rise_least (count_of g.state) (count_of after) s.n p (omega (arith, known, g.tasks))
            (λ q ne. other_made g.state p g.valid known next.how next.made q ne) (count.turn_counts g.state p p))

        low_is : low.count ≡ least g.state
        low_is = least_told g.state s.n low g.tasks g.lowest

        low'_is : low'.count ≡ least after
        low'_is = least_told after s.n low' same_tasks lowest_more

        -- it rises where the turn closes a round
        pub low_up : low.count ≤ low'.count
        low_up = omega (arith, low_is, low'_is, turn_round g.state p next.how next.made)

        closed_is : low'.count - low.count ≡ closed_number next.how
        closed_is = omega (arith, low_is, low'_is, turn_round g.state p next.how next.made)

        abbrev row : List ℕ
        row = turn_row g.state p after (Ok next.how) []

        -- the same, as the code holds it
        abbrev told_row : List ℕ
        told_row = p ∷ get_or log (2 * i) 0 ∷ get_or log (2 * i + 1) 0 ∷ (get_or counts p 0 + up) ∷ low'.count ∷ (low'.count - low.count) ∷ []

        pub goes_on_lem : (rows' : List ℕ) → rows' ≡ paste rows (6 * i) told_row 6
            → Going s ts log rows₀ (i + 1) counts' low' rows'
        goes_on_lem rows' wrote =
            record {
              state = after;
              done = g.done ++ row;
              valid = turn_valid g.state p g.valid;
              kind = (turn_constants g.state p).kind ∙ g.kind;
              tasks = same_tasks;
              on = rw (add-one i) next.on;
              logged = more_logged;
              whole = rw (add-one i) (next.whole ∙ sym (append_assoc g.done row (row_numbers after rest)));
              long = omega (arith, length-append g.done row, g.long);
              written = more_written;
              counted = counted_more;
              lowest = lowest_more;
            }
          where
            more_logged : drop (2 * (i + 1)) log ≡ log_of (trace_of after (drop (i + 1) ts)).made
            more_logged =
                let e : 2 * (i + 1) ≡ 2 * i + 2 = omega arith in
                rw (e, add-one i) (sym (drop-drop 2 (2 * i) log) ∙ ap (drop 2) next.logged)

            more_written : rows' ≡ (g.done ++ row) ++ drop (6 * (i + 1)) rows₀
            more_written =
                let e : 6 * (i + 1) ≡ 6 * i + 6 = omega arith in
                let told : told_row ≡ row = cc (line_is, moved_is, next_is, closed_is, low'_is) in
                wrote ∙ ap (λ (l : List ℕ). paste rows (6 * i) l 6) told
                ∙ tail_more g.done rows₀ rows (6 * i) g.written g.long row ∙ rw e
