-- The claim of 02's P5 holds. Of the moves that a task has yet to make at each line until it is back at 11, its own move is one less, at its line,
-- and no other turn changes them.
use Rattle.std.specs.Prelude.{◌≡◌, refl, List, [], ◌∷◌, ◌≢◌, ℕ, suc, ◌+◌, ◌<◌, eqb, leb, length, take}
use Rattle.std.proofs.Common.{sym, ap, ◌∙◌, subst, arith}
use Rattle.bitset.specs.Choice.{pick}
use Rattle.bitset.specs.Set.{size_of}
use Rattle.bitset.specs.SetLaws.{size_zero, without_size}
use Rattle.parents.specs.Parents.{children_of}
use Rattle.lines.specs.declared.Task.{Task}
use Rattle.machine.specs.declared.State.{State}
use Rattle.machine.specs.Setters.{task_at}
use Rattle.machine.specs.Range.{table_of, Valid}
use Rattle.machine.specs.Turn.{effect_of, turn_of}
use Rattle.machine.proofs.TurnLaws.{turn_constants}
use Rattle.machine.proofs.KeepLaws.{turn_valid}
use Rattle.barrier.specs.Barrier.{Able}
use Rattle.barrier.specs.Place.{same_table}
use Rattle.barrier.specs.Times.{move_at, times_at}
use Rattle.barrier.specs.Work.{after_turns}
use Rattle.barrier.specs.TimesLaws.{core, Turns, moves, stays, turns}
use Rattle.tree.proofs.Lines.{by_line}
use Rattle.tree.proofs.Steps.{Looks}
use Rattle.tree.specs.Round.{children}
use Rattle.tree.specs.Loop.{JustLeft, FirstBack, LoopClaim}

-- ---- the moves yet to make

-- the moves that a task with k children, at this line with j tasks on its list, has yet to make at the line l until it is back at 11
abbrev yet : ℕ → ℕ → ℕ → ℕ → ℕ
yet k line j l =
    pick (eqb line 11) 0
    (pick (eqb l 13) (pick (eqb line 12) (k + 1) (pick (eqb line 13) (j + 1) (pick (eqb line 14) j 0)))
    (pick (eqb l 14) (pick (eqb line 12) k (pick (leb line 14) j 0))
    (pick (eqb l 18) (pick (eqb line 18) (j + 1) (k + 1))
    -- 12, 15, 16 and 17 are met once
    (pick (leb line l) 1 0))))

abbrev yet_of : ℕ → Task → ℕ → ℕ
yet_of k t l = yet k t.line (size_of t.list) l

-- what holds of each line of the loop
abbrev Each : (ℕ → Type 0) → Type 0
Each P = P 12 × P 13 × P 14 × P 15 × P 16 × P 17 × P 18

each : {P Q : ℕ → Type 0} → ((l : ℕ) → P l → Q l) → Each P → Each Q
each f a = (f 12 a.0, f 13 a.1, f 14 a.2, f 15 a.3, f 16 a.4, f 17 a.5, f 18 a.6)

both : {P Q R : ℕ → Type 0} → ((l : ℕ) → P l → Q l → R l) → Each P → Each Q → Each R
both f a b = (f 12 a.0 b.0, f 13 a.1 b.1, f 14 a.2 b.2, f 15 a.3 b.3, f 16 a.4 b.4, f 17 a.5 b.5, f 18 a.6 b.6)

-- a task goes from t to u: what t has yet to make are the moves made and what u has yet to make
record Goes (k : ℕ) (t u : Task) (made : ℕ → ℕ) : Type 0 where
  pub less : Each (λ l. yet_of k t l ≡ made l + yet_of k u l)
  pub looks : Looks u

-- one move of the task p, at its line
module _ (s : State) (p : ℕ) (ok : Valid s) (kind : s.kind ≡ 3) (able : Able s p) where
  abbrev Moves : Task → Type 0
  Moves u = Goes (children (table_of s) p) (task_at s p) u (λ l. pick (eqb (task_at s p).line l) 1 0)

  one_move : (task_at s p).line ≢ 11 → Looks (task_at s p) → Moves (effect_of s p).task
  one_move away looks =
      by_line (λ e. Moves e.task) s p ok kind able
      (λ l. absurd (away l))
      (λ l. record { less = rw l (omega arith); looks = omega arith })
      (λ l z. record { less = rw (l, z, size_zero) (omega arith); looks = omega arith })
      (λ k l on. record { less = rw l (omega arith); looks = λ _. on })
      (λ l up. record { less = rw l (omega (arith, without_size (task_at s p).list (task_at s p).looked (looks l))); looks = omega arith })
      (λ l z. record { less = rw l (omega arith); looks = omega arith })
      (λ l ne. record { less = rw l (omega arith); looks = omega arith })
      (λ l w. record { less = rw l (omega arith); looks = omega arith })
      (λ l. record { less = rw l (omega arith); looks = omega arith })
      (λ l z. record { less = rw (l, z, size_zero) (omega arith); looks = omega arith })
      (λ k l on. record { less = rw l (omega (arith, without_size (task_at s p).list k on)); looks = omega arith })

-- ---- a turn

module _ (s : State) (p : ℕ) (ok : Valid s) (kind : s.kind ≡ 3) where
  -- a move at 11 stays there or leads to 12, and one at another line doesn't lead to 12
  to_12 : Able s p → ((task_at s p).line ≡ 11 → (effect_of s p).task.line ≢ 11 → (effect_of s p).task.line ≡ 12) × ((effect_of s p).task.line ≡ 12 → (task_at s p).line ≡ 11)
  to_12 able =
      by_line (λ e. ((task_at s p).line ≡ 11 → e.task.line ≢ 11 → e.task.line ≡ 12) × (e.task.line ≡ 12 → (task_at s p).line ≡ 11)) s p ok kind able
      (λ l to left from most. (λ _ off. omega arith, λ _. l)) (λ l. omega arith) (λ l z. omega arith) (λ k l on. omega arith) (λ l up. omega arith) (λ l z. omega arith) (λ l ne. omega arith)
      (λ l w. omega arith) (λ l. omega arith) (λ l z. omega arith) (λ k l on. omega arith)

  -- so a task that its turn takes from 11 has just left it
  pub leaves_11 : (task_at s p).line ≡ 11 → (task_at (turn_of s p).state p).line ≢ 11 → JustLeft p (turn_of s p).state
  leaves_11 at away = go (turns s p p ok)
    where
      go : Turns s p p → JustLeft p (turn_of s p).state
      go (moves _ able _ e) = let same = ap (λ (t : Task). t.line) e in same ∙ (to_12 able).0 at (λ back. away (same ∙ back))
      go (stays _ e) = absurd (away (ap (λ (t : Task). t.line) e ∙ at))

  -- and whatever turn brings a task to 12, it is its own, from 11
  pub only_11 : (q : ℕ) → (task_at s p).line ≢ 12 → JustLeft p (turn_of s q).state → (q ≡ p) × ((task_at s p).line ≡ 11)
  only_11 q away left = go (turns s p q ok)
    where
      go : Turns s p q → (q ≡ p) × ((task_at s p).line ≡ 11)
      go (moves eq able _ e) = (eq, (to_12 able).1 (sym (ap (λ (t : Task). t.line) e) ∙ left))
      go (stays _ e) = absurd (away (sym (ap (λ (t : Task). t.line) e) ∙ left))

-- ---- all turns

-- the task p of a tree, in a state in range
record On (p : ℕ) (s : State) : Type 0 where
  pub valid : Valid s
  pub kind : s.kind ≡ 3
  pub looks : Looks (task_at s p)

-- the moves yet to make are told by a task but for its toggle and flag
same_core : {k : ℕ} {t u u' : Task} {made made' : ℕ → ℕ} → core u' ≡ core u → ((l : ℕ) → made' l ≡ made l) → Goes k t u made → Goes k t u' made'
same_core {k} {t} {u} {u'} {made} {made'} e m g = record { less = each same g.less; looks = subst Looks (sym e) g.looks }
  where
    same : (l : ℕ) → yet_of k t l ≡ made l + yet_of k u l → yet_of k t l ≡ made' l + yet_of k u' l
    same l h = h ∙ ap (λ (x : ℕ). x + yet_of k u l) (sym (m l)) ∙ ap (λ (x : Task). made' l + yet_of k x l) (sym e)

-- what the task p has yet to make in the state s
abbrev yet_in : ℕ → State → ℕ → ℕ
yet_in p s l = yet_of (children (table_of s) p) (task_at s p) l

-- a turn of any task q
one_turn : (s : State) (p q : ℕ) → On p s → (task_at s p).line ≢ 11 → Each (λ l. yet_in p s l ≡ move_at p l s q + yet_in p (turn_of s q).state l) × On p (turn_of s q).state
one_turn s p q on away = (
  subst (λ (table : List ℕ). Each (λ l. yet_in p s l ≡ move_at p l s q + yet_of (children table p) (task_at s' p) l)) (sym (same_table s q)) goes.less,
  record { valid = turn_valid s q on.valid; kind = (turn_constants s q).kind ∙ on.kind; looks = goes.looks },
)
  where
    s' : State
    s' = (turn_of s q).state

    by : Turns s p q → Goes (children (table_of s) p) (task_at s p) (task_at s' p) (λ l. move_at p l s q)
    by (moves _ able m e) = same_core e m (one_move s p on.valid on.kind able away on.looks)
    by (stays m e) = same_core {u = task_at s p} {made = λ l. 0} e m (record { less = omega arith; looks = on.looks })

    goes : Goes (children (table_of s) p) (task_at s p) (task_at s' p) (λ l. move_at p l s q)
    goes = by (turns s p q on.valid)

-- the moves that p makes until it is back are those that it had to make
all_turns : (p : ℕ) (ts : List ℕ) (s : State) → On p s → FirstBack p s ts → Each (λ l. times_at p l s ts ≡ yet_in p s l)
all_turns p [] s on back = rw back (refl, refl, refl, refl, refl, refl, refl)
all_turns p (q ∷ ts) s on back = let first = one_turn s p q on back.0 in both together first.0 (all_turns p ts s' first.1 back.1)
  where
    s' : State
    s' = (turn_of s q).state

    together : (l : ℕ) → yet_in p s l ≡ move_at p l s q + yet_in p s' l → times_at p l s' ts ≡ yet_in p s' l → times_at p l s (q ∷ ts) ≡ yet_in p s l
    together l less rest = ap (λ (x : ℕ). move_at p l s q + x) rest ∙ sym less

-- ---- the claim

-- p is first back where it is off 11 after each of the first turns, so many of them, and at 11 after all
first_back : (p : ℕ) (s : State) (ts : List ℕ) → ((i : ℕ) → i < length ts → (task_at (after_turns s (take i ts)) p).line ≢ 11) → (task_at (after_turns s ts) p).line ≡ 11 → FirstBack p s ts
first_back p s [] off at = at
first_back p s (q ∷ ts) off at = (off 0 (omega arith), first_back p (turn_of s q).state ts (λ i h. off (suc i) (omega arith)) at)

pub loop : LoopClaim
loop s ok kind p left ts back =
    let all = all_turns p ts s (record { valid = ok; kind = kind; looks = omega arith }) back in
    omega (arith, rw left at all)

-- Pin: the claim a second time, without its words. p is at 12; then it is off 11 until all the turns are made, and at 11 after them.
pub loop_pin : (s : State) → Valid s → s.kind ≡ 3 → (p : ℕ) → (task_at s p).line ≡ 12
    → (ts : List ℕ) → ((i : ℕ) → i < length ts → (task_at (after_turns s (take i ts)) p).line ≢ 11) → (task_at (after_turns s ts) p).line ≡ 11
    → (let k = size_of (children_of (table_of s) p) in
    (times_at p 12 s ts ≡ 1) × (times_at p 13 s ts ≡ k + 1) × (times_at p 14 s ts ≡ k) × (times_at p 15 s ts ≡ 1) × (times_at p 16 s ts ≡ 1) × (times_at p 17 s ts ≡ 1) × (times_at p 18 s ts ≡ k + 1))
loop_pin s ok kind p left ts off at =
    let m = loop s ok kind p left ts (first_back p s ts off at) in
    (m.at_12, m.at_13, m.at_14, m.at_15, m.at_16, m.at_17, m.at_18)
