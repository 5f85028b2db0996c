-- Laws of the passes: no cutting of a schedule into stretches that each name every task has more of them, and the passes are one
-- that has as many. And of the first turn that is no task.
use Rattle.std.specs.Prelude.{◌≡◌, refl, ◌↔◌, Bool, true, false, ℕ, zero, suc, ◌*◌, ◌≤◌, ◌<◌, ltb, length, take, get_or, Ok, Err}
use Rattle.std.proofs.Common.{sym, ap, ◌∙◌, true≢false, arith, length-append, ltb-true, ltb-false, eqb-true, eq-eqb, le-leb}
use mathlib.Core.List.{List, [], ◌∷◌, ◌++◌, append_assoc, append-nil, flatten, map}
use Rattle.std.proofs.Math.Decide.{dec_lt}
use Rattle.std.proofs.Math.Seq.{append_snoc, take-append-add}
use Rattle.bitset.specs.Choice.{pick}
use Rattle.reason.specs.Placed.{placed}
use Rattle.schedule.specs.Stretch.{names_all, EachNamesAll, CutInto}
use Rattle.schedule.specs.StretchLaws.{empty_unnamed, Covers, covers_named, covers_more, covers_longer}
use Rattle.schedule.specs.Passes.{passes_from, passes_of, max_turns, unknown_at, all_tasks, passes_answer}

-- the next turn ends the pass, or it does not
pub next_turn : (n : ℕ) (since : List ℕ) (t : ℕ) (ts : List ℕ) (P : List (List ℕ) → Type 0)
    → (names_all n (since ++ t ∷ []) ≡ true → P ((since ++ t ∷ []) ∷ passes_from n [] ts))
    → (names_all n (since ++ t ∷ []) ≡ false → P (passes_from n (since ++ t ∷ []) ts)) → P (passes_from n since (t ∷ ts))
unfolding passes_from
next_turn n since t ts P ends on = go (names_all n (since ++ t ∷ [])) ends on
  where
    go : (b : Bool) → (b ≡ true → P ((since ++ t ∷ []) ∷ passes_from n [] ts)) → (b ≡ false → P (passes_from n (since ++ t ∷ []) ts))
        → P (pick b ((since ++ t ∷ []) ∷ passes_from n [] ts) (passes_from n (since ++ t ∷ []) ts))
    go true ends on = ends refl
    go false ends on = on refl

-- ---- no cutting has more stretches

-- how many passes end in the turns to come
abbrev ends : ℕ → List ℕ → List ℕ → ℕ
ends n since ts = length (passes_from n since ts)

-- a pass that has named more ends as many, and no two beginnings differ by more than one
record Greedy (n : ℕ) (ts : List ℕ) : Type 0 where
  more : (s u : List ℕ) → Covers n s u → ends n s ts ≤ ends n u ts
  near : (s u : List ℕ) → ends n s ts ≤ suc (ends n u ts)

greedy : (n : ℕ) (ts : List ℕ) → Greedy n ts
unfolding passes_from
greedy n [] = record { more = λ s u c. omega arith; near = λ s u. omega arith }
greedy n (t ∷ ts) =
    let g = greedy n ts in
    record {
      more = λ s u c.
          let s' : List ℕ = s ++ t ∷ [] in
          let u' : List ℕ = u ++ t ∷ [] in
          let c' = covers_more n s u (t ∷ []) c in
          next_turn n s t ts (λ ps. length ps ≤ ends n u (t ∷ ts))
          (λ a. next_turn n u t ts (λ qs. ends n [] ts < length qs) (λ b. omega arith) (λ b. absurd (true≢false (sym (covers_named n s' u' c' a) ∙ b))))
          (λ a. next_turn n u t ts (λ qs. ends n s' ts ≤ length qs) (λ b. g.near s' []) (λ b. g.more s' u' c'));
      near = λ s u.
          let s' : List ℕ = s ++ t ∷ [] in
          let u' : List ℕ = u ++ t ∷ [] in
          next_turn n s t ts (λ ps. length ps ≤ suc (ends n u (t ∷ ts)))
          (λ a. next_turn n u t ts (λ qs. ends n [] ts < suc (length qs)) (λ b. omega arith) (λ b. omega (arith, g.more [] u' (covers_longer n [] u'))))
          (λ a. next_turn n u t ts (λ qs. ends n s' ts ≤ suc (length qs)) (λ b. omega (arith, g.near s' [])) (λ b. g.near s' u'));
    }

-- turns put in front lose no pass
ends_longer : (n : ℕ) (since s ts : List ℕ) → ends n [] ts ≤ ends n since (s ++ ts)
ends_longer n since [] ts = (greedy n ts).more [] since (covers_longer n [] since)
ends_longer n since (t ∷ s) ts =
    next_turn n since t (s ++ ts) (λ ps. ends n [] ts ≤ length ps) (λ e. omega (arith, ends_longer n [] s ts)) (λ e. ends_longer n (since ++ t ∷ []) s ts)

-- a stretch that names every task ends a pass
ends_stretch : (n : ℕ) (since s ts : List ℕ) → names_all n since ≡ false → names_all n (since ++ s) ≡ true → ends n [] ts < ends n since (s ++ ts)
ends_stretch n since [] ts o h = absurd (true≢false (sym (rw append-nil at h) ∙ o))
ends_stretch n since (t ∷ s) ts o h =
    next_turn n since t (s ++ ts) (λ ps. ends n [] ts < length ps)
    (λ e. omega (arith, ends_longer n [] s ts))
    (λ e. ends_stretch n (since ++ t ∷ []) s ts e (rw append_assoc h))

stretches_most : (n : ℕ) (ss : List (List ℕ)) → 1 ≤ n → EachNamesAll n ss → length ss ≤ length (passes_of n (flatten ss))
unfolding flatten
stretches_most n [] l h = omega arith
stretches_most n (s ∷ ss) l h =
    omega (arith, stretches_most n ss l h.1, ends_stretch n [] s (flatten ss) (empty_unnamed n l) h.0)

-- "No cutting of the same schedule into stretches that each name every task has more stretches."
-- With no task at all the empty stretch names every task, and there would be no greatest number.
pub most : (n k : ℕ) (ts : List ℕ) → 1 ≤ n → CutInto n k ts → k ≤ length (passes_of n ts)
most n k ts l c = rw (← c.number, ← c.whole) (stretches_most n c.stretches l c.named)

-- ---- the passes are a cutting that has as many

-- one stretch more in front; where there was none, the turns that follow go to it
cut_more : (n m : ℕ) (s ts : List ℕ) → names_all n s ≡ true → (0 < m → CutInto n m ts) → CutInto n (suc m) (s ++ ts)
unfolding flatten
cut_more n zero s ts h ih =
    record {
      stretches = (s ++ ts) ∷ [];
      number = refl;
      named = (covers_named n s (s ++ ts) (covers_longer n s ts) h, tt);
      whole = append-nil (s ++ ts);
    }
cut_more n (suc m) s ts h ih =
    let c = ih (omega arith) in
    record {
      stretches = s ∷ c.stretches;
      number = ap suc c.number;
      named = (h, c.named);
      whole = ap (λ (l : List ℕ). s ++ l) c.whole;
    }

tight_from : (n : ℕ) (since ts : List ℕ) → 0 < ends n since ts → CutInto n (ends n since ts) (since ++ ts)
unfolding passes_from
tight_from n since [] = λ h. absurd (omega arith)
tight_from n since (t ∷ ts) =
    rw (← append_snoc since t ts)
    (next_turn n since t ts (λ ps. 0 < length ps → CutInto n (length ps) (since ++ t ∷ [] ++ ts))
    (λ e h. cut_more n (ends n [] ts) (since ++ t ∷ []) ts e (tight_from n [] ts))
    (λ e. tight_from n (since ++ t ∷ []) ts))

-- The passes, with the tail put to the last, are such a cutting: their number is the greatest.
pub tight : (n : ℕ) (ts : List ℕ) → 0 < length (passes_of n ts) → CutInto n (length (passes_of n ts)) ts
tight n ts h = tight_from n [] ts h

-- ---- where the passes stand

-- each names every task
pub each_named : (n : ℕ) (since ts : List ℕ) → EachNamesAll n (passes_from n since ts)
unfolding passes_from
each_named n since [] = tt
each_named n since (t ∷ ts) = next_turn n since t ts (EachNamesAll n) (λ e. (e, each_named n [] ts)) (λ e. each_named n (since ++ t ∷ []) ts)

laid_from : (n : ℕ) (since ts : List ℕ) → take (length (flatten (passes_from n since ts))) (since ++ ts) ≡ flatten (passes_from n since ts)
unfolding passes_from flatten
laid_from n since [] = refl
laid_from n since (t ∷ ts) =
    rw (← append_snoc since t ts)
    (next_turn n since t ts (λ ps. take (length (flatten ps)) (since ++ t ∷ [] ++ ts) ≡ flatten ps)
    (λ e.
    let rest : List ℕ = flatten (passes_from n [] ts) in
    rw (length-append (since ++ t ∷ []) rest, take-append-add (since ++ t ∷ []) ts (length rest), laid_from n [] ts))
    (λ e. laid_from n (since ++ t ∷ []) ts))

-- laid end to end the passes are the beginning of the schedule
pub laid : (n : ℕ) (ts : List ℕ) → flatten (passes_of n ts) ≡ take (length (flatten (passes_of n ts))) ts
laid n ts = sym (laid_from n [] ts)

-- ---- the first turn that is no task

-- it stands in the schedule, or at its end
pub unknown_le : (n : ℕ) (ts : List ℕ) → unknown_at n ts ≤ length ts
unfolding unknown_at
unknown_le n [] = omega arith
unknown_le n (t ∷ ts) = go (ltb t n) (unknown_le n ts)
  where
    go : (b : Bool) → unknown_at n ts ≤ length ts → pick b (suc (unknown_at n ts)) zero ≤ suc (length ts)
    go true h = omega arith
    go false h = omega arith

-- every turn before it is a task
pub unknown_before : (n : ℕ) (ts : List ℕ) (i : ℕ) → i < unknown_at n ts → get_or ts i 0 < n
unfolding unknown_at
unknown_before n [] i l = absurd (omega arith)
unknown_before n (t ∷ ts) i l = go (ltb t n) refl i l (unknown_before n ts)
  where
    go : (b : Bool) → ltb t n ≡ b → (i : ℕ) → i < pick b (suc (unknown_at n ts)) zero → ((k : ℕ) → k < unknown_at n ts → get_or ts k 0 < n)
        → get_or (t ∷ ts) i 0 < n
    go true e zero l ih = ltb-true t n e
    go true e (suc i) l ih = ih i (omega arith)
    go false e i l ih = absurd (omega arith)

-- and it is none
pub unknown_at_lem : (n : ℕ) (ts : List ℕ) → unknown_at n ts < length ts → n ≤ get_or ts (unknown_at n ts) 0
unfolding unknown_at
unknown_at_lem n [] l = absurd (omega arith)
unknown_at_lem n (t ∷ ts) l = go (ltb t n) refl l (unknown_at_lem n ts)
  where
    go : (b : Bool) → ltb t n ≡ b → pick b (suc (unknown_at n ts)) zero < suc (length ts) → (unknown_at n ts < length ts → n ≤ get_or ts (unknown_at n ts) 0)
        → n ≤ get_or (t ∷ ts) (pick b (suc (unknown_at n ts)) zero) 0
    go true e l ih = ih (omega arith)
    go false e l ih = ltb-false t n e

-- there is none exactly if every turn is a task
pub all_known : (n : ℕ) (ts : List ℕ) → (all_tasks n ts ≡ true) ↔ ((i : ℕ) → i < length ts → get_or ts i 0 < n)
all_known n ts = (
  λ e i l. unknown_before n ts i (rw (eqb-true (unknown_at n ts) (length ts) e) l),
  λ h. eq-eqb (unknown_at n ts) (length ts) (go h (dec_lt (unknown_at n ts) (length ts))),
)
  where
    go : ((i : ℕ) → i < length ts → get_or ts i 0 < n) → Dec (unknown_at n ts < length ts) → unknown_at n ts ≡ length ts
    go h (yes l) = omega (arith, h (unknown_at n ts) l, unknown_at_lem n ts l)
    go h (no l) = omega (arith, unknown_le n ts)

-- no more passes than turns
pub passes_few : (n : ℕ) (since ts : List ℕ) → length (passes_from n since ts) ≤ length ts
unfolding passes_from
passes_few n since [] = omega arith
passes_few n since (t ∷ ts) =
    next_turn n since t ts (λ ps. length ps ≤ suc (length ts)) (λ e. omega (arith, passes_few n [] ts)) (λ e. omega (arith, passes_few n (since ++ t ∷ []) ts))

-- where 3, 8 and 10 refuse nothing, 9 alone is left
pub passes_answered : (n : ℕ) (ts : List ℕ) (room : ℕ) → 1 ≤ n → n ≤ 64 → length ts ≤ max_turns → 2 * length (passes_of n ts) ≤ room
    → passes_answer n ts room ≡ pick (all_tasks n ts) (Ok (length (passes_of n ts))) (Err (placed 9 (unknown_at n ts)))
unfolding passes_answer
passes_answered n ts room some few short wide =
    rw (le-leb 1 n some, le-leb n 64 few, le-leb (length ts) max_turns short, le-leb (2 * length (passes_of n ts)) room wide)

-- turns that compare with N as others do have their first unknown one at the same place
pub unknown_alike : (f : ℕ → ℕ) (n : ℕ) → ((x : ℕ) → ltb (f x) n ≡ ltb x n) → (ts : List ℕ) → unknown_at n (map f ts) ≡ unknown_at n ts
unfolding unknown_at
unknown_alike f n same [] = refl
unknown_alike f n same (t ∷ ts) = rw (same t, unknown_alike f n same ts)
