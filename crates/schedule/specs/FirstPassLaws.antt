-- Laws of the first pass from a place: when there is one, where it stands, and that it ends as soon as it can.
use Rattle.std.specs.Prelude.{◌≡◌, refl, ◌↔◌, ◌≢◌, Bool, true, false, ◌&&◌, ℕ, ◌+◌, ◌-◌, ◌≤◌, ◌<◌, leb, length, take, drop}
use Rattle.std.proofs.Common.{sym, ap, arith, length-append, length-drop, drop_of_length-le, get_or-drop, leb-true, le-leb}
use mathlib.Core.List.{List, [], ◌∷◌, ◌++◌, concat-ne-nil}
use Rattle.std.proofs.Math.Decide.{dec_lt}
use Rattle.std.proofs.Math.Seq.{append_snoc, take-append_seam}
use Rattle.std.proofs.lemmas.List.{take-append-le}
use Rattle.bitset.specs.Choice.{pick}
use Rattle.schedule.specs.Stretch.{names_all, EachNamesAll}
use Rattle.schedule.specs.StretchLaws.{empty_unnamed, unnamed_take}
use Rattle.schedule.specs.Passes.{passes_from, passes_of, all_tasks}
use Rattle.schedule.specs.PassesLaws.{next_turn, each_named, all_known}
use Rattle.schedule.specs.FirstPass.{head_of, first_pass_of, PassAt}

-- ---- of the passes of any turns

-- a pass is not empty
first_some : (n : ℕ) (since ts : List ℕ) → 0 < length (passes_from n since ts) → head_of (passes_from n since ts) ≢ []
unfolding passes_from
first_some n since [] = λ h. absurd (omega arith)
first_some n since (t ∷ ts) =
    next_turn n since t ts (λ ps. 0 < length ps → head_of ps ≢ []) (λ e h. concat-ne-nil t since) (λ e. first_some n (since ++ t ∷ []) ts)

-- it is the beginning of the turns
first_begins : (n : ℕ) (since ts : List ℕ) → take (length (head_of (passes_from n since ts))) (since ++ ts) ≡ head_of (passes_from n since ts)
unfolding passes_from
first_begins n since [] = refl
first_begins n since (t ∷ ts) =
    rw (← append_snoc since t ts)
    (next_turn n since t ts (λ ps. take (length (head_of ps)) (since ++ t ∷ [] ++ ts) ≡ head_of ps)
    (λ e. take-append_seam (since ++ t ∷ []) ts)
    (λ e. first_begins n (since ++ t ∷ []) ts))

-- and no shorter beginning names every task
first_shorter : (n : ℕ) (since ts : List ℕ) (k : ℕ) → names_all n since ≡ false → k < length (head_of (passes_from n since ts))
    → names_all n (take k (head_of (passes_from n since ts))) ≡ false
unfolding passes_from
first_shorter n since [] k o = λ l. absurd (omega arith)
first_shorter n since (t ∷ ts) k o =
    next_turn n since t ts (λ ps. k < length (head_of ps) → names_all n (take k (head_of ps)) ≡ false)
    (λ e l.
    let le : k ≤ length since = omega (arith, length-append since (t ∷ [])) in
    rw take-append-le (unnamed_take n k since o))
    (λ e. first_shorter n (since ++ t ∷ []) ts k e)

-- ---- of the answer

-- the answer is the first pass, or it is empty
answer_cases : (n place : ℕ) (ts : List ℕ) (P : List ℕ → Type 0)
    → (1 ≤ n → n ≤ 64 → all_tasks n (drop place ts) ≡ true → P (head_of (passes_of n (drop place ts)))) → P [] → P (first_pass_of n place ts)
unfolding first_pass_of
answer_cases n place ts P pass none = go (leb 1 n) (leb n 64) (all_tasks n (drop place ts)) refl refl refl
  where
    go : (a b c : Bool) → leb 1 n ≡ a → leb n 64 ≡ b → all_tasks n (drop place ts) ≡ c → P (pick (a && b && c) (head_of (passes_of n (drop place ts))) [])
    go true true true x y z = pass (leb-true 1 n x) (leb-true n 64 y) z
    go true true false x y z = none
    go true false c x y z = none
    go false b c x y z = none

-- a pass that is not empty stands where one can
pass_at : (n place : ℕ) (ts : List ℕ) → 1 ≤ n → n ≤ 64 → all_tasks n (drop place ts) ≡ true → head_of (passes_of n (drop place ts)) ≢ [] → PassAt n place ts
unfolding passes_from
pass_at n place ts l h u ne =
    record {
      low = l;
      high = h;
      within = within (dec_lt place (length ts));
      known = λ i a b.
          let e : place + (i - place) ≡ i = omega arith in
          rw e at (rw get_or-drop at ((all_known n (drop place ts)).0 u (i - place) (omega (arith, length-drop place ts))));
      pass = pass (passes_of n (drop place ts)) ne;
    }
  where
    within : Dec (place < length ts) → place < length ts
    within (yes q) = q
    within (no q) = absurd (ne (ap (λ (us : List ℕ). head_of (passes_of n us)) (drop_of_length-le ts {i = place} (omega arith))))

    pass : (ps : List (List ℕ)) → head_of ps ≢ [] → 0 < length ps
    pass [] o = absurd (o refl)
    pass (p ∷ ps) o = omega arith

-- and where one can there is one
at_pass : (n place : ℕ) (ts : List ℕ) → PassAt n place ts → first_pass_of n place ts ≢ []
unfolding first_pass_of
at_pass n place ts at =
    let u = (all_known n (drop place ts)).1 (λ i l. rw get_or-drop (at.known (place + i) (omega arith) (omega (arith, length-drop place ts)))) in
    rw (le-leb 1 n at.low, le-leb n 64 at.high, u) (first_some n [] (drop place ts) at.pass)

-- "It gives an empty part exactly if there is none, the place is past the end, N isn't 1 to 64, or a byte from the place on is no task."
pub first_exactly : (n place : ℕ) (ts : List ℕ) → (first_pass_of n place ts ≢ []) ↔ PassAt n place ts
first_exactly n place ts =
    (answer_cases n place ts (λ p. p ≢ [] → PassAt n place ts) (pass_at n place ts) (λ ne. absurd (ne refl)), at_pass n place ts)

-- The answer is a part of the schedule that begins at the place.
pub first_part : (n place : ℕ) (ts : List ℕ) → first_pass_of n place ts ≡ take (length (first_pass_of n place ts)) (drop place ts)
first_part n place ts =
    answer_cases n place ts (λ p. p ≡ take (length p) (drop place ts)) (λ l h u. sym (first_begins n [] (drop place ts))) refl

-- It names every task,
pub first_named : (n place : ℕ) (ts : List ℕ) → first_pass_of n place ts ≢ [] → names_all n (first_pass_of n place ts) ≡ true
first_named n place ts =
    answer_cases n place ts (λ p. p ≢ [] → names_all n p ≡ true)
    (λ l h u. go (passes_of n (drop place ts)) (each_named n [] (drop place ts)))
    (λ ne. absurd (ne refl))
  where
    go : (ps : List (List ℕ)) → EachNamesAll n ps → head_of ps ≢ [] → names_all n (head_of ps) ≡ true
    go [] e ne = absurd (ne refl)
    go (p ∷ ps) e ne = e.0

-- and ends at the first turn by which every task has been named.
pub first_soonest : (n place : ℕ) (ts : List ℕ) (k : ℕ) → k < length (first_pass_of n place ts) → names_all n (take k (first_pass_of n place ts)) ≡ false
first_soonest n place ts k =
    answer_cases n place ts (λ p. k < length p → names_all n (take k p) ≡ false)
    (λ l h u. first_shorter n [] (drop place ts) k (empty_unnamed n l))
    (λ l. absurd (omega arith))
