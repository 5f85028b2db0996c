-- A walk over a schedule, turn by turn: the set of the tasks that were named since the pass began, and what one turn more does to it,
-- to the passes still to come, and to the first turn that is no task.
use mathlib.Core.Path.{◌≡◌, refl, sym, ap, ◌∙◌}
use mathlib.Core.Bool.{Bool, true, false, true≢false, ◌||◌, or-true, or-false}
use mathlib.Core.List.{List, [], ◌∷◌, ◌++◌}
use Prim.Native.Nat.{ℕ, suc, ◌+◌, ◌^◌, ◌≤◌, ◌<◌}
use native.Mathlib.Decide.{ℕ_discrete, dec_lt}
use native.Mathlib.Numerals.{add-one}
use native.Mathlib.Omega.{arith}
use lib.Dec.{eqb, eqb-suc-suc, eqb-zero-suc}
use lib.ListN.{length, get_or, drop, drop_of_length-le}
use lib.Seq.{drop-cons}
use borrow.Author.Tests.{lt-ltb, le-ltb, eq-eqb, ne_eqb}
use Rattle.bitset.specs.Choice.{pick}
use Rattle.bitset.specs.Set.{bit, with_of, all_of}
use Rattle.bitset.specs.SetLaws.{bit_zero, bit_ext, with_same, with_other, with_lt, all_member, all_past, all_lt}
use Rattle.schedule.specs.Stretch.{stands, names_all}
use Rattle.schedule.specs.StretchLaws.{named_stands, stands_named, stands_append}
use Rattle.schedule.specs.Passes.{passes_from, unknown_at, all_tasks}

-- the set holds the tasks of the turns since the pass began, and no other number stands in them
pub record Seen (n : ℕ) (since : List ℕ) (seen : ℕ) : Type 0 where
  pub fits : seen < 2 ^ 64
  pub holds : (k : ℕ) → bit seen k ≡ pick (stands k since) 1 0
  pub tasks : (k : ℕ) → n ≤ k → stands k since ≡ false

pub seen_none : (n : ℕ) → Seen n [] 0
seen_none n = record { fits = omega arith; holds = bit_zero; tasks = λ k l. refl }

pub seen_more : {n : ℕ} {since : List ℕ} {seen t : ℕ} → n ≤ 64 → t < n → Seen n since seen → Seen n (since ++ t ∷ []) (with_of seen t)
seen_more {n} {since} {seen} {t} h l s =
    record {
      fits = with_lt seen t s.fits;
      holds = λ k. rw (stands_append k since (t ∷ [])) (holds k (ℕ_discrete k t));
      tasks = λ k m. rw (stands_append k since (t ∷ []), s.tasks k m, ne_eqb k t (λ e. omega arith));
    }
  where
    holds : (k : ℕ) → Dec (k ≡ t) → bit (with_of seen t) k ≡ pick (stands k since || (eqb k t || false)) 1 0
    holds k (yes e) = rw (e, eq-eqb t t refl, or-true) (with_same seen t (omega arith))
    holds k (no e) = rw (ne_eqb k t e, or-false) (with_other seen t k e ∙ s.holds k)

-- the set is that of all tasks exactly if the turns name every task
seen_all : {n : ℕ} {since : List ℕ} {seen : ℕ} → n ≤ 64 → Seen n since seen → eqb seen (all_of n) ≡ names_all n since
seen_all {n} {since} {seen} h s = go (names_all n since) refl
  where
    digit : names_all n since ≡ true → (k : ℕ) → Dec (k < n) → bit seen k ≡ bit (all_of n) k
    digit e k (yes l) = s.holds k ∙ rw (named_stands n k since e l) (sym (all_member n k h l))
    digit e k (no l) = s.holds k ∙ rw (s.tasks k (omega arith)) (sym (all_past n k (omega arith)))

    one : (b : Bool) → ◌≡◌ {A = ℕ} (pick b 1 0) 1 → b ≡ true
    one true e = refl
    one false e = absurd (omega arith)

    named : seen ≡ all_of n → (p : ℕ) → p < n → stands p since ≡ true
    named w p l = one (stands p since) (sym (s.holds p) ∙ ap (λ (x : ℕ). bit x p) w ∙ all_member n p h l)

    go : (b : Bool) → names_all n since ≡ b → eqb seen (all_of n) ≡ b
    go true e = eq-eqb seen (all_of n) (bit_ext 64 seen (all_of n) s.fits (all_lt n) (λ k l. digit e k (dec_lt k n)))
    go false e = ne_eqb seen (all_of n) (λ w. true≢false (sym (stands_named n since (named w)) ∙ e))

-- ---- past the end

pub all_tasks_end : (n : ℕ) (ts : List ℕ) (i : ℕ) → length ts ≤ i → all_tasks n (drop i ts) ≡ true
unfolding unknown_at
all_tasks_end n ts i l = rw (drop_of_length-le ts {i = i} l)

-- ---- the turn at the place i

module _ (n : ℕ) (ts : List ℕ) (i : ℕ) (inside : i < length ts) where
  pub unknown_here : n ≤ get_or ts i 0 → unknown_at n (drop i ts) ≡ 0
  unfolding unknown_at
  unknown_here l = rw (drop-cons ts i 0 inside, le-ltb (get_or ts i 0) n l)

  pub unknown_later : get_or ts i 0 < n → unknown_at n (drop i ts) ≡ suc (unknown_at n (drop (i + 1) ts))
  unfolding unknown_at
  unknown_later l = rw (drop-cons ts i 0 inside, lt-ltb (get_or ts i 0) n l, add-one)

  pub not_all_tasks : n ≤ get_or ts i 0 → all_tasks n (drop i ts) ≡ false
  not_all_tasks l = rw (unknown_here l, drop-cons ts i 0 inside) (eqb-zero-suc (length (drop (suc i) ts)))

  pub all_tasks_later : get_or ts i 0 < n → all_tasks n (drop i ts) ≡ all_tasks n (drop (i + 1) ts)
  all_tasks_later l =
      rw (unknown_later l, drop-cons ts i 0 inside, add-one) (eqb-suc-suc (unknown_at n (drop (suc i) ts)) (length (drop (suc i) ts)))

  module _ {since : List ℕ} {seen : ℕ} (small : n ≤ 64) (known : get_or ts i 0 < n) (s : Seen n since seen) where
    named : names_all n (since ++ get_or ts i 0 ∷ []) ≡ eqb (with_of seen (get_or ts i 0)) (all_of n)
    named = sym (seen_all small (seen_more small known s))

    pub ends_here : with_of seen (get_or ts i 0) ≡ all_of n → passes_from n since (drop i ts) ≡ (since ++ get_or ts i 0 ∷ []) ∷ passes_from n [] (drop (i + 1) ts)
    unfolding passes_from
    ends_here e = rw (drop-cons ts i 0 inside, add-one, named, eq-eqb (with_of seen (get_or ts i 0)) (all_of n) e)

    pub goes_on_lem : (with_of seen (get_or ts i 0) ≡ all_of n → ⊥) → passes_from n since (drop i ts) ≡ passes_from n (since ++ get_or ts i 0 ∷ []) (drop (i + 1) ts)
    unfolding passes_from
    goes_on_lem e = rw (drop-cons ts i 0 inside, add-one, named, ne_eqb (with_of seen (get_or ts i 0)) (all_of n) e)
