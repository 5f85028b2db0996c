-- The progress rule: k stretches that each name every task raise the least count, if k is at least the window. While the least count stays,
-- the able task stays able until somebody moves, and each stretch names it; so each stretch raises Φ, and k of them would raise it by k or
-- more, where less than the window is allowed.
use Rattle.std.specs.Prelude.{◌≡◌, refl, Bool, true, false, ◌||◌, ◌⊎◌, ℕ, ◌+◌, ◌≤◌, ◌<◌, eqb, length}
use Rattle.std.proofs.Common.{subst, inl, inr, lt_of_not-le, le_refl, le_trans, eqb-true}
use Rattle.std.proofs.lemmas.Bool.{false≢true}
use mathlib.Core.List.{List, [], ◌∷◌, ◌++◌, flatten}
use native.Mathlib.Omega.{arith}
use Rattle.schedule.specs.Stretch.{stands, EachNamesAll, CutInto}
use Rattle.schedule.specs.StretchLaws.{named_stands}
use Rattle.progress.specs.Counting.{Counting, after, AllCount}

module _ {S : Type 0} {n : ℕ} {turn : S → ℕ → S} {Counts : S → ℕ → Type 0} (c : Counting S n turn Counts) where
  -- the invariant and the counted turns over a list of turns
  keeps_all : (s : S) (ts : List ℕ) → c.Inv s → c.Inv (after turn s ts)
  keeps_all s [] i = i
  keeps_all s (p ∷ ts) i = keeps_all (turn s p) ts (c.keeps s p i)

  rises_all : (s : S) (ts : List ℕ) → c.Inv s → c.least s ≤ c.least (after turn s ts)
  rises_all s [] i = le_refl (c.least s)
  rises_all s (p ∷ ts) i = le_trans (c.rises s p i) (rises_all (turn s p) ts (c.keeps s p i))

  after_append : (s : S) (ts us : List ℕ) → after turn s (ts ++ us) ≡ after turn (after turn s ts) us
  after_append s [] us = refl
  after_append s (p ∷ ts) us = after_append (turn s p) ts us

  count_append : (s : S) (ts us : List ℕ) → AllCount turn Counts s (ts ++ us) → AllCount turn Counts s ts × AllCount turn Counts (after turn s ts) us
  count_append s [] us h = (tt, h)
  count_append s (p ∷ ts) us h = let r = count_append (turn s p) ts us h.1 in ((h.0, r.0), r.1)

  -- no turn lowers Φ
  no_less : (s : S) (ts : List ℕ) → c.Inv s → c.Φ s ≤ c.Φ (after turn s ts)
  no_less s [] i = le_refl (c.Φ s)
  no_less s (p ∷ ts) i = le_trans (one (c.either s p i)) (no_less (turn s p) ts (c.keeps s p i))
    where
      one : (c.Φ s < c.Φ (turn s p)) ⊎ ((c.Φ (turn s p) ≡ c.Φ s) × ((q : ℕ) → c.Able s q → c.Able (turn s p) q)) → c.Φ s ≤ c.Φ (turn s p)
      one (inl l) = omega arith
      one (inr e) = omega (arith, e.0)

  -- counted turns in which an able task stands raise Φ
  raised : (s : S) (ts : List ℕ) (p : ℕ) → c.Inv s → c.Able s p → AllCount turn Counts s ts → stands p ts ≡ true → c.Φ s < c.Φ (after turn s ts)
  raised s [] p i a k h = absurd (false≢true h)
  raised s (t ∷ ts) p i a k h = go (c.either s t i) (eqb p t) refl h (λ a' h'. raised (turn s t) ts p (c.keeps s t i) a' k.1 h')
    where
      rest : c.Φ (turn s t) ≤ c.Φ (after turn (turn s t) ts)
      rest = no_less (turn s t) ts (c.keeps s t i)

      go : (c.Φ s < c.Φ (turn s t)) ⊎ ((c.Φ (turn s t) ≡ c.Φ s) × ((q : ℕ) → c.Able s q → c.Able (turn s t) q))
          → (b : Bool) → eqb p t ≡ b → b || stands p ts ≡ true
          → (c.Able (turn s t) p → stands p ts ≡ true → c.Φ (turn s t) < c.Φ (after turn (turn s t) ts))
          → c.Φ s < c.Φ (after turn (turn s t) ts)
      go (inl l) b e h ih = omega (arith, rest)
      go (inr still) true e h ih = omega (arith, rest, c.moves s t i (subst (c.Able s) (eqb-true p t e) a) k.0)
      go (inr still) false e h ih = omega (arith, still.0, ih (still.1 p a) h)

  -- while the least count stays below the limit, each stretch raises Φ
  stretches_raise : (ss : List (List ℕ)) (s : S) → c.Inv s → EachNamesAll n ss → AllCount turn Counts s (flatten ss)
      → c.least (after turn s (flatten ss)) < c.limit → c.Φ s + length ss ≤ c.Φ (after turn s (flatten ss))
  unfolding flatten
  stretches_raise [] s i named k low = omega arith
  stretches_raise (t ∷ ss) s i named k low =
      let halves = count_append s t (flatten ss) k in
      let s' : S = after turn s t in
      let i' = keeps_all s t i in
      let low' : c.least (after turn s' (flatten ss)) < c.limit = rw after_append at low in
      let p = c.someone s i (omega (arith, low, rises_all s (t ++ flatten ss) i)) in
      let up = raised s t p.0 i p.2 halves.0 (named_stands n p.0 t named.0 p.1) in
      let ih = stretches_raise ss s' i' named.1 halves.1 low' in
      rw after_append (omega (arith, up, ih))

  -- 01: the progress rule, for any number of stretches from the window on
  pub progress : {k : ℕ} (s : S) (ts : List ℕ) → c.Inv s → c.least s < c.limit → AllCount turn Counts s ts → CutInto n k ts → c.window ≤ k
      → c.least s < c.least (after turn s ts)
  progress {k} s ts i low counts cut enough =
      lt_of_not-le (λ stays. absurd (omega (arith, far stays, c.near s (after turn s ts) i (keeps_all s ts i) stays)))
    where
      far : c.least (after turn s ts) ≤ c.least s → c.Φ s + k ≤ c.Φ (after turn s ts)
      far stays =
          rw (← cut.number, ← cut.whole)
          (stretches_raise cut.stretches s i cut.named (rw cut.whole counts) (rw cut.whole (omega arith)))
