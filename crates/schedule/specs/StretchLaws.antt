-- Laws of stretches: what it means that one names every task, and when one names as much as another.
use Rattle.std.specs.Prelude.{◌≡◌, refl, Bool, true, false, ◌||◌, ℕ, zero, suc, ◌≤◌, ◌<◌, eqb, length, get_or, take, drop}
use Rattle.std.proofs.Common.{sym, ap, ◌∙◌, arith, take-append-drop, eq-eqb}
use Rattle.std.proofs.Math.Bool.{or_assoc, or-true, and-eq-true_iff}
use mathlib.Core.List.{List, [], ◌∷◌, ◌++◌, flatten}
use Rattle.std.proofs.Math.Decide.{ℕ_discrete}
use Rattle.schedule.specs.Stretch.{stands, names_all, EachNamesAll, CutInto}

-- "names every task if each of 0 to N − 1 stands in it", both ways
pub named_stands : (n p : ℕ) (ts : List ℕ) → names_all n ts ≡ true → p < n → stands p ts ≡ true
unfolding names_all
named_stands zero p ts h l = absurd (omega arith)
named_stands (suc n) p ts h l =
    let b = (and-eq-true_iff (stands n ts) (names_all n ts)).0 h in
    go b.0 (named_stands n p ts b.1) (ℕ_discrete p n)
  where
    go : stands n ts ≡ true → (p < n → stands p ts ≡ true) → Dec (p ≡ n) → stands p ts ≡ true
    go top ih (yes e) = rw e top
    go top ih (no e) = ih (omega arith)

pub stands_named : (n : ℕ) (ts : List ℕ) → ((p : ℕ) → p < n → stands p ts ≡ true) → names_all n ts ≡ true
unfolding names_all
stands_named zero ts h = refl
stands_named (suc n) ts h = rw (h n (omega arith)) (stands_named n ts (λ p l. h p (omega arith)))

-- a task that is at a place of a stretch stands in it
at_stands : (s : List ℕ) (i p : ℕ) → i < length s → get_or s i 0 ≡ p → stands p s ≡ true
at_stands [] i p l e = absurd (omega arith)
at_stands (t ∷ s) zero p l e = rw (eq-eqb p t (sym e))
at_stands (t ∷ s) (suc i) p l e = rw (at_stands s i p (omega arith) e) (or-true (eqb p t))

-- Pin: what is cut into stretches, by 01's sentence and without the words above. Each of the tasks 0 to n − 1 is at some place of each stretch, and these are laid end to end.
pub cut_pin : (n : ℕ) (ss : List (List ℕ))
    → ((k p : ℕ) → k < length ss → p < n → (i : ℕ) × (i < length (get_or ss k [])) × (get_or (get_or ss k []) i 0 ≡ p)) → CutInto n (length ss) (flatten ss)
cut_pin n ss all = record { stretches = ss; number = refl; named = each ss all; whole = refl }
  where
    each : (ss : List (List ℕ)) → ((k p : ℕ) → k < length ss → p < n → (i : ℕ) × (i < length (get_or ss k [])) × (get_or (get_or ss k []) i 0 ≡ p)) → EachNamesAll n ss
    each [] all = tt
    each (s ∷ ss) all = (
      stands_named n s (λ p l. let at = all 0 p (omega arith) l in at_stands s at.0 p at.1 at.2),
      each ss (λ k p h l. all (suc k) p (omega arith) l),
    )

-- where there is a task, the empty stretch does not
pub empty_unnamed : (n : ℕ) → 1 ≤ n → names_all n [] ≡ false
unfolding names_all
empty_unnamed zero l = absurd (omega arith)
empty_unnamed (suc n) l = refl

pub stands_append : (p : ℕ) (s ts : List ℕ) → stands p (s ++ ts) ≡ (stands p s || stands p ts)
stands_append p [] ts = refl
stands_append p (t ∷ s) ts = ap (λ (b : Bool). eqb p t || b) (stands_append p s ts) ∙ sym (or_assoc (eqb p t) (stands p s) (stands p ts))

-- every task below n that stands in the first stands in the second
abbrev pub Covers : ℕ → List ℕ → List ℕ → Type 0
Covers n s u = (p : ℕ) → p < n → stands p s ≡ true → stands p u ≡ true

pub covers_named : (n : ℕ) (s u : List ℕ) → Covers n s u → names_all n s ≡ true → names_all n u ≡ true
covers_named n s u c h = stands_named n u (λ p l. c p l (named_stands n p s h l))

pub covers_more : (n : ℕ) (s u ts : List ℕ) → Covers n s u → Covers n (s ++ ts) (u ++ ts)
covers_more n s u ts c p l = rw (stands_append p s ts, stands_append p u ts) (go (stands p s) refl)
  where
    go : (b : Bool) → stands p s ≡ b → (b || stands p ts) ≡ true → (stands p u || stands p ts) ≡ true
    go true e h = rw (c p l e)
    go false e h = rw (h, or-true)

pub covers_longer : (n : ℕ) (s ts : List ℕ) → Covers n s (s ++ ts)
covers_longer n s ts p l h = rw (stands_append p s ts, h)

-- what does not name every task has no beginning that does
pub unnamed_take : (n k : ℕ) (s : List ℕ) → names_all n s ≡ false → names_all n (take k s) ≡ false
unnamed_take n k s o = go (names_all n (take k s)) refl
  where
    go : (b : Bool) → names_all n (take k s) ≡ b → b ≡ false
    go true e = sym (covers_named n (take k s) s (rw take-append-drop at (covers_longer n (take k s) (drop k s))) e) ∙ o
    go false e = refl
