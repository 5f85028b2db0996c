-- The first turn that is no task, and whether every turn is a task, as iterators find them.
use Rattle.std.proofs.Common.{◌≡◌, refl, sym, ◌∙◌, List, [], ◌∷◌, ℕ, ◌<◌, length, arith, lt-ltb, le-ltb, le-leb}
use Rattle.std.specs.Prelude.{position, unwrap_or, ltb, leb}
use Rattle.std.specs.List.{list_all, position_or_len}
use Rattle.std.proofs.lemmas.Bool.{lt-leb}
use Rattle.std.proofs.Math.Decide.{dec_lt}
use lib.Dec.{eqb-suc-suc, eqb-zero-suc}
use Rattle.schedule.specs.Passes.{unknown_at, all_tasks}
use Rattle.schedule.specs.PassesLaws.{unknown_le}

unknown_length : (n : ℕ) (ts : List ℕ) → position_or_len (λ t. leb n t) ts ≡ unknown_at n ts
unfolding unknown_at
unknown_length n [] = refl
unknown_length n (t ∷ ts) = go (dec_lt t n) (unknown_length n ts)
  where
    go : Dec (t < n) → position_or_len (λ t. leb n t) ts ≡ unknown_at n ts → position_or_len (λ t. leb n t) (t ∷ ts) ≡ unknown_at n (t ∷ ts)
    go (yes l) ih = rw (lt-leb n t l, lt-ltb t n l, ih) (omega arith)
    go (no l) ih = rw (le-leb n t (omega arith), le-ltb t n (omega arith))

-- the place of the first turn that is no task, or the end
pub unknown_position : (n : ℕ) (ts : List ℕ) → unwrap_or (position (λ t. leb n t) ts) (length ts) ≡ unknown_at n ts
unknown_position n ts = go (dec_lt (unknown_at n ts) (length ts))
  where
    go : Dec (unknown_at n ts < length ts) → unwrap_or (position (λ t. leb n t) ts) (length ts) ≡ unknown_at n ts
    go (yes l) = rw (unknown_length n ts, lt-ltb (unknown_at n ts) (length ts) l)
    go (no l) =
        let e : length ts ≡ unknown_at n ts = omega (arith, unknown_le n ts) in
        rw (unknown_length n ts, le-ltb (unknown_at n ts) (length ts) (omega arith)) e

-- each of the turns is a task
pub known_listed : (n : ℕ) (ts : List ℕ) → list_all (λ t. ltb t n) ts ≡ all_tasks n ts
unfolding unknown_at
known_listed n [] = refl
known_listed n (t ∷ ts) = go (dec_lt t n) (known_listed n ts)
  where
    go : Dec (t < n) → list_all (λ t. ltb t n) ts ≡ all_tasks n ts → list_all (λ t. ltb t n) (t ∷ ts) ≡ all_tasks n (t ∷ ts)
    go (yes l) ih = rw (lt-ltb t n l) (ih ∙ sym (eqb-suc-suc (unknown_at n ts) (length ts)))
    go (no l) ih = rw (le-ltb t n (omega arith)) (sym (eqb-zero-suc (length ts)))
