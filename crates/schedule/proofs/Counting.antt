-- Counting passes: what is left of the schedule has the passes that are not counted yet.
use mathlib.Core.Path.{◌≡◌, refl, ap, ◌∙◌}
use mathlib.Core.List.{List, [], ◌∷◌, ◌++◌}
use Prim.Native.Nat.{ℕ, ◌+◌, ◌≤◌, ◌<◌}
use native.Mathlib.Omega.{arith}
use borrow.Author.Tests.{eq-eqb, ne_eqb}
use lib.ListN.{length, get_or, drop, drop_of_length-le}
use Rattle.bitset.specs.Set.{with_of, all_of}
use Rattle.std.specs.Prelude.{Ok, Err}
use Rattle.reason.specs.Placed.{placed}
use Rattle.schedule.specs.Passes.{passes_from, passes_of, unknown_at, count_answer}
use Rattle.schedule.proofs.Walk.{Seen, seen_none, seen_more, unknown_here, unknown_later, ends_here, goes_on_lem}

-- the passes and the first unknown task of the whole schedule, told by what is left of it
pub record Counting (n : ℕ) (ts : List ℕ) (seen count i : ℕ) : Type 0 where
  pub since : List ℕ
  pub named : Seen n since seen
  pub within : i ≤ length ts
  pub few : count ≤ i
  pub unknown : unknown_at n ts ≡ i + unknown_at n (drop i ts)
  pub passes : length (passes_of n ts) ≡ count + length (passes_from n since (drop i ts))

module _ {n : ℕ} {ts : List ℕ} {seen count i : ℕ} (w : Counting n ts seen count i) where
  pub refused : i < length ts → n ≤ get_or ts i 0 → Err (placed 9 i) ≡ count_answer n ts
  unfolding count_answer
  refused l u =
      let e : unknown_at n ts ≡ i = omega (arith, w.unknown, unknown_here n ts i l u) in
      rw (e, ne_eqb i (length ts) (λ q. omega arith))

  pub counted : length ts ≤ i → Ok count ≡ count_answer n ts
  unfolding count_answer unknown_at passes_from
  counted l =
      let none = drop_of_length-le ts {i = i} l in
      let u : unknown_at n ts ≡ length ts = omega (arith, w.within, rw none at w.unknown) in
      let p : length (passes_of n ts) ≡ count = omega (arith, rw none at w.passes) in
      rw (u, p, eq-eqb (length ts) (length ts) refl)

  module _ (small : n ≤ 64) (l : i < length ts) (known : get_or ts i 0 < n) where
    pub ended : with_of seen (get_or ts i 0) ≡ all_of n → Counting n ts 0 (count + 1) (i + 1)
    ended e =
        record {
          since = [];
          named = seen_none n;
          within = omega arith;
          few = omega (arith, w.few);
          unknown = omega (arith, w.unknown, unknown_later n ts i l known);
          passes = omega (arith, w.passes, ap length (ends_here n ts i l small known w.named e));
        }

    pub not_yet : (with_of seen (get_or ts i 0) ≡ all_of n → ⊥) → Counting n ts (with_of seen (get_or ts i 0)) count (i + 1)
    not_yet e =
        record {
          since = w.since ++ get_or ts i 0 ∷ [];
          named = seen_more small known w.named;
          within = omega arith;
          few = omega (arith, w.few);
          unknown = omega (arith, w.unknown, unknown_later n ts i l known);
          passes = w.passes ∙ ap (λ (ps : List (List ℕ)). count + length ps) (goes_on_lem n ts i l small known w.named e);
        }
