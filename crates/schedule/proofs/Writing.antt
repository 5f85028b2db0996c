-- Writing pairs: the numbers written so far, the pairs of the passes still to come and the rest of the list are the list that is asked.
use mathlib.Core.Path.{◌≡◌, sym, ap, ◌∙◌}
use mathlib.Core.List.{List, [], ◌∷◌, ◌++◌, append_assoc}
use Prim.Native.Nat.{ℕ, suc, ◌+◌, ◌-◌, ◌*◌, ◌≤◌, ◌<◌}
use native.Mathlib.Nat.{add-zero, zero-add}
use native.Mathlib.Numerals.{add-one, add-two}
use native.Mathlib.Omega.{arith}
use lib.ListN.{length, take, drop, set, get_or, length-append, length-set, take-append-drop, drop_of_length-le}
use lib.Seq.{take-suc-set, drop-set-lt}
use Rattle.bitset.specs.Set.{with_of, all_of}
use Rattle.schedule.specs.Passes.{passes_from, passes_of, pairs_from, with_pairs}
use Rattle.schedule.proofs.Walk.{Seen, seen_none, seen_more, ends_here, goes_on_lem}

-- the list with the pairs of the passes from the index `at` on, the first of them at the offset `begin`
abbrev pub filled : List ℕ → ℕ → ℕ → List (List ℕ) → List ℕ
filled pairs at begin ps = take at pairs ++ (pairs_from begin ps ++ drop (at + 2 * length ps) pairs)

-- one pair more
filled_more : (pairs : List ℕ) (at begin : ℕ) (p : List ℕ) (ps : List (List ℕ)) → at + 1 < length pairs
    → filled pairs at begin (p ∷ ps) ≡ filled (set (set pairs at begin) (at + 1) (length p)) (at + 2) (begin + length p) ps
unfolding pairs_from
filled_more pairs at begin p ps l =
    let one : List ℕ = set pairs at begin in
    let k : ℕ = at + 2 * suc (length ps) in
    let e : at + 2 + 2 * length ps ≡ k = omega arith in
    let front : take (at + 2) (set one (at + 1) (length p)) ≡ take at pairs ++ begin ∷ [] ++ length p ∷ []
    = rw (add-two at, add-one at)
    (take-suc-set one (suc at) (length p) (rw length-set (omega arith))
    ∙ ap (λ (x : List ℕ). x ++ length p ∷ []) (take-suc-set pairs at begin (omega arith))) in
    let back : drop k (set one (at + 1) (length p)) ≡ drop k pairs
    = drop-set-lt k one (at + 1) (length p) (omega arith) ∙ drop-set-lt k pairs at begin (omega arith) in
    rw (e, front, back) (simp append_assoc)

-- the whole list, told by what is left of the schedule
pub record Writing (n : ℕ) (ts pairs₀ pairs : List ℕ) (seen begin at i : ℕ) : Type 0 where
  pub since : List ℕ
  pub named : Seen n since seen
  pub walked : begin + length since ≡ i
  pub within : i ≤ length ts
  pub room : at + 2 * length (passes_from n since (drop i ts)) ≤ length pairs
  pub same : length pairs ≡ length pairs₀
  pub whole : filled pairs at begin (passes_from n since (drop i ts)) ≡ filled pairs₀ 0 0 (passes_of n ts)

pub written : {n : ℕ} {ts pairs₀ pairs : List ℕ} {seen begin at i : ℕ} → Writing n ts pairs₀ pairs seen begin at i → length ts ≤ i
    → pairs ≡ with_pairs n ts pairs₀
unfolding passes_from pairs_from
written {n} {ts} {pairs₀} {pairs} {seen} {begin} {at} {i} w l =
    let all : filled pairs at begin [] ≡ filled pairs₀ 0 0 (passes_of n ts) = rw (drop_of_length-le ts {i = i} l) at w.whole in
    sym (take-append-drop at pairs) ∙ (rw (add-zero, zero-add) at all)

module _ {n : ℕ} {ts pairs₀ pairs : List ℕ} {seen begin at i : ℕ} (w : Writing n ts pairs₀ pairs seen begin at i)
    (small : n ≤ 64) (l : i < length ts) (known : get_or ts i 0 < n) where
  module _ (e : with_of seen (get_or ts i 0) ≡ all_of n) where
    pub two-more : at + 2 ≤ length pairs
    two-more = omega (arith, w.room, ap length (ends_here n ts i l small known w.named e))

    pub ended : Writing n ts pairs₀ (set (set pairs at begin) (at + 1) (i + 1 - begin)) 0 (i + 1) (at + 2) (i + 1)
    ended =
        let p : List ℕ = w.since ++ get_or ts i 0 ∷ [] in
        let ends = ends_here n ts i l small known w.named e in
        let size : length p ≡ i + 1 - begin = omega (arith, w.walked, length-append w.since (get_or ts i 0 ∷ [])) in
        record {
          since = [];
          named = seen_none n;
          walked = omega arith;
          within = omega arith;
          room = rw (length-set, length-set) (omega (arith, w.room, ap length ends));
          same = rw (length-set, length-set) w.same;
          whole =
              let more = filled_more pairs at begin p (passes_from n [] (drop (i + 1) ts)) (omega (arith, two-more)) in
              let over : begin + length p ≡ i + 1 = omega (arith, w.walked) in
              sym (rw (over, size) at more) ∙ rw ends at w.whole;
        }

  pub not_yet : (with_of seen (get_or ts i 0) ≡ all_of n → ⊥) → Writing n ts pairs₀ pairs (with_of seen (get_or ts i 0)) begin at (i + 1)
  not_yet e =
      let on = goes_on_lem n ts i l small known w.named e in
      record {
        since = w.since ++ get_or ts i 0 ∷ [];
        named = seen_more small known w.named;
        walked = omega (arith, w.walked, length-append w.since (get_or ts i 0 ∷ []));
        within = omega arith;
        room = rw on at w.room;
        same = w.same;
        whole = rw on at w.whole;
      }
