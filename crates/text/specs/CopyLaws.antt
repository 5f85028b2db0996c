-- A loop that writes what f makes of each number to the first places of a buffer: what it has written when it is at i.
use Rattle.std.specs.Prelude.{◌≡◌, refl, List, map, ℕ, ◌+◌, min, ◌≤◌, ◌<◌, length, set, get_or}
use Rattle.std.proofs.Common.{sym, ap, ◌∙◌, zero-add, add-one, arith, length-set, drop_of_length-le, take_all}
use Rattle.std.proofs.Math.Decide.{dec_le}
use Rattle.std.proofs.lemmas.List.{length-map}
use Rattle.std.proofs.Math.ListN.{get_or-map}
use Rattle.std.proofs.Math.Seq.{paste, paste-zero, paste-suc}
use Rattle.text.specs.Numbers.{over}

pub record Copying (f : ℕ → ℕ) (numbers buffer₀ : List ℕ) (count : ℕ) (buffer : List ℕ) (i : ℕ) : Type 0 where
  pub most : count ≡ min (length numbers) (length buffer₀)
  pub within : i ≤ count
  pub same : length buffer ≡ length buffer₀
  pub whole : buffer ≡ paste buffer₀ 0 (map f numbers) i

pub begin : (f : ℕ → ℕ) (numbers buffer : List ℕ) (count : ℕ) → count ≡ min (length numbers) (length buffer) → Copying f numbers buffer count buffer 0
begin f numbers buffer count e = record { most = e; within = omega arith; same = refl; whole = paste-zero buffer 0 (map f numbers) }

module _ {f : ℕ → ℕ} {numbers buffer₀ buffer : List ℕ} {count i : ℕ} (w : Copying f numbers buffer₀ count buffer i) where
  pub more : i < count → (b : ℕ) → b ≡ f (get_or numbers i 0) → Copying f numbers buffer₀ count (set buffer i b) (i + 1)
  more l b e =
      record {
        most = w.most;
        within = omega arith;
        same = rw length-set w.same;
        whole =
            let s : List ℕ = map f numbers in
            rw (w.whole, e, add-one i, ← get_or-map f numbers i 0)
            (ap (λ (k : ℕ). set (paste buffer₀ 0 s i) k (get_or s i (f 0))) (sym (zero-add i))
            ∙ paste-suc buffer₀ 0 s i (f 0) (omega (arith, w.most)) (rw length-map (omega (arith, w.most))));
      }

  pub done : count ≤ i → buffer ≡ over (map f numbers) buffer₀
  done l = w.whole ∙ go (dec_le (length numbers) (length buffer₀))
    where
      go : Dec (length numbers ≤ length buffer₀) → paste buffer₀ 0 (map f numbers) i ≡ over (map f numbers) buffer₀
      go (yes h) =
          let e : i ≡ length numbers = omega (arith, w.most, w.within) in
          rw (e, take_all (length numbers) (map f numbers) (rw length-map (omega arith)), take_all (length buffer₀) (map f numbers) (rw length-map (omega arith)), length-map, zero-add)
      go (no h) =
          let e : i ≡ length buffer₀ = omega (arith, w.most, w.within) in
          rw (e, zero-add, length-map, drop_of_length-le buffer₀ {i = length buffer₀} (omega arith), drop_of_length-le buffer₀ {i = length numbers} (omega arith))
