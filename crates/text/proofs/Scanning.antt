-- What the loop of the reader keeps: the numbers stored so far, and in front of those that the rest of the text holds, are the text's.
use Rattle.std.proofs.Common.{◌≡◌, refl, sym, ap, ◌∙◌, List, [], ◌∷◌, ◌++◌, append_assoc, ℕ, zero, suc, ◌+◌, ◌-◌, ◌*◌, ◌^◌, ◌≤◌, ◌<◌, pow-suc, add-one, arith, le-leb, lt-ltb, le-ltb, ne_eqb, length, ◌⊎◌, inl, inr, drop, set, get_or, length-append, drop_of_length-le, drop-cons}
use Rattle.std.proofs.Math.Option.{Option, none, some}
use Rattle.std.proofs.lemmas.Bool.{lt-leb}
use Rattle.std.proofs.lemmas.List.{append-nil}
use Rattle.std.specs.Prelude.{Some}
use Rattle.text.specs.Numbers.{numbers_from, ended, over}
use Rattle.text.specs.Scan.{Scans}
use Rattle.text.specs.NumbersLaws.{over_more}

-- the numbers ns in front of those that follow
abbrev pub ahead : List ℕ → Option (List ℕ) → Option (List ℕ)
ahead ns none = none
ahead ns (some ms) = some (ns ++ ms)

-- the reader in front of the byte at i: it has stored the numbers ns, and one of so many digits has begun
pub record Scanning (text buffer₀ buffer : List ℕ) (count digits value i : ℕ) : Type 0 where
  pub ns : List ℕ
  pub counted : length ns ≡ count
  pub stored : buffer ≡ over ns buffer₀
  pub within : i ≤ length text
  pub room : count ≤ i
  pub few : digits ≤ 5
  pub small : value < 10 ^ digits
  pub read : numbers_from 0 0 text ≡ ahead ns (numbers_from digits value (drop i text))

-- a number that ends is stored
ahead-ended : (ns : List ℕ) (digits value : ℕ) (rest : Option (List ℕ)) → (digits ≡ 0 → ⊥) → ahead ns (ended digits value rest) ≡ ahead (ns ++ value ∷ []) rest
ahead-ended ns zero value rest ne = absurd (ne refl)
ahead-ended ns (suc d) value none ne = refl
ahead-ended ns (suc d) value (some ms) ne = rw (append_assoc ns (value ∷ []) ms)

-- what is answered at the end
all_read : (o : Option (List ℕ)) (ns buffer buffer₀ : List ℕ) (count : ℕ) → o ≡ ahead ns (some []) → length ns ≡ count → buffer ≡ over ns buffer₀
    → Scans o (Some count) buffer₀ buffer
all_read o ns buffer buffer₀ count e n s = rw (e, append-nil ns) (ap Some (sym n), s)

module _ {text buffer₀ buffer : List ℕ} {count digits value i : ℕ} (w : Scanning text buffer₀ buffer count digits value i) where
  at-end : length text ≤ i → numbers_from 0 0 text ≡ ahead w.ns (ended digits value (some []))
  unfolding numbers_from
  at-end l = rw (drop_of_length-le text {i = i} l) at w.read

  -- the buffer with a number more
  module _ (after : List ℕ) (e : after ≡ set buffer count value) where
    counted_more : length (w.ns ++ value ∷ []) ≡ count + 1
    counted_more = omega (arith, w.counted, length-append w.ns (value ∷ []))

    stored_more : after ≡ over (w.ns ++ value ∷ []) buffer₀
    stored_more = e ∙ rw (← w.counted, w.stored) (over_more w.ns buffer₀ value)

    pub last : length text ≤ i → (digits ≡ 0 → ⊥) → Scans (numbers_from 0 0 text) (Some (count + 1)) buffer₀ after
    last l ne =
        all_read (numbers_from 0 0 text) (w.ns ++ value ∷ []) after buffer₀ (count + 1) (at-end l ∙ ahead-ended w.ns digits value (some []) ne)
        counted_more stored_more

  pub no_last : length text ≤ i → digits ≡ 0 → Scans (numbers_from 0 0 text) (Some count) buffer₀ buffer
  no_last l z = all_read (numbers_from 0 0 text) w.ns buffer buffer₀ count (rw z at (at-end l)) w.counted w.stored

  module _ (l : i < length text) where
    next : drop i text ≡ get_or text i 0 ∷ drop (i + 1) text
    next = rw add-one (drop-cons text i 0 l)

    bad : numbers_from digits value (get_or text i 0 ∷ drop (i + 1) text) ≡ none → numbers_from 0 0 text ≡ none
    bad e = rw (next, e) at w.read

    pub another : (get_or text i 0 ≡ 32 → ⊥) → (get_or text i 0 ≡ 10 → ⊥) → (get_or text i 0 < 48) ⊎ (57 < get_or text i 0) → numbers_from 0 0 text ≡ none
    unfolding numbers_from
    another s f (inl k) = bad (rw (lt-leb 48 (get_or text i 0) k, ne_eqb (get_or text i 0) 32 s, ne_eqb (get_or text i 0) 10 f))
    another s f (inr k) = bad (rw (le-leb 48 (get_or text i 0) (omega arith), lt-leb (get_or text i 0) 57 k, ne_eqb (get_or text i 0) 32 s, ne_eqb (get_or text i 0) 10 f))

    module _ (from : 48 ≤ get_or text i 0) (to : get_or text i 0 < 58) where
      pub sixth : digits ≡ 5 → numbers_from 0 0 text ≡ none
      unfolding numbers_from
      sixth e = bad (rw (le-leb 48 (get_or text i 0) from, le-leb (get_or text i 0) 57 (omega arith), le-ltb digits 5 (omega arith)))

      pub digit : (digits ≡ 5 → ⊥) → Scanning text buffer₀ buffer count (digits + 1) (value * 10 + (get_or text i 0 - 48)) (i + 1)
      unfolding numbers_from
      digit ne =
          record {
            within = omega arith;
            ns = w.ns;
            counted = w.counted;
            stored = w.stored;
            room = omega (arith, w.room);
            few = omega (arith, w.few);
            small = rw (add-one digits, pow-suc 10 digits) (omega (arith, w.small));
            read = w.read ∙ rw (next, le-leb 48 (get_or text i 0) from, le-leb (get_or text i 0) 57 (omega arith), lt-ltb digits 5 (omega (arith, w.few)), add-one digits);
          }

    module _ (e : (get_or text i 0 ≡ 10) ⊎ (get_or text i 0 ≡ 32)) where
      space : numbers_from digits value (get_or text i 0 ∷ drop (i + 1) text) ≡ ended digits value (numbers_from 0 0 (drop (i + 1) text))
      unfolding numbers_from
      space = go e
        where
          go : (get_or text i 0 ≡ 10) ⊎ (get_or text i 0 ≡ 32) → numbers_from digits value (get_or text i 0 ∷ drop (i + 1) text) ≡ ended digits value (numbers_from 0 0 (drop (i + 1) text))
          go (inl k) = rw k
          go (inr k) = rw k

      pub ends : (digits ≡ 0 → ⊥) → (after : List ℕ) → after ≡ set buffer count value → Scanning text buffer₀ after (count + 1) 0 0 (i + 1)
      ends ne after t =
          record {
            within = omega arith;
            ns = w.ns ++ value ∷ [];
            counted = counted_more after t;
            stored = stored_more after t;
            room = omega (arith, w.room);
            few = omega arith;
            small = omega arith;
            read = w.read ∙ rw (next, space) (ahead-ended w.ns digits value (numbers_from 0 0 (drop (i + 1) text)) ne);
          }

      pub between : digits ≡ 0 → Scanning text buffer₀ buffer count digits value (i + 1)
      between z =
          let v : value ≡ 0 = omega (arith, rw z at w.small) in
          record {
            within = omega arith;
            ns = w.ns;
            counted = w.counted;
            stored = w.stored;
            room = omega (arith, w.room);
            few = w.few;
            small = w.small;
            read = w.read ∙ rw (next, space, z, v);
          }
