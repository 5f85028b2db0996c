-- Laws of the numbers of a text: how many there can be, what the reader's answer tells of them, and the bytes that stand for them.
use Rattle.std.specs.Prelude.{◌≡◌, refl, List, [], ◌∷◌, ◌++◌, map, ℕ, zero, suc, ◌+◌, ◌-◌, ◌*◌, min, ◌≤◌, ◌<◌, eqb, leb, ltb, length, take, drop, set, get_or, replicate, Option as Answer, Some, None}
use Rattle.std.proofs.Common.{sym, ap, ◌∙◌, arith, length-append, length-take, length-drop, take_at, take_all, ext_get_or, le-ltb, ne_eqb, leb-true, le-leb}
use Rattle.std.proofs.Math.Option.{Option, none, some}
use Rattle.std.proofs.Math.Decide.{dec_le}
use Rattle.std.proofs.lemmas.List.{length-map, take-map, drop-map, length-take-le, length-replicate}
use Rattle.std.proofs.Math.ListN.{get_or-map}
use Rattle.std.proofs.Math.Seq.{take-nil}
use Rattle.std.proofs.lemmas.Bool.{lt-leb}
use Rattle.bitset.specs.ChoiceLaws.{by_test}
use Rattle.bitset.specs.TasksLaws.{StandIn}
use Rattle.text.specs.Numbers.{is_digit, is_space, ended, numbers_from, max_text, numbers_of, found_of, over, numbers_over, low}

-- ---- how many numbers

-- the numbers, if there are any, are at most half of k
abbrev Few : ℕ → Option (List ℕ) → Type 0
Few k none = Unit {0}
Few k (some ns) = 2 * length ns ≤ k

few_more : {k m : ℕ} (o : Option (List ℕ)) → k ≤ m → Few k o → Few m o
few_more none l f = tt
few_more (some ns) l f = omega arith

few_ended : (d v k : ℕ) (o : Option (List ℕ)) → Few k o → Few (k + 2 * min 1 d) (ended d v o)
few_ended zero v k none f = tt
few_ended zero v k (some ns) f = omega arith
few_ended (suc d) v k none f = tt
few_ended (suc d) v k (some ns) f = omega arith

-- each number has a digit, and there is a byte between two
few : (d v : ℕ) (bs : List ℕ) → Few (length bs + 1 + min 1 d) (numbers_from d v bs)
unfolding numbers_from
few d v [] = few_more (ended d v (some [])) (omega arith) (few_ended d v 0 (some []) (omega arith))
few d v (b ∷ bs) =
    let K : Option (List ℕ) → Type 0 = Few (suc (length bs) + 1 + min 1 d) in
    by_test K (is_digit b)
    (λ _. by_test K (ltb d 5) (λ _. few_more (numbers_from (suc d) (v * 10 + (b - 48)) bs) (omega arith) (few (suc d) (v * 10 + (b - 48)) bs)) (λ _. tt))
    (λ _. by_test K (is_space b) (λ _. few_more (ended d v (numbers_from 0 0 bs)) (omega arith) (few_ended d v (length bs + 1 + min 1 0) (numbers_from 0 0 bs) (few 0 0 bs))) (λ _. tt))

-- a text of k bytes has at most (k + 1) / 2 numbers
pub numbers_few : (text ns : List ℕ) → numbers_from 0 0 text ≡ some ns → 2 * length ns ≤ length text + 1
numbers_few text ns e = omega (arith, rw e at (few 0 0 text))

-- no text has more than 32,768
pub numbers_most : (text ns : List ℕ) → numbers_of text ≡ some ns → length ns ≤ 32768
numbers_most text =
    by_test (λ (o : Option (List ℕ)). (ns : List ℕ) → o ≡ some ns → length ns ≤ 32768) (leb (length text) max_text)
    (λ t ns e. omega (arith, leb-true (length text) max_text t, numbers_few text ns e))
    (λ t ns e. let z : ◌≡◌ {A = ℕ} 0 1 = cc in absurd (omega arith))

-- ---- a list in the first places of a buffer

-- nothing
pub over_none : (buffer : List ℕ) → buffer ≡ over [] buffer
over_none buffer = rw take-nil

-- where there is room for all
pub over_whole : (xs buffer : List ℕ) → length xs ≤ length buffer → over xs buffer ≡ xs ++ drop (length xs) buffer
over_whole xs buffer h = rw (take_all (length buffer) xs h)

pub over_first : (xs buffer : List ℕ) → length xs ≤ length buffer → take (length xs) (over xs buffer) ≡ xs
over_first xs buffer h = rw (over_whole xs buffer h) (take_at xs (drop (length xs) buffer) (length xs) refl)

pub over_length : (xs buffer : List ℕ) → length (over xs buffer) ≡ length buffer
over_length xs buffer = simp (length-append, length-take, length-drop) (omega arith)

-- one element more
pub over_more : (xs buffer : List ℕ) (x : ℕ) → set (over xs buffer) (length xs) x ≡ over (xs ++ x ∷ []) buffer
over_more [] [] x = refl
over_more [] (b ∷ bs) x = ap (λ (l : List ℕ). x ∷ l ++ bs) (sym (take-nil (length bs)))
over_more (y ∷ ys) [] x = refl
over_more (y ∷ ys) (b ∷ bs) x = ap (λ (l : List ℕ). y ∷ l) (over_more ys bs x)

-- ---- what the reader's answer tells

pub found_bad : (o : Option (List ℕ)) (r : Answer ℕ) → r ≡ found_of o → r ≡ None → o ≡ none
found_bad none r e b = refl
found_bad (some ns) r e b = let z : ◌≡◌ {A = ℕ} 0 1 = cc in absurd (omega arith)

-- with a buffer of 32,768 places or more
pub found_count : (text buffer after : List ℕ) (r : Answer ℕ) → r ≡ found_of (numbers_of text) → after ≡ numbers_over (numbers_of text) buffer
    → 32768 ≤ length buffer → (k : ℕ) → r ≡ Some k → (k ≤ 32768) × (numbers_of text ≡ some (take k after))
found_count text buffer after r e a h k c = go (numbers_of text) refl (sym e ∙ c) a
  where
    go : (o : Option (List ℕ)) → numbers_of text ≡ o → found_of o ≡ Some k → after ≡ numbers_over o buffer → (k ≤ 32768) × (o ≡ some (take k after))
    go none n f a = let z : ◌≡◌ {A = ℕ} 0 1 = cc in absurd (omega arith)
    go (some ns) n f a =
        let l : length ns ≡ k = cc in
        let m = numbers_most text ns n in
        (omega arith, rw (← l, a, over_first ns buffer (omega arith)))

-- what a buffer of 32,768 zeros holds after k numbers are counted: they are its first
pub record Counted (text after : List ℕ) (k : ℕ) : Type 0 where
  pub few : k ≤ 32768
  pub there : k ≤ length after
  pub whole : k ≡ length (take k after)
  pub read : numbers_of text ≡ some (take k after)

pub counted : (text after : List ℕ) (r : Answer ℕ) (k : ℕ) → r ≡ found_of (numbers_of text) → after ≡ numbers_over (numbers_of text) (replicate 32768 0) → r ≡ Some k → Counted text after k
counted text after r k e a c =
    let zeros : List ℕ = replicate 32768 0 in
    let w = found_count text zeros after r e a (omega (arith, length-replicate {A = ℕ} 32768 0)) k c in
    let there : k ≤ length after = omega (arith, w.0, long (numbers_of text), ap length a) in
    record { few = w.0; there = there; whole = sym (length-take-le k after there); read = w.1 }
  where
    -- the buffer keeps its length
    long : (o : Option (List ℕ)) → length (numbers_over o (replicate 32768 0)) ≡ 32768
    long none = length-replicate {A = ℕ} (length (replicate {A = ℕ} 32768 0)) 0 ∙ length-replicate {A = ℕ} 32768 0
    long (some ns) = over_length ns (replicate 32768 0) ∙ length-replicate {A = ℕ} 32768 0

-- ---- the bytes of the numbers

-- below 256 a number is its own byte
pub low_same : (x : ℕ) → x ≤ 255 → low x ≡ x
low_same x h = rw (le-leb x 255 h)

-- and every larger one is 255
low_wide : (x : ℕ) → 255 < x → low x ≡ 255
low_wide x h = rw (lt-leb x 255 h)

-- compared with a number up to 255, a byte is as its number
pub low_below : (x n : ℕ) → n ≤ 255 → ltb (low x) n ≡ ltb x n
low_below x n h = go (dec_le x 255)
  where
    go : Dec (x ≤ 255) → ltb (low x) n ≡ ltb x n
    go (yes l) = ap (λ (y : ℕ). ltb y n) (low_same x l)
    go (no l) = ap (λ (y : ℕ). ltb y n) (low_wide x (omega arith)) ∙ le-ltb 255 n h ∙ sym (le-ltb x n (omega arith))

pub low_zero : (x : ℕ) → eqb (low x) 0 ≡ eqb x 0
low_zero x = go (dec_le x 255)
  where
    go : Dec (x ≤ 255) → eqb (low x) 0 ≡ eqb x 0
    go (yes l) = ap (λ (y : ℕ). eqb y 0) (low_same x l)
    go (no l) = ap (λ (y : ℕ). eqb y 0) (low_wide x (omega arith)) ∙ sym (ne_eqb x 0 (λ e. omega arith))

pub low_list : (xs : List ℕ) → ((i : ℕ) → i < length xs → get_or xs i 0 ≤ 255) → map low xs ≡ xs
low_list xs h =
    ext_get_or 0 (map low xs) xs (length-map xs low)
    (λ i l. get_or-map low xs i 0 ∙ low_same (get_or xs i 0) (h i (rw length-map at l)))

-- the bytes of the first k numbers, and of those after them
pub low_first : (k : ℕ) (xs : List ℕ) → take k (map low xs) ≡ map low (take k xs)
low_first = take-map low

pub low_rest : (k : ℕ) (xs : List ℕ) → drop k (map low xs) ≡ map low (drop k xs)
low_rest = drop-map low

-- a byte stands for its number among the numbers of tasks
pub low_alike : StandIn low
low_alike = record { zeros = low_zero; below = λ x n h. low_below x n (omega arith); same = λ x h. low_same x (omega arith) }
