-- Laws of the sets of `Set.antt` and of the number of tasks: of single digits first, then those that the crates above cite.
use Rattle.std.specs.Prelude.{◌≡◌, refl, ◌≢◌, ◌↔◌, Bool, true, false, ℕ, zero, suc, ◌+◌, ◌-◌, ◌*◌, ◌/◌, ◌%◌, ◌^◌, ◌≤◌, ◌<◌, min, eqb, ltb, leb}
use Rattle.std.proofs.Common.{sym, ap, ◌∙◌, subst, pow-suc, le_refl, le_trans, le_of_eq, lt_of_not-le, mod-eq_of_lt, mul_comm, mul_assoc, div-one, div-mul-le_self, arith, pow_pos, pow_mono, lt-ltb, le-ltb, ltb-true, le-leb, leb-true, eq-eqb, ne_eqb, eqb-true}
use Rattle.std.proofs.Math.Bool.{and-eq-true_iff}
use Rattle.std.proofs.Math.Nat.{div-div-eq-div-mul}
use Rattle.std.proofs.Math.Decide.{ℕ_discrete, dec_lt}
use Rattle.std.proofs.Math.Dec.{leb-suc-suc}
use Rattle.std.specs.Int.Bits.{bit_and, and_step}
use Rattle.std.proofs.lemmas.Nat.{and_le_l, trailing_le}
use Rattle.std.specs.Int.Count.{ones, count_trailing_zeros, under, ones_step, ones-ones}
use Rattle.std.proofs.lemmas.Bool.{eqb-false}
use Rattle.bitset.specs.Choice.{pick}
use Rattle.bitset.specs.ChoiceLaws.{by_test}
use Rattle.bitset.specs.Tasks.{is_count}
use Rattle.bitset.specs.Set.{bit, put, within_digits, least_of, from_of, first_from, without_of, with_of, all_of, size_of}

-- ---- the number of tasks

pub is_count_lem : (n : ℕ) → is_count n ≡ true → (1 ≤ n) × (n ≤ 64)
is_count_lem n e = let both = (and-eq-true_iff (leb 1 n) (leb n 64)).0 e in (leb-true 1 n both.0, leb-true n 64 both.1)

-- ---- a digit

pub bit_le : (n k : ℕ) → bit n k ≤ 1
unfolding bit
bit_le n zero = omega arith
bit_le n (suc k) = bit_le (n / 2) k

pub bit_zero : (k : ℕ) → bit 0 k ≡ 0
unfolding bit
bit_zero zero = refl
bit_zero (suc k) = bit_zero k

-- a number has no digit past its length
pub bit_high : (w n k : ℕ) → n < 2 ^ w → w ≤ k → bit n k ≡ 0
unfolding bit
bit_high zero n k h l = ap (λ (x : ℕ). bit x k) (omega arith) ∙ bit_zero k
bit_high (suc w) n zero h l = omega arith
bit_high (suc w) n (suc k) h l = bit_high w (n / 2) k (omega (arith, pow-suc 2 w)) (omega arith)

-- a number is its digits
pub bit_ext : (w n m : ℕ) → n < 2 ^ w → m < 2 ^ w → ((k : ℕ) → k < w → bit n k ≡ bit m k) → n ≡ m
unfolding bit
bit_ext zero n m hn hm e = omega arith
bit_ext (suc w) n m hn hm e =
    omega (
      arith,
      e 0 (omega arith),
      bit_ext w (n / 2) (m / 2) (omega (arith, pow-suc 2 w)) (omega (arith, pow-suc 2 w)) (λ k h. e (suc k) (omega arith)),
    )

pub put_same : (n k b : ℕ) → b ≤ 1 → bit (put n k b) k ≡ b
unfolding bit put
put_same n zero b h = omega arith
put_same n (suc k) b h = ap (λ (x : ℕ). bit x k) (omega arith) ∙ put_same (n / 2) k b h

pub put_other : (n k b j : ℕ) → b ≤ 1 → j ≢ k → bit (put n k b) j ≡ bit n j
unfolding bit put
put_other n zero b zero h ne = absurd (ne refl)
put_other n zero b (suc j) h ne = ap (λ (x : ℕ). bit x j) (omega arith)
put_other n (suc k) b zero h ne = omega arith
put_other n (suc k) b (suc j) h ne =
    ap (λ (x : ℕ). bit x j) (omega arith) ∙ put_other (n / 2) k b j h (λ e. ne (ap suc e))

pub put_id : (n k : ℕ) → put n k (bit n k) ≡ n
unfolding bit put
put_id n zero = omega arith
put_id n (suc k) = omega (arith, put_id (n / 2) k)

-- the law of sizes, for members and others at once
pub put_ones : (n k b : ℕ) → b ≤ 1 → ones (put n k b) + bit n k ≡ ones n + b
unfolding bit put
put_ones n zero b h =
    let m : ℕ = n / 2 * 2 + b in
    let e : ones (m / 2) ≡ ones (n / 2) = ap ones (omega arith) in
    omega (arith, ones_step m, ones_step n)
put_ones n (suc k) b h =
    let m : ℕ = put (n / 2) k b * 2 + n % 2 in
    let e : ones (m / 2) ≡ ones (put (n / 2) k b) = ap ones (omega arith) in
    omega (arith, ones_step m, ones_step n, put_ones (n / 2) k b h)

pub put_lt : (w n k b : ℕ) → b ≤ 1 → k < w → n < 2 ^ w → put n k b < 2 ^ w
unfolding put
put_lt zero n k b h l hn = absurd (omega arith)
put_lt (suc w) n zero b h l hn = omega (arith, pow-suc 2 w)
put_lt (suc w) n (suc k) b h l hn =
    omega (arith, pow-suc 2 w, put_lt w (n / 2) k b h (omega arith) (omega (arith, pow-suc 2 w)))

-- ---- the least task

-- every set but the empty one has its least task in it, and that is a task of 0 to 63
pub least_member : (w n : ℕ) → 0 < n → n < 2 ^ w → (bit n (count_trailing_zeros w n) ≡ 1) × (count_trailing_zeros w n < w)
unfolding bit count_trailing_zeros
least_member zero n p h = absurd (omega arith)
least_member (suc w) n p h = go (n % 2) refl (λ q. least_member w (n / 2) q (omega (arith, pow-suc 2 w)))
  where
    go : (d : ℕ) → n % 2 ≡ d → (0 < n / 2 → (bit (n / 2) (count_trailing_zeros w (n / 2)) ≡ 1) × (count_trailing_zeros w (n / 2) < w))
        → (bit n (under d (count_trailing_zeros w (n / 2))) ≡ 1) × (under d (count_trailing_zeros w (n / 2)) < suc w)
    go zero e ih = let l = ih (omega arith) in (l.0, omega arith)
    go (suc d) e ih = (omega arith, omega arith)

-- and no smaller number is in it
pub least_lowest : (w n k : ℕ) → k < count_trailing_zeros w n → bit n k ≡ 0
unfolding bit count_trailing_zeros
least_lowest zero n k l = absurd (omega arith)
least_lowest (suc w) n k l = go (n % 2) refl k l (λ j. least_lowest w (n / 2) j)
  where
    go : (d : ℕ) → n % 2 ≡ d → (j : ℕ) → j < under d (count_trailing_zeros w (n / 2))
        → ((i : ℕ) → i < count_trailing_zeros w (n / 2) → bit (n / 2) i ≡ 0) → bit n j ≡ 0
    go zero e zero h ih = e
    go zero e (suc j) h ih = ih j (omega arith)
    go (suc d) e j h ih = absurd (omega arith)

-- the two at a set of tasks: trailing zeros yield its least task, which is a member, and no smaller number is
pub least_of_list : (list : ℕ) → 0 < list → list < 2 ^ 64
    → (bit list (least_of list) ≡ 1) × (least_of list < 64) × ((k : ℕ) → k < least_of list → bit list k ≡ 0)
least_of_list list pos h = let l = least_member 64 list pos h in (l.0, l.1, least_lowest 64 list)

-- ---- the first task from a start on, going round

-- the tasks at or above k, one place on
pub from_suc : (list k : ℕ) → from_of list (suc k) ≡ from_of (list / 2) k * 2
from_suc list k =
    ap (λ (x : ℕ). list / x * x) (pow-suc 2 k ∙ mul_comm (2 ^ k) 2)
    ∙ ap (λ (x : ℕ). x * (2 * 2 ^ k)) (sym (div-div-eq-div-mul list 2 (2 ^ k)))
    ∙ ap (λ (x : ℕ). list / 2 / 2 ^ k * x) (mul_comm 2 (2 ^ k))
    ∙ sym (mul_assoc (list / 2 / 2 ^ k) (2 ^ k) 2)

-- the tasks at or above k are those of the set, and there is none below
from_below : (list k j : ℕ) → j < k → bit (from_of list k) j ≡ 0
unfolding bit
from_below list zero j h = absurd (omega arith)
from_below list (suc k) zero h = rw (from_suc list k) (omega arith)
from_below list (suc k) (suc j) h =
    rw (from_suc list k) (ap (λ (x : ℕ). bit x j) (omega arith) ∙ from_below (list / 2) k j (omega arith))

from_at : (list k j : ℕ) → k ≤ j → bit (from_of list k) j ≡ bit list j
unfolding bit
from_at list zero j h = ap (λ (x : ℕ). bit x j) (omega (arith, div-one list))
from_at list (suc k) zero h = absurd (omega arith)
from_at list (suc k) (suc j) h =
    rw (from_suc list k) (ap (λ (x : ℕ). bit x j) (omega arith) ∙ from_at (list / 2) k j (omega arith))

-- the least of the tasks at or above the start, where there is one: a member, and no task between is
least_from : (list start : ℕ) → list < 2 ^ 64 → from_of list start ≢ 0
    → (bit list (least_of (from_of list start)) ≡ 1) × (start ≤ least_of (from_of list start))
    × ((j : ℕ) → start ≤ j → j < least_of (from_of list start) → bit list j ≡ 0)
least_from list start h ne = (sym (from_at list start (least_of above) from) ∙ least.0, from, λ j a l. sym (from_at list start j a) ∙ least.2 j l)
  where
    above : ℕ
    above = from_of list start

    least : (bit above (least_of above) ≡ 1) × (least_of above < 64) × ((j : ℕ) → j < least_of above → bit above j ≡ 0)
    least = least_of_list above (omega arith) (omega (arith, div-mul-le_self list (2 ^ start)))

    from : start ≤ least_of above
    from = omega (arith, lt_of_not-le {n = suc (least_of above)} {m = start} (λ l. absurd (omega (arith, from_below list start (least_of above) l, least.0))))

-- where the set has a task at or above the start, the first is the least of those
pub first_above : (list start k : ℕ) → list < 2 ^ 64 → start < 64 → start ≤ k → bit list k ≡ 1
    → (start ≤ first_from list start) × ((j : ℕ) → start ≤ j → j < first_from list start → bit list j ≡ 0)
unfolding first_from
first_above list start k h s a e =
    let l = least_from list start h some in
    rw (mod-eq_of_lt s, ne_eqb (from_of list start) 0 some) (l.1, l.2)
  where
    some : from_of list start ≢ 0
    some z = absurd (omega (arith, from_at list start k a, ap (λ (x : ℕ). bit x k) z, bit_zero k))

-- where it has none there, the first is the least of all
pub first_round : (list start : ℕ) → list < 2 ^ 64 → start < 64 → ((k : ℕ) → start ≤ k → bit list k ≡ 0) → first_from list start ≡ least_of list
unfolding first_from
first_round list start h s none = rw (mod-eq_of_lt s, eq-eqb (from_of list start) 0 empty)
  where
    digit : (j : ℕ) → Dec (j < start) → bit (from_of list start) j ≡ bit 0 j
    digit j (yes l) = from_below list start j l ∙ sym (bit_zero j)
    digit j (no l) = from_at list start j (omega arith) ∙ none j (omega arith) ∙ sym (bit_zero j)

    empty : from_of list start ≡ 0
    empty = bit_ext 64 (from_of list start) 0 (omega (arith, div-mul-le_self list (2 ^ start))) (omega arith) (λ j _. digit j (dec_lt j start))

-- from 0 on it is the least, so that line 13 with the start 0 takes the task that 01 names
pub first_from_0 : (list : ℕ) → first_from list 0 ≡ least_of list
unfolding first_from
first_from_0 list = rw all (by_test (λ k. k ≡ least_of list) (eqb list 0) (λ _. refl) (λ _. refl))
  where
    all : from_of list 0 ≡ list
    all = omega (arith, div-one list)

-- whatever the start, the first is a task of 0 to 63, or 64
pub first_le : (list start : ℕ) → first_from list start ≤ 64
unfolding first_from
first_le list start =
    by_test (λ k. k ≤ 64) (eqb (from_of list (start % 64)) 0) (λ _. trailing_le 64 list) (λ _. trailing_le 64 (from_of list (start % 64)))

-- and it is a member exactly if the set is not empty
pub first_member : (list start : ℕ) → list < 2 ^ 64 → (bit list (first_from list start) ≡ 1) ↔ (list ≢ 0)
unfolding first_from
first_member list start h = (some, taken)
  where
    some : bit list (first_from list start) ≡ 1 → list ≢ 0
    some e z = absurd (omega (arith, ap (λ (x : ℕ). bit x (first_from list start)) z, bit_zero (first_from list start)))

    taken : list ≢ 0 → bit list (first_from list start) ≡ 1
    taken ne =
        by_test (λ k. bit list k ≡ 1) (eqb (from_of list (start % 64)) 0) (λ _. (least_of_list list (omega arith) h).0)
        (λ e. (least_from list (start % 64) h (eqb-false (from_of list (start % 64)) 0 e)).0)

-- ---- taking a task off and putting one on

-- taking off what is not listed changes nothing
pub without_absent : (list k : ℕ) → bit list k ≡ 0 → without_of list k ≡ list
without_absent list k e = subst (λ (b : ℕ). put list k b ≡ list) e (put_id list k)

-- the task is off then, and no other task is touched
pub without_same : (list k : ℕ) → bit (without_of list k) k ≡ 0
without_same list k = put_same list k 0 (omega arith)

pub without_other : (list k j : ℕ) → j ≢ k → bit (without_of list k) j ≡ bit list j
without_other list k j ne = put_other list k 0 j (omega arith) ne

-- the empty set has no task
pub size_zero : size_of 0 ≡ 0
unfolding ones
size_zero = refl

-- taking off a member lowers the size by one
pub without_size : (list k : ℕ) → bit list k ≡ 1 → size_of (without_of list k) + 1 ≡ size_of list
without_size list k e = omega (arith, put_ones list k 0 (omega arith))

pub without_lt : (w list k : ℕ) → list < 2 ^ w → without_of list k < 2 ^ w
without_lt w list k h = go (dec_lt k w)
  where
    go : Dec (k < w) → without_of list k < 2 ^ w
    go (yes q) = put_lt w list k 0 (omega arith) q h
    go (no q) = rw (without_absent list k (bit_high w list k h (omega arith))) h

-- of the tasks 0 to 63, the one that is put on is in the set, and no other is touched; any other number changes nothing
pub with_same : (list k : ℕ) → k < 64 → bit (with_of list k) k ≡ 1
with_same list k h = rw (lt-ltb k 64 h) (put_same list k 1 (omega arith))

pub with_other : (list k j : ℕ) → j ≢ k → bit (with_of list k) j ≡ bit list j
with_other list k j ne = go (ltb k 64)
  where
    go : (b : Bool) → bit (pick b (put list k 1) list) j ≡ bit list j
    go true = put_other list k 1 j (omega arith) ne
    go false = refl

-- putting on a task that was not there raises the size by one
pub with_size : (list k : ℕ) → k < 64 → bit list k ≡ 0 → size_of (with_of list k) ≡ size_of list + 1
with_size list k h e = rw (lt-ltb k 64 h) (omega (arith, put_ones list k 1 (omega arith)))

pub with_past : (list k : ℕ) → 64 ≤ k → with_of list k ≡ list
with_past list k h = rw (le-ltb k 64 h)

pub with_lt : (list k : ℕ) → list < 2 ^ 64 → with_of list k < 2 ^ 64
with_lt list k h = go (ltb k 64) refl
  where
    go : (b : Bool) → ltb k 64 ≡ b → pick b (put list k 1) list < 2 ^ 64
    go true e = put_lt 64 list k 1 (omega arith) (ltb-true k 64 e) h
    go false e = h

-- ---- the first n tasks

-- the digits of 2 ^ n - 1
ones_bit : (n k : ℕ) → bit (2 ^ n - 1) k ≡ pick (ltb k n) 1 0
unfolding bit
ones_bit zero k = bit_zero k ∙ rw (le-ltb k 0 (omega arith))
ones_bit (suc n) zero = rw (lt-ltb 0 (suc n) (omega arith)) (omega (arith, pow-suc 2 n, pow_pos n))
ones_bit (suc n) (suc k) =
    ap (λ (x : ℕ). bit x k) (omega (arith, pow-suc 2 n, pow_pos n)) ∙ ones_bit n k ∙ ap (λ (b : Bool). pick b 1 0) (sym (leb-suc-suc (suc k) n))

-- its members are the tasks below n, for every n up to 64
pub all_member : (n k : ℕ) → n ≤ 64 → k < n → bit (all_of n) k ≡ 1
all_member n k h l = ones_bit (min n 64) k ∙ rw (lt-ltb k (min n 64) (omega arith))

pub all_past : (n k : ℕ) → n ≤ k → bit (all_of n) k ≡ 0
all_past n k l = ones_bit (min n 64) k ∙ rw (le-ltb k (min n 64) (omega arith))

pub all_size : (n : ℕ) → n ≤ 64 → size_of (all_of n) ≡ n
all_size n h = ones-ones (min n 64) ∙ omega arith

pub all_lt : (n : ℕ) → all_of n < 2 ^ 64
all_lt n = omega (arith, pow_pos (min n 64), pow_mono {i = min n 64} {j = 64} (omega arith))

-- ---- sets within each other

-- a set is within another exactly if each of its tasks is in the other one
module _ (w list other : ℕ) where
  digits : within_digits (suc w) list other ≡ true → (list % 2 ≤ other % 2) × (within_digits w (list / 2) (other / 2) ≡ true)
  unfolding within_digits
  digits e =
      let both = (and-eq-true_iff (leb (list % 2) (other % 2)) (within_digits w (list / 2) (other / 2))).0 e in
      (leb-true (list % 2) (other % 2) both.0, both.1)

pub within_lt : (w list other : ℕ) → within_digits w list other ≡ true → list < 2 ^ w
unfolding within_digits
within_lt zero list other e = omega (arith, eqb-true list 0 e)
within_lt (suc w) list other e = omega (arith, pow-suc 2 w, within_lt w (list / 2) (other / 2) (digits w list other e).1)

pub within_bit : (w list other k : ℕ) → within_digits w list other ≡ true → bit list k ≤ bit other k
unfolding within_digits bit
within_bit zero list other k e = omega (arith, ap (λ (x : ℕ). bit x k) (eqb-true list 0 e), bit_zero k)
within_bit (suc w) list other zero e = (digits w list other e).0
within_bit (suc w) list other (suc k) e = within_bit w (list / 2) (other / 2) k (digits w list other e).1

pub within_bits : (w list other : ℕ) → list < 2 ^ w → ((k : ℕ) → bit list k ≤ bit other k) → within_digits w list other ≡ true
unfolding within_digits bit
within_bits zero list other h f = eq-eqb list 0 (omega arith)
within_bits (suc w) list other h f =
    rw (le-leb (list % 2) (other % 2) (f 0), within_bits w (list / 2) (other / 2) (omega (arith, pow-suc 2 w)) (λ k. f (suc k)))

-- in a word, by `&`
pub within_and : (w list other : ℕ) → within_digits w list other ≡ true → bit_and list other ≡ list
unfolding within_digits
within_and zero list other e = omega (arith, eqb-true list 0 e, and_le_l list other)
within_and (suc w) list other e =
    let both = digits w list other e in
    omega (arith, and_step list other, both.0, within_and w (list / 2) (other / 2) both.1)

pub and_within : (w list other : ℕ) → list < 2 ^ w → bit_and list other ≡ list → within_digits w list other ≡ true
unfolding within_digits
and_within zero list other h e = eq-eqb list 0 (omega arith)
and_within (suc w) list other h e =
    rw (
      le-leb (list % 2) (other % 2) (omega (arith, and_step list other)),
      and_within w (list / 2) (other / 2) (omega (arith, pow-suc 2 w)) (omega (arith, and_step list other)),
    )

pub within_self : (w list : ℕ) → list < 2 ^ w → within_digits w list list ≡ true
within_self w list h = within_bits w list list h (λ k. le_refl (bit list k))

-- taking a task off keeps a set within
pub without_within : (w list other k : ℕ) → within_digits w list other ≡ true → within_digits w (without_of list k) other ≡ true
without_within w list other k e =
    within_bits w (without_of list k) other (without_lt w list k (within_lt w list other e))
    (λ j. le_trans (fewer j (ℕ_discrete j k)) (within_bit w list other j e))
  where
    fewer : (j : ℕ) → Dec (j ≡ k) → bit (without_of list k) j ≤ bit list j
    fewer j (yes e) = rw e (le_trans (le_of_eq (without_same list k)) (omega arith))
    fewer j (no ne) = le_of_eq (without_other list k j ne)

-- a task of a set that is within another is in that one
pub within_member : (w list other k : ℕ) → within_digits w list other ≡ true → bit list k ≡ 1 → bit other k ≡ 1
within_member w list other k e m = omega (arith, within_bit w list other k e, bit_le other k)

-- a set within another is no larger
pub within_size : (w list other : ℕ) → within_digits w list other ≡ true → size_of list ≤ size_of other
unfolding within_digits
within_size zero list other e = rw (eqb-true list 0 e) (omega (arith, ones-ones 0))
within_size (suc w) list other e =
    let both = digits w list other e in
    omega (arith, both.0, within_size w (list / 2) (other / 2) both.1, ones_step list, ones_step other)

-- taking the least task off a set takes its power of two off the number
pub without_least : (w q : ℕ) → 0 < q → q < 2 ^ w → put q (count_trailing_zeros w q) 0 ≡ q - 2 ^ count_trailing_zeros w q
unfolding count_trailing_zeros put
without_least zero q p h = absurd (omega arith)
without_least (suc w) q p h = go (q % 2) refl (λ pos. without_least w (q / 2) pos (omega (arith, pow-suc 2 w)))
  where
    t : ℕ
    t = count_trailing_zeros w (q / 2)

    go : (b : ℕ) → q % 2 ≡ b → (0 < q / 2 → put (q / 2) t 0 ≡ q / 2 - 2 ^ t) → put q (under b t) 0 ≡ q - 2 ^ under b t
    go zero e ih = let r = ih (omega arith) in omega (arith, r, pow-suc 2 t)
    go (suc b) e ih = omega arith
