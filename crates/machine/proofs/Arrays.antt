-- Arrays: the first n entries of a state's 64, how a loop fills an array from the front, and what `map` makes of one.
use Rattle.std.proofs.Common.{◌≡◌, sym, ap, ◌∙◌, List, [], ◌∷◌, ◌++◌, ℕ, suc, ◌+◌, ◌-◌, ◌≤◌, ◌<◌, min, length, take, drop, set, replicate, get_or, ext_get_or, arith}
use Rattle.std.specs.Fn.{Called}
use Rattle.std.specs.Array.{IsMapOf}
use denote.Param.Members.{Mut}
use Rattle.bitset.specs.Table.{table}
use Rattle.bitset.specs.TableLaws.{length_table, table_at}
use Rattle.std.proofs.Math.Decide.{dec_lt}
use Rattle.std.proofs.Math.ListN.{drop_of_length-le}
use Rattle.std.proofs.Math.Seq.{append_snoc}
use Rattle.std.proofs.lemmas.List.{take_all, set_at}

-- at most the 64 entries are the table
at_most : (f : ℕ → List ℕ) (n : ℕ) → (64 ≤ n → f 64 ≡ f n) → f (min n 64) ≡ f n
at_most f n past = go (dec_lt n 64)
  where
    go : Dec (n < 64) → f (min n 64) ≡ f n
    go (yes h) = let same : min n 64 ≡ n = omega arith in ap f same
    go (no h) = let same : min n 64 ≡ 64 = omega arith in ap f same ∙ past (omega arith)

pub take_min : (n : ℕ) (l : List ℕ) → length l ≡ 64 → take (min n 64) l ≡ take n l
take_min n l long = at_most (λ (k : ℕ). take k l) n (λ h. take_all 64 l (omega arith) ∙ sym (take_all n l (omega arith)))

pub drop_min : (n : ℕ) (l : List ℕ) → length l ≡ 64 → drop (min n 64) l ≡ drop n l
drop_min n l long = at_most (λ (k : ℕ). drop k l) n (λ h. drop_of_length-le l {i = 64} (omega arith) ∙ sym (drop_of_length-le l {i = n} (omega arith)))

-- the store after q stores, of an array of n that was all d
pub store_next {ℓ} : {A : Type ℓ} (ys : List A) (n q : ℕ) (a d : A) → length ys ≡ q → q < n
    → set (ys ++ replicate (n - q) d) q a ≡ (ys ++ (a ∷ [])) ++ replicate (n - (q + 1)) d
store_next ys n q a d long h =
    ap (λ (k : ℕ). set (ys ++ replicate k d) q a) more ∙ set_at ys d (replicate (n - (q + 1)) d) a q long ∙ sym (append_snoc ys a (replicate (n - (q + 1)) d))
  where
    more : n - q ≡ suc (n - (q + 1))
    more = omega arith

-- the table that `map` of an array gives by a function
pub table_mapped : {F A : Type 0} {g : Mut F (A × Unit {0}) ℕ} {f : F} (h : A → ℕ) (d : A)
    → ((p q : F) (x : A) (y : ℕ) → Called g p (x, tt) y q → y ≡ h x)
    → {xs : List A} {ys : List ℕ} {n : ℕ} → IsMapOf g f xs ys n → ys ≡ table n (λ q. h (get_or xs q d))
table_mapped h d gives {xs} {ys} {n} made =
    ext_get_or 0 ys (table n (λ q. h (get_or xs q d))) (made.long ∙ sym (length_table n (λ q. h (get_or xs q d))))
    (λ i l. let here : i < n = omega (arith, made.long) in
    let call = made.at i d 0 here in
    gives call.0 call.1 (get_or xs i d) (get_or ys i 0) call.2 ∙ sym (table_at n (λ q. h (get_or xs q d)) i 0 here))
