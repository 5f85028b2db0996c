-- Laws of parent tables: what the check accepts, and who is a child.
use Rattle.std.specs.Prelude.{◌≡◌, Bool, true, false, ◌&&◌, not, List, map, ◌≢◌, ◌↔◌, ◌⊎◌, eqb, ltb, length, get_or}
use Rattle.std.proofs.Math.Path.{refl, ap}
use Rattle.std.proofs.Common.{sym, ◌∙◌, inl, inr, eq-or-lt_of_le, le_of_suc-le-suc, add-one, arith, eq-eqb, ne_eqb, lt-ltb, le-ltb, eqb-true, ltb-true}
use Rattle.std.proofs.lemmas.Bool.{false≢true, eqb-false}
use Rattle.std.proofs.Math.Bool.{and-eq-true_iff}
use Prim.Native.Nat.{ℕ, zero, suc, ◌+◌, ◌^◌, ◌≤◌, ◌<◌}
use Rattle.std.proofs.Math.Decide.{ℕ_discrete, dec_lt}
use Rattle.std.proofs.lemmas.List.{length-map}
use Rattle.std.proofs.Math.ListN.{get_or-map, get_or-eq_default}
use Rattle.bitset.specs.Choice.{pick}
use Rattle.bitset.specs.Set.{bit, with_of}
use Rattle.bitset.specs.SetLaws.{bit_zero, with_same, with_other, with_lt}
use Rattle.parents.specs.Parents.{parent_of, IsTree, entry_ok, entries_ok, check_of, is_child, children_below, children_of}

-- ---- the check

pub entries_at : (table : List ℕ) (n q : ℕ) → entries_ok table n ≡ true → q < n → entry_ok table q ≡ true
unfolding entries_ok
entries_at table zero q e h = absurd (omega arith)
entries_at table (suc n) q e h = go (eq-or-lt_of_le (le_of_suc-le-suc h)) (entries_at table n q ((and-eq-true_iff (entries_ok table n) (entry_ok table n)).0 e).0)
  where
    go : (q ≡ n) ⊎ (q < n) → (q < n → entry_ok table q ≡ true) → entry_ok table q ≡ true
    go (inl eq) ih = rw eq ((and-eq-true_iff (entries_ok table n) (entry_ok table n)).0 e).1
    go (inr lt) ih = ih lt

pub entries_more : (table : List ℕ) (q : ℕ) → entries_ok table q ≡ true → entry_ok table q ≡ true → entries_ok table (q + 1) ≡ true
unfolding entries_ok
entries_more table q all e = rw (add-one q, all, e)

-- one law for each answer
pub check_length : (table : List ℕ) (n : ℕ) → length table ≢ n → check_of table n ≡ 5
unfolding check_of
check_length table n ne = rw (ne_eqb (length table) n ne)

pub check_entry : (table : List ℕ) (n q : ℕ) → length table ≡ n → q < n → entry_ok table q ≡ false → check_of table n ≡ 6
unfolding check_of
check_entry table n q long h bad = rw (eq-eqb (length table) n long) (go (entries_ok table n) refl)
  where
    go : (b : Bool) → entries_ok table n ≡ b → ◌≡◌ {A = ℕ} (pick b 0 6) 6
    go true e = absurd (false≢true (sym bad ∙ entries_at table n q e h))
    go false e = refl

pub check_all : (table : List ℕ) (n : ℕ) → length table ≡ n → entries_ok table n ≡ true → check_of table n ≡ 0
unfolding check_of
check_all table n long all = rw (eq-eqb (length table) n long, all)

-- what an accepted table promises
pub accepted : (table : List ℕ) (n : ℕ) → check_of table n ≡ 0 → IsTree table n
unfolding check_of
accepted table n e = go (eqb (length table) n) (entries_ok table n) refl refl e
  where
    entry : (q : ℕ) → entries_ok table n ≡ true → q < n → entry_ok table q ≡ true
    entry q all h = entries_at table n q all h

    root : (m : ℕ) → length table ≡ m → (0 < m → parent_of table 0 ≡ 0) → parent_of table 0 ≡ 0
    root zero long f = get_or-eq_default table 0 (omega arith)
    root (suc m) long f = f (omega arith)

    go : (l a : Bool) → eqb (length table) n ≡ l → entries_ok table n ≡ a → ◌≡◌ {A = ℕ} (pick l (pick a 0 6) 5) 0 → IsTree table n
    go true true el ea e =
        record {
          long = eqb-true (length table) n el;
          root = root n (eqb-true (length table) n el) (λ h. eqb-true (parent_of table 0) 0 (entry 0 ea h));
          lower = λ q pos h. ltb-true (parent_of table q) q (rw (ne_eqb q 0 (omega arith)) at (entry q ea h));
        }
    go true false el ea e = absurd (omega arith)
    go false a el ea e = absurd (omega arith)

-- and every table that promises so is accepted
pub accepts : (table : List ℕ) (n : ℕ) → IsTree table n → check_of table n ≡ 0
unfolding entries_ok
accepts table n t = check_all table n t.long (up_to n (omega arith))
  where
    entry : (q : ℕ) → q < n → entry_ok table q ≡ true
    entry zero h = eq-eqb (parent_of table 0) 0 t.root
    entry (suc q) h = rw (ne_eqb (suc q) 0 (omega arith)) (lt-ltb (parent_of table (suc q)) (suc q) (t.lower (suc q) (omega arith) h))

    up_to : (m : ℕ) → m ≤ n → entries_ok table m ≡ true
    up_to zero h = refl
    up_to (suc m) h = rw (up_to m (omega arith), entry m h)

-- ---- the children

-- r is a child of p exactly if it is not the root, it is below n, and its parent is p
pub children_bit : (table : List ℕ) (p n r : ℕ) → n ≤ 64 → bit (children_below table p n) r ≡ pick (ltb r n && is_child table p r) 1 0
unfolding children_below
children_bit table p zero r h = bit_zero r ∙ rw (le-ltb r 0 (omega arith))
children_bit table p (suc m) r h = go (ℕ_discrete r m) (children_bit table p m r (omega arith))
  where
    below : ℕ
    below = children_below table p m

    here : (b : Bool) → bit below m ≡ 0 → bit (pick b (with_of below m) below) m ≡ pick b 1 0
    here true z = with_same below m (omega arith)
    here false z = z

    other : (b : Bool) → r ≢ m → bit (pick b (with_of below m) below) r ≡ bit below r
    other true ne = with_other below m r ne
    other false ne = refl

    go : Dec (r ≡ m) → bit below r ≡ pick (ltb r m && is_child table p r) 1 0
        → bit (pick (is_child table p m) (with_of below m) below) r ≡ pick (ltb r (suc m) && is_child table p r) 1 0
    go (yes e) ih =
        rw (e, lt-ltb m (suc m) (omega arith))
        (here (is_child table p m) (rw (e, le-ltb m m (omega arith)) at ih))
    go (no ne) ih = other (is_child table p m) ne ∙ ih ∙ ap (λ (b : Bool). pick (b && is_child table p r) 1 0) (same (dec_lt r m))
      where
        same : Dec (r < m) → ltb r m ≡ ltb r (suc m)
        same (yes l) = lt-ltb r m l ∙ sym (lt-ltb r (suc m) (omega arith))
        same (no l) = le-ltb r m (omega arith) ∙ sym (le-ltb r (suc m) (omega arith))

pub children_exactly : (table : List ℕ) (p r : ℕ) → length table ≤ 64
    → (bit (children_of table p) r ≡ 1) ↔ ((r ≢ 0) × (r < length table) × (parent_of table r ≡ p))
children_exactly table p r h = (from, to)
  where
    law : bit (children_of table p) r ≡ pick (ltb r (length table) && is_child table p r) 1 0
    law = children_bit table p (length table) r h

    from : bit (children_of table p) r ≡ 1 → (r ≢ 0) × (r < length table) × (parent_of table r ≡ p)
    from e = go (ltb r (length table)) (eqb r 0) (eqb (parent_of table r) p) refl refl refl (sym law ∙ e)
      where
        go : (a b c : Bool) → ltb r (length table) ≡ a → eqb r 0 ≡ b → eqb (parent_of table r) p ≡ c
            → ◌≡◌ {A = ℕ} (pick (a && (not b && c)) 1 0) 1 → (r ≢ 0) × (r < length table) × (parent_of table r ≡ p)
        go true false true ea eb ec e = (eqb-false r 0 eb, ltb-true r (length table) ea, eqb-true (parent_of table r) p ec)
        go true false false ea eb ec e = absurd (omega arith)
        go true true c ea eb ec e = absurd (omega arith)
        go false b c ea eb ec e = absurd (omega arith)

    to : (r ≢ 0) × (r < length table) × (parent_of table r ≡ p) → bit (children_of table p) r ≡ 1
    to k = law ∙ rw (lt-ltb r (length table) k.1, ne_eqb r 0 k.0, eq-eqb (parent_of table r) p k.2)

-- no task is below 0 and only the root below 1, and one task more adds itself if it is a child
pub children_none : (table : List ℕ) (p n : ℕ) → n ≤ 1 → children_below table p n ≡ 0
unfolding children_below
children_none table p zero h = refl
children_none table p (suc zero) h = refl
children_none table p (suc (suc n)) h = absurd (omega arith)

pub children_more : (table : List ℕ) (p r : ℕ) → 0 < r → parent_of table r ≡ p
    → with_of (children_below table p r) r ≡ children_below table p (r + 1)
unfolding children_below
children_more table p r pos e = rw (add-one r, ne_eqb r 0 (omega arith), eq-eqb (parent_of table r) p e)

pub children_same : (table : List ℕ) (p r : ℕ) → 0 < r → parent_of table r ≢ p
    → children_below table p r ≡ children_below table p (r + 1)
unfolding children_below
children_same table p r pos ne = rw (add-one r, ne_eqb r 0 (omega arith), ne_eqb (parent_of table r) p ne)

-- it is a set of tasks 0 to 63
pub children_lt : (table : List ℕ) (p n : ℕ) → children_below table p n < 2 ^ 64
unfolding children_below
children_lt table p zero = omega arith
children_lt table p (suc r) = go (is_child table p r) (children_lt table p r)
  where
    go : (b : Bool) → children_below table p r < 2 ^ 64 → pick b (with_of (children_below table p r) r) (children_below table p r) < 2 ^ 64
    go true h = with_lt (children_below table p r) r h
    go false h = h

-- the entries of an accepted table are tasks
pub entries_below : (table : List ℕ) (n q : ℕ) → check_of table n ≡ 0 → q < length table → parent_of table q < n
entries_below table n zero e l = let t = accepted table n e in omega (arith, t.root, t.long)
entries_below table n (suc q) e l = let t = accepted table n e in omega (arith, t.lower (suc q) (omega arith) (omega (arith, t.long)), t.long)

-- a table whose entries compare with 0 and with the tasks as another's do is checked alike
module _ (f : ℕ → ℕ) (n : ℕ) (zeros : (x : ℕ) → eqb (f x) 0 ≡ eqb x 0) (lower : (x q : ℕ) → q < n → ltb (f x) q ≡ ltb x q) (table : List ℕ) where
  entries_alike : f 0 ≡ 0 → (m : ℕ) → m ≤ n → entries_ok (map f table) m ≡ entries_ok table m
  unfolding entries_ok
  entries_alike z zero h = refl
  entries_alike z (suc q) h =
      let mapped : parent_of (map f table) q ≡ f (parent_of table q) = ap (get_or (map f table) q) (sym z) ∙ get_or-map f table q 0 in
      rw (entries_alike z q (omega arith), mapped, zeros (parent_of table q), lower (parent_of table q) q (omega arith))

  pub check_alike : f 0 ≡ 0 → check_of (map f table) n ≡ check_of table n
  unfolding check_of
  check_alike z = rw (length-map table f, entries_alike z n (omega arith))
