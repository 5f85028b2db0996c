-- Laws of the least count: what it is, and what a count that rises by one does to it.
use Rattle.std.specs.Prelude.{◌≡◌, refl, Bool, true, false, ◌&&◌, not, ◌≢◌, ◌⊎◌, List, ℕ, zero, suc, ◌+◌, ◌-◌, min, ◌≤◌, ◌<◌, eqb, ltb, length, get_or, take}
use Rattle.std.proofs.Common.{sym, ap, ◌∙◌, inl, inr, add-one, lt_of_not-le, arith, get_or-take, length-take-le, eq-eqb, ne_eqb, lt-ltb, le-ltb, eqb-true}
use Rattle.std.proofs.Math.Decide.{dec_le, dec_lt, ℕ_discrete}
use Rattle.bitset.specs.Choice.{pick}
use Rattle.bitset.specs.ChoiceLaws.{by_test}
use Rattle.bitset.specs.Table.{table}
use Rattle.bitset.specs.TableLaws.{table_at}
use Rattle.counts.specs.declared.Least.{Least}
use Rattle.counts.specs.Counts.{lowest, standing, least_among, joined_of, closes_of, risen_of}

-- ---- the lowest count

-- no task has a lower count
pub lowest_le : (f : ℕ → ℕ) (m q : ℕ) → q ≤ m → lowest f m ≤ f q
unfolding lowest
lowest_le f zero zero h = omega arith
lowest_le f zero (suc q) h = absurd (omega arith)
lowest_le f (suc m) q h = go (dec_le q m) (lowest_le f m q)
  where
    go : Dec (q ≤ m) → (q ≤ m → lowest f m ≤ f q) → min (lowest f m) (f (suc m)) ≤ f q
    go (yes l) ih = omega (arith, ih l)
    go (no l) ih = let e : q ≡ suc m = omega arith in rw e (omega arith)

-- some task has it
pub lowest_attained : (f : ℕ → ℕ) (m : ℕ) → (q : ℕ) × (q ≤ m) × (lowest f m ≡ f q)
unfolding lowest
lowest_attained f zero = (zero, omega arith, refl)
lowest_attained f (suc m) = go (dec_le (lowest f m) (f (suc m))) (lowest_attained f m)
  where
    go : Dec (lowest f m ≤ f (suc m)) → (q : ℕ) × (q ≤ m) × (lowest f m ≡ f q)
        → (q : ℕ) × (q ≤ suc m) × (min (lowest f m) (f (suc m)) ≡ f q)
    go (yes l) ih = (ih.0, omega (arith, ih.1), omega (arith, ih.2))
    go (no l) ih = (suc m, omega arith, omega arith)

-- it is found task by task
pub lowest_first : (f : ℕ → ℕ) → lowest f 0 ≡ f 0
unfolding lowest
lowest_first f = refl

pub lowest_next : (f : ℕ → ℕ) (m : ℕ) → lowest f (suc m) ≡ min (lowest f m) (f (suc m))
unfolding lowest
lowest_next f m = refl

-- a number that no count is below and that some task has
pub lowest_is : (f : ℕ → ℕ) (m c q : ℕ) → ((r : ℕ) → r ≤ m → c ≤ f r) → q ≤ m → f q ≡ c → lowest f m ≡ c
lowest_is f m c q low h e = let a = lowest_attained f m in omega (arith, lowest_le f m q h, a.2, low a.0 a.1)

-- ---- how many stand at a count

pub standing_none : (f : ℕ → ℕ) (c : ℕ) → standing f 0 c ≡ 0
unfolding standing
standing_none f c = refl

pub standing_more : (f : ℕ → ℕ) (n c : ℕ) → standing f (n + 1) c ≡ standing f n c + pick (eqb (f n) c) 1 0
unfolding standing
standing_more f n c = rw (add-one n)

-- no more than there are
pub standing_few : (f : ℕ → ℕ) (n c : ℕ) → standing f n c ≤ n
unfolding standing
standing_few f zero c = omega arith
standing_few f (suc n) c = by_test (λ x. standing f n c + x ≤ suc n) (eqb (f n) c) (λ _. omega (arith, standing_few f n c)) (λ _. omega (arith, standing_few f n c))

-- one of them, where there is one
pub standing_some : (f : ℕ → ℕ) (n c : ℕ) → 0 < standing f n c → (q : ℕ) × (q < n) × (f q ≡ c)
unfolding standing
standing_some f zero c h = absurd (omega arith)
standing_some f (suc n) c h = go (eqb (f n) c) refl h (standing_some f n c)
  where
    go : (b : Bool) → eqb (f n) c ≡ b → 0 < standing f n c + pick b 1 0 → (0 < standing f n c → (q : ℕ) × (q < n) × (f q ≡ c)) → (q : ℕ) × (q < suc n) × (f q ≡ c)
    go true e k ih = (n, omega arith, eqb-true (f n) c e)
    go false e k ih = let a = ih (omega arith) in (a.0, omega (arith, a.1), a.2)

-- a task that stands there is counted
pub standing_at : (f : ℕ → ℕ) (n c q : ℕ) → q < n → f q ≡ c → 0 < standing f n c
unfolding standing
standing_at f zero c q h e = absurd (omega arith)
standing_at f (suc n) c q h e = go (ℕ_discrete q n) (standing_at f n c q)
  where
    go : Dec (q ≡ n) → (q < n → f q ≡ c → 0 < standing f n c) → 0 < standing f n c + pick (eqb (f n) c) 1 0
    go (yes s) ih = rw (eq-eqb (f n) c (rw s at e)) (omega arith)
    go (no ne) ih = omega (arith, ih (omega arith) e)

-- two that agree below n
pub standing_same : (f g : ℕ → ℕ) (n c : ℕ) → ((q : ℕ) → q < n → g q ≡ f q) → standing g n c ≡ standing f n c
unfolding standing
standing_same f g zero c h = refl
standing_same f g (suc n) c h = rw (standing_same f g n c (λ q l. h q (omega arith)), h n (omega arith))

-- nobody, where every count is another
standing_zero : (f : ℕ → ℕ) (n c : ℕ) → ((q : ℕ) → q < n → f q ≢ c) → standing f n c ≡ 0
standing_zero f n c apart = go (dec_lt 0 (standing f n c))
  where
    go : Dec (0 < standing f n c) → standing f n c ≡ 0
    go (yes h) = let a = standing_some f n c h in absurd (apart a.0 a.1 a.2)
    go (no h) = omega arith

-- one count changed
standing_put : (f g : ℕ → ℕ) (n p c : ℕ) → p < n → ((q : ℕ) → q ≢ p → g q ≡ f q)
    → standing g n c + pick (eqb (f p) c) 1 0 ≡ standing f n c + pick (eqb (g p) c) 1 0
unfolding standing
standing_put f g zero p c h o = absurd (omega arith)
standing_put f g (suc n) p c h o = go (ℕ_discrete p n) (λ l. standing_put f g n p c l o)
  where
    go : Dec (p ≡ n) → (p < n → standing g n c + pick (eqb (f p) c) 1 0 ≡ standing f n c + pick (eqb (g p) c) 1 0)
        → standing g n c + pick (eqb (g n) c) 1 0 + pick (eqb (f p) c) 1 0 ≡ standing f n c + pick (eqb (f n) c) 1 0 + pick (eqb (g p) c) 1 0
    go (yes e) ih = rw (e, standing_same f g n c (λ q l. o q (omega arith))) (omega arith)
    go (no ne) ih = rw (o n (λ e. ne (sym e))) (omega (arith, ih (omega arith)))

-- two that agree below n have the same least count
pub least_same : (f g : ℕ → ℕ) (n : ℕ) → 0 < n → ((q : ℕ) → q < n → g q ≡ f q) → least_among g n ≡ least_among f n
least_same f g n some h =
    let a = lowest_attained f (n - 1) in
    let e : lowest g (n - 1) ≡ lowest f (n - 1)
    = lowest_is g (n - 1) (lowest f (n - 1)) a.0 (λ r l. omega (arith, h r (omega arith), lowest_le f (n - 1) r l)) a.1 (h a.0 (omega (arith, a.1)) ∙ sym a.2) in
    rw (e, standing_same f g n (lowest f (n - 1)) h)

-- the least of the first n of some counts, as they are lent
pub least_lent : (l : List ℕ) (n : ℕ) → 0 < n → n ≤ length l → least_among (λ q. get_or (take n l) q 0) (length (take n l)) ≡ least_among (λ q. get_or l q 0) n
least_lent l n some room =
    rw (length-take-le n l room) (least_same (λ q. get_or l q 0) (λ q. get_or (take n l) q 0) n some (λ q h. get_or-take n l q 0 h))

-- of the counts in a table
pub least_table : (f : ℕ → ℕ) (n m : ℕ) → 0 < n → n ≤ m → least_among (λ q. get_or (table m f) q 0) n ≡ least_among f n
least_table f n m some room = least_same f (λ q. get_or (table m f) q 0) n some (λ q h. table_at m f q 0 (omega arith))

-- it is found task by task
pub least_more : (f : ℕ → ℕ) (q : ℕ) → least_among f (q + 1) ≡ joined_of (least_among f q) (f q)
least_more f zero =
    rw (standing_more f 0 (lowest f 0), standing_none f (lowest f 0), lowest_first f, le-ltb (f 0) (f 0) (omega arith), eq-eqb (f 0) (f 0) refl)
least_more f (suc m) =
    let e : suc m + 1 - 1 ≡ suc m = omega arith in
    let d : suc m - 1 ≡ m = omega arith in
    rw (e, d, lowest_next f m, standing_more f (suc m) (min (lowest f m) (f (suc m)))) (go (dec_lt (f (suc m)) low) (ℕ_discrete (f (suc m)) low))
  where
    -- the lowest of the tasks before
    low : ℕ
    low = lowest f m

    go : Dec (f (suc m) < low) → Dec (f (suc m) ≡ low)
        → record {
          count = min low (f (suc m));
          tasks = standing f (suc m) (min low (f (suc m))) + pick (eqb (f (suc m)) (min low (f (suc m)))) 1 0;
        }
        ≡ joined_of (record { count = low; tasks = standing f (suc m) low }) (f (suc m))
    go (yes l) e =
        let new : min low (f (suc m)) ≡ f (suc m) = omega arith in
        rw (new, lt-ltb (f (suc m)) low l, standing_zero f (suc m) (f (suc m)) (λ q h. omega (arith, lowest_le f m q (omega arith))), eq-eqb (f (suc m)) (f (suc m)) refl)
    go (no l) (yes e) =
        let new : min low (f (suc m)) ≡ low = omega arith in
        rw (new, le-ltb (f (suc m)) low (omega arith), eq-eqb (f (suc m)) low e, e)
    go (no l) (no ne) =
        let new : min low (f (suc m)) ≡ low = omega arith in
        let none : standing f (suc m) low + 0 ≡ standing f (suc m) low = omega arith in
        rw (new, le-ltb (f (suc m)) low (omega arith), ne_eqb (f (suc m)) low ne, none)

-- ---- one count rises by one

-- a count before and after a turn: the same, or one more
abbrev pub KeptOrRaised : ℕ → ℕ → Type 0
KeptOrRaised c d = (d ≡ c) ⊎ (d ≡ c + 1)

module _ (f g : ℕ → ℕ) (n p : ℕ) (here : p < n) (other : (q : ℕ) → q ≢ p → g q ≡ f q) where
  -- the lowest count before
  abbrev low : ℕ
  low = lowest f (n - 1)

  below : (q : ℕ) → q < n → low ≤ f q
  below q l = lowest_le f (n - 1) q (omega arith)

  -- a task that is not p has the count that it had
  kept : f p ≡ g p → (q : ℕ) → g q ≡ f q
  kept e q = go (ℕ_discrete q p)
    where
      go : Dec (q ≡ p) → g q ≡ f q
      go (yes s) = rw s (sym e)
      go (no ne) = other q ne

  -- where the count stays, so does the least count
  rise_none : g p ≡ f p → least_among g n ≡ least_among f n
  rise_none e = least_same f g n (omega arith) (λ q l. kept (sym e) q)

  module _ (up : g p ≡ f p + 1) where
    above : (q : ℕ) → q < n → low ≤ g q
    above q l = go (ℕ_discrete q p)
      where
        go : Dec (q ≡ p) → low ≤ g q
        go (yes s) = rw s (omega (arith, up, below p here))
        go (no ne) = rw (other q ne) (below q l)

    -- the least count is where it was if somebody stands there still
    stays : 0 < standing g n low → lowest g (n - 1) ≡ low
    stays some = let a = standing_some g n low some in lowest_is g (n - 1) low a.0 (λ r l. above r (omega arith)) (omega (arith, a.1)) a.2

    -- a count above the least
    rise_other : f p ≢ low → least_among g n ≡ least_among f n
    rise_other ne = rw (stays (rw same (standing_at f n low a.0 (omega (arith, a.1)) (sym a.2))), same)
      where
        a : (q : ℕ) × (q ≤ n - 1) × (lowest f (n - 1) ≡ f q)
        a = lowest_attained f (n - 1)

        same : standing g n low ≡ standing f n low
        same =
            let put = standing_put f g n p low here other in
            let no : eqb (g p) low ≡ false = ne_eqb (g p) low (omega (arith, up, below p here)) in
            omega (arith, rw (ne_eqb (f p) low ne, no) at put)

    -- one fewer at the least count
    fewer : f p ≡ low → standing g n low + 1 ≡ standing f n low
    fewer e =
        let put = standing_put f g n p low here other in
        omega (arith, rw (eq-eqb (f p) low e, ne_eqb (g p) low (omega (arith, up))) at put)

    -- where others stand there too it is the same, with one task fewer
    rise_fewer : f p ≡ low → 1 < standing f n low → least_among g n ≡ record { count = low; tasks = standing f n low - 1 }
    rise_fewer e many =
        let some : standing g n low ≡ standing f n low - 1 = omega (arith, fewer e) in
        rw (stays (rw some (omega arith)), some)

    -- where nobody else stands there it rises
    rise_last : f p ≡ low → standing f n low ≡ 1 → low < lowest g (n - 1)
    rise_last e one =
        let a = lowest_attained g (n - 1) in
        let h : a.0 < n = omega (arith, a.1) in
        lt_of_not-le (λ l. omega (arith, fewer e, standing_at g n low a.0 h (omega (arith, a.2, above a.0 h))))

  -- the three together: what a count that is kept or raised makes of the least count
  module _ (c : KeptOrRaised (f p) (g p)) where
    pub rise_closes : pick (ltb low (lowest g (n - 1))) 1 0 ≡ closes_of (least_among f n) (f p) (g p)
    rise_closes = go c (ℕ_discrete (f p) low) (ℕ_discrete (standing f n low) 1)
      where
        same : {x : Least} → least_among g n ≡ x → x.count ≡ low → ◌≡◌ {A = ℕ} (pick (ltb low (lowest g (n - 1))) 1 0) 0
        same e k = rw (ap (λ (l : Least). l.count) e ∙ k, le-ltb low low (omega arith))

        go : KeptOrRaised (f p) (g p) → Dec (f p ≡ low) → Dec (standing f n low ≡ 1) → pick (ltb low (lowest g (n - 1))) 1 0 ≡ closes_of (least_among f n) (f p) (g p)
        go (inl e) at one = same (rise_none e) refl ∙ rw (eq-eqb (g p) (f p) e)
        go (inr up) (no ne) one = same (rise_other up ne) refl ∙ rw (ne_eqb (g p) (f p) (omega arith), ne_eqb (f p) low ne)
        go (inr up) (yes e) (yes one) =
            rw (lt-ltb low (lowest g (n - 1)) (rise_last up e one), ne_eqb (g p) (f p) (omega arith), eq-eqb (f p) low e, eq-eqb (standing f n low) 1 one)
        go (inr up) (yes e) (no many) =
            same (rise_fewer up e (omega (arith, standing_at f n low p here e))) refl
            ∙ rw (ne_eqb (g p) (f p) (omega arith), eq-eqb (f p) low e, ne_eqb (standing f n low) 1 many)

    pub rise_least : least_among g n ≡ pick (not (eqb (g p) (f p)) && eqb (f p) low) (risen_of (least_among f n) g n) (least_among f n)
    rise_least = go c (ℕ_discrete (f p) low) (dec_lt 1 (standing f n low))
      where
        go : KeptOrRaised (f p) (g p) → Dec (f p ≡ low) → Dec (1 < standing f n low)
            → least_among g n ≡ pick (not (eqb (g p) (f p)) && eqb (f p) low) (risen_of (least_among f n) g n) (least_among f n)
        go (inl e) at many = rise_none e ∙ rw (eq-eqb (g p) (f p) e)
        go (inr up) (no ne) many = rise_other up ne ∙ rw (ne_eqb (g p) (f p) (omega arith), ne_eqb (f p) low ne)
        go (inr up) (yes e) (yes many) =
            rise_fewer up e many ∙ rw (ne_eqb (g p) (f p) (omega arith), eq-eqb (f p) low e, lt-ltb 1 (standing f n low) many)
        go (inr up) (yes e) (no few) = rw (ne_eqb (g p) (f p) (omega arith), eq-eqb (f p) low e, le-ltb 1 (standing f n low) (omega arith))
