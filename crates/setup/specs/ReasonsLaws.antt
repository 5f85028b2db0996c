-- Laws of the reasons: a setup is accepted exactly if none of them applies.
use Rattle.std.specs.Prelude.{◌≡◌, refl, Bool, true, false, List, map, ℕ, ◌≤◌, eqb}
use Rattle.std.proofs.Common.{ap, arith, le-leb, leb-true, eqb-true}
use Rattle.std.proofs.lemmas.Bool.{eqb-false}
use Rattle.bitset.specs.Choice.{pick}
use Rattle.bitset.specs.ChoiceLaws.{by_test}
use Rattle.bitset.specs.Tasks.{is_count}
use Rattle.bitset.specs.TasksLaws.{StandIn}
use Rattle.bitset.specs.SetLaws.{is_count_lem}
use Rattle.setup.specs.Kinds.{last_kind, is_kind, modulus_ok}
use Rattle.setup.specs.Tables.{parents_reason, works_reason}
use Rattle.setup.specs.TablesLaws.{parents_alike}
use Rattle.setup.specs.Reasons.{first_reason, count_reason, modulus_reason, setup_reason, limit_reason}

-- neither of two reasons applies if the first of them doesn't
pub no_reason : (a b : ℕ) → first_reason a b ≡ 0 → (a ≡ 0) × (b ≡ 0)
no_reason a b = by_test (λ x. x ≡ 0 → (a ≡ 0) × (b ≡ 0)) (eqb a 0) (λ e z. (eqb-true a 0 e, z)) (λ e z. absurd (omega (arith, eqb-false a 0 e)))

-- the second of two is asked only where the first doesn't apply
pub first_same : (a b c : ℕ) → (a ≡ 0 → b ≡ c) → first_reason a b ≡ first_reason a c
first_same a b c same = go (eqb a 0) refl
  where
    go : (z : Bool) → eqb a 0 ≡ z → pick z b a ≡ pick z c a
    go true e = same (eqb-true a 0 e)
    go false e = refl

-- ---- the kind and N

pub record Counted (kind n : ℕ) : Type 0 where
  pub known : kind ≤ last_kind
  pub some : 1 ≤ n
  pub few : n ≤ 64

pub accepted_count : (kind n : ℕ) → count_reason kind n ≡ 0 → Counted kind n
accepted_count kind n = go (is_kind kind) (is_count n) refl refl
  where
    go : (a b : Bool) → is_kind kind ≡ a → is_count n ≡ b → ◌≡◌ {A = ℕ} (pick a (pick b 0 3) 2) 0 → Counted kind n
    go true true ea eb e = let c = is_count_lem n eb in record { known = leb-true kind last_kind ea; some = c.0; few = c.1 }
    go true false ea eb e = absurd (omega arith)
    go false b ea eb e = absurd (omega arith)

pub count_accepted : (kind n : ℕ) → Counted kind n → count_reason kind n ≡ 0
count_accepted kind n c = rw (le-leb kind last_kind c.known, le-leb 1 n c.some, le-leb n 64 c.few)

-- ---- a setup without starts and work lengths

pub record AcceptedSetup (kind n r : ℕ) (parents : List ℕ) : Type 0 where
  pub count : Counted kind n
  pub modulus : modulus_ok kind r ≡ true
  pub table : parents_reason kind n parents ≡ 0

pub accepted_setup : (kind n r : ℕ) (parents : List ℕ) → setup_reason kind n r parents ≡ 0 → AcceptedSetup kind n r parents
unfolding setup_reason
accepted_setup kind n r parents e =
    let first = no_reason (count_reason kind n) (first_reason (modulus_reason kind r) (parents_reason kind n parents)) e in
    let rest = no_reason (modulus_reason kind r) (parents_reason kind n parents) first.1 in
    record { count = accepted_count kind n first.0; modulus = taken (modulus_ok kind r) refl rest.0; table = rest.1 }
  where
    taken : (b : Bool) → modulus_ok kind r ≡ b → ◌≡◌ {A = ℕ} (pick b 0 4) 0 → modulus_ok kind r ≡ true
    taken true ok e = ok
    taken false ok e = absurd (omega arith)

pub setup_accepted : (kind n r : ℕ) (parents : List ℕ) → AcceptedSetup kind n r parents → setup_reason kind n r parents ≡ 0
unfolding setup_reason
setup_accepted kind n r parents a = rw (count_accepted kind n a.count, a.modulus) a.table

-- a table is looked at only where N is 1 to 64, and numbers in place of its entries are refused alike
pub setup_alike : (f : ℕ → ℕ) → StandIn f → (kind n r : ℕ) (parents : List ℕ) → setup_reason kind n r (map f parents) ≡ setup_reason kind n r parents
unfolding setup_reason
setup_alike f alike kind n r parents =
    first_same (count_reason kind n) (first_reason (modulus_reason kind r) (parents_reason kind n (map f parents))) (first_reason (modulus_reason kind r) (parents_reason kind n parents))
    (λ none. ap (first_reason (modulus_reason kind r)) (parents_alike f alike kind n (accepted_count kind n none).few parents))

-- kinds 1 and 4 are set up alike
pub counting_alike : (n r : ℕ) (parents : List ℕ) → setup_reason 1 n r parents ≡ setup_reason 4 n r parents
unfolding setup_reason
counting_alike n r parents = refl

-- ---- a kind, N and work lengths

pub accepted_limit : (kind n : ℕ) (works : List ℕ) → limit_reason kind n works ≡ 0 → Counted kind n × (works_reason n works ≡ 0)
unfolding limit_reason
accepted_limit kind n works e = let both = no_reason (count_reason kind n) (works_reason n works) e in (accepted_count kind n both.0, both.1)

pub limit_accepted : (kind n : ℕ) (works : List ℕ) → Counted kind n → works_reason n works ≡ 0 → limit_reason kind n works ≡ 0
unfolding limit_reason
limit_accepted kind n works c e = rw (count_accepted kind n c) e
