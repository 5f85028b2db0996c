-- Fresh states of kinds 1 and 4, "of equal N and work table" (02, P7), are coupled.
use Rattle.std.specs.Prelude.{◌≡◌, refl, List, [], ◌∷◌, ◌≢◌, ℕ, ◌+◌}
use Rattle.std.proofs.Common.{arith, eqb-true}
use Rattle.setup.specs.Tables.{starts_reason}
use Rattle.setup.specs.TablesLaws.{starts_given}
use Rattle.setup.specs.ReasonsLaws.{counting_alike}
use Rattle.machine.specs.Fresh.{Inputs, fresh_arrivals, fresh_reason, fresh_task, fresh_state}
use Rattle.machine.specs.FreshLaws.{reason_parts, accepted_inputs, fresh_at, fresh_valid}
use Rattle.barrier.specs.Moves.{fresh_left}
use Rattle.increment.proofs.Kept.{fresh}
use Rattle.centralized.specs.Coupling.{Matching, Pair}

-- the inputs with another kind
abbrev pub with_kind : Inputs → ℕ → Inputs
with_kind i k = record { kind = k; n = i.n; modulus = i.modulus; parents = i.parents; starts = i.starts; works = i.works }

-- kinds 1 and 4 take the same inputs, and refuse the others for the same reason
pub same_inputs : (i : Inputs) → i.kind ≡ 4 → fresh_reason (with_kind i 1) ≡ fresh_reason i
same_inputs i k = rw (reason_parts (with_kind i 1), reason_parts i, k, counting_alike i.n i.modulus i.parents)

-- only kind 0 takes starts
no_starts : (kind n : ℕ) (starts : List ℕ) → kind ≢ 0 → starts_reason kind n starts ≡ 0 → starts ≡ []
no_starts kind n [] other e = refl
no_starts kind n (x ∷ xs) other e = absurd (other (eqb-true kind 0 (starts_given kind n x xs e).0))

module _ (i₁ i₄ : Inputs) (e₁ : fresh_reason i₁ ≡ 0) (e₄ : fresh_reason i₄ ≡ 0) (k₁ : i₁.kind ≡ 1) (k₄ : i₄.kind ≡ 4)
    (n : i₁.n ≡ i₄.n) (works : i₁.works ≡ i₄.works) where
  none₁ : i₁.starts ≡ []
  none₁ = no_starts i₁.kind i₁.n i₁.starts (omega arith) (accepted_inputs i₁ e₁).starts

  none₄ : i₄.starts ≡ []
  none₄ = no_starts i₄.kind i₄.n i₄.starts (omega arith) (accepted_inputs i₄ e₄).starts

  fresh_match : (q : ℕ) → Matching (fresh_task i₁ q) (fresh_task i₄ q)
  fresh_match q = record { same = rw (none₁, none₄, works); aim = λ h. absurd (omega arith) }

  pub fresh_pair : Pair (fresh_state i₁) (fresh_state i₄)
  fresh_pair =
      record {
        first = record { valid = fresh_valid i₁ e₁; kind = k₁; inv = fresh i₁ e₁ k₁; left = fresh_left i₁ };
        valid = fresh_valid i₄ e₄;
        kind = k₄;
        coupled = record {
          n = n;
          arrivals = counted;
          sense = rw (k₁, k₄);
          moves = refl;
          waits = refl;
          tasks = λ q h. rw (fresh_at i₁.n q (fresh_task i₁) (omega arith), fresh_at i₄.n q (fresh_task i₄) h) (fresh_match q);
          outside = λ q h _. rw (fresh_at i₄.n q (fresh_task i₄) h, k₄);
        };
      }
    where
      counted : fresh_arrivals i₁.kind i₁.n + fresh_arrivals i₄.kind i₄.n ≡ i₄.n
      counted = rw (k₁, k₄) (omega arith)
