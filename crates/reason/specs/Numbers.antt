-- The number of each reason, which is what a contract sees of a refusal, and the reason of a number.
use Rattle.std.specs.Prelude.{◌≡◌, ℕ, ◌-◌, [], ◌∷◌, get_or, Bool, true, false}
use Rattle.std.proofs.Common.{refl, ap}
use Rattle.std.proofs.Props.{props}
use Rattle.reason.specs.Named.{is_named}
use Rattle.reason.specs.declared.Reason.{Reason}
use Rattle.reason.specs.declared.Reason.TheVariants.{Text, Kind, Count, Modulus, TableLength, Parent, Range, ScheduleLength, Task, Room, CountLimit, Starts, TallyLimit, TraceLength, Works, Unnamed}

-- the number of each reason
abbrev pub number_of : Reason → ℕ
number_of Text = 1
number_of Kind = 2
number_of Count = 3
number_of Modulus = 4
number_of TableLength = 5
number_of Parent = 6
number_of Range = 7
number_of ScheduleLength = 8
number_of Task = 9
number_of Room = 10
number_of CountLimit = 11
number_of Starts = 12
number_of TallyLimit = 13
number_of TraceLength = 14
number_of Works = 15
number_of (Unnamed other) = other.number

-- the reason of a number: that of 1 to 15 by its name
abbrev pub named_reason : ℕ → Reason
named_reason k = get_or (Text ∷ Kind ∷ Count ∷ Modulus ∷ TableLength ∷ Parent ∷ Range ∷ ScheduleLength ∷ Task ∷ Room ∷ CountLimit ∷ Starts ∷ TallyLimit ∷ TraceLength ∷ Works ∷ []) (k - 1) Works

abbrev pub reason_by : (k : ℕ) (named : Bool) → is_named k ≡ named → Reason
reason_by k true e = named_reason k
reason_by k false e = Unnamed (record { number = k; unnamed = e })

abbrev pub reason_of : ℕ → Reason
reason_of k = reason_by k (is_named k) refl

pub unnamed_back : (k : ℕ) (e : is_named k ≡ false) → reason_of k ≡ Unnamed (record { number = k; unnamed = e })
unnamed_back k e = go (is_named k) refl where
  go : (b : Bool) (p : is_named k ≡ b) → reason_by k b p ≡ Unnamed (record { number = k; unnamed = e })
  go true p = cc
  go false p = let same : IsProp (is_named k ≡ false) = hlevel props in ap (λ (x : is_named k ≡ false). Unnamed (record { number = k; unnamed = x })) (same p e)

pub number_back : (r : Reason) → reason_of (number_of r) ≡ r
number_back Text = refl
number_back Kind = refl
number_back Count = refl
number_back Modulus = refl
number_back TableLength = refl
number_back Parent = refl
number_back Range = refl
number_back ScheduleLength = refl
number_back Task = refl
number_back Room = refl
number_back CountLimit = refl
number_back Starts = refl
number_back TallyLimit = refl
number_back TraceLength = refl
number_back Works = refl
number_back (Unnamed other) = unnamed_back other.number other.unnamed
