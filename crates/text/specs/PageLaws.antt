-- Laws of printing: one thing after another, where there is room and where there is none, and on a blank page.
use Rattle.std.specs.Prelude.{◌≡◌, refl, List, [], ◌∷◌, ◌++◌, ℕ, zero, suc, ◌+◌, ◌-◌, ◌≤◌, ◌<◌, length, take, set, replicate}
use Rattle.std.proofs.Common.{sym, ap, ◌∙◌, zero-add, add-zero, arith, length-append, take_all}
use Rattle.std.proofs.lemmas.List.{length-replicate, drop-replicate}
use Rattle.std.proofs.lemmas.List.Edits.{sets, sets-eq}
use Rattle.std.proofs.Math.Seq.{length-sets, take-nil}
use Rattle.text.specs.declared.print.Page.{Page}
use Rattle.text.specs.Page.{fitting, Prints, Puts}

-- ---- one thing after another

sets_append : (l : List ℕ) (i : ℕ) (us vs : List ℕ) → sets l i (us ++ vs) ≡ sets (sets l i us) (i + length us) vs
sets_append l i [] vs = rw add-zero
sets_append l i (u ∷ us) vs =
    let e : suc i + length us ≡ i + suc (length us) = omega arith in
    rw (← e) (sets_append (set l i u) (suc i) us vs)

-- a page keeps its length
pub prints_length : {at to : ℕ} {ws p q : List ℕ} → Prints at ws p to q → length q ≡ length p
prints_length {at} {to} {ws} {p} {q} a = ap length a.page ∙ length-sets p at (fitting p at ws)

-- of k places vs gets those that us leaves
take_both : (k : ℕ) (us vs : List ℕ) → take k (us ++ vs) ≡ take k us ++ take (k - length (take k us)) vs
take_both zero us vs = refl
take_both (suc k) [] vs = let e : suc k - 0 ≡ suc k = omega arith in rw e
take_both (suc k) (u ∷ us) vs =
    let e : suc k - suc (length (take k us)) ≡ k - length (take k us) = omega arith in
    rw e (ap (λ (ws : List ℕ). u ∷ ws) (take_both k us vs))

pub prints_then : {at m to : ℕ} {us vs p q r : List ℕ} → Prints at us p m q → Prints m vs q to r → Prints at (us ++ vs) p to r
prints_then {at} {m} {to} {us} {vs} {p} {q} {r} a b =
    record {
      next = rw both (omega (arith, a.next, rw left at b.next, length-append (fitting p at us) rest));
      page = b.page ∙ rw (left, both, a.page, a.next) (sym (sets_append p at (fitting p at us) rest));
    }
  where
    rest : List ℕ
    rest = take (length p - at - length (fitting p at us)) vs

    both : fitting p at (us ++ vs) ≡ fitting p at us ++ rest
    both = take_both (length p - at) us vs

    -- the places left
    left : length q - m ≡ length p - at - length (fitting p at us)
    left = omega (arith, a.next, prints_length a)

-- ---- where there is room, and where there is none

pub prints_whole : {at to : ℕ} {ws p q : List ℕ} → Prints at ws p to q → at + length ws ≤ length p → (to ≡ at + length ws) × (q ≡ sets p at ws)
prints_whole {at} {to} {ws} {p} {q} a h =
    let e : take (length p - at) ws ≡ ws = take_all (length p - at) ws (omega arith) in
    (rw e at a.next, rw e at a.page)

pub prints_byte : (at b : ℕ) (p : List ℕ) → at < length p → Prints at (b ∷ []) p (at + 1) (set p at b)
prints_byte at b p h =
    let e : take (length p - at) (b ∷ []) ≡ b ∷ [] = take_all (length p - at) (b ∷ []) (omega arith) in
    record { next = rw e; page = rw e }

pub prints_full : (at : ℕ) (ws p : List ℕ) → length p ≤ at → Prints at ws p at p
prints_full at ws p h =
    let e : length p - at ≡ 0 = omega arith in
    record { next = rw e (omega arith); page = rw e }

pub prints_none : (at : ℕ) (p : List ℕ) → Prints at [] p at p
prints_none at p = record { next = rw take-nil (omega arith); page = rw take-nil }

-- ---- on a blank page

-- what a page of n bytes holds and how much, where there was room
pub blank : (n : ℕ) {ws q : List ℕ} {to : ℕ} → Prints 0 ws (replicate n 0) to q → length ws ≤ n → (to ≡ length ws) × (q ≡ ws ++ replicate (n - length ws) 0)
blank n {ws} {q} {to} a h =
    let w = prints_whole a (rw length-replicate (omega arith)) in
    (omega arith, w.1 ∙ sets-eq ws (replicate n 0) 0 (rw length-replicate (omega arith)) ∙ rw zero-add (ap (λ (zs : List ℕ). ws ++ zs) (drop-replicate (length ws) n 0)))

-- ---- on a page

pub puts_none : (p : Page) → Puts [] p p
puts_none p = record { prints = prints_none p.at p.bytes.now; same = refl }

pub puts_then : {us vs : List ℕ} {p q r : Page} → Puts us p q → Puts vs q r → Puts (us ++ vs) p r
puts_then a b = record { prints = prints_then a.prints b.prints; same = b.same ∙ a.same }

-- the bytes of a page on which nothing was printed before and all were zeros, where there was room
pub puts_blank : (n : ℕ) {ws x : List ℕ} {p q : Page} → p.at ≡ 0 → p.bytes.now ≡ replicate n 0 → Puts ws p q → length ws ≤ n → x ≡ q.bytes.now → (q.at ≡ length ws) × (x ≡ ws ++ replicate (n - length ws) 0)
puts_blank n z e a h g = let w = blank n (rw (z, e) at a.prints) h in (w.0, g ∙ w.1)
