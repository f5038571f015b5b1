-- Laws of reading from the front: what was had, and what it was had from.
use Prim.Native.Nat.{ℕ}
use mathlib.Core.Path.{◌≡◌, refl, ap}
use mathlib.Core.List.{List}
use mathlib.Core.Bool.{Bool, true, false, cond, false≢true}
use lib.Dec.{eqb}
use borrow.Author.Tests.{eqb-true}
use Rattle.words.specs.Codes.{Check, first_of}
use Rattle.wire.specs.declared.judging.Told.{Told}
use Rattle.wire.specs.Judge.{plain}
use Rattle.card.specs.Reading.{Got, got, refused, and_then, passing}

abbrev is_got : {A : Type 0} → Got A → Bool
is_got (got a end) = true
is_got (refused told) = false

-- What is refused is not had.
pub not_refused : {A : Type 0} (told : Told) (a : A) (end : ℕ) → refused told ≡ got a end → ⊥
not_refused told a end e = false≢true (ap is_got e)

-- One thing, with one end.
pub got_same : {A : Type 0} {a b : A} {m n : ℕ} → got a m ≡ got b n → (a ≡ b) × (m ≡ n)
got_same e = ((cc), (cc))

-- Where the next thing was had, so was what it was had from.
pub record Had {A B : Type 0} (x : Got A) (next : A → ℕ → Got B) (b : B) (end : ℕ) : Type 0 where
  pub value : A
  pub place : ℕ
  pub is : x ≡ got value place
  pub led : next value place ≡ got b end

pub had : {A B : Type 0} (x : Got A) (next : A → ℕ → Got B) (b : B) (end : ℕ) → and_then x next ≡ got b end → Had x next b end
had (got a place) next b end e = record { value = a; place = place; is = refl; led = e }
had (refused told) next b end e = absurd (not_refused told b end e)

-- What passed checks: no code was due.
pub passed : {A : Type 0} (checks : List Check) (x : Got A) (a : A) (end : ℕ) → passing checks x ≡ got a end → (first_of checks ≡ 0) × (x ≡ got a end)
passed checks x a end e = go (eqb (first_of checks) 0) refl e
  where
    go : (b : Bool) → eqb (first_of checks) 0 ≡ b → cond b x (refused (plain (first_of checks))) ≡ got a end → (first_of checks ≡ 0) × (x ≡ got a end)
    go true is e = (eqb-true (first_of checks) 0 is, e)
    go false is e = absurd (not_refused (plain (first_of checks)) a end e)
