-- Demand 2, "the one code that stands first in the order of checks", of any list of checks: a code is given exactly when its row is due and no row
-- before it is; 0 when none is.
use Prim.Native.Nat.{ℕ, zero, suc, ◌<◌}
use mathlib.Core.Path.{◌≡◌, refl, sym, ◌∙◌}
use mathlib.Core.Logic.{◌↔◌, ◌≢◌}
use mathlib.Core.List.{List, [], ◌∷◌}
use mathlib.Core.Bool.{Bool, true, false, cond, not, ◌&&◌, true≢false}
use native.Mathlib.Omega.{arith}
use lib.ListN.{length, get_or, take}
use lib.Dec.{eqb}
use borrow.Author.Tests.{eqb-false, not-true}
use Rattle.words.specs.Codes.{Check, ◌when◌, first_of}
use Rattle.words.proofs.Tests.{both}

-- The row at a place of a list of checks; past the end, one that is never due.
abbrev pub row_at : List Check → ℕ → Check
row_at cs k = get_or cs k (0 when false)

-- No row of the list is due.
abbrev pub NoneDue : List Check → Type 0
NoneDue [] = Unit
NoneDue (c ∷ cs) = (c.due ≡ false) × NoneDue cs

-- The row at place k is due, and none before it.
pub record FirstAt (cs : List Check) (k : ℕ) : Type 0 where
  pub before : NoneDue (take k cs)
  pub due : (row_at cs k).due ≡ true

-- Some row with code n is due, and none before it.
pub record FirstDue (cs : List Check) (n : ℕ) : Type 0 where
  pub place : ℕ
  pub first : FirstAt cs place
  pub code : (row_at cs place).code ≡ n

-- No row of the list has code n.
abbrev pub lacks : ℕ → List Check → Bool
lacks n [] = true
lacks n (c ∷ cs) = not (eqb c.code n) && lacks n cs

-- The codes differ from row to row, and none is 0.
abbrev pub apart : List Check → Bool
apart [] = true
apart (c ∷ cs) = not (eqb c.code 0) && (lacks c.code cs && apart cs)

-- Where the row at a place is the first that is due, the code is that row's.
pub first_at : (cs : List Check) (k : ℕ) → FirstAt cs k → first_of cs ≡ (row_at cs k).code
first_at [] zero h = refl
first_at [] (suc k) h = refl
first_at (c ∷ cs) zero h = rw h.due
first_at (c ∷ cs) (suc k) h = rw h.before.0 (first_at cs k (record { before = h.before.1; due = h.due }))

-- Where no row is due, the code is 0.
pub none_due : (cs : List Check) → NoneDue cs → first_of cs ≡ 0
none_due [] h = refl
none_due (c ∷ cs) h = rw h.0 (none_due cs h.1)

-- A code that is not 0 is that of some row which is the first that is due.
pub due_first : (cs : List Check) (n : ℕ) → (n ≡ 0 → ⊥) → first_of cs ≡ n → FirstDue cs n
due_first [] n h e = absurd (h (sym e))
due_first (c ∷ cs) n h e = go c.due refl e (due_first cs n h)
  where
    go : (b : Bool) → c.due ≡ b → cond b c.code (first_of cs) ≡ n → (first_of cs ≡ n → FirstDue cs n) → FirstDue (c ∷ cs) n
    go true is same more = record { place = zero; first = record { before = tt; due = is }; code = same }
    go false is same more =
        let later : FirstDue cs n = more same in
        record {
          place = suc later.place;
          first = record { before = (is, later.first.before); due = later.first.due };
          code = later.code;
        }

-- A list that lacks a code has no row with it, and does not give it, unless it is 0.
pub lacks_on : (n : ℕ) (c : Check) (cs : List Check) → lacks n (c ∷ cs) ≡ true → (c.code ≢ n) × (lacks n cs ≡ true)
lacks_on n c cs h =
    let parts = both (not (eqb c.code n)) (lacks n cs) h in
    (eqb-false c.code n (not-true (eqb c.code n) parts.0), parts.1)

row_lacked : (n : ℕ) (cs : List Check) (k : ℕ) → lacks n cs ≡ true → k < length cs → (row_at cs k).code ≢ n
row_lacked n [] k h less = absurd (omega arith)
row_lacked n (c ∷ cs) zero h less = (lacks_on n c cs h).0
row_lacked n (c ∷ cs) (suc k) h less = row_lacked n cs k (lacks_on n c cs h).1 (omega arith)

pub code_lacked : (n : ℕ) (cs : List Check) → lacks n cs ≡ true → n ≢ 0 → first_of cs ≢ n
code_lacked n [] h some e = some (sym e)
code_lacked n (c ∷ cs) h some e = go c.due (lacks_on n c cs h).0 (code_lacked n cs (lacks_on n c cs h).1 some) e
  where
    go : (b : Bool) → c.code ≢ n → first_of cs ≢ n → cond b c.code (first_of cs) ≢ n
    go true own rest = own
    go false own rest = rest

-- What a list whose codes differ says of its first row, and of the rest.
record Apart (c : Check) (cs : List Check) : Type 0 where
  some : c.code ≢ 0
  other : lacks c.code cs ≡ true
  rest : apart cs ≡ true

apart_on : (c : Check) (cs : List Check) → apart (c ∷ cs) ≡ true → Apart c cs
apart_on c cs h =
    let parts = both (not (eqb c.code 0)) (lacks c.code cs && apart cs) h in
    let later = both (lacks c.code cs) (apart cs) parts.1 in
    record { some = eqb-false c.code 0 (not-true (eqb c.code 0) parts.0); other = later.0; rest = later.1 }

-- Conversely, in a list whose codes differ: where the code is the one of the row at a place, that row is the first that is due.
pub at_first : (cs : List Check) (k : ℕ) → apart cs ≡ true → k < length cs → first_of cs ≡ (row_at cs k).code → FirstAt cs k
at_first [] k r h e = absurd (omega arith)
at_first (c ∷ cs) zero r h e = go c.due refl e
  where
    go : (b : Bool) → c.due ≡ b → cond b c.code (first_of cs) ≡ c.code → FirstAt (c ∷ cs) zero
    go true is same = record { before = tt; due = is }
    go false is same =
        let on = apart_on c cs r in
        absurd (code_lacked c.code cs on.other on.some same)
at_first (c ∷ cs) (suc k) r h e = go c.due refl e (at_first cs k (apart_on c cs r).rest (omega arith))
  where
    go : (b : Bool) → c.due ≡ b → cond b c.code (first_of cs) ≡ (row_at cs k).code
        → (first_of cs ≡ (row_at cs k).code → FirstAt cs k) → FirstAt (c ∷ cs) (suc k)
    go true is same more = absurd (row_lacked c.code cs k (apart_on c cs r).other (omega arith) (sym same))
    go false is same more = record { before = (is, (more same).before); due = (more same).due }

-- Conversely, in a list whose codes differ: where the code is 0, no row is due.
pub due_none : (cs : List Check) → apart cs ≡ true → first_of cs ≡ 0 → NoneDue cs
due_none [] r e = tt
due_none (c ∷ cs) r e = go c.due refl e (due_none cs (apart_on c cs r).rest)
  where
    go : (b : Bool) → c.due ≡ b → cond b c.code (first_of cs) ≡ 0 → (first_of cs ≡ 0 → NoneDue cs) → NoneDue (c ∷ cs)
    go true is same more = absurd ((apart_on c cs r).some same)
    go false is same more = (is, more same)

-- What a code says: it is n exactly when a row with code n is the first that is due; the one of row k exactly when row k is; 0 exactly when none is.
pub record Order (cs : List Check) (code : ℕ) : Type 0 where
  pub coded : (n : ℕ) → (n ≡ 0 → ⊥) → (code ≡ n) ↔ FirstDue cs n
  pub placed : (k : ℕ) → k < length cs → (code ≡ (row_at cs k).code) ↔ FirstAt cs k
  pub accepted : (code ≡ 0) ↔ NoneDue cs

pub order : (cs : List Check) → apart cs ≡ true → Order cs (first_of cs)
order cs r =
    record {
      coded = λ n h. (due_first cs n h, λ d. first_at cs d.place d.first ∙ d.code);
      placed = λ k h. (at_first cs k r h, first_at cs k);
      accepted = (due_none cs r, none_due cs);
    }

-- Where codes stand more than once, a row is named by its place: the order of a list of checks whose codes are not 0, whatever else they are.
pub record InOrder (cs : List Check) (code : ℕ) : Type 0 where
  pub accepted : (code ≡ 0) ↔ NoneDue cs
  pub placed : (k : ℕ) → FirstAt cs k → code ≡ (row_at cs k).code
  pub due : code ≢ 0 → FirstDue cs code

abbrev pub none_zero : List Check → Bool
none_zero [] = true
none_zero (c ∷ cs) = not (eqb c.code 0) && none_zero cs

none_found : (cs : List Check) → none_zero cs ≡ true → first_of cs ≡ 0 → NoneDue cs
none_found [] codes zero_code = tt
none_found (c ∷ cs) codes zero_code = go c.due (eqb c.code 0) refl refl codes zero_code (none_found cs)
  where
    go : (due is_zero : Bool) → c.due ≡ due → eqb c.code 0 ≡ is_zero → (not is_zero && none_zero cs) ≡ true → cond due c.code (first_of cs) ≡ 0
        → (none_zero cs ≡ true → first_of cs ≡ 0 → NoneDue cs) → (c.due ≡ false) × NoneDue cs
    go true false is code codes zero_code rest = absurd (eqb-false c.code 0 code zero_code)
    go false false is code codes zero_code rest = (is, rest codes zero_code)
    go due true is code codes zero_code rest = absurd (true≢false (sym codes))

pub in_order : (cs : List Check) → none_zero cs ≡ true → InOrder cs (first_of cs)
in_order cs codes =
    record {
      accepted = (none_found cs codes, none_due cs);
      placed = first_at cs;
      due = λ some. due_first cs (first_of cs) some refl;
    }
