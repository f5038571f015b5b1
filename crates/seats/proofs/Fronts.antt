-- What the seat and the bytes alone say, as the code finds it.
use Rattle.std.proofs.Common.{◌≡◌, ℕ, ◌<◌, ◌≤◌, Bool, true, false, cond, eqb, leb, List, [], ◌∷◌, length, sym, refl, ap, ◌∙◌, arith, le-ltb, lt-ltb, eqb-true, le-leb, leb-false}
use Rattle.std.specs.Prelude.{Ok, Err}
use borrow.Author.Tests.{lt-leb}
use Rattle.bench.specs.Exports.{◌when◌, Command, Refusal, told_of, Answer, answer_of, answer_for, said_parts, said, read_checks, read_code, read_of, span_of}
use Rattle.bench.proofs.Exports.{first_append, refusal_code}
use Rattle.bench.proofs.Outcomes.{read_coded}
use Rattle.seats.specs.declared.queueing.Refusal as own
use Rattle.seats.specs.Queueing.{follows, front_code, front_of, front_at}

-- The rows one after another.
front_code_lem : (seat : ℕ) (s : List ℕ) → front_code seat s ≡ cond (leb 4 seat) 51 (cond (eqb (read_code s) 0) (cond (follows s) 53 0) (read_code s))
unfolding front_code read_code
front_code_lem seat s = ap (cond (leb 4 seat) 51) (first_append (read_checks s) (53 when follows s ∷ []) (read_coded s))

pub no_seat : (seat : ℕ) (s : List ℕ) → 4 ≤ seat → front_of (Err own.Refusal.NoSeat) ≡ front_at seat s
no_seat seat s h = rw (front_code_lem seat s, le-leb 4 seat h)

-- What reading answers.
read_taken : (s : List ℕ) (c : Command) → answer_of (Ok c) ≡ read_of s → read_code s ≡ 0
unfolding read_of
read_taken s c e = sym (ap (λ (a : Answer). a.told.code) e)

read_refused : (s : List ℕ) (r : Refusal) → answer_of (Err r) ≡ read_of s → read_code s ≡ (told_of r).code
unfolding read_of
read_refused s r e = sym (ap (λ (a : Answer). a.told.code) e)

module _ (seat : ℕ) (s : List ℕ) (below : seat < 4) where
  as_read : front_code seat s ≡ read_code s → read_of s ≡ front_at seat s
  unfolding read_of
  as_read same = ap (λ n. answer_for n (said_parts s) (said s)) (sym same)

  pub misread : (r : Refusal) → answer_of (Err r) ≡ read_of s → front_of (Err (own.Refusal.Misread r)) ≡ front_at seat s
  misread r e =
      let code : front_code seat s ≡ read_code s = rw (front_code_lem seat s, lt-leb 4 seat below, read_refused s r e, refusal_code r) in
      e ∙ as_read code

  pub more_bytes : (c : Command) (span : ℕ) → answer_of (Ok c) ≡ read_of s → span ≡ span_of s → span < length s
      → front_of (Err own.Refusal.BytesFollow) ≡ front_at seat s
  more_bytes c span e is more =
      rw (front_code_lem seat s, lt-leb 4 seat below, read_taken s c e, lt-ltb (span_of s) (length s) (omega arith))

  pub takes : (c : Command) (span : ℕ) → answer_of (Ok c) ≡ read_of s → span ≡ span_of s → length s ≤ span
      → front_of (Ok c) ≡ front_at seat s
  takes c span e is whole =
      let code : front_code seat s ≡ 0 = rw (front_code_lem seat s, lt-leb 4 seat below, read_taken s c e, le-ltb (span_of s) (length s) (omega arith)) in
      e ∙ as_read (code ∙ sym (read_taken s c e))

-- A front that takes: the code is 0, the seat is one of the four and the command was read.
pub front_zero : (seat : ℕ) (s : List ℕ) → front_code seat s ≡ 0 → (seat < 4) × (read_code s ≡ 0)
front_zero seat s is0 = go (leb 4 seat) (eqb (read_code s) 0) refl refl
  where
    code : (a b : Bool) → leb 4 seat ≡ a → eqb (read_code s) 0 ≡ b → cond a 51 (cond b (cond (follows s) 53 0) (read_code s)) ≡ 0
    code a b is read = sym (front_code_lem seat s ∙ rw (is, read)) ∙ is0

    go : (a b : Bool) → leb 4 seat ≡ a → eqb (read_code s) 0 ≡ b → (seat < 4) × (read_code s ≡ 0)
    go true b is read = absurd (let z : 51 ≡ 0 = code true b is read in omega arith)
    go false true is read = (leb-false 4 seat is, eqb-true (read_code s) 0 read)
    go false false is read = (leb-false 4 seat is, code false false is read)
