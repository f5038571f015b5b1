-- From the rows to the outcome of the whole: each part that passes leaves the rows behind it, and a bench that is not sound stays.
use Prim.Native.Nat.{ℕ}
use mathlib.Core.Path.{◌≡◌, refl, sym, ap, ◌∙◌}
use mathlib.Core.Logic.{◌⊎◌, inl, inr}
use mathlib.Core.List.{List, [], ◌∷◌}
use mathlib.Core.Bool.{Bool, true, false, cond, ◌&&◌, ◌||◌}
use native.Mathlib.Omega.{arith}
use lib.Dec.{eqb, leb}
use Rattle.words.specs.Codes.{Check, first_of}
use Rattle.words.specs.BigEndian.{word_at}
use Rattle.words.proofs.Tests.{both}
use Rattle.words.proofs.FirstOf.{Coded, first_append}
use Rattle.wire.specs.declared.kinds.Command.{Command}
use Rattle.wire.specs.declared.table.Form.{Form}
use Rattle.std.specs.Prelude.{Option, Some, None}
use Rattle.wire.specs.declared.judging.Told.{Told}
use Rattle.wire.specs.Table.{rule_of}
use Rattle.wire.specs.Kind.{parts_of}
use Rattle.wire.specs.Judge.{no_stray, plain, told_for, arg_checks, judge_code}
use Rattle.wire.specs.Read.{read_code, read_checks, decode_checks, opcode_of, flag_of, length_of, third_word, said_parts, said}
use Rattle.wire.specs.declared.kinds.Parts.{Parts}
use Rattle.wire.proofs.Parameters.{other_told}
use Rattle.store.specs.Checks.{permit_code}
use Rattle.bench.specs.declared.Bench.{Bench}
use Rattle.bench.specs.Status.{bench_sound}
use Rattle.bench.specs.Carry.{Outcome, row26, state_checks, outcome_for, command_checks, carry_code, carry_out}
use Rattle.bench.specs.Carry.{bytes_checks, taken, carry_bytes_code, carry_out_bytes}

-- What a refusal leaves: what it tells, and the bench as it was.
abbrev pub left : Told → Bench → Outcome
left told b = record { told = told; bench = b }

-- No row of reading or judging has code 0.
decode_coded : (found : Option (Form × ℕ)) (flag : Bool) (words one two : ℕ) → Coded (decode_checks found flag words one two)
decode_coded None flag words one two = (omega arith, tt)
decode_coded (Some (form, n)) flag words one two =
    (omega arith, (omega arith, (omega arith, (omega arith, (omega arith, (omega arith, tt))))))

pub judge_coded : (c : Command) → Coded (arg_checks c)
judge_coded c = (omega arith, (omega arith, (omega arith, tt)))

pub read_coded : (s : List ℕ) → Coded (read_checks s)
read_coded s =
    (omega arith, (omega arith, (omega arith, (omega arith, decode_coded (rule_of (opcode_of s)) (flag_of s) (length_of s) (word_at s 4) (third_word s (length_of s))))))

-- What the rows behind those, behind 10, say: 26, else what the store's say.
unfoldable pub behind_code : Bench → Command → ℕ
behind_code b c = first_of (state_checks b c)

-- None of them asks for a number.
pub behind_told : (parts : Parts) (b : Bench) (c : Command) → told_for (behind_code b c) parts ≡ plain (behind_code b c)
unfolding behind_code
behind_told parts b c = other_told parts (state_checks b c) refl

-- Each has a code that asks for the state: 11 to 19, 25 or 26.
abbrev pub state_code : ℕ → Bool
state_code n = (leb 11 n && leb n 19) || eqb n 25 || eqb n 26

abbrev pub OfState : ℕ → Type 0
OfState code = (code ≡ 0) ⊎ (state_code code ≡ true)

abbrev within : List Check → Bool
within [] = true
within (c ∷ cs) = state_code c.code && within cs

first_within : (cs : List Check) → within cs ≡ true → OfState (first_of cs)
first_within [] all = inl refl
first_within (c ∷ cs) all =
    let parts = both (state_code c.code) (within cs) all in
    go c.due parts.0 (first_within cs parts.1)
  where
    go : (t : Bool) → state_code c.code ≡ true → OfState (first_of cs) → OfState (cond t c.code (first_of cs))
    go true own rest = inr own
    go false own rest = rest

pub behind_state : (b : Bench) (c : Command) → OfState (behind_code b c)
unfolding behind_code
behind_state b c = first_within (state_checks b c) refl

pub behind_code_lem : (b : Bench) (c : Command) → behind_code b c ≡ cond (row26 b.camera.power c.flag c.kind) 26 (permit_code b.store c)
unfolding behind_code permit_code
behind_code_lem b c = refl

-- So those come first, and the rows that ask for the state where they all passed.
pub judge_then : (b : Bench) (c : Command) → first_of (command_checks b c) ≡ cond (eqb (judge_code c) 0) (behind_code b c) (judge_code c)
unfolding judge_code behind_code
judge_then b c = first_append (arg_checks c) (state_checks b c) (judge_coded c)

pub read_then : (b : Bench) (s : List ℕ) → first_of (bytes_checks b s) ≡ cond (eqb (read_code s) 0) (behind_code b (said s)) (read_code s)
unfolding read_code behind_code
read_then b s = first_append (read_checks s) (state_checks b (said s)) (read_coded s)

-- On a sound bench row 27 does not hold.
pub carry_code_lem : (b : Bench) (c : Command) → bench_sound b ≡ true → carry_code b c ≡ cond (eqb (judge_code c) 0) (behind_code b c) (judge_code c)
unfolding carry_code
carry_code_lem b c sound = rw sound (judge_then b c)

-- A decoded command that passes 8 to 10 gets 0 or a code that asks for the state, and nothing is told of a number.
pub passed_told : (b : Bench) (c : Command) → bench_sound b ≡ true → judge_code c ≡ 0 → OfState (carry_out b c).told.code × ((carry_out b c).told.stray ≡ no_stray)
unfolding carry_out
passed_told b c sound passes =
    let code : carry_code b c ≡ behind_code b c = rw (carry_code_lem b c sound, passes) in (
      rw code (behind_state b c),
      ap (λ n. (told_for n (parts_of c.kind)).stray) code ∙ ap (λ (t : Told). t.stray) (behind_told (parts_of c.kind) b c),
    )

pub carry_bytes_code_lem : (b : Bench) (s : List ℕ) → bench_sound b ≡ true → carry_bytes_code b s ≡ first_of (bytes_checks b s)
unfolding carry_bytes_code
carry_bytes_code_lem b s sound = rw sound

-- A bench that is not sound gets 27 and stays.
pub unsound : (b : Bench) (c : Command) → bench_sound b ≡ false → left (plain 27) b ≡ carry_out b c
unfolding carry_out
unsound b c e = rw e

pub unsound_bytes : (b : Bench) (s : List ℕ) → bench_sound b ≡ false → left (plain 27) b ≡ carry_out_bytes b s
unfolding carry_out_bytes
unsound_bytes b s e = rw e

-- From bytes on a sound bench.
pub sound_bytes : (b : Bench) (s : List ℕ) → bench_sound b ≡ true → taken b s ≡ carry_out_bytes b s
unfolding taken carry_out_bytes
sound_bytes b s sound = ap (λ n. outcome_for n (said_parts s) b (said s)) (sym (carry_bytes_code_lem b s sound))
