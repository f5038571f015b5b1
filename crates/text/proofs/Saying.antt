-- Which commands the text can say; and that it can say every command that a line says.
use Prim.Native.Nat.{ℕ, ◌≤◌, ◌<◌, ◌^◌}
use mathlib.Core.Path.{◌≡◌, refl, sym, ap, subst, ◌∙◌}
use mathlib.Core.Logic.{◌⊎◌, inl, inr}
use mathlib.Core.List.{List, [], ◌∷◌, ◌++◌}
use mathlib.Core.Bool.{Bool, true, false, cond, true≢false}
use native.Mathlib.Omega.{arith}
use lib.Dec.{eqb}
use lib.Ieee.{binary32, of_bits}
use lib.Ieee.Exact.{HasValue}
use borrow.Author.Tests.{eqb-true}
use Rattle.wire.specs.declared.table.Form.{Form}
use Rattle.wire.specs.declared.table.Layout.{Layout}
use Rattle.wire.specs.declared.kinds.Command.{Command}
use Rattle.wire.specs.declared.kinds.Parts.{Parts}
use Rattle.wire.specs.Table.{row_of}
use Rattle.wire.specs.Kind.{parts_with, parts_of, kind_of}
use Rattle.wire.specs.Judge.{bad_in, judged_by}
use Rattle.wire.proofs.Goals.{goal_allowed, goal_allowed_lem}
use Rattle.text.specs.Number.{quarters_of}
use Rattle.text.specs.Goal.{goal_bits, quarters_in}
use Rattle.text.specs.Line.{as_bits, goal_of, first_of, second_of, line_of}
use Rattle.text.specs.Assemble.{commands_in}
use Rattle.text.specs.Steps.{judged_line}
use Rattle.text.proofs.Lines.{quarters_small}
use Rattle.text.proofs.Branches.{line_any}
use Rattle.text.proofs.Allowed.{typed_in_range, typed_parts}
use Rattle.text.proofs.Goals.{goal_exact, bits_small, there_and_back}
use Rattle.std.specs.Prelude.{Option, Some, None}

-- A goal that the text can say.
pub record Says (bits : ℕ) : Type 0 where
  pub quarters : ℕ
  pub said : quarters_in bits ≡ Some quarters

-- What a layout's numbers are so that the text can say them.
abbrev pub Sayable : Layout → ℕ → ℕ → Type 0
Sayable Layout.Bare first second = Unit {0}
Sayable Layout.Byte first second = Unit {0}
Sayable Layout.Half first second = Unit {0}
Sayable Layout.Halves first second = Unit {0}
Sayable Layout.Singles first second = Says first × Says second

-- A command whose goals can be said.
abbrev pub CanSay : Command → Type 0
CanSay c = Sayable (row_of (parts_of c.kind).form).layout (parts_of c.kind).first (parts_of c.kind).second

abbrev pub AllSay : List Command → Type 0
AllSay [] = Unit {0}
AllSay (c ∷ cs) = CanSay c × AllSay cs

-- A goal as it was typed: the bits of so many quarters.
record Goal (bits : ℕ) : Type 0 where
  quarters : ℕ
  small : quarters < 2 ^ 24
  is : bits ≡ goal_bits quarters

-- A goal that was typed as q quarters has the bits of exactly that number, in range or not.
pub typed_exact : (s : List ℕ) (q : ℕ) → quarters_of s ≡ Some q → HasValue (of_bits binary32 (goal_bits q)) false q 4
typed_exact s q typed = goal_exact q (omega (arith, quarters_small s q typed))

-- Such bits are never those of minus zero.
no_minus : (q : ℕ) → q < 2 ^ 24 → goal_bits q ≡ 0x80000000 → ⊥
unfolding of_bits
no_minus q small e =
    let has : HasValue (of_bits binary32 0x80000000) false q 4 = subst (λ b. HasValue (of_bits binary32 b) false q 4) e (goal_exact q small) in
    true≢false has.0

-- So one that is in range can be said.
goal_says : (bits : ℕ) → Goal bits → goal_allowed bits ≡ true → Says bits
goal_says bits goal allowed = go ((goal_allowed_lem bits).0 allowed)
  where
    go : (bits ≤ 0x447fffff) ⊎ (bits ≡ 0x80000000) → Says bits
    go (inl low) =
        let below : goal_bits goal.quarters ≤ 0x447fffff = subst (λ b. b ≤ 0x447fffff) goal.is low in
        record {
          quarters = goal.quarters;
          said = ap quarters_in goal.is ∙ there_and_back goal.quarters (bits_small goal.quarters goal.small below);
        }
    go (inr minus) = absurd (no_minus goal.quarters goal.small (sym goal.is ∙ minus))

-- And so can two of which neither is bad.
both_say : (first second : ℕ) → Goal first → Goal second → bad_in (parts_with Form.TrkGoal first second) ≡ 0 → Says first × Says second
both_say first second one two fine = go (goal_allowed first) (goal_allowed second) refl refl fine
  where
    go : (a b : Bool) → goal_allowed first ≡ a → goal_allowed second ≡ b → ◌≡◌ {A = ℕ} (cond a (cond b 0 2) 1) 0 → Says first × Says second
    go true true is at e = (goal_says first one is, goal_says second two at)
    go true false is at e = absurd (omega arith)
    go false b is at e = absurd (omega arith)

-- The numbers of a line, by its layout.
abbrev Typed : Layout → ℕ → ℕ → Type 0
Typed Layout.Bare first second = Unit {0}
Typed Layout.Byte first second = Unit {0}
Typed Layout.Half first second = Unit {0}
Typed Layout.Halves first second = Unit {0}
Typed Layout.Singles first second = Goal first × Goal second

goal_typed : (s : List ℕ) (bits : ℕ) → goal_of s ≡ Some bits → Goal bits
goal_typed s bits e = go (quarters_of s) refl e
  where
    go : (n : Option ℕ) → quarters_of s ≡ n → as_bits n ≡ Some bits → Goal bits
    go (Some q) is e =
        let same : goal_bits q ≡ bits = cc in
        record { quarters = q; small = omega (arith, quarters_small s q is); is = sym same }
    go None is e = absurd (let z : ◌≡◌ {A = ℕ} 0 1 = cc in omega arith)

both_typed : (l : Layout) (s t : List ℕ) (first second : ℕ) → first_of l s ≡ Some first → second_of l t ≡ Some second → Typed l first second
both_typed Layout.Bare s t first second one two = tt
both_typed Layout.Byte s t first second one two = tt
both_typed Layout.Half s t first second one two = tt
both_typed Layout.Halves s t first second one two = tt
both_typed Layout.Singles s t first second one two = (goal_typed s first one, goal_typed t second two)

-- Each branch of the code: the command that it gives, if any, can be said.
numbers_say : (form : Form) (first second : ℕ) → Typed (row_of form).layout first second → bad_in (parts_with form first second) ≡ 0
    → Sayable (row_of form).layout first second
numbers_say Form.ImgPwr first second typed fine = tt
numbers_say Form.ImgRegion first second typed fine = tt
numbers_say Form.ImgTrack first second typed fine = tt
numbers_say Form.TrkAlg first second typed fine = tt
numbers_say Form.TrkLoop first second typed fine = tt
numbers_say Form.ImgImage first second typed fine = tt
numbers_say Form.TrkGoal first second typed fine = both_say first second typed.0 typed.1 fine
numbers_say Form.TlmFlush first second typed fine = tt
numbers_say Form.FlushAuto first second typed fine = tt
numbers_say Form.Open first second typed fine = tt
numbers_say Form.Close first second typed fine = tt
numbers_say Form.Run first second typed fine = tt
numbers_say Form.Wait first second typed fine = tt
numbers_say Form.Stop first second typed fine = tt
numbers_say Form.Clear first second typed fine = tt

judged_says : (form : Form) (flag : Bool) (first second : ℕ) → Typed (row_of form).layout first second → AllSay (judged_line form flag first second).taken
judged_says form flag first second typed = go (eqb (judged_by (row_of form) flag first second).code 0) refl
  where
    go : (b : Bool) → eqb (judged_by (row_of form) flag first second).code 0 ≡ b
        → AllSay (cond b (record { flag = flag; kind = kind_of form first second } ∷ []) [])
    go true is =
        let code = eqb-true (judged_by (row_of form) flag first second).code 0 is in (
          subst (λ (p : Parts). Sayable (row_of p.form).layout p.first p.second) (sym (typed_parts form flag first second code))
              (numbers_say form first second typed (typed_in_range form flag first second code)),
          tt,
        )
    go false is = tt

-- Every command of a text can be said.
pub line_says : (s : List ℕ) → AllSay (line_of s).taken
line_says s =
    line_any AllSay tt
    (λ form flag one two first second first_is second_is.
    judged_says form flag first second (both_typed (row_of form).layout one two first second first_is second_is))
    s

all_append : (xs ys : List Command) → AllSay xs → AllSay ys → AllSay (xs ++ ys)
all_append [] ys first second = second
all_append (x ∷ xs) ys first second = (first.0, all_append xs ys first.1 second)

pub commands_say : (ls : List (List ℕ)) → AllSay (commands_in ls)
unfolding commands_in
commands_say [] = tt
commands_say (l ∷ ls) = all_append (line_of l).taken (commands_in ls) (line_says l) (commands_say ls)
