-- A command's line put part by part, and how long it is at most.
use Prim.Native.Nat.{ℕ, ◌+◌, ◌*◌, ◌/◌, ◌%◌, ◌≤◌, ◌<◌}
use mathlib.Core.Path.{◌≡◌, refl, sym, ap, ◌∙◌}
use mathlib.Core.List.{List, [], ◌∷◌, ◌++◌, append_assoc}
use mathlib.Core.Bool.{Bool, true, false, cond}
use native.Mathlib.Omega.{arith}
use lib.ListN.{length, length-append}
use lib.Seq.{sets}
use lib.Dec.{ltb}
use Rattle.words.specs.Text.{ascii, decimal, place_after, stored_at}
use Rattle.words.proofs.Decimal.{digits_below}
use Rattle.words.proofs.Stores.{Laid, laid_first, laid_fits, laid_more, laid_next}
use Rattle.wire.specs.declared.table.Form.{Form}
use Rattle.wire.specs.declared.table.Layout.{Layout}
use Rattle.wire.specs.declared.kinds.Command.{Command}
use Rattle.wire.specs.Table.{row_of, name_of}
use Rattle.wire.specs.Kind.{parts_of}
use Rattle.wire.specs.Write.{command_bytes}
use Rattle.wire.proofs.Layouts.{Within, arg_words, form_words}
use Rattle.wire.proofs.Lengths.{length_command}
use Rattle.wire.proofs.RoundTrip.{Held, held_within}
use Rattle.text.specs.Split.{line_feed, space}
use Rattle.text.specs.Goal.{quarters_in}
use Rattle.text.specs.Lister.{fraction, goal_text, said_text, arguments_text, body_text, flagged, line_text}
use Rattle.text.specs.ListSteps.{mark, ended_line}
use Rattle.text.proofs.Goals.{back_and_there}
use Rattle.std.specs.Prelude.{Option, Some, None}

-- What a writer that has room answers and leaves, said as its two promises.
abbrev pub Puts : List ℕ → ℕ → List ℕ → ℕ → List ℕ → Type 0
Puts bytes at room r after = (r ≡ at + length bytes) × (after ≡ sets room at bytes)

-- The same of a writer that can do without room.
abbrev pub Tries : List ℕ → ℕ → List ℕ → ℕ → List ℕ → Type 0
Tries bytes at room r after = (r ≡ place_after bytes at room) × (after ≡ stored_at bytes at room)

as_laid : (bytes : List ℕ) (at : ℕ) (room : List ℕ) (r : ℕ) (after : List ℕ) → Puts bytes at room r after → Laid room at bytes after r
as_laid bytes at room r after put = record { place = put.0; stored = put.1 }

-- Two parts put one after another are put as one.
module _ (xs ys : List ℕ) (at : ℕ) (room : List ℕ) (fits : at + length (xs ++ ys) ≤ length room) where
  both : at + length xs + length ys ≤ length room
  both = omega (arith, length-append xs ys)

  pub first_fits : at + length xs ≤ length room
  first_fits = omega (arith, both)

  module _ (p : ℕ) (mid : List ℕ) where
    pub second_fits : Puts xs at room p mid → p + length ys ≤ length mid
    second_fits one = laid_fits (as_laid xs at room p mid one) ys both

    module _ (q : ℕ) (after : List ℕ) where
      pub tries_two : Tries xs at room p mid → Tries ys p mid q after → Puts (xs ++ ys) at room q after
      tries_two one two =
          let laid = laid_next (laid_first xs at room mid p first_fits one.0 one.1) ys after q both two.0 two.1 in
          (laid.place, laid.stored)

      pub puts_then_tries : Puts xs at room p mid → Tries ys p mid q after → Puts (xs ++ ys) at room q after
      puts_then_tries one two =
          let laid = laid_next (as_laid xs at room p mid one) ys after q both two.0 two.1 in
          (laid.place, laid.stored)

      pub puts_two : Puts xs at room p mid → Puts ys p mid q after → Puts (xs ++ ys) at room q after
      puts_two one two =
          let laid = laid_more (as_laid xs at room p mid one) ys after q two.0 two.1 in
          (laid.place, laid.stored)

-- A goal after its space: a number and a fraction, or the space alone where there is no such goal in text.
module _ (bits at : ℕ) (room : List ℕ) (fits : at + length (space ∷ said_text (quarters_in bits)) ≤ length room) where
  module _ (q : ℕ) (is : quarters_in bits ≡ Some q) where
    goal_fits : at + length (space ∷ goal_text q) ≤ length room
    goal_fits = rw is at fits

    pub whole_fits : at + length (space ∷ decimal (q / 4)) ≤ length room
    whole_fits = first_fits (space ∷ decimal (q / 4)) (fraction (q % 4)) at room goal_fits

    pub goal_put : (p r : ℕ) (mid after : List ℕ) → Puts (space ∷ decimal (q / 4)) at room p mid → Tries (fraction (q % 4)) p mid r after
        → Puts (space ∷ said_text (quarters_in bits)) at room r after
    goal_put p r mid after one two =
        rw is (puts_then_tries (space ∷ decimal (q / 4)) (fraction (q % 4)) at room goal_fits p mid r after one two)

  pub no_goal_put : quarters_in bits ≡ None → (r : ℕ) (after : List ℕ) → Tries (space ∷ []) at room r after
      → Puts (space ∷ said_text (quarters_in bits)) at room r after
  no_goal_put is r after one =
      let laid = laid_first (space ∷ []) at room after r (rw is at fits) one.0 one.1 in
      rw is (laid.place, laid.stored)

-- A line is its mark, its name, its arguments and its line feed.
module _ (c : Command) where
  abbrev name : List ℕ
  name = name_of (parts_of c.kind).form

  abbrev arguments : List ℕ
  arguments = arguments_text (row_of (parts_of c.kind).form).layout (parts_of c.kind).first (parts_of c.kind).second

  marked : (flag : Bool) (s : List ℕ) → mark flag ++ s ≡ flagged flag s
  marked true s = refl
  marked false s = refl

  line_parts : (mark c.flag ++ name) ++ arguments ++ (line_feed ∷ []) ≡ ended_line c
  unfolding line_text
  line_parts = ap (λ l. l ++ (line_feed ∷ [])) (append_assoc (mark c.flag) name arguments ∙ marked c.flag (body_text c))

  line_length : length (ended_line c) ≡ length (mark c.flag) + length name + length arguments + 1
  line_length =
      ap length (sym line_parts)
      ∙ length-append ((mark c.flag ++ name) ++ arguments) (line_feed ∷ [])
      ∙ omega (arith, length-append (mark c.flag ++ name) arguments, length-append (mark c.flag) name)

  module _ (at : ℕ) (room : List ℕ) (fits : at + length (ended_line c) ≤ length room) (p q : ℕ) (room₁ room₂ : List ℕ)
      (one : Tries (mark c.flag) at room p room₁) (two : Tries name p room₁ q room₂) where
    named : Laid room at (mark c.flag ++ name) room₂ q
    named =
        laid_next (laid_first (mark c.flag) at room room₁ p (omega (arith, line_length)) one.0 one.1) name room₂ q (omega (arith, line_length))
        two.0 two.1

    pub arguments_fit : q + length arguments ≤ length room₂
    arguments_fit = laid_fits named arguments (omega (arith, line_length, length-append (mark c.flag) name))

    pub line_put : (r s : ℕ) (room₃ room₄ : List ℕ) → Puts arguments q room₂ r room₃ → Tries (line_feed ∷ []) r room₃ s room₄
        → Puts (ended_line c) at room s room₄
    line_put r s room₃ room₄ three four =
        let written = laid_more named arguments room₃ r three.0 three.1 in
        let more : at + length ((mark c.flag ++ name) ++ arguments) + 1 ≤ length room =
        omega (arith, line_length, length-append (mark c.flag ++ name) arguments, length-append (mark c.flag) name) in
        let laid = laid_next written (line_feed ∷ []) room₄ s more four.0 four.1 in
        (laid.place ∙ ap (λ l. at + length l) line_parts, laid.stored ∙ ap (sets room at) line_parts)

-- No name has more than ten letters.
name_short : (f : Form) → length (name_of f) ≤ 10
unfolding name_of
name_short Form.ImgPwr = omega arith
name_short Form.ImgRegion = omega arith
name_short Form.ImgTrack = omega arith
name_short Form.TrkAlg = omega arith
name_short Form.TrkLoop = omega arith
name_short Form.ImgImage = omega arith
name_short Form.TrkGoal = omega arith
name_short Form.TlmFlush = omega arith
name_short Form.FlushAuto = omega arith
name_short Form.Open = omega arith
name_short Form.Close = omega arith
name_short Form.Run = omega arith
name_short Form.Wait = omega arith
name_short Form.Stop = omega arith
name_short Form.Clear = omega arith

-- No argument of a field has more than five digits; no goal more than four and a fraction.
half_short : (n : ℕ) → n < 65536 → length (decimal n) ≤ 5
half_short n small = digits_below 10 4 n (omega arith)

fraction_short : (q : ℕ) → length (fraction q) ≤ 3
fraction_short q = go (ltb q 1) (ltb q 2) (ltb q 3)
  where
    go : (a b c : Bool) → length (cond a [] (cond b (ascii ".25") (cond c (ascii ".5") (ascii ".75")))) ≤ 3
    go true b c = omega arith
    go false true c = omega arith
    go false false true = omega arith
    go false false false = omega arith

said_short : (bits : ℕ) → length (said_text (quarters_in bits)) ≤ 7
said_short bits = go (quarters_in bits) refl
  where
    go : (q : Option ℕ) → quarters_in bits ≡ q → length (said_text q) ≤ 7
    go (Some q) is =
        let small = (back_and_there bits q is).1 in
        omega (arith, length-append (decimal (q / 4)) (fraction (q % 4)), digits_below 10 3 (q / 4) (omega arith), fraction_short (q % 4))
    go None is = omega arith

-- With a mark, a name and a line feed, arguments are at most twice as long as the words of their layout.
arguments_short : (l : Layout) (first second : ℕ) → Within l first second → 12 + length (arguments_text l first second) ≤ 8 * (arg_words l + 2)
arguments_short Layout.Bare first second within = omega arith
arguments_short Layout.Byte first second within = omega (arith, half_short first (omega arith))
arguments_short Layout.Half first second within = omega (arith, half_short first within.0)
arguments_short Layout.Halves first second within =
    omega (arith, length-append (decimal first) (32 ∷ decimal second), half_short first within.0, half_short second within.1)
arguments_short Layout.Singles first second within =
    omega (arith, length-append (said_text (quarters_in first)) (32 ∷ said_text (quarters_in second)), said_short first, said_short second)

mark_short : (flag : Bool) → length (mark flag) ≤ 1
mark_short true = omega arith
mark_short false = omega arith

-- A line with its line feed is at most twice as long as its command's bytes.
pub line_short : (c : Command) → Held c → length (ended_line c) ≤ 2 * length (command_bytes c)
line_short c held =
    let parts = parts_of c.kind in
    let layout = (row_of parts.form).layout in
    omega (
      arith,
      line_length c,
      mark_short c.flag,
      name_short parts.form,
      arguments_short layout parts.first parts.second (held_within c.kind held),
      form_words parts.form,
      length_command c,
    )
