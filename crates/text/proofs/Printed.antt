-- What the lister prints is read back: a line as its command, a text as its list.
use Prim.Native.Nat.{ℕ, suc, ◌+◌, ◌/◌, ◌%◌, ◌≤◌, ◌<◌}
use mathlib.Core.Path.{◌≡◌, refl, sym, ap, ◌∙◌}
use mathlib.Core.List.{List, [], ◌∷◌, ◌++◌, append-nil}
use mathlib.Core.Bool.{Bool, true, false, cond, ◌&&◌}
use native.Mathlib.Omega.{arith}
use native.Mathlib.Numerals.{add-one}
use lib.ListN.{length, drop, length-append}
use lib.Seq.{take_at, take-length}
use lib.Dec.{eqb, leb, ltb}
use borrow.Author.Tests.{eq-eqb, ne_eqb, leb-true}
use Rattle.wire.specs.declared.table.Form.{Form}
use Rattle.wire.specs.declared.table.Layout.{Layout}
use Rattle.wire.specs.declared.kinds.Command.{Command}
use Rattle.wire.specs.Kind.{parts_of}
use Rattle.wire.specs.Judge.{plain, judged_by, judge_code}
use Rattle.wire.specs.Read.{Answer}
use Rattle.wire.proofs.Layouts.{Within}
use Rattle.wire.proofs.RoundTrip.{Held, held_within, held_made}
use Rattle.words.specs.Text.{ascii, decimal}
use Rattle.wire.specs.Table.{row_of, name_of, arguments_of}
use Rattle.wire.specs.Write.{list_bytes}
use Rattle.text.specs.Findings.{finding, nothing, first_found}
use Rattle.text.specs.Assemble.{commands_in, bytes_in, line_findings}
use Rattle.text.specs.Goal.{quarters_in}
use Rattle.text.specs.Line.{goal_of, as_bits, first_of, second_of, line_of}
use Rattle.text.specs.Lister.{fraction, goal_text, said_text, arguments_text, body_text, flagged, line_text, list_text}
use Rattle.text.specs.Names.{form_named}
use Rattle.text.specs.Number.{is_digit}
use Rattle.text.specs.Split.{lines_of}
use Rattle.text.specs.Steps.{run_of, count_of, front_of, behind_of, judged_line, known_line, named_line, typed_line, line_by}
use Rattle.text.proofs.ByWords.{line_by_lem}
use Rattle.text.proofs.Naming.{name_back}
use Rattle.text.proofs.Lines.{right_count}
use Rattle.text.proofs.Saying.{Says, Sayable, CanSay}
use Rattle.text.proofs.Splitting.{lines_next}
use Rattle.text.proofs.Goals.{back_and_there}
use Rattle.text.proofs.Decimal.{AllDigits, all_digits, whole_back, goal_back}
use Rattle.std.specs.Prelude.{Some}

-- A text with no mark in it, before a mark and behind one.
module _ (mark : ℕ) where
  pub count_append : (xs ys : List ℕ) → count_of mark (xs ++ ys) ≡ count_of mark xs + count_of mark ys
  unfolding count_of
  count_append [] ys = omega arith
  count_append (x ∷ xs) ys = go (eqb x mark) (count_append xs ys)
    where
      go : (t : Bool) → count_of mark (xs ++ ys) ≡ count_of mark xs + count_of mark ys
          → cond t (suc (count_of mark (xs ++ ys))) (count_of mark (xs ++ ys)) ≡ cond t (suc (count_of mark xs)) (count_of mark xs) + count_of mark ys
      go true e = omega arith
      go false e = omega arith

  run_at : (xs ys : List ℕ) → count_of mark xs ≡ 0 → run_of mark (xs ++ mark ∷ ys) ≡ length xs
  unfolding count_of run_of
  run_at [] ys none = rw (eq-eqb mark mark refl)
  run_at (x ∷ xs) ys none = go (eqb x mark) none (λ e. run_at xs ys e)
    where
      go : (t : Bool) → cond t (suc (count_of mark xs)) (count_of mark xs) ≡ 0 → (count_of mark xs ≡ 0 → run_of mark (xs ++ mark ∷ ys) ≡ length xs)
          → cond t 0 (suc (run_of mark (xs ++ mark ∷ ys))) ≡ suc (length xs)
      go true none rest = absurd (omega arith)
      go false none rest = ap suc (rest none)

  run_all : (xs : List ℕ) → count_of mark xs ≡ 0 → run_of mark xs ≡ length xs
  unfolding count_of run_of
  run_all [] none = refl
  run_all (x ∷ xs) none = go (eqb x mark) none (λ e. run_all xs e)
    where
      go : (t : Bool) → cond t (suc (count_of mark xs)) (count_of mark xs) ≡ 0 → (count_of mark xs ≡ 0 → run_of mark xs ≡ length xs)
          → cond t 0 (suc (run_of mark xs)) ≡ suc (length xs)
      go true none rest = absurd (omega arith)
      go false none rest = ap suc (rest none)

  pub front_all : (xs : List ℕ) → count_of mark xs ≡ 0 → front_of mark xs ≡ xs
  front_all xs none = rw (run_all xs none) (take-length xs)

  pub front_at : (xs ys : List ℕ) → count_of mark xs ≡ 0 → front_of mark (xs ++ mark ∷ ys) ≡ xs
  front_at xs ys none = take_at xs (mark ∷ ys) (run_of mark (xs ++ mark ∷ ys)) (sym (run_at xs ys none))

  pub behind_at : (xs ys : List ℕ) → count_of mark xs ≡ 0 → behind_of mark (xs ++ mark ∷ ys) ≡ ys
  behind_at xs ys none =
      rw (run_at xs ys none, add-one) (one_on xs)
    where
      one_on : (xs : List ℕ) → drop (suc (length xs)) (xs ++ mark ∷ ys) ≡ ys
      one_on [] = refl
      one_on (x ∷ xs) = one_on xs

-- Digits hold no space and no line feed, and so does a goal.
no_digit : (mark : ℕ) → mark < 48 → (xs : List ℕ) → AllDigits xs → count_of mark xs ≡ 0
unfolding count_of
no_digit mark low [] all = refl
no_digit mark low (x ∷ xs) all = rw (ne_eqb x mark (λ e. omega (arith, digit x all.0))) (no_digit mark low xs all.1)
  where
    digit : (x : ℕ) → is_digit x ≡ true → 48 ≤ x
    digit x e = go (leb 48 x) refl e
      where
        go : (b : Bool) → leb 48 x ≡ b → (b && leb x 57) ≡ true → 48 ≤ x
        go true is e = leb-true 48 x is
        go false is e = absurd (let z : ◌≡◌ {A = ℕ} 0 1 = cc in omega arith)

number_plain : (mark : ℕ) → mark < 48 → (n : ℕ) → count_of mark (decimal n) ≡ 0
number_plain mark low n = no_digit mark low (decimal n) (all_digits 10 n)

fraction_plain : (mark q : ℕ) → mark < 46 → count_of mark (fraction q) ≡ 0
unfolding count_of
fraction_plain mark q low = go (ltb q 1) (ltb q 2) (ltb q 3)
  where
    other : (b : ℕ) → 46 ≤ b → eqb b mark ≡ false
    other b h = ne_eqb b mark (λ e. omega arith)

    go : (a b c : Bool) → count_of mark (cond a [] (cond b (ascii ".25") (cond c (ascii ".5") (ascii ".75")))) ≡ 0
    go true b c = refl
    go false true c = rw (other 46 (omega arith), other 50 (omega arith), other 53 (omega arith))
    go false false true = rw (other 46 (omega arith), other 53 (omega arith))
    go false false false = rw (other 46 (omega arith), other 55 (omega arith), other 53 (omega arith))

goal_plain : (mark q : ℕ) → mark < 46 → count_of mark (goal_text q) ≡ 0
goal_plain mark q low =
    count_append mark (decimal (q / 4)) (fraction (q % 4))
    ∙ omega (arith, number_plain mark (omega arith) (q / 4), fraction_plain mark (q % 4) low)

name_plain : (f : Form) → count_of 32 (name_of f) ≡ 0
unfolding count_of name_of
name_plain Form.ImgPwr = refl
name_plain Form.ImgRegion = refl
name_plain Form.ImgTrack = refl
name_plain Form.TrkAlg = refl
name_plain Form.TrkLoop = refl
name_plain Form.ImgImage = refl
name_plain Form.TrkGoal = refl
name_plain Form.TlmFlush = refl
name_plain Form.FlushAuto = refl
name_plain Form.Open = refl
name_plain Form.Close = refl
name_plain Form.Run = refl
name_plain Form.Wait = refl
name_plain Form.Stop = refl
name_plain Form.Clear = refl

goal_read : (bits : ℕ) → Says bits → goal_of (said_text (quarters_in bits)) ≡ Some bits
goal_read bits says =
    let back = back_and_there bits says.quarters says.said in
    rw says.said (ap as_bits (goal_back says.quarters (omega (arith, back.1))) ∙ ap Some back.0)

said_plain : (mark bits : ℕ) → mark < 46 → Says bits → count_of mark (said_text (quarters_in bits)) ≡ 0
said_plain mark bits low says = rw says.said (goal_plain mark says.quarters low)

count_mark : (s : List ℕ) → count_of 32 (32 ∷ s) ≡ suc (count_of 32 s)
unfolding count_of
count_mark s = refl

-- A body of a name and its arguments is read as these arguments.
module _ (form : Form) (flag : Bool) (first second : ℕ) where
  known_as : (body a b : List ℕ) → count_of 32 body ≡ arguments_of (row_of form).layout → a ≡ front_of 32 (behind_of 32 body)
      → b ≡ front_of 32 (behind_of 32 (behind_of 32 body)) → first_of (row_of form).layout a ≡ Some first → second_of (row_of form).layout b ≡ Some second
      → known_line form flag body ≡ judged_line form flag first second
  known_as body a b right is_a is_b e1 e2 =
      sym
      (right_count form flag body (row_of form) (count_of 32 body) (arguments_of (row_of form).layout) refl refl refl right (behind_of 32 body) a
      (behind_of 32 (behind_of 32 body)) b refl is_a refl is_b (Some first) (Some second) (sym e1) (sym e2))

  abbrev name : List ℕ
  name = name_of form

  count_one : (a : List ℕ) → count_of 32 a ≡ 0 → count_of 32 (name ++ 32 ∷ a) ≡ 1
  count_one a plain = omega (arith, count_append 32 name (32 ∷ a), count_mark a, name_plain form)

  with_one : (a : List ℕ) → count_of 32 a ≡ 0 → arguments_of (row_of form).layout ≡ 1 → first_of (row_of form).layout a ≡ Some first
      → ((b : List ℕ) → second_of (row_of form).layout b ≡ Some second) → known_line form flag (name ++ 32 ∷ a) ≡ judged_line form flag first second
  with_one a plain one e1 e2 =
      let behind = behind_at 32 name a (name_plain form) in
      known_as (name ++ 32 ∷ a) a (front_of 32 (behind_of 32 (behind_of 32 (name ++ 32 ∷ a)))) (count_one a plain ∙ sym one)
      (sym (ap (front_of 32) behind ∙ front_all 32 a plain)) refl e1 (e2 _)

  with_two : (a b : List ℕ) → count_of 32 a ≡ 0 → count_of 32 b ≡ 0 → arguments_of (row_of form).layout ≡ 2 → first_of (row_of form).layout a ≡ Some first
      → second_of (row_of form).layout b ≡ Some second → known_line form flag (name ++ 32 ∷ (a ++ 32 ∷ b)) ≡ judged_line form flag first second
  with_two a b plain plain' two e1 e2 =
      let behind = behind_at 32 name (a ++ 32 ∷ b) (name_plain form) in
      let count : count_of 32 (name ++ 32 ∷ (a ++ 32 ∷ b)) ≡ 2 =
      omega (arith, count_append 32 name (32 ∷ (a ++ 32 ∷ b)), count_mark (a ++ 32 ∷ b), count_append 32 a (32 ∷ b), count_mark b, name_plain form) in
      known_as (name ++ 32 ∷ (a ++ 32 ∷ b)) a b (count ∙ sym two) (sym (ap (front_of 32) behind ∙ front_at 32 a b plain))
      (sym (ap (λ l. front_of 32 (behind_of 32 l)) behind ∙ ap (front_of 32) (behind_at 32 a b plain) ∙ front_all 32 b plain')) e1 e2

  by_layout : (l : Layout) → (row_of form).layout ≡ l → Within l first second → Sayable l first second
      → known_line form flag (name ++ arguments_text l first second) ≡ judged_line form flag first second
  by_layout Layout.Bare e within says =
      let body = append-nil name in
      let a = front_of 32 (behind_of 32 (name ++ [])) in
      let b = front_of 32 (behind_of 32 (behind_of 32 (name ++ []))) in
      known_as (name ++ []) a b (ap (count_of 32) body ∙ name_plain form ∙ sym (ap arguments_of e)) refl refl
      (ap (λ l. first_of l a) e ∙ ap Some (sym within.0)) (ap (λ l. second_of l b) e ∙ ap Some (sym within.1))
  by_layout Layout.Byte e within says =
      with_one (decimal first) (number_plain 32 (omega arith) first) (ap arguments_of e)
      (ap (λ l. first_of l (decimal first)) e ∙ whole_back first (omega arith)) (λ b. ap (λ l. second_of l b) e ∙ ap Some (sym within.1))
  by_layout Layout.Half e within says =
      with_one (decimal first) (number_plain 32 (omega arith) first) (ap arguments_of e)
      (ap (λ l. first_of l (decimal first)) e ∙ whole_back first (omega arith)) (λ b. ap (λ l. second_of l b) e ∙ ap Some (sym within.1))
  by_layout Layout.Halves e within says =
      with_two (decimal first) (decimal second) (number_plain 32 (omega arith) first) (number_plain 32 (omega arith) second) (ap arguments_of e)
      (ap (λ l. first_of l (decimal first)) e ∙ whole_back first (omega arith)) (ap (λ l. second_of l (decimal second)) e ∙ whole_back second (omega arith))
  by_layout Layout.Singles e within says =
      with_two (said_text (quarters_in first)) (said_text (quarters_in second)) (said_plain 32 first (omega arith) says.0) (said_plain 32 second (omega arith) says.1)
      (ap arguments_of e) (ap (λ l. first_of l (said_text (quarters_in first))) e ∙ goal_read first says.0)
      (ap (λ l. second_of l (said_text (quarters_in second))) e ∙ goal_read second says.1)

  -- Whatever follows the name, it is found.
  found_name : (l : Layout) → front_of 32 (name ++ arguments_text l first second) ≡ name
  found_name Layout.Bare = ap (front_of 32) (append-nil name) ∙ front_all 32 name (name_plain form)
  found_name Layout.Byte = front_at 32 name _ (name_plain form)
  found_name Layout.Half = front_at 32 name _ (name_plain form)
  found_name Layout.Halves = front_at 32 name _ (name_plain form)
  found_name Layout.Singles = front_at 32 name _ (name_plain form)

  pub body_back : Within (row_of form).layout first second → Sayable (row_of form).layout first second
      → typed_line flag (name ++ arguments_text (row_of form).layout first second) ≡ judged_line form flag first second
  unfolding typed_line
  body_back within says =
      ap (λ n. named_line n flag (name ++ arguments_text (row_of form).layout first second)) (ap form_named (found_name (row_of form).layout) ∙ name_back form)
      ∙ by_layout (row_of form).layout refl within says

-- A line that begins with neither `#` nor `+`.
letter : (b : ℕ) (s : List ℕ) → 44 ≤ b → line_by (b ∷ s) ≡ typed_line false (b ∷ s)
unfolding line_by
letter b s h = rw (ne_eqb (suc (length s)) 0 (λ e. omega arith), ne_eqb b 35 (λ e. omega arith), ne_eqb b 43 (λ e. omega arith))

by_letter : (f : Form) (s : List ℕ) → line_by (name_of f ++ s) ≡ typed_line false (name_of f ++ s)
unfolding name_of
by_letter Form.ImgPwr s = letter _ _ (omega arith)
by_letter Form.ImgRegion s = letter _ _ (omega arith)
by_letter Form.ImgTrack s = letter _ _ (omega arith)
by_letter Form.TrkAlg s = letter _ _ (omega arith)
by_letter Form.TrkLoop s = letter _ _ (omega arith)
by_letter Form.ImgImage s = letter _ _ (omega arith)
by_letter Form.TrkGoal s = letter _ _ (omega arith)
by_letter Form.TlmFlush s = letter _ _ (omega arith)
by_letter Form.FlushAuto s = letter _ _ (omega arith)
by_letter Form.Open s = letter _ _ (omega arith)
by_letter Form.Close s = letter _ _ (omega arith)
by_letter Form.Run s = letter _ _ (omega arith)
by_letter Form.Wait s = letter _ _ (omega arith)
by_letter Form.Stop s = letter _ _ (omega arith)
by_letter Form.Clear s = letter _ _ (omega arith)

plus : (s : List ℕ) → line_by (43 ∷ s) ≡ typed_line true s
unfolding line_by
plus s = rw (ne_eqb (suc (length s)) 0 (λ e. omega arith))

-- A command that passes 8 to 10 and whose goals can be said is read back from its line.
module _ (c : Command) (held : Held c) (fine : judge_code c ≡ 0) (says : CanSay c) where
  abbrev form : Form
  form = (parts_of c.kind).form

  abbrev one : ℕ
  one = (parts_of c.kind).first

  abbrev two : ℕ
  two = (parts_of c.kind).second

  judged_as : judged_line form c.flag one two ≡ record { told = plain 0; taken = c ∷ [] }
  unfolding judge_code
  judged_as =
      let code : (judged_by (row_of form) c.flag one two).code ≡ 0 = fine in
      rw (code, held_made c.kind held)

  by_flag : (flag : Bool) → c.flag ≡ flag → line_of (flagged flag (body_text c)) ≡ record { told = plain 0; taken = c ∷ [] }
  by_flag true is =
      sym (line_by_lem (43 ∷ body_text c))
      ∙ plus (body_text c)
      ∙ body_back form true one two (held_within c.kind held) says ∙ ap (λ b. judged_line form b one two) (sym is) ∙ judged_as
  by_flag false is =
      sym (line_by_lem (body_text c))
      ∙ by_letter form (arguments_text (row_of form).layout one two)
      ∙ body_back form false one two (held_within c.kind held) says
      ∙ ap (λ b. judged_line form b one two) (sym is)
      ∙ judged_as

  pub line_back : line_of (line_text c) ≡ record { told = plain 0; taken = c ∷ [] }
  unfolding line_text
  line_back = by_flag c.flag refl

-- No line holds a line feed.
name_one_line : (f : Form) → count_of 10 (name_of f) ≡ 0
unfolding count_of name_of
name_one_line Form.ImgPwr = refl
name_one_line Form.ImgRegion = refl
name_one_line Form.ImgTrack = refl
name_one_line Form.TrkAlg = refl
name_one_line Form.TrkLoop = refl
name_one_line Form.ImgImage = refl
name_one_line Form.TrkGoal = refl
name_one_line Form.TlmFlush = refl
name_one_line Form.FlushAuto = refl
name_one_line Form.Open = refl
name_one_line Form.Close = refl
name_one_line Form.Run = refl
name_one_line Form.Wait = refl
name_one_line Form.Stop = refl
name_one_line Form.Clear = refl

arguments_one_line : (l : Layout) (first second : ℕ) → Sayable l first second → count_of 10 (arguments_text l first second) ≡ 0
unfolding count_of
arguments_one_line Layout.Bare first second says = refl
arguments_one_line Layout.Byte first second says = number_plain 10 (omega arith) first
arguments_one_line Layout.Half first second says = number_plain 10 (omega arith) first
arguments_one_line Layout.Halves first second says =
    count_append 10 (decimal first) (32 ∷ decimal second) ∙ omega (arith, number_plain 10 (omega arith) first, number_plain 10 (omega arith) second)
arguments_one_line Layout.Singles first second says =
    count_append 10 (said_text (quarters_in first)) (32 ∷ said_text (quarters_in second))
    ∙ omega (arith, said_plain 10 first (omega arith) says.0, said_plain 10 second (omega arith) says.1)

pub one_line : (c : Command) → CanSay c → count_of 10 (line_text c) ≡ 0
unfolding line_text
one_line c says = by_flag' c.flag
  where
    body : count_of 10 (body_text c) ≡ 0
    body =
        let parts = parts_of c.kind in
        count_append 10 (name_of parts.form) (arguments_text (row_of parts.form).layout parts.first parts.second)
        ∙ omega (arith, name_one_line parts.form, arguments_one_line (row_of parts.form).layout parts.first parts.second says)

    by_flag' : (flag : Bool) → count_of 10 (flagged flag (body_text c)) ≡ 0
    by_flag' true = unfold count_of in body
    by_flag' false = body

pub lines_cons : (l t : List ℕ) → count_of 10 l ≡ 0 → lines_of (l ++ 10 ∷ t) ≡ l ∷ lines_of t
lines_cons l t plain =
    lines_next (l ++ 10 ∷ t) (omega (arith, length-append l (10 ∷ t))) ∙ rw (front_at 10 l t plain, behind_at 10 l t plain)

-- A list that the lister takes.
abbrev pub Listed : List Command → Type 0
Listed [] = Unit {0}
Listed (c ∷ cs) = (Held c × (judge_code c ≡ 0) × CanSay c) × Listed cs

-- "listing and then assembling gives the same bytes".
pub list_back : (cs : List Command) → Listed cs → commands_in (lines_of (list_text cs)) ≡ cs
unfolding list_text commands_in lines_of
list_back [] listed = refl
list_back (c ∷ cs) listed =
    let here = lines_cons (line_text c) (list_text cs) (one_line c listed.0.2) in
    let read = line_back c listed.0.0 listed.0.1 listed.0.2 in
    ap commands_in here ∙ ap (λ (a : Answer). a.taken ++ commands_in (lines_of (list_text cs))) read ∙ ap (λ l. c ∷ l) (list_back cs listed.1)

pub list_fine : (n : ℕ) (cs : List Command) → Listed cs → first_found (line_findings n (lines_of (list_text cs))) ≡ nothing
unfolding list_text first_found line_findings lines_of
list_fine n [] listed = refl
list_fine n (c ∷ cs) listed =
    let here = lines_cons (line_text c) (list_text cs) (one_line c listed.0.2) in
    let read = line_back c listed.0.0 listed.0.1 listed.0.2 in
    ap (λ ls. first_found (line_findings n ls)) here
    ∙ ap (λ (a : Answer). first_found (finding a.told n ∷ line_findings (suc n) (lines_of (list_text cs)))) read
    ∙ list_fine (suc n) cs listed.1

pub bytes_back : (cs : List Command) → Listed cs → bytes_in (list_text cs) ≡ list_bytes cs
bytes_back cs listed = ap list_bytes (list_back cs listed)
