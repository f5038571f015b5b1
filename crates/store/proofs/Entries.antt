-- What the words of the pool say: an entry put in among the words is put in among the commands, and an allowed command comes back from its words.
use Prim.Native.Nat.{ℕ, zero, suc, ◌+◌, ◌*◌, ◌-◌, ◌/◌, ◌%◌, ◌≤◌}
use mathlib.Core.Path.{◌≡◌, refl, ap, ◌∙◌}
use mathlib.Core.List.{List, [], ◌∷◌, ◌++◌}
use mathlib.Core.Bool.{Bool, true, false, cond}
use native.Mathlib.Nat.{mod-eq_of_lt}
use native.Mathlib.Omega.{arith}
use lib.ListN.{length, get_or, take, drop, length-drop}
use lib.Seq.{length-take-le}
use lib.Dec.{eqb}
use borrow.Author.Tests.{eqb-true, not-false}
use Rattle.wire.specs.declared.table.Form.{Form}
use Rattle.std.specs.Prelude.{Some}
use Rattle.wire.specs.declared.kinds.Kind.{Kind}
use Rattle.wire.specs.declared.kinds.Command.{Command}
use Rattle.wire.specs.declared.kinds.Parts.{Parts}
use Rattle.wire.specs.Table.{row_of, rule_of}
use Rattle.wire.specs.Kind.{parts_of, kind_of}
use Rattle.wire.specs.Judge.{bad_in, judge_code}
use Rattle.wire.proofs.Order.{judge_order}
use Rattle.wire.proofs.Layouts.{form_found, Within}
use Rattle.wire.proofs.Ranges.{in_range, in_range_judge}
use Rattle.wire.proofs.RoundTrip.{Held, held_made}
use Rattle.store.specs.declared.roles.Role.{Role}
use Rattle.store.specs.Roles.{role_of}
use Rattle.store.specs.Words.{bit, head_of, words_of, no_command, command_for, command_of, commands_in, inserted}
use Rattle.store.proofs.Moves.{insert_at}

-- What the words of a command say.
abbrev pub stored_as : Command → Command
stored_as c = command_of (head_of (parts_of c.kind).form c.flag) (parts_of c.kind).first (parts_of c.kind).second

-- Three words are an entry, so a part of the words at multiples of 3 says a part of the commands.
three_more : (n : ℕ) → suc n * 3 ≡ suc (suc (suc (n * 3)))
three_more n = omega arith

commands_drop : (n : ℕ) (ws : List ℕ) → commands_in (drop (n * 3) ws) ≡ drop n (commands_in ws)
unfolding commands_in
commands_drop zero ws = refl
commands_drop (suc n) [] = rw three_more
commands_drop (suc n) (a ∷ []) = rw three_more
commands_drop (suc n) (a ∷ b ∷ []) = rw three_more
commands_drop (suc n) (a ∷ b ∷ c ∷ ws) = rw three_more (commands_drop n ws)

commands_take : (n : ℕ) (ws : List ℕ) → commands_in (take (n * 3) ws) ≡ take n (commands_in ws)
unfolding commands_in
commands_take zero ws = refl
commands_take (suc n) [] = rw three_more
commands_take (suc n) (a ∷ []) = rw three_more
commands_take (suc n) (a ∷ b ∷ []) = rw three_more
commands_take (suc n) (a ∷ b ∷ c ∷ ws) = rw three_more (ap (λ es. command_of a b c ∷ es) (commands_take n ws))

commands_append : (n : ℕ) (xs ys : List ℕ) → length xs ≡ n * 3 → commands_in (xs ++ ys) ≡ commands_in xs ++ commands_in ys
unfolding commands_in
commands_append n [] ys e = refl
commands_append n (a ∷ []) ys e = absurd (omega arith)
commands_append n (a ∷ b ∷ []) ys e = absurd (omega arith)
commands_append zero (a ∷ b ∷ c ∷ xs) ys e = absurd (omega arith)
commands_append (suc n) (a ∷ b ∷ c ∷ xs) ys e = ap (λ es. command_of a b c ∷ es) (commands_append n xs ys (omega arith))

pub length_commands : (n : ℕ) (ws : List ℕ) → length ws ≡ n * 3 → length (commands_in ws) ≡ n
unfolding commands_in
length_commands zero [] e = refl
length_commands (suc n) [] e = absurd (omega arith)
length_commands n (a ∷ []) e = absurd (omega arith)
length_commands n (a ∷ b ∷ []) e = absurd (omega arith)
length_commands zero (a ∷ b ∷ c ∷ ws) e = absurd (omega arith)
length_commands (suc n) (a ∷ b ∷ c ∷ ws) e = ap suc (length_commands n ws (omega arith))

-- An entry put in among the words is put in among the entries.
pub commands_inserted : (ws : List ℕ) (at top : ℕ) (c : Command) → at ≤ top → top * 3 + 3 ≤ length ws
    → commands_in (inserted ws (at * 3) (top * 3) c) ≡ insert_at (commands_in ws) at top (stored_as c)
unfolding inserted commands_in
commands_inserted ws at top c h fits =
    let moved : List ℕ = take (top * 3 - at * 3) (drop (at * 3) ws) in
    let rest : List ℕ = moved ++ drop (top * 3 + 3) ws in
    let size : top * 3 - at * 3 ≡ (top - at) * 3 = omega arith in
    let high : top * 3 + 3 ≡ (top + 1) * 3 = omega arith in
    let low : commands_in (take (at * 3) ws) ≡ take at (commands_in ws) = commands_take at ws in
    let mid : commands_in moved ≡ take (top - at) (drop at (commands_in ws)) =
    ap (λ n. commands_in (take n (drop (at * 3) ws))) size
    ∙ commands_take (top - at) (drop (at * 3) ws)
    ∙ ap (take (top - at)) (commands_drop at ws) in
    let last : commands_in (drop (top * 3 + 3) ws) ≡ drop (top + 1) (commands_in ws) =
    ap (λ n. commands_in (drop n ws)) high ∙ commands_drop (top + 1) ws in
    let long : length moved ≡ (top - at) * 3 = length-take-le (top * 3 - at * 3) (drop (at * 3) ws) (rw length-drop (omega arith)) ∙ size in
    let behind : commands_in rest ≡ take (top - at) (drop at (commands_in ws)) ++ drop (top + 1) (commands_in ws) =
    commands_append (top - at) moved (drop (top * 3 + 3) ws) long ∙ rw (mid, last) in
    commands_append at (take (at * 3) ws) (words_of c ++ rest) (length-take-le (at * 3) ws (omega arith))
    ∙ ap (λ l. l ++ (stored_as c ∷ commands_in rest)) low
    ∙ ap (λ l. take at (commands_in ws) ++ (stored_as c ∷ l)) behind

-- Entry i is read off three words.
pub commands_at : (ws : List ℕ) (i : ℕ) → i * 3 + 3 ≤ length ws
    → command_of (get_or ws (i * 3) 0) (get_or ws (i * 3 + 1) 0) (get_or ws (i * 3 + 2) 0) ≡ get_or (commands_in ws) i no_command
unfolding commands_in
commands_at [] i h = absurd (omega arith)
commands_at (a ∷ []) i h = absurd (omega arith)
commands_at (a ∷ b ∷ []) i h = absurd (omega arith)
commands_at (a ∷ b ∷ c ∷ ws) zero h = refl
commands_at (a ∷ b ∷ c ∷ ws) (suc i) h =
    let first : suc i * 3 ≡ suc (suc (suc (i * 3))) = omega arith in
    let second : suc i * 3 + 1 ≡ suc (suc (suc (i * 3 + 1))) = omega arith in
    let third : suc i * 3 + 2 ≡ suc (suc (suc (i * 3 + 2))) = omega arith in
    rw (second, third, first) (commands_at ws i (omega arith))

abbrev command_with : Bool → Kind → Command
command_with flag kind = record { flag = flag; kind = kind }

-- The first word tells the form and the flag.
head_half : (opcode : ℕ) (flag : Bool) → (opcode * 2 + bit flag) / 2 ≡ opcode
head_half opcode false = omega arith
head_half opcode true = omega arith

head_bit : (opcode : ℕ) (flag : Bool) → eqb ((opcode * 2 + bit flag) % 2) 1 ≡ flag
head_bit opcode false = let even : (opcode * 2 + 0) % 2 ≡ 0 = omega arith in ap (λ n. eqb n 1) even
head_bit opcode true = let odd : (opcode * 2 + 1) % 2 ≡ 1 = omega arith in ap (λ n. eqb n 1) odd

head_told : (form : Form) (flag : Bool) (first second : ℕ)
    → command_of (head_of form flag) first second ≡ command_for (Some (form, (row_of form).words)) flag first second
head_told form flag first second =
    ap (λ found. command_for found (eqb (head_of form flag % 2) 1) first second) (ap rule_of (head_half (row_of form).opcode flag) ∙ form_found form)
    ∙ ap (λ b. command_for (Some (form, (row_of form).words)) b first second) (head_bit (row_of form).opcode flag)

-- What the words of an allowed command say has its flag and passes 8 to 10 as it does.
module _ (c : Command) (allowed : judge_code c ≡ 0) where
  abbrev parts : Parts
  parts = parts_of c.kind

  in_limits : bad_in parts ≡ 0
  in_limits = eqb-true (bad_in parts) 0 (not-false (eqb (bad_in parts) 0) ((judge_order c).accepted.0 allowed).0)

  stored_made : stored_as c ≡ command_with c.flag (kind_of parts.form parts.first parts.second)
  stored_made =
      head_told parts.form c.flag parts.first parts.second
      ∙ ap (λ bad. cond (eqb bad 0) (command_with c.flag (kind_of parts.form parts.first parts.second)) no_command) in_limits

  pub stored_flag : (stored_as c).flag ≡ c.flag
  stored_flag = ap (λ (d : Command). d.flag) stored_made

  pub stored_judge : judge_code (stored_as c) ≡ 0
  unfolding judge_code
  stored_judge = ap judge_code stored_made ∙ in_range_judge parts.form c.flag parts.first parts.second in_limits ∙ allowed

  -- A command that a program can hold is what its words say.
  pub stored_same : Held c → stored_as c ≡ c
  stored_same held = stored_made ∙ ap (command_with c.flag) (held_made c.kind held)

-- Its role too: the number of a macro, or of seconds, is within its field.
role_back : (k : Kind) → Within (row_of (parts_of k).form).layout (parts_of k).first (parts_of k).second
    → role_of (kind_of (parts_of k).form (parts_of k).first (parts_of k).second) ≡ role_of k
role_back (Kind.ImgPwr mode) h = refl
role_back (Kind.ImgRegion x y) h = refl
role_back (Kind.ImgTrack time interval) h = refl
role_back (Kind.TrkAlg mode) h = refl
role_back (Kind.TrkLoop mode) h = refl
role_back (Kind.ImgImage time interval) h = refl
role_back (Kind.TrkGoal x y) h = refl
role_back Kind.TlmFlush h = refl
role_back (Kind.FlushAuto mode) h = refl
role_back (Kind.Open number) h = ap Role.Open (mod-eq_of_lt h.0)
role_back Kind.Close h = refl
role_back (Kind.Run number) h = ap Role.Run (mod-eq_of_lt h.0)
role_back (Kind.Wait seconds) h = ap Role.Wait (mod-eq_of_lt h.0)
role_back Kind.Stop h = refl
role_back Kind.Clear h = refl

pub stored_role : (c : Command) → judge_code c ≡ 0 → role_of (stored_as c).kind ≡ role_of c.kind
stored_role c allowed =
    let parts = parts_of c.kind in
    ap (λ (d : Command). role_of d.kind) (stored_made c allowed)
    ∙ role_back c.kind (in_range parts.form parts.first parts.second (in_limits c allowed))
