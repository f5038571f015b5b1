-- Words and the kinds that they say: three words that say a flag-1 command are its own words, so the entries of a sound store have the words of their
-- kinds, and the words of a group say the kinds that were handed over.
use Prim.Native.Nat.{ℕ, zero, suc, ◌+◌, ◌*◌, ◌-◌, ◌/◌, ◌%◌, ◌≤◌, ◌<◌}
use mathlib.Core.Path.{◌≡◌, refl, sym, ap, ◌∙◌}
use mathlib.Core.List.{List, [], ◌∷◌, ◌++◌, map}
use mathlib.Core.Bool.{Bool, true, false, cond, ◌&&◌, ◌||◌, true≢false}
use native.Mathlib.Omega.{arith}
use lib.ListN.{length, get_or, take, drop, replicate}
use lib.Seq.{get_or-take, get_or-drop}
use lib.Dec.{leb, ltb, eqb}
use borrow.Author.Tests.{ltb-true, ltb-false, leb-true, eqb-true}
use Rattle.words.proofs.Tests.{both}
use Rattle.wire.specs.declared.table.Form.{Form}
use Rattle.std.specs.Prelude.{Option, Some, None}
use Rattle.wire.specs.declared.kinds.Kind.{Kind}
use Rattle.wire.specs.declared.kinds.Command.{Command}
use Rattle.wire.specs.declared.kinds.Parts.{Parts}
use Rattle.wire.specs.Table.{row_of, rule_of}
use Rattle.wire.specs.Kind.{kind_of}
use Rattle.wire.specs.Judge.{first_bad}
use Rattle.wire.proofs.Layouts.{found_form}
use Rattle.wire.proofs.Ranges.{in_range_parts}
use Rattle.store.specs.declared.Store.{Store}
use Rattle.store.specs.Words.{bit, head_of, words_of, no_command, command_for, command_of, commands_in}
use Rattle.store.specs.Pool.{count_of, is_closed, size_of, start_of, used_in, between, entries_of}
use Rattle.store.specs.WrittenOut.{most_in, written_out}
use Rattle.store.specs.Effects.{group_words, shown_as, group_of, kind_at, kinds_in}
use Rattle.store.specs.GroupSteps.{Clear}
use Rattle.store.specs.Sound.{all_below, all_of, entry_holds, entries_hold, closed_holds, macro_holds, pool_holds, running_holds, store_sound}
use Rattle.store.proofs.Entries.{stored_as, commands_at}
use Rattle.store.proofs.Kept.{entries_length}

-- A kind whose words, with flag 1, say it again.
abbrev pub Said : Kind → Type 0
Said kind = stored_as (record { flag = true; kind = kind }) ≡ record { flag = true; kind = kind }

-- Three words that say a flag-1 command have an opcode of the table, the flag and arguments in range: they are that command's words.
canonical_for : (found : Option (Form × ℕ)) (flag : Bool) (head first second : ℕ) → rule_of (head / 2) ≡ found → eqb (head % 2) 1 ≡ flag
    → (command_for found flag first second).flag ≡ true → words_of (command_for found flag first second) ≡ head ∷ first ∷ second ∷ []
canonical_for None flag head first second is bit_is on = absurd (true≢false (sym on))
canonical_for (Some (form, n)) flag head first second is bit_is on = go (eqb (first_bad (row_of form) first second) 0) refl on
  where
    whole : (opcode : ℕ) (b : Bool) → head / 2 ≡ opcode → eqb (head % 2) 1 ≡ b → b ≡ true → opcode * 2 + bit b ≡ head
    whole opcode true half odd on = let rest = eqb-true (head % 2) 1 odd in omega arith
    whole opcode false half odd on = absurd (true≢false (sym on))

    go : (inside : Bool) → eqb (first_bad (row_of form) first second) 0 ≡ inside
        → (cond inside (record { flag = flag; kind = kind_of form first second }) no_command).flag ≡ true
        → words_of (cond inside (record { flag = flag; kind = kind_of form first second }) no_command) ≡ head ∷ first ∷ second ∷ []
    go true inside on =
        ap (λ (parts : Parts). head_of parts.form flag ∷ parts.first ∷ parts.second ∷ [])
        (in_range_parts form first second (eqb-true (first_bad (row_of form) first second) 0 inside))
        ∙ ap (λ h. h ∷ first ∷ second ∷ []) (whole (row_of form).opcode flag (found_form (head / 2) form n is).0 bit_is on)
    go false inside on = absurd (true≢false (sym on))

pub canonical : (a b c : ℕ) → (command_of a b c).flag ≡ true → words_of (command_of a b c) ≡ a ∷ b ∷ c ∷ []
canonical a b c on = canonical_for (rule_of (a / 2)) (eqb (a % 2) 1) a b c refl refl on

-- So the kind that they say is said again by its words.
flagged : (c : Command) → c.flag ≡ true → c ≡ record { flag = true; kind = c.kind }
flagged c on = ap (λ b. record { flag = b; kind = c.kind }) on

pub canonical_said : (a b c : ℕ) → (command_of a b c).flag ≡ true → Said (command_of a b c).kind
canonical_said a b c on =
    let whole = flagged (command_of a b c) on in
    ap stored_as (sym whole)
    ∙ ap (λ ws. command_of (get_or ws 0 0) (get_or ws 1 0) (get_or ws 2 0)) (canonical a b c on)
    ∙ whole

-- A test that each entry of a list passes, at a place of it.
all_at : (test : Command → Bool) (es : List Command) (i : ℕ) (d : Command) → all_of test es ≡ true → i < length es → test (get_or es i d) ≡ true
unfolding all_of
all_at test [] i d all inside = absurd (omega arith)
all_at test (e ∷ es) zero d all inside = (both (test e) (all_of test es) all).0
all_at test (e ∷ es) (suc i) d all inside = all_at test es i d (both (test e) (all_of test es) all).1 (omega arith)

-- In a sound store each entry in use lies in a macro that is closed or open, so its flag is 1.
module _ (s : Store) (whole : length s.pool ≡ 576) (fits : used_in s ≤ 192) where
  abbrev start : ℕ → ℕ
  start m = start_of s.counts s.closed s.opened m

  abbrev size : ℕ → ℕ
  size m = size_of s.counts s.closed s.opened m

  abbrev entry_at : ℕ → Command
  entry_at i = get_or (commands_in s.pool) i no_command

  closed_judged : (m : ℕ) → closed_holds s m ≡ true → entries_hold s m ≡ true
  closed_judged m holds =
      let l = length (written_out s m) in
      (both (leb 1 (count_of s m) && leb 1 l && leb l 600 && leb (most_in (written_out s m)) 64) (entries_hold s m) holds).1

  entries_judged : (m : ℕ) → macro_holds s m ≡ true → 1 ≤ size m → entries_hold s m ≡ true
  unfolding size_of
  entries_judged m holds some = go (is_closed s m) (eqb s.opened m) holds some
    where
      go : (closed opened : Bool) → cond closed (closed_holds s m) (cond opened (entries_hold s m) true) ≡ true
          → 1 ≤ cond (closed || opened) (get_or s.counts m 0) 0 → entries_hold s m ≡ true
      go true opened holds some = closed_judged m holds
      go false true holds some = holds
      go false false holds some = absurd (omega arith)

  flag_of : (m : ℕ) (e : Command) → entry_holds s.closed m e ≡ true → e.flag ≡ true
  flag_of m e holds = (both e.flag _ (both _ _ (both _ _ holds).0).0).0

  flags_in : (m i : ℕ) → m < 8 → macro_holds s m ≡ true → start m ≤ i → i < start m + size m → (entry_at i).flag ≡ true
  unfolding entries_of between
  flags_in m i number holds low high =
      let j : ℕ = i - start m in
      let place : start m + j ≡ i = omega arith in
      let judged = entries_judged m holds (omega arith) in
      let read : get_or (entries_of s m) j no_command ≡ entry_at i =
      get_or-take (size m) (drop (start m) (commands_in s.pool)) j no_command (omega arith)
      ∙ get_or-drop (start m) (commands_in s.pool) j no_command
      ∙ ap entry_at place in
      ap (λ (e : Command). e.flag) (sym read)
      ∙ flag_of m (get_or (entries_of s m) j no_command)
      (all_at (entry_holds s.closed m) (entries_of s m) j no_command judged (omega (arith, entries_length s m whole fits number)))

  flags_below : (m i : ℕ) → m ≤ 8 → all_below m (macro_holds s) ≡ true → i < start m → (entry_at i).flag ≡ true
  unfolding all_below start_of
  flags_below zero i number all below = absurd (omega arith)
  flags_below (suc m) i number all below = go (ltb i (start m)) refl (flags_below m i (omega arith) tests.0)
    where
      tests : (all_below m (macro_holds s) ≡ true) × (macro_holds s m ≡ true)
      tests = both (all_below m (macro_holds s)) (macro_holds s m) all

      go : (b : Bool) → ltb i (start m) ≡ b → (i < start m → (entry_at i).flag ≡ true) → (entry_at i).flag ≡ true
      go true e rest = rest (ltb-true i (start m) e)
      go false e rest = flags_in m i (omega arith) tests.1 (ltb-false i (start m) e) (omega arith)

-- So it has the words of its kind.
pub sound_clear : (s : Store) → length s.pool ≡ 576 → store_sound s ≡ true → Clear s
unfolding store_sound
sound_clear s whole sound i used =
    let tests = both (pool_holds s) (all_below 8 (macro_holds s)) (both (pool_holds s && all_below 8 (macro_holds s)) (running_holds s) sound).0 in
    let fits : used_in s ≤ 192 = leb-true (used_in s) 192 tests.0 in
    let e : Command = get_or (commands_in s.pool) i no_command in
    let flag : e.flag ≡ true = flags_below s whole fits 8 i (omega arith) tests.1 used in
    let read = commands_at s.pool i (omega arith) in
    sym (canonical _ _ _ (ap (λ (c : Command). c.flag) read ∙ flag)) ∙ ap words_of (read ∙ flagged e flag)

-- Kinds all of which are said again by their words: the words of a group that hands them over say them.
abbrev pub EachSaid : List Kind → Type 0
EachSaid [] = Unit
EachSaid (kind ∷ kinds) = Said kind × EachSaid kinds

kinds_said : (ks : List Kind) (rest : List ℕ) → EachSaid ks
    → map (λ (c : Command). c.kind) (take (length ks) (commands_in (group_words ks ++ rest))) ≡ ks
unfolding commands_in group_words
kinds_said [] rest said = refl
kinds_said (kind ∷ ks) rest said =
    ap (λ (c : Command). c.kind ∷ map (λ (d : Command). d.kind) (take (length ks) (commands_in (group_words ks ++ rest)))) said.0
    ∙ ap (λ l. kind ∷ l) (kinds_said ks rest said.1)

pub kinds_in_lem : (ks : List Kind) → EachSaid ks → kinds_in (group_of ks) ≡ ks
kinds_in_lem ks said = kinds_said ks (replicate (192 - length ks * 3) 0) said

-- Place by place too.
kind_said : (ks : List Kind) (rest : List ℕ) (i : ℕ) (d : Kind) → EachSaid ks → i < length ks → kind_at (group_words ks ++ rest) i ≡ get_or ks i d
unfolding commands_in group_words
kind_said [] rest i d said inside = absurd (omega arith)
kind_said (kind ∷ ks) rest zero d said inside = ap (λ (c : Command). c.kind) said.0
kind_said (kind ∷ ks) rest (suc i) d said inside = kind_said ks rest i d said.1 (omega arith)

pub kind_in : (ks : List Kind) (i : ℕ) (d : Kind) → EachSaid ks → i < length ks → kind_at (shown_as ks) i ≡ get_or ks i d
kind_in ks i d said inside = kind_said ks (replicate (192 - length ks * 3) 0) i d said inside
