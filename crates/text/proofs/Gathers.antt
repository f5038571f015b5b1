-- The assembler's one pass: what a line adds, a turn of the loop, and the ends of the loop and of the assembler.
use Prim.Native.Nat.{ℕ, suc, ◌+◌, ◌*◌, ◌-◌, ◌≤◌, ◌<◌}
use mathlib.Core.Path.{◌≡◌, refl, sym, ap, subst, ◌∙◌}
use mathlib.Core.List.{List, [], ◌∷◌, ◌++◌, append_assoc, append-nil}
use mathlib.Core.Bool.{Bool, true, false, cond, not}
use native.Mathlib.Omega.{arith}
use native.Mathlib.Numerals.{add-one}
use lib.ListN.{length, take, drop, length-append}
use lib.Seq.{sets, length-sets, length-take-le}
use lib.Dec.{eqb, leb, ltb}
use borrow.Author.Tests.{le-ltb, lt-ltb, ltb-false, eq-eqb}
use borrow.Rule.Slice.PartMut.{put_mid}
use Rattle.words.specs.BigEndian.{has_room, written}
use Rattle.words.specs.Text.{stored_at}
use Rattle.words.specs.Codes.{◌when◌}
use Rattle.words.proofs.Stores.{stored_fits, no_store, part_stored, front_more}
use Rattle.wire.specs.declared.kinds.Command.{Command}
use Rattle.wire.specs.declared.judging.Told.{Told}
use Rattle.wire.specs.Judge.{judge_code}
use Rattle.wire.specs.Read.{Answer}
use Rattle.wire.specs.Write.{command_bytes, list_bytes, room_after as command_room}
use Rattle.wire.proofs.Writes.{allowed}
use Rattle.text.specs.declared.findings.Fault.{Fault}
use Rattle.text.specs.declared.findings.Finding.{Finding}
use Rattle.text.specs.Split.{lines_of}
use Rattle.text.specs.Line.{line_of, answer_line}
use Rattle.text.specs.Findings.{no_room, finding, nothing, whole, first_found, told_fault, Outcome, translated_of}
use Rattle.text.specs.Assemble.{commands_in, bytes_in, line_findings, bad_line, text_findings, judged_text, assembled_as, room_after}
use Rattle.text.specs.Steps.{Part, part_of, part_for, Gathered}
use Rattle.text.proofs.Allowed.{line_fine, listed_one}
use Rattle.text.proofs.Splitting.{lines_few}
use Rattle.text.proofs.Found.{refused_code, fault_code, found_append, Silent, found_silent, whole_silent}
use Rattle.std.specs.Prelude.{Some, None, Result, Ok, Err}
use Rattle.text.specs.declared.findings.Refusal.{Refusal}

-- The bytes of commands and of more behind them.
pub listed_append : (xs ys : List Command) → list_bytes (xs ++ ys) ≡ list_bytes xs ++ list_bytes ys
unfolding list_bytes
listed_append [] ys = refl
listed_append (x ∷ xs) ys = ap (λ l. command_bytes x ++ l) (listed_append xs ys) ∙ sym (append_assoc (command_bytes x) (list_bytes xs) (list_bytes ys))

-- The bytes of a line and of those behind it.
pub bytes_next : (line : List ℕ) (ls : List (List ℕ)) → list_bytes (commands_in (line ∷ ls)) ≡ list_bytes (line_of line).taken ++ list_bytes (commands_in ls)
unfolding commands_in
bytes_next line ls = listed_append (line_of line).taken (commands_in ls)

pub no_bytes : bytes_in [] ≡ []
unfolding lines_of commands_in list_bytes
no_bytes = refl

-- What a line adds, from what was made of it.
abbrev adds : Answer → Part
adds a = record { told = a.told; bytes = length (list_bytes a.taken) }

pub adds_none : (s : List ℕ) → answer_line (Ok None) ≡ line_of s → part_of (Ok 0) ≡ part_for s
unfolding list_bytes
adds_none s e = ap adds e

pub adds_one : (s : List ℕ) (c : Command) (n : ℕ) → n ≡ length (command_bytes c) → answer_line (Ok (Some c)) ≡ line_of s → part_of (Ok n) ≡ part_for s
adds_one s c n long e = rw (long, ← listed_one c) (ap adds e)

pub adds_fault : (s : List ℕ) (f : Fault) → answer_line (Err f) ≡ line_of s → part_of (Err f) ≡ part_for s
unfolding list_bytes
adds_fault s f e = ap adds e

-- No bytes change nothing, and whatever is stored, the length stays.
stored_none : (at : ℕ) (room : List ℕ) → room ≡ stored_at [] at room
stored_none at room = go (leb (at + 0) (length room))
  where
    go : (b : Bool) → room ≡ cond b room room
    go true = refl
    go false = refl

stored_length : (xs : List ℕ) (at : ℕ) (room : List ℕ) → length (stored_at xs at room) ≡ length room
stored_length xs at room = go (leb (at + length xs) (length room))
  where
    go : (b : Bool) → length (cond b (sets room at xs) room) ≡ length room
    go true = length-sets room at xs
    go false = refl

-- What a line leaves in the buffer.
module _ (s : List ℕ) (at : ℕ) (room : List ℕ) where
  pub leaves_none : [] ≡ (line_of s).taken → room ≡ stored_at (list_bytes (line_of s).taken) at room
  unfolding list_bytes
  leaves_none e = rw (← e) (stored_none at room)

  pub leaves_past : length room < at → room ≡ stored_at (list_bytes (line_of s).taken) at room
  leaves_past h = (no_store (list_bytes (line_of s).taken) at room (omega arith)).1

  pub leaves_one : (c : Command) (part : List ℕ) → answer_line (Ok (Some c)) ≡ line_of s → at ≤ length room
      → part ≡ command_room c (take (length room - at) (drop at room))
      → put_mid at (length room - at) room part ≡ stored_at (list_bytes (line_of s).taken) at room
  leaves_one c part e within put =
      let taken : c ∷ [] ≡ (line_of s).taken = ap (λ (a : Answer). a.taken) e in
      let fine : judge_code c ≡ 0 = (rw (← taken) at (line_fine s)).allowed.0.1 in
      rw (← taken, listed_one c)
      (part_stored at (command_bytes c) room within part (put ∙ sym (allowed c (take (length room - at) (drop at room)) (sym fine)).1))

-- The judgement on a text, from what is known at each of its ends.
module _ (text : List ℕ) where
  pub text_long : 32768 < length text → translated_of (Err Refusal.TooLong) ≡ judged_text text
  unfolding judged_text first_found
  text_long h = rw (lt-ltb 32768 (length text) h)

  module _ (short : length text ≤ 32768) where
    pub text_bad : (number : ℕ) (f : Fault) → bad_line text ≡ finding (told_fault f) number → translated_of (Err (Refusal.BadLine number f)) ≡ judged_text text
    unfolding judged_text first_found
    text_bad number f bad = rw (le-ltb 32768 (length text) short, bad, fault_code f, fault_code f)

    module _ (good : bad_line text ≡ nothing) where
      pub list_long : 4096 < length (bytes_in text) → translated_of (Err Refusal.TooLong) ≡ judged_text text
      unfolding judged_text first_found
      list_long h = rw (le-ltb 32768 (length text) short, good, lt-ltb 4096 (length (bytes_in text)) h)

      pub text_fine : length (bytes_in text) ≤ 4096 → translated_of (Ok (length (bytes_in text))) ≡ judged_text text
      unfolding judged_text first_found
      text_fine h = rw (le-ltb 32768 (length text) short, good, le-ltb 4096 (length (bytes_in text)) h)

-- Lines give 16 bytes each, at most.
lines_short : (ls : List (List ℕ)) → length (list_bytes (commands_in ls)) ≤ 16 * length ls
unfolding list_bytes commands_in
lines_short [] = omega arith
lines_short (l ∷ ls) =
    omega (
      arith,
      ap length (bytes_next l ls) ∙ length-append (list_bytes (line_of l).taken) (list_bytes (commands_in ls)),
      (line_fine l).short,
      lines_short ls,
    )

-- So many lines were judged, and none was bad; their bytes stand at the front of the buffer where they have room there. What is left gives what is left.
pub record Gathering (text buffer₀ buffer : List ℕ) (ls : List (List ℕ)) (number bytes : ℕ) : Type 0 where
  pub few : number + length ls ≤ length text
  pub bad : first_found (line_findings (number + 1) ls) ≡ bad_line text
  pub sum : bytes + length (list_bytes (commands_in ls)) ≡ length (bytes_in text)
  pub same : length buffer ≡ length buffer₀
  pub front : bytes ≤ length buffer → take bytes buffer ++ list_bytes (commands_in ls) ≡ bytes_in text

pub gathering_none : (text buffer left : List ℕ) → left ≡ text → Gathering text buffer buffer (lines_of left) 0 0
gathering_none text buffer left is =
    rw is (record {
      few = omega (arith, lines_few text);
      bad = refl;
      sum = omega arith;
      same = refl;
      front = λ h. refl;
    })

-- A judgement that is no list leaves nothing to say of the buffer.
no_list : (text buffer : List ℕ) (j : Result ℕ Refusal) → translated_of j ≡ judged_text text → eqb (translated_of j).found.told.code 0 ≡ false → Gathered text buffer j
no_list text buffer j is refused =
    record {
      is = is;
      front = λ code h. absurd (let z : ◌≡◌ {A = Bool} true false = sym (eq-eqb _ 0 code) ∙ refused in let w : ◌≡◌ {A = ℕ} 0 1 = cc in omega arith);
    }

pub gathered_long : (text buffer : List ℕ) → 32768 < length text → Gathered text buffer (Err Refusal.TooLong)
gathered_long text buffer h = no_list text buffer (Err Refusal.TooLong) (text_long text h) refl

module _ (text buffer₀ buffer : List ℕ) (ls : List (List ℕ)) (number bytes : ℕ) (gathering : Gathering text buffer₀ buffer ls number bytes) where
  module _ (line : List ℕ) (later : List (List ℕ)) (next : ls ≡ line ∷ later)
      (buffer' : List ℕ) (stored : buffer' ≡ stored_at (list_bytes (line_of line).taken) bytes buffer) where
    abbrev here : List ℕ
    here = list_bytes (line_of line).taken

    pub kept : length buffer' ≡ length buffer₀
    kept = ap length stored ∙ stored_length here bytes buffer ∙ gathering.same

    bad_here : bad_line text
        ≡ cond (eqb (line_of line).told.code 0) (first_found (line_findings (suc (number + 1)) later)) (finding (line_of line).told (number + 1))
    unfolding first_found line_findings
    bad_here = sym gathering.bad ∙ ap (λ l. first_found (line_findings (number + 1) l)) next

    bytes_here : list_bytes (commands_in ls) ≡ here ++ list_bytes (commands_in later)
    bytes_here = ap (λ l. list_bytes (commands_in l)) next ∙ bytes_next line later

    pub turn_bad : length text ≤ 32768 → (f : Fault) → part_of (Err f) ≡ part_for line → Gathered text buffer' (Err (Refusal.BadLine (number + 1) f))
    turn_bad short f e =
        let told : told_fault f ≡ (line_of line).told = ap (λ (p : Part). p.told) e in
        let late : eqb (line_of line).told.code 0 ≡ false = rw (ap (λ (t : Told). t.code) told) at (fault_code f) in
        let first : bad_line text ≡ finding (told_fault f) (number + 1) = bad_here ∙ rw (late, told) in
        no_list text buffer' (Err (Refusal.BadLine (number + 1) f)) (text_bad text short (number + 1) f first) (fault_code f)

    -- What a line adds is counted: the bytes of a text that is not too long are few.
    pub turn_few : length text ≤ 32768 → (n : ℕ) → part_of (Ok n) ≡ part_for line → bytes + n ≤ 16 * 32768
    turn_few short n e =
        omega (
          arith,
          ap (λ (p : Part). p.bytes) e,
          ap length bytes_here ∙ length-append here (list_bytes (commands_in later)),
          gathering.sum,
          lines_short (lines_of text),
          lines_few text,
        )

    pub turn_gives : (n : ℕ) → part_of (Ok n) ≡ part_for line → Gathering text buffer₀ buffer' later (number + 1) (bytes + n)
    turn_gives n e =
        let code : (line_of line).told.code ≡ 0 = sym (ap (λ (p : Part). p.told.code) e) in
        let long : n ≡ length here = ap (λ (p : Part). p.bytes) e in
        let rest : length (list_bytes (commands_in ls)) ≡ length here + length (list_bytes (commands_in later)) =
        ap length bytes_here ∙ length-append here (list_bytes (commands_in later)) in
        record {
          few = omega (arith, gathering.few, ap length next);
          bad = sym (bad_here ∙ rw (eq-eqb _ 0 code, ← add-one (number + 1)));
          sum = omega (arith, gathering.sum);
          same = kept;
          front = λ h.
              let fits : bytes + length here ≤ length buffer = omega (arith, long, kept, gathering.same) in
              let now : buffer' ≡ sets buffer bytes here = stored ∙ stored_fits here bytes buffer fits in
              rw (now, long, front_more buffer bytes here fits, append_assoc, ← bytes_here) (gathering.front (omega arith));
        }

  -- No line is left.
  module _ (end : ls ≡ []) (short : length text ≤ 32768) where
    good : bad_line text ≡ nothing
    unfolding first_found line_findings
    good = sym gathering.bad ∙ ap (λ l. first_found (line_findings (number + 1) l)) end

    none : list_bytes (commands_in ls) ≡ []
    unfolding commands_in list_bytes
    none = ap (λ l. list_bytes (commands_in l)) end

    all : bytes ≡ length (bytes_in text)
    all = omega (arith, gathering.sum, ap length none)

    pub ends_long : 4096 < bytes → Gathered text buffer (Err Refusal.TooLong)
    ends_long h = no_list text buffer (Err Refusal.TooLong) (list_long text short good (omega (arith, all))) refl

    pub ends_fine : bytes ≤ 4096 → Gathered text buffer (Ok bytes)
    ends_fine h =
        record {
          is = ap (λ n. translated_of (Ok n)) all ∙ text_fine text short good (omega (arith, all));
          front = λ code fits. sym (append-nil (take bytes buffer)) ∙ ap (λ l. take bytes buffer ++ l) (sym none) ∙ gathering.front fits;
        }

-- A list that was judged fine is not too long.
pub fine_short : (text : List ℕ) (bytes : ℕ) → translated_of (Ok bytes) ≡ judged_text text → bytes ≤ 4096
unfolding judged_text
fine_short text bytes is =
    let found : first_found (text_findings text) ≡ nothing = sym (ap (λ (p : Outcome). p.found) is) in
    let silent : Silent (text_findings text) = found_silent (text_findings text) (ap (λ (f : Finding). f.told.code) found) in
    let short : length (bytes_in text) ≤ 4096 =
    ltb-false 4096 (length (bytes_in text)) (whole_silent 20 (ltb 4096 (length (bytes_in text))) (λ e. omega arith) silent.1.1.0) in
    let all : bytes ≡ length (bytes_in text) = ap (λ (p : Outcome). p.bytes) is ∙ rw found in
    omega arith

-- The assembler's ends: a judgement that refuses is its answer; a list that has room is copied, and one that has none is not.
module _ (text room : List ℕ) where
  abbrev Ends : Result ℕ Refusal → List ℕ → Type 0
  Ends t after = (translated_of t ≡ assembled_as text room) × (after ≡ room_after text room)

  refused_as : (o : Outcome) → o ≡ judged_text text → eqb o.found.told.code 0 ≡ false → (o ≡ assembled_as text room) × (room ≡ room_after text room)
  unfolding judged_text assembled_as room_after
  refused_as o is refused =
      let found : o.found ≡ first_found (text_findings text) = ap (λ (p : Outcome). p.found) is in
      let late : eqb (first_found (text_findings text)).told.code 0 ≡ false = rw found at refused in
      let same : first_found (text_findings text ++ (whole (24 when not (has_room (bytes_in text) room)) ∷ [])) ≡ first_found (text_findings text) =
      found_append (text_findings text) (whole (24 when not (has_room (bytes_in text) room)) ∷ []) ∙ rw late in
      rw (same, late) (is ∙ rw late, refl)

  pub as_refused : (r : Refusal) → translated_of (Err r) ≡ judged_text text → Ends (Err r) room
  as_refused r is = go r is (refused_code r)
    where
      go : (r : Refusal) → translated_of (Err r) ≡ judged_text text → eqb (translated_of (Err r)).found.told.code 0 ≡ false → Ends (Err r) room
      go r is late = refused_as (translated_of (Err r)) is late

  module _ (bytes : ℕ) (is : translated_of (Ok bytes) ≡ judged_text text) where
    silent : first_found (text_findings text) ≡ nothing
    unfolding judged_text
    silent = sym (ap (λ (p : Outcome). p.found) is)

    pub all_bytes : bytes ≡ length (bytes_in text)
    unfolding judged_text
    all_bytes = ap (λ (p : Outcome). p.bytes) is ∙ rw silent

    last : first_found (text_findings text ++ (whole (24 when not (has_room (bytes_in text) room)) ∷ []))
        ≡ first_found (whole (24 when not (has_room (bytes_in text) room)) ∷ [])
    last = found_append (text_findings text) (whole (24 when not (has_room (bytes_in text) room)) ∷ []) ∙ rw silent

    pub as_done : (after : List ℕ) → has_room (bytes_in text) room ≡ true → after ≡ written (bytes_in text) room → Ends (Ok bytes) after
    unfolding assembled_as room_after first_found
    as_done after has put = rw (last, has, all_bytes) (refl, put ∙ rw has)

    pub as_full : has_room (bytes_in text) room ≡ false → Ends no_room room
    unfolding assembled_as room_after first_found
    as_full full = rw (last, full) (refl, refl)

-- The list, copied from the front of a buffer that is as long as a list may be.
module _ (text room buffer : List ℕ) (judgement : Result ℕ Refusal) (gathered : Gathered text buffer judgement) (long : 4096 ≡ length buffer)
    (bytes : ℕ) (fine : judgement ≡ Ok bytes) where
  pub judged_fine : Gathered text buffer (Ok bytes)
  judged_fine = subst (λ j. Gathered text buffer j) fine gathered

  pub list_fits : bytes ≤ length buffer
  list_fits = omega (arith, fine_short text bytes judged_fine.is)

  pub part_long : bytes ≡ length (take bytes buffer)
  part_long = sym (length-take-le bytes buffer list_fits)

  part_is : take bytes buffer ≡ bytes_in text
  part_is = judged_fine.front refl list_fits

  pub copied : {has : Bool} {after : List ℕ} → has ≡ has_room (take bytes buffer) room → after ≡ written (take bytes buffer) room → has ≡ true
      → Ends text room (Ok bytes) after
  copied says put room_there = as_done text room bytes judged_fine.is _ (rw part_is at (sym says ∙ room_there)) (put ∙ ap (λ l. written l room) part_is)

  pub not_copied : {has : Bool} {after : List ℕ} → has ≡ has_room (take bytes buffer) room → after ≡ written (take bytes buffer) room → has ≡ false
      → Ends text room no_room after
  not_copied {has} {after} says put none =
      let full : has_room (bytes_in text) room ≡ false = rw part_is at (sym says ∙ none) in
      let same : after ≡ room = put ∙ ap (λ l. written l room) part_is ∙ rw full in
      rw same (as_full text room bytes judged_fine.is full)
