-- The lister's one pass: what a command comes to, one turn, and the ends.
use Prim.Native.Nat.{ℕ, zero, suc, ◌+◌, ◌*◌, ◌≤◌, ◌<◌}
use mathlib.Core.Path.{◌≡◌, refl, sym, ap, ◌∙◌}
use mathlib.Core.Logic.{◌↔◌}
use mathlib.Core.List.{List, [], ◌∷◌, ◌++◌, map, append_assoc, append-nil}
use mathlib.Core.Bool.{Bool, true, false, cond, not}
use native.Mathlib.Omega.{arith}
use native.Mathlib.Numerals.{add-one}
use lib.ListN.{length, take, drop, length-append, length-drop}
use lib.Seq.{sets, sets-eq, length-sets, take_at, length-take-le}
use lib.Dec.{eqb}
use borrow.Author.Tests.{eq-eqb, eqb-true, eqb-false, lt-ltb, le-ltb}
use Rattle.words.specs.BigEndian.{word_at, has_room, written}
use Rattle.words.specs.Codes.{◌when◌, first_of}
use Rattle.words.proofs.FirstOf.{Coded, first_append}
use Rattle.words.proofs.Front.{Bytes}
use Rattle.wire.specs.declared.table.Form.{Form}
use Rattle.std.specs.Prelude.{Option, Some, None}
use Rattle.wire.specs.declared.kinds.Command.{Command}
use Rattle.wire.specs.declared.judging.Refusal.{Refusal as WireRefusal}
use Rattle.wire.specs.declared.judging.Told.{Told}
use Rattle.std.specs.Prelude.{Result, Ok, Err}
use Rattle.wire.specs.Table.{rule_of}
use Rattle.wire.specs.Read.{Answer, answer_of, answer_for, opcode_of, flag_of, length_of, third_word, decode_checks, read_checks, read_code, read_of, said_parts, said, span_of}
use Rattle.wire.specs.Write.{command_bytes}
use Rattle.wire.specs.Judge.{plain}
use Rattle.wire.proofs.Answers.{refusal_code, reaches}
use Rattle.wire.proofs.Local.{reached}
use Rattle.wire.proofs.RoundTrip.{read_held, written_back}
use Rattle.walk.specs.Walk.{rests}
use Rattle.walk.proofs.Spans.{span_passed, span_within, span_some}
use Rattle.walk.proofs.Rests.{behind, rests_more}
use Rattle.walk.proofs.Turns.{turn}
use Rattle.text.specs.declared.findings.Fault.{Fault}
use Rattle.text.specs.declared.findings.Finding.{Finding}
use Rattle.text.specs.Split.{line_feed}
use Rattle.text.specs.Findings.{no_room, finding, nothing, whole, first_found, told_fault, Outcome, outcome, outcome_for, translated_of}
use Rattle.text.specs.Lister.{can_say, line_text, list_text, text_of, list_checks, list_told, command_findings, bad_command, raw_findings, listed_as, listed_room}
use Rattle.text.specs.ListSteps.{ended_line, offer_of, offered_at, judged_list, Lined}
use Rattle.text.proofs.Found.{fault_code, found_append}
use Rattle.text.proofs.Putting.{Puts, line_short}
use Rattle.text.specs.declared.findings.Refusal.{Refusal}

-- No fault has code 0.
no_fault : (f : Fault) → (told_fault f).code ≡ 0 → ⊥
no_fault f e = eqb-false (told_fault f).code 0 (fault_code f) e

-- No code of a reading is 0.
coded_decode : (found : Option (Form × ℕ)) (flag : Bool) (words one two : ℕ) → Coded (decode_checks found flag words one two)
coded_decode None flag words one two = (omega arith, tt)
coded_decode (Some (form, n)) flag words one two = (omega arith, (omega arith, (omega arith, (omega arith, (omega arith, (omega arith, tt))))))

coded_read : (s : List ℕ) → Coded (read_checks s)
coded_read s = (
  omega arith,
  (omega arith, (omega arith, (omega arith, coded_decode (rule_of (opcode_of s)) (flag_of s) (length_of s) (word_at s 4) (third_word s (length_of s))))),
)

-- The code of the command at the front: that of its reading, and 33 where that is 0 and its goals cannot be said.
module _ (s : List ℕ) where
  abbrev list_code : ℕ
  list_code = first_of (list_checks s)

  list_code_lem : list_code ≡ cond (eqb (read_code s) 0) (cond (not (can_say (said s))) 33 0) (read_code s)
  unfolding read_code
  list_code_lem = first_append (read_checks s) (33 when not (can_say (said s)) ∷ []) (coded_read s)

  offered : (code : ℕ) → list_code ≡ code → offered_at s ≡ answer_for code (said_parts s) (said s)
  unfolding offered_at list_told
  offered code is = rw is

  -- What the code makes of a reading.
  pub offer_refused : (r : WireRefusal) → answer_of (Err r) ≡ read_of s → offer_of (Err (Fault.Wire r)) ≡ offered_at s
  unfolding read_of
  offer_refused r e =
      let code : (told_fault (Fault.Wire r)).code ≡ read_code s = ap (λ (a : Answer). a.told.code) e in
      let other : eqb (read_code s) 0 ≡ false = sym (ap (λ n. eqb n 0) code) ∙ refusal_code r in
      e ∙ sym (offered (read_code s) (list_code_lem ∙ ap (λ b. cond b (cond (not (can_say (said s))) 33 0) (read_code s)) other))

  module _ (c : Command) (e : answer_of (Ok c) ≡ read_of s) where
    read_none : read_code s ≡ 0
    unfolding read_of
    read_none = sym (ap (λ (a : Answer). a.told.code) e)

    read_said : c ∷ [] ≡ said s ∷ []
    unfolding read_of
    read_said = ap (λ (a : Answer). a.taken) e ∙ ap (λ n. cond (eqb n 0) (said s ∷ []) []) read_none

    is_said : c ≡ said s
    is_said = let l = read_said in cc

    goal_code : (b : Bool) → b ≡ can_say c → list_code ≡ cond (not b) 33 0
    goal_code b is =
        list_code_lem
        ∙ ap (λ n. cond (eqb n 0) (cond (not (can_say (said s))) 33 0) n) read_none
        ∙ ap (λ t. cond (not t) 33 0) (ap can_say (sym is_said) ∙ sym is)

    pub offer_sayable : true ≡ can_say c → offer_of (Ok c) ≡ offered_at s
    offer_sayable is = ap (answer_for 0 (said_parts s)) is_said ∙ sym (offered 0 (goal_code true is))

    pub offer_unsayable : false ≡ can_say c → offer_of (Err Fault.Unsayable) ≡ offered_at s
    offer_unsayable is = sym (offered 33 (goal_code false is))

  -- Nothing is told of it exactly where it passes 1 to 10 and its goals can be said.
  pub told_when : ((list_told s).code ≡ 0) ↔ ((read_code s ≡ 0) × (can_say (said s) ≡ true))
  unfolding list_told
  told_when = (
    λ e. go (eqb (read_code s) 0) (can_say (said s)) refl refl (sym list_code_lem ∙ e),
    λ fine. list_code_lem ∙ rw (fine.0, fine.1),
  )
    where
      go : (a b : Bool) → eqb (read_code s) 0 ≡ a → can_say (said s) ≡ b → cond a (cond (not b) 33 0) (read_code s) ≡ 0
          → (read_code s ≡ 0) × (can_say (said s) ≡ true)
      go true true read says e = (eqb-true (read_code s) 0 read, says)
      go true false read says e = absurd (omega arith)
      go false b read says e = absurd (eqb-false (read_code s) 0 read e)

  -- What an offer says of the command at the front.
  told_bad : (f : Fault) → offer_of (Err f) ≡ offered_at s → told_fault f ≡ list_told s
  unfolding offered_at
  told_bad f e = ap (λ (a : Answer). a.told) e

  module _ (c : Command) (e : offer_of (Ok c) ≡ offered_at s) where
    told_none : (list_told s).code ≡ 0
    unfolding offered_at
    told_none = sym (ap (λ (a : Answer). a.told.code) e)

    said_list : c ∷ [] ≡ said s ∷ []
    unfolding offered_at
    said_list = ap (λ (a : Answer). a.taken) e ∙ ap (λ n. cond (eqb n 0) (said s ∷ []) []) told_none

    said_front : c ≡ said s
    said_front = let l = said_list in cc

    read_fine : read_code s ≡ 0
    read_fine = (told_when.0 told_none).0

-- How far a command reaches that was read.
pub read_spans : (s : List ℕ) → read_code s ≡ 0 → (span_of s ≡ length_of s * 4) × (0 < span_of s) × (span_of s ≤ length s)
read_spans s read =
    let passes = reached s (λ e. omega arith) (λ e. omega arith) (λ e. omega arith) in
    let long = span_passed s passes in
    let far = reaches s passes in
    (long, omega (arith, far.least), omega (arith, far.whole))

-- The line of a command that was read is at most twice as long as its bytes.
line_reach : (s : List ℕ) → Bytes s → read_code s ≡ 0 → length (ended_line (said s)) ≤ 2 * span_of s
line_reach s bytes read =
    let far = read_spans s read in
    let long : length (command_bytes (said s)) ≡ length_of s * 4 =
    ap length (written_back s bytes read) ∙ length-take-le (length_of s * 4) s (omega (arith, far.0, far.2)) in
    omega (arith, long, far.0, line_short (said s) (read_held s (length_of s)))

pub bytes_drop : (n : ℕ) (s : List ℕ) → Bytes s → Bytes (drop n s)
bytes_drop zero s bytes = bytes
bytes_drop (suc n) [] bytes = bytes
bytes_drop (suc n) (b ∷ s) bytes = bytes_drop n s (λ i. bytes (suc i))

-- Bytes stored behind the first so many stand at the front with them.
take-sets : (xs room : List ℕ) (end : ℕ) → end + length xs ≤ length room → take (end + length xs) (sets room end xs) ≡ take end room ++ xs
take-sets xs room end fits =
    let long : length (take end room ++ xs) ≡ end + length xs =
    length-append (take end room) xs ∙ omega (arith, length-take-le end room (omega arith)) in
    ap (take (end + length xs)) (sets-eq xs room end fits) ∙ take_at (take end room ++ xs) (drop (end + length xs) room) (end + length xs) long

-- The text of a list that has not ended: its first line, and the text of what is left.
text_next : (s : List ℕ) → 0 < length s → text_of s ≡ ended_line (said s) ++ text_of (behind s)
unfolding list_text
text_next s more =
    ap (λ l. list_text (map said l)) (rests_more s more) ∙ sym (append_assoc (line_text (said s)) (line_feed ∷ []) (text_of (behind s)))

no_text_lines : list_text (map said []) ≡ []
unfolding list_text
no_text_lines = refl

none_found : (number : ℕ) → first_found (command_findings number []) ≡ nothing
unfolding first_found command_findings
none_found number = refl

-- The judgement on a list by itself, in its three cases.
module _ (raw : List ℕ) where
  judged_long : 4096 < length raw → translated_of (Err Refusal.TooLong) ≡ judged_list raw
  unfolding judged_list first_found
  judged_long long = rw (lt-ltb 4096 (length raw) long)

  module _ (short : length raw ≤ 4096) where
    judged_bad : (number : ℕ) (f : Fault) → bad_command raw ≡ finding (told_fault f) number → translated_of (Err (Refusal.BadLine number f)) ≡ judged_list raw
    unfolding judged_list first_found
    judged_bad number f here = rw (le-ltb 4096 (length raw) short, here, fault_code f, fault_code f)

    judged_fine : (end : ℕ) → bad_command raw ≡ nothing → end ≡ length (text_of raw) → translated_of (Ok end) ≡ judged_list raw
    unfolding judged_list first_found
    judged_fine end fine long = rw (le-ltb 4096 (length raw) short, fine, long)

-- What is left of the list, listed from here on, gives what the whole gives.
pub record Lining (raw room₀ room left : List ℕ) (number end : ℕ) : Type 0 where
  pub few : number + length left ≤ length raw
  pub half : end + 2 * length left ≤ 2 * length raw
  pub same : length room ≡ length room₀
  pub bytes : Bytes left
  pub bad : first_found (command_findings (number + 1) (rests left)) ≡ bad_command raw
  pub text : take end room ++ text_of left ≡ text_of raw

pub lining_none : (raw room left : List ℕ) → Bytes raw → left ≡ raw → Lining raw room room left 0 0
lining_none raw room left bytes is =
    rw is (record { few = omega arith; half = omega arith; same = refl; bytes = bytes; bad = refl; text = refl })

module _ (raw room₀ room left : List ℕ) (number end : ℕ) (lining : Lining raw room₀ room left number end) (short : length raw ≤ 4096) where
  module _ (x next : List ℕ) (step : rests left ≡ x ∷ rests next) where
    some : 0 < length left
    some = (turn left x next step).some

    bad_here : bad_command raw
        ≡ cond (eqb (list_told left).code 0) (first_found (command_findings (suc (number + 1)) (rests (behind left)))) (finding (list_told left) (number + 1))
    unfolding command_findings first_found
    bad_here = sym lining.bad ∙ ap (λ rs. first_found (command_findings (number + 1) rs)) (rests_more left some)

    offer : (o : Result Command Fault) → offer_of o ≡ offered_at x → offer_of o ≡ offered_at left
    offer o e = e ∙ ap offered_at (turn left x next step).whole

    pub turn_bad : (f : Fault) → offer_of (Err f) ≡ offered_at x → Lined raw room (Err (Refusal.BadLine (number + 1) f))
    turn_bad f e =
        let told : told_fault f ≡ list_told left = told_bad left f (offer (Err f) e) in
        let late : eqb (list_told left).code 0 ≡ false = ap (λ (t : Told). eqb t.code 0) (sym told) ∙ fault_code f in
        let here : bad_command raw ≡ finding (told_fault f) (number + 1) = bad_here ∙ rw (late, ← told) in
        record {
          is = judged_bad raw short (number + 1) f here;
          fits = omega arith;
          front = λ z. absurd (no_fault f z);
        }

    module _ (c : Command) (e : offer_of (Ok c) ≡ offered_at x) where
      own : offer_of (Ok c) ≡ offered_at left
      own = offer (Ok c) e

      line_within : length (ended_line c) ≤ 2 * span_of left
      line_within = rw (said_front left c own) (line_reach left lining.bytes (read_fine left c own))

      pub line_fits : 8192 ≤ length room₀ → end + length (ended_line c) ≤ length room
      line_fits large = omega (arith, span_within left, line_within, lining.half, lining.same)

      pub turn_next : 8192 ≤ length room₀ → (place : ℕ) (after : List ℕ) → Puts (ended_line c) end room place after
          → Lining raw room₀ after next (number + 1) place
      turn_next large place after put =
          let on : next ≡ behind left = (turn left x next step).then in
          let shorter : length next + span_of left ≡ length left =
          ap (λ l. length l + span_of left) on ∙ omega (arith, length-drop (span_of left) left, span_within left) in
          record {
            few = omega (arith, lining.few, shorter, span_some left some);
            half = omega (arith, put.0, line_within, shorter, lining.half);
            same = ap length put.1 ∙ length-sets room end (ended_line c) ∙ lining.same;
            bytes = rw on (bytes_drop (span_of left) left lining.bytes);
            bad =
                ap (λ l. first_found (command_findings (number + 1 + 1) (rests l))) on
                ∙ sym (bad_here ∙ rw (eq-eqb _ 0 (told_none left c own), ← add-one (number + 1)));
            text =
                rw (put.0, put.1, on, take-sets (ended_line c) room end (line_fits large), said_front left c own)
                (append_assoc (take end room) (ended_line (said left)) (text_of (behind left)))
                ∙ ap (λ l. take end room ++ l) (sym (text_next left some))
                ∙ lining.text;
          }

  pub lining_ends : 8192 ≤ length room₀ → rests left ≡ [] → Lined raw room (Ok end)
  lining_ends large last =
      let none : text_of left ≡ [] = ap (λ rs. list_text (map said rs)) last ∙ no_text_lines in
      let text : take end room ≡ text_of raw = sym (append-nil (take end room)) ∙ ap (λ l. take end room ++ l) (sym none) ∙ lining.text in
      let long : end ≡ length (text_of raw) = sym (length-take-le end room (omega (arith, lining.half, lining.same))) ∙ ap length text in
      let fine : bad_command raw ≡ nothing =
      sym lining.bad ∙ ap (λ rs. first_found (command_findings (number + 1) rs)) last ∙ none_found (number + 1) in
      record { is = judged_fine raw short end fine long; fits = omega (arith, lining.half); front = λ z. text }

pub lined_long : (raw room : List ℕ) → 4096 < length raw → Lined raw room (Err Refusal.TooLong)
lined_long raw room long = record { is = judged_long raw long; fits = omega arith; front = λ z. absurd (omega arith) }

-- The lister's ends: the judgement on the list by itself, and behind it 24.
module _ (raw room : List ℕ) where
  abbrev room_by : Outcome → List ℕ
  room_by o = cond (eqb o.found.told.code 0) (written (text_of raw) room) room

  abbrev short_room : Finding
  short_room = whole (24 when not (has_room (text_of raw) room))

  listed_from : listed_as raw room
      ≡ outcome_for (cond (eqb (judged_list raw).found.told.code 0) (first_found (short_room ∷ [])) (judged_list raw).found) (length (text_of raw))
  unfolding listed_as judged_list
  listed_from =
      ap (λ f. outcome_for f (length (text_of raw)))
      (found_append (raw_findings raw) (short_room ∷ []))

  pub ends_refused : (f : Finding) → outcome f 0 ≡ judged_list raw → eqb f.told.code 0 ≡ false
      → (outcome f 0 ≡ listed_as raw room) × (room ≡ listed_room raw room)
  unfolding listed_room
  ends_refused f e late =
      let found : f ≡ (judged_list raw).found = ap (λ (o : Outcome). o.found) e in
      let same : listed_as raw room ≡ outcome f 0 = listed_from ∙ rw (← found, late, late) in
      (sym same, sym (ap room_by same ∙ rw late))

  pub ends_bad : (r : Refusal) → translated_of (Err r) ≡ judged_list raw
      → (translated_of (Err r) ≡ listed_as raw room) × (room ≡ listed_room raw room)
  ends_bad Refusal.TooLong e = ends_refused (finding (plain 20) 0) e refl
  ends_bad (Refusal.BadLine number fault) e = ends_refused (finding (told_fault fault) number) e (fault_code fault)

  module _ (bytes : ℕ) (e : outcome nothing bytes ≡ judged_list raw) where
    all_bytes : bytes ≡ length (text_of raw)
    unfolding judged_list
    all_bytes =
        let found : nothing ≡ (judged_list raw).found = ap (λ (o : Outcome). o.found) e in
        ap (λ (o : Outcome). o.bytes) e ∙ rw (← found)

    by_room : (has : Bool) → has ≡ has_room (text_of raw) room
        → listed_as raw room ≡ outcome_for (first_found (whole (24 when not has) ∷ [])) bytes
    by_room has is =
        let found : nothing ≡ (judged_list raw).found = ap (λ (o : Outcome). o.found) e in
        listed_from ∙ rw (← found, ← is, ← all_bytes)

    pub ends_done : (after : List ℕ) → true ≡ has_room (text_of raw) room → after ≡ written (text_of raw) room
        → (translated_of (Ok bytes) ≡ listed_as raw room) × (after ≡ listed_room raw room)
    unfolding listed_room first_found
    ends_done after has put =
        let same : listed_as raw room ≡ outcome nothing bytes = by_room true has in
        (sym same, put ∙ sym (ap room_by same))

    pub ends_no_room : (after : List ℕ) → false ≡ has_room (text_of raw) room → after ≡ written (text_of raw) room
        → (translated_of no_room ≡ listed_as raw room) × (after ≡ listed_room raw room)
    unfolding listed_room first_found
    ends_no_room after has put =
        let same : listed_as raw room ≡ translated_of no_room = by_room false has in
        let kept : written (text_of raw) room ≡ room = rw (← has) in
        (sym same, put ∙ kept ∙ sym (ap room_by same))
