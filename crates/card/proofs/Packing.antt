-- Behind the functions that write a stored list: a command's numbers one behind the other, the commands turn by turn, the whole list.
use Prim.Native.Nat.{ℕ, ◌+◌, ◌≤◌, ◌<◌}
use mathlib.Core.Path.{◌≡◌, refl, sym, ap, ◌∙◌}
use mathlib.Core.List.{List, [], ◌∷◌, ◌++◌, append_assoc, append-nil}
use mathlib.Core.Bool.{cond}
use lib.Dec.{ltb}
use native.Mathlib.Omega.{arith}
use native.Mathlib.Numerals.{add-one}
use lib.ListN.{length, take, drop, length-append, length-drop}
use lib.Seq.{sets, length-sets, length-take-le}
use borrow.Author.Tests.{le-leb, lt-leb, lt-ltb, le-ltb}
use Rattle.words.proofs.Front.{Bytes}
use Rattle.words.proofs.Laws.{with_room, sets-written}
use Rattle.words.proofs.Stores.{front_more}
use Rattle.wire.specs.declared.table.Row.{Row}
use Rattle.wire.specs.declared.kinds.Command.{Command}
use Rattle.wire.specs.declared.kinds.Parts.{Parts}
use Rattle.wire.specs.declared.judging.Told.{Told}
use Rattle.wire.specs.declared.judging.Refusal.{Refusal}
use Rattle.std.specs.Prelude.{Result as Wired, Ok, Err}
use Rattle.wire.specs.Table.{row_of, arguments_of}
use Rattle.wire.specs.Kind.{parts_of}
use Rattle.wire.specs.Judge.{plain, told_of}
use Rattle.wire.specs.Read.{answer_of, read_of, span_of}
use Rattle.wire.specs.Write.{flag_bit}
use Rattle.walk.specs.Walk.{rests}
use Rattle.walk.proofs.Spans.{span_within, span_some}
use Rattle.walk.proofs.Turns.{Turn, turn}
use Rattle.card.specs.Number.{number_bytes}
use Rattle.card.specs.Command.{arguments_in, numbers_bytes, stored_command}
use Rattle.card.specs.List.{stored_commands, stored_bytes, Said, said, bad, onto, raw_next, raw_from, raw_says}
use Rattle.card.specs.Answers.{Result, Moved, told_fault, no_room, stored_by, to_card}
use Rattle.card.specs.Answers as answers
use Rattle.card.specs.Steps.{Packs}
use Rattle.card.proofs.Commands.{drop_bytes}
use Rattle.card.proofs.Lists.{RawTaken, raw_taken}
use Rattle.card.proofs.Bounds.{command_short}

-- The arguments that are written.
module _ (many first second : ℕ) where
  pub no_arguments : many < 1 → numbers_bytes (arguments_in many first second) ≡ []
  unfolding numbers_bytes
  no_arguments none = rw (lt-ltb many 1 none)

  pub one_argument : 1 ≤ many → many < 2 → numbers_bytes (arguments_in many first second) ≡ number_bytes first
  unfolding numbers_bytes
  one_argument some few = rw (le-ltb many 1 some, lt-ltb many 2 few) (append-nil (number_bytes first))

  pub two_arguments : 1 ≤ many → 2 ≤ many → numbers_bytes (arguments_in many first second) ≡ number_bytes first ++ number_bytes second
  unfolding numbers_bytes
  two_arguments some more = rw (le-ltb many 1 some, le-ltb many 2 more) (ap (λ l. number_bytes first ++ l) (append-nil (number_bytes second)))

  -- The first fits where all do.
  pub argument_fits : (room : List ℕ) (at : ℕ) → 1 ≤ many → at + length (numbers_bytes (arguments_in many first second)) ≤ length room
      → at + length (number_bytes first) ≤ length room
  unfolding numbers_bytes
  argument_fits room at some fits =
      let rest = numbers_bytes (cond (ltb many 2) [] (second ∷ [])) in
      let all : length (numbers_bytes (arguments_in many first second)) ≡ length (number_bytes first ++ rest) = rw (le-ltb many 1 some) in
      omega (arith, length-append (number_bytes first) rest)

-- A command's bytes, by what the code has of it.
pub stored_is : (c : Command) (parts : Parts) (row : Row) (bit many : ℕ) → parts ≡ parts_of c.kind → row ≡ row_of parts.form → bit ≡ flag_bit c.flag
    → many ≡ arguments_of row.layout
    → stored_command c ≡ number_bytes row.opcode ++ (number_bytes bit ++ numbers_bytes (arguments_in many parts.first parts.second))
unfolding stored_command numbers_bytes
stored_is c parts row bit many is_parts is_row is_bit is_many = rw (is_many, is_row, is_bit, is_parts)

stored_append : (cs ds : List Command) → stored_commands (cs ++ ds) ≡ stored_commands cs ++ stored_commands ds
unfolding stored_commands
stored_append [] ds = refl
stored_append (c ∷ cs) ds =
    ap (λ l. stored_command c ++ l) (stored_append cs ds) ∙ sym (append_assoc (stored_command c) (stored_commands cs) (stored_commands ds))

stored_more : (cs : List Command) (c : Command) → stored_commands (cs ++ (c ∷ [])) ≡ stored_commands cs ++ stored_command c
unfolding stored_commands
stored_more cs c = stored_append cs (c ∷ []) ∙ ap (λ l. stored_commands cs ++ l) (append-nil (stored_command c))

-- Commands in front of what the rest says.
abbrev pub behind : List Command → Said → Said
behind [] x = x
behind (c ∷ cs) x = onto c (behind cs x)

pub behind_more : (cs : List Command) (c : Command) (x : Said) → behind (cs ++ (c ∷ [])) x ≡ behind cs (onto c x)
behind_more [] c x = refl
behind_more (d ∷ cs) c x = ap (onto d) (behind_more cs c x)

pub behind-said : (cs : List Command) (end : ℕ) → behind cs (said [] end) ≡ said cs end
behind-said [] end = refl
behind-said (c ∷ cs) end = ap (onto c) (behind-said cs end)

pub behind-bad : (cs : List Command) (number : ℕ) (told : Told) → behind cs (bad number told) ≡ bad number told
behind-bad [] number told = refl
behind-bad (c ∷ cs) number told = ap (onto c) (behind-bad cs number told)

-- The turns of `pack`: the commands before those that are left stand in the buffer.
pub record Packing (s buffer left : List ℕ) (pos count : ℕ) : Type 0 where
  pub done : List Command
  pub whole : raw_says s ≡ behind done (raw_from (count + 1) (rests left))
  pub bytes : Bytes left
  pub short : length s ≤ 4096
  pub counted : count ≡ length done
  pub fewer : count + length left ≤ length s
  pub less : pos + length left ≤ length s
  pub size : pos ≡ length (stored_commands done)
  pub room : 4096 ≡ length buffer
  pub front : take pos buffer ≡ stored_commands done

pub none_packed : (s buffer left : List ℕ) → Bytes s → left ≡ s → length s ≤ 4096 → 4096 ≡ length buffer → Packing s buffer left 0 0
unfolding stored_commands raw_says
none_packed s buffer left bytes is short room =
    record {
      done = [];
      whole = ap (λ l. raw_from 1 (rests l)) (sym is);
      bytes = rw is bytes;
      short = short;
      counted = refl;
      fewer = omega (arith, ap length is);
      less = omega (arith, ap length is);
      size = refl;
      room = room;
      front = refl;
    }

module _ (s buffer left : List ℕ) (pos count : ℕ) (so_far : Packing s buffer left pos count) where
  module _ (x later : List ℕ) (one : rests left ≡ x ∷ rests later) (r : Wired Command Refusal) (is_r : answer_of r ≡ read_of x) where
    passed : Turn left x later
    passed = turn left x later one

    fewer_left : length later + span_of left ≡ length left
    fewer_left = omega (arith, ap length passed.then, length-drop (span_of left) left, span_within left)

    pub count_fits : count + 1 + length later ≤ length s
    count_fits = omega (arith, so_far.fewer, fewer_left, span_some left passed.some)

    step : raw_from (count + 1) (rests left) ≡ raw_next (answer_of r) (count + 1) (raw_from (count + 1 + 1) (rests later))
    unfolding raw_from
    step = rw (one, ← is_r, ← add-one (count + 1)) refl

    pub packed_bad : (f : Refusal) → r ≡ Err f → raw_says s ≡ bad (count + 1) (told_of f)
    packed_bad f e =
        so_far.whole
        ∙ ap (behind so_far.done) (step ∙ ap (λ q. raw_next (answer_of q) (count + 1) (raw_from (count + 1 + 1) (rests later))) e)
        ∙ behind-bad so_far.done (count + 1) (told_of f)

    module _ (c : Command) (e : r ≡ Ok c) where
      bytes : Bytes x
      bytes = rw passed.whole so_far.bytes

      taken : RawTaken x c
      taken = raw_taken x (plain 0) c [] bytes (sym (ap answer_of (sym e) ∙ is_r))

      no_longer : length (stored_command c) ≤ span_of left
      no_longer =
          omega (
            arith,
            command_short c taken.held,
            ap length taken.same,
            ap span_of passed.whole,
            length-take-le (span_of x) x (span_within x),
          )

      pub packed_fits : pos + length (stored_command c) ≤ length buffer
      packed_fits = omega (arith, no_longer, fewer_left, so_far.less, so_far.short, so_far.room)

      pub one_packed : (pos' : ℕ) (buffer' : List ℕ) → pos' ≡ pos + length (stored_command c) → buffer' ≡ sets buffer pos (stored_command c)
          → Packing s buffer' later pos' (count + 1)
      one_packed pos' buffer' is_pos is_buffer =
          let long = ap length (stored_more so_far.done c) ∙ length-append (stored_commands so_far.done) (stored_command c) in
          record {
            done = so_far.done ++ (c ∷ []);
            whole = so_far.whole
                ∙ ap (behind so_far.done) (step ∙ ap (λ q. raw_next (answer_of q) (count + 1) (raw_from (count + 1 + 1) (rests later))) e)
                ∙ sym (behind_more so_far.done c (raw_from (count + 1 + 1) (rests later)));
            bytes = rw passed.then (drop_bytes left (span_of left) so_far.bytes);
            short = so_far.short;
            counted = omega (arith, so_far.counted, length-append so_far.done (c ∷ []));
            fewer = count_fits;
            less = omega (arith, so_far.less, no_longer, fewer_left, is_pos);
            size = omega (arith, so_far.size, long, is_pos);
            room = so_far.room ∙ sym (ap length is_buffer ∙ length-sets buffer pos (stored_command c));
            front = rw (is_pos, is_buffer)
                (front_more buffer pos (stored_command c) packed_fits ∙ ap (λ l. l ++ stored_command c) so_far.front ∙ sym (stored_more so_far.done c));
          }

  pub all_packed : rests left ≡ [] → Packs (raw_says s) count pos buffer
  unfolding raw_from
  all_packed none =
      record {
        cs = so_far.done;
        is = so_far.whole
            ∙ ap (λ l. behind so_far.done (raw_from (count + 1) l)) none
            ∙ behind-said so_far.done 0;
        counted = so_far.counted;
        size = so_far.size;
        short = omega (arith, so_far.less, so_far.short);
        front = so_far.front;
      }

-- The answers of `to_card`.
abbrev pub Answers : Moved → List ℕ → Result → Type 0
Answers moved room result = (answers.answer_of moved ≡ result.answer) × (room ≡ result.room)

module _ (s room : List ℕ) (short : length s ≤ 4096) where
  by_said : (x : Said) → raw_says s ≡ x → stored_by x room ≡ to_card s room
  unfolding to_card
  by_said x e = rw (le-ltb 4096 (length s) short, ← e)

  module _ (count pos : ℕ) (buffer : List ℕ) (packs : Packs (raw_says s) count pos buffer)
      (one two : ℕ) (is_one : one ≡ length (number_bytes 1)) (is_two : two ≡ length (number_bytes count)) where
    abbrev cs : List Command
    cs = packs.cs

    pub bytes_are : number_bytes 1 ++ (number_bytes count ++ take pos buffer) ≡ stored_bytes packs.cs
    unfolding stored_bytes
    bytes_are = rw (packs.front, packs.counted)

    size_is : one + two + pos ≡ length (stored_bytes cs)
    unfolding stored_bytes
    size_is =
        omega (
          arith,
          is_one,
          is_two,
          packs.size,
          ap (λ k. length (number_bytes k)) packs.counted,
          length-append (number_bytes 1) (number_bytes (length cs) ++ stored_commands cs),
          length-append (number_bytes (length cs)) (stored_commands cs),
        )

    pub list_size : length (number_bytes 1 ++ (number_bytes count ++ take pos buffer)) ≡ one + two + pos
    list_size = ap length bytes_are ∙ sym size_is

    pub list_no_room : length room < one + two + pos → Answers (Err no_room) room (to_card s room)
    list_no_room h =
        let full = lt-leb (length (stored_bytes cs)) (length room) (omega (arith, size_is)) in
        rw (← by_said (said cs 0) packs.is, full) (refl, refl)

    pub list_stored : one + two + pos ≤ length room → (room' : List ℕ) → room' ≡ sets room 0 (number_bytes 1 ++ (number_bytes count ++ take pos buffer))
        → Answers (Ok (one + two + pos)) room' (to_card s room)
    list_stored h room' put =
        let fits : length (stored_bytes cs) ≤ length room = omega (arith, size_is) in
        let now : room' ≡ stored_bytes cs ++ drop (length (stored_bytes cs)) room =
        put ∙ ap (sets room 0) bytes_are ∙ sets-written (stored_bytes cs) room fits ∙ with_room (stored_bytes cs) room fits in
        rw (← by_said (said cs 0) packs.is, le-leb (length (stored_bytes cs)) (length room) fits)
        (ap (λ k. answers.answer (plain 0) 0 k) size_is, now)
