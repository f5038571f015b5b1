-- Behind the functions that read a stored list: the raw commands turn by turn, and what is answered behind the last.
use Prim.Native.Nat.{ℕ, suc, ◌+◌, ◌-◌, ◌≤◌, ◌<◌}
use mathlib.Core.Path.{◌≡◌, refl, sym, ap, ◌∙◌}
use mathlib.Core.List.{List, [], ◌∷◌, ◌++◌, append_assoc, append-nil}
use mathlib.Core.Bool.{Bool, true, false, cond}
use native.Mathlib.Omega.{arith}
use native.Mathlib.Numerals.{add-one}
use lib.ListN.{length, take, drop, length-append, length-drop, take-append-drop}
use lib.Seq.{sets, length-sets}
use lib.Dec.{leb, ltb}
use borrow.Author.Tests.{le-leb, le-ltb, leb-true, leb-false, ltb-true, ltb-false}
use borrow.Rule.Slice.PartMut.{put_mid}
use Rattle.words.specs.BigEndian.{written}
use Rattle.words.proofs.Front.{Bytes}
use Rattle.words.proofs.Laws.{without_room, part_written}
use Rattle.words.proofs.Stores.{front_more}
use Rattle.wire.specs.declared.kinds.Command.{Command}
use Rattle.wire.specs.Kind.{parts_of}
use Rattle.wire.specs.Judge.{judge_code}
use Rattle.wire.specs.Write.{command_bytes, list_bytes, room_after}
use Rattle.wire.proofs.Lengths.{length_command, row_words_most}
use Rattle.wire.proofs.Writes.{allowed}
use Rattle.card.specs.declared.answers.Fault.{Fault}
use Rattle.card.specs.declared.command.Stored.{Stored}
use Rattle.card.specs.Command.{command_at}
use Rattle.card.specs.List.{Said, bad, next_said, said_from}
use Rattle.card.specs.Answers.{told_fault}
use Rattle.card.specs.Steps.{got_command, end_after, buffer_after, Kept, All}
use Rattle.card.proofs.Stores.{part_sets}
use Rattle.card.proofs.Commands.{TakenCommand, taken_command}
use Rattle.card.proofs.Packing.{behind, behind_more, behind-said, behind-bad}

-- A command put behind the first so many bytes.
pub put_in : (c : Command) (pos n : ℕ) (buffer part : List ℕ) → pos ≤ 4096 → 4096 ≡ length buffer → judge_code c ≡ 0 → n ≡ length (command_bytes c)
    → part ≡ room_after c (take (length buffer - pos) (drop pos buffer))
    → (pos + n ≡ end_after c pos) × (put_mid pos (length buffer - pos) buffer part ≡ buffer_after c pos buffer)
put_in c pos n buffer part h long ok is_n put =
    (rw (le-ltb 4096 pos h, is_n), go (leb (pos + length (command_bytes c)) (length buffer)) refl)
  where
    whole : part ≡ written (command_bytes c) (take (length buffer - pos) (drop pos buffer))
    whole = put ∙ sym (allowed c (take (length buffer - pos) (drop pos buffer)) (sym ok)).1

    go : (b : Bool) → leb (pos + length (command_bytes c)) (length buffer) ≡ b
        → put_mid pos (length buffer - pos) buffer part ≡ cond b (sets buffer pos (command_bytes c)) buffer
    go true is = part_sets pos (command_bytes c) buffer part (leb-true _ _ is) whole
    go false is =
        let over : length (drop pos buffer) < length (command_bytes c) =
        omega (arith, leb-false (pos + length (command_bytes c)) (length buffer) is, length-drop pos buffer) in
        part_written pos (command_bytes c) buffer part (omega arith) whole
        ∙ ap (λ l. take pos buffer ++ l) (without_room (command_bytes c) (drop pos buffer) over)
        ∙ take-append-drop pos buffer

pub command_few : (c : Command) → length (command_bytes c) ≤ 16
command_few c = omega (arith, length_command c, row_words_most (parts_of c.kind).form)

raw_append : (cs ds : List Command) → list_bytes (cs ++ ds) ≡ list_bytes cs ++ list_bytes ds
unfolding list_bytes
raw_append [] ds = refl
raw_append (c ∷ cs) ds = ap (λ l. command_bytes c ++ l) (raw_append cs ds) ∙ sym (append_assoc (command_bytes c) (list_bytes cs) (list_bytes ds))

raw_more : (cs : List Command) (c : Command) → list_bytes (cs ++ (c ∷ [])) ≡ list_bytes cs ++ command_bytes c
unfolding list_bytes
raw_more cs c = raw_append cs (c ∷ []) ∙ ap (λ l. list_bytes cs ++ l) (append-nil (command_bytes c))

-- One command more in the buffer.
kept_more : (cs : List Command) (c : Command) (pos : ℕ) (buffer : List ℕ) → 4096 ≡ length buffer → Kept cs pos buffer
    → Kept (cs ++ (c ∷ [])) (end_after c pos) (buffer_after c pos buffer)
kept_more cs c pos buffer room kept = go (ltb 4096 pos) refl
  where
    size : length (list_bytes (cs ++ (c ∷ []))) ≡ length (list_bytes cs) + length (command_bytes c)
    size = ap length (raw_more cs c) ∙ length-append (list_bytes cs) (command_bytes c)

    go : (b : Bool) → ltb 4096 pos ≡ b → Kept (cs ++ (c ∷ [])) (cond b pos (pos + length (command_bytes c))) (buffer_after c pos buffer)
    go true is =
        let over = ltb-true 4096 pos is in
        record { exact = λ h. absurd (omega arith); over = λ h. omega (arith, size, kept.over over); front = λ h. absurd (omega arith) }
    go false is =
        let fits = ltb-false 4096 pos is in
        record {
          exact = λ h. omega (arith, size, kept.exact fits);
          over = λ h. omega (arith, size, kept.exact fits);
          front = λ h.
              rw (le-leb (pos + length (command_bytes c)) (length buffer) (omega arith))
              (front_more buffer pos (command_bytes c) (omega arith) ∙ ap (λ l. l ++ command_bytes c) (kept.front fits) ∙ sym (raw_more cs c));
        }

-- The turns of `gather`: the commands that were read stand in the buffer. Each turn passes a byte at least, so that no more turns are made than there are
-- bytes, however many commands are asked for.
pub record Gathering (s : List ℕ) (count start : ℕ) (buffer : List ℕ) (at pos i : ℕ) : Type 0 where
  pub done : List Command
  pub whole : said_from count 1 s start ≡ behind done (said_from (count - i) (i + 1) s at)
  pub few : i ≤ count
  pub room : 4096 ≡ length buffer
  pub small : pos ≤ 4112
  pub passes : start + i ≤ at
  pub within : 0 < i → at ≤ length s
  pub kept : Kept done pos buffer

pub none_gathered : (s : List ℕ) (count start : ℕ) (buffer : List ℕ) → 4096 ≡ length buffer → Gathering s count start buffer start 0 0
unfolding list_bytes
none_gathered s count start buffer room =
    let all : count - 0 ≡ count = omega arith in
    record {
      done = [];
      whole = rw all;
      few = omega arith;
      room = room;
      small = omega arith;
      passes = omega arith;
      within = λ h. absurd (omega arith);
      kept = record { exact = λ h. refl; over = λ h. absurd (omega arith); front = λ h. refl };
    }

module _ (s : List ℕ) (count start : ℕ) (buffer : List ℕ) (at pos i : ℕ) (so_far : Gathering s count start buffer at pos i) where
  abbrev later : ℕ → Said
  later end = said_from (count - (i + 1)) (i + 1 + 1) s end

  module _ (more : i < count) (r : Stored) (is_r : got_command r ≡ command_at s at) where
    step : said_from (count - i) (i + 1) s at ≡ next_said (got_command r) (i + 1) later
    unfolding said_from
    step =
        let left : count - i ≡ suc (count - (i + 1)) = omega arith in
        rw (left, is_r, ← add-one (i + 1))

    pub gathered_bad : (fault : Fault) → r ≡ Stored.Bad fault → said_from count 1 s start ≡ bad (i + 1) (told_fault fault)
    gathered_bad fault e =
        so_far.whole
        ∙ ap (behind so_far.done) (step ∙ ap (λ q. next_said (got_command q) (i + 1) later) e)
        ∙ behind-bad so_far.done (i + 1) (told_fault fault)

    module _ (bytes : Bytes s) (c : Command) (end : ℕ) (e : r ≡ Stored.Taken c end) where
      pub gathered_command : TakenCommand s at c end
      gathered_command = taken_command s bytes at c end (sym is_r ∙ ap got_command e)

      pub one_gathered : (pos' : ℕ) (buffer' : List ℕ) → pos' ≡ end_after c pos → buffer' ≡ buffer_after c pos buffer
          → Gathering s count start buffer' end pos' (i + 1)
      one_gathered pos' buffer' is_pos is_buffer = rw (is_pos, is_buffer) (record {
        done = so_far.done ++ (c ∷ []);
        whole = so_far.whole
            ∙ ap (behind so_far.done) (step ∙ ap (λ q. next_said (got_command q) (i + 1) later) e)
            ∙ sym (behind_more so_far.done c (later end));
        few = omega arith;
        room = so_far.room ∙ sym (length_after (leb (pos + length (command_bytes c)) (length buffer)));
        small = end_small (ltb 4096 pos) refl;
        passes = omega (arith, gathered_command.moves, so_far.passes);
        within = λ h. gathered_command.within;
        kept = kept_more so_far.done c pos buffer so_far.room so_far.kept;
      })
        where
          length_after : (b : Bool) → length (cond b (sets buffer pos (command_bytes c)) buffer) ≡ length buffer
          length_after true = length-sets buffer pos (command_bytes c)
          length_after false = refl

          end_small : (b : Bool) → ltb 4096 pos ≡ b → cond b pos (pos + length (command_bytes c)) ≤ 4112
          end_small true is = so_far.small
          end_small false is = omega (arith, ltb-false 4096 pos is, command_few c)

  pub all_gathered : count ≤ i → All (said_from count 1 s start) pos at buffer
  unfolding said_from
  all_gathered end =
      let none : count - i ≡ 0 = omega arith in
      record { cs = so_far.done; is = so_far.whole ∙ rw none (behind-said so_far.done at); kept = so_far.kept }
