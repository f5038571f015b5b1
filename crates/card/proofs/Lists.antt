-- Whole lists on their commands: a list that was written says its commands, a list that is taken is written back; raw and stored.
use Prim.Native.Nat.{ℕ, zero, suc, ◌+◌, ◌-◌, ◌^◌, ◌≤◌, ◌<◌}
use mathlib.Core.Path.{◌≡◌, refl, sym, ap, subst, ◌∙◌}
use mathlib.Core.List.{List, [], ◌∷◌, ◌++◌}
use mathlib.Core.Bool.{Bool, true, false, cond, not, false≢true}
use native.Mathlib.Omega.{arith}
use native.Mathlib.Nat.{add-zero, zero-add}
use lib.ListN.{length, take, drop, length-append, length-drop, take-append-drop}
use lib.Seq.{drop-drop, drop-append_seam, take-add}
use lib.Dec.{eqb}
use borrow.Author.Tests.{eqb-true, not-false}
use Rattle.words.specs.Codes.{◌when◌}
use Rattle.words.proofs.Front.{Bytes}
use Rattle.words.proofs.Order.{order}
use Rattle.wire.specs.declared.kinds.Command.{Command}
use Rattle.wire.specs.declared.judging.Told.{Told}
use Rattle.wire.specs.Judge.{judge_code}
use Rattle.wire.specs.Read.{Answer, read_of, read_code, said as said_by, span_of, reach_code, length_of}
use Rattle.wire.specs.Write.{command_bytes, list_bytes}
use Rattle.wire.specs.Kind.{parts_of}
use Rattle.wire.proofs.Layouts.{form_words}
use Rattle.wire.proofs.Lengths.{length_command}
use Rattle.wire.proofs.Local.{reached}
use Rattle.wire.proofs.RoundTrip.{Held, read_back, span_back, read_held, read_allowed, written_back}
use Rattle.walk.specs.Walk.{rests}
use Rattle.walk.proofs.Rests.{rests_more, rests_none}
use Rattle.walk.proofs.Spans.{span_passed, span_some}
use Rattle.card.specs.Reading.{Got, got, refused, and_then, passing}
use Rattle.card.specs.Number.{number_bytes, number_at}
use Rattle.card.specs.Command.{stored_command, command_at}
use Rattle.card.specs.List.{stored_commands, stored_bytes, Said, said, bad, onto, next_said, said_from, first_at, count_at, head_then, stored_says, next_told, raw_next, raw_from, raw_says}
use Rattle.card.proofs.Readings.{got_same, had, passed}
use Rattle.card.proofs.Groups.{number_written}
use Rattle.card.proofs.Commands.{number_there, rest_there, command_back, drop_bytes, taken_number, taken_command}

-- Commands that are all allowed, and that a program can hold.
pub data Good : List Command → Type 0 where
  none : Good []
  some : {c : Command} {cs : List Command} → Held c → judge_code c ≡ 0 → Good cs → Good (c ∷ cs)

-- What is said, and what is bad, are not the same.
abbrev is_said : Said → Bool
is_said (said cs end) = true
is_said (bad number told) = false

pub not_bad : (number : ℕ) (told : Told) (cs : List Command) (end : ℕ) → bad number told ≡ said cs end → ⊥
not_bad number told cs end e = false≢true (ap is_said e)

pub said_same : {ds cs : List Command} {at end : ℕ} → said ds at ≡ said cs end → (ds ≡ cs) × (at ≡ end)
said_same e = ((cc), (cc))

-- What is said behind a first command.
record Onto (c : Command) (x : Said) (cs : List Command) (end : ℕ) : Type 0 where
  tail : List Command
  is : x ≡ said tail end
  whole : c ∷ tail ≡ cs

onto-said : (c : Command) (x : Said) (cs : List Command) (end : ℕ) → onto c x ≡ said cs end → Onto c x cs end
onto-said c (said ds m) cs end e = let same = said_same e in record { tail = ds; is = ap (said ds) same.1; whole = same.0 }
onto-said c (bad number told) cs end e = absurd (not_bad number told cs end e)

-- Stored commands that stand at a place are read there.
commands_back : (cs : List Command) → Good cs → (s : List ℕ) (at number : ℕ) → drop at s ≡ stored_commands cs
    → said_from (length cs) number s at ≡ said cs (at + length (stored_commands cs))
unfolding said_from stored_commands
commands_back [] none s at number there = ap (said []) (sym (add-zero at))
commands_back (c ∷ cs) (some held allowed good) s at number there =
    let here : command_at s at ≡ got c (at + length (stored_command c)) = command_back s at c (stored_commands cs) held allowed there in
    let rest : drop (at + length (stored_command c)) s ≡ stored_commands cs =
    sym (drop-drop (length (stored_command c)) at s) ∙ ap (drop (length (stored_command c))) there ∙ drop-append_seam (stored_command c) (stored_commands cs) in
    let place : at + length (stored_command c) + length (stored_commands cs) ≡ at + length (stored_command c ++ stored_commands cs) =
    omega (arith, length-append (stored_command c) (stored_commands cs)) in
    ap (λ x. next_said x number (λ end. said_from (length cs) (suc number) s end)) here
    ∙ ap (onto c) (commands_back cs good s (at + length (stored_command c)) (suc number) rest)
    ∙ ap (said (c ∷ cs)) place

-- The first two numbers that stand at the front.
count_back : (count : ℕ) (t : List ℕ) → count < 2 ^ 32
    → count_at (number_bytes 1 ++ (number_bytes count ++ t)) ≡ got count (length (number_bytes 1) + length (number_bytes count))
unfolding count_at first_at
count_back count t small =
    let s = number_bytes 1 ++ (number_bytes count ++ t) in
    let next = 0 + length (number_bytes 1) in
    let one = number_there s 0 1 (number_bytes count ++ t) refl (omega arith) in
    let behind = rest_there s 0 1 (number_bytes count ++ t) refl in
    ap (λ x. and_then (and_then x (λ first end. passing (36 when not (eqb first 1) ∷ []) (got first end))) (λ first next. number_at s next)) one
    ∙ number_there s next count t behind small
    ∙ ap (got count) (ap (λ n. n + length (number_bytes count)) (zero-add (length (number_bytes 1))))

-- A list that was written says its commands, and ends with the last.
pub listed_back : (cs : List Command) → Good cs → length cs < 2 ^ 32 → stored_says (stored_bytes cs) ≡ said cs (length (stored_bytes cs))
unfolding stored_says stored_bytes
listed_back cs good few =
    let one = number_bytes 1 in
    let count = number_bytes (length cs) in
    let s = one ++ (count ++ stored_commands cs) in
    let at = length one + length count in
    let behind : drop at s ≡ stored_commands cs =
    sym (drop-drop (length count) (length one) s) ∙ ap (drop (length count)) (drop-append_seam one (count ++ stored_commands cs))
    ∙ drop-append_seam count (stored_commands cs) in
    let size : at + length (stored_commands cs) ≡ length s = omega
    (arith, length-append one (count ++ stored_commands cs), length-append count (stored_commands cs)) in
    ap (λ x. head_then x (λ k place. said_from k 1 s place)) (count_back (length cs) (stored_commands cs) few)
    ∙ commands_back cs good s at 1 behind
    ∙ ap (said cs) size

-- Commands that were taken are good, and written back as the same bytes.
record Taken (s : List ℕ) (count at end : ℕ) (cs : List Command) : Type 0 where
  good : Good cs
  counted : count ≡ length cs
  order : at ≤ end
  within : end ≤ length s
  same : stored_commands cs ≡ take (end - at) (drop at s)

commands_taken : (count number : ℕ) (s : List ℕ) (at end : ℕ) (cs : List Command) → Bytes s → at ≤ length s → said_from count number s at ≡ said cs end
    → Taken s count at end cs
unfolding said_from stored_commands
commands_taken zero number s at end cs bytes h e =
    let same = said_same e in
    let left : at - at ≡ 0 = omega arith in
    subst (λ ds. Taken s 0 at end ds) same.0 (subst (λ k. Taken s 0 at k []) same.1
    (record { good = none; counted = refl; order = omega arith; within = h; same = rw left }))
commands_taken (suc k) number s at end cs bytes h e =
    go (command_at s at) refl e (λ next ds within e. commands_taken k (suc number) s next end ds bytes within e)
  where
    go : (x : Got Command) → command_at s at ≡ x → next_said x number (λ next. said_from k (suc number) s next) ≡ said cs end
        → ((next : ℕ) (ds : List Command) → next ≤ length s → said_from k (suc number) s next ≡ said ds end → Taken s k next end ds)
        → Taken s (suc k) at end cs
    go (refused told) is e rest = absurd (not_bad number told cs end e)
    go (got c next) is e rest =
        let t = taken_command s bytes at c next is in
        let o = onto-said c (said_from k (suc number) s next) cs end e in
        let r = rest next o.tail t.within o.is in
        let split : end - at ≡ (next - at) + (end - next) = omega (arith, r.order, t.moves) in
        let place : at + (next - at) ≡ next = omega (arith, t.moves) in
        subst (λ ds. Taken s (suc k) at end ds) o.whole (record {
          good = some t.held t.allowed r.good;
          counted = ap suc r.counted;
          order = omega (arith, r.order, t.moves);
          within = r.within;
          same = rw (split, take-add (next - at) (end - next) (drop at s), drop-drop (next - at) at s, place, ← t.same)
              (ap (λ l. stored_command c ++ l) r.same);
        })

-- The first two numbers of a list that is taken.
record Head (s : List ℕ) (count at : ℕ) : Type 0 where
  one : ℕ
  first : number_at s 0 ≡ got 1 one
  second : number_at s one ≡ got count at

head_taken : (s : List ℕ) (count at : ℕ) → count_at s ≡ got count at → Head s count at
unfolding count_at first_at
head_taken s count at e =
    let f = had (and_then (number_at s 0) (λ first end. passing (36 when not (eqb first 1) ∷ []) (got first end))) (λ first next. number_at s next) count at e in
    let n = had (number_at s 0) (λ first end. passing (36 when not (eqb first 1) ∷ []) (got first end)) f.value f.place f.is in
    let p = passed (36 when not (eqb n.value 1) ∷ []) (got n.value n.place) f.value f.place n.led in
    let one : n.value ≡ 1 = eqb-true n.value 1 (not-false (eqb n.value 1) ((order (36 when not (eqb n.value 1) ∷ []) refl).accepted.0 p.0).0) in
    let same = got_same p.1 in
    record { one = f.place; first = n.is ∙ p.1 ∙ ap (λ v. got v f.place) (sym same.0 ∙ one); second = f.led }

-- A stored list that is taken.
pub record Listed (s : List ℕ) (cs : List Command) (end : ℕ) : Type 0 where
  pub good : Good cs
  pub few : length cs < 2 ^ 32
  pub within : end ≤ length s
  pub same : stored_bytes cs ≡ take end s

pub listed : (s : List ℕ) (cs : List Command) (end : ℕ) → Bytes s → stored_says s ≡ said cs end → Listed s cs end
unfolding stored_says stored_bytes
listed s cs end bytes e = go (count_at s) refl e
  where
    go : (x : Got ℕ) → count_at s ≡ x → head_then x (λ count at. said_from count 1 s at) ≡ said cs end → Listed s cs end
    go (refused told) is e = absurd (not_bad 0 told cs end e)
    go (got count at) is e =
        let h = head_taken s count at is in
        let a = taken_number s 0 1 h.one h.first in
        let b = taken_number s h.one count at h.second in
        let t = commands_taken count 1 s at end cs bytes b.within e in
        let front = number_written (drop 0 s) 0 1 h.one bytes h.first in
        let next = number_written (drop h.one s) h.one count at (drop_bytes s h.one bytes) h.second in
        let one : h.one - 0 ≡ h.one = omega arith in
        let split : end ≡ h.one + ((at - h.one) + (end - at)) = omega (arith, b.moves, t.order) in
        let place : h.one + (at - h.one) ≡ at = omega (arith, b.moves) in
        record {
          good = t.good;
          few = omega (arith, b.small, t.counted);
          within = t.within;
          same = rw (
            split,
            take-add h.one ((at - h.one) + (end - at)) s,
            take-add (at - h.one) (end - at) (drop h.one s),
            drop-drop (at - h.one) h.one s,
            place,
            ← next,
            ← t.same,
            ← t.counted,
            front,
            one,
          );
        }

-- A raw command that was read.
pub record RawTaken (s : List ℕ) (c : Command) : Type 0 where
  pub allowed : judge_code c ≡ 0
  pub held : Held c
  pub same : command_bytes c ≡ take (span_of s) s

raw_own : (s : List ℕ) → Bytes s → read_code s ≡ 0 → RawTaken s (said_by s)
raw_own s bytes read =
    let passes : reach_code s ≡ 0 = reached s (λ e. omega arith) (λ e. omega arith) (λ e. omega arith) in
    record {
      allowed = read_allowed s read;
      held = read_held s (length_of s);
      same = written_back s bytes read ∙ ap (λ k. take k s) (sym (span_passed s passes));
    }

-- A reading that has a command, and one that has none.
pub raw_taken : (s : List ℕ) (told : Told) (c : Command) (cs : List Command) → Bytes s → read_of s ≡ record { told = told; taken = c ∷ cs } → RawTaken s c
unfolding read_of
raw_taken s told c cs bytes e = go (eqb (read_code s) 0) refl (ap (λ (a : Answer). a.taken) e)
  where
    go : (b : Bool) → eqb (read_code s) 0 ≡ b → cond b (said_by s ∷ []) [] ≡ c ∷ cs → RawTaken s c
    go true is same = let own : said_by s ≡ c = cc in subst (λ d. RawTaken s d) own (raw_own s bytes (eqb-true (read_code s) 0 is))
    go false is same = absurd (let z : ◌≡◌ {A = ℕ} 0 1 = cc in omega arith)

command_some : (c : Command) → 8 ≤ length (command_bytes c)
command_some c =
    omega (arith, length_command c, form_words (parts_of c.kind).form)

-- Good commands written raw are read as themselves.
pub raw_back : (cs : List Command) → Good cs → (number : ℕ) → raw_from number (rests (list_bytes cs)) ≡ said cs 0
unfolding raw_from list_bytes
raw_back [] none number = ap (raw_from number) rests_none
raw_back (c ∷ cs) (some held allowed good) number =
    let s = command_bytes c ++ list_bytes cs in
    let more : 0 < length (command_bytes c ++ list_bytes cs) = omega (arith, command_some c, length-append (command_bytes c) (list_bytes cs)) in
    let behind : drop (span_of s) s ≡ list_bytes cs = ap (λ k. drop k s) (span_back c (list_bytes cs)) ∙ drop-append_seam (command_bytes c) (list_bytes cs) in
    ap (raw_from number) (rests_more s more)
    ∙ ap (λ l. raw_next (read_of s) number (raw_from (suc number) (rests l))) behind
    ∙ ap (λ a. raw_next a number (raw_from (suc number) (rests (list_bytes cs)))) (read_back c (list_bytes cs) held allowed)
    ∙ ap (onto c) (raw_back cs good (suc number))

-- And a raw list that passes throughout is its commands written raw, all of them good.
pub record RawListed (s : List ℕ) (cs : List Command) : Type 0 where
  pub good : Good cs
  pub same : list_bytes cs ≡ s

raw_none : (number end : ℕ) (cs : List Command) → raw_from number (rests []) ≡ said cs end → RawListed [] cs
unfolding raw_from list_bytes
raw_none number end cs e =
    let none_is : said [] 0 ≡ said cs end = sym (ap (raw_from number) rests_none) ∙ e in
    subst (λ ds. RawListed [] ds) (said_same none_is).0 (record { good = none; same = refl })

raw_within : (fuel number : ℕ) (s : List ℕ) (cs : List Command) (end : ℕ) → Bytes s → length s ≤ fuel → raw_from number (rests s) ≡ said cs end → RawListed s cs
unfolding raw_from list_bytes
raw_within zero number [] cs end bytes h e = raw_none number end cs e
raw_within zero number (b ∷ s) cs end bytes h e = absurd (omega arith)
raw_within (suc fuel) number [] cs end bytes h e = raw_none number end cs e
raw_within (suc fuel) number (b ∷ s) cs end bytes h e =
    let more : 0 < length (b ∷ s) = omega arith in
    let first = sym (ap (raw_from number) (rests_more (b ∷ s) more)) ∙ e in
    go (read_of (b ∷ s)).told (read_of (b ∷ s)).taken refl first
    (λ ds e. raw_within fuel (suc number) (drop (span_of (b ∷ s)) (b ∷ s)) ds end (drop_bytes (b ∷ s) (span_of (b ∷ s)) bytes)
    (omega (arith, length-drop (span_of (b ∷ s)) (b ∷ s), span_some (b ∷ s) more)) e)
  where
    go : (told : Told) (taken : List Command) → read_of (b ∷ s) ≡ record { told = told; taken = taken }
        → next_told told taken number (raw_from (suc number) (rests (drop (span_of (b ∷ s)) (b ∷ s)))) ≡ said cs end
        → ((ds : List Command) → raw_from (suc number) (rests (drop (span_of (b ∷ s)) (b ∷ s))) ≡ said ds end → RawListed (drop (span_of (b ∷ s)) (b ∷ s)) ds)
        → RawListed (b ∷ s) cs
    go told [] is e rest = absurd (not_bad number told cs end e)
    go told (c ∷ others) is e rest =
        let o = onto-said c (raw_from (suc number) (rests (drop (span_of (b ∷ s)) (b ∷ s)))) cs end e in
        let r = rest o.tail o.is in
        let t = raw_taken (b ∷ s) told c others bytes is in
        subst (λ ds. RawListed (b ∷ s) ds) o.whole (record {
          good = some t.held t.allowed r.good;
          same = rw (t.same, r.same) (take-append-drop (span_of (b ∷ s)) (b ∷ s));
        })

pub raw_listed : (s : List ℕ) (cs : List Command) (end : ℕ) → Bytes s → raw_says s ≡ said cs end → RawListed s cs
unfolding raw_says
raw_listed s cs end bytes e = raw_within (length s) 1 s cs end bytes (omega arith) e

-- A raw list has a byte for each command at least.
pub raw_few : (cs : List Command) → length cs ≤ length (list_bytes cs)
unfolding list_bytes
raw_few [] = omega arith
raw_few (c ∷ cs) = omega (arith, raw_few cs, command_some c, length-append (command_bytes c) (list_bytes cs))
