-- The walk over a macro's entries that collects the group of a second: one law for each turn of it.
use Prim.Native.Nat.{ℕ, zero, suc, ◌+◌, ◌-◌, ◌≤◌, ◌<◌, min}
use mathlib.Core.Path.{◌≡◌, refl, sym, ap, ◌∙◌}
use mathlib.Core.List.{List, [], ◌∷◌}
use mathlib.Core.Bool.{Bool, true, false, cond, ◌&&◌}
use native.Mathlib.Omega.{arith}
use lib.ListN.{length, get_or, take, replicate}
use lib.Seq.{take_all}
use lib.Dec.{ltb}
use borrow.Author.Tests.{ltb-true}
use Rattle.wire.specs.declared.kinds.Kind.{Kind}
use Rattle.wire.specs.declared.kinds.Command.{Command}
use Rattle.store.specs.declared.Store.{Store}
use Rattle.store.specs.declared.pool.Entry.{Entry}
use Rattle.store.specs.declared.roles.Role.{Role}
use Rattle.store.specs.declared.spans.Beat.{Beat}
use Rattle.store.specs.declared.spans.Span.{Span}
use Rattle.store.specs.declared.groups.Group.{Group}
use Rattle.store.specs.declared.groups.Turn.{Turn}
use Rattle.store.specs.Roles.{role_of}
use Rattle.store.specs.Words.{no_command, commands_in}
use Rattle.store.specs.Pool.{is_closed, size_of, start_of, used_in, between}
use Rattle.store.specs.WrittenOut.{items_of, expand_as, expand, flat, most_in, written_out}
use Rattle.store.specs.Effects.{entry_words, group_words, group_of, group_due}
use Rattle.store.specs.PoolSteps.{command_in}
use Rattle.store.specs.SpanSteps.{no_span, length_of, beat_of, beat_in, leads, TellsBelow}
use Rattle.store.specs.GroupSteps.{words_in, words_at, Cursor, cursor_with, taken, waited, collected, over, turn_in, Clear, Walked, Due}
use Rattle.store.proofs.Flat.{items_append}
use Rattle.store.proofs.Parts.{look, part_of, parts_of, parts_are}
use Rattle.store.proofs.Places.{start_next, start_up}
use Rattle.store.proofs.Walk.{Walk, walk_start, walk_next, walk_end, entries_at}
use Rattle.store.proofs.SpanTable.{all_told, told_length}
use Rattle.store.proofs.Gathered.{collected-append, collected_done, collected-over, waited_none, length-collected, collected_shows}

-- The turns told apart.
abbrev tagged : Turn → ℕ
tagged Turn.Takes = 0
tagged (Turn.Waits n) = 1
tagged (Turn.Follows t) = 2

-- What the walk does at an entry collects what the entry adds to the macro's list.
module _ (s : Store) (m : ℕ) (table : List Span) (c : Cursor) (e : Command) where
  abbrev turn : Role → Turn
  turn role = turn_in s.closed table m c.left (beat_of role)

  abbrev adds : Role → Cursor
  adds role = collected c (items_of (expand_as (look s m) e.kind role))

  abbrev span_at : ℕ → Span
  span_at t = get_or table t no_span

  abbrev run_turn : Bool → Bool → ℕ → Turn
  run_turn leads past t = cond leads (cond past (Turn.Waits (span_at t).waits) (Turn.Follows t)) (Turn.Waits 0)

  takes_role : (role : Role) → role_of e.kind ≡ role → turn role ≡ Turn.Takes → adds role ≡ taken c (entry_words e.kind)
  unfolding collected
  takes_role Role.Plain is w = rw is
  takes_role (Role.Open n) is w = rw is
  takes_role Role.Close is w = rw is
  takes_role (Role.Run t) is w = absurd (go (leads s.closed m t) (over (span_at t) c.left) w)
    where
      go : (leads past : Bool) → run_turn leads past t ≡ Turn.Takes → ⊥
      go true true w = let z : ◌≡◌ {A = ℕ} 1 0 = ap tagged w in omega arith
      go true false w = let z : ◌≡◌ {A = ℕ} 2 0 = ap tagged w in omega arith
      go false past w = let z : ◌≡◌ {A = ℕ} 1 0 = ap tagged w in omega arith
  takes_role (Role.Wait n) is w = absurd (let z : ◌≡◌ {A = ℕ} 1 0 = ap tagged w in omega arith)
  takes_role Role.Stop is w = rw is
  takes_role Role.Clear is w = rw is

  turn_takes : turn_in s.closed table m c.left (beat_in e) ≡ Turn.Takes
      → collected c (items_of (part_of s m e)) ≡ taken c (entry_words e.kind)
  turn_takes is = takes_role (role_of e.kind) refl is

  waits_role : (role : Role) (n : ℕ) → TellsBelow s m table → c.done ≡ false → role_of e.kind ≡ role → turn role ≡ Turn.Waits n
      → adds role ≡ waited c n
  unfolding collected
  waits_role Role.Plain n told fresh is w = absurd (let z : ◌≡◌ {A = ℕ} 0 1 = ap tagged w in omega arith)
  waits_role (Role.Open k) n told fresh is w = absurd (let z : ◌≡◌ {A = ℕ} 0 1 = ap tagged w in omega arith)
  waits_role Role.Close n told fresh is w = absurd (let z : ◌≡◌ {A = ℕ} 0 1 = ap tagged w in omega arith)
  waits_role (Role.Run t) n told fresh is w = go (ltb t m) (is_closed s t) (over (span_at t) c.left) refl refl w
    where
      go : (below closed past : Bool) → ltb t m ≡ below → over (span_at t) c.left ≡ past → run_turn (below && closed) past t ≡ Turn.Waits n
          → collected c (items_of (cond (below && closed) (flat s t) [])) ≡ waited c n
      go true true true b o w =
          let same : (span_at t).waits ≡ n = cc in
          sym (collected-over c (items_of (flat s t)) (span_at t) (told t (ltb-true t m b)) o fresh) ∙ ap (waited c) same
      go true true false b o w = absurd (let z : ◌≡◌ {A = ℕ} 2 1 = ap tagged w in omega arith)
      go true false past b o w = let same : 0 ≡ n = cc in sym (waited_none c) ∙ ap (waited c) same
      go false closed past b o w = let same : 0 ≡ n = cc in sym (waited_none c) ∙ ap (waited c) same
  waits_role (Role.Wait k) n told fresh is w = let same : k ≡ n = cc in rw (is, same)
  waits_role Role.Stop n told fresh is w = absurd (let z : ◌≡◌ {A = ℕ} 0 1 = ap tagged w in omega arith)
  waits_role Role.Clear n told fresh is w = absurd (let z : ◌≡◌ {A = ℕ} 0 1 = ap tagged w in omega arith)

  turn_waits : (n : ℕ) → TellsBelow s m table → c.done ≡ false → turn_in s.closed table m c.left (beat_in e) ≡ Turn.Waits n
      → collected c (items_of (part_of s m e)) ≡ waited c n
  turn_waits n told fresh is = waits_role (role_of e.kind) n told fresh refl is

  follows_role : (role : Role) (t : ℕ) → turn role ≡ Turn.Follows t → (t < m) × (expand_as (look s m) e.kind role ≡ flat s t)
  follows_role Role.Plain t f = absurd (let z : ◌≡◌ {A = ℕ} 0 2 = ap tagged f in omega arith)
  follows_role (Role.Open k) t f = absurd (let z : ◌≡◌ {A = ℕ} 0 2 = ap tagged f in omega arith)
  follows_role Role.Close t f = absurd (let z : ◌≡◌ {A = ℕ} 0 2 = ap tagged f in omega arith)
  follows_role (Role.Run k) t f = go (ltb k m) (is_closed s k) (over (span_at k) c.left) refl f
    where
      go : (below closed past : Bool) → ltb k m ≡ below → run_turn (below && closed) past k ≡ Turn.Follows t
          → (t < m) × (cond (below && closed) (flat s k) [] ≡ flat s t)
      go true true true b f = absurd (let z : ◌≡◌ {A = ℕ} 1 2 = ap tagged f in omega arith)
      go true true false b f = let same : k ≡ t = cc in (omega (arith, ltb-true k m b), ap (flat s) same)
      go true false past b f = absurd (let z : ◌≡◌ {A = ℕ} 1 2 = ap tagged f in omega arith)
      go false closed past b f = absurd (let z : ◌≡◌ {A = ℕ} 1 2 = ap tagged f in omega arith)
  follows_role (Role.Wait k) t f = absurd (let z : ◌≡◌ {A = ℕ} 1 2 = ap tagged f in omega arith)
  follows_role Role.Stop t f = absurd (let z : ◌≡◌ {A = ℕ} 0 2 = ap tagged f in omega arith)
  follows_role Role.Clear t f = absurd (let z : ◌≡◌ {A = ℕ} 0 2 = ap tagged f in omega arith)

  turn_follows : (t : ℕ) → turn_in s.closed table m c.left (beat_in e) ≡ Turn.Follows t → (t < m) × (part_of s m e ≡ flat s t)
  turn_follows t is = follows_role (role_of e.kind) t is

-- A walk that has come to place i: what is left of the macro's entries, collected from here on, gives what the whole macro gives from the start.
pub record Walking (s : Store) (m : ℕ) (table : List Span) (from : Cursor) (end i : ℕ) (c : Cursor) : Type 0 where
  pub whole : length s.pool ≡ 576
  pub number : m < 8
  pub told : TellsBelow s m table
  pub clear : Clear s
  pub inside : end ≤ 192
  pub used : end ≤ used_in s
  pub room : length c.words ≡ 192
  pub rest : collected c (items_of (parts_of s m (between s.pool i (end - i)))) ≡ collected from (items_of (flat s m))

pub walk_opens : (s : Store) (m : ℕ) (table : List Span) (from : Cursor) (start size end : ℕ) → length s.pool ≡ 576
    → Walked s m table from.words → start ≡ start_of s.counts s.closed s.opened m
    → size ≡ size_of s.counts s.closed s.opened m → end ≡ min 192 (start + size)
    → Walking s m table from end start from
walk_opens s m table from start size end whole walked starts sized ends =
    let next = start_next s.counts s.closed s.opened m in
    let up = start_up s.counts s.closed s.opened (suc m) 8 (omega (arith, walked.number)) in
    record {
      whole = whole;
      number = walked.number;
      told = walked.told;
      clear = walked.clear;
      inside = omega arith;
      used = omega arith;
      room = walked.room;
      rest =
          ap (λ es. collected from (items_of (parts_of s m es)))
          (sym (walk_start s.pool start size end whole ends) ∙ entries_at s m start size starts sized)
          ∙ ap (λ ks. collected from (items_of ks)) (sym (parts_are s m));
    }

module _ {s : Store} {m : ℕ} {table : List Span} {from : Cursor} {end i : ℕ} {c : Cursor} (walking : Walking s m table from end i c) where
  -- At the end, or once the second looked for is closed, all is collected.
  pub walk_over : end ≤ i → c ≡ collected from (items_of (flat s m))
  unfolding collected expand
  walk_over past = ap (λ es. collected c (items_of (parts_of s m es))) (sym (walk_end s.pool end i past)) ∙ walking.rest

  pub walk_done : c.done ≡ true → c ≡ collected from (items_of (flat s m))
  walk_done done = sym (collected_done c (items_of (parts_of s m (between s.pool i (end - i)))) done) ∙ walking.rest

  -- What the walk over this macro has also serves a macro below it.
  pub walk_below : (t : ℕ) → t < m → Walked s t table c.words
  walk_below t less = record {
    number = omega (arith, walking.number);
    told = λ j below. walking.told j (omega arith);
    clear = walking.clear;
    room = walking.room;
  }

  -- At an entry, what it adds is collected, and the walk goes on.
  module _ (entry : Entry) (beat : Beat) (turn : Turn) (below : i < end) (read : command_in entry ≡ get_or (commands_in s.pool) i no_command)
      (beats : beat ≡ beat_in (command_in entry)) (turns : turn ≡ turn_in s.closed table m c.left beat) where
    abbrev command : Command
    command = command_in entry

    abbrev later : List Kind
    later = parts_of s m (between s.pool (i + 1) (end - (i + 1)))

    walk_on : (next : Cursor) → next ≡ collected c (items_of (part_of s m command)) → Walking s m table from end (i + 1) next
    unfolding expand
    walk_on next is = record {
      whole = walking.whole;
      number = walking.number;
      told = walking.told;
      clear = walking.clear;
      inside = walking.inside;
      used = walking.used;
      room = ap (λ (d : Cursor). length d.words) is ∙ length-collected c (items_of (part_of s m command)) ∙ walking.room;
      rest =
          ap (λ d. collected d (items_of later)) is
          ∙ sym (collected-append c (items_of (part_of s m command)) (items_of later))
          ∙ ap (collected c) (sym (items_append (part_of s m command) later))
          ∙ ap (λ es. collected c (items_of (parts_of s m es))) (sym (walk_next s.pool end i command walk below read))
          ∙ walking.rest;
    }
      where
        walk : Walk s.pool end
        walk = record { whole = walking.whole; inside = walking.inside }

    turn_is : (t : Turn) → turn ≡ t → turn_in s.closed table m c.left (beat_in command) ≡ t
    turn_is t is = ap (turn_in s.closed table m c.left) (sym beats) ∙ sym turns ∙ is

    pub walk_takes : (next : Cursor) → words_in entry ≡ words_at s.pool i → turn ≡ Turn.Takes → next ≡ taken c (words_in entry)
        → Walking s m table from end (i + 1) next
    walk_takes next laid is gives =
        let said : words_in entry ≡ entry_words command.kind =
        laid ∙ walking.clear i (omega (arith, walking.used)) ∙ ap (λ (e : Command). entry_words e.kind) (sym read) in
        walk_on next (gives ∙ ap (taken c) said ∙ sym (turn_takes s m table c command (turn_is Turn.Takes is)))

    pub walk_waits : (next : Cursor) (n : ℕ) → c.done ≡ false → turn ≡ Turn.Waits n → next ≡ waited c n → Walking s m table from end (i + 1) next
    walk_waits next n fresh is gives =
        walk_on next (gives ∙ sym (turn_waits s m table c command n walking.told fresh (turn_is (Turn.Waits n) is)))

    pub walk_follows : (next : Cursor) (t : ℕ) → turn ≡ Turn.Follows t → next ≡ collected c (items_of (flat s t))
        → Walking s m table from end (i + 1) next
    walk_follows next t is gives =
        walk_on next (gives ∙ ap (λ ks. collected c (items_of ks)) (sym (turn_follows s m table c command t (turn_is (Turn.Follows t) is)).1))

    pub follows_below : (t : ℕ) → turn ≡ Turn.Follows t → t < m
    follows_below t is = (turn_follows s m table c command t (turn_is (Turn.Follows t) is)).0

-- The walk from an empty group collects the group that is due.
pub walked_due : (s : Store) (m : ℕ) (table : List Span) (room : List ℕ) → Due s m table → length room ≡ 192 → Walked s m table room
walked_due s m table room due whole = record {
  number = due.number;
  told = λ j below. all_told s table due.told j (omega (arith, due.number));
  clear = due.clear;
  room = whole;
}

at_most : (gs : List (List Kind)) (k : ℕ) → length (get_or gs k []) ≤ most_in gs
unfolding most_in
at_most [] k = omega arith
at_most (g ∷ gs) zero = omega arith
at_most (g ∷ gs) (suc k) = omega (arith, at_most gs k)

same_group : {words shown : List ℕ} {count size : ℕ} → words ≡ shown → count ≡ size
    → ◌≡◌ {A = Group} (record { words = words; count = count }) (record { words = shown; count = size })
same_group p q = rw (p, q)

pub due_shown : (s : Store) (m left : ℕ) (table : List Span) (span : Span) (long k : ℕ) (r : Cursor) → Due s m table
    → span ≡ get_or table m no_span → long ≡ length_of span → k ≡ long - left
    → r ≡ collected (cursor_with (replicate 192 0) k 0 false) (items_of (flat s m))
    → ◌≡◌ {A = Group} (record { words = r.words; count = r.count }) (group_of (group_due s m left))
unfolding group_words written_out
due_shown s m left table span long k r due spans lasts passes is =
    let told = lasts ∙ ap length_of (spans ∙ all_told s table due.told m due.number) ∙ told_length s m in
    let place : k ≡ length (written_out s m) - left = omega (arith, due.whole) in
    let g : List Kind = get_or (written_out s m) k [] in
    let shows = collected_shows [] k (items_of (flat s m)) (omega arith) in
    let all : take 64 g ≡ g = take_all 64 g (omega (arith, at_most (written_out s m) k, due.few)) in
    same_group (ap (λ (c : Cursor). c.words) is ∙ shows.0) (ap (λ (c : Cursor). c.count) is ∙ shows.1)
    ∙ ap group_of (all ∙ ap (λ n. get_or (written_out s m) n []) place)
