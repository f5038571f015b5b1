-- `gather`, turn by turn: what is gathered of the bytes before a place, and what those from there on give, is what the whole list gives.
use Prim.Native.Nat.{ℕ, ◌+◌, ◌*◌, ◌-◌, ◌/◌, ◌%◌, ◌≤◌, ◌<◌}
use mathlib.Core.Path.{◌≡◌, refl, sym, ap, ◌∙◌}
use mathlib.Core.Logic.{◌≢◌}
use mathlib.Core.List.{List, [], ◌∷◌, ◌++◌, append_assoc, append-nil}
use mathlib.Core.Bool.{Bool, true, false, cond}
use native.Mathlib.Omega.{arith}
use lib.ListN.{length, take, drop, get_or, length-drop, drop_of_length-le}
use lib.Seq.{sets, length-sets, drop-drop, length-take-le}
use lib.Dec.{eqb, leb}
use borrow.Author.Tests.{ne_eqb, eqb-false}
use Rattle.words.specs.Text.{place_after, stored_at}
use Rattle.words.proofs.Stores.{place_fits, stored_fits, front_more}
use Rattle.wire.specs.Read.{span_of}
use Rattle.walk.proofs.Turns.{from_place}
use Rattle.rescue.specs.Pieces.{passing, kept, skipped, pieces_of, kept_in, kept_of}
use Rattle.rescue.specs.Pieces.{Stretch, stretch_to, stretches_in, stretches_of, stretch_bytes, table_of}
use Rattle.rescue.specs.Steps.{Gathered}
use Rattle.rescue.proofs.Passing.{passing_eight}
use Rattle.rescue.proofs.Pieces.{pieces_none, pieces_kept, pieces_skip}

-- The table of stretches and of more behind them, and its length.
pub table_append : (xs ys : List Stretch) → table_of (xs ++ ys) ≡ table_of xs ++ table_of ys
unfolding table_of
table_append [] ys = refl
table_append (x ∷ xs) ys = ap (λ l. stretch_bytes x ++ l) (table_append xs ys)

pub length_table : (xs : List Stretch) → length (table_of xs) ≡ 4 * length xs
unfolding table_of
length_table [] = refl
length_table (x ∷ xs) = omega (arith, length_table xs)

-- What `put_stretch` puts: nothing where no byte was skipped, else two numbers of 16 bits as one of 32.
pub nothing_skipped : (pos end run : ℕ) (table : List ℕ) → run ≡ 0
    → (pos ≡ place_after (table_of (stretch_to end run)) pos table) × (table ≡ stored_at (table_of (stretch_to end run)) pos table)
unfolding table_of
nothing_skipped pos end run table none = rw none (place (leb (pos + 0) (length table)), room (leb (pos + 0) (length table)))
  where
    place : (b : Bool) → pos ≡ cond b (pos + 0) pos
    place true = omega arith
    place false = refl

    room : (b : Bool) → table ≡ cond b table table
    room true = refl
    room false = refl

-- The two bytes of a number of 16 bits, as the library gives them.
abbrev halves : ℕ → List ℕ
halves v = v / 256 % 256 ∷ v % 256 ∷ []

pub both_numbers : (end run : ℕ) (start size : List ℕ) → run ≢ 0 → run ≤ end → end ≤ 4096 → start ≡ halves (end - run) → size ≡ halves run
    → get_or start 0 0 ∷ get_or start 1 0 ∷ get_or size 0 0 ∷ get_or size 1 0 ∷ [] ≡ table_of (stretch_to end run)
unfolding table_of
both_numbers end run start size some within few is_start is_size =
    let first : (end - run) / 256 % 256 ≡ (end - run) / 256 = omega arith in
    let second : run / 256 % 256 ≡ run / 256 = omega arith in
    rw (is_start, is_size, first, second, ne_eqb run 0 some)

-- A stretch takes four bytes of the table, and skips a byte at least.
stretch_length : (end run : ℕ) → (9 * length (table_of (stretch_to end run)) ≤ 32 + 4 * run) × (length (table_of (stretch_to end run)) ≤ 4)
stretch_length end run = go (eqb run 0) refl
  where
    one : List Stretch
    one = record { start = end - run; size = run } ∷ []

    go : (b : Bool) → eqb run 0 ≡ b → (9 * length (table_of (cond b [] one)) ≤ 32 + 4 * run) × (length (table_of (cond b [] one)) ≤ 4)
    go true is = (omega (arith, length_table []), omega (arith, length_table []))
    go false is =
        let some = eqb-false run 0 is in
        let more : 0 < run = omega arith in
        (omega (arith, length_table one), omega (arith, length_table one))

-- What was gathered of the bytes before a place, the last `run` of which were skipped.
pub record Gathering (s buffer₀ table₀ buffer table : List ℕ) (at run n m : ℕ) : Type 0 where
  pub short : length s ≤ 4096
  pub kept_long : 4096 ≤ length buffer₀
  pub table_long : 1824 ≤ length table₀
  pub kept_same : length buffer ≡ length buffer₀
  pub table_same : length table ≡ length table₀
  pub within : at ≤ length s
  pub run_within : run ≤ at
  pub kept_within : n ≤ at
  pub table_few : 9 * m + 4 * run ≤ 4 * at
  pub kept_front : take n buffer ++ kept_in (pieces_of (drop at s)) ≡ kept_of s
  pub table_front : take m table ++ table_of (stretches_in at run (pieces_of (drop at s))) ≡ table_of (stretches_of s)

pub none_gathered : (s buffer table : List ℕ) → length s ≤ 4096 → 4096 ≤ length buffer → 1824 ≤ length table → Gathering s buffer table buffer table 0 0 0 0
none_gathered s buffer table short kept_long table_long =
    record {
      short = short;
      kept_long = kept_long;
      table_long = table_long;
      kept_same = refl;
      table_same = refl;
      within = omega arith;
      run_within = omega arith;
      kept_within = omega arith;
      table_few = omega arith;
      kept_front = refl;
      table_front = refl;
    }

module _ (s buffer₀ table₀ buffer table : List ℕ) (at run n m : ℕ) (g : Gathering s buffer₀ table₀ buffer table at run n m) where
  -- The table has room for a stretch that ends here.
  table_room : m + length (table_of (stretch_to at run)) ≤ length table
  table_room = omega (arith, stretch_length at run, g.table_few, g.table_same, g.table_long, g.within, g.short)

  -- A turn: whether the command at this place passes.
  module _ (p : Bool) (more : at < length s) (is : p ≡ passing (take (length s - at) (drop at s))) where
    here : p ≡ passing (drop at s)
    here = is ∙ ap passing (from_place s at)

    -- It does not: one byte is skipped.
    module _ (fails : p ≡ false) where
      skips : pieces_of (drop at s) ≡ skipped (get_or (drop at s) 0 0) ∷ pieces_of (drop (at + 1) s)
      skips =
          pieces_skip (drop at s) (sym here ∙ fails) (omega (arith, length-drop at s))
          ∙ ap (λ l. skipped (get_or (drop at s) 0 0) ∷ pieces_of l) (drop-drop 1 at s)

      pub fewer_behind_byte : length (pieces_of (drop (at + 1) s)) < length (pieces_of (drop at s))
      fewer_behind_byte = omega (arith, ap length skips)

      pub skip_turn : Gathering s buffer₀ table₀ buffer table (at + 1) (run + 1) n m
      unfolding kept_in stretches_in
      skip_turn =
          record {
            short = g.short;
            kept_long = g.kept_long;
            table_long = g.table_long;
            kept_same = g.kept_same;
            table_same = g.table_same;
            within = omega arith;
            run_within = omega (arith, g.run_within);
            kept_within = omega (arith, g.kept_within);
            table_few = omega (arith, g.table_few);
            kept_front = rw skips at g.kept_front;
            table_front = rw skips at g.table_front;
          }

    -- It does: the stretch before it ends, and it is kept.
    module _ (passed : p ≡ true) (span : ℕ) (own : span ≡ span_of (take (length s - at) (drop at s))) where
      is_span : span ≡ span_of (drop at s)
      is_span = own ∙ ap span_of (from_place s at)

      -- How far it reaches.
      pub reach : (at + 8 ≤ at + span) × (at + span ≤ length s)
      reach = (omega (arith, passing_eight (drop at s) (sym here ∙ passed), is_span), omega (arith, passing_eight (drop at s) (sym here ∙ passed), is_span, length-drop at s))

      abbrev bytes : List ℕ
      bytes = take (at + span - at) (drop at s)

      length_kept : length bytes ≡ span
      length_kept = length-take-le (at + span - at) (drop at s) (omega (arith, reach, length-drop at s)) ∙ omega arith

      keeps : pieces_of (drop at s) ≡ kept bytes ∷ pieces_of (drop (at + span) s)
      keeps =
          pieces_kept (drop at s) (sym here ∙ passed)
          ∙ ap (λ k. kept (take k (drop at s)) ∷ pieces_of (drop k (drop at s))) (sym is_span)
          ∙ ap (λ k. kept (take k (drop at s)) ∷ pieces_of (drop span (drop at s))) (sym there)
          ∙ ap (λ l. kept bytes ∷ pieces_of l) (drop-drop span at s)
        where
          there : at + span - at ≡ span
          there = omega arith

      pub fewer_behind : length (pieces_of (drop (at + span) s)) < length (pieces_of (drop at s))
      fewer_behind = omega (arith, ap length keeps)

      module _ (n' m' : ℕ) (buffer' table' : List ℕ)
          (next_stretch : m' ≡ place_after (table_of (stretch_to at run)) m table) (put_stretch : table' ≡ stored_at (table_of (stretch_to at run)) m table)
          (next_kept : n' ≡ place_after bytes n buffer) (put_kept : buffer' ≡ stored_at bytes n buffer) where
        abbrev mark : List ℕ
        mark = table_of (stretch_to at run)

        kept_room : n + length bytes ≤ length buffer
        kept_room = omega (arith, length_kept, reach, g.kept_within, g.kept_same, g.kept_long, g.short)

        is_n : n' ≡ n + length bytes
        is_n = next_kept ∙ place_fits bytes n buffer kept_room

        is_m : m' ≡ m + length mark
        is_m = next_stretch ∙ place_fits mark m table table_room

        kept_now : buffer' ≡ sets buffer n bytes
        kept_now = put_kept ∙ stored_fits bytes n buffer kept_room

        table_now : table' ≡ sets table m mark
        table_now = put_stretch ∙ stored_fits mark m table table_room

        pub keep_turn : Gathering s buffer₀ table₀ buffer' table' (at + span) 0 n' m'
        unfolding kept_in stretches_in
        keep_turn =
            record {
              short = g.short;
              kept_long = g.kept_long;
              table_long = g.table_long;
              kept_same = ap length kept_now ∙ length-sets buffer n bytes ∙ g.kept_same;
              table_same = ap length table_now ∙ length-sets table m mark ∙ g.table_same;
              within = reach.1;
              run_within = omega arith;
              kept_within = omega (arith, is_n, length_kept, g.kept_within);
              table_few = omega (arith, is_m, stretch_length at run, g.table_few, reach);
              kept_front = rw (kept_now, is_n, front_more buffer n bytes kept_room, append_assoc) (rw keeps at g.kept_front);
              table_front =
                  rw (table_now, is_m, front_more table m mark table_room, append_assoc, ← table_append)
                  (rw (keeps, length_kept) at g.table_front);
            }

  -- The list's end: the last stretch ends.
  pub gathered : (m' : ℕ) (table' : List ℕ) → length s ≤ at → m' ≡ place_after (table_of (stretch_to at run)) m table
      → table' ≡ stored_at (table_of (stretch_to at run)) m table → Gathered s buffer table' (record { kept = n; table = m' })
  unfolding kept_in stretches_in
  gathered m' table' end next put =
      let mark = table_of (stretch_to at run) in
      let none : pieces_of (drop at s) ≡ [] = ap pieces_of (drop_of_length-le s {i = at} end) ∙ pieces_none in
      let is_m : m' ≡ m + length mark = next ∙ place_fits mark m table table_room in
      let table_now : table' ≡ sets table m mark = put ∙ stored_fits mark m table table_room in
      record {
        kept_fits = omega (arith, g.kept_within, g.within, g.short, g.kept_same, g.kept_long);
        table_fits = omega (arith, is_m, table_room, ap length table_now ∙ length-sets table m mark);
        kept_front = sym (append-nil (take n buffer)) ∙ rw none at g.kept_front;
        table_front = rw (table_now, is_m, front_more table m mark table_room) (rw none at g.table_front);
      }
