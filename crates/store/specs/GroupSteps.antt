-- Steps of the implementation: no public promise of the product (`bench`, `wire`, `frame`) needs them.
-- The group of one second, collected entry by entry: the walk goes over a macro's entries, follows a RUN where it must, and passes it whole where its
-- seconds end before the one that is looked for.
use Rattle.std.specs.Prelude.{ℕ, ◌+◌, ◌*◌, ◌-◌, ◌≤◌, ◌<◌, ◌≡◌, List, [], ◌∷◌, Bool, true, cond, ◌&&◌, length, get_or, ltb, leb}
use Rattle.std.proofs.lemmas.List.Edits.{sets}
use Rattle.store.specs.declared.Store.{Store}
use Rattle.store.specs.declared.pool.Entry.{Entry}
use Rattle.store.specs.declared.spans.Beat.{Beat}
use Rattle.store.specs.declared.spans.Span.{Span}
use Rattle.store.specs.declared.groups.Spot.{Spot}
use Rattle.store.specs.declared.groups.Turn.{Turn}
use Rattle.store.specs.Pool.{used_in}
use Rattle.store.specs.WrittenOut.{Item, most_in, written_out}
use Rattle.store.specs.Effects.{entry_words, kind_at}
use Rattle.store.specs.SpanSteps.{no_span, seconds_of, spans_to, leads, TellsBelow}

-- The words of an entry as it is read, and those of entry i of a pool.
abbrev pub words_in : Entry → List ℕ
words_in e = e.head ∷ e.first ∷ e.second ∷ []

abbrev pub words_at : List ℕ → ℕ → List ℕ
words_at pool i = get_or pool (i * 3) 0 ∷ get_or pool (i * 3 + 1) 0 ∷ get_or pool (i * 3 + 2) 0 ∷ []

-- In a sound store the entries in use have the words of their kinds.
abbrev pub Clear : Store → Type 0
Clear s = (i : ℕ) → i < used_in s → words_at s.pool i ≡ entry_words (kind_at s.pool i)

-- A collection under way: the words so far with what lies behind them, how many entries they are, the seconds still to pass, and whether the second
-- looked for is closed.
pub record Cursor : Type 0 where
  pub words : List ℕ
  pub left : ℕ
  pub count : ℕ
  pub done : Bool

abbrev pub cursor_with : List ℕ → ℕ → ℕ → Bool → Cursor
cursor_with words left count done = record { words = words; left = left; count = count; done = done }

abbrev pub cursor_of : Spot → List ℕ → Cursor
cursor_of spot words = cursor_with words spot.left spot.count spot.done

abbrev pub ended : Cursor → Cursor
ended c = cursor_with c.words c.left c.count true

abbrev pub skipped : Cursor → ℕ → Cursor
skipped c seconds = cursor_with c.words (c.left - seconds) c.count c.done

abbrev pub pushed : Cursor → List ℕ → Cursor
pushed c words = cursor_with (sets c.words (c.count * 3) words) c.left (c.count + 1) c.done

-- An entry, by its words, is taken in its second, up to 64; a WAIT passes seconds, or closes the one looked for.
abbrev pub taken : Cursor → List ℕ → Cursor
taken c words = cond c.done c (cond (ltb 0 c.left) c (cond (leb 64 c.count) (ended c) (pushed c words)))

abbrev pub waited : Cursor → ℕ → Cursor
waited c n = cond c.done c (cond (leb n c.left) (skipped c n) (ended c))

abbrev pub step : Cursor → Item → Cursor
step c (Item.entry kind) = taken c (entry_words kind)
step c (Item.wait n) = waited c n

unfoldable pub collected : Cursor → List Item → Cursor
collected c [] = c
collected c (item ∷ items) = collected (step c item) items

-- Is a span told whole, and over before the second looked for?
abbrev pub over : Span → ℕ → Bool
over a left = ltb a.waits 601 && leb (seconds_of a) left

-- What the walk does at an entry of macro m: it takes it, or waits, or follows it. A RUN that is over is waited for as long as its target waits, and
-- one that adds nothing not at all.
abbrev pub turn_in : List Bool → List Span → ℕ → ℕ → Beat → Turn
turn_in closed table m left Beat.Entry = Turn.Takes
turn_in closed table m left (Beat.Wait n) = Turn.Waits n
turn_in closed table m left (Beat.Run target) =
    let span = get_or table target no_span in
    cond (leads closed m target) (cond (over span left) (Turn.Waits span.waits) (Turn.Follows target)) (Turn.Waits 0)

-- A WAIT changes the spot and not the words.
abbrev pub Waits : Spot → ℕ → Spot → Type 0
Waits spot seconds r = (words : List ℕ) → cursor_of r words ≡ waited (cursor_of spot words) seconds

-- What the walk over macro m is handed: the table of the spans below m, entries that have the words of their kinds, and room for 64 entries.
pub record Walked (s : Store) (m : ℕ) (table : List Span) (group : List ℕ) : Type 0 where
  pub number : m < 8
  pub told : TellsBelow s m table
  pub clear : Clear s
  pub room : length group ≡ 192

-- What the group that is due in macro m is worked out from: a macro whose seconds are told whole and have at most 64 entries, the table of all spans,
-- and entries that have the words of their kinds.
pub record Due (s : Store) (m : ℕ) (table : List Span) : Type 0 where
  pub number : m < 8
  pub whole : length (written_out s m) ≤ 600
  pub few : most_in (written_out s m) ≤ 64
  pub told : table ≡ spans_to s 8
  pub clear : Clear s
