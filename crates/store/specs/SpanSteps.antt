-- Steps of the implementation: no public promise of the product (`bench`, `wire`, `frame`) needs them.
-- What a list spans, without writing it out: the span of a joined list follows from the spans of its parts, so a table of the macros' spans is filled
-- from below, each macro by its entries and the table of those below it.
use Rattle.std.specs.Prelude.{ℕ, zero, suc, ◌+◌, ◌<◌, min, max, ◌≡◌, List, [], ◌∷◌, Bool, true, false, cond, ◌&&◌, ◌||◌, get_or, set, replicate, ltb, eqb}
use Rattle.wire.specs.declared.table.Form.{Form}
use Rattle.std.specs.Prelude.{Some}
use Rattle.wire.specs.declared.kinds.Command.{Command}
use Rattle.store.specs.declared.Store.{Store}
use Rattle.store.specs.declared.roles.Role.{Role}
use Rattle.store.specs.declared.spans.Beat.{Beat}
use Rattle.store.specs.declared.spans.Span.{Span}
use Rattle.store.specs.declared.spans.Measured.{Measured}
use Rattle.store.specs.Roles.{role_of}
use Rattle.store.specs.Words.{command_for}
use Rattle.store.specs.Pool.{start_of}
use Rattle.store.specs.WrittenOut.{Item, items_of, flat}

-- The sum of the waits, and whether there is a WAIT.
unfoldable pub waits_of : List Item → ℕ
waits_of [] = 0
waits_of (Item.entry kind ∷ items) = waits_of items
waits_of (Item.wait n ∷ items) = n + waits_of items

unfoldable pub waited_of : List Item → Bool
waited_of [] = false
waited_of (Item.entry kind ∷ items) = waited_of items
waited_of (Item.wait n ∷ items) = ltb 0 n || waited_of items

-- The entries of the first second, up to the first WAIT, and those behind the last WAIT.
unfoldable pub first_in : List Item → ℕ
first_in [] = 0
first_in (Item.entry kind ∷ items) = suc (first_in items)
first_in (Item.wait n ∷ items) = cond (ltb 0 n) 0 (first_in items)

unfoldable pub last_in : List Item → ℕ
last_in [] = 0
last_in (Item.entry kind ∷ items) = cond (waited_of items) (last_in items) (suc (last_in items))
last_in (Item.wait n ∷ items) = last_in items

-- The most entries in any second.
unfoldable pub most_of : List Item → ℕ
most_of [] = 0
most_of (Item.entry kind ∷ items) = max (suc (first_in items)) (most_of items)
most_of (Item.wait n ∷ items) = most_of items

abbrev pub span_with : ℕ → ℕ → ℕ → ℕ → Bool → Span
span_with waits first last most waited = record { waits = waits; first = first; last = last; most = most; waited = waited }

abbrev pub span_of : List Item → Span
span_of items = span_with (waits_of items) (first_in items) (last_in items) (most_of items) (waited_of items)

-- The spans of nothing, of so many entries, and of a WAIT, which is told up to 601 seconds.
abbrev pub no_span : Span
no_span = span_with 0 0 0 0 false

abbrev pub entries_span : ℕ → Span
entries_span n = span_with 0 n n n false

abbrev pub wait_span : ℕ → Span
wait_span n = span_with (min 601 n) 0 0 0 (ltb 0 n)

-- The span of two lists one after another: a part without a WAIT lets the second go on that the other one leaves open.
abbrev pub grown : Bool → ℕ → ℕ → ℕ
grown waited kept more = cond waited kept (kept + more)

abbrev pub both_of : Span → Span → Span
both_of a b =
    span_with
    (a.waits + b.waits)
    (grown a.waited a.first b.first)
    (grown b.waited b.last a.last)
    (max (max a.most b.most) (a.last + b.first))
    (a.waited || b.waited)

-- Spans are told up to 601 seconds and 65 entries: longer and fuller lists are refused at CLOSE, so no closed macro of a sound store has one.
abbrev pub capped_of : Span → Span
capped_of a = span_with (min 601 a.waits) (min 65 a.first) (min 65 a.last) (min 65 a.most) a.waited

abbrev pub joined_of : Span → Span → Span
joined_of a b = capped_of (both_of a b)

-- The span of a list and so many entries behind it.
abbrev pub behind : Span → ℕ → Span
behind a n = cond (eqb n 0) a (joined_of a (entries_span n))

-- "the length is the sum of the waits, plus 1 if the last entry is no WAIT"; and as it is told, up to 601.
abbrev pub seconds_of : Span → ℕ
seconds_of a = cond (ltb 0 a.last) (a.waits + 1) a.waits

abbrev pub length_of : Span → ℕ
length_of a = min 601 (seconds_of a)

-- The span of macro m, as it is told, and those of the macros below n, as a table of all eight; nothing for the others.
abbrev pub told_span : Store → ℕ → Span
told_span s m = capped_of (span_of (items_of (flat s m)))

unfoldable pub spans_to : Store → ℕ → List Span
spans_to s zero = replicate 8 no_span
spans_to s (suc n) = set (spans_to s n) n (told_span s n)

-- The same, and where macro n starts in the pool.
abbrev pub measured_to : Store → ℕ → Measured
measured_to s n = record { spans = spans_to s n; end = start_of s.counts s.closed s.opened n }

-- A table that tells the spans of the macros below m.
abbrev pub TellsBelow : Store → ℕ → List Span → Type 0
TellsBelow s m table = (j : ℕ) → j < m → get_or table j no_span ≡ told_span s j

-- What an entry is to the seconds of its macro, by its role: one that is handed over, a WAIT, or a RUN.
abbrev pub beat_of : Role → Beat
beat_of Role.Plain = Beat.Entry
beat_of (Role.Open m) = Beat.Entry
beat_of Role.Close = Beat.Entry
beat_of (Role.Run m) = Beat.Run m
beat_of (Role.Wait n) = Beat.Wait n
beat_of Role.Stop = Beat.Entry
beat_of Role.Clear = Beat.Entry

abbrev pub beat_in : Command → Beat
beat_in e = beat_of (role_of e.kind)

-- The same by a form and two arguments; out of range they are no command.
abbrev pub beat_as : Form → ℕ → ℕ → Beat
beat_as form first second = beat_in (command_for (Some (form, 0)) true first second)

-- Does a RUN in macro m add anything? Its target is a closed macro with a smaller number.
abbrev pub leads : List Bool → ℕ → ℕ → Bool
leads closed m target = ltb target m && get_or closed target false

-- The span of an entry of macro m by a table.
abbrev pub span_in : List Bool → List Span → ℕ → Beat → Span
span_in closed table m Beat.Entry = entries_span 1
span_in closed table m (Beat.Wait n) = wait_span n
span_in closed table m (Beat.Run target) = cond (leads closed m target) (get_or table target no_span) no_span

-- The span of what is summed so far and of several entries of macro m behind it.
unfoldable pub spans_from : List Bool → List Span → ℕ → Span → List Command → Span
spans_from closed table m sum [] = sum
spans_from closed table m sum (e ∷ es) = spans_from closed table m (joined_of sum (span_in closed table m (beat_in e))) es
