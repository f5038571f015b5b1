-- Steps of the implementation: no public promise of the product (`bench`, `wire`, `frame`) needs them.
-- A tally: the store without its pool, and what each macro spans. It is all that rows 11 to 19 and 25 ask, so the commands of a list are judged and
-- take effect by it, and only an append touches the pool.
use Rattle.std.specs.Prelude.{ℕ, ◌+◌, ◌≡◌, ◌⊎◌, List, [], ◌∷◌, Bool, true, false, cond, not, ◌&&◌, length, get_or, set, replicate, leb, eqb}
use Rattle.words.specs.Codes.{Check, ◌when◌, first_of}
use Rattle.wire.specs.declared.table.Form.{Form}
use Rattle.std.specs.Prelude.{Some}
use Rattle.wire.specs.declared.kinds.Command.{Command}
use Rattle.store.specs.declared.Store.{Store}
use Rattle.store.specs.declared.roles.Role.{Role}
use Rattle.store.specs.declared.spans.Span.{Span}
use Rattle.store.specs.declared.tally.Tally.{Tally}
use Rattle.store.specs.declared.tally.Survey.{Survey}
use Rattle.store.specs.Roles.{role_of, is_plain}
use Rattle.store.specs.Words.{command_for}
use Rattle.store.specs.Pool.{is_closed, used_of, free_of, takes, words_after}
use Rattle.store.specs.SpanSteps.{no_span, joined_of, length_of, told_span, spans_to, beat_of, span_in}
use Rattle.store.specs.Checks.{row16, row17, row18, row19, rows_for}
use Rattle.store.specs.Effects.{store_with}
use Rattle.store.specs.Sound.{all_of, entry_holds, store_sound}

abbrev pub tally_with : List ℕ → List Bool → List Span → ℕ → ℕ → ℕ → Tally
tally_with counts closed spans opened running left =
    record { counts = counts; closed = closed; spans = spans; opened = opened; running = running; left = left }

-- The tally of a store, the one without its spans, and a store from its pool and its tally.
abbrev pub tally_of : Store → Tally
tally_of s = tally_with s.counts s.closed (spans_to s 8) s.opened s.running s.left

abbrev pub bare_of : Store → Tally
bare_of s = tally_with s.counts s.closed (replicate 8 no_span) s.opened s.running s.left

abbrev pub store_of : List ℕ → Tally → Store
store_of pool t = store_with pool t.counts t.closed t.opened t.running t.left

-- What a survey of a store finds.
abbrev pub survey_of : Store → Survey
survey_of s = record { sound = store_sound s; tally = tally_of s }

-- What a tally tells of macro m, how many entries the open macro has, and what it spans so far.
abbrev pub span_by : Tally → ℕ → Span
span_by t m = get_or t.spans m no_span

abbrev pub open_count : Tally → ℕ
open_count t = get_or t.counts t.opened 0

abbrev pub open_span : Tally → Span
open_span t = span_by t t.opened

-- The entries in use and the free ones, and whether an append is taken.
abbrev pub used_by : Tally → ℕ
used_by t = used_of t.counts t.closed t.opened

abbrev pub free_by : Tally → ℕ
free_by t = free_of t.counts t.closed t.opened

abbrev pub takes_by : Tally → Bool
takes_by t = takes t.counts t.closed t.opened

-- A plain command that is executed: the store neither refuses nor keeps it.
abbrev pub passes_by : Bool → Role → Bool
passes_by flag role = not flag && is_plain role

-- Rows 11 to 19 and 25, by a tally.
abbrev pub tally_checks : Tally → Command → List Check
tally_checks t c =
    rows_for c.flag (role_of c.kind) t.opened t.closed (open_count t) (length_of (open_span t)) (open_span t).most (used_by t) t.running

unfoldable pub tally_code : Tally → Command → ℕ
tally_code t c = first_of (tally_checks t c)

-- Rows 16 to 19 alone: the code tries them past the others.
abbrev pub entry_checks : Bool → Role → ℕ → List Bool → ℕ → ℕ → List Check
entry_checks flag role used closed opened running =
    16 when row16 flag used ∷ 17 when row17 flag role opened ∷ 18 when row18 role closed ∷ 19 when row19 flag role running ∷ []

-- One entry more of the open macro, whose span is joined with that entry's.
abbrev pub appended_by : Tally → Role → Tally
appended_by t role =
    cond (takes_by t)
    (tally_with
    (set t.counts t.opened (open_count t + 1))
    t.closed
    (set t.spans t.opened (joined_of (open_span t) (span_in t.closed t.spans t.opened (beat_of role))))
    t.opened
    t.running
    t.left)
    t

-- An executed command: plain ones are not the store's.
abbrev pub executed_by : Tally → Role → Tally
executed_by t Role.Plain = t
executed_by t (Role.Open m) = tally_with (set t.counts m 0) t.closed (set t.spans m no_span) m t.running t.left
executed_by t Role.Close = tally_with t.counts (set t.closed t.opened true) t.spans 255 t.running t.left
executed_by t (Role.Run m) = tally_with t.counts t.closed t.spans t.opened m (length_of (span_by t m))
executed_by t (Role.Wait n) = t
executed_by t Role.Stop = tally_with t.counts t.closed t.spans t.opened 255 0
executed_by t Role.Clear = tally_with (replicate 8 0) (replicate 8 false) t.spans 255 t.running t.left

-- The tally and the pool after an accepted command.
unfoldable pub tally_after : Tally → Command → Tally
tally_after t c = cond c.flag (appended_by t (role_of c.kind)) (executed_by t (role_of c.kind))

abbrev pub pool_after : List ℕ → Tally → Command → List ℕ
pool_after pool t c = cond c.flag (words_after pool t.counts t.closed t.opened c) pool

-- The rules of macro m: on an entry with flag 1 by its form and arguments, on its entries, and by a tally that has the spans.
abbrev pub form_holds : List Bool → ℕ → Form → ℕ → ℕ → Bool
form_holds closed m form first second = entry_holds closed m (command_for (Some (form, 0)) true first second)

abbrev pub entries_by : List Bool → ℕ → List Command → Bool
entries_by closed m es = all_of (entry_holds closed m) es

abbrev pub macro_by : Tally → ℕ → List Command → Bool
macro_by t m es =
    cond (get_or t.closed m false)
    (leb 1 (get_or t.counts m 0)
    && leb 1 (length_of (span_by t m))
    && leb (length_of (span_by t m)) 600
    && leb (span_by t m).most 64
    && entries_by t.closed m es)
    (cond (eqb t.opened m) (entries_by t.closed m es) true)

-- A tally that is true of a store: its numbers and marks, and the span of each macro that is closed or open.
pub record Tallied (s : Store) (t : Tally) : Type 0 where
  pub same : store_of s.pool t ≡ s
  pub eight : length t.spans ≡ 8
  pub spans : (m : ℕ) → (is_closed s m ≡ true) ⊎ (m ≡ s.opened) → span_by t m ≡ told_span s m
