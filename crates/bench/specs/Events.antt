-- What can happen to a bench, one thing after another: commands, decoded or from bytes, seconds, runs of two lists, and runs of a typed list; and which
-- commands are accepted, and which take effect, as it happens.
use Rattle.std.specs.Prelude.{ℕ, zero, suc, ◌≡◌, List, [], ◌∷◌, ◌++◌, Bool, false, cond, not, ◌&&◌, ◌||◌, eqb}
use Rattle.wire.specs.declared.kinds.Kind.{Kind}
use Rattle.wire.specs.declared.kinds.Command.{Command}
use Rattle.wire.specs.Read.{said}
use Rattle.walk.specs.Walk.{rests}
use Rattle.text.specs.Assemble.{bytes_in}
use Rattle.store.specs.declared.roles.Role.{Role}
use Rattle.store.specs.Roles.{role_of}
use Rattle.bench.specs.declared.Bench.{Bench}
use Rattle.bench.specs.Status.{fresh_bench}
use Rattle.bench.specs.Carry.{taken, carry_code, carry_bytes_code, carry_out, carry_out_bytes}
use Rattle.bench.specs.Second.{second_at}
use Rattle.bench.specs.Run.{run_code, run_of}
use Rattle.bench.specs.Typed.{typed_found, typed_of}

pub data Event : Type 0 where
  command : Command → Event
  bytes : List ℕ → Event
  second : Event
  run : (kit pupil room : List ℕ) → Event
  typed : (kit text room : List ℕ) → Event

-- The bench after one event, and after several.
abbrev pub after_one : Bench → Event → Bench
after_one b (command c) = (carry_out b c).bench
after_one b (bytes s) = (carry_out_bytes b s).bench
after_one b second = (second_at b).bench
after_one b (run kit pupil room) = (run_of b kit pupil room).bench
after_one b (typed kit text room) = (typed_of b kit text room).bench

abbrev pub after : Bench → List Event → Bench
after b [] = b
after b (e ∷ es) = after (after_one b e) es

-- "any state reached from a fresh one"
pub record Reached (b : Bench) : Type 0 where
  pub events : List Event
  pub reached : after fresh_bench events ≡ b

-- How many seconds pass: each is an event of its own, and a run takes none.
abbrev pub seconds_in : List Event → ℕ
seconds_in [] = zero
seconds_in (command c ∷ es) = seconds_in es
seconds_in (bytes s ∷ es) = seconds_in es
seconds_in (second ∷ es) = suc (seconds_in es)
seconds_in (run kit pupil room ∷ es) = seconds_in es
seconds_in (typed kit text room ∷ es) = seconds_in es

-- Is this command one that executes such a role?
abbrev pub executes : (Role → Bool) → Command → Bool
executes test c = not c.flag && test (role_of c.kind)

-- Is it one, and was it accepted with code 0?
abbrev pub takes : (Role → Bool) → ℕ → Command → Bool
takes test code c = eqb code 0 && executes test c

-- Is one of the commands of a run? Each is given as it finds its list, and is taken on the bench that the ones before it left.
abbrev pub takes_any : (Role → Bool) → Bench → List (List ℕ) → Bool
takes_any test b [] = false
takes_any test b (r ∷ rs) = takes test (taken b r).told.code (said r) || takes_any test (taken b r).bench rs

-- Does this event bring an accepted command that executes such a role? A run that is refused brings none.
abbrev pub accepts : (Role → Bool) → Bench → Event → Bool
accepts test b (command c) = takes test (carry_code b c) c
accepts test b (bytes s) = takes test (carry_bytes_code b s) (said s)
accepts test b second = false
accepts test b (run kit pupil room) = eqb (run_code b kit pupil room) 0 && takes_any test b (rests kit ++ rests pupil)
accepts test b (typed kit text room) = eqb (typed_found b kit text room).told.code 0 && takes_any test b (rests kit ++ rests (bytes_in text))

-- Is one accepted meanwhile?
abbrev pub accepts_any : (Role → Bool) → Bench → List Event → Bool
accepts_any test b [] = false
accepts_any test b (e ∷ es) = accepts test b e || accepts_any test (after_one b e) es

-- 02, Q-8: a command "has taken effect" once it was executed with code 0 ..
abbrev pub executed_as : ℕ → Command → List Kind
executed_as code c = cond (eqb code 0 && not c.flag) (c.kind ∷ []) []

-- (so of the commands of a run, in turn)
abbrev pub executed_in_turn : Bench → List (List ℕ) → List Kind
executed_in_turn b [] = []
executed_in_turn b (r ∷ rs) = executed_as (taken b r).told.code (said r) ++ executed_in_turn (taken b r).bench rs

-- .. or was handed over by a running macro with code 0.
abbrev pub handed_with_zero : List Kind → List ℕ → List Kind
handed_with_zero [] codes = []
handed_with_zero (k ∷ ks) [] = []
handed_with_zero (k ∷ ks) (code ∷ codes) = cond (eqb code 0) (k ∷ handed_with_zero ks codes) (handed_with_zero ks codes)

-- The commands that take effect in an event, in order.
abbrev pub in_effect : Bench → Event → List Kind
in_effect b (command c) = executed_as (carry_code b c) c
in_effect b (bytes s) = executed_as (carry_bytes_code b s) (said s)
in_effect b second = handed_with_zero (second_at b).handed (second_at b).codes
in_effect b (run kit pupil room) = cond (eqb (run_code b kit pupil room) 0) (executed_in_turn b (rests kit ++ rests pupil)) []
in_effect b (typed kit text room) = cond (eqb (typed_found b kit text room).told.code 0) (executed_in_turn b (rests kit ++ rests (bytes_in text))) []
