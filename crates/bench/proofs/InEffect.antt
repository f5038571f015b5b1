-- What the commands that take effect in an event (`in_effect`, specs/Events) do to the camera: an event leaves the camera that they leave, executed one
-- after another, in a second behind the step of each series; and their arguments are in range.
use Prim.Native.Nat.{ℕ, zero, suc, ◌<◌}
use mathlib.Core.Path.{◌≡◌, refl, sym, ap, ap₂, ◌∙◌, subst}
use mathlib.Core.List.{List, [], ◌∷◌, ◌++◌, append_assoc}
use mathlib.Core.Bool.{Bool, true, false, cond, not, ◌&&◌}
use native.Mathlib.Omega.{arith}
use lib.ListN.{length, get_or, take, drop}
use lib.Dec.{eqb}
use borrow.Author.Tests.{eqb-true}
use Rattle.words.specs.Codes.{first_of}
use Rattle.wire.specs.declared.kinds.Kind.{Kind}
use Rattle.wire.specs.declared.kinds.Command.{Command}
use Rattle.wire.specs.declared.kinds.Parts.{Parts}
use Rattle.wire.specs.Kind.{parts_of}
use Rattle.wire.specs.Judge.{bad_in, judge_code}
use Rattle.wire.specs.Read.{said_parts, said}
use Rattle.walk.specs.Walk.{rests}
use Rattle.text.specs.Assemble.{line_numbers, bytes_in}
use Rattle.camera.specs.declared.Camera.{Camera}
use Rattle.camera.specs.Camera.{executed_of, camera_second, dark}
use Rattle.store.specs.Effects.{applied_of}
use Rattle.store.proofs.Contents.{all_append}
use Rattle.store.proofs.Handed.{All, Plain, handed_plainly}
use Rattle.bench.specs.declared.Bench.{Bench}
use Rattle.bench.specs.Carry.{outcome_for, carry_code, carry_out, bytes_checks, taken, carry_bytes_code, carry_out_bytes}
use Rattle.bench.specs.Second.{executed_all, handed_codes, second_at}
use Rattle.bench.specs.Run.{own_numbers, ended_with, run_code, run_of}
use Rattle.bench.specs.Typed.{typed_found, typed_of}
use Rattle.bench.specs.Events.{Event, command, bytes, second, run, typed, after_one}
use Rattle.bench.specs.Events.{executed_as, executed_in_turn, handed_with_zero, in_effect}
use Rattle.bench.proofs.InTurn.{left_by, own_even, typed_even, both_left}
use Rattle.bench.proofs.Camera.{allowed_range}
use Rattle.bench.proofs.Sound.{GoodBench, good_store, command_accepted, bytes_accepted, read_accepted}
use Rattle.bench.proofs.Dark.{codes_are}
use Rattle.bench.proofs.MacroRun.{handed_is}
use Rattle.bench.proofs.Slips.{in_order}

-- Kinds executed one after another.
abbrev pub each_of : Camera → List Kind → Camera
each_of c [] = c
each_of c (k ∷ ks) = each_of (executed_of c k) ks

pub each_append : (c : Camera) (xs ys : List Kind) → each_of c (xs ++ ys) ≡ each_of (each_of c xs) ys
each_append c [] ys = refl
each_append c (x ∷ xs) ys = each_append (executed_of c x) xs ys

-- The camera that an event's commands find: in a second each series has taken its step.
abbrev pub stepped : Bench → Event → Camera
stepped b (command c) = b.camera
stepped b (bytes s) = b.camera
stepped b second = camera_second b.camera
stepped b (run kit pupil room) = b.camera
stepped b (typed kit text room) = b.camera

outcome_camera : (code : ℕ) (parts : Parts) (b : Bench) (c : Command) → (outcome_for code parts b c).bench.camera ≡ each_of b.camera (executed_as code c)
outcome_camera code parts b c = go (eqb code 0) c.flag
  where
    effect : Bool → Bench
    effect flag =
        record { camera = cond flag b.camera (executed_of b.camera c.kind); store = applied_of b.store c; latest = b.latest }

    go : (zero flag : Bool) → (cond zero (effect flag) b).camera ≡ each_of b.camera (cond (zero && not flag) (c.kind ∷ []) [])
    go true true = refl
    go true false = refl
    go false flag = refl

taken_camera : (b : Bench) (s : List ℕ) → (taken b s).bench.camera ≡ each_of b.camera (executed_as (taken b s).told.code (said s))
unfolding taken
taken_camera b s = outcome_camera (first_of (bytes_checks b s)) (said_parts s) b (said s)

turns_camera : (b : Bench) (rs : List (List ℕ)) → (left_by b rs).camera ≡ each_of b.camera (executed_in_turn b rs)
turns_camera b [] = refl
turns_camera b (r ∷ rs) =
    let now = executed_as (taken b r).told.code (said r) in
    let later = executed_in_turn (taken b r).bench rs in
    turns_camera (taken b r).bench rs ∙ ap (λ c. each_of c later) (taken_camera b r) ∙ sym (each_append b.camera now later)

lists_camera : (b : Bench) (kit numbers pupil : List ℕ) → length numbers ≡ length (rests pupil) → (code : ℕ)
    → (cond (eqb code 0) (ended_with b kit numbers pupil) b).camera
    ≡ each_of b.camera (cond (eqb code 0) (executed_in_turn b (rests kit ++ rests pupil)) [])
lists_camera b kit numbers pupil even code = go (eqb code 0)
  where
    go : (zero : Bool) → (cond zero (ended_with b kit numbers pupil) b).camera
        ≡ each_of b.camera (cond zero (executed_in_turn b (rests kit ++ rests pupil)) [])
    go true = ap (λ (n : Bench). n.camera) (both_left b kit numbers pupil even) ∙ turns_camera b (rests kit ++ rests pupil)
    go false = refl

handed_camera : (c : Camera) (ks : List Kind) → executed_all c ks ≡ each_of c (handed_with_zero ks (handed_codes c ks))
handed_camera c [] = refl
handed_camera c (k ∷ ks) = go (dark c.power k) (handed_camera c ks) (handed_camera (executed_of c k) ks)
  where
    next : (none : Bool) → Camera
    next none = cond none c (executed_of c k)

    go : (none : Bool) → executed_all c ks ≡ each_of c (handed_with_zero ks (handed_codes c ks))
        → executed_all (executed_of c k) ks ≡ each_of (executed_of c k) (handed_with_zero ks (handed_codes (executed_of c k) ks))
        → executed_all (next none) ks ≡ each_of c (handed_with_zero (k ∷ ks) (cond none 26 0 ∷ handed_codes (next none) ks))
    go true in_vain executed = in_vain
    go false in_vain executed = executed

-- An event leaves the camera that its commands leave which take effect.
pub camera_after : (b : Bench) → GoodBench b → (e : Event) → (after_one b e).camera ≡ each_of (stepped b e) (in_effect b e)
unfolding carry_out carry_out_bytes run_of typed_of
camera_after b good (command c) = outcome_camera (carry_code b c) (parts_of c.kind) b c
camera_after b good (bytes s) = outcome_camera (carry_bytes_code b s) (said_parts s) b (said s)
camera_after b good second =
    in_order b good.sound
    ∙ handed_camera (camera_second b.camera) (second_at b).handed
    ∙ ap (λ codes. each_of (camera_second b.camera) (handed_with_zero (second_at b).handed codes)) (sym (codes_are b good))
camera_after b good (run kit pupil room) = lists_camera b kit (own_numbers pupil) pupil (own_even pupil) (run_code b kit pupil room)
camera_after b good (typed kit text room) =
    lists_camera b kit (line_numbers text) (bytes_in text) (typed_even text) (typed_found b kit text room).told.code

-- What takes effect has its arguments in range.
abbrev pub Allowed : Kind → Type 0
Allowed k = bad_in (parts_of k) ≡ 0

executed_allowed : (code : ℕ) (c : Command) → (code ≡ 0 → judge_code c ≡ 0) → All Allowed (executed_as code c)
executed_allowed code c passes = go (eqb code 0) c.flag refl
  where
    go : (zero flag : Bool) → eqb code 0 ≡ zero → All Allowed (cond (zero && not flag) (c.kind ∷ []) [])
    go true true e = tt
    go true false e = (allowed_range c (passes (eqb-true code 0 e)), tt)
    go false flag e = tt

taken_allowed : (b : Bench) (s : List ℕ) → All Allowed (executed_as (taken b s).told.code (said s))
unfolding taken
taken_allowed b s = executed_allowed (first_of (bytes_checks b s)) (said s) (λ zero. (read_accepted b s zero).judge)

turns_allowed : (b : Bench) (rs : List (List ℕ)) → All Allowed (executed_in_turn b rs)
turns_allowed b [] = tt
turns_allowed b (r ∷ rs) =
    all_append Allowed (executed_as (taken b r).told.code (said r)) (executed_in_turn (taken b r).bench rs) (taken_allowed b r)
    (turns_allowed (taken b r).bench rs)

if_allowed : (code : ℕ) (ks : List Kind) → All Allowed ks → All Allowed (cond (eqb code 0) ks [])
if_allowed code ks h = go (eqb code 0)
  where
    go : (zero : Bool) → All Allowed (cond zero ks [])
    go true = h
    go false = tt

handed_allowed : (ks : List Kind) (codes : List ℕ) → All Plain ks → All Allowed (handed_with_zero ks codes)
handed_allowed [] codes h = tt
handed_allowed (k ∷ ks) [] h = tt
handed_allowed (k ∷ ks) (code ∷ codes) h = go (eqb code 0) (handed_allowed ks codes h.1)
  where
    go : (zero : Bool) → All Allowed (handed_with_zero ks codes) → All Allowed (cond zero (k ∷ handed_with_zero ks codes) (handed_with_zero ks codes))
    go true later = (allowed_range (record { flag = true; kind = k }) h.0.allowed, later)
    go false later = later

pub all_allowed : (b : Bench) → GoodBench b → (e : Event) → All Allowed (in_effect b e)
all_allowed b good (command c) = executed_allowed (carry_code b c) c (λ zero. (command_accepted b good c zero).judge)
all_allowed b good (bytes s) = executed_allowed (carry_bytes_code b s) (said s) (λ zero. (bytes_accepted b good s zero).judge)
all_allowed b good second =
    handed_allowed (second_at b).handed (second_at b).codes (subst (All Plain) (sym (handed_is b good)) (handed_plainly b.store (good_store b good)))
all_allowed b good (run kit pupil room) = if_allowed (run_code b kit pupil room) _ (turns_allowed b (rests kit ++ rests pupil))
all_allowed b good (typed kit text room) =
    if_allowed (typed_found b kit text room).told.code _ (turns_allowed b (rests kit ++ rests (bytes_in text)))

pub allowed_there : (before : List Kind) (k : Kind) (behind : List Kind) → All Allowed (before ++ (k ∷ behind)) → Allowed k
allowed_there [] k behind h = h.0
allowed_there (x ∷ before) k behind h = allowed_there before k behind h.1

-- A command of a list, with code 0 on the bench that those before it left, takes effect behind those of them that do, and before those behind it.
turns_append : (b : Bench) (xs ys : List (List ℕ)) → executed_in_turn b (xs ++ ys) ≡ executed_in_turn b xs ++ executed_in_turn (left_by b xs) ys
turns_append b [] ys = refl
turns_append b (x ∷ xs) ys =
    let now = executed_as (taken b x).told.code (said x) in
    ap (λ ks. now ++ ks) (turns_append (taken b x).bench xs ys)
    ∙ sym (append_assoc now (executed_in_turn (taken b x).bench xs) (executed_in_turn (left_by (taken b x).bench xs) ys))

pub in_turn : (b : Bench) (before : List (List ℕ)) (s : List ℕ) (behind : List (List ℕ)) (k : Kind)
    → let there = left_by b before in said s ≡ record { flag = false; kind = k } → (taken there s).told.code ≡ 0
    → executed_in_turn b (before ++ (s ∷ behind)) ≡ executed_in_turn b before ++ (k ∷ executed_in_turn (taken there s).bench behind)
in_turn b before s behind k says accepted =
    let there = left_by b before in
    let rest = executed_in_turn (taken there s).bench behind in
    turns_append b before (s ∷ behind)
    ∙ ap (λ ks. executed_in_turn b before ++ (ks ++ rest)) (ap₂ executed_as accepted says)

-- An entry with code 0, likewise.
pub handed_split : (ks : List Kind) (codes : List ℕ) (i : ℕ) (none : Kind) → i < length ks → i < length codes → get_or codes i 0 ≡ 0
    → handed_with_zero ks codes
    ≡ handed_with_zero (take i ks) (take i codes) ++ (get_or ks i none ∷ handed_with_zero (drop (suc i) ks) (drop (suc i) codes))
handed_split [] codes i none there coded e = absurd (omega arith)
handed_split (k ∷ ks) [] i none there coded e = absurd (omega arith)
handed_split (k ∷ ks) (code ∷ codes) zero none there coded e = rw e
handed_split (k ∷ ks) (code ∷ codes) (suc i) none there coded e =
    go (eqb code 0) (handed_split ks codes i none (omega arith) (omega arith) e)
  where
    later : List Kind
    later = handed_with_zero (take i ks) (take i codes)

    behind : List Kind
    behind = get_or ks i none ∷ handed_with_zero (drop (suc i) ks) (drop (suc i) codes)

    go : (zero : Bool) → handed_with_zero ks codes ≡ later ++ behind
        → cond zero (k ∷ handed_with_zero ks codes) (handed_with_zero ks codes) ≡ cond zero (k ∷ later) later ++ behind
    go true same = ap (λ l. k ∷ l) same
    go false same = same
