-- A group's commands executed one after another: the camera that each finds and the code that each has, by its place; and the loop over them, turn by
-- turn.
use Prim.Native.Nat.{ℕ, zero, suc, ◌+◌, ◌-◌, ◌≤◌, ◌<◌, min}
use mathlib.Core.Path.{◌≡◌, refl, sym, ap, ◌∙◌}
use mathlib.Core.List.{List, [], ◌∷◌, ◌++◌, map}
use mathlib.Core.Bool.{Bool, true, false}
use native.Mathlib.Omega.{arith}
use native.Mathlib.Numerals.{add-one}
use lib.ListN.{length, get_or, set, take, replicate, length-map}
use lib.Seq.{length-take-le, take_all, take-suc, append_snoc, set_at, get_or-take}
use lib.Dec.{leb}
use borrow.Author.Tests.{leb-true, leb-false}
use Rattle.wire.specs.declared.kinds.Kind.{Kind}
use Rattle.wire.specs.declared.kinds.Command.{Command}
use Rattle.camera.specs.declared.Camera.{Camera}
use Rattle.camera.specs.Camera.{executed_of, dark}
use Rattle.store.specs.declared.groups.Group.{Group}
use Rattle.store.specs.Words.{no_command, commands_in}
use Rattle.store.specs.Effects.{kind_at, kinds_in}
use Rattle.store.proofs.Entries.{length_commands}
use Rattle.bench.specs.Second.{codes_shown, handed_to, handed_code, executed_all, handed_codes}

-- Each entry has one code.
codes_long : (ks : List Kind) (c : Camera) → length (handed_codes c ks) ≡ length ks
codes_long [] c = refl
codes_long (k ∷ ks) c = ap suc (codes_long ks (handed_to c k))

pub one_code : (c : Camera) (ks : List Kind) → length (handed_codes c ks) ≡ length ks
one_code c ks = codes_long ks c

-- The entry at a place is handed to the camera that those before it left, and has its code by that camera.
pub place_camera : (c : Camera) (ks : List Kind) (i : ℕ) (none : Kind) → i < length ks
    → executed_all c (take (suc i) ks) ≡ handed_to (executed_all c (take i ks)) (get_or ks i none)
place_camera c [] i none there = absurd (omega arith)
place_camera c (k ∷ ks) zero none there = refl
place_camera c (k ∷ ks) (suc i) none there = place_camera (handed_to c k) ks i none (omega arith)

pub place_code : (c : Camera) (ks : List Kind) (i : ℕ) (none : Kind) → i < length ks
    → get_or (handed_codes c ks) i 0 ≡ handed_code (executed_all c (take i ks)) (get_or ks i none)
place_code c [] i none there = absurd (omega arith)
place_code c (k ∷ ks) zero none there = refl
place_code c (k ∷ ks) (suc i) none there = place_code (handed_to c k) ks i none (omega arith)

-- The kinds that the first entries of a group's words say.
abbrev pub kinds_of : List ℕ → ℕ → List Kind
kinds_of words size = map (λ (c : Command). c.kind) (take size (commands_in words))

-- They are the group's, for it has 64 places.
pub kinds_all : (g : Group) (size : ℕ) → length g.words ≡ 192 → size ≡ min 64 g.count → kinds_in g ≡ kinds_of g.words size
kinds_all g size whole is = go (leb g.count 64) refl
  where
    long : length (commands_in g.words) ≡ 64
    long = length_commands 64 g.words whole

    same : (n : ℕ) → take g.count (commands_in g.words) ≡ take n (commands_in g.words) → n ≡ size → kinds_in g ≡ kinds_of g.words size
    same n taken e = ap (map (λ (c : Command). c.kind)) (taken ∙ ap (λ k. take k (commands_in g.words)) e)

    go : (b : Bool) → leb g.count 64 ≡ b → kinds_in g ≡ kinds_of g.words size
    go true e = same g.count refl (omega (arith, leb-true g.count 64 e))
    go false e =
        let past = leb-false g.count 64 e in
        same 64
        (take_all g.count (commands_in g.words) (omega (arith, long)) ∙ sym (take_all 64 (commands_in g.words) (omega (arith, long))))
        (omega arith)

kind_mapped : (cs : List Command) (i : ℕ) (none : Command)
    → get_or (map (λ (c : Command). c.kind) cs) i none.kind ≡ (get_or cs i none).kind
kind_mapped [] i none = refl
kind_mapped (c ∷ cs) zero none = refl
kind_mapped (c ∷ cs) (suc i) none = kind_mapped cs i none

module _ (words : List ℕ) (size : ℕ) (whole : length words ≡ 192) (few : size ≤ 64) where
  pub kinds_count : length (kinds_of words size) ≡ size
  kinds_count =
      let long : length (commands_in words) ≡ 64 = length_commands 64 words whole in
      length-map (take size (commands_in words)) (λ (c : Command). c.kind) ∙ length-take-le size (commands_in words) (omega (arith, long))

  pub kind_placed : (i : ℕ) → i < size → get_or (kinds_of words size) i no_command.kind ≡ kind_at words i
  kind_placed i there =
      kind_mapped (take size (commands_in words)) i no_command
      ∙ ap (λ (c : Command). c.kind) (get_or-take size (commands_in words) i no_command there)

-- One code more, in the next place.
one_more : (codes : List ℕ) (i code : ℕ) → i < length codes → get_or codes i 0 ≡ code
    → take i codes ++ (code ∷ replicate (64 - suc i) 0) ≡ take (i + 1) codes ++ replicate (64 - (i + 1)) 0
one_more codes i code there is =
    rw (add-one, take-suc codes i 0 there, is) (sym (append_snoc (take i codes) code (replicate (64 - suc i) 0)))

-- How far the loop is: the entries before place i have been handed over, and their codes stand in their places.
pub record Executing (words : List ℕ) (size : ℕ) (first camera : Camera) (codes : List ℕ) (i : ℕ) : Type 0 where
  pub whole : length words ≡ 192
  pub few : size ≤ 64
  pub within : i ≤ size
  pub left : camera ≡ executed_all first (take i (kinds_of words size))
  pub coded : codes ≡ take i (handed_codes first (kinds_of words size)) ++ replicate (64 - i) 0

module _ {words : List ℕ} {size : ℕ} {first camera : Camera} {codes : List ℕ} {i : ℕ} (so_far : Executing words size first camera codes i) where
  abbrev ks : List Kind
  ks = kinds_of words size

  abbrev all : List ℕ
  all = handed_codes first ks

  -- A turn with the entry at place i: it is dark, or executed.
  module _ (more : i < size) where
    count : length ks ≡ size
    count = kinds_count words size so_far.whole so_far.few

    found : get_or ks i no_command.kind ≡ kind_at words i
    found = kind_placed words size so_far.whole so_far.few i more

    handed : executed_all first (take (i + 1) ks) ≡ handed_to camera (kind_at words i)
    handed =
        rw (add-one, ← found, so_far.left)
        (place_camera first ks i no_command.kind (omega (arith, count)))

    code_is : get_or all i 0 ≡ handed_code camera (kind_at words i)
    code_is = rw (← found, so_far.left) (place_code first ks i no_command.kind (omega (arith, count)))

    open_place : codes ≡ take i all ++ (0 ∷ replicate (64 - suc i) 0)
    open_place =
        let next : 64 - i ≡ suc (64 - suc i) = omega (arith, so_far.few) in
        so_far.coded ∙ rw next

    enough : i < length all
    enough = omega (arith, one_code first ks, count)

    pub turn_dark : dark camera.power (kind_at words i) ≡ true → Executing words size first camera (set codes i 26) (i + 1)
    turn_dark e =
        let code : get_or all i 0 ≡ 26 = code_is ∙ rw e in
        record {
          whole = so_far.whole;
          few = so_far.few;
          within = omega arith;
          left = sym (handed ∙ rw e);
          coded =
              ap (λ l. set l i 26) open_place
              ∙ set_at (take i all) 0 (replicate (64 - suc i) 0) 26 i (length-take-le i all (omega (arith, enough)))
              ∙ one_more all i 26 enough code;
        }

    pub turn_lit : {next : Camera} → dark camera.power (kind_at words i) ≡ false → next ≡ executed_of camera (kind_at words i)
        → Executing words size first next codes (i + 1)
    turn_lit e is =
        let code : get_or all i 0 ≡ 0 = code_is ∙ rw e in
        record {
          whole = so_far.whole;
          few = so_far.few;
          within = omega arith;
          left = is ∙ sym (handed ∙ rw e);
          coded = open_place ∙ one_more all i 0 enough code;
        }

  -- The end: all of them were handed over.
  module _ (end : size ≤ i) where
    place : i ≡ size
    place = omega (arith, so_far.within)

    pub all_executed : camera ≡ executed_all first ks
    all_executed =
        so_far.left
        ∙ ap (executed_all first) (take_all i ks (omega (arith, kinds_count words size so_far.whole so_far.few, place)))

    pub all_coded : codes ≡ codes_shown all
    all_coded =
        let count : length all ≡ i = one_code first ks ∙ kinds_count words size so_far.whole so_far.few ∙ sym place in
        so_far.coded ∙ rw (take_all i all (omega (arith, count)), count)
