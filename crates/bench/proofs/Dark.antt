-- 02, Q-3, for a reader: which commands are refused with 26, which entries of a second have no effect, and what does not ask for the power. The meanings
-- are `dark` (camera, specs/Camera), `row26` (specs/Carry), `handed_to` and `handed_code` (specs/Second).
use Prim.Native.Nat.{ℕ, zero, suc, ◌<◌}
use mathlib.Core.Path.{◌≡◌, refl, sym, ap, ap₂, ◌∙◌, subst}
use mathlib.Core.Logic.{◌↔◌, ◌⊎◌, inl, inr}
use mathlib.Core.List.{List, [], ◌∷◌, ◌++◌}
use mathlib.Core.Bool.{Bool, true, false, cond, not, ◌&&◌, false≢true}
use native.Mathlib.Omega.{arith}
use lib.ListN.{length, get_or, take}
use lib.Seq.{take_all}
use lib.Dec.{eqb}
use borrow.Author.Tests.{eqb-true, ltb-true, lt-ltb, not-true}
use Rattle.words.specs.Codes.{first_of}
use Rattle.words.proofs.Tests.{both}
use Rattle.words.proofs.FirstOf.{first_append}
use Rattle.words.proofs.Order.{NoneDue, due_none}
use Rattle.wire.specs.declared.kinds.Kind.{Kind}
use Rattle.wire.specs.declared.kinds.Command.{Command}
use Rattle.wire.specs.Judge.{plain, arg_checks, judge_code}
use Rattle.wire.specs.Kind.{parts_of}
use Rattle.camera.specs.declared.Camera.{Camera}
use Rattle.camera.specs.Camera.{asks_picture, executed_of, camera_second, dark}
use Rattle.store.specs.declared.Store.{Store}
use Rattle.store.specs.declared.roles.Role.{Role}
use Rattle.store.specs.Roles.{role_of, is_plain}
use Rattle.store.specs.Checks.{store_checks, permit_code}
use Rattle.store.specs.Effects.{next_group, after_second, applied_of}
use Rattle.store.proofs.Sound.{second_keeps}
use Rattle.store.proofs.Handed.{All, Plain, handed_plainly}
use Rattle.report.specs.declared.Latest.{Latest}
use Rattle.bench.specs.declared.Bench.{Bench}
use Rattle.bench.specs.Status.{bench_sound}
use Rattle.bench.specs.Carry.{row26, outcome_for, carry_code, carry_out}
use Rattle.bench.specs.Second.{handed_to, handed_code, executed_all, handed_codes, second_at}
use Rattle.bench.proofs.Outcomes.{judge_coded, behind_code_lem, carry_code_lem}
use Rattle.bench.proofs.Rows.{first_up_to}
use Rattle.bench.proofs.Camera.{camera_second_lem, handed_good}
use Rattle.bench.proofs.Sound.{GoodBench, facts_of, of_facts, second_is}
use Rattle.bench.proofs.Executing.{one_code, place_camera, place_code}

-- # What is dark

-- "An IMAGE or TRACK with a time above 0"
pub record Asks (of : ℕ → ℕ → Kind) (k : Kind) : Type 0 where
  pub time : ℕ
  pub interval : ℕ
  pub is : k ≡ of time interval
  pub above : 0 < time

abbrev pub AsksPicture : Kind → Type 0
AsksPicture k = Asks Kind.ImgImage k ⊎ Asks Kind.ImgTrack k

asks : (k : Kind) → asks_picture k ≡ true → AsksPicture k
asks (Kind.ImgPwr mode) e = absurd (false≢true e)
asks (Kind.ImgRegion x y) e = absurd (false≢true e)
asks (Kind.ImgTrack time interval) e = inr (record { time = time; interval = interval; is = refl; above = ltb-true 0 time e })
asks (Kind.TrkAlg mode) e = absurd (false≢true e)
asks (Kind.TrkLoop mode) e = absurd (false≢true e)
asks (Kind.ImgImage time interval) e = inl (record { time = time; interval = interval; is = refl; above = ltb-true 0 time e })
asks (Kind.TrkGoal x y) e = absurd (false≢true e)
asks Kind.TlmFlush e = absurd (false≢true e)
asks (Kind.FlushAuto mode) e = absurd (false≢true e)
asks (Kind.Open number) e = absurd (false≢true e)
asks Kind.Close e = absurd (false≢true e)
asks (Kind.Run number) e = absurd (false≢true e)
asks (Kind.Wait seconds) e = absurd (false≢true e)
asks Kind.Stop e = absurd (false≢true e)
asks Kind.Clear e = absurd (false≢true e)

asked : (k : Kind) → AsksPicture k → asks_picture k ≡ true
asked k (inl a) = ap asks_picture a.is ∙ lt-ltb 0 a.time a.above
asked k (inr a) = ap asks_picture a.is ∙ lt-ltb 0 a.time a.above

-- `dark` says just that: the power is off, and it is an IMAGE or TRACK with a time above 0.
pub dark_means : (power : Bool) (k : Kind) → (dark power k ≡ true) ↔ ((power ≡ false) × AsksPicture k)
dark_means power k = (to, from)
  where
    to : dark power k ≡ true → (power ≡ false) × AsksPicture k
    to e =
        let parts = both (asks_picture k) (not power) e in
        (not-true power parts.1, asks k parts.0)

    from : (power ≡ false) × AsksPicture k → dark power k ≡ true
    from h = rw (h.0, asked k h.1)

-- A time of 0 asks for no picture, so it ends a series in the dark too; and with the power on nothing is dark.
pub end_in_the_dark : (power : Bool) (interval : ℕ)
    → (dark power (Kind.ImgImage 0 interval) ≡ false) × (dark power (Kind.ImgTrack 0 interval) ≡ false)
end_in_the_dark power interval = (refl, refl)

pub on_lit : (power : Bool) (k : Kind) → power ≡ true → dark power k ≡ false
on_lit power k on = rw on (go (asks_picture k))
  where
    go : (asks : Bool) → (asks && false) ≡ false
    go true = refl
    go false = refl

-- What is not dark is executed.
pub lit_handed : (c : Camera) (k : Kind) → dark c.power k ≡ false → handed_to c k ≡ executed_of c k
lit_handed c k lit = rw lit

-- # Commands that are carried out

-- The code of carrying out on a sound bench.
told_code : (b : Bench) → bench_sound b ≡ true → (c : Command)
    → (carry_out b c).told.code ≡ cond (eqb (judge_code c) 0) (cond (row26 b.camera.power c.flag c.kind) 26 (permit_code b.store c)) (judge_code c)
unfolding carry_out
told_code b sound c =
    carry_code_lem b c sound ∙ ap (λ n. cond (eqb (judge_code c) 0) n (judge_code c)) (behind_code_lem b c)

-- No other row has 26.
judge_low : (c : Command) → judge_code c < 26
unfolding judge_code
judge_low c = omega (arith, first_up_to 10 (arg_checks c) refl)

permit_low : (s : Store) (c : Command) → permit_code s c < 26
unfolding permit_code
permit_low s c = omega (arith, first_up_to 25 (store_checks s c) refl)

-- On a sound bench a command gets 26 exactly when it passes 8 to 10, is to be executed, and asks for a picture with the power off.
pub record Refused26 (b : Bench) (c : Command) : Type 0 where
  pub passes : judge_code c ≡ 0
  pub executed : c.flag ≡ false
  pub off : b.camera.power ≡ false
  pub picture : AsksPicture c.kind

pub dark_exactly : (b : Bench) → bench_sound b ≡ true → (c : Command) → ((carry_out b c).told.code ≡ 26) ↔ Refused26 b c
dark_exactly b sound c = (λ e. to (sym (told_code b sound c) ∙ e), λ h. told_code b sound c ∙ from h)
  where
    power : Bool
    power = b.camera.power

    row : (due : Bool) → row26 power c.flag c.kind ≡ due → cond due 26 (permit_code b.store c) ≡ 26 → judge_code c ≡ 0 → Refused26 b c
    row true e same passes =
        let parts = both (not c.flag) (dark power c.kind) e in
        let means = (dark_means power c.kind).0 parts.1 in
        record { passes = passes; executed = not-true c.flag parts.0; off = means.0; picture = means.1 }
    row false e same passes = absurd (omega (arith, permit_low b.store c))

    to : cond (eqb (judge_code c) 0) (cond (row26 power c.flag c.kind) 26 (permit_code b.store c)) (judge_code c) ≡ 26 → Refused26 b c
    to = go (eqb (judge_code c) 0) refl
      where
        go : (none : Bool) → eqb (judge_code c) 0 ≡ none
            → cond none (cond (row26 power c.flag c.kind) 26 (permit_code b.store c)) (judge_code c) ≡ 26 → Refused26 b c
        go true e same = row (row26 power c.flag c.kind) refl same (eqb-true (judge_code c) 0 e)
        go false e same = absurd (omega (arith, judge_low c))

    from : Refused26 b c → cond (eqb (judge_code c) 0) (cond (row26 power c.flag c.kind) 26 (permit_code b.store c)) (judge_code c) ≡ 26
    from h =
        let is_dark : dark power c.kind ≡ true = (dark_means power c.kind).1 (h.off, h.picture) in
        let due : row26 power c.flag c.kind ≡ true = ap (λ flag. not flag && dark power c.kind) h.executed ∙ is_dark in
        rw (h.passes, due)

-- No command can have 26 and one of 11 to 19 or 25 both due: where row 26 is, none of the store's rows is.
plain_permitted : (s : Store) (k : Kind) → role_of k ≡ Role.Plain → permit_code s (record { flag = false; kind = k }) ≡ 0
unfolding permit_code
plain_permitted s k role = rw role

picture_plain : (k : Kind) → AsksPicture k → role_of k ≡ Role.Plain
picture_plain k (inl a) = ap role_of a.is
picture_plain k (inr a) = ap role_of a.is

permitted_none : (s : Store) (c : Command) → c.flag ≡ false → permit_code s (record { flag = false; kind = c.kind }) ≡ 0 → NoneDue (store_checks s c)
unfolding permit_code
permitted_none s c flag none =
    due_none (store_checks s c) refl (ap (λ f. first_of (store_checks s (record { flag = f; kind = c.kind }))) flag ∙ none)

pub dark_alone : (b : Bench) (c : Command) → row26 b.camera.power c.flag c.kind ≡ true → NoneDue (store_checks b.store c)
dark_alone b c e =
    let parts = both (not c.flag) (dark b.camera.power c.kind) e in
    let means = (dark_means b.camera.power c.kind).0 parts.1 in
    permitted_none b.store c (not-true c.flag parts.0) (plain_permitted b.store c.kind (picture_plain c.kind means.1))

store_first : (s : Store) (c : Command) → first_of (arg_checks c ++ store_checks s c) ≡ cond (eqb (judge_code c) 0) (permit_code s c) (judge_code c)
unfolding judge_code permit_code
store_first s c = first_append (arg_checks c) (store_checks s c) (judge_coded c)

-- "Appending .. as before": the code of a flag-1 command is the first of 8 to 10 and of the store's rows, whatever the power.
pub append_as_before : (b : Bench) → bench_sound b ≡ true → (c : Command) → c.flag ≡ true
    → (carry_out b c).told.code ≡ first_of (arg_checks c ++ store_checks b.store c)
append_as_before b sound c flag =
    let lit : row26 b.camera.power c.flag c.kind ≡ false = ap (λ f. row26 b.camera.power f c.kind) flag in
    told_code b sound c ∙ rw lit (sym (store_first b.store c))

-- "and a series under way when power goes off, are as before": switching the power leaves both series, and the next second does to them what it would
-- have done.
pub series_goes_on : (c : Camera) (mode : ℕ)
    → let switched = executed_of c (Kind.ImgPwr mode) in
    ((camera_second switched).image ≡ (camera_second c).image) × ((camera_second switched).track ≡ (camera_second c).track)
series_goes_on c mode = (refl, refl)

-- # Entries that a second hands over

-- The bench as the entry at place i of a second's group finds it: both series have taken their step and the entries before it were handed over. What
-- the second leaves of the store is there already, for no entry of a group asks for it.
abbrev pub found_by : Bench → ℕ → Bench
found_by b i =
    record {
      camera = executed_all (camera_second b.camera) (take i (second_at b).handed);
      store = (second_at b).bench.store;
      latest = b.latest;
    }

abbrev pub executing : Kind → Command
executing k = record { flag = false; kind = k }

-- What is said of the entry at place i, of this kind and with this code.
pub record Entry (b : Bench) (i : ℕ) (kind : Kind) (code : ℕ) : Type 0 where
  -- It is answered, and takes effect, as the same command is and does when it is executed on the bench that the entry finds.
  pub as_executed : carry_out (found_by b i) (executing kind) ≡ record { told = plain code; bench = found_by b (suc i) }
  -- Its code is 0 or 26.
  pub two_codes : (code ≡ 0) ⊎ (code ≡ 26)
  -- "it has no effect": with code 26 it leaves the camera, and all else, as it was,
  pub in_vain : code ≡ 26 → found_by b (suc i) ≡ found_by b i
  -- and "the second's answer shows it with code 26" exactly when the power is off as its turn comes and it asks for a picture.
  pub shown : (code ≡ 26) ↔ (((found_by b i).camera.power ≡ false) × AsksPicture kind)

-- A plain kind that may be appended may be executed, and leaves the store.
plain_judged : (k : Kind) → role_of k ≡ Role.Plain → judge_code (record { flag = true; kind = k }) ≡ 0 → judge_code (executing k) ≡ 0
unfolding judge_code
plain_judged (Kind.ImgPwr mode) role h = h
plain_judged (Kind.ImgRegion x y) role h = h
plain_judged (Kind.ImgTrack time interval) role h = h
plain_judged (Kind.TrkAlg mode) role h = h
plain_judged (Kind.TrkLoop mode) role h = h
plain_judged (Kind.ImgImage time interval) role h = h
plain_judged (Kind.TrkGoal x y) role h = h
plain_judged Kind.TlmFlush role h = h
plain_judged (Kind.FlushAuto mode) role h = h
plain_judged (Kind.Open number) role h = absurd (false≢true (ap is_plain role))
plain_judged Kind.Close role h = absurd (false≢true (ap is_plain role))
plain_judged (Kind.Run number) role h = absurd (false≢true (ap is_plain role))
plain_judged (Kind.Wait seconds) role h = absurd (false≢true (ap is_plain role))
plain_judged Kind.Stop role h = absurd (false≢true (ap is_plain role))
plain_judged Kind.Clear role h = absurd (false≢true (ap is_plain role))

plain_applied : (s : Store) (k : Kind) → role_of k ≡ Role.Plain → applied_of s (executing k) ≡ s
unfolding applied_of
plain_applied s k role = rw role

-- Executed on a sound bench, such a kind gets the code that an entry has, and does to the camera what an entry does.
plain_carried : (b : Bench) → GoodBench b → (k : Kind) → Plain k
    → carry_out b (executing k)
    ≡ record { told = plain (handed_code b.camera k); bench = record { camera = handed_to b.camera k; store = b.store; latest = b.latest } }
unfolding carry_out
plain_carried b good k is = ap (λ n. outcome_for n (parts_of k) b (executing k)) code ∙ go (dark b.camera.power k)
  where
    code : carry_code b (executing k) ≡ handed_code b.camera k
    code =
        carry_code_lem b (executing k) good.sound
        ∙ rw (plain_judged k is.role is.allowed)
        (behind_code_lem b (executing k) ∙ ap (λ n. cond (dark b.camera.power k) 26 n) (plain_permitted b.store k is.role))

    go : (none : Bool) → outcome_for (cond none 26 0) (parts_of k) b (executing k)
        ≡ record {
          told = plain (cond none 26 0);
          bench = record { camera = cond none b.camera (executed_of b.camera k); store = b.store; latest = b.latest };
        }
    go true = refl
    go false =
        ap (λ (s : Store). record { told = plain 0; bench = record { camera = executed_of b.camera k; store = s; latest = b.latest } })
        (plain_applied b.store k is.role)

-- Every bench that an entry finds is sound.
all_take : (ks : List Kind) (i : ℕ) → All Plain ks → All Plain (take i ks)
all_take [] zero h = tt
all_take [] (suc i) h = tt
all_take (k ∷ ks) zero h = tt
all_take (k ∷ ks) (suc i) h = (h.0, all_take ks i h.1)

plain_at : (ks : List Kind) (i : ℕ) (none : Kind) → i < length ks → All Plain ks → Plain (get_or ks i none)
plain_at [] i none there h = absurd (omega arith)
plain_at (k ∷ ks) zero none there h = h.0
plain_at (k ∷ ks) (suc i) none there h = plain_at ks i none (omega arith) h.1

module _ (b : Bench) (good : GoodBench b) where
  handed_is : (second_at b).handed ≡ next_group b.store
  unfolding second_at
  handed_is = rw good.sound

  pub codes_are : (second_at b).codes ≡ handed_codes (camera_second b.camera) (second_at b).handed
  unfolding second_at
  codes_are = rw good.sound

  all_plain : All Plain (second_at b).handed
  all_plain = subst (All Plain) (sym handed_is) (handed_plainly b.store (facts_of b good).store)

  found_good : (i : ℕ) → GoodBench (found_by b i)
  found_good i =
      let h = facts_of b good in
      let kept : (second_at b).bench.store ≡ after_second b.store = ap (λ (n : Bench). n.store) (second_is b good) in
      of_facts (found_by b i)
      (record {
        camera =
            handed_good (camera_second b.camera) (camera_second_lem b.camera h.camera) (take i (second_at b).handed)
            (all_take (second_at b).handed i all_plain);
        store = rw kept (second_keeps b.store h.store);
      })

  -- Each entry has one code.
  pub codes_even : length (second_at b).codes ≡ length (second_at b).handed
  codes_even = ap length codes_are ∙ one_code (camera_second b.camera) (second_at b).handed

  -- After the last entry it is the bench that the second leaves.
  pub found_last : found_by b (length (second_at b).handed) ≡ (second_at b).bench
  found_last =
      let ks = (second_at b).handed in
      let camera : (second_at b).bench.camera ≡ executed_all (camera_second b.camera) ks =
      ap (λ (n : Bench). n.camera) (second_is b good) ∙ ap (executed_all (camera_second b.camera)) (sym handed_is)
      in
      let latest : b.latest ≡ (second_at b).bench.latest = sym (ap (λ (n : Bench). n.latest) (second_is b good)) in
      ap₂ (λ (c : Camera) (l : Latest). record { camera = c; store = (second_at b).bench.store; latest = l })
      (ap (executed_all (camera_second b.camera)) (take_all (length ks) ks (omega arith)) ∙ sym camera) latest

  module _ (i : ℕ) (there : i < length (second_at b).handed) (none : Kind) where
    abbrev kind : Kind
    kind = get_or (second_at b).handed i none

    abbrev code : ℕ
    code = get_or (second_at b).codes i 0

    code_is : code ≡ handed_code (found_by b i).camera kind
    code_is =
        ap (λ l. get_or l i 0) codes_are ∙ place_code (camera_second b.camera) (second_at b).handed i none there

    executed_there : carry_out (found_by b i) (executing kind) ≡ record { told = plain code; bench = found_by b (suc i) }
    executed_there =
        plain_carried (found_by b i) (found_good i) kind (plain_at (second_at b).handed i none there all_plain)
        ∙ rw (code_is, place_camera (camera_second b.camera) (second_at b).handed i none there)

    either : (t : Bool) → ◌≡◌ {A = ℕ} (cond t 26 0) 0 ⊎ ◌≡◌ {A = ℕ} (cond t 26 0) 26
    either true = inr refl
    either false = inl refl

    was_dark : (t : Bool) → ◌≡◌ {A = ℕ} (cond t 26 0) 26 → t ≡ true
    was_dark true e = refl
    was_dark false e = absurd (omega arith)

    is_dark : code ≡ 26 → dark (found_by b i).camera.power kind ≡ true
    is_dark e = was_dark (dark (found_by b i).camera.power kind) (sym code_is ∙ e)

    pub entry : Entry b i kind code
    entry =
        let means = dark_means (found_by b i).camera.power kind in
        record {
          as_executed = executed_there;
          two_codes = rw code_is (either (dark (found_by b i).camera.power kind));
          in_vain = λ e.
              ap (λ (c : Camera). record { camera = c; store = (second_at b).bench.store; latest = b.latest })
              (place_camera (camera_second b.camera) (second_at b).handed i none there ∙ rw (is_dark e));
          shown = (λ e. means.0 (is_dark e), λ h. code_is ∙ rw (means.1 h));
        }
