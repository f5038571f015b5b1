-- Two benches that differ in the numbers of the latest run alone: they answer alike, whatever is asked but for these numbers themselves, and stay so
-- whatever happens. So what `TwoEvenings` calls the same state is the same for ever.
use Prim.Native.Nat.{ℕ}
use mathlib.Core.Path.{◌≡◌, refl, ap, ◌∙◌}
use mathlib.Core.List.{List, [], ◌∷◌, ◌++◌}
use mathlib.Core.Bool.{Bool, true, false, cond}
use lib.Dec.{eqb}
use Rattle.words.specs.BigEndian.{written}
use Rattle.wire.specs.declared.kinds.Command.{Command}
use Rattle.wire.specs.Read.{said}
use Rattle.walk.specs.Walk.{rests}
use Rattle.text.specs.Assemble.{bytes_in, line_numbers}
use Rattle.report.specs.declared.Latest.{Latest}
use Rattle.bench.specs.declared.Bench.{Bench}
use Rattle.bench.specs.Status.{bench_sound, status_at, free_at}
use Rattle.bench.specs.Carry.{effect_of, carry_code, carry_out, carry_bytes_code, carry_out_bytes}
use Rattle.bench.specs.Second.{bench_after, second_at}
use Rattle.bench.specs.Run.{Listed, own_numbers, run_list, kit_part, pupil_with, noting, ended_with, report_with, run_code, run_of, room_after}
use Rattle.bench.specs.Typed.{typed_found, typed_of, typed_room}
use Rattle.bench.specs.Events.{Event, command, bytes, second, run, typed, after_one, after}
use Rattle.bench.specs.Evenings.{SameState}
use Rattle.bench.proofs.Joining.{list_noting}

-- A bench is its camera, its store and these numbers, so where the first two are the same nothing else can differ.
pub same_but_latest : (b c : Bench) → SameState b c → b ≡ noting c b.latest
same_but_latest b c same = rw (same.0, same.1)

-- What is told of each call, and every byte of the rooms, are the same.
pub record AnswerAlike (b c : Bench) : Type 0 where
  pub command : (d : Command) → (carry_out b d).told ≡ (carry_out c d).told
  pub bytes : (s : List ℕ) → (carry_out_bytes b s).told ≡ (carry_out_bytes c s).told
  pub second : ((second_at b).told ≡ (second_at c).told) × ((second_at b).handed ≡ (second_at c).handed) × ((second_at b).codes ≡ (second_at c).codes)
  pub status : status_at b ≡ status_at c
  pub free : free_at b ≡ free_at c
  pub run : (kit pupil room : List ℕ) → let told = run_of b kit pupil room in let same = run_of c kit pupil room in
      (told.code ≡ same.code) × (told.kit ≡ same.kit) × (told.pupil ≡ same.pupil) × (room_after b kit pupil room ≡ room_after c kit pupil room)
  pub run_typed : (kit text room : List ℕ) → let told = typed_of b kit text room in let same = typed_of c kit text room in
      (told.found ≡ same.found) × (told.kit ≡ same.kit) × (told.pupil ≡ same.pupil) × (typed_room b kit text room ≡ typed_room c kit text room)

module _ (b : Bench) (latest : Latest) where
  kit_noting : (kit : List ℕ) → kit_part (noting b latest) kit ≡ record { bench = noting (kit_part b kit).bench latest; records = (kit_part b kit).records }
  kit_noting kit = list_noting b latest 1 (own_numbers kit) (rests kit)

  pupil_noting : (kit numbers pupil : List ℕ) → pupil_with (noting b latest) kit numbers pupil
      ≡ record { bench = noting (pupil_with b kit numbers pupil).bench latest; records = (pupil_with b kit numbers pupil).records }
  pupil_noting kit numbers pupil =
      ap (λ (l : Listed). run_list l.bench 2 numbers pupil) (kit_noting kit) ∙ list_noting (kit_part b kit).bench latest 2 numbers (rests pupil)

  report_noting : (kit numbers pupil : List ℕ) → report_with (noting b latest) kit numbers pupil ≡ report_with b kit numbers pupil
  report_noting kit numbers pupil =
      ap (λ (l : Listed). l.records ++ (pupil_with (noting b latest) kit numbers pupil).records) (kit_noting kit)
      ∙ ap (λ (l : Listed). (kit_part b kit).records ++ l.records) (pupil_noting kit numbers pupil)

  alike : AnswerAlike (noting b latest) b
  unfolding bench_sound carry_code carry_out carry_bytes_code carry_out_bytes second_at status_at free_at run_code run_of room_after typed_found typed_of typed_room
  alike =
      record {
        command = λ d. refl;
        bytes = λ s. refl;
        second = (refl, refl, refl);
        status = refl;
        free = refl;
        run = λ kit pupil room. (
          refl,
          refl,
          refl,
          ap (λ l. cond (eqb (run_code b kit pupil room) 0) (written l room) room) (report_noting kit (own_numbers pupil) pupil),
        );
        run_typed = λ kit text room. (
          refl,
          refl,
          refl,
          ap (λ l. cond (eqb (typed_found b kit text room).told.code 0) (written l room) room) (report_noting kit (line_numbers text) (bytes_in text)),
        );
      }

  -- One event leaves the same camera and store.
  by_effect : (accepted : Bool) (c : Command) → SameState (cond accepted (effect_of (noting b latest) c) (noting b latest)) (cond accepted (effect_of b c) b)
  by_effect true c = (refl, refl)
  by_effect false c = (refl, refl)

  by_second : (sound : Bool) → SameState (cond sound (bench_after (noting b latest)) (noting b latest)) (cond sound (bench_after b) b)
  by_second true = (refl, refl)
  by_second false = (refl, refl)

  by_lists : (carried : Bool) (kit numbers pupil : List ℕ)
      → SameState (cond carried (ended_with (noting b latest) kit numbers pupil) (noting b latest)) (cond carried (ended_with b kit numbers pupil) b)
  by_lists true kit numbers pupil =
      let same = pupil_noting kit numbers pupil in (ap (λ (l : Listed). l.bench.camera) same, ap (λ (l : Listed). l.bench.store) same)
  by_lists false kit numbers pupil = (refl, refl)

  one_alike : (e : Event) → SameState (after_one (noting b latest) e) (after_one b e)
  unfolding bench_sound carry_code carry_out carry_bytes_code carry_out_bytes second_at run_code run_of typed_found typed_of
  one_alike (command c) = by_effect (eqb (carry_code b c) 0) c
  one_alike (bytes s) = by_effect (eqb (carry_bytes_code b s) 0) (said s)
  one_alike second = by_second (bench_sound b)
  one_alike (run kit pupil room) = by_lists (eqb (run_code b kit pupil room) 0) kit (own_numbers pupil) pupil
  one_alike (typed kit text room) = by_lists (eqb (typed_found b kit text room).told.code 0) kit (line_numbers text) (bytes_in text)

pub same_answers : (b c : Bench) → SameState b c → AnswerAlike b c
same_answers b c same = rw (same_but_latest b c same) (alike c b.latest)

pub same_later : (b c : Bench) → SameState b c → (es : List Event) → SameState (after b es) (after c es)
same_later b c same [] = same
same_later b c same (e ∷ es) =
    same_later (after_one b e) (after_one c e) (rw (same_but_latest b c same) (one_alike c b.latest e)) es
