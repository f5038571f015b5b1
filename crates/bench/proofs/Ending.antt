-- The end of a run, from what the code finds: the numbers of the latest run are read from the room that the pupil's records were put into; and what
-- asking for the housekeeping answers.
use Prim.Native.Nat.{ℕ, ◌*◌, ◌≤◌}
use mathlib.Core.Path.{◌≡◌, refl, ap, ap₂, ◌∙◌}
use mathlib.Core.List.{List, [], ◌∷◌}
use mathlib.Core.Bool.{Bool, true, false, cond, not}
use native.Mathlib.Omega.{arith}
use lib.ListN.{length, drop}
use Rattle.words.specs.BigEndian.{written}
use Rattle.words.specs.Codes.{◌when◌, first_of}
use Rattle.words.proofs.Laws.{with_room}
use Rattle.report.specs.Record.{record_length}
use Rattle.report.specs.Latest.{latest_of}
use Rattle.report.proofs.LastRecords.{latest_on}
use Rattle.housekeeping.specs.declared.Housekeeping.{Housekeeping}
use Rattle.std.specs.Prelude.{Ok, Err}
use Rattle.store.specs.Pool.{free_in}
use Rattle.bench.specs.declared.Bench.{Bench}
use Rattle.bench.specs.declared.Works.{Works}
use Rattle.bench.specs.Status.{bench_sound, FreeTold, told_free, free_at, housekeeping_of, HousekeepingTold, housekeeping_at}
use Rattle.bench.specs.Run.{run_rests, noting, ended_as}
use Rattle.bench.specs.Steps.{bench_of, works_noting}
use Rattle.bench.proofs.Listing.{records_long}

-- A list with these numbers was carried out and left `works` and a pool, its records were put into a room with room for them, and what that says
-- was noted.
pub list_ended : (b : Bench) (numbers : List ℕ) (rs : List (List ℕ)) → length numbers ≡ length rs → (works noted : Works) (pool room left : List ℕ) (count : ℕ)
    → bench_of works pool ≡ (run_rests b 2 numbers rs).bench → left ≡ written (run_rests b 2 numbers rs).records room
    → length rs * record_length ≤ length room → count ≡ length rs → noted ≡ works_noting works (latest_of left count)
    → bench_of noted pool ≡ ended_as (run_rests b 2 numbers rs) (length rs)
list_ended b numbers rs even works noted pool room left count bench_is left_is fits count_is noted_is =
    let records = (run_rests b 2 numbers rs).records in
    let n = length rs in
    let long : length records ≡ record_length * n = records_long b 2 numbers rs even in
    let stands = left_is ∙ with_room records room (omega arith) in
    let says : latest_of left count ≡ latest_of records n =
    ap₂ latest_of stands count_is ∙ latest_on records (drop (length records) room) n (omega arith) in
    ap (λ (w : Works). bench_of w pool) noted_is ∙ ap₂ noting bench_is says

-- Asking for the housekeeping: 27 where asking for the free entries gives it, else the latest run's numbers and what was found free.
module _ (b : Bench) where
  abbrev told : Bool → HousekeepingTold
  told sound = record { code = first_of (27 when not sound ∷ []); shown = cond sound (housekeeping_of b ∷ []) [] }

  abbrev free_told : Bool → FreeTold
  free_told sound = record { code = first_of (27 when not sound ∷ []); free = cond sound (free_in b.store) 0 }

  abbrev shows : ℕ → Housekeeping
  shows free = record { received = b.latest.received; failed = b.latest.failed; code = b.latest.code; free = free }

  pub housekeeping_unknown : told_free (Err (record {})) ≡ free_at b → record { code = 27; shown = [] } ≡ housekeeping_at b
  unfolding free_at housekeeping_at
  housekeeping_unknown free = go (bench_sound b) (ap (λ (t : FreeTold). t.code) free)
    where
      go : (sound : Bool) → 27 ≡ (free_told sound).code → record { code = 27; shown = [] } ≡ told sound
      go true e = absurd (omega arith)
      go false e = refl

  pub housekeeping_known : (n : ℕ) → told_free (Ok n) ≡ free_at b → record { code = 0; shown = shows n ∷ [] } ≡ housekeeping_at b
  unfolding free_at housekeeping_at
  housekeeping_known n free = go (bench_sound b) (ap (λ (t : FreeTold). t.code) free) (ap (λ (t : FreeTold). t.free) free)
    where
      go : (sound : Bool) → 0 ≡ (free_told sound).code → n ≡ (free_told sound).free → record { code = 0; shown = shows n ∷ [] } ≡ told sound
      go true e same = ap (λ m. record { code = 0; shown = shows m ∷ [] }) same
      go false e same = absurd (omega arith)
