-- How an evening is answered, and that a bench stays as sound as it was from one evening to the next: what `TwoEvenings` says of codes rests on it.
use Prim.Native.Nat.{ℕ, ◌≤◌}
use mathlib.Core.Path.{◌≡◌, refl, sym, ap, ◌∙◌, subst}
use mathlib.Core.Logic.{◌≢◌}
use mathlib.Core.List.{List, [], ◌∷◌}
use mathlib.Core.Bool.{Bool, true, false, not, true≢false}
use lib.ListN.{length}
use lib.Dec.{ltb}
use borrow.Author.Tests.{le-ltb, ne_eqb}
use Rattle.words.specs.Codes.{◌when◌, first_of}
use Rattle.text.specs.declared.findings.Finding.{Finding}
use Rattle.text.specs.Findings.{first_found}
use Rattle.text.specs.Assemble.{bytes_in, bad_line}
use Rattle.text.proofs.Found.{silent_found}
use Rattle.store.proofs.Sound.{Shaped}
use Rattle.report.specs.Record.{report_room}
use Rattle.bench.specs.declared.Bench.{Bench}
use Rattle.bench.specs.Status.{bench_sound}
use Rattle.bench.specs.Run.{run_code, run_of}
use Rattle.bench.specs.Typed.{typed_findings, typed_found, typed_of}
use Rattle.bench.specs.Events.{run, typed}
use Rattle.bench.specs.Evenings.{evening, typed_evening}
use Rattle.bench.proofs.Sound.{GoodBench, event_keeps}
use Rattle.bench.proofs.Report as raw
use Rattle.bench.proofs.TypedReport as typed_runs

-- The code of a raw list that is not too long hangs on the room's length and on whether the bench is sound alone.
abbrev pub room_code : Bool → ℕ → ℕ
room_code sound size = first_of (21 when ltb size report_room ∷ 27 when not sound ∷ [])

pub short_code : (b : Bench) (s room : List ℕ) → length s ≤ 4096 → (evening b s room).code ≡ room_code (bench_sound b) (length room)
unfolding run_of run_code
short_code b s room short = rw (le-ltb 4096 (length s) short)

pub raw_accepted : (b : Bench) → bench_sound b ≡ true → (s room : List ℕ) → length s ≤ 4096 → report_room ≤ length room → (evening b s room).code ≡ 0
raw_accepted b sound s room short enough = short_code b s room short ∙ rw (sound, le-ltb (length room) report_room enough)

-- A typed list behind an empty kit list is taken where nothing is wrong with the text, its list, the room and the bench.
pub typed_taken : (b : Bench) (text room : List ℕ) → length text ≤ 32768 → (bad_line text).told.code ≡ 0 → length (bytes_in text) ≤ 4096
    → report_room ≤ length room → bench_sound b ≡ true → (typed_evening b text room).code ≡ 0
unfolding typed_of typed_found
typed_taken b text room text_short good list_short enough sound =
    ap (λ (f : Finding). f.told.code)
    (silent_found (typed_findings b [] text room) (
      rw (le-ltb 32768 (length text) text_short),
      (good, (rw (le-ltb 4096 (length (bytes_in text)) list_short), (rw (le-ltb (length room) report_room enough), (rw sound, tt)))),
    ))

-- One with a bad line, where the text is not too long, is answered with that line.
pub bad_found : (b : Bench) (text room : List ℕ) → length text ≤ 32768 → (bad_line text).told.code ≢ 0 → (typed_of b [] text room).found ≡ bad_line text
unfolding typed_of typed_found first_found
bad_found b text room short bad = rw (le-ltb 32768 (length text) short, ne_eqb (bad_line text).told.code 0 bad)

-- A bench is as sound after an evening as before, and the arrays of its store have their lengths.
pub record Stays (b after : Bench) : Type 0 where
  pub sound : bench_sound after ≡ bench_sound b
  pub shaped : Shaped after.store

by_soundness : (b after : Bench) → Shaped b.store → (GoodBench b → GoodBench after) → (bench_sound b ≡ false → after ≡ b) → Stays b after
by_soundness b after shaped keeps leaves = go (bench_sound b) refl
  where
    go : (sound : Bool) → bench_sound b ≡ sound → Stays b after
    go true is =
        let kept = keeps (record { sound = is; shaped = shaped }) in
        record { sound = kept.sound ∙ sym is; shaped = kept.shaped }
    go false is = record { sound = ap bench_sound (leaves is); shaped = subst (λ (c : Bench). Shaped c.store) (sym (leaves is)) shaped }

pub evening_stays : (b : Bench) → Shaped b.store → (s room : List ℕ) → Stays b (evening b s room).bench
evening_stays b shaped s room =
    by_soundness b (evening b s room).bench shaped (λ good. event_keeps b good (run [] s room))
    (λ unsound. (raw.refused_leaves b [] s room (λ done. true≢false (sym (raw.passed b [] s room done).sound ∙ unsound))).bench)

pub typed_stays : (b : Bench) → Shaped b.store → (text room : List ℕ) → Stays b (typed_evening b text room).bench
typed_stays b shaped text room =
    by_soundness b (typed_evening b text room).bench shaped (λ good. event_keeps b good (typed [] text room))
    (λ unsound. (typed_runs.refused_leaves b [] text room (λ done. true≢false (sym (typed_runs.passed b [] text room done).sound ∙ unsound))).bench)
