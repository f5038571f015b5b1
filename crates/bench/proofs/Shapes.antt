-- A bench of a program has the shape that its type says, whole or at work. So where it is judged sound it is a good bench, and its own tally is true of
-- it.
use Prim.Native.Nat.{ℕ}
use mathlib.Core.Path.{◌≡◌, refl, sym, ap, ◌∙◌, subst}
use mathlib.Core.List.{List, [], ◌∷◌}
use mathlib.Core.Bool.{true}
use borrow.Author.Rules.{rules}
use denote.Laws.{Is}
use denote.Struct.Declared.{row}
use denote.Struct.Laws.{val}
use Rattle.std.specs.Prelude.{Result}
use Rattle.wire.specs.declared.kinds.Command.{Command}
use Rattle.store.specs.declared.tally.Tally.{Tally}
use Rattle.store.specs.TallySteps.{tally_of, Tallied}
use Rattle.store.proofs.Sound.{Shaped}
use Rattle.store.proofs.Tallies.{tallied_own}
use Rattle.bench.specs.declared.Bench.{Bench}
use Rattle.bench.specs.declared.Works.{Works}
use Rattle.bench.specs.declared.Rejection.{Rejection}
use Rattle.bench.specs.Status.{bench_sound}
use Rattle.bench.specs.Carry.{carry_out, carry_out_bytes}
use Rattle.bench.specs.Steps.{works_of, bench_of, AtWork, decision_of, decided_by, decided_in, carried_by}
use Rattle.bench.proofs.Sound.{GoodBench}
use Rattle.bench.proofs.ByTally.{carried_by_lem, carried_bytes_by}
use Rattle.bench.specs.contracts.Bench.{the_type}
use Rattle.bench.proofs.Bench.TheLaws.{the_laws}
use Rattle.bench.specs.contracts.Works as works
use Rattle.bench.proofs.Works.TheLaws as works_laws

-- What a function knows of a parameter that is a bench, or one at work (its `good`).
abbrev pub Typed : Bench → Type 0
Typed b = Is (row the_type) b (val the_type the_laws b ∷ [])

abbrev pub TypedWorks : Works → Type 0
TypedWorks w = Is (row works.the_type) w (val works.the_type works_laws.the_laws w ∷ [])

-- The store has 576 words, eight counts and eight marks.
pub shaped : (b : Bench) → Typed b → Shaped b.store
shaped b typed = record { pool = search rules; counts = search rules; marks = search rules }

-- So a bench that is at work is a good one.
pub at_work_good : (w : Works) (pool : List ℕ) → TypedWorks w → AtWork w pool → GoodBench (bench_of w pool)
at_work_good w pool typed h =
    record { sound = h.sound; shaped = record { pool = h.whole; counts = search rules; marks = search rules } }

-- So is one that was judged sound, and its own tally is true of it.
module _ (b : Bench) (typed : Typed b) (sound : true ≡ bench_sound b) where
  pub judged_good : GoodBench b
  judged_good = record { sound = sym sound; shaped = shaped b typed }

  pub own_tallied : Tallied b.store (tally_of b.store)
  own_tallied = tallied_own b.store (shaped b typed)

  -- What is at work of the bench, with that tally, is that bench on its pool.
  module _ (works : Works) (own : works ≡ works_of b) (tally : Tally) (is : tally ≡ tally_of b.store) where
    abbrev judged : Works
    judged = record { camera = works.camera; tally = tally; latest = works.latest }

    pub judged_bench : bench_of judged b.store.pool ≡ b
    judged_bench = rw (own, is) refl

    pub judged_at_work : AtWork judged b.store.pool
    judged_at_work =
        record {
          whole = (shaped b typed).pool;
          sound = ap bench_sound judged_bench ∙ sym sound;
          tallied = rw is own_tallied;
        }

  -- What was decided by it, carried out, is what carrying out promises.
  module _ (tally : Tally) (is : tally ≡ tally_of b.store) (decision : Result Command Rejection) where
    pub decided_out : (c : Command) → decision_of decision ≡ decided_by b.camera.power tally c → carried_by b tally (decision_of decision) ≡ carry_out b c
    decided_out c decided =
        ap (carried_by b tally) decided ∙ carried_by_lem b tally judged_good (subst (Tallied b.store) (sym is) own_tallied) c

    pub decided_bytes_out : (s : List ℕ) → decision_of decision ≡ decided_in b.camera.power tally s
        → carried_by b tally (decision_of decision) ≡ carry_out_bytes b s
    decided_bytes_out s decided =
        ap (carried_by b tally) decided ∙ carried_bytes_by b tally judged_good (subst (Tallied b.store) (sym is) own_tallied) s
